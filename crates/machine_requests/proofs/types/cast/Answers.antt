use Rattle.std.proofs.Common.{Option, Some, ◌∙◌, ap, subst}
use Rattle.class_machine.specs.Effect.{Cast}
use Rattle.machine_values.specs.declared.values.Ref.{Ref}
use Rattle.machine_requests.specs.declared.reply.Reply.{Reply}
use Rattle.machine_requests.specs.Objects.{IsBelow}
use Rattle.machine_requests.specs.Replies.{IsAnswerWhere, object}
use Rattle.machine_requests.proofs.Casts.{cast_reply, cast_answer}
use Rattle.machine_requests.proofs.types.cast.Goals as goal

pub returns-in-None : goal.returns-in-None
returns-in-None c things others class known = subst (λ (reply : Reply). IsAnswerWhere (IsBelow things c.args.object class c.args.below) things others (λ s names. Cast class (object s names c.args.object)) things others reply) (ap (λ (o : Option Ref). cast_reply o c.args.below) c.in-None.is) (cast_answer things others class c.args.object c.args.below known)

pub returns-then-below : goal.returns-then-below
returns-then-below c things others class known = subst (λ (reply : Reply). IsAnswerWhere (IsBelow things c.args.object class c.args.below) things others (λ s names. Cast class (object s names c.args.object)) things others reply) (ap (λ (o : Option Ref). cast_reply o c.args.below) c.in-Some.is ∙ ap (cast_reply (Some c.in-Some.at)) c.if-below.true) (cast_answer things others class c.args.object c.args.below known)

pub returns-else-below : goal.returns-else-below
returns-else-below c things others class known = subst (λ (reply : Reply). IsAnswerWhere (IsBelow things c.args.object class c.args.below) things others (λ s names. Cast class (object s names c.args.object)) things others reply) (ap (λ (o : Option Ref). cast_reply o c.args.below) c.in-Some.is ∙ ap (cast_reply (Some c.in-Some.at)) c.if-below.false) (cast_answer things others class c.args.object c.args.below known)
