use Rattle.std.proofs.Common.{ℕ, sym, subst}
use Rattle.class_machine.specs.Effect.{LoadClass}
use Rattle.machine_values.specs.declared.values.Value.TheVariants.{Reference as Pointer}
use Rattle.machine_values.specs.Things.{Things}
use Rattle.machine_values.specs.Types.{type_name}
use Rattle.machine_requests.specs.declared.reply.Reply.TheVariants.{Gives}
use Rattle.machine_requests.specs.Replies.{IsAnswer}
use Rattle.machine_requests.specs.Objects.{StaysFilled}
use Rattle.machine_requests.proofs.Fills.{class_filled}
use Rattle.machine_requests.proofs.NewArrays.{class_given}
use Rattle.machine_requests.proofs.new_objects.class_object.Goals as goal

pub returns-clause-ok : goal.returns-clause-ok
returns-clause-ok c others =
    let things = c.args.heap.now in
    let type = c.args.class.now in
    subst (λ (p : ℕ × Things). IsAnswer things others (λ s names. LoadClass (type_name type)) p.1 others (Gives (Pointer (record { 0 = p.0 })))) (sym c.in_ok-at.ensures.ok)
    (class_given things others type c.requires)

pub returns-clause-filled : goal.returns-clause-filled
returns-clause-filled c s = subst (λ (p : ℕ × Things). StaysFilled c.args.heap.now p.1 s) (sym c.in_ok-at.ensures.ok) (class_filled c.args.heap.now c.args.class.now s)
