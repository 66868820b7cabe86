use Rattle.std.proofs.Common.{◌<◌, List, Option, None, length, slice_index_or, sym, ◌∙◌, ap, subst}
use Rattle.std.specs.Option.{unwrap_or}
use Rattle.class_machine.specs.Effect.{GetStatic}
use Rattle.machine_values.specs.declared.values.Value.{Value}
use Rattle.machine_requests.specs.declared.reply.Reply.{Reply}
use Rattle.machine_requests.specs.Statics.{is_of, read_reply, IsField, IsInitial}
use Rattle.machine_requests.specs.Replies.{IsAnswerWhere}
use Rattle.machine_requests.proofs.StaticLaws.{static_read}
use Rattle.machine_requests.proofs.statics.get_static.Goals as goal

pub returns : goal.returns
returns c things others r same settled =
    let n = c.args.field.0 in
    let e = c.args.element in
    let initial = c.args.initial in
    subst (λ (reply : Reply). IsAnswerWhere (λ s. IsField r n e s × IsInitial things n initial s) things others (λ s names. GetStatic r) things others reply)
    (ap (λ (os : List (Option Value)). read_reply (is_of e (unwrap_or (slice_index_or os n None) initial)) (unwrap_or (slice_index_or os n None) initial)) same
    ∙ ap (λ (v : Value). read_reply (is_of e v) v) (sym c.value_in.ensures) ∙ sym c.read.ensures)
    (static_read things others r n e initial (subst (λ (os : List (Option Value)). n < length os) (sym same) c.requires) settled)
