use Rattle.std.proofs.Common.{sym, ap, ◌∙◌, subst}
use Rattle.std.specs.Prelude.{Some, None}
use Rattle.std.specs.Option.{option_copied}
use Rattle.class_machine.specs.declared.kinds.Kind.{Kind}
use Rattle.class_machine.specs.Descriptors.{result_in}
use Rattle.machine_statics.specs.Returns.{TellsKind}
use Rattle.machine_statics.proofs.OnTop.{told_kind}
use Rattle.machine_statics.proofs.returning.result_kind.Goals as goal

pub returns-in_err-result : goal.returns-in_err-result
returns-in_err-result c =
    subst (TellsKind c.args.world.now c.args.method.0) (sym c.from_residual.ensures)
    (told_kind c.args.world.now c.args.method.0 c.requires c.declared.result.class.0 c.declared.result.head.now c.declared.result.method.now c.declared.ensures.seen None
    (sym (ap option_copied c.in_err-result.was) ∙ c.result_type.ensures ∙ ap result_in c.as_slice-descriptor.ensures))

pub returns : goal.returns
returns c =
    subst (λ (k : Kind). TellsKind c.args.world.now c.args.method.0 (Some k)) (sym c.kind_in.ensures)
    (told_kind c.args.world.now c.args.method.0 c.requires c.declared.result.class.0 c.declared.result.head.now c.declared.result.method.now c.declared.ensures.seen (Some c.in_ok-result.result.now)
    (sym (ap option_copied c.in_ok-result.was) ∙ c.result_type.ensures ∙ ap result_in c.as_slice-descriptor.ensures))
