use Rattle.std.proofs.Common.{◌≡◌, is_some, IfSome, sym, ap, ◌∙◌, subst, refl}
use Rattle.std.specs.Prelude.{Option}
use Rattle.aj_names.specs.declared.types.FieldType.{FieldType}
use Rattle.machine_values.specs.declared.state.MachineState.{MachineState}
use Rattle.machine_values.specs.Types.{type_name}
use Rattle.machine_arrays.proofs.Asked.{given}
use Rattle.machine_arrays.proofs.stepping.new_arrays.Goals as goal

pub returns-clause-moves : goal.returns-clause-moves
returns-clause-moves c =
    let old : MachineState = c.args.state.now in
    let mid : MachineState = record old { heap = c.make_arrays.new.heap } in
    given c.args.world.now old mid c.take_back.new.state c.take_back.result c.in-Some.class c.args.named.now c.args.sizes.now c.in_ok-array.array c.requires.runnable
    (sym c.in_ok-class.ensures.known ∙ ap is_some c.in-Some.is) (sym c.has_negative.ensures ∙ c.if-has_negative.false)
    (subst (λ (o : Option FieldType). IfSome o (λ class. type_name class ≡ c.args.named.now)) c.in-Some.is c.in_ok-class.ensures.named)
    refl c.make_arrays.ensures.names c.in_ok-array.ensures.made c.in_ok-array.ensures.filled c.take_back.ensures.taken
