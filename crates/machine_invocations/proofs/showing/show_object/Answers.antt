use Rattle.std.proofs.Common.{◌∙◌, ap}
use Rattle.std.specs.Prelude.{Some}
use Rattle.machine_invocations.proofs.Shown.{shows_literal, shows_class}
use Rattle.machine_invocations.proofs.showing.show_object.Goals as goal

pub returns-in_ok-units-in-Literal : goal.returns-in_ok-units-in-Literal
returns-in_ok-units-in-Literal c =
    shows_literal c.args.world.now c.args.heap.now c.args.at _ c.in_ok-units-in-Literal.units (c.name.ensures ∙ ap Some c.in-Literal.is) (c.in_ok-units-in-Literal.ensures ∙ c.as_slice.ensures)

pub returns-in_ok-class-in-ClassObject : goal.returns-in_ok-class-in-ClassObject
returns-in_ok-class-in-ClassObject c =
    shows_class c.args.world.now c.args.heap.now c.args.at _ c.in_ok-class-in-ClassObject.class (c.name.ensures ∙ ap Some c.in-ClassObject.is) c.in_ok-class-in-ClassObject.ensures

pub show_one_of-requires-clause-made : goal.show_one_of-requires-clause-made
show_one_of-requires-clause-made c = c.name.ensures ∙ ap Some c.in-Made.is
