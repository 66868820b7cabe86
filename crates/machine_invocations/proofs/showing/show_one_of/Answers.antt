use Rattle.std.proofs.Common.{◌∙◌, ap}
use Rattle.std.specs.Prelude.{Some}
use Rattle.machine_values.specs.declared.names.Maker.{Maker}
use Rattle.machine_values.specs.declared.names.Name.TheVariants.{Made}
use Rattle.machine_invocations.proofs.Shown.{shows_array}
use Rattle.machine_invocations.proofs.showing.show_one_of.Goals as goal

pub returns-in_ok-class-in-Array : goal.returns-in_ok-class-in-Array
returns-in_ok-class-in-Array c =
    shows_array c.args.world.now c.args.heap.now c.args.at _ c.in_ok-class-in-Array.class c.args.number (c.requires.made ∙ ap (λ (m : Maker). Some (Made m c.args.number)) c.in-Array.is) c.in_ok-class-in-Array.ensures

pub show_made-requires-clause-made : goal.show_made-requires-clause-made
show_made-requires-clause-made c = c.requires.made ∙ ap (λ (m : Maker). Some (Made m c.args.number)) c.in-Class.is
