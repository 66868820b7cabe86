use Rattle.std.proofs.Common.{◌≡◌, sym, ◌∙◌, ap}
use Rattle.class_heads.specs.Hierarchy.{place_of}
use Rattle.class_heads.specs.PlaceLaws.{place-named}
use Rattle.machine_steps.proofs.InLibrary.{fault_there}
use Rattle.machine_steps.proofs.faults.fault_class.Goals as goal

pub unreachable-requires : goal.unreachable-requires
unreachable-requires c =
    fault_there c.args.world.now c.args.fault c.requires (ap (place_of c.args.world.now.heads) (sym c.fault_name.ensures) ∙ sym c.in_default.ensures.place)

pub returns-clause-named : goal.returns-clause-named
returns-clause-named c =
    let heads = c.args.world.now.heads in
    place-named heads c.fault_name.result.now c.in-Some.class.0 (sym c.in-Some.ensures.place) ∙ c.fault_name.ensures
