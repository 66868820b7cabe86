use Rattle.std.specs.Prelude.{refl}
use Rattle.std.proofs.Common.{subst}
use Rattle.class_file.specs.Lookup.{reference_seen}
use Rattle.machine_invokes.specs.Choosing.{LacksRoom}
use Rattle.machine_invokes.specs.declared.choosing.Choice.TheVariants.{Breaks, Runs}
use Rattle.machine_invokes.proofs.Searched.{missing_null, found_null}
use Rattle.machine_invokes.proofs.choosing.choose_null.Goals as goal

pub returns-in_default : goal.returns-in_default
returns-in_default c = missing_null c.args.world.now (reference_seen c.args.named) c.args.frame.now c.in_default.ensures.found

pub returns-then-lacks_room : goal.returns-then-lacks_room
returns-then-lacks_room c =
    let k = c.args.world.now in
    found_null k (reference_seen c.args.named) c.args.frame.now c.in-Some.found.0 _ Breaks c.in-Some.ensures.found (subst (LacksRoom k c.args.frame.now c.in-Some.found.0) c.if-lacks_room.true c.lacks_room.ensures) (λ fields methods names w. refl)

pub returns : goal.returns
returns c =
    let k = c.args.world.now in
    found_null k (reference_seen c.args.named) c.args.frame.now c.in-Some.found.0 _ (Runs c.in-Some.found) c.in-Some.ensures.found (subst (LacksRoom k c.args.frame.now c.in-Some.found.0) c.if-lacks_room.false c.lacks_room.ensures) (λ fields methods names w. refl)
