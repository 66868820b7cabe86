use Rattle.std.specs.Prelude.{Some, None, take, refl}
use Rattle.machine_objects.proofs.Taken.{split}
use Rattle.machine_objects.proofs.Followed.{tells_next}
use Rattle.machine_objects.proofs.going.next_place.Goals as goal

pub returns-in-Some-running_code : goal.returns-in-Some-running_code
returns-in-Some-running_code c =
    let old = c.args.state.now in
    let top = c.in-Some.top in
    let x = c.index.result.now in
    tells_next c.args.world.now old (take top old.frames.items) x (Some c.in-Some-running_code.code) c.next_place.result (split old top x c.in-Some.ensures.top c.index.ensures) c.in-Some-running_code.ensures.code c.next_place.ensures

pub returns-in-None : goal.returns-in-None
returns-in-None c =
    let old = c.args.state.now in
    let top = c.in-Some.top in
    let x = c.index.result.now in
    tells_next c.args.world.now old (take top old.frames.items) x None x.pc (split old top x c.in-Some.ensures.top c.index.ensures) c.in-None.ensures.code refl
