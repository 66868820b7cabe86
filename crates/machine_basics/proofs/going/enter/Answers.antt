use Rattle.std.specs.Prelude.{◌≡◌, ◌<◌, ◌+◌, ◌-◌, ◌∷◌, take, length, slice_set, refl}
use Rattle.std.proofs.Common.{rules, arith, ap, ◌∙◌}
use Rattle.std.proofs.lemmas.Bool.{MatchBool-at_true, MatchBool-at_false, le-leb}
use Rattle.std.proofs.lemmas.Option.{slice_get_read}
use Rattle.std.specs.Vec.{with_item}
use Rattle.machine_values.specs.declared.frames.Frame.{Frame}
use Rattle.machine_values.specs.declared.values.Value.TheVariants.{ReturnAddress}
use Rattle.machine_values.specs.declared.state.MachineState.{MachineState}
use Rattle.machine_values.specs.Stacks.{Pushes, Overflows, weight}
use Rattle.machine_steps.specs.Giving.{with_values, rest_is}
use Rattle.machine_steps.specs.Running.{split_last, turned_at}
use Rattle.machine_basics.proofs.Onward.{no_code_enters, enters_there, no_room_enters}
use Rattle.machine_basics.proofs.going.enter.Goals as goal

pub returns-in_default-clause-moves : goal.returns-in_default-clause-moves
returns-in_default-clause-moves c = no_code_enters c.args.world.now c.args.state.now c.args.state.now c.in_default.ensures.code c.args.number

pub returns-clause-moves : goal.returns-clause-moves
returns-clause-moves c =
    let old = c.args.state.now in
    let g = c.index_mut-frame.result.now in
    let top = c.len-top.result - 1 in
    let some : 0 < length old.frames.items = c.in-Some.ensures.frames in
    let there = slice_get_read old.frames.items c.len-top.result top g (omega (arith, old.frames.ok.0)) (omega arith) c.index_mut-frame.ensures.value in
    let split = split_last old.frames.items top g (omega (arith, old.frames.ok.0, some)) there in
    let p : Frame = record g { operands = c.push.new.self } in
    let pushes = MatchBool-at_true (Pushes g.operands (ReturnAddress c.next_place-next.result) c.push.new.self) (Overflows g.operands (ReturnAddress c.next_place-next.result) c.push.new.self) (search rules) c.push.ensures.pushed in
    let same : p ≡ with_values g (ReturnAddress c.next_place-next.result ∷ g.operands.values) = rest_is g p refl c.push.ensures.room ∙ ap (with_values g) pushes.pushed in
    let mid : MachineState = record old { frames = with_item old.frames top p } in
    enters_there c.args.world.now old (take top old.frames.items) g c.in-Some.code split c.in-Some.ensures.code c.args.number c.target-target.result c.next_place-next.result c.target-target.ensures c.next_place-next.ensures
    mid c.go_on.new.state c.go_on.result
    (turned_at old mid top g (with_values g (ReturnAddress c.next_place-next.result ∷ g.operands.values)) (omega (arith, old.frames.ok.0, some)) there refl (ap (λ (q : Frame). slice_set old.frames.items top q) same))
    (le-leb (1 + weight g.operands.values) g.operands.room pushes.fits)
    c.go_on.ensures.moves

pub returns-then-not-push-clause-moves : goal.returns-then-not-push-clause-moves
returns-then-not-push-clause-moves c =
    let old = c.args.state.now in
    let g = c.index_mut-frame.result.now in
    let top = c.len-top.result - 1 in
    let some : 0 < length old.frames.items = c.in-Some.ensures.frames in
    let there = slice_get_read old.frames.items c.len-top.result top g (omega (arith, old.frames.ok.0)) (omega arith) c.index_mut-frame.ensures.value in
    let split = split_last old.frames.items top g (omega (arith, old.frames.ok.0, some)) there in
    let p : Frame = record g { operands = c.push.new.self } in
    let over = MatchBool-at_false (Pushes g.operands (ReturnAddress c.next_place-next.result) c.push.new.self) (Overflows g.operands (ReturnAddress c.next_place-next.result) c.push.new.self) (search rules) c.push.ensures.pushed in
    no_room_enters c.args.world.now old (record old { frames = with_item old.frames top p }) c.args.number (take top old.frames.items) g split over.full
