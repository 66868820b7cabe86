use Rattle.std.specs.Prelude.{◌≡◌, ◌∷◌, ◌++◌, [], length, reverse, slice_get, Some, refl}
use Rattle.std.proofs.Common.{ap, subst, arith}
use Rattle.std.proofs.lemmas.Option.{slice_get_read}
use Rattle.machine_values.specs.declared.state.MachineState.{MachineState}
use Rattle.machine_frames.specs.Undoing.{receiver_value}
use Rattle.machine_invokes.specs.Choosing.{LacksRoom}
use Rattle.machine_invokes.specs.Taking.{PutsBack}
use Rattle.machine_invokes.proofs.Filling.{still_last, tells_room}
use Rattle.machine_invokes.proofs.preparing.build.Goals as goal

pub put_receiver_back-requires : goal.put_receiver_back-requires
put_receiver_back-requires c =
    let same = ap (λ (s : MachineState). length s.frames.items) c.in-Err.ensures.err in
    omega (arith, same, c.requires.top)

pub returns-in-Err-clause-err : goal.returns-in-Err-clause-err
returns-in-Err-clause-err c =
    subst (λ (s : MachineState). PutsBack c.args.top (reverse c.args.call.arguments.items ++ receiver_value c.args.call.receiver ∷ []) s c.put_receiver_back.new.state) c.in-Err.ensures.err c.put_receiver_back.ensures

pub index-requires : goal.index-requires
index-requires c =
    let last = still_last c.args.state.now c.fill_token.new.state c.args.number c.in-Ok.filled.at c.in-Ok.filled.operands c.in-Ok.filled.locals c.args.top c.requires.top c.in-Ok.ensures.filled in
    omega (arith, last)

pub returns-then-lacks_room-clause-built : goal.returns-then-lacks_room-clause-built
returns-then-lacks_room-clause-built c =
    let k = c.args.world.now in
    let new = c.fill_token.new.state in
    let f = c.index.result.now in
    let last = still_last c.args.state.now new c.args.number c.in-Ok.filled.at c.in-Ok.filled.operands c.in-Ok.filled.locals c.args.top c.requires.top c.in-Ok.ensures.filled in
    let there : slice_get new.frames.items c.args.top ≡ Some f = slice_get_read new.frames.items (length new.frames.items) c.args.top f refl (omega (arith, last)) c.index.ensures in
    record {
      ended = refl;
      at = c.in-Ok.filled.at;
      operands = c.in-Ok.filled.operands;
      locals = c.in-Ok.filled.locals;
      fills = c.in-Ok.ensures.filled;
      made = c.in-Ok.ensures.made;
      room = tells_room k new c.args.top f c.args.method.0 _ last there (subst (LacksRoom k f c.args.method.0) c.if-lacks_room.true c.lacks_room.ensures);
    }

pub returns-else-lacks_room-clause-built : goal.returns-else-lacks_room-clause-built
returns-else-lacks_room-clause-built c =
    let k = c.args.world.now in
    let new = c.fill_token.new.state in
    let f = c.index.result.now in
    let last = still_last c.args.state.now new c.args.number c.in-Ok.filled.at c.in-Ok.filled.operands c.in-Ok.filled.locals c.args.top c.requires.top c.in-Ok.ensures.filled in
    let there : slice_get new.frames.items c.args.top ≡ Some f = slice_get_read new.frames.items (length new.frames.items) c.args.top f refl (omega (arith, last)) c.index.ensures in
    record {
      at = c.in-Ok.filled.at;
      operands = c.in-Ok.filled.operands;
      locals = c.in-Ok.filled.locals;
      fills = c.in-Ok.ensures.filled;
      made = c.in-Ok.ensures.made;
      room = tells_room k new c.args.top f c.args.method.0 _ last there (subst (LacksRoom k f c.args.method.0) c.if-lacks_room.false c.lacks_room.ensures);
      method_is = refl;
      receiver_is = refl;
      arguments_are = refl;
      purpose_is = refl;
      before_is = refl;
    }
