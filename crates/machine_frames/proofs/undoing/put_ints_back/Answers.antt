use Rattle.std.proofs.Common.{◌∙◌, pos, rules}
use Rattle.machine_frames.proofs.Undone.{int_next, int_last}
use Rattle.machine_frames.proofs.undoing.put_ints_back.Goals as goal

pub loop-size-preserved : goal.loop-size-preserved
loop-size-preserved c = record {
  room = c.push-there_was_room.ensures.room ∙ c.loop-size.invariant.room;
  left = λ s h. int_next s c.loop-size.operands c.push-there_was_room.new.self c.args.taken.now c.loop-size.size-index (pos 0) _ c.push-there_was_room.result c.loop-size-test.true (c.loop-size.invariant.left s h)
      c.push-there_was_room.ensures.room c.push-there_was_room.ensures.pushed (search rules);
}

pub returns : goal.returns
returns c s h = int_last s c.loop-size.operands c.args.taken.now c.loop-size.size-index c.loop-size-test.false (c.loop-size.invariant.left s h)
