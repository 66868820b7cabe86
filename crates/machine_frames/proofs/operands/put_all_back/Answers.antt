use Rattle.std.proofs.Common.{◌∙◌, arith}
use Rattle.machine_frames.proofs.Undone.{put_next, put_last}
use Rattle.machine_frames.proofs.operands.put_all_back.Goals as goal

pub loop-held-preserved : goal.loop-held-preserved
loop-held-preserved c = record {
  room = c.push-there_was_room.ensures.room ∙ c.loop-held.invariant.room;
  left = λ s h. put_next s c.loop-held.operands c.push-there_was_room.new.self c.args.taken.now c.loop-held.held-index _ c.push-there_was_room.result c.loop-held-test.true (c.loop-held.invariant.left s h)
      c.push-there_was_room.ensures.room c.push-there_was_room.ensures.pushed;
}

pub returns-clause-put : goal.returns-clause-put
returns-clause-put c s h = put_last s c.loop-held.operands c.args.taken.now c.loop-held.held-index (omega arith) (c.loop-held.invariant.left s h)
