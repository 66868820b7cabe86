use Rattle.machine_frames.proofs.Steps.{duplicated, duplicated_under, duplicated_twice}
use Rattle.machine_frames.proofs.stack.duplicate.Goals as goal

pub returns-then-not-put-clause-within : goal.returns-then-not-put-clause-within
returns-then-not-put-clause-within c = duplicated _ _ _ _ _ c.pop_slots.ensures.within c.in-Some.ensures.known c.pop_slots-2.ensures.within c.put.ensures.within

pub returns-then-not-put-2-clause-within : goal.returns-then-not-put-2-clause-within
returns-then-not-put-2-clause-within c = duplicated_under _ _ _ _ _ _ _ c.pop_slots.ensures.within c.in-Some.ensures.known c.pop_slots-2.ensures.within c.in-Some-pop_slots.ensures.known c.put.ensures.within c.put-2.ensures.within

pub returns-then-put-clause-within : goal.returns-then-put-clause-within
returns-then-put-clause-within c = duplicated_twice _ _ _ _ _ _ _ _ c.pop_slots.ensures.within c.in-Some.ensures.known c.pop_slots-2.ensures.within c.in-Some-pop_slots.ensures.known c.put.ensures.within c.put-2.ensures.within c.put-3.ensures.within

pub returns-else-put-clause-within : goal.returns-else-put-clause-within
returns-else-put-clause-within c = duplicated_twice _ _ _ _ _ _ _ _ c.pop_slots.ensures.within c.in-Some.ensures.known c.pop_slots-2.ensures.within c.in-Some-pop_slots.ensures.known c.put.ensures.within c.put-2.ensures.within c.put-3.ensures.within
