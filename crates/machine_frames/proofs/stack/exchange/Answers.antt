use Rattle.machine_frames.proofs.Steps.{half_exchanged, exchanged}
use Rattle.machine_frames.proofs.stack.exchange.Goals as goal

pub returns-then-not-push-clause-within : goal.returns-then-not-push-clause-within
returns-then-not-push-clause-within c = half_exchanged _ _ _ _ _ c.pop_narrow.ensures.within c.in-Some.ensures.known c.pop_narrow-2.ensures.within c.push.ensures.within

pub returns-clause-within : goal.returns-clause-within
returns-clause-within c = exchanged _ _ _ _ _ _ _ c.pop_narrow.ensures.within c.in-Some.ensures.known c.pop_narrow-2.ensures.within c.in-Some-pop_narrow.ensures.known c.push.ensures.within c.push_on.ensures.within
