use Rattle.machine_frames.proofs.Steps.{frame_stays, pushed_token}
use Rattle.machine_frames.proofs.Fresh.{announced}
use Rattle.machine_frames.proofs.tokens.announce.Goals as goal

pub returns-clause-announced : goal.returns-clause-announced
returns-clause-announced c = announced c.args.frame.now c.push.new.operands c.args.class c.in-Some.number c.push.result c.in-Some.ensures c.push.ensures.pushed

pub returns-clause-within : goal.returns-clause-within
returns-clause-within c = λ count h. frame_stays count c.args.frame.now _ (pushed_token _ _ _ _ c.push.ensures.within) h
