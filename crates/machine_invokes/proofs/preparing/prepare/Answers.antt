use Rattle.machine_invokes.proofs.Started.{if_ok}
use Rattle.machine_invokes.proofs.Readied.{others_on}
use Rattle.machine_invokes.proofs.preparing.prepare.Goals as goal

pub returns-in_default : goal.returns-in_default
returns-in_default c = record {
  ready = if_ok c.prepare_on.result _ _ (λ prepared ready. ready c.args.mode (others_on c.args.mode c.is_special.result c.in_default.not-Static c.is_special.ensures)) c.prepare_on.ensures.ready;
  formed = c.prepare_on.ensures.formed;
  err = c.prepare_on.ensures.err;
}
