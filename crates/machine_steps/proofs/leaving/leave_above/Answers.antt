use Rattle.std.proofs.Common.{refl, arith}
use Rattle.machine_steps.proofs.Dropping.{none_dropped, one_dropped}
use Rattle.machine_steps.proofs.leaving.leave_above.Goals as goal

pub leaving-init : goal.leaving-init
leaving-init c = record { drops = none_dropped c.args.state.now; most = c.requires }

pub leaving-preserved-in-Some : goal.leaving-preserved-in-Some
leaving-preserved-in-Some c = record {
  drops = one_dropped c.args.state.now c.leaving.state _ c.in-Some.frame c.leaving.invariant.drops c.in-Some.ensures.items refl c.leave.ensures;
  most = omega (arith, c.in-Some.ensures.cases, c.leaving.state.frames.ok.0, c.pop.new.self.ok.0, c.leaving-test.true);
}

pub leaving-preserved : goal.leaving-preserved
leaving-preserved c = record {
  drops = one_dropped c.args.state.now c.leaving.state _ c.in-Some.frame c.leaving.invariant.drops c.in-Some.ensures.items refl c.leave.ensures;
  most = omega (arith, c.in-Some.ensures.cases, c.leaving.state.frames.ok.0, c.pop.new.self.ok.0, c.leaving-test.true);
}
