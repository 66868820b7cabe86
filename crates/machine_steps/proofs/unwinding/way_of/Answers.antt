use Rattle.std.proofs.Common.{◌-◌, sym, arith}
use Rattle.std.proofs.lemmas.Option.{slice_get_read}
use Rattle.machine_steps.proofs.Downward.{behind, passed_more}
use Rattle.machine_steps.proofs.unwinding.way_of.Goals as goal

pub returns-in-Some : goal.returns-in-Some
returns-in-Some c =
    let frames = c.args.state.now.frames in
    record {
      frame = c.index-frame.result.now;
      there = slice_get_read frames.items frames.len (c.down.left - 1) c.index-frame.result.now frames.ok.0 (omega (arith, frames.ok.0)) c.index-frame.ensures;
      handler = c.in-Some.ensures;
      passed = behind c.args.world.now c.args.class.0 frames.items c.down.left (omega arith) c.down.invariant.passed;
    }

pub returns-in-Some-initialised : goal.returns-in-Some-initialised
returns-in-Some-initialised c =
    let frames = c.args.state.now.frames in
    record {
      index = c.down.left - 1;
      frame = c.index-frame.result.now;
      there = slice_get_read frames.items frames.len (c.down.left - 1) c.index-frame.result.now frames.ok.0 (omega (arith, frames.ok.0)) c.index-frame.ensures;
      handler = c.in_default.ensures;
      initialises = sym c.in-Some-initialised.ensures;
      passed = behind c.args.world.now c.args.class.0 frames.items c.down.left (omega arith) c.down.invariant.passed;
    }

pub down-preserved : goal.down-preserved
down-preserved c =
    let frames = c.args.state.now.frames in
    record {
      few = omega arith;
      passed = passed_more c.args.world.now c.args.class.0 frames.items c.down.left c.index-frame.result.now (omega arith)
          (slice_get_read frames.items frames.len (c.down.left - 1) c.index-frame.result.now frames.ok.0 (omega (arith, frames.ok.0)) c.index-frame.ensures)
          (record { handler = c.in_default.ensures; onward = sym c.in_default-initialised.ensures }) c.down.invariant.passed;
    }
