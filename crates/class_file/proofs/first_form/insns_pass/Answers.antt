use Rattle.std.proofs.Common.{length}
use Rattle.class_file.specs.FirstForm.{insns_pass, is_form_insn, names_in}
use Rattle.class_file.proofs.Insns.{goes_on, fails}
use Rattle.class_file.proofs.first_form.insns_pass.Goals as goal

pub returns-in-None : goal.returns-in-None
returns-in-None c =
    let t = is_form_insn c.args.pool.now c.args.own.now (names_in c.args.pool.now c.args.methods.now) in
    fails t c.args.code.now (length c.args.code.now) c.loop.counter c.loop.pc (insns_pass t c.args.code.now (length c.args.code.now) 0) c.loop-test.true c.if-pc-code.false c.in-None.ensures.steps c.loop.invariant.0

pub loop-preserved : goal.loop-preserved
loop-preserved c =
    let t = is_form_insn c.args.pool.now c.args.own.now (names_in c.args.pool.now c.args.methods.now) in
    (goes_on t c.args.code.now (length c.args.code.now) c.loop.counter c.loop.pc c.in-Some.place (insns_pass t c.args.code.now (length c.args.code.now) 0) c.loop-test.true c.if-pc-code.false c.in-Some.ensures.steps c.loop.invariant.0, c.in-Some.ensures.within)
