use Rattle.std.proofs.Common.{◌≡◌, ◌<◌, ◌≤◌, ◌+◌, ◌-◌, length, arith}
use Rattle.before_weave.proofs.Walks.{walk_begins, walk_goes_on, walk_ends, walk_spells}
use Rattle.before_weave.proofs.code.weave_code.Goals as goal

pub loop-pc-init : goal.loop-pc-init
loop-pc-init c = walk_begins c.args.marks.now c.args.index c.args.code.now _ c.requires.straight c.in_ok-with_capacity.ensures.items

pub put_insn-requires : goal.put_insn-requires
put_insn-requires c =
    let lt : c.loop-pc.pc < length c.args.code.now = omega arith in
    let n : c.loop-pc.pc + c.insn_at-insn.result.1 - c.loop-pc.pc ≡ c.insn_at-insn.result.1 = omega arith in
    walk_spells c.args.marks.now c.args.index c.args.code.now c.loop-pc.pc c.loop-pc.woven.bytes.items c.loop-pc.woven.advised c.insn_at-insn.result _ c.loop-pc.invariant lt c.insn_at-insn.ensures.exact c.insn_at-insn.ensures.stands n

pub loop-pc-preserved : goal.loop-pc-preserved
loop-pc-preserved c =
    let lt : c.loop-pc.pc < length c.args.code.now = omega arith in
    walk_goes_on c.args.marks.now c.args.index c.args.code.now c.loop-pc.pc c.loop-pc.woven.bytes.items _ c.loop-pc.woven.advised _ c.insn_at-insn.result c.loop-pc.invariant lt c.insn_at-insn.ensures.exact c.insn_at-insn.ensures.stands c.in_ok-put_insn.ensures.bytes c.in_ok-put_insn.ensures.advised

pub returns : goal.returns
returns c =
    let le : length c.args.code.now ≤ c.loop-pc.pc = omega arith in
    walk_ends c.args.marks.now c.args.index c.args.code.now c.loop-pc.pc c.loop-pc.woven.bytes.items c.loop-pc.woven.advised c.loop-pc.invariant le
