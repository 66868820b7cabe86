use Rattle.std.proofs.Common.{◌≡◌, ◌-◌, ◌%◌, ◌++◌, replicate, arith, sym, append-nil}
use Rattle.code_layout.proofs.Putting.{zeros_more, head_is}
use Rattle.code_layout.proofs.laid_bytes.put_head.Goals as goal

pub loop-i-init : goal.loop-i-init
loop-i-init c = sym (append-nil c.push.new.self.items)

pub loop-i-preserved : goal.loop-i-preserved
loop-i-preserved c = zeros_more c.push.new.self.items c.loop-i.out.items _ c.loop-i._i c.loop-i.invariant c.in_ok-push-2.ensures.items

pub returns : goal.returns
returns c =
    let count : c.loop-i._i ≡ 3 - c.args.pc % 4 = omega arith in
    head_is c.args.out.now.items c.push.new.self.items c.loop-i.out.items c.args.op c.args.pc c.loop-i._i c.in_ok-push.ensures.items c.loop-i.invariant count
