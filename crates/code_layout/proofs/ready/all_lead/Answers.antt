use Rattle.std.proofs.Common.{arith, refl}
use Rattle.code_layout.specs.Blocks.{Leads}
use Rattle.code_layout.proofs.Testing.{pairs_more, pairs_at, pairs_whole, pairs_count}
use Rattle.code_layout.proofs.ready.all_lead.Goals as goal

pub returns-then-insns-jumps : goal.returns-then-insns-jumps
returns-then-insns-jumps c = λ all. c.if-insns-jumps.true (pairs_count Leads c.args.insns.now c.args.jumps.now all)

pub returns-then-not-leads : goal.returns-then-not-leads
returns-then-not-leads c = λ all. c.if-not-leads.ensures (pairs_at Leads c.args.insns.now c.args.jumps.now c.loop-i.i _ _ c.index-jumps-i.result _ (omega arith) refl (omega arith) c.index-jumps-i.is all)

pub loop-i-preserved : goal.loop-i-preserved
loop-i-preserved c = pairs_more Leads c.args.insns.now c.args.jumps.now c.loop-i.i _ _ c.index-jumps-i.result _ (omega arith) refl (omega arith) c.index-jumps-i.is c.loop-i.invariant c.if-not-leads.ensures

pub returns : goal.returns
returns c = pairs_whole Leads c.args.insns.now c.args.jumps.now c.loop-i.i (omega arith) (omega arith) c.loop-i.invariant
