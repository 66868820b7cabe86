use Rattle.std.proofs.Common.{take}
use Rattle.std.specs.List.{AllZip}
use Rattle.code_layout.specs.Blocks.{Leads}
use Rattle.code_layout.proofs.ready.all_lead.Given as goal

abbrev pub invariant-loop-i : goal.invariant-loop-i
invariant-loop-i l = AllZip Leads (take l.i l.insns) (take l.i l.jumps)
