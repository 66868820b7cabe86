use Rattle.std.proofs.Common.{◌≡◌, ◌++◌, take}
use Rattle.std.specs.List.{flat_map}
use Rattle.class_text.specs.Bytes.{case_bytes}
use Rattle.class_text.proofs.bytes.put_all_cases.Given as goal

abbrev pub invariant-loop-case : goal.invariant-loop-case
invariant-loop-case l = l.out.items ≡ l.fn.out.items ++ flat_map (case_bytes l.body l.pc) (take l.case-index l.cases)
