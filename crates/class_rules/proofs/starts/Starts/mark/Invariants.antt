use Rattle.std.proofs.Common.{◌≡◌, ℕ, take, length}
use Rattle.std.specs.Prelude.{map}
use Rattle.class_file.specs.Code.{is_start}
use Rattle.class_rules.specs.Instructions.{as_placed}
use Rattle.class_rules.specs.Starts.{is_marked}
use Rattle.class_rules.proofs.starts.Starts.mark.Given as goal

abbrev pub invariant-loop-placed : goal.invariant-loop-placed
invariant-loop-placed l = record {
  long : length l.marks.items ≡ l.length;
  marked : (pc : ℕ) → is_marked l.marks.items pc ≡ is_start (map as_placed (take l.placed-index l.insns)) pc;
}
