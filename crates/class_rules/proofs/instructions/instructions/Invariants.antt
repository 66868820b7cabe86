use Rattle.std.proofs.Common.{◌≡◌, ◌-◌, ◌≤◌, length}
use Rattle.std.specs.Prelude.{map}
use Rattle.std.specs.List.{All}
use Rattle.class_file.specs.Code.{instructions}
use Rattle.class_rules.specs.Instructions.{as_placed, StandsIn}
use Rattle.class_rules.specs.Turns.{instructions_at}
use Rattle.class_rules.proofs.Listing.{prefixed}
use Rattle.class_rules.proofs.instructions.instructions.Given as goal

abbrev pub invariant-loop-pc : goal.invariant-loop-pc
invariant-loop-pc l = record {
  listed : prefixed (map as_placed l.insns.items) (instructions_at l.code l.pc) ≡ instructions l.code;
  within : l.pc ≤ length l.code;
  stand : All (StandsIn l.code) l.insns.items;
}

abbrev pub decreases-loop-pc : goal.decreases-loop-pc
decreases-loop-pc l = length l.code - l.pc
