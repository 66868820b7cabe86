-- The entries of a pool are read in turn.
use Rattle.std.proofs.Common.{◌≡◌, ℕ, zero, suc, ◌-◌, ◌<◌, false, List, [], refl, arith}
use Rattle.class_format.specs.declared.scope.Scope.{Scope}
use Rattle.class_format.specs.Readers.{in_turn}
use Rattle.class_format.specs.PoolReading.{entry_of, after, entries}
use Rattle.class_format.proofs.Loop.{IsLeft, turns_begin}

are_in_turn : (count : ℕ) (scope : Scope) (bytes : List ℕ) → 0 < count → in_turn (entry_of count) after (1, false) (count - 1) scope bytes ≡ entries count scope bytes
unfolding entries
are_in_turn zero scope bytes lt = absurd (omega arith)
are_in_turn (suc n) scope bytes lt = let k : suc n - 1 ≡ n = omega arith in rw k refl

pub entries_begin : (count : ℕ) (scope : Scope) (bytes : List ℕ) → 0 < count → IsLeft (entry_of count) after (1, false) (count - 1) [] scope bytes (entries count scope bytes)
entries_begin count scope bytes lt = rw (are_in_turn count scope bytes lt) at (turns_begin (entry_of count) after (1, false) (count - 1) scope bytes)
