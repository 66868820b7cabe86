-- What `a && b` answers, by the answers of its parts.
use Rattle.std.proofs.Common.{◌≡◌, Bool, true, false, ◌&&◌}

pub both_answer : (r s a b : Bool) → r ≡ a → s ≡ b → r ≡ true → s ≡ (a && b)
both_answer true s true b p q h = q
both_answer true s false b p q h = absurd cc
both_answer false s a b p q h = absurd cc

pub first_answer : (r a b : Bool) → r ≡ a → r ≡ false → r ≡ (a && b)
first_answer r true b p h = absurd cc
first_answer r false b p h = h
