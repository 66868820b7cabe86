-- Pairs of surrogates in a text of modified UTF-8.
use Rattle.std.specs.Prelude.{ℕ, if◌then◌else◌, List, ◌∷◌, Option, Some, None}
use Rattle.class_lines.specs.Utf8.{is_pair, surrogate_bits}

-- the ten bits of each surrogate of a pair at the front, and what follows it
abbrev pub pair_at : List ℕ → Option (ℕ × ℕ × List ℕ)
pair_at (a ∷ b ∷ c ∷ d ∷ e ∷ f ∷ rest) = if is_pair a b c d e f then Some (surrogate_bits 0xA0 b c, surrogate_bits 0xB0 e f, rest) else None
pair_at bytes = None
