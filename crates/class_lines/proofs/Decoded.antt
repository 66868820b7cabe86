-- A text whose pairs of surrogates are decoded.
use Rattle.std.proofs.Common.{◌≡◌, ℕ, ◌-◌, ◌<◌, ◌≤◌, Bool, true, false, cond, List, [], ◌∷◌, ◌++◌, length, take, drop, get_or, Option, Some, None, refl, sym, ap, ◌∙◌, arith, append_assoc, append-nil}
use Rattle.std.proofs.lemmas.List.{take_all}
use Rattle.std.proofs.lemmas.Option.{none-some, same_Some}
use Rattle.class_lines.specs.Utf8.{four_bytes, is_pair, surrogate_bits, utf8_of}
use Rattle.class_lines.specs.Pairs.{pair_at}

-- the character of a pair
abbrev character : ℕ → ℕ → ℕ → ℕ → List ℕ
character b c e f = four_bytes (surrogate_bits 0xA0 b c) (surrogate_bits 0xB0 e f)

abbrev Pair : Type 0
Pair = ℕ × ℕ × List ℕ

abbrev pair : ℕ → ℕ → List ℕ → Option Pair
pair high low rest = Some (high, low, rest)

pub decoded_pair : (bytes : List ℕ) (high low : ℕ) (rest : List ℕ) → pair_at bytes ≡ Some (high, low, rest) → utf8_of bytes ≡ four_bytes high low ++ utf8_of rest
decoded_pair [] high low rest h = absurd (none-some (high, low, rest) h)
decoded_pair (a ∷ []) high low rest h = absurd (none-some (high, low, rest) h)
decoded_pair (a ∷ b ∷ []) high low rest h = absurd (none-some (high, low, rest) h)
decoded_pair (a ∷ b ∷ c ∷ []) high low rest h = absurd (none-some (high, low, rest) h)
decoded_pair (a ∷ b ∷ c ∷ d ∷ []) high low rest h = absurd (none-some (high, low, rest) h)
decoded_pair (a ∷ b ∷ c ∷ d ∷ e ∷ []) high low rest h = absurd (none-some (high, low, rest) h)
decoded_pair (a ∷ b ∷ c ∷ d ∷ e ∷ f ∷ bytes) high low rest h = by (is_pair a b c d e f) h
  where
    by : (x : Bool) → cond x (pair (surrogate_bits 0xA0 b c) (surrogate_bits 0xB0 e f) bytes) None ≡ Some (high, low, rest) → cond x (character b c e f ++ utf8_of bytes) (a ∷ utf8_of (b ∷ c ∷ d ∷ e ∷ f ∷ bytes)) ≡ four_bytes high low ++ utf8_of rest
    by true h =
        let same : ◌≡◌ {A = Pair} (surrogate_bits 0xA0 b c, surrogate_bits 0xB0 e f, bytes) (high, low, rest) = same_Some _ _ h in
        ap (λ (p : Pair). four_bytes p.0 p.1 ++ utf8_of p.2) same
    by false h = absurd (none-some (high, low, rest) h)

pub decoded_byte : (a : ℕ) (rest : List ℕ) → pair_at (a ∷ rest) ≡ None → utf8_of (a ∷ rest) ≡ a ∷ utf8_of rest
decoded_byte a [] h = refl
decoded_byte a (b ∷ []) h = refl
decoded_byte a (b ∷ c ∷ []) h = refl
decoded_byte a (b ∷ c ∷ d ∷ []) h = refl
decoded_byte a (b ∷ c ∷ d ∷ e ∷ []) h = refl
decoded_byte a (b ∷ c ∷ d ∷ e ∷ f ∷ bytes) h = by (is_pair a b c d e f) h
  where
    by : (x : Bool) → cond x (pair (surrogate_bits 0xA0 b c) (surrogate_bits 0xB0 e f) bytes) None ≡ None → cond x (character b c e f ++ utf8_of bytes) (a ∷ utf8_of (b ∷ c ∷ d ∷ e ∷ f ∷ bytes)) ≡ a ∷ utf8_of (b ∷ c ∷ d ∷ e ∷ f ∷ bytes)
    by true h = absurd (none-some (surrogate_bits 0xA0 b c, surrogate_bits 0xB0 e f, bytes) (sym h))
    by false h = refl

-- one more pair is decoded
pub pair_more : (whole text rest new four : List ℕ) (high low : ℕ) (behind : List ℕ) → pair_at rest ≡ Some (high, low, behind) → four ≡ four_bytes high low → new ≡ text ++ four → text ++ utf8_of rest ≡ whole → new ++ utf8_of behind ≡ whole
pair_more whole text rest new four high low behind h f n so_far =
    ap (λ (t : List ℕ). t ++ utf8_of behind) n ∙ append_assoc text four (utf8_of behind)
    ∙ ap (λ (t : List ℕ). text ++ t) (ap (λ (t : List ℕ). t ++ utf8_of behind) f ∙ sym (decoded_pair rest high low behind h)) ∙ so_far

-- one more byte stays itself
pub byte_more : (whole text rest new : List ℕ) → 1 ≤ length rest → pair_at rest ≡ None → new ≡ text ++ get_or rest 0 0 ∷ [] → text ++ utf8_of rest ≡ whole → new ++ utf8_of (take (length rest - 1) (drop 1 rest)) ≡ whole
byte_more whole text [] new some h n so_far = absurd (omega arith)
byte_more whole text (a ∷ rest) new some h n so_far =
    let all : take (length (a ∷ rest) - 1) rest ≡ rest = take_all (length (a ∷ rest) - 1) rest (omega arith) in
    ap (λ (t : List ℕ). new ++ utf8_of t) all ∙ ap (λ (t : List ℕ). t ++ utf8_of rest) n ∙ append_assoc text (a ∷ []) (utf8_of rest)
    ∙ ap (λ (t : List ℕ). text ++ t) (sym (decoded_byte a rest h)) ∙ so_far

-- at the end all is decoded
pub at_end : (whole text rest : List ℕ) → length rest < 1 → text ++ utf8_of rest ≡ whole → text ≡ whole
at_end whole text [] short so_far = sym (append-nil text) ∙ so_far
at_end whole text (a ∷ rest) short so_far = absurd (omega arith)
