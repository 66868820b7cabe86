-- A name in modified UTF-8 is one in UTF-8 once its pairs of surrogates are decoded.
use Rattle.std.proofs.Common.{◌≡◌, ℕ, zero, suc, ◌<◌, ◌≤◌, Bool, true, false, cond, leb, ltb, eqb, ◌&&◌, List, [], ◌∷◌, ◌++◌, length, Option, None, IsUtf8, refl, sym, ap, subst, ◌∙◌, arith}
use Rattle.std.specs.Prelude.{IsTrue}
use Rattle.std.specs.List.{list_all}
use Rattle.std.proofs.lemmas.Bool.{and_parts, and_from, le-leb, lt-ltb, lt-leb, eqb-true, true≢false}
use Rattle.std.proofs.lemmas.Str.{IsUtf8-nil}
use Rattle.class_file.specs.Text.{is_utf8, is_paired, is_name_byte, is_name_text, within}
use Rattle.jp_model.specs.Headline.{four_bytes, is_surrogate, is_pair, surrogate_bits, utf8_of}
use Rattle.weave_plan.specs.Utf8.{pair_at}
use Rattle.weave_plan.proofs.Decoded.{decoded_byte}
use Rattle.weave_plan.proofs.Characters.{one_byte, two_bytes, three_bytes, four_bytes_are}
use Rattle.weave_plan.proofs.Fronts.{IsValid, Front, front}
use Rattle.weave_plan.proofs.Fronts.Front.{End, One, Two, Three, Six}

-- the text is decoded to one in UTF-8
abbrev IsGood : List ℕ → Type 0
IsGood bytes = IsUtf8 (utf8_of bytes)

-- ---- a byte that begins no surrogate

abbrev is_high : ℕ → ℕ → Bool
is_high a b = eqb a 237 && leb 160 b

no_pair : (x l h c d : Bool) → (x && l) ≡ false → ((x && ((l && h) && c)) && d) ≡ false
no_pair true true h c d e = absurd (true≢false e)
no_pair true false h c d e = refl
no_pair false l h c d e = refl

abbrev none_pair : Option (ℕ × ℕ × List ℕ)
none_pair = None

pair_byte : (a b : ℕ) (rest : List ℕ) → is_high a b ≡ false → pair_at (a ∷ b ∷ rest) ≡ None
pair_byte a b [] e = refl
pair_byte a b (c ∷ []) e = refl
pair_byte a b (c ∷ d ∷ []) e = refl
pair_byte a b (c ∷ d ∷ f ∷ []) e = refl
pair_byte a b (c ∷ d ∷ f ∷ g ∷ rest) e =
    let n : is_pair a b c d f g ≡ false = no_pair (eqb a 237) (leb 160 b) (ltb b 176) (within 128 192 c) (is_surrogate 176 d f g) e in
    rw n refl

utf8_byte : (a b : ℕ) (rest : List ℕ) → is_high a b ≡ false → utf8_of (a ∷ b ∷ rest) ≡ a ∷ utf8_of (b ∷ rest)
utf8_byte a b rest e = decoded_byte a (b ∷ rest) (pair_byte a b rest e)

differs : (a b : ℕ) → (a ≡ b → ⊥) → eqb a b ≡ false
differs a b n = by (eqb a b) refl
  where
    by : (x : Bool) → eqb a b ≡ x → eqb a b ≡ false
    by true e = absurd (n (eqb-true a b e))
    by false e = e

never_high : (a b : ℕ) → (a ≡ 237 → ⊥) → is_high a b ≡ false
never_high a b n = ap (λ (x : Bool). x && leb 160 b) (differs a 237 n)

low_byte : (a b : ℕ) → b < 160 → is_high a b ≡ false
low_byte a b h = ap (λ (x : Bool). eqb a 237 && x) (lt-leb 160 b h) ∙ none (eqb a 237)
  where
    none : (x : Bool) → (x && false) ≡ false
    none true = refl
    none false = refl

-- a byte other than ED stays itself
plain_utf8 : (a : ℕ) (rest : List ℕ) → (a ≡ 237 → ⊥) → utf8_of (a ∷ rest) ≡ a ∷ utf8_of rest
plain_utf8 a [] n = refl
plain_utf8 a (b ∷ rest) n = utf8_byte a b rest (never_high a b n)

-- ---- each character

good_one : (a : ℕ) (rest : List ℕ) → a < 128 → IsGood rest → IsGood (a ∷ rest)
good_one a rest small g = subst IsUtf8 (sym (plain_utf8 a rest (λ e. omega arith))) (one_byte a (utf8_of rest) small g)

good_two : (a b : ℕ) (rest : List ℕ) → 194 ≤ a → a < 224 → 128 ≤ b → b < 192 → IsGood rest → IsGood (a ∷ b ∷ rest)
good_two a b rest la ha lb hb g =
    let n : a ≡ 237 → ⊥ = λ e. omega arith in
    let m : b ≡ 237 → ⊥ = λ e. omega arith in
    subst IsUtf8 (sym (plain_utf8 a (b ∷ rest) n ∙ ap (λ (t : List ℕ). a ∷ t) (plain_utf8 b rest m))) (two_bytes a b (utf8_of rest) la ha lb hb g)

high_of : (a b : ℕ) → (a ≡ 237 → b < 160) → is_high a b ≡ false
high_of a b most = by (eqb a 237) refl
  where
    by : (x : Bool) → eqb a 237 ≡ x → is_high a b ≡ false
    by true e = low_byte a b (most (eqb-true a 237 e))
    by false e = ap (λ (x : Bool). x && leb 160 b) e

good_three : (a b c : ℕ) (rest : List ℕ) → 224 ≤ a → a < 240 → 128 ≤ b → b < 192 → (a ≡ 224 → 160 ≤ b) → (a ≡ 237 → b < 160) → 128 ≤ c → c < 192 → IsGood rest → IsGood (a ∷ b ∷ c ∷ rest)
good_three a b c rest la ha lb hb least most lc hc g =
    let m : b ≡ 237 → ⊥ = λ e. omega arith in
    let k : c ≡ 237 → ⊥ = λ e. omega arith in
    let high = high_of a b most in
    let whole : utf8_of (a ∷ b ∷ c ∷ rest) ≡ a ∷ b ∷ c ∷ utf8_of rest =
    utf8_byte a b (c ∷ rest) high ∙ ap (λ (t : List ℕ). a ∷ t) (plain_utf8 b (c ∷ rest) m ∙ ap (λ (t : List ℕ). b ∷ t) (plain_utf8 c rest k)) in
    subst IsUtf8 (sym whole) (three_bytes a b c (utf8_of rest) la ha lb hb least most lc hc g)

in_bounds : (low high b : ℕ) → low ≤ b → b < high → within low high b ≡ true
in_bounds low high b l h = and_from (leb low b) (ltb b high) (le-leb low b l) (lt-ltb b high h)

good_six : (b c e f : ℕ) (rest : List ℕ) → 160 ≤ b → b < 176 → 128 ≤ c → c < 192 → 176 ≤ e → e < 192 → 128 ≤ f → f < 192 → IsGood rest → IsGood (237 ∷ b ∷ c ∷ 237 ∷ e ∷ f ∷ rest)
good_six b c e f rest lb hb lc hc le he lf hf g =
    let four = four_bytes (surrogate_bits 160 b c) (surrogate_bits 176 e f) in
    let first : is_surrogate 160 237 b c ≡ true = and_from (within 160 176 b) (within 128 192 c) (in_bounds 160 176 b lb hb) (in_bounds 128 192 c lc hc) in
    let second : is_surrogate 176 237 e f ≡ true = and_from (within 176 192 e) (within 128 192 f) (in_bounds 176 192 e le he) (in_bounds 128 192 f lf hf) in
    let pair : is_pair 237 b c 237 e f ≡ true = and_from (is_surrogate 160 237 b c) (is_surrogate 176 237 e f) first second in
    let whole : utf8_of (237 ∷ b ∷ c ∷ 237 ∷ e ∷ f ∷ rest) ≡ four ++ utf8_of rest =
    ap (λ (x : Bool). cond x (four ++ utf8_of rest) (237 ∷ utf8_of (b ∷ c ∷ 237 ∷ e ∷ f ∷ rest))) pair in
    subst IsUtf8 (sym whole) (four_bytes_are (surrogate_bits 160 b c) (surrogate_bits 176 e f) (utf8_of rest) (omega arith) (omega arith) g)

-- ---- the whole text

abbrev Shorter : List ℕ → Type 0
Shorter bytes = (rest : List ℕ) → length rest < length bytes → IsValid rest → IsGood rest

step : (bytes : List ℕ) → Front bytes → Shorter bytes → IsGood bytes
step bytes (End is) h = subst IsGood (sym is) IsUtf8-nil
step bytes (One a rest is small v) h =
    let l : length bytes ≡ length (a ∷ rest) = ap length is in
    subst IsGood (sym is) (good_one a rest small (h rest (omega arith) v))
step bytes (Two a b rest is la ha lb hb v) h =
    let l : length bytes ≡ length (a ∷ b ∷ rest) = ap length is in
    subst IsGood (sym is) (good_two a b rest la ha lb hb (h rest (omega arith) v))
step bytes (Three a b c rest is la ha lb hb least most lc hc v) h =
    let l : length bytes ≡ length (a ∷ b ∷ c ∷ rest) = ap length is in
    subst IsGood (sym is) (good_three a b c rest la ha lb hb least most lc hc (h rest (omega arith) v))
step bytes (Six b c e f rest is lb hb lc hc le he lf hf v) h =
    let l : length bytes ≡ length (237 ∷ b ∷ c ∷ 237 ∷ e ∷ f ∷ rest) = ap length is in
    subst IsGood (sym is) (good_six b c e f rest lb hb lc hc le he lf hf (h rest (omega arith) v))

good : (n : ℕ) (bytes : List ℕ) → length bytes ≤ n → IsValid bytes → IsGood bytes
good zero bytes le v = step bytes (front bytes v) (λ rest lt w. absurd (omega arith))
good (suc n) bytes le v = step bytes (front bytes v) (λ rest lt w. good n rest (omega arith) w)

-- the name of a class is a text
pub name_is_text : (name : List ℕ) → IsTrue (is_name_text name) → IsUtf8 (utf8_of name)
name_is_text name h =
    let a = and_parts (is_utf8 name) (is_paired name && list_all is_name_byte name) h in
    let b = and_parts (is_paired name) (list_all is_name_byte name) a.1 in
    good (length name) name (omega arith) (record { utf8 = a.0; paired = b.0; free = b.1 })
