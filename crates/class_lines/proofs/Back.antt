-- Bytes of modified UTF-8 that are characters are heard again from their UTF-8.
use Rattle.std.proofs.Common.{◌≡◌, ℕ, zero, suc, ◌+◌, ◌*◌, ◌/◌, ◌%◌, ◌<◌, ◌≤◌, Bool, true, false, cond, leb, ltb, eqb, ◌&&◌, List, [], ◌∷◌, ◌++◌, length, Option, Some, None, refl, sym, ap, subst, ◌∙◌, arith, inl, inr, append_assoc, length-append}
use Rattle.std.specs.Prelude.{option_map, nat_le, nat_lt}
use Rattle.std.proofs.lemmas.Bool.{and_parts, and_from, and_left, and_right, le-leb, lt-ltb, lt-leb, eq-eqb, leb-true, ltb-true, ne_eqb, cases_eq, true≢false}
use Rattle.std.proofs.lemmas.List.{append-nil}
use Rattle.aj_names.specs.ModifiedUtf8.{unit_spelling}
use Rattle.class_file.specs.Text.{within}
use Rattle.class_lines.specs.declared.recoding.Code.{Code}
use Rattle.class_lines.specs.Words.{◌>>=◌, Text}
use Rattle.class_lines.specs.Recoding.{is_second_of_three, is_second_of_four, four_value, high_of, low_of, code_bytes, two_at, three_at, four_at, character_at, characters, modified}
use Rattle.class_lines.specs.Units.{unit_of_three}
use Rattle.class_lines.specs.Utf8.{four_bytes, is_surrogate, is_pair, surrogate_bits, utf8_of}
use Rattle.class_lines.specs.Pairs.{pair_at}
use Rattle.class_lines.proofs.Decoded.{decoded_byte}
use Rattle.class_lines.proofs.UnitLists.{not_below}
use Rattle.class_lines.proofs.TextRead.{three_spelled}
use Rattle.class_lines.proofs.Fronts.{IsValid, Front, front}
use Rattle.class_lines.proofs.Fronts.Front.{End, One, Two, Three, Six}

-- ---- a byte that begins no surrogate

abbrev is_high : ℕ → ℕ → Bool
is_high a b = eqb a 237 && leb 160 b

no_pair : (x l h c d : Bool) → (x && l) ≡ false → ((x && ((l && h) && c)) && d) ≡ false
no_pair true true h c d e = absurd (true≢false e)
no_pair true false h c d e = refl
no_pair false l h c d e = refl

pair_byte : (a b : ℕ) (rest : List ℕ) → is_high a b ≡ false → pair_at (a ∷ b ∷ rest) ≡ None
pair_byte a b [] e = refl
pair_byte a b (c ∷ []) e = refl
pair_byte a b (c ∷ d ∷ []) e = refl
pair_byte a b (c ∷ d ∷ f ∷ []) e = refl
pair_byte a b (c ∷ d ∷ f ∷ g ∷ rest) e =
    let n : is_pair a b c d f g ≡ false = no_pair (eqb a 237) (leb 160 b) (ltb b 176) (within 128 192 c) (is_surrogate 176 d f g) e in
    rw n refl

utf8_byte : (a b : ℕ) (rest : List ℕ) → is_high a b ≡ false → utf8_of (a ∷ b ∷ rest) ≡ a ∷ utf8_of (b ∷ rest)
utf8_byte a b rest e = decoded_byte a (b ∷ rest) (pair_byte a b rest e)

never_high : (a b : ℕ) → (a ≡ 237 → ⊥) → is_high a b ≡ false
never_high a b n = and_left (eqb a 237) (leb 160 b) (ne_eqb a 237 n)

low_byte : (a b : ℕ) → b < 160 → is_high a b ≡ false
low_byte a b h = and_right (eqb a 237) (leb 160 b) (lt-leb 160 b h)

-- a byte other than ED stays itself
plain_utf8 : (a : ℕ) (rest : List ℕ) → (a ≡ 237 → ⊥) → utf8_of (a ∷ rest) ≡ a ∷ utf8_of rest
plain_utf8 a [] n = refl
plain_utf8 a (b ∷ rest) n = utf8_byte a b rest (never_high a b n)

no_high : (a b : ℕ) → (a ≡ 237 → b < 160) → is_high a b ≡ false
no_high a b most = elim (cases_eq a 237) [ inl e ↦ low_byte a b (most e) | inr n ↦ never_high a b n ]

-- ---- one character

abbrev Hears : Text → Text → Type 0
Hears raw text = (turns : ℕ) → length raw ≤ turns → characters turns raw ≡ Some text

-- the text is heard again from its UTF-8
abbrev pub Back : Text → Type 0
Back text = Hears (utf8_of text) text

one_code : (x : ℕ) (before rest text bytes : Text) (code : Code) → character_at (x ∷ before ++ rest) ≡ Some (code, rest) → code_bytes code ≡ bytes → Hears rest text → Hears (x ∷ before ++ rest) (bytes ++ text)
one_code x before rest text bytes code here is more zero le = absurd (omega arith)
one_code x before rest text bytes code here is more (suc turns) le =
    ap (λ (o : Option (Code × Text)). o >>= (λ c. option_map (λ more. code_bytes c.0 ++ more) (characters turns c.1))) here
    ∙ ap (option_map (λ more. code_bytes code ++ more)) (more turns (omega (arith, length-append before rest)))
    ∙ ap (λ (b : Text). Some (b ++ text)) is

inside : (low high b : ℕ) → low ≤ b → b < high → within low high b ≡ true
inside low high b l h = and_from (leb low b) (ltb b high) (le-leb low b l) (lt-ltb b high h)

above : (low high b : ℕ) → high ≤ b → within low high b ≡ false
above low high b h = and_right (leb low b) (ltb b high) (not_below b high h)

one_here : (a : ℕ) (rest : Text) → 1 ≤ a → a < 128 → character_at (a ∷ rest) ≡ Some (Code.One a, rest)
unfolding character_at
one_here a rest some small = rw (ne_eqb a 0 (λ e. omega arith), inside 1 0x80 a some small) refl

two_here : (a b : ℕ) (rest : Text) → 194 ≤ a → a < 224 → 128 ≤ b → b < 192 → character_at (a ∷ b ∷ rest) ≡ Some (Code.Two a b, rest)
unfolding character_at two_at
two_here a b rest la ha lb hb =
    rw (ne_eqb a 0 (λ e. omega arith), above 1 0x80 a (omega arith), inside 0xC2 0xE0 a la ha, inside 0x80 0xC0 b lb hb) refl

second_here : (a b : ℕ) → 128 ≤ b → b < 192 → (a ≡ 224 → 160 ≤ b) → (a ≡ 237 → b < 160) → is_second_of_three a b ≡ true
second_here a b lb hb least most =
    elim (cases_eq a 224) [
      | inl e ↦ rw (eq-eqb a 224 e) (inside 0xA0 0xC0 b (least e) hb)
      | inr n ↦ elim (cases_eq a 237) [
        | inl e ↦ rw (ne_eqb a 224 n, eq-eqb a 237 e) (inside 0x80 0xA0 b lb (most e))
        | inr m ↦ rw (ne_eqb a 224 n, ne_eqb a 237 m) (inside 0x80 0xC0 b lb hb)
      ]
    ]

three_here : (a b c : ℕ) (rest : Text) → 224 ≤ a → a < 240 → 128 ≤ b → b < 192 → (a ≡ 224 → 160 ≤ b) → (a ≡ 237 → b < 160) → 128 ≤ c → c < 192 → character_at (a ∷ b ∷ c ∷ rest) ≡ Some (Code.Three a b c, rest)
unfolding character_at three_at
three_here a b c rest la ha lb hb least most lc hc =
    rw (ne_eqb a 0 (λ e. omega arith), above 1 0x80 a (omega arith), above 0xC2 0xE0 a la, inside 0xE0 0xF0 a la ha, second_here a b lb hb least most, inside 0x80 0xC0 c lc hc) refl

fourth_here : (a b : ℕ) → 128 ≤ b → b < 192 → (a ≡ 240 → 144 ≤ b) → (a ≡ 244 → b < 144) → is_second_of_four a b ≡ true
fourth_here a b lb hb least most =
    elim (cases_eq a 240) [
      | inl e ↦ rw (eq-eqb a 240 e) (inside 0x90 0xC0 b (least e) hb)
      | inr n ↦ elim (cases_eq a 244) [
        | inl e ↦ rw (ne_eqb a 240 n, eq-eqb a 244 e) (inside 0x80 0x90 b lb (most e))
        | inr m ↦ rw (ne_eqb a 240 n, ne_eqb a 244 m) (inside 0x80 0xC0 b lb hb)
      ]
    ]

abbrev pair_of : ℕ → ℕ → ℕ → ℕ → Code
pair_of a b c d = Code.Pair (high_of (four_value a b c d)) (low_of (four_value a b c d))

four_here : (a b c d : ℕ) (rest : Text) → 240 ≤ a → a < 245 → 128 ≤ b → b < 192 → (a ≡ 240 → 144 ≤ b) → (a ≡ 244 → b < 144) → 128 ≤ c → c < 192 → 128 ≤ d → d < 192 → character_at (a ∷ b ∷ c ∷ d ∷ rest) ≡ Some (pair_of a b c d, rest)
unfolding character_at four_at
four_here a b c d rest la ha lb hb least most lc hc ld hd =
    rw (
      ne_eqb a 0 (λ e. omega arith),
      above 1 0x80 a (omega arith),
      above 0xC2 0xE0 a (omega arith),
      above 0xE0 0xF0 a la,
      inside 0xF0 0xF5 a la ha,
      fourth_here a b lb hb least most,
      inside 0x80 0xC0 c lc hc,
      inside 0x80 0xC0 d ld hd,
    ) refl

back_one : (a : ℕ) (rest : Text) → 1 ≤ a → a < 128 → Back rest → Back (a ∷ rest)
back_one a rest some small more =
    subst (λ (raw : Text). Hears raw (a ∷ rest)) (sym (plain_utf8 a rest (λ e. omega arith))) (one_code a [] (utf8_of rest) rest (a ∷ []) (Code.One a) (one_here a (utf8_of rest) some small) refl more)

back_two : (a b : ℕ) (rest : Text) → 194 ≤ a → a < 224 → 128 ≤ b → b < 192 → Back rest → Back (a ∷ b ∷ rest)
back_two a b rest la ha lb hb more =
    let whole : utf8_of (a ∷ b ∷ rest) ≡ a ∷ b ∷ utf8_of rest = plain_utf8 a (b ∷ rest) (λ e. omega arith) ∙ ap (λ (t : Text). a ∷ t) (plain_utf8 b rest (λ e. omega arith)) in
    subst (λ (raw : Text). Hears raw (a ∷ b ∷ rest)) (sym whole) (one_code a (b ∷ []) (utf8_of rest) rest (a ∷ b ∷ []) (Code.Two a b) (two_here a b (utf8_of rest) la ha lb hb) refl more)

back_three : (a b c : ℕ) (rest : Text) → 224 ≤ a → a < 240 → 128 ≤ b → b < 192 → (a ≡ 224 → 160 ≤ b) → (a ≡ 237 → b < 160) → 128 ≤ c → c < 192 → Back rest → Back (a ∷ b ∷ c ∷ rest)
back_three a b c rest la ha lb hb least most lc hc more =
    let whole : utf8_of (a ∷ b ∷ c ∷ rest) ≡ a ∷ b ∷ c ∷ utf8_of rest =
    utf8_byte a b (c ∷ rest) (no_high a b most) ∙ ap (λ (t : Text). a ∷ t) (plain_utf8 b (c ∷ rest) (λ e. omega arith) ∙ ap (λ (t : Text). b ∷ t) (plain_utf8 c rest (λ e. omega arith))) in
    subst (λ (raw : Text). Hears raw (a ∷ b ∷ c ∷ rest)) (sym whole) (one_code a (b ∷ c ∷ []) (utf8_of rest) rest (a ∷ b ∷ c ∷ []) (Code.Three a b c) (three_here a b c (utf8_of rest) la ha lb hb least most lc hc) refl more)

-- ---- a pair

-- the character of a pair, as its number
record Far (h l : ℕ) : Type 0 where
  a : ℕ
  b : ℕ
  c : ℕ
  d : ℕ
  are : four_bytes h l ≡ a ∷ b ∷ c ∷ d ∷ []
  first : (240 ≤ a) × (a < 245)
  second : (128 ≤ b) × (b < 192)
  least : a ≡ 240 → 144 ≤ b
  most : a ≡ 244 → b < 144
  third : (128 ≤ c) × (c < 192)
  fourth : (128 ≤ d) × (d < 192)
  value : four_value a b c d ≡ 65536 + (h * 1024 + l)

far_at : (n h l : ℕ) → n ≡ 65536 + (h * 1024 + l) → h < 1024 → l < 1024
    → (four_value (240 + n / 262144) (128 + n / 4096 % 64) (128 + n / 64 % 64) (128 + n % 64) ≡ n) × (240 + n / 262144 < 245) × (240 + n / 262144 ≡ 240 → 144 ≤ 128 + n / 4096 % 64) × (240 + n / 262144 ≡ 244 → 128 + n / 4096 % 64 < 144)
far_at n h l is lh ll = (omega arith, omega arith, λ e. omega arith, λ e. omega arith)

far_of : (h l : ℕ) → h < 1024 → l < 1024 → Far h l
far_of h l lh ll =
    let n : ℕ = 65536 + (h * 1024 + l) in
    let f = far_at n h l refl lh ll in
    record {
      a = 240 + n / 262144;
      b = 128 + n / 4096 % 64;
      c = 128 + n / 64 % 64;
      d = 128 + n % 64;
      are = refl;
      first = (omega arith, f.1);
      second = (omega arith, omega arith);
      least = f.2;
      most = f.3;
      third = (omega arith, omega arith);
      fourth = (omega arith, omega arith);
      value = f.0;
    }

surrogates_of : (v h l : ℕ) → v ≡ 65536 + (h * 1024 + l) → l < 1024 → (high_of v ≡ 55296 + h) × (low_of v ≡ 56320 + l)
surrogates_of v h l is ll = (omega arith, omega arith)

-- the bytes of a pair's character
pair_spelled : (b c e f : ℕ) → 160 ≤ b → b < 176 → 128 ≤ c → c < 192 → 176 ≤ e → e < 192 → 128 ≤ f → f < 192
    → (v : ℕ) → v ≡ 65536 + (surrogate_bits 160 b c * 1024 + surrogate_bits 176 e f) → code_bytes (Code.Pair (high_of v) (low_of v)) ≡ 237 ∷ b ∷ c ∷ 237 ∷ e ∷ f ∷ []
pair_spelled b c e f lb hb lc hc le he lf hf v is =
    let h : ℕ = surrogate_bits 160 b c in let l : ℕ = surrogate_bits 176 e f in
    let s = surrogates_of v h l is (omega arith) in
    let high : high_of v ≡ unit_of_three 237 b c = s.0 ∙ (omega arith) in
    let low : low_of v ≡ unit_of_three 237 e f = s.1 ∙ (omega arith) in
    ap (λ (x : ℕ). unit_spelling x ++ (unit_spelling (low_of v) ++ [])) high
    ∙ ap (λ (x : ℕ). unit_spelling (unit_of_three 237 b c) ++ (unit_spelling x ++ [])) low
    ∙ ap (λ (t : Text). t ++ (unit_spelling (unit_of_three 237 e f) ++ [])) (three_spelled 237 b c (omega arith) (omega arith) (omega arith) (omega arith) (λ j. absurd (omega arith)) lc hc)
    ∙ ap (λ (t : Text). 237 ∷ b ∷ c ∷ (t ++ [])) (three_spelled 237 e f (omega arith) (omega arith) (omega arith) (omega arith) (λ j. absurd (omega arith)) lf hf)

back_six : (b c e f : ℕ) (rest : Text) → 160 ≤ b → b < 176 → 128 ≤ c → c < 192 → 176 ≤ e → e < 192 → 128 ≤ f → f < 192 → Back rest → Back (237 ∷ b ∷ c ∷ 237 ∷ e ∷ f ∷ rest)
back_six b c e f rest lb hb lc hc le he lf hf more =
    let h : ℕ = surrogate_bits 160 b c in let l : ℕ = surrogate_bits 176 e f in
    let four = four_bytes h l in
    let first : is_surrogate 160 237 b c ≡ true = and_from (within 160 176 b) (within 128 192 c) (inside 160 176 b lb hb) (inside 128 192 c lc hc) in
    let second : is_surrogate 176 237 e f ≡ true = and_from (within 176 192 e) (within 128 192 f) (inside 176 192 e le he) (inside 128 192 f lf hf) in
    let pair : is_pair 237 b c 237 e f ≡ true = and_from (is_surrogate 160 237 b c) (is_surrogate 176 237 e f) first second in
    let far = far_of h l (omega arith) (omega arith) in
    let whole : utf8_of (237 ∷ b ∷ c ∷ 237 ∷ e ∷ f ∷ rest) ≡ far.a ∷ far.b ∷ far.c ∷ far.d ∷ utf8_of rest =
    ap (λ (x : Bool). cond x (four ++ utf8_of rest) (237 ∷ utf8_of (b ∷ c ∷ 237 ∷ e ∷ f ∷ rest))) pair ∙ ap (λ (t : Text). t ++ utf8_of rest) far.are in
    subst (λ (raw : Text). Hears raw (237 ∷ b ∷ c ∷ 237 ∷ e ∷ f ∷ rest)) (sym whole)
    (one_code far.a (far.b ∷ far.c ∷ far.d ∷ []) (utf8_of rest) rest (237 ∷ b ∷ c ∷ 237 ∷ e ∷ f ∷ []) (pair_of far.a far.b far.c far.d)
    (four_here far.a far.b far.c far.d (utf8_of rest) far.first.0 far.first.1 far.second.0 far.second.1 far.least far.most far.third.0 far.third.1 far.fourth.0 far.fourth.1)
    (pair_spelled b c e f lb hb lc hc le he lf hf (four_value far.a far.b far.c far.d) far.value) more)

-- ---- texts

-- it may stand before each text that is heard again
abbrev pub Spelled : Text → Type 0
Spelled text = (rest : Text) → Back rest → Back (text ++ rest)

pub spelled_nil : Spelled []
spelled_nil rest more = more

pub spelled_append : (xs ys : Text) → Spelled xs → Spelled ys → Spelled (xs ++ ys)
spelled_append xs ys sx sy rest more = subst Back (sym (append_assoc xs ys rest)) (sx (ys ++ rest) (sy rest more))

pub spelled_one : (a : ℕ) (rest : Text) → within 1 128 a ≡ true → Spelled rest → Spelled (a ∷ rest)
spelled_one a rest h s more k =
    let p = and_parts (nat_le 1 a) (nat_lt a 128) h in
    back_one a (rest ++ more) (leb-true 1 a p.0) (ltb-true a 128 p.1) (s more k)

none_left : Back []
none_left zero le = refl
none_left (suc turns) le = refl

pub back_of : (text : Text) → Spelled text → modified (utf8_of text) ≡ Some text
back_of text s =
    let h : Back text = subst Back (append-nil text) (s [] none_left) in h (length (utf8_of text)) (omega arith)

step : (bytes : List ℕ) → Front bytes → ((rest : List ℕ) → length rest < length bytes → IsValid rest → Spelled rest) → Spelled bytes
step bytes (End is) next = subst Spelled (sym is) spelled_nil
step bytes (One a rest is some small v) next =
    let l : length bytes ≡ length (a ∷ rest) = ap length is in
    subst Spelled (sym is) (λ more k. back_one a (rest ++ more) some small (next rest (omega arith) v more k))
step bytes (Two a b rest is la ha lb hb v) next =
    let l : length bytes ≡ length (a ∷ b ∷ rest) = ap length is in
    subst Spelled (sym is) (λ more k. back_two a b (rest ++ more) la ha lb hb (next rest (omega arith) v more k))
step bytes (Three a b c rest is la ha lb hb least most lc hc v) next =
    let l : length bytes ≡ length (a ∷ b ∷ c ∷ rest) = ap length is in
    subst Spelled (sym is) (λ more k. back_three a b c (rest ++ more) la ha lb hb least most lc hc (next rest (omega arith) v more k))
step bytes (Six b c e f rest is lb hb lc hc le he lf hf v) next =
    let l : length bytes ≡ length (237 ∷ b ∷ c ∷ 237 ∷ e ∷ f ∷ rest) = ap length is in
    subst Spelled (sym is) (λ more k. back_six b c e f (rest ++ more) lb hb lc hc le he lf hf (next rest (omega arith) v more k))

good : (n : ℕ) (bytes : List ℕ) → length bytes ≤ n → IsValid bytes → Spelled bytes
good zero bytes le v = step bytes (front bytes v) (λ rest lt w. absurd (omega arith))
good (suc n) bytes le v = step bytes (front bytes v) (λ rest lt w. good n rest (omega arith) w)

pub valid_spelled : (bytes : List ℕ) → IsValid bytes → Spelled bytes
valid_spelled bytes v = good (length bytes) bytes (omega arith) v
