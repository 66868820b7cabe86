-- How a text in modified UTF-8 begins whose surrogates stand in pairs.
use Rattle.std.proofs.Common.{◌≡◌, ℕ, ◌<◌, ◌≤◌, ◌⊎◌, inl, inr, Bool, true, false, cond, leb, ltb, eqb, List, [], ◌∷◌, refl, sym, ap, subst, ◌∙◌, arith}
use Rattle.std.specs.List.{list_all}
use Rattle.std.proofs.lemmas.Bool.{and_parts, ltb-true, leb-true, ltb-false, eqb-true, cases_eq, true≢false}
use Rattle.class_file.specs.Text.{within, begun, utf8_from, is_utf8, is_paired}
use Rattle.class_lines.specs.Lines.{is_free}

-- a text whose surrogates stand in pairs, without U+0000
pub record IsValid (bytes : List ℕ) : Type 0 where
  pub utf8 : is_utf8 bytes ≡ true
  pub paired : is_paired bytes ≡ true
  pub free : list_all is_free bytes ≡ true

-- it is at its end, or begins with a character of one byte, of two, of three, or with a pair
pub data Front (bytes : List ℕ) : Type 0 where
  End : bytes ≡ [] → Front bytes
  One : (a : ℕ) (rest : List ℕ) → bytes ≡ a ∷ rest → 1 ≤ a → a < 128 → IsValid rest → Front bytes
  Two : (a b : ℕ) (rest : List ℕ) → bytes ≡ a ∷ b ∷ rest → 194 ≤ a → a < 224 → 128 ≤ b → b < 192 → IsValid rest → Front bytes
  Three : (a b c : ℕ) (rest : List ℕ) → bytes ≡ a ∷ b ∷ c ∷ rest → 224 ≤ a → a < 240 → 128 ≤ b → b < 192 → (a ≡ 224 → 160 ≤ b) → (a ≡ 237 → b < 160) → 128 ≤ c → c < 192 → IsValid rest → Front bytes
  Six : (b c e f : ℕ) (rest : List ℕ) → bytes ≡ 237 ∷ b ∷ c ∷ 237 ∷ e ∷ f ∷ rest → 160 ≤ b → b < 176 → 128 ≤ c → c < 192 → 176 ≤ e → e < 192 → 128 ≤ f → f < 192 → IsValid rest → Front bytes

-- ---- what the first byte begins

-- What may follow is told by bytes that begin the same: 65 a character of one byte, 194 one of two, 224
-- and 225 ones of three, and 0 none.
pub data Begun (a : ℕ) : Type 0 where
  Alone : begun a ≡ begun 65 → 1 ≤ a → a < 128 → Begun a
  Null : a ≡ 192 → Begun a
  Last : begun a ≡ begun 194 → 194 ≤ a → a < 224 → Begun a
  Second : begun a ≡ begun 224 → a ≡ 224 → Begun a
  More : begun a ≡ begun 225 → 225 ≤ a → a < 240 → Begun a
  Nothing : begun a ≡ begun 0 → Begun a

bounds : (low high b : ℕ) → within low high b ≡ true → (low ≤ b) × (b < high)
bounds low high b h = let p = and_parts (leb low b) (ltb b high) h in (leb-true low b p.0, ltb-true b high p.1)

choose : {X : Type 0} (b : Bool) (x y : X) → b ≡ true → cond b x y ≡ x
choose b x y e = ap (λ (z : Bool). cond z x y) e

pass : {X : Type 0} (b : Bool) (x y : X) → b ≡ false → cond b x y ≡ y
pass b x y e = ap (λ (z : Bool). cond z x y) e

pub begins : (a : ℕ) → Begun a
begins a = one (within 1 128 a) refl
  where
    three : begun a ≡ cond (within 225 240 a) (begun 225) (begun 0) → (b : Bool) → within 225 240 a ≡ b → Begun a
    three s true e = let h = bounds 225 240 a e in More (s ∙ choose _ _ _ e) h.0 h.1
    three s false e = Nothing (s ∙ pass _ _ _ e)

    second : begun a ≡ cond (eqb a 224) (begun 224) (cond (within 225 240 a) (begun 225) (begun 0)) → (b : Bool) → eqb a 224 ≡ b → Begun a
    second s true e = Second (s ∙ choose _ _ _ e) (eqb-true a 224 e)
    second s false e = three (s ∙ pass _ _ _ e) (within 225 240 a) refl

    two : begun a ≡ cond (within 194 224 a) (begun 194) (cond (eqb a 224) (begun 224) (cond (within 225 240 a) (begun 225) (begun 0))) → (b : Bool) → within 194 224 a ≡ b → Begun a
    two s true e = let h = bounds 194 224 a e in Last (s ∙ choose _ _ _ e) h.0 h.1
    two s false e = second (s ∙ pass _ _ _ e) (eqb a 224) refl

    zero_byte : begun a ≡ cond (eqb a 192) (begun 192) (cond (within 194 224 a) (begun 194) (cond (eqb a 224) (begun 224) (cond (within 225 240 a) (begun 225) (begun 0)))) → (b : Bool) → eqb a 192 ≡ b → Begun a
    zero_byte s true e = Null (eqb-true a 192 e)
    zero_byte s false e = two (s ∙ pass _ _ _ e) (within 194 224 a) refl

    one : (b : Bool) → within 1 128 a ≡ b → Begun a
    one true e = let h = bounds 1 128 a e in Alone (choose (within 1 128 a) (begun 65) (cond (eqb a 192) (begun 192) (cond (within 194 224 a) (begun 194) (cond (eqb a 224) (begun 224) (cond (within 225 240 a) (begun 225) (begun 0))))) e) h.0 h.1
    one false e = zero_byte (pass (within 1 128 a) (begun 65) (cond (eqb a 192) (begun 192) (cond (within 194 224 a) (begun 194) (cond (eqb a 224) (begun 224) (cond (within 225 240 a) (begun 225) (begun 0))))) e) (eqb a 192) refl

-- ---- the bytes behind it

pub never : (bytes : List ℕ) → utf8_from (begun 0) bytes ≡ true → ⊥
never [] h = true≢false (sym h)
never (b ∷ bytes) h = never bytes h

-- the next byte lies within bounds, and the test passes behind it
pub record Next (test : List ℕ → Bool) (low high : ℕ) (bytes : List ℕ) : Type 0 where
  pub byte : ℕ
  pub rest : List ℕ
  pub is : bytes ≡ byte ∷ rest
  pub above : low ≤ byte
  pub below : byte < high
  pub after : test rest ≡ true

next : {X : Type 0} (test : X → List ℕ → Bool) (good bad : X) (low high b : ℕ) (rest : List ℕ) → (test bad rest ≡ true → ⊥) → test (cond (within low high b) good bad) rest ≡ true → Next (test good) low high (b ∷ rest)
next {X} test good bad low high b rest wrong h = by (within low high b) refl h
  where
    by : (x : Bool) → within low high b ≡ x → test (cond x good bad) rest ≡ true → Next (test good) low high (b ∷ rest)
    by true e h = let i = bounds low high b e in record { byte = b; rest = rest; is = refl; above = i.0; below = i.1; after = h }
    by false e h = absurd (wrong h)

pub last : (bytes : List ℕ) → utf8_from (begun 194) bytes ≡ true → Next is_utf8 128 192 bytes
last [] h = absurd (true≢false (sym h))
last (b ∷ rest) h = next utf8_from (begun 65) (begun 0) 128 192 b rest (never rest) h

pub second_of : (bytes : List ℕ) → utf8_from (begun 224) bytes ≡ true → Next (utf8_from (begun 194)) 160 192 bytes
second_of [] h = absurd (true≢false (sym h))
second_of (b ∷ rest) h = next utf8_from (begun 194) (begun 0) 160 192 b rest (never rest) h

-- behind the first byte of U+0000
pub null_of : (bytes : List ℕ) → utf8_from (begun 192) bytes ≡ true → (rest : List ℕ) × (bytes ≡ 128 ∷ rest) × (is_utf8 rest ≡ true)
null_of [] h = absurd (true≢false (sym h))
null_of (b ∷ rest) h = by (eqb b 128) refl h
  where
    by : (x : Bool) → eqb b 128 ≡ x → utf8_from (cond x (begun 65) (begun 0)) rest ≡ true → (rest' : List ℕ) × (◌≡◌ {A = List ℕ} (b ∷ rest) (128 ∷ rest')) × (is_utf8 rest' ≡ true)
    by true e h = (rest, ap (λ (x : ℕ). x ∷ rest) (eqb-true b 128 e), h)
    by false e h = absurd (never rest h)

pub two_of : (bytes : List ℕ) → utf8_from (begun 225) bytes ≡ true → Next (utf8_from (begun 194)) 128 192 bytes
two_of [] h = absurd (true≢false (sym h))
two_of (b ∷ rest) h = next utf8_from (begun 194) (begun 0) 128 192 b rest (never rest) h

-- ---- pairs

lone : (bytes : List ℕ) → is_paired (237 ∷ 176 ∷ bytes) ≡ true → ⊥
lone [] h = true≢false (sym h)
lone (b ∷ bytes) h = lone bytes h

differs : (a b : ℕ) → (a ≡ b → ⊥) → eqb a b ≡ false
differs a b n = by (eqb a b) refl
  where
    by : (x : Bool) → eqb a b ≡ x → eqb a b ≡ false
    by true e = absurd (n (eqb-true a b e))
    by false e = e

-- a byte other than ED stands in no pair
outside : (a : ℕ) (rest : List ℕ) → (a ≡ 237 → ⊥) → is_paired (a ∷ rest) ≡ true → is_paired rest ≡ true
outside a rest n h = let e : eqb a 237 ≡ false = differs a 237 n in rw e at h

freed : (a : ℕ) (rest : List ℕ) → list_all is_free (a ∷ rest) ≡ true → list_all is_free rest ≡ true
freed a rest h = (and_parts (is_free a) (list_all is_free rest) h).1

no_zero : (rest : List ℕ) → list_all is_free (192 ∷ rest) ≡ true → ⊥
no_zero rest h = true≢false (sym h)

-- behind ED: no surrogate, a high one, or one that stands alone
first_of : (b : ℕ) (rest : List ℕ) → is_paired (237 ∷ b ∷ rest) ≡ true → ((b < 160) × (is_paired rest ≡ true)) ⊎ ((160 ≤ b) × (b < 176) × (is_paired (237 ∷ 160 ∷ rest) ≡ true))
first_of b rest h = by (ltb b 160) refl
  where
    high : 160 ≤ b → ltb b 160 ≡ false → (x : Bool) → ltb b 176 ≡ x → ((b < 160) × (is_paired rest ≡ true)) ⊎ ((160 ≤ b) × (b < 176) × (is_paired (237 ∷ 160 ∷ rest) ≡ true))
    high low e true f = inr (low, ltb-true b 176 f, rw (e, f) at h)
    high low e false f = absurd (lone rest (rw (e, f) at h))

    by : (x : Bool) → ltb b 160 ≡ x → ((b < 160) × (is_paired rest ≡ true)) ⊎ ((160 ≤ b) × (b < 176) × (is_paired (237 ∷ 160 ∷ rest) ≡ true))
    by true e = inl (ltb-true b 160 e, rw e at h)
    by false e = high (ltb-false b 160 e) e (ltb b 176) refl

-- behind a high surrogate stands ED
between : (bytes : List ℕ) → is_paired (237 ∷ 160 ∷ 128 ∷ bytes) ≡ true → (rest : List ℕ) × (bytes ≡ 237 ∷ rest) × (is_paired (237 ∷ 160 ∷ 128 ∷ 237 ∷ rest) ≡ true)
between [] h = absurd (true≢false (sym h))
between (d ∷ rest) h = by (eqb d 237) refl
  where
    by : (x : Bool) → eqb d 237 ≡ x → (rest' : List ℕ) × (◌≡◌ {A = List ℕ} (d ∷ rest) (237 ∷ rest')) × (is_paired (237 ∷ 160 ∷ 128 ∷ 237 ∷ rest') ≡ true)
    by true e = (rest, ap (λ (x : ℕ). x ∷ rest) (eqb-true d 237 e), rw e at h)
    by false e = absurd (lone rest (rw e at h))

-- and a low one
low_of : (e : ℕ) (rest : List ℕ) → is_paired (237 ∷ 160 ∷ 128 ∷ 237 ∷ e ∷ rest) ≡ true → (176 ≤ e) × (is_paired rest ≡ true)
low_of e rest h = by (ltb e 176) refl
  where
    by : (x : Bool) → ltb e 176 ≡ x → (176 ≤ e) × (is_paired rest ≡ true)
    by true f = absurd (lone rest (rw f at h))
    by false f = (ltb-false e 176 f, rw f at h)

-- ---- the whole

-- a text that begins with a byte of three bytes' character
record Three_bytes (a : ℕ) (rest : List ℕ) : Type 0 where
  b : ℕ
  c : ℕ
  behind : List ℕ
  is : rest ≡ b ∷ c ∷ behind
  low : 128 ≤ b
  high : b < 192
  least : a ≡ 224 → 160 ≤ b
  low_too : 128 ≤ c
  high_too : c < 192
  after : is_utf8 behind ≡ true

three_bytes : (a low : ℕ) (rest : List ℕ) → 128 ≤ low → (a ≡ 224 → 160 ≤ low) → Next (utf8_from (begun 194)) low 192 rest → Three_bytes a rest
three_bytes a low rest above least n =
    let m = last n.rest n.after in
    record {
      b = n.byte;
      c = m.byte;
      behind = m.rest;
      is = n.is ∙ ap (λ (t : List ℕ). n.byte ∷ t) m.is;
      low = omega (arith, n.above);
      high = n.below;
      least = λ e. omega (arith, least e, n.above);
      low_too = m.above;
      high_too = m.below;
      after = m.after;
    }

behind_three : (a b c : ℕ) (rest : List ℕ) → list_all is_free (a ∷ b ∷ c ∷ rest) ≡ true → list_all is_free rest ≡ true
behind_three a b c rest h = freed c rest (freed b (c ∷ rest) (freed a (b ∷ c ∷ rest) h))

three_front : (a : ℕ) (rest : List ℕ) → 224 ≤ a → a < 240 → is_paired (a ∷ rest) ≡ true → list_all is_free (a ∷ rest) ≡ true → Three_bytes a rest → Front (a ∷ rest)
three_front a rest low high paired free t = elim (cases_eq a 237) [ inl e ↦ special e | inr o ↦ plain (λ e. absurd (omega arith)) ]
  where
    whole : ◌≡◌ {A = List ℕ} (a ∷ rest) (a ∷ t.b ∷ t.c ∷ t.behind)
    whole = ap (λ (x : List ℕ). a ∷ x) t.is

    paired_whole : is_paired (a ∷ t.b ∷ t.c ∷ t.behind) ≡ true
    paired_whole = subst (λ (x : List ℕ). is_paired x ≡ true) whole paired

    free_behind : list_all is_free t.behind ≡ true
    free_behind = behind_three a t.b t.c t.behind (subst (λ (x : List ℕ). list_all is_free x ≡ true) whole free)

    c_is : t.c ≡ 237 → ⊥
    c_is e = let h : t.c < 192 = t.high_too in omega arith

    b_is : t.b ≡ 237 → ⊥
    b_is e = let h : t.b < 192 = t.high in omega arith

    plain : (a ≡ 237 → ⊥) → Front (a ∷ rest)
    plain n =
        let p = outside t.c t.behind c_is (outside t.b (t.c ∷ t.behind) b_is (outside a (t.b ∷ t.c ∷ t.behind) n paired_whole)) in
        Three a t.b t.c t.behind whole low high t.low t.high t.least (λ e. absurd (n e)) t.low_too t.high_too (record { utf8 = t.after; paired = p; free = free_behind })

    special : a ≡ 237 → Front (a ∷ rest)
    special e = by (first_of t.b (t.c ∷ t.behind) (subst (λ (x : ℕ). is_paired (x ∷ t.b ∷ t.c ∷ t.behind) ≡ true) e paired_whole))
      where
        six : 160 ≤ t.b → t.b < 176 → (r : List ℕ) → t.behind ≡ 237 ∷ r → is_paired (237 ∷ 160 ∷ 128 ∷ 237 ∷ r) ≡ true → Front (a ∷ rest)
        six above below r is p =
            let m = two_of r (subst (λ (x : List ℕ). is_utf8 x ≡ true) is t.after) in
            let n = last m.rest m.after in
            let bytes : r ≡ m.byte ∷ n.byte ∷ n.rest = m.is ∙ ap (λ (x : List ℕ). m.byte ∷ x) n.is in
            let q = low_of m.byte (n.byte ∷ n.rest) (subst (λ (x : List ℕ). is_paired (237 ∷ 160 ∷ 128 ∷ 237 ∷ x) ≡ true) bytes p) in
            let f_is : n.byte ≡ 237 → ⊥ = λ e. let h : n.byte < 192 = n.below in omega arith in
            let all : ◌≡◌ {A = List ℕ} (a ∷ rest) (237 ∷ t.b ∷ t.c ∷ 237 ∷ m.byte ∷ n.byte ∷ n.rest) =
            whole ∙ ap (λ (x : ℕ). x ∷ t.b ∷ t.c ∷ t.behind) e ∙ ap (λ (x : List ℕ). 237 ∷ t.b ∷ t.c ∷ x) (is ∙ ap (λ (x : List ℕ). 237 ∷ x) bytes) in
            let free_rest = behind_three 237 m.byte n.byte n.rest (subst (λ (x : List ℕ). list_all is_free x ≡ true) (is ∙ ap (λ (x : List ℕ). 237 ∷ x) bytes) free_behind) in
            Six t.b t.c m.byte n.byte n.rest all above below t.low_too t.high_too q.0 m.below n.above n.below (record { utf8 = n.after; paired = outside n.byte n.rest f_is q.1; free = free_rest })

        by : ((t.b < 160) × (is_paired (t.c ∷ t.behind) ≡ true)) ⊎ ((160 ≤ t.b) × (t.b < 176) × (is_paired (237 ∷ 160 ∷ t.c ∷ t.behind) ≡ true)) → Front (a ∷ rest)
        by (inl h) =
            Three a t.b t.c t.behind whole low high t.low t.high t.least (λ i. h.0) t.low_too t.high_too (record { utf8 = t.after; paired = outside t.c t.behind c_is h.1; free = free_behind })
        by (inr h) = let d = between t.behind h.2 in six h.0 h.1 d.0 d.1 d.2

pub front : (bytes : List ℕ) → IsValid bytes → Front bytes
front [] v = End refl
front (a ∷ rest) v = by (begins a)
  where
    by : Begun a → Front (a ∷ rest)
    by (Alone e some small) =
        let n : a ≡ 237 → ⊥ = λ i. omega arith in
        One a rest refl some small (record { utf8 = ap (λ x. utf8_from x rest) (sym e) ∙ v.utf8; paired = outside a rest n v.paired; free = freed a rest v.free })
    by (Null e) = absurd (no_zero rest (subst (λ (x : ℕ). list_all is_free (x ∷ rest) ≡ true) e v.free))
    by (Last e low high) =
        let n = last rest (ap (λ x. utf8_from x rest) (sym e) ∙ v.utf8) in
        let whole : ◌≡◌ {A = List ℕ} (a ∷ rest) (a ∷ n.byte ∷ n.rest) = ap (λ (x : List ℕ). a ∷ x) n.is in
        let a_is : a ≡ 237 → ⊥ = λ i. omega arith in
        let b_is : n.byte ≡ 237 → ⊥ = λ i. let h : n.byte < 192 = n.below in omega arith in
        let p = outside n.byte n.rest b_is (outside a (n.byte ∷ n.rest) a_is (subst (λ (x : List ℕ). is_paired x ≡ true) whole v.paired)) in
        let f = freed n.byte n.rest (freed a (n.byte ∷ n.rest) (subst (λ (x : List ℕ). list_all is_free x ≡ true) whole v.free)) in
        Two a n.byte n.rest whole low high n.above n.below (record { utf8 = n.after; paired = p; free = f })
    by (Second e i) = three_front a rest (omega arith) (omega arith) v.paired v.free (three_bytes a 160 rest (omega arith) (λ j. omega arith) (second_of rest (ap (λ x. utf8_from x rest) (sym e) ∙ v.utf8)))
    by (More e low high) = three_front a rest (omega arith) high v.paired v.free (three_bytes a 128 rest (omega arith) (λ j. absurd (omega arith)) (two_of rest (ap (λ x. utf8_from x rest) (sym e) ∙ v.utf8)))
    by (Nothing e) = absurd (never rest (ap (λ x. utf8_from x rest) (sym e) ∙ v.utf8))
