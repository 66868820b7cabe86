-- The reader of an entry of a constant pool reads the spellings of those that may stand at its index.
use Rattle.std.proofs.Common.{◌≡◌, ℕ, suc, ◌+◌, ◌-◌, ◌^◌, ◌<◌, ◌≤◌, Bool, true, false, ◌&&◌, not, cond, ltb, eqb, List, [], ◌∷◌, ◌++◌, length, Ok, ℤ, pos, negsuc, refl, sym, ap, subst, ◌∙◌, arith, inl, inr, ◌⊎◌}
use Rattle.std.specs.Int.{w16, w32, w64, to_be_bytes, cast_signed, cast_unsigned}
use Rattle.std.proofs.lemmas.Bool.{cases_lt, ltb-true, le-ltb, lt-ltb, eqb-true, and_parts, and_from, not-true}
use Rattle.std.proofs.lemmas.Int.{of_z-to_z}
use Rattle.class_file.specs.declared.pool.PoolEntry.{PoolEntry}
use Rattle.class_file.specs.declared.pool.PoolEntry.TheVariants as entry
use Rattle.class_file.specs.Spelling.{u2, spelled_entry}
use Rattle.class_file.specs.Range.{is_s4, is_s8, is_u2, is_u4, is_u8, are_bytes, entry_fits}
use Rattle.class_file.specs.Text.{is_utf8}
use Rattle.class_file.specs.Sound.{is_wide, is_second}
use Rattle.class_format.specs.declared.fault.ClassFault.TheVariants.{Utf8, PoolTag}
use Rattle.class_format.specs.declared.scope.Scope.{Scope}
use Rattle.class_format.specs.Readers.{Reader, number, sized, made, judged}
use Rattle.class_format.specs.PoolReading.{two, tagged, is_wide_tag, Turn, first_entry, entry_of}
use Rattle.class_format.specs.LawsCodec.{IsBytes, IsBytes-rest, bind_ok, not_cut, ok_is, Takes, IsCodec, u2_codec, u4_codec, u8_codec, sized_spelling, text_codec}
use Rattle.class_format.specs.LawsParts.{both_codec, judged_codec}

-- ---- signed numbers

signed_fits_32 : (n : ℕ) → n < 2 ^ 32 → is_s4 (cast_signed w32 n) ≡ true
signed_fits_32 n lt =
    elim (cases_lt n (2 ^ 31)) [
      | inl low ↦ rw (lt-ltb n (2 ^ 31) low) (lt-ltb n (2 ^ 31) low)
      | inr high ↦ rw (le-ltb n (2 ^ 31) high) (lt-ltb _ _ (omega arith))
    ]

signed_fits_64 : (n : ℕ) → n < 2 ^ 64 → is_s8 (cast_signed w64 n) ≡ true
signed_fits_64 n lt =
    elim (cases_lt n (2 ^ 63)) [
      | inl low ↦ rw (lt-ltb n (2 ^ 63) low) (lt-ltb n (2 ^ 63) low)
      | inr high ↦ rw (le-ltb n (2 ^ 63) high) (lt-ltb _ _ (omega arith))
    ]

signed_again_32 : (z : ℤ) → is_s4 z ≡ true → (cast_signed w32 (cast_unsigned w32 z) ≡ z) × (ltb (cast_unsigned w32 z) (2 ^ 32) ≡ true)
signed_again_32 (pos n) h =
    let lt : n < 2 ^ 31 = ltb-true n (2 ^ 31) h in
    (rw h refl, lt-ltb n (2 ^ 32) (omega arith))
signed_again_32 (negsuc n) h =
    let lt : n < 2 ^ 31 = ltb-true n (2 ^ 31) h in
    let le : 2 ^ 31 ≤ 2 ^ 32 - suc n = omega arith in
    let same : 2 ^ 32 - suc (2 ^ 32 - suc n) ≡ n = omega arith in
    (rw (le-ltb (2 ^ 32 - suc n) (2 ^ 31) le) (ap negsuc same), lt-ltb (2 ^ 32 - suc n) (2 ^ 32) (omega arith))

signed_again_64 : (z : ℤ) → is_s8 z ≡ true → (cast_signed w64 (cast_unsigned w64 z) ≡ z) × (ltb (cast_unsigned w64 z) (2 ^ 64) ≡ true)
signed_again_64 (pos n) h =
    let lt : n < 2 ^ 63 = ltb-true n (2 ^ 63) h in
    (rw h refl, lt-ltb n (2 ^ 64) (omega arith))
signed_again_64 (negsuc n) h =
    let lt : n < 2 ^ 63 = ltb-true n (2 ^ 63) h in
    let le : 2 ^ 63 ≤ 2 ^ 64 - suc n = omega arith in
    let same : 2 ^ 64 - suc (2 ^ 64 - suc n) ≡ n = omega arith in
    (rw (le-ltb (2 ^ 64 - suc n) (2 ^ 63) le) (ap negsuc same), lt-ltb (2 ^ 64 - suc n) (2 ^ 64) (omega arith))

-- ---- entries

-- a text is modified UTF-8
abbrev pub has_text : PoolEntry → Bool
has_text (entry.Utf8 text) = is_utf8 text
has_text _ = true

-- the entry has a spelling
abbrev pub is_spelled : PoolEntry → Bool
is_spelled e = entry_fits e && (not (is_second e) && has_text e)

-- and stands at the index: it is no Long or Double without a second index below the count
abbrev pub is_placed : ℕ → ℕ → PoolEntry → Bool
is_placed count index e = not (is_wide e && eqb (index + 1) count)

abbrev pub stands : ℕ → Turn → PoolEntry → Bool
stands count turn e = cond turn.1 (is_second e) (is_spelled e && is_placed count turn.0 e)

two_codec : IsCodec two (λ p. u2 p.0 ++ u2 p.1) (λ p. is_u2 p.0 && is_u2 p.1)
two_codec =
    let c = both_codec (number w16) (number w16) u2 u2 is_u2 is_u2 u2_codec u2_codec in
    record { takes = c.takes; again = c.again }

utf8_codec : (index : ℕ) → IsCodec (judged is_utf8 (λ text. Utf8 index) (sized w16)) (sized_spelling w16) (λ text. (is_u2 (length text) && are_bytes text) && is_utf8 text)
utf8_codec index = judged_codec is_utf8 (λ text. Utf8 index) (sized w16) (sized_spelling w16) (λ text. is_u2 (length text) && are_bytes text) text_codec

chosen : {A : Type 0} (b : Bool) (x y z : A) → cond b x y ≡ z → ((b ≡ true) × (x ≡ z)) ⊎ ((b ≡ false) × (y ≡ z))
chosen true x y z e = inl (refl, e)
chosen false x y z e = inr (refl, e)

-- what a tag and the bytes behind it are read as
record Tagged (tag : ℕ) (bytes : List ℕ) (y : PoolEntry × List ℕ) : Type 0 where
  taken : Takes (tag ∷ bytes) (spelled_entry y.0) y.1
  spelled : is_spelled y.0 ≡ true
  wide : is_wide y.0 ≡ is_wide_tag tag

arm : {X : Type 0} (k : ℕ) (h : X → PoolEntry) (r : Reader X) (f : X → List ℕ) (p : X → Bool) → IsCodec r f p
    → ((x : X) → p x ≡ true → (spelled_entry (h x) ≡ k ∷ f x) × ((is_spelled (h x) ≡ true) × (is_wide (h x) ≡ is_wide_tag k)))
    → (scope : Scope) (tag : ℕ) (bytes : List ℕ) (y : PoolEntry × List ℕ) → IsBytes bytes → eqb tag k ≡ true → made h r scope bytes ≡ Ok y → Tagged tag bytes y
arm k h r f p c there scope tag bytes y fits is_k e =
    let a = bind_ok (r scope bytes) (λ v. Ok (h v.0, v.1)) y e in
    let t = c.takes scope bytes a.0 fits a.1 in
    let g = there a.0.0 t.1 in
    let tag-is = eqb-true tag k is_k in
    let parts : tag ∷ bytes ≡ spelled_entry (h a.0.0) ++ a.0.1 = rw (tag-is, g.0) (ap (λ (s : List ℕ). k ∷ s) t.0.parts) in
    subst (λ (z : PoolEntry × List ℕ). Tagged tag bytes z) (ok_is (h a.0.0, a.0.1) y a.2)
    (record { taken = record { parts = parts; rest_fits = t.0.rest_fits }; spelled = g.1.0; wide = g.1.1 ∙ ap is_wide_tag (sym tag-is) })

module _ (index : ℕ) (scope : Scope) (tag : ℕ) (bytes : List ℕ) (y : PoolEntry × List ℕ) (fits : IsBytes bytes) where
  pair_arm : (k : ℕ) (h : ℕ → ℕ → PoolEntry) → ((x : ℕ × ℕ) → (is_u2 x.0 && is_u2 x.1) ≡ true → (spelled_entry (h x.0 x.1) ≡ k ∷ (u2 x.0 ++ u2 x.1)) × ((is_spelled (h x.0 x.1) ≡ true) × (is_wide (h x.0 x.1) ≡ is_wide_tag k)))
      → eqb tag k ≡ true → made (λ p. h p.0 p.1) two scope bytes ≡ Ok y → Tagged tag bytes y
  pair_arm k h there is_k e = arm k (λ p. h p.0 p.1) two (λ p. u2 p.0 ++ u2 p.1) (λ p. is_u2 p.0 && is_u2 p.1) two_codec there scope tag bytes y fits is_k e

  tagged_takes : tagged index tag scope bytes ≡ Ok y → Tagged tag bytes y
  unfolding tagged
  tagged_takes e =
      elim (chosen (eqb tag 1) _ _ (Ok y) e) [
        | inl p ↦ arm 1 entry.Utf8 (judged is_utf8 (λ text. Utf8 index) (sized w16)) (sized_spelling w16) (λ text. (is_u2 (length text) && are_bytes text) && is_utf8 text) (utf8_codec index) (λ x f. let g = and_parts (is_u2 (length x) && are_bytes x) (is_utf8 x) f in (refl, (and_from _ _ g.0 g.1, refl))) scope tag bytes y fits p.0 p.1
        | inr q1 ↦ elim (chosen (eqb tag 3) _ _ (Ok y) q1.1) [
          | inl p ↦ arm 3 (λ n. entry.Integer (cast_signed w32 n)) (number w32) (to_be_bytes w32) is_u4 u4_codec (λ x f. (ap (λ (k : ℕ). 3 ∷ to_be_bytes w32 k) (of_z-to_z w32 x (ltb-true _ _ f)), (and_from _ _ (signed_fits_32 x (ltb-true _ _ f)) refl, refl))) scope tag bytes y fits p.0 p.1
          | inr q3 ↦ elim (chosen (eqb tag 4) _ _ (Ok y) q3.1) [
            | inl p ↦ arm 4 entry.Float (number w32) (to_be_bytes w32) is_u4 u4_codec (λ x f. (refl, (and_from _ _ f refl, refl))) scope tag bytes y fits p.0 p.1
            | inr q4 ↦ elim (chosen (eqb tag 5) _ _ (Ok y) q4.1) [
              | inl p ↦ arm 5 (λ n. entry.Long (cast_signed w64 n)) (number w64) (to_be_bytes w64) is_u8 u8_codec (λ x f. (ap (λ (k : ℕ). 5 ∷ to_be_bytes w64 k) (of_z-to_z w64 x (ltb-true _ _ f)), (and_from _ _ (signed_fits_64 x (ltb-true _ _ f)) refl, refl))) scope tag bytes y fits p.0 p.1
              | inr q5 ↦ elim (chosen (eqb tag 6) _ _ (Ok y) q5.1) [
                | inl p ↦ arm 6 entry.Double (number w64) (to_be_bytes w64) is_u8 u8_codec (λ x f. (refl, (and_from _ _ f refl, refl))) scope tag bytes y fits p.0 p.1
                | inr q6 ↦ elim (chosen (eqb tag 7) _ _ (Ok y) q6.1) [
                  | inl p ↦ arm 7 entry.Class (number w16) u2 is_u2 u2_codec (λ x f. (refl, (and_from _ _ f refl, refl))) scope tag bytes y fits p.0 p.1
                  | inr q7 ↦ elim (chosen (eqb tag 8) _ _ (Ok y) q7.1) [
                    | inl p ↦ arm 8 entry.String (number w16) u2 is_u2 u2_codec (λ x f. (refl, (and_from _ _ f refl, refl))) scope tag bytes y fits p.0 p.1
                    | inr q8 ↦ elim (chosen (eqb tag 9) _ _ (Ok y) q8.1) [
                      | inl p ↦ pair_arm 9 entry.Fieldref (λ x f. (refl, (and_from _ _ f refl, refl))) p.0 p.1
                      | inr q9 ↦ elim (chosen (eqb tag 10) _ _ (Ok y) q9.1) [
                        | inl p ↦ pair_arm 10 entry.Methodref (λ x f. (refl, (and_from _ _ f refl, refl))) p.0 p.1
                        | inr q10 ↦ elim (chosen (eqb tag 11) _ _ (Ok y) q10.1) [
                          | inl p ↦ pair_arm 11 entry.InterfaceMethodref (λ x f. (refl, (and_from _ _ f refl, refl))) p.0 p.1
                          | inr q11 ↦ elim (chosen (eqb tag 12) _ _ (Ok y) q11.1) [
                            | inl p ↦ pair_arm 12 entry.NameAndType (λ x f. (refl, (and_from _ _ f refl, refl))) p.0 p.1
                            | inr q12 ↦ absurd (let k = q12.1 in cc)
                          ]
                        ]
                      ]
                    ]
                  ]
                ]
              ]
            ]
          ]
        ]
      ]

unplaced : (b c : Bool) → (b && c) ≡ false → not (b && c) ≡ true
unplaced b c h = rw h refl

first_takes : (count index : ℕ) (scope : Scope) (bytes : List ℕ) (y : PoolEntry × List ℕ) → IsBytes bytes → first_entry count index scope bytes ≡ Ok y
    → Takes bytes (spelled_entry y.0) y.1 × ((is_spelled y.0 && is_placed count index y.0) ≡ true)
first_takes count index scope [] y fits e = absurd cc
first_takes count index scope (tag ∷ bytes) y fits e =
    let g = not_cut (is_wide_tag tag && eqb (index + 1) count) (PoolTag index tag) (tagged index tag scope bytes) y e in
    let t = tagged_takes index scope tag bytes y (IsBytes-rest tag bytes fits) g.1 in
    (t.taken, and_from (is_spelled y.0) (is_placed count index y.0) t.spelled (unplaced (is_wide y.0) (eqb (index + 1) count) (subst (λ (w : Bool). (w && eqb (index + 1) count) ≡ false) (sym t.wide) g.0)))

-- a test that was not passed
pub missed : (b c : Bool) → not (b && c) ≡ true → (b && c) ≡ false
missed b c h = not-true (b && c) h

module _ (count index : ℕ) (scope : Scope) (rest : List ℕ) where
  first_again : (e : PoolEntry) → (is_spelled e && is_placed count index e) ≡ true → first_entry count index scope (spelled_entry e ++ rest) ≡ Ok (e, rest)
  unfolding tagged
  first_again (entry.Utf8 text) h =
      let a = and_parts (entry_fits (entry.Utf8 text) && is_utf8 text) true h in
      let b = and_parts (entry_fits (entry.Utf8 text)) (is_utf8 text) a.0 in
      rw ((utf8_codec index).again scope text rest (and_from (is_u2 (length text) && are_bytes text) (is_utf8 text) b.0 b.1)) refl
  first_again (entry.Integer n) h =
      let a = signed_again_32 n (and_parts _ _ (and_parts (is_s4 n && true) true h).0).0 in
      rw (u4_codec.again scope (cast_unsigned w32 n) rest a.1, a.0) refl
  first_again (entry.Float bits) h = rw (u4_codec.again scope bits rest (and_parts _ _ (and_parts (is_u4 bits && true) true h).0).0) refl
  first_again (entry.Long n) h =
      let p = and_parts (is_s8 n && true) (not (true && eqb (index + 1) count)) h in
      let a = signed_again_64 n (and_parts (is_s8 n) true p.0).0 in
      rw (missed true (eqb (index + 1) count) p.1, u8_codec.again scope (cast_unsigned w64 n) rest a.1, a.0) refl
  first_again (entry.Double bits) h =
      let p = and_parts (is_u8 bits && true) (not (true && eqb (index + 1) count)) h in
      rw (missed true (eqb (index + 1) count) p.1, u8_codec.again scope bits rest (and_parts (is_u8 bits) true p.0).0) refl
  first_again (entry.Class name) h = rw (u2_codec.again scope name rest (and_parts _ _ (and_parts (is_u2 name && true) true h).0).0) refl
  first_again (entry.String text) h = rw (u2_codec.again scope text rest (and_parts _ _ (and_parts (is_u2 text && true) true h).0).0) refl
  first_again (entry.Fieldref class member) h = rw (two_codec.again scope (class, member) rest (and_parts _ _ (and_parts ((is_u2 class && is_u2 member) && true) true h).0).0) refl
  first_again (entry.Methodref class member) h = rw (two_codec.again scope (class, member) rest (and_parts _ _ (and_parts ((is_u2 class && is_u2 member) && true) true h).0).0) refl
  first_again (entry.InterfaceMethodref class member) h = rw (two_codec.again scope (class, member) rest (and_parts _ _ (and_parts ((is_u2 class && is_u2 member) && true) true h).0).0) refl
  first_again (entry.NameAndType name descriptor) h = rw (two_codec.again scope (name, descriptor) rest (and_parts _ _ (and_parts ((is_u2 name && is_u2 descriptor) && true) true h).0).0) refl
  first_again entry.Second h = absurd (let k : false ≡ true = h in cc)

is_the_second : (e : PoolEntry) → is_second e ≡ true → e ≡ entry.Second
is_the_second entry.Second h = refl
is_the_second _ h = absurd cc

turn_takes : (count index : ℕ) (wide : Bool) (scope : Scope) (bytes : List ℕ) (y : PoolEntry × List ℕ) → IsBytes bytes → entry_of count (index, wide) scope bytes ≡ Ok y
    → Takes bytes (spelled_entry y.0) y.1 × (stands count (index, wide) y.0 ≡ true)
unfolding entry_of
turn_takes count index true scope bytes y fits e =
    subst (λ (z : PoolEntry × List ℕ). Takes bytes (spelled_entry z.0) z.1 × (is_second z.0 ≡ true)) (ok_is (entry.Second, bytes) y e) (record { parts = refl; rest_fits = fits }, refl)
turn_takes count index false scope bytes y fits e = first_takes count index scope bytes y fits e

turn_again : (count index : ℕ) (wide : Bool) (scope : Scope) (e : PoolEntry) (rest : List ℕ) → stands count (index, wide) e ≡ true → entry_of count (index, wide) scope (spelled_entry e ++ rest) ≡ Ok (e, rest)
unfolding entry_of
turn_again count index true scope e rest h =
    subst (λ (x : PoolEntry). entry_of count (index, true) scope (spelled_entry x ++ rest) ≡ Ok (x, rest)) (sym (is_the_second e h)) refl
turn_again count index false scope e rest h = first_again count index scope rest e h

pub entry_codec : (count : ℕ) (turn : Turn) → IsCodec (entry_of count turn) spelled_entry (stands count turn)
entry_codec count turn = record {
  takes = λ scope bytes y fits e. turn_takes count turn.0 turn.1 scope bytes y fits e;
  again = λ scope e rest h. turn_again count turn.0 turn.1 scope e rest h;
}
