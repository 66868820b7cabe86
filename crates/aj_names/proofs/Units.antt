-- The spelling of a unit, by the number of its bytes.
use Rattle.std.proofs.Common.{◌≡◌, ℕ, ◌+◌, ◌-◌, ◌*◌, ◌/◌, ◌%◌, ◌^◌, ◌<◌, ◌≤◌, ◌⊎◌, List, [], ◌∷◌, ◌++◌, refl, ap, ◌∙◌, arith, inl, inr, ltb, false, ◌&&◌}
use Rattle.std.proofs.lemmas.Bool.{lt-ltb, le-ltb, cases_lt}
use Rattle.aj_names.specs.ModifiedUtf8.{unit_spelling, IsUnit, BeginsNoUnit}

pub one_byte : (u : ℕ) → 0 < u → u < 128 → unit_spelling u ≡ u ∷ []
one_byte u low high = rw (lt-ltb 0 u low, lt-ltb u 128 high) refl

not_one : (u : ℕ) → (u ≡ 0) ⊎ (128 ≤ u) → (ltb 0 u && ltb u 128) ≡ false
not_one u (inl zero) = rw zero refl
not_one u (inr high) = rw (lt-ltb 0 u (omega arith), le-ltb u 128 high) refl

pub two_bytes : (u : ℕ) → (u ≡ 0) ⊎ (128 ≤ u) → u < 2048 → unit_spelling u ≡ (192 + u / 64) ∷ (128 + u % 64) ∷ []
two_bytes u low high = rw (not_one u low, lt-ltb u 2048 high) refl

pub three_bytes : (u : ℕ) → 2048 ≤ u → unit_spelling u ≡ (224 + u / 4096) ∷ (128 + u / 64 % 64) ∷ (128 + u % 64) ∷ []
three_bytes u low =
    let far : 128 ≤ u = omega arith in
    rw (not_one u (inr far), le-ltb u 2048 low) refl

-- what stands where a unit's spelling does
pub data Front (u : ℕ) (bytes rest : List ℕ) : Type 0 where
  one : 0 < u → u < 128 → bytes ≡ u ∷ rest → Front u bytes rest
  two : (u ≡ 0) ⊎ (128 ≤ u) → u < 2048 → bytes ≡ (192 + u / 64) ∷ (128 + u % 64) ∷ rest → Front u bytes rest
  three : 2048 ≤ u → u < 2 ^ 16 → bytes ≡ (224 + u / 4096) ∷ (128 + u / 64 % 64) ∷ (128 + u % 64) ∷ rest → Front u bytes rest

pub front : (u : ℕ) (bytes rest : List ℕ) → IsUnit u → bytes ≡ unit_spelling u ++ rest → Front u bytes rest
front u bytes rest fits e =
    elim (cases_lt u 2048) [
      | inl high ↦ elim (cases_lt u 128) [
        | inl low ↦ elim (cases_lt 0 u) [
          | inl more ↦ one more low (e ∙ ap (λ (x : List ℕ). x ++ rest) (one_byte u more low))
          | inr none ↦ two (inl (omega arith)) high (e ∙ ap (λ (x : List ℕ). x ++ rest) (two_bytes u (inl (omega arith)) high))
        ]
        | inr low ↦ two (inr low) high (e ∙ ap (λ (x : List ℕ). x ++ rest) (two_bytes u (inr low) high))
      ]
      | inr low ↦ three low fits (e ∙ ap (λ (x : List ℕ). x ++ rest) (three_bytes u low))
    ]

-- two bytes that spell a unit
pub record IsPair (lead next u : ℕ) : Type 0 where
  pub low : 128 ≤ next
  pub high : next ≤ 191
  pub value : u ≡ (lead - 192) * 64 + (next - 128)
  pub not_short : (u ≡ 0) ⊎ (128 ≤ u)

pub pair_at : (lead u : ℕ) (after rest : List ℕ) → 192 ≤ lead → lead ≤ 223 → IsUnit u → lead ∷ after ≡ unit_spelling u ++ rest → (next : ℕ) × (after ≡ next ∷ rest) × IsPair lead next u
pair_at lead u after rest low high fits e =
    elim (front u (lead ∷ after) rest fits e) [
      | one p q s ↦ let first : lead ≡ u = cc in absurd (omega arith)
      | two p q s ↦
          let first : lead ≡ 192 + u / 64 = cc in
          let others : after ≡ (128 + u % 64) ∷ rest = cc in
          (128 + u % 64, others, record { low = omega arith; high = omega arith; value = omega arith; not_short = p })
      | three p q s ↦ let first : lead ≡ 224 + u / 4096 = cc in absurd (omega arith)
    ]

pub pair_spells : (lead next u : ℕ) (rest : List ℕ) → 192 ≤ lead → lead ≤ 223 → IsPair lead next u → lead ∷ next ∷ rest ≡ unit_spelling u ++ rest
pair_spells lead next u rest low high is =
    let h1 = is.low in
    let h2 = is.high in
    let h3 = is.value in
    let first : 192 + u / 64 ≡ lead = omega arith in
    let second : 128 + u % 64 ≡ next = omega arith in
    rw (two_bytes u is.not_short (omega arith), first, second) refl

-- three bytes that spell a unit
pub record IsTriple (lead middle last u : ℕ) : Type 0 where
  pub middle_low : 128 ≤ middle
  pub middle_high : middle ≤ 191
  pub last_low : 128 ≤ last
  pub last_high : last ≤ 191
  pub value : u ≡ (lead - 224) * 4096 + (middle - 128) * 64 + (last - 128)
  pub not_short : 2048 ≤ u

pub triple_at : (lead u : ℕ) (after rest : List ℕ) → 224 ≤ lead → lead ≤ 239 → IsUnit u → lead ∷ after ≡ unit_spelling u ++ rest
    → (middle : ℕ) × (last : ℕ) × (after ≡ middle ∷ last ∷ rest) × IsTriple lead middle last u
triple_at lead u after rest low high fits e =
    elim (front u (lead ∷ after) rest fits e) [
      | one p q s ↦ let first : lead ≡ u = cc in absurd (omega arith)
      | two p q s ↦ let first : lead ≡ 192 + u / 64 = cc in absurd (omega arith)
      | three p q s ↦
          let first : lead ≡ 224 + u / 4096 = cc in
          let others : after ≡ (128 + u / 64 % 64) ∷ (128 + u % 64) ∷ rest = cc in
          (128 + u / 64 % 64, 128 + u % 64, others, record { middle_low = omega arith; middle_high = omega arith; last_low = omega arith; last_high = omega arith; value = omega arith; not_short = p })
    ]

pub triple_spells : (lead middle last u : ℕ) (rest : List ℕ) → 224 ≤ lead → lead ≤ 239 → IsTriple lead middle last u → lead ∷ middle ∷ last ∷ rest ≡ unit_spelling u ++ rest
triple_spells lead middle last u rest low high is =
    let h1 = is.middle_low in
    let h2 = is.middle_high in
    let h3 = is.last_low in
    let h4 = is.last_high in
    let h5 = is.value in
    let first : 224 + u / 4096 ≡ lead = omega arith in
    let second : 128 + u / 64 % 64 ≡ middle = omega arith in
    let third : 128 + u % 64 ≡ last = omega arith in
    rw (three_bytes u is.not_short, first, second, third) refl

-- what begins with no such byte begins no unit
pub record IsNoLead (lead : ℕ) : Type 0 where
  pub not_one : (lead ≡ 0) ⊎ (128 ≤ lead)
  pub not_more : (lead < 192) ⊎ (240 ≤ lead)

pub no_unit : (lead : ℕ) (after : List ℕ) → IsNoLead lead → BeginsNoUnit (lead ∷ after)
no_unit lead after is u rest fits e =
    let h1 = is.not_one in
    let h2 = is.not_more in
    elim (front u (lead ∷ after) rest fits e) [
      | one p q s ↦ let first : lead ≡ u = cc in omega arith
      | two p q s ↦ let first : lead ≡ 192 + u / 64 = cc in omega arith
      | three p q s ↦ let first : lead ≡ 224 + u / 4096 = cc in omega arith
    ]

pub no_unit_nil : BeginsNoUnit []
no_unit_nil u rest fits e =
    elim (front u [] rest fits e) [ one p q s ↦ cc | two p q s ↦ cc | three p q s ↦ cc ]
