-- Bytes between quotes.
use Rattle.std.proofs.Common.{◌≡◌, ◌≢◌, ◌⊎◌, ℕ, Bool, false, [], ◌∷◌, ◌++◌, refl, sym, ap, subst, ◌∙◌, arith, inl, inr}
use Rattle.std.specs.Prelude.{◌==◌, ◌||◌, if◌then◌else◌}
use Rattle.std.proofs.lemmas.Bool.{ne_eqb, cases_eq}
use Rattle.run_lines.specs.Splits.{Text}
use Rattle.run_lines.specs.Texts.{escape, IsMarked, IsMarkedAt, IsEscapedAt}
use Rattle.run_lines.proofs.Refusing.{pair_is}

pub marked_or_not : (b : ℕ) → IsMarked b ⊎ ((b ≢ 34) × (b ≢ 92))
marked_or_not b = elim (cases_eq b 34) [
  | inl e ↦ inl (inl e)
  | inr n ↦ elim (cases_eq b 92) [ inl e ↦ inl (inr e) | inr m ↦ inr (n, m) ]
]

chosen : (x y : Bool) (b : ℕ) → (b == 34) ≡ x → (b == 92) ≡ y → escape b ≡ (if x || y then 92 ∷ b ∷ [] else b ∷ [])
chosen x y b p q =
    ap (λ (t : Bool). if t || (b == 92) then 92 ∷ b ∷ [] else b ∷ []) p ∙ ap (λ (t : Bool). if x || t then 92 ∷ b ∷ [] else b ∷ []) q

pub escape_marked : (b : ℕ) → IsMarked b → escape b ≡ 92 ∷ b ∷ []
escape_marked b (inl e) = subst (λ (c : ℕ). escape c ≡ 92 ∷ c ∷ []) (sym e) refl
escape_marked b (inr e) = subst (λ (c : ℕ). escape c ≡ 92 ∷ c ∷ []) (sym e) refl

pub escape_plain : (b : ℕ) → b ≢ 34 → b ≢ 92 → escape b ≡ b ∷ []
escape_plain b n m = chosen false false b (ne_eqb b 34 n) (ne_eqb b 92 m)

-- a marked byte stands at the front
pub marked_at : (text behind : Text) (b : ℕ) → IsMarked b → text ≡ 92 ∷ b ∷ behind → IsEscapedAt text b behind
marked_at text behind b h e = e ∙ ap (λ (w : Text). w ++ behind) (sym (escape_marked b h))

pub plain_at : (text behind : Text) (b : ℕ) → b ≢ 34 → b ≢ 92 → text ≡ b ∷ behind → IsEscapedAt text b behind
plain_at text behind b n m e = e ∙ ap (λ (w : Text). w ++ behind) (sym (escape_plain b n m))

-- what an escaped byte begins with
pub escaped_cases : (text behind : Text) (b : ℕ) → IsEscapedAt text b behind → (IsMarked b × (text ≡ 92 ∷ b ∷ behind)) ⊎ ((b ≢ 34) × (b ≢ 92) × (text ≡ b ∷ behind))
escaped_cases text behind b e = elim (marked_or_not b) [
  | inl h ↦ inl (h, e ∙ ap (λ (w : Text). w ++ behind) (escape_marked b h))
  | inr h ↦ inr (h.0, h.1, e ∙ ap (λ (w : Text). w ++ behind) (escape_plain b h.0 h.1))
]

-- no quote
pub not_quote : (text behind rest : Text) (b : ℕ) → IsEscapedAt text b behind → ¬ (text ≡ 34 ∷ rest)
not_quote text behind rest b e q = elim (escaped_cases text behind b e) [
  | inl h ↦ let is = h.1 in let n : ◌≡◌ {A = ℕ} 92 34 = cc in omega (arith, n)
  | inr h ↦ let is = h.2 in let n : b ≡ 34 = cc in h.0 n
]

pub not_empty : (text behind : Text) (b : ℕ) → IsEscapedAt text b behind → ¬ (text ≡ [])
not_empty text behind b e q = elim (escaped_cases text behind b e) [
  | inl h ↦ let is = h.1 in cc
  | inr h ↦ let is = h.2 in cc
]

-- one byte stands at the front
pub escaped_only : (text a c : Text) (b d : ℕ) → IsEscapedAt text b a → IsEscapedAt text d c → ◌≡◌ {A = ℕ × Text} (d, c) (b, a)
escaped_only text a c b d s t = elim (escaped_cases text a b s) [
  | inl h ↦ elim (escaped_cases text c d t) [
    | inl k ↦ let x = h.1 in let y = k.1 in let p : d ≡ b = cc in let q : c ≡ a = cc in pair_is b d a c p q
    | inr k ↦ let x = h.1 in let y = k.2 in let n : d ≡ 92 = cc in absurd (k.1 n)
  ]
  | inr h ↦ elim (escaped_cases text c d t) [
    | inl k ↦ let x = h.2 in let y = k.1 in let n : b ≡ 92 = cc in absurd (h.1 n)
    | inr k ↦ let x = h.2 in let y = k.2 in let p : d ≡ b = cc in let q : c ≡ a = cc in pair_is b d a c p q
  ]
]

pub marked_only : (text a c : Text) (b d : ℕ) → IsMarkedAt text b a → IsMarkedAt text d c → ◌≡◌ {A = ℕ × Text} (d, c) (b, a)
marked_only text a c b d s t = let x = s.1 in let y = t.1 in let p : d ≡ b = cc in let q : c ≡ a = cc in pair_is b d a c p q

-- behind a backslash
pub escaped_behind : (text rest : Text) → text ≡ 92 ∷ rest → (b : ℕ) (behind : Text) → IsEscapedAt text b behind → IsMarkedAt rest b behind
escaped_behind text rest is b behind e = elim (escaped_cases text behind b e) [
  | inl h ↦ let x = h.1 in let y : rest ≡ b ∷ behind = cc in (h.0, y)
  | inr h ↦ let x = h.2 in let n : b ≡ 92 = cc in absurd (h.1 n)
]
