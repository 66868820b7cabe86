-- A text up to its closing quote, byte by byte.
use Rattle.std.proofs.Common.{◌≡◌, ℕ, [], ◌∷◌, ◌++◌, refl, sym, ap, subst, ◌∙◌, append_assoc}
use Rattle.std.specs.List.{flat_map}
use Rattle.std.proofs.lemmas.List.{append-nil}
use Rattle.std.proofs.lemmas.List.Concat.{flat_map-append}
use Rattle.run_lines.specs.Splits.{Text}
use Rattle.run_lines.specs.Texts.{escape, IsEscapedAt, IsClosed}
use Rattle.run_lines.proofs.Refusing.{pair_is}
use Rattle.run_lines.proofs.Escapes.{not_quote}

-- out was read from the start on, and every text there begins with it
pub record IsAlong (start now out : Text) : Type 0 where
  pub made : start ≡ flat_map escape out ++ now
  pub only : (text behind : Text) → IsClosed start text behind → (more : Text) × (text ≡ out ++ more) × IsClosed now more behind

pub along_begins : (start : Text) → IsAlong start start []
along_begins start = record { made = refl; only = λ text behind h. (text, refl, h) }

-- the first byte of a text, where no quote stands
headed : (now more behind : Text) → ((r : Text) → ¬ (now ≡ 34 ∷ r)) → IsClosed now more behind → (b : ℕ) × (rest : Text) × (more ≡ b ∷ rest) × IsEscapedAt now b (flat_map escape rest ++ 34 ∷ behind)
headed now [] behind unclosed h = absurd (unclosed behind h)
headed now (b ∷ rest) behind unclosed h = (b, rest, refl, h ∙ append_assoc (escape b) (flat_map escape rest) (34 ∷ behind))

pub along_more : (start now behind out out' : Text) (b : ℕ) → IsAlong start now out → ((r : Text) → ¬ (now ≡ 34 ∷ r)) → IsEscapedAt now b behind
    → ((y : ℕ × Text) → IsEscapedAt now y.0 y.1 → y ≡ (b, behind)) → out' ≡ out ++ b ∷ [] → IsAlong start behind out'
along_more start now behind out out' b w unclosed here one e =
    subst (λ (o : Text). IsAlong start behind o) (sym e) (record {
      made = w.made ∙ ap (λ (r : Text). flat_map escape out ++ r) here ∙ sym (append_assoc (flat_map escape out) (escape b) behind) ∙ ap (λ (r : Text). r ++ behind) (pushed out b);
      only = λ text after h.
          let was = w.only text after h in
          let first = headed now was.0 after unclosed was.2 in
          let same = one (first.0, flat_map escape first.1 ++ 34 ∷ after) first.3 in
          let head : first.0 ≡ b = ap (λ (y : ℕ × Text). y.0) same in
          let tail : flat_map escape first.1 ++ 34 ∷ after ≡ behind = ap (λ (y : ℕ × Text). y.1) same in
          (first.1, was.1 ∙ ap (λ (m : Text). out ++ m) (first.2 ∙ ap (λ (c : ℕ). c ∷ first.1) head) ∙ sym (append_assoc out (b ∷ []) first.1), sym tail);
    })
  where
    pushed : (out : Text) (b : ℕ) → flat_map escape out ++ escape b ≡ flat_map escape (out ++ b ∷ [])
    pushed out b = sym (flat_map-append escape out (b ∷ []) ∙ ap (λ (r : Text). flat_map escape out ++ r) (append-nil (escape b)))

closed_only : (now behind more after : Text) → now ≡ 34 ∷ behind → IsClosed now more after → (more ≡ []) × (after ≡ behind)
closed_only now behind [] after is h = let same : after ≡ behind = cc in (refl, same)
closed_only now behind (b ∷ rest) after is h =
    absurd (not_quote now (flat_map escape rest ++ 34 ∷ after) behind b (h ∙ append_assoc (escape b) (flat_map escape rest) (34 ∷ after)) is)

pub along_closes : (start now behind out : Text) → IsAlong start now out → now ≡ 34 ∷ behind → IsClosed start out behind
along_closes start now behind out w is = w.made ∙ ap (λ (r : Text). flat_map escape out ++ r) is

pub along_only : (start now behind out : Text) → IsAlong start now out → now ≡ 34 ∷ behind → (y : Text × Text) → IsClosed start y.0 y.1 → y ≡ (out, behind)
along_only start now behind out w is y h =
    let was = w.only y.0 y.1 h in
    let end = closed_only now behind was.0 y.1 is was.2 in
    pair_is out y.0 behind y.1 (was.1 ∙ ap (λ (m : Text). out ++ m) end.0 ∙ append-nil out) end.1

pub along_fails : (start now out : Text) → IsAlong start now out → ((r : Text) → ¬ (now ≡ 34 ∷ r)) → ((y : ℕ × Text) → ¬ (IsEscapedAt now y.0 y.1)) → (y : Text × Text) → ¬ (IsClosed start y.0 y.1)
along_fails start now out w unclosed none y h =
    let was = w.only y.0 y.1 h in
    let first = headed now was.0 y.1 unclosed was.2 in
    none (first.0, flat_map escape first.1 ++ 34 ∷ y.1) first.3
