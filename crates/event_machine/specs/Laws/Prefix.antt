-- Beginnings of lists.
use Rattle.std.proofs.Common.{◌≡◌, ◌⊎◌, inl, inr, List, [], ◌∷◌, ◌++◌, refl, sym, ap, ◌∙◌, append_assoc, append-nil}
use Rattle.event_machine.specs.Observation.{IsPrefix}

module _ {Event : Type 0} where
  -- a list begins with itself
  pub prefix_refl : (xs : List Event) → IsPrefix xs xs
  prefix_refl xs = record { rest = []; whole = append-nil xs }

  -- the beginning of a beginning is a beginning
  pub prefix_trans : (xs ys zs : List Event) → IsPrefix xs ys → IsPrefix ys zs → IsPrefix xs zs
  prefix_trans xs ys zs p q =
      let whole = sym (append_assoc xs p.rest q.rest) ∙ ap (λ l. l ++ q.rest) p.whole ∙ q.whole in
      record { rest = p.rest ++ q.rest; whole = whole }

  -- a list begins each list that goes on from it
  pub prefix-append : (xs ys : List Event) → IsPrefix xs (xs ++ ys)
  prefix-append xs ys = record { rest = ys; whole = refl }

  nested : (xs ys us vs : List Event) → xs ++ us ≡ ys ++ vs → IsPrefix xs ys ⊎ IsPrefix ys xs
  nested [] ys us vs e = inl (record { rest = ys; whole = refl })
  nested (x ∷ xs) [] us vs e = inr (record { rest = x ∷ xs; whole = refl })
  nested (x ∷ xs) (y ∷ ys) us vs e =
      let head : x ≡ y = cc in
      let tail : xs ++ us ≡ ys ++ vs = cc in
      elim (nested xs ys us vs tail) [
        | inl p ↦ inl (record { rest = p.rest; whole = let whole = p.whole in cc })
        | inr p ↦ inr (record { rest = p.rest; whole = let whole = p.whole in cc })
      ]

  -- of two beginnings of one list, one begins the other
  pub prefixes_nested : (xs ys zs : List Event) → IsPrefix xs zs → IsPrefix ys zs
      → IsPrefix xs ys ⊎ IsPrefix ys xs
  prefixes_nested xs ys zs p q = nested xs ys p.rest q.rest (p.whole ∙ sym q.whole)
