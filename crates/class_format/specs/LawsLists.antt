-- Readers of lists: what they read are the lists whose items fit, and the spelling is that of the items.
use Rattle.std.proofs.Common.{false, ◌≡◌, ℕ, zero, suc, Bool, true, ◌&&◌, List, [], ◌∷◌, ◌++◌, length, Ok, refl, sym, ap, subst, ◌∙◌, append_assoc}
use Rattle.std.specs.List.{flat_map, list_all}
use Rattle.std.specs.Int.{w16, to_be_bytes}
use Rattle.std.proofs.lemmas.Bool.{and_parts, and_from}
use Rattle.std.proofs.lemmas.List.Concat.{flat_map-cons}
use Rattle.class_file.specs.Spelling.{counted}
use Rattle.class_file.specs.Range.{is_u2, counted_fits}
use Rattle.class_format.specs.declared.scope.Scope.{Scope}
use Rattle.class_format.specs.Readers.{◌>>=◌, Reader, number, times, in_turn, listed}
use Rattle.class_format.specs.LawsCodec.{IsBytes, bind_ok, ok_is, Takes, Takes-then, IsCodec, u2_codec}
use Rattle.class_format.specs.LawsParts.{same_codec}

-- ---- lists

-- each passes the test, which depends on those before
unfoldable pub all_in_turn : {S X : Type 0} → (S → X → Bool) → (S → X → S) → S → List X → Bool
all_in_turn p next s [] = true
all_in_turn p next s (x ∷ xs) = p s x && all_in_turn p next (next s x) xs

module _ {S X : Type 0} (r : S → Reader X) (next : S → X → S) (f : X → List ℕ) (p : S → X → Bool) (c : (s : S) → IsCodec (r s) f (p s)) where
  pub turns_take : (n : ℕ) (s : S) (scope : Scope) (bytes : List ℕ) (x : List X × List ℕ) → IsBytes bytes → in_turn r next s n scope bytes ≡ Ok x
      → Takes bytes (flat_map f x.0) x.1 × ((length x.0 ≡ n) × (all_in_turn p next s x.0 ≡ true))
  unfolding in_turn all_in_turn
  turns_take zero s scope bytes x fits e =
      subst (λ (y : List X × List ℕ). Takes bytes (flat_map f y.0) y.1 × ((length y.0 ≡ 0) × (all_in_turn p next s y.0 ≡ true))) (ok_is ([], bytes) x e) (record { parts = refl; rest_fits = fits }, (refl, refl))
  turns_take (suc n) s scope bytes x fits e =
      let a = bind_ok (r s scope bytes) (λ first. in_turn r next (next s first.0) n scope first.1 >>= λ others. Ok (first.0 ∷ others.0, others.1)) x e in
      let b = bind_ok (in_turn r next (next s a.0.0) n scope a.0.1) (λ others. Ok (a.0.0 ∷ others.0, others.1)) x a.2 in
      let first = (c s).takes scope bytes a.0 fits a.1 in
      let second = turns_take n (next s a.0.0) scope a.0.1 b.0 first.0.rest_fits b.1 in
      let whole = Takes-then bytes (f a.0.0) a.0.1 (flat_map f b.0.0) b.0.1 first.0 second.0 in
      subst (λ (y : List X × List ℕ). Takes bytes (flat_map f y.0) y.1 × ((length y.0 ≡ suc n) × (all_in_turn p next s y.0 ≡ true))) (ok_is (a.0.0 ∷ b.0.0, b.0.1) x b.2)
      (rw flat_map-cons whole, (ap suc second.1.0, and_from (p s a.0.0) (all_in_turn p next (next s a.0.0) b.0.0) first.1 second.1.1))

  pub turns_again : (s : S) (scope : Scope) (xs : List X) (rest : List ℕ) → all_in_turn p next s xs ≡ true → in_turn r next s (length xs) scope (flat_map f xs ++ rest) ≡ Ok (xs, rest)
  unfolding in_turn all_in_turn
  turns_again s scope [] rest fits = refl
  turns_again s scope (x ∷ xs) rest fits =
      let h = and_parts (p s x) (all_in_turn p next (next s x) xs) fits in
      let regrouped : flat_map f (x ∷ xs) ++ rest ≡ f x ++ (flat_map f xs ++ rest) = ap (λ (t : List ℕ). t ++ rest) (flat_map-cons f x xs) ∙ append_assoc (f x) (flat_map f xs) rest in
      ap (in_turn r next s (suc (length xs)) scope) regrouped ∙ rw ((c s).again scope x (flat_map f xs ++ rest) h.0, turns_again (next s x) scope xs rest h.1) refl

  -- behind their count
  pub counted_codec : (s : S) → IsCodec (λ scope bytes. number w16 scope bytes >>= λ n. in_turn r next s n.0 scope n.1) (counted f) (λ xs. is_u2 (length xs) && all_in_turn p next s xs)
  counted_codec s = record {
    takes = λ scope bytes x fits e.
        let a = bind_ok (number w16 scope bytes) (λ n. in_turn r next s n.0 scope n.1) x e in
        let t = u2_codec.takes scope bytes a.0 fits a.1 in
        let u = turns_take a.0.0 s scope a.0.1 x t.0.rest_fits a.2 in
        let whole = Takes-then bytes (to_be_bytes w16 a.0.0) a.0.1 (flat_map f x.0) x.1 t.0 u.0 in
        (subst (λ (k : ℕ). Takes bytes (to_be_bytes w16 k ++ flat_map f x.0) x.1) (sym u.1.0) whole, and_from _ _ (subst (λ (k : ℕ). is_u2 k ≡ true) (sym u.1.0) t.1) u.1.1);
    again = λ scope xs rest fits.
        let h = and_parts (is_u2 (length xs)) (all_in_turn p next s xs) fits in
        ap (λ (b : List ℕ). number w16 scope b >>= λ n. in_turn r next s n.0 scope n.1) (append_assoc (to_be_bytes w16 (length xs)) (flat_map f xs) rest)
        ∙ rw (u2_codec.again scope (length xs) (flat_map f xs ++ rest) h.0) (turns_again s scope xs rest h.1);
  }

module _ {X : Type 0} (r : Reader X) (f : X → List ℕ) (p : X → Bool) (c : IsCodec r f p) where
  times_take : (n : ℕ) (scope : Scope) (bytes : List ℕ) (x : List X × List ℕ) → IsBytes bytes → times r n scope bytes ≡ Ok x
      → Takes bytes (flat_map f x.0) x.1 × ((length x.0 ≡ n) × (list_all p x.0 ≡ true))
  unfolding times
  times_take zero scope bytes x fits e =
      subst (λ (y : List X × List ℕ). Takes bytes (flat_map f y.0) y.1 × ((length y.0 ≡ 0) × (list_all p y.0 ≡ true))) (ok_is ([], bytes) x e) (record { parts = refl; rest_fits = fits }, (refl, refl))
  times_take (suc n) scope bytes x fits e =
      let a = bind_ok (r scope bytes) (λ first. times r n scope first.1 >>= λ others. Ok (first.0 ∷ others.0, others.1)) x e in
      let b = bind_ok (times r n scope a.0.1) (λ others. Ok (a.0.0 ∷ others.0, others.1)) x a.2 in
      let first = c.takes scope bytes a.0 fits a.1 in
      let second = times_take n scope a.0.1 b.0 first.0.rest_fits b.1 in
      let whole = Takes-then bytes (f a.0.0) a.0.1 (flat_map f b.0.0) b.0.1 first.0 second.0 in
      subst (λ (y : List X × List ℕ). Takes bytes (flat_map f y.0) y.1 × ((length y.0 ≡ suc n) × (list_all p y.0 ≡ true))) (ok_is (a.0.0 ∷ b.0.0, b.0.1) x b.2)
      (rw flat_map-cons whole, (ap suc second.1.0, and_from (p a.0.0) (list_all p b.0.0) first.1 second.1.1))

  times_again : (scope : Scope) (xs : List X) (rest : List ℕ) → list_all p xs ≡ true → times r (length xs) scope (flat_map f xs ++ rest) ≡ Ok (xs, rest)
  unfolding times
  times_again scope [] rest fits = refl
  times_again scope (x ∷ xs) rest fits =
      let h = and_parts (p x) (list_all p xs) fits in
      let regrouped : flat_map f (x ∷ xs) ++ rest ≡ f x ++ (flat_map f xs ++ rest) = ap (λ (t : List ℕ). t ++ rest) (flat_map-cons f x xs) ∙ append_assoc (f x) (flat_map f xs) rest in
      ap (times r (suc (length xs)) scope) regrouped ∙ rw (c.again scope x (flat_map f xs ++ rest) h.0, times_again scope xs rest h.1) refl

  pub listed_codec : IsCodec (listed r) (counted f) (counted_fits p)
  listed_codec = record {
    takes = λ scope bytes x fits e.
        let a = bind_ok (number w16 scope bytes) (λ n. times r n.0 scope n.1) x e in
        let t = u2_codec.takes scope bytes a.0 fits a.1 in
        let u = times_take a.0.0 scope a.0.1 x t.0.rest_fits a.2 in
        let whole = Takes-then bytes (to_be_bytes w16 a.0.0) a.0.1 (flat_map f x.0) x.1 t.0 u.0 in
        (subst (λ (k : ℕ). Takes bytes (to_be_bytes w16 k ++ flat_map f x.0) x.1) (sym u.1.0) whole, and_from _ _ (subst (λ (k : ℕ). is_u2 k ≡ true) (sym u.1.0) t.1) u.1.1);
    again = λ scope xs rest fits.
        let h = and_parts (is_u2 (length xs)) (list_all p xs) fits in
        ap (listed r scope) (append_assoc (to_be_bytes w16 (length xs)) (flat_map f xs) rest)
        ∙ rw (u2_codec.again scope (length xs) (flat_map f xs ++ rest) h.0) (times_again scope xs rest h.1);
  }

-- a test of two parts
pub split_all : {X : Type 0} (p q t : X → Bool) → ((x : X) → p x ≡ (q x && t x)) → (xs : List X) → list_all p xs ≡ (list_all q xs && list_all t xs)
split_all p q t same [] = refl
split_all p q t same (x ∷ xs) = ap (λ (b : Bool). b && list_all p xs) (same x) ∙ ap (λ (b : Bool). (q x && t x) && b) (split_all p q t same xs) ∙ and_swap (q x) (t x) (list_all q xs) (list_all t xs)
  where
    and_swap : (a b c d : Bool) → ((a && b) && (c && d)) ≡ ((a && c) && (b && d))
    and_swap true true c d = refl
    and_swap true false true d = refl
    and_swap true false false d = refl
    and_swap false b c d = refl

pub and_assoc : (a b c : Bool) → (a && (b && c)) ≡ ((a && b) && c)
and_assoc true b c = refl
and_assoc false b c = refl

-- items that are judged
pub sound_listed : {X : Type 0} (r : Reader X) (f : X → List ℕ) (p t : X → Bool) → IsCodec r f (λ x. p x && t x) → IsCodec (listed r) (counted f) (λ xs. counted_fits p xs && list_all t xs)
sound_listed r f p t c =
    same_codec (listed r) (counted f) (counted_fits (λ x. p x && t x)) (λ xs. counted_fits p xs && list_all t xs)
    (λ xs. ap (λ (b : Bool). is_u2 (length xs) && b) (split_all (λ x. p x && t x) p t (λ x. refl) xs) ∙ and_assoc (is_u2 (length xs)) (list_all p xs) (list_all t xs))
    (listed_codec r f (λ x. p x && t x) c)

-- items that do not depend on those before
pub all_alike : {S X : Type 0} (p : X → Bool) (next : S → X → S) (s : S) (xs : List X) → all_in_turn (λ s. p) next s xs ≡ list_all p xs
unfolding all_in_turn
all_alike p next s [] = refl
all_alike p next s (x ∷ xs) = ap (λ (b : Bool). p x && b) (all_alike p next (next s x) xs)
