-- Lists of words with a comma between each two, word by word.
use Rattle.std.proofs.Common.{◌≡◌, ◌≢◌, ◌⊎◌, ℕ, List, [], ◌∷◌, ◌++◌, refl, sym, ap, subst, ◌∙◌, inl, inr, append_assoc}
use Rattle.std.specs.List.{AllZip, join_with_byte}
use Rattle.run_lines.specs.Splits.{Text}
use Rattle.run_lines.specs.Lists.{IsWordAt, IsListAt}
use Rattle.run_lines.proofs.Refusing.{pair_is}

module _ {X : Type 0} (S : X → Text → Type 0) (close : ℕ) where
  -- the last word, or one with a comma behind it
  abbrev Ends : Text → X → List X → Text → Type 0
  Ends now x more behind = IsWordAt S now x (close ∷ behind) × (more ≡ [])

  record GoesOn (now : Text) (x : X) (more : List X) (behind : Text) : Type 0 where
    rest : Text
    here : IsWordAt S now x (44 ∷ rest)
    next : X
    others : List X
    are : more ≡ next ∷ others
    listed : IsListAt S close rest (next ∷ others) behind

  by_words : (now : Text) (x : X) (more : List X) (behind : Text) (words : List Text) → AllZip S (x ∷ more) words → now ≡ join_with_byte 44 words ++ close ∷ behind → Ends now x more behind ⊎ GoesOn now x more behind
  by_words now x more behind [] all e = absurd all
  by_words now x [] behind (w ∷ []) all e = inl (record { word = w; is_word = all.0; front = e }, refl)
  by_words now x (y ∷ ys) behind (w ∷ []) all e = absurd all.1
  by_words now x [] behind (w ∷ v ∷ vs) all e = absurd all.1
  by_words now x (y ∷ ys) behind (w ∷ v ∷ vs) all e = inr (record {
    rest = join_with_byte 44 (v ∷ vs) ++ close ∷ behind;
    here = record { word = w; is_word = all.0; front = e ∙ append_assoc w (44 ∷ join_with_byte 44 (v ∷ vs)) (close ∷ behind) };
    next = y;
    others = ys;
    are = refl;
    listed = record { words = v ∷ vs; are_words = all.1; front = refl };
  })

  cases : (now : Text) (x : X) (more : List X) (behind : Text) → IsListAt S close now (x ∷ more) behind → Ends now x more behind ⊎ GoesOn now x more behind
  cases now x more behind l = by_words now x more behind l.words l.are_words l.front

  ends : (now : Text) (x : X) (behind : Text) → IsWordAt S now x (close ∷ behind) → IsListAt S close now (x ∷ []) behind
  ends now x behind w = record { words = w.word ∷ []; are_words = (w.is_word, tt); front = w.front }

  goes : (now rest : Text) (x y : X) (ys : List X) (behind : Text) → IsWordAt S now x (44 ∷ rest) → IsListAt S close rest (y ∷ ys) behind → IsListAt S close now (x ∷ y ∷ ys) behind
  goes now rest x y ys behind w l = by (l.words) l.are_words l.front
    where
      by : (words : List Text) → AllZip S (y ∷ ys) words → rest ≡ join_with_byte 44 words ++ close ∷ behind → IsListAt S close now (x ∷ y ∷ ys) behind
      by [] all e = absurd all
      by (v ∷ vs) all e = record {
        words = w.word ∷ v ∷ vs;
        are_words = (w.is_word, all);
        front = w.front ∙ ap (λ (r : Text). w.word ++ 44 ∷ r) e ∙ sym (append_assoc w.word (44 ∷ join_with_byte 44 (v ∷ vs)) (close ∷ behind));
      }

  -- out was read from the start on, and every list there begins with it and has one more value at least
  pub record IsBehind (start now : Text) (out : List X) : Type 0 where
    pub made : (x : X) (more : List X) (behind : Text) → IsListAt S close now (x ∷ more) behind → IsListAt S close start (out ++ x ∷ more) behind
    pub only : (xs : List X) (behind : Text) → IsListAt S close start xs behind → (x : X) × (more : List X) × (xs ≡ out ++ x ∷ more) × IsListAt S close now (x ∷ more) behind

  pub empty_made : (start behind : Text) → start ≡ close ∷ behind → IsListAt S close start [] behind
  empty_made start behind e = record { words = []; are_words = tt; front = e }

  no_words : (start behind : Text) → IsListAt S close start [] behind → start ≡ close ∷ behind
  no_words start behind l = by l.words l.are_words l.front
    where
      by : (words : List Text) → AllZip S [] words → start ≡ join_with_byte 44 words ++ close ∷ behind → start ≡ close ∷ behind
      by [] all e = e
      by (w ∷ ws) all e = absurd all

  -- no word begins as the bracket
  pub empty_only : ((x : X) (word r t : Text) → S x word → ¬ (word ++ r ≡ close ∷ t)) → (start behind : Text) → start ≡ close ∷ behind → (y : List X × Text) → IsListAt S close start y.0 y.1 → y ≡ ([], behind)
  empty_only unlike start behind e y l = by y.0 y.1 l
    where
      by : (xs : List X) (b : Text) → IsListAt S close start xs b → ◌≡◌ {A = List X × Text} (xs, b) ([], behind)
      by [] b l = let is = no_words start b l in let same : b ≡ behind = cc in pair_is [] [] behind b refl same
      by (x ∷ more) b l = elim (cases start x more b l) [
        | inl h ↦ absurd (unlike x h.0.word (close ∷ b) behind h.0.is_word (sym h.0.front ∙ e))
        | inr h ↦ absurd (unlike x h.here.word (44 ∷ h.rest) behind h.here.is_word (sym h.here.front ∙ e))
      ]

  pub empty_read : ((x : X) (word r t : Text) → S x word → ¬ (word ++ r ≡ close ∷ t)) → (start behind : Text) (xs : List X) → xs ≡ [] → start ≡ close ∷ behind
      → IsListAt S close start xs behind × ((y : List X × Text) → IsListAt S close start y.0 y.1 → y ≡ (xs, behind))
  empty_read unlike start behind xs e is = (
    subst (λ (l : List X). IsListAt S close start l behind) (sym e) (empty_made start behind is),
    λ y l. empty_only unlike start behind is y l ∙ (λ i. (sym e i, behind)),
  )

  behind_first : (start : Text) → ((r : Text) → ¬ (start ≡ close ∷ r)) → IsBehind start start []
  behind_first start unclosed = record { made = λ x more behind l. l; only = λ xs behind l. by xs behind l }
    where
      by : (xs : List X) (behind : Text) → IsListAt S close start xs behind → (x : X) × (more : List X) × (xs ≡ [] ++ x ∷ more) × IsListAt S close start (x ∷ more) behind
      by [] behind l = absurd (unclosed behind (no_words start behind l))
      by (x ∷ more) behind l = (x, more, refl, l)

  pub behind_begins : (start : Text) (out : List X) → out ≡ [] → ((r : Text) → ¬ (start ≡ close ∷ r)) → IsBehind start start out
  behind_begins start out e unclosed = subst (IsBehind start start) (sym e) (behind_first start unclosed)

  -- what is known of a word that was read: there is no other before a comma or the bracket
  pub record IsOne (now : Text) (x : X) (behind : Text) : Type 0 where
    pub comma : (y : X) (rest : Text) → IsWordAt S now y (44 ∷ rest) → ◌≡◌ {A = X × Text} (y, 44 ∷ rest) (x, behind)
    pub bracket : (y : X) (rest : Text) → IsWordAt S now y (close ∷ rest) → ◌≡◌ {A = X × Text} (y, close ∷ rest) (x, behind)

  left : {A B : Type 0} (y z : A × B) → y ≡ z → y.0 ≡ z.0
  left y z e = ap (λ p. p.0) e

  right : {A B : Type 0} (y z : A × B) → y ≡ z → y.1 ≡ z.1
  right y z e = ap (λ p. p.1) e

  grown : (out : List X) (x : X) (more : List X) → (out ++ x ∷ []) ++ more ≡ out ++ x ∷ more
  grown out x more = append_assoc out (x ∷ []) more

  pub behind_more : close ≢ 44 → (start now behind next : Text) (out out' : List X) (x : X) → IsBehind start now out → IsWordAt S now x behind → IsOne now x behind → behind ≡ 44 ∷ next → out' ≡ out ++ x ∷ [] → IsBehind start next out'
  behind_more other start now behind next out out' x w here one is e =
      subst (λ (o : List X). IsBehind start next o) (sym e) (record { made = made; only = only })
    where
      made : (y : X) (ys : List X) (b : Text) → IsListAt S close next (y ∷ ys) b → IsListAt S close start ((out ++ x ∷ []) ++ y ∷ ys) b
      made y ys b l =
          subst (λ (xs : List X). IsListAt S close start xs b) (sym (grown out x (y ∷ ys)))
          (w.made x (y ∷ ys) b (goes now next x y ys b (subst (λ (r : Text). IsWordAt S now x r) is here) l))

      only : (xs : List X) (b : Text) → IsListAt S close start xs b → (y : X) × (ys : List X) × (xs ≡ (out ++ x ∷ []) ++ y ∷ ys) × IsListAt S close next (y ∷ ys) b
      only xs b l =
          let was = w.only xs b l in elim (cases now was.0 was.1 b was.3) [
            | inl h ↦ let same = right _ _ (one.bracket was.0 b h.0) in let n : close ≡ 44 = cc in absurd (other n)
            | inr h ↦
                let both = one.comma was.0 h.rest h.here in
                let head : was.0 ≡ x = left _ _ both in
                let tail = right _ _ both in
                let rest : h.rest ≡ next = cc in (
                  h.next,
                  h.others,
                  was.2 ∙ ap (λ (m : List X). out ++ was.0 ∷ m) h.are ∙ ap (λ (z : X). out ++ z ∷ h.next ∷ h.others) head ∙ sym (grown out x (h.next ∷ h.others)),
                  subst (λ (r : Text). IsListAt S close r (h.next ∷ h.others) b) rest h.listed,
                )
          ]

  pub behind_closes : (start now behind after : Text) (out out' : List X) (x : X) → IsBehind start now out → IsWordAt S now x behind → behind ≡ close ∷ after → out' ≡ out ++ x ∷ [] → IsListAt S close start out' after
  behind_closes start now behind after out out' x w here is e =
      subst (λ (o : List X). IsListAt S close start o after) (sym e) (w.made x [] after (ends now x after (subst (λ (r : Text). IsWordAt S now x r) is here)))

  pub behind_only : close ≢ 44 → (start now behind after : Text) (out out' : List X) (x : X) → IsBehind start now out → IsOne now x behind → behind ≡ close ∷ after → out' ≡ out ++ x ∷ [] → (y : List X × Text) → IsListAt S close start y.0 y.1 → y ≡ (out', after)
  behind_only other start now behind after out out' x w one is e y l =
      let was = w.only y.0 y.1 l in elim (cases now was.0 was.1 y.1 was.3) [
        | inl h ↦
            let both = one.bracket was.0 y.1 h.0 in
            let head : was.0 ≡ x = left _ _ both in
            let tail = right _ _ both in
            let rest : y.1 ≡ after = cc in
            pair_is out' y.0 after y.1 (was.2 ∙ ap (λ (m : List X). out ++ was.0 ∷ m) h.1 ∙ ap (λ (z : X). out ++ z ∷ []) head ∙ sym e) rest
        | inr h ↦ let same = right _ _ (one.comma was.0 h.rest h.here) in let n : close ≡ 44 = cc in absurd (other n)
      ]

  -- neither a comma nor the bracket stands behind
  pub behind_stuck : (start now behind : Text) (out : List X) (x : X) → IsBehind start now out → IsOne now x behind → ((r : Text) → ¬ (behind ≡ close ∷ r)) → ((r : Text) → ¬ (behind ≡ 44 ∷ r)) → (y : List X × Text) → ¬ (IsListAt S close start y.0 y.1)
  behind_stuck start now behind out x w one unclosed bare y l =
      let was = w.only y.0 y.1 l in elim (cases now was.0 was.1 y.1 was.3) [
        | inl h ↦ unclosed y.1 (sym (right _ _ (one.bracket was.0 y.1 h.0)))
        | inr h ↦ bare h.rest (sym (right _ _ (one.comma was.0 h.rest h.here)))
      ]

  -- a word before a comma or the bracket
  pub record IsStopped (now : Text) : Type 0 where
    pub value : X
    pub stop : ℕ
    pub is : (stop ≡ 44) ⊎ (stop ≡ close)
    pub rest : Text
    pub at : IsWordAt S now value (stop ∷ rest)

  pub behind_leads : (start now : Text) (out : List X) → IsBehind start now out → (y : List X × Text) → IsListAt S close start y.0 y.1 → IsStopped now
  behind_leads start now out w y l =
      let was = w.only y.0 y.1 l in elim (cases now was.0 was.1 y.1 was.3) [
        | inl h ↦ record { value = was.0; stop = close; is = inr refl; rest = y.1; at = h.0 }
        | inr h ↦ record { value = was.0; stop = 44; is = inl refl; rest = h.rest; at = h.here }
      ]
