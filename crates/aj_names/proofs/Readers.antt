-- Readers of spellings: what is read is spelled so, what is spelled so is read, and a fault lies at
-- the end of the longest front that begins a spelling.
use Rattle.std.proofs.Common.{◌≡◌, ℕ, suc, ◌+◌, ◌-◌, ◌<◌, ◌≤◌, List, [], ◌∷◌, ◌++◌, length, take, Result, Ok, Err, refl, sym, ap, subst, ◌∙◌, append_assoc, arith, length-append}
use Rattle.std.proofs.lemmas.List.{append-nil, take_at}
use Rattle.aj_names.specs.Reading.{◌>>=◌}

abbrev pub Read : Type 0 → Type 0
Read X = Result (X × List ℕ) ℕ

abbrev pub read : {X : Type 0} → X → List ℕ → Read X
read x rest = Ok (x, rest)

abbrev pub stopped : (X : Type 0) → ℕ → Read X
stopped X left = Err left

-- the value of a step that did not fail
pub bind_ok : {A B : Type 0} (r : Result A ℕ) (f : A → Result B ℕ) (y : B) → (r >>= f) ≡ Ok y → (x : A) × (r ≡ Ok x) × (f x ≡ Ok y)
bind_ok (Ok x) f y e = (x, refl, e)
bind_ok (Err d) f y e = absurd cc

-- where a step failed
pub data Failed {A B : Type 0} (r : Result A ℕ) (f : A → Result B ℕ) (left : ℕ) : Type 0 where
  first : r ≡ Err left → Failed r f left
  then : (x : A) → r ≡ Ok x → f x ≡ Err left → Failed r f left

pub bind_err : {A B : Type 0} (r : Result A ℕ) (f : A → Result B ℕ) (left : ℕ) → (r >>= f) ≡ Err left → Failed r f left
bind_err (Ok x) f left e = then x refl e
bind_err (Err d) f left e = first cc

pub ok_is : {X : Type 0} (x y : X) (a b : List ℕ) → read x a ≡ read y b → (x ≡ y) × (a ≡ b)
ok_is {X = X} x y a b e = let h : ◌≡◌ {A = X × List ℕ} (x, a) (y, b) = cc in (ap (λ (p : X × List ℕ). p.0) h, ap (λ (p : X × List ℕ). p.1) h)

pub err_is : (X : Type 0) (a b : ℕ) → stopped X a ≡ stopped X b → a ≡ b
err_is X a b e = cc

pub heads : (b c : ℕ) (x y : List ℕ) → b ∷ x ≡ c ∷ y → (b ≡ c) × (x ≡ y)
heads b c x y e = (cc, cc)

-- Reading stops before the rest: its front begins a spelling, and with one byte more reading stops there.
pub record Fault {X : Type 0} (R : List ℕ → Read X → Type 0) (spelling : X → List ℕ) (Formed : X → Type 0) (bytes : List ℕ) (left : ℕ) : Type 0 where
  pub front : List ℕ
  pub rest : List ℕ
  pub split : bytes ≡ front ++ rest
  pub left_is : length rest ≡ left
  pub value : X
  pub formed : Formed value
  pub tail : List ℕ
  pub begins : front ++ tail ≡ spelling value
  pub stays : (b : ℕ) (after q : List ℕ) → rest ≡ b ∷ after → R (front ++ b ∷ q) (Err (suc (length q)))

pub record Reads {X : Type 0} (R : List ℕ → Read X → Type 0) (spelling : X → List ℕ) (Formed : X → Type 0) : Type 0 where
  pub takes : (bytes : List ℕ) (x : X) (rest : List ℕ) → R bytes (Ok (x, rest)) → (bytes ≡ spelling x ++ rest) × Formed x
  pub again : (x : X) (q : List ℕ) → Formed x → R (spelling x ++ q) (Ok (x, q))
  pub fault : (bytes : List ℕ) (left : ℕ) → R bytes (Err left) → Fault R spelling Formed bytes left
  pub once : (bytes : List ℕ) (r s : Read X) → R bytes r → R bytes s → r ≡ s

-- a fault behind a front that was read
pub fault_after : {X Y : Type 0} (R : List ℕ → Read X → Type 0) (spelling : X → List ℕ) (Formed : X → Type 0) (R' : List ℕ → Read Y → Type 0) (spelling' : Y → List ℕ) (Formed' : Y → Type 0)
    (p : List ℕ) (g : X → Y) → ((bytes : List ℕ) (left : ℕ) → R bytes (Err left) → R' (p ++ bytes) (Err left)) → ((x : X) → Formed x → Formed' (g x)) → ((x : X) → spelling' (g x) ≡ p ++ spelling x)
    → (bytes : List ℕ) (left : ℕ) → Fault R spelling Formed bytes left → Fault R' spelling' Formed' (p ++ bytes) left
fault_after R spelling Formed R' spelling' Formed' p g stops forms spells bytes left f = record {
  front = p ++ f.front;
  rest = f.rest;
  split = ap (λ (x : List ℕ). p ++ x) f.split ∙ sym (append_assoc p f.front f.rest);
  left_is = f.left_is;
  value = g f.value;
  formed = forms f.value f.formed;
  tail = f.tail;
  begins = append_assoc p f.front f.tail ∙ ap (λ (x : List ℕ). p ++ x) f.begins ∙ sym (spells f.value);
  stays = λ b after q e. subst (λ (w : List ℕ). R' w (Err (suc (length q)))) (sym (append_assoc p f.front (b ∷ q))) (stops (f.front ++ b ∷ q) (suc (length q)) (f.stays b after q e));
}

-- a fault of a reader that is tried where the first byte is no other's
pub fault_through : {X Y : Type 0} (R : List ℕ → Read X → Type 0) (spelling : X → List ℕ) (Formed : X → Type 0) (R' : List ℕ → Read Y → Type 0) (spelling' : Y → List ℕ) (Formed' : Y → Type 0)
    (b0 : ℕ) (g : X → Y) (t : List ℕ) → ((bytes : List ℕ) (left : ℕ) → R (b0 ∷ bytes) (Err left) → R' (b0 ∷ bytes) (Err left)) → ((x : X) → Formed x → Formed' (g x)) → ((x : X) → spelling' (g x) ≡ spelling x ++ t)
    → (bytes : List ℕ) (left : ℕ) → Fault R spelling Formed (b0 ∷ bytes) left → Fault R' spelling' Formed' (b0 ∷ bytes) left
fault_through R spelling Formed R' spelling' Formed' b0 g t stops forms spells bytes left f = record {
  front = f.front;
  rest = f.rest;
  split = f.split;
  left_is = f.left_is;
  value = g f.value;
  formed = forms f.value f.formed;
  tail = f.tail ++ t;
  begins = sym (append_assoc f.front f.tail t) ∙ ap (λ (x : List ℕ). x ++ t) f.begins ∙ sym (spells f.value);
  stays = λ b after q e. stay f.front f.split b after q e (f.stays b after q e);
}
  where
    stay : (front : List ℕ) → b0 ∷ bytes ≡ front ++ f.rest → (b : ℕ) (after q : List ℕ) → f.rest ≡ b ∷ after → R (front ++ b ∷ q) (Err (suc (length q))) → R' (front ++ b ∷ q) (Err (suc (length q)))
    stay [] split b after q e r =
        let h = (heads b0 b bytes after (split ∙ e)).0 in
        subst (λ (x : ℕ). R' (x ∷ q) (Err (suc (length q)))) h (stops q (suc (length q)) (subst (λ (x : ℕ). R (x ∷ q) (Err (suc (length q)))) (sym h) r))
    stay (c ∷ front) split b after q e r =
        let h = (heads b0 c bytes (front ++ f.rest) split).0 in
        subst (λ (x : ℕ). R' (x ∷ (front ++ b ∷ q)) (Err (suc (length q)))) h (stops (front ++ b ∷ q) (suc (length q)) (subst (λ (x : ℕ). R (x ∷ (front ++ b ∷ q)) (Err (suc (length q)))) (sym h) r))

-- a fault at the first byte, or at the end
pub fault_here : {X : Type 0} (R : List ℕ → Read X → Type 0) (spelling : X → List ℕ) (Formed : X → Type 0) (b0 : ℕ) (bytes : List ℕ) (x : X) → Formed x → ((q : List ℕ) → R (b0 ∷ q) (Err (suc (length q))))
    → Fault R spelling Formed (b0 ∷ bytes) (suc (length bytes))
fault_here R spelling Formed b0 bytes x formed stops = record {
  front = [];
  rest = b0 ∷ bytes;
  split = refl;
  left_is = refl;
  value = x;
  formed = formed;
  tail = spelling x;
  begins = refl;
  stays = λ b after q e. subst (λ (c : ℕ). R (c ∷ q) (Err (suc (length q)))) (heads b0 b bytes after e).0 (stops q);
}

pub fault_cut : {X : Type 0} (R : List ℕ → Read X → Type 0) (spelling : X → List ℕ) (Formed : X → Type 0) (x : X) → Formed x → Fault R spelling Formed [] 0
fault_cut R spelling Formed x formed = record {
  front = [];
  rest = [];
  split = refl;
  left_is = refl;
  value = x;
  formed = formed;
  tail = spelling x;
  begins = refl;
  stays = λ b after q e. absurd cc;
}

-- ---- a whole text

pub record Beginning {X : Type 0} (spelling : X → List ℕ) (Formed : X → Type 0) (bytes : List ℕ) : Type 0 where
  pub value : X
  pub formed : Formed value
  pub rest : List ℕ
  pub spelled : bytes ++ rest ≡ spelling value

pub record Stop {X : Type 0} (spelling : X → List ℕ) (Formed : X → Type 0) (text : List ℕ) (n : ℕ) : Type 0 where
  pub within : n ≤ length text
  pub begins : Beginning spelling Formed (take n text)
  pub longest : n < length text → ¬ Beginning spelling Formed (take (n + 1) text)
  pub none : (x : X) → Formed x → ¬ (text ≡ spelling x)

pub stop_at : {X : Type 0} (R : List ℕ → Read X → Type 0) (spelling : X → List ℕ) (Formed : X → Type 0) → Reads R spelling Formed → (text : List ℕ) (left : ℕ) → R text (Err left) → Stop spelling Formed text (length text - left)
stop_at R spelling Formed reads text left r =
    let f = reads.fault text left r in
    let n : length f.front ≡ length text - left = let a = f.left_is in omega (arith, ap length f.split, length-append f.front f.rest) in
    let front_is : take (length text - left) text ≡ f.front = ap (take (length text - left)) f.split ∙ take_at f.front f.rest (length text - left) n in
    record {
      within = omega arith;
      begins = record { value = f.value; formed = f.formed; rest = f.tail; spelled = ap (λ (x : List ℕ). x ++ f.tail) front_is ∙ f.begins };
      longest = λ lt more. longer f f.rest refl n lt more;
      none = λ x formed e. absurd (let h = reads.once text (Err left) (Ok (x, [])) r (subst (λ (w : List ℕ). R w (Ok (x, []))) (append-nil (spelling x) ∙ sym e) (reads.again x [] formed)) in cc);
    }
  where
    longer : (f : Fault R spelling Formed text left) (rest : List ℕ) → rest ≡ f.rest → length f.front ≡ length text - left → length text - left < length text → Beginning spelling Formed (take (length text - left + 1) text) → ⊥
    longer f [] e n lt more = omega (arith, ap length f.split, length-append f.front f.rest, ap length e)
    longer f (b ∷ after) e n lt more =
        let one : length (f.front ++ b ∷ []) ≡ length text - left + 1 = omega (arith, length-append f.front (b ∷ [])) in
        let parts : text ≡ (f.front ++ b ∷ []) ++ after = f.split ∙ ap (λ (x : List ℕ). f.front ++ x) (sym e) ∙ sym (append_assoc f.front (b ∷ []) after) in
        let taken : take (length text - left + 1) text ≡ f.front ++ b ∷ [] = ap (take (length text - left + 1)) parts ∙ take_at (f.front ++ b ∷ []) after (length text - left + 1) one in
        let whole : f.front ++ b ∷ more.rest ≡ spelling more.value = sym (append_assoc f.front (b ∷ []) more.rest) ∙ ap (λ (x : List ℕ). x ++ more.rest) (sym taken) ∙ more.spelled in
        let good = subst (λ (w : List ℕ). R w (Ok (more.value, []))) (append-nil (spelling more.value) ∙ sym whole) (reads.again more.value [] more.formed) in
        let bad = f.stays b after more.rest (sym e) in
        let h = reads.once (f.front ++ b ∷ more.rest) _ _ good bad in
        absurd cc

pub stop_behind : {X : Type 0} (R : List ℕ → Read X → Type 0) (spelling : X → List ℕ) (Formed : X → Type 0) → Reads R spelling Formed → (text : List ℕ) (x : X) (b : ℕ) (after : List ℕ) → R text (Ok (x, b ∷ after))
    → Stop spelling Formed text (length text - suc (length after))
stop_behind {X = X} R spelling Formed reads text x b after r =
    let t = reads.takes text x (b ∷ after) r in
    let n : length (spelling x) ≡ length text - suc (length after) = omega (arith, ap length t.0, length-append (spelling x) (b ∷ after)) in
    let front_is : take (length text - suc (length after)) text ≡ spelling x = ap (take (length text - suc (length after))) t.0 ∙ take_at (spelling x) (b ∷ after) (length text - suc (length after)) n in
    record {
      within = omega arith;
      begins = record { value = x; formed = t.1; rest = []; spelled = append-nil (take (length text - suc (length after)) text) ∙ front_is };
      longest = λ lt more. longer t.0 t.1 n more;
      none = λ y formed e. apart y (Ok (y, [])) refl (reads.once text (Ok (x, b ∷ after)) (Ok (y, [])) r (subst (λ (w : List ℕ). R w (Ok (y, []))) (append-nil (spelling y) ∙ sym e) (reads.again y [] formed)));
    }
  where
    apart : (y : X) (s : Read X) → read y [] ≡ s → read x (b ∷ after) ≡ s → ⊥
    apart y s e h = let k = (ok_is x y (b ∷ after) [] (h ∙ sym e)).1 in cc

    apart' : (y : X) (q : List ℕ) → read x (b ∷ q) ≡ read y [] → ⊥
    apart' y q h = let k = (ok_is x y (b ∷ q) [] h).1 in cc

    longer : text ≡ spelling x ++ b ∷ after → Formed x → length (spelling x) ≡ length text - suc (length after) → Beginning spelling Formed (take (length text - suc (length after) + 1) text) → ⊥
    longer split formed n more =
        let one : length (spelling x ++ b ∷ []) ≡ length text - suc (length after) + 1 = omega (arith, length-append (spelling x) (b ∷ [])) in
        let parts : text ≡ (spelling x ++ b ∷ []) ++ after = split ∙ sym (append_assoc (spelling x) (b ∷ []) after) in
        let taken : take (length text - suc (length after) + 1) text ≡ spelling x ++ b ∷ [] = ap (take (length text - suc (length after) + 1)) parts ∙ take_at (spelling x ++ b ∷ []) after (length text - suc (length after) + 1) one in
        let whole : spelling x ++ b ∷ more.rest ≡ spelling more.value = sym (append_assoc (spelling x) (b ∷ []) more.rest) ∙ ap (λ (w : List ℕ). w ++ more.rest) (sym taken) ∙ more.spelled in
        let good = subst (λ (w : List ℕ). R w (Ok (more.value, []))) (append-nil (spelling more.value) ∙ sym whole) (reads.again more.value [] more.formed) in
        apart' more.value more.rest (reads.once (spelling x ++ b ∷ more.rest) (Ok (x, b ∷ more.rest)) (Ok (more.value, [])) (reads.again x (b ∷ more.rest) formed) good)

-- a fault behind a front that was read, where more stands behind what reads on
pub fault_between : {X Y : Type 0} (R : List ℕ → Read X → Type 0) (spelling : X → List ℕ) (Formed : X → Type 0) (R' : List ℕ → Read Y → Type 0) (spelling' : Y → List ℕ) (Formed' : Y → Type 0)
    (p t : List ℕ) (g : X → Y) → ((bytes : List ℕ) (left : ℕ) → R bytes (Err left) → R' (p ++ bytes) (Err left)) → ((x : X) → Formed x → Formed' (g x)) → ((x : X) → spelling' (g x) ≡ p ++ (spelling x ++ t))
    → (bytes : List ℕ) (left : ℕ) → Fault R spelling Formed bytes left → Fault R' spelling' Formed' (p ++ bytes) left
fault_between R spelling Formed R' spelling' Formed' p t g stops forms spells bytes left f =
    fault_after R (λ x. spelling x ++ t) Formed R' spelling' Formed' p g stops forms spells bytes left (record {
      front = f.front;
      rest = f.rest;
      split = f.split;
      left_is = f.left_is;
      value = f.value;
      formed = f.formed;
      tail = f.tail ++ t;
      begins = sym (append_assoc f.front f.tail t) ∙ ap (λ (x : List ℕ). x ++ t) f.begins;
      stays = f.stays;
    })
