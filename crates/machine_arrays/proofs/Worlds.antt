-- What the class machine makes of arrays, where an object that is there holds something else.
use Rattle.std.specs.Prelude.{◌≡◌, ℕ, zero, suc, ◌≤◌, ◌==◌, ◌&&◌, Bool, true, false, if◌then◌else◌, List, [], ◌∷◌, ◌++◌, length, replicate, ℤ, refl}
use Rattle.std.specs.Str.{bytes_eq}
use Rattle.std.specs.Cmp.Lexicographic.{bytes_decides}
use Rattle.std.proofs.Common.{sym, ◌∙◌, ap, subst, inl, inr, arith, eq-eqb}
use Rattle.std.proofs.lemmas.Bool.{cases_Bool, and_parts, false≢true, eqb-true, ne_eqb}
use Rattle.class_machine.specs.Values.{Name, Made, Literal, ClassObject, class_of, same_name, Held, Reference}
use Rattle.class_machine.specs.Descriptors.{elements_of, held_in, blank}
use Rattle.class_machine.specs.World.{Object, Array, World, made, next_name, with_changed, set_object, with_object}
use Rattle.class_machine.specs.Answers.{in_turn, with_elements, make_arrays, size_of}

abbrev Listing : Type 0
Listing = List (Name × Object)

-- ---- names

pub name_itself : (a : Name) → same_name a a ≡ true
name_itself (Made class k) = ap (λ b. b && bytes_eq class class) (eq-eqb k k refl) ∙ (bytes_decides class class).1 refl
name_itself (Literal text) = (bytes_decides text text).1 refl
name_itself (ClassObject class) = (bytes_decides class class).1 refl

name_equal : (a b : Name) → same_name a b ≡ true → a ≡ b
name_equal (Made c k) (Made d j) h =
    let both = and_parts (k == j) (bytes_eq c d) h in
    ap (λ n. Made c n) (eqb-true k j both.0) ∙ ap (λ x. Made x j) ((bytes_decides c d).0 both.1)
name_equal (Made c k) (Literal t) h = absurd (false≢true h)
name_equal (Made c k) (ClassObject d) h = absurd (false≢true h)
name_equal (Literal s) (Made d j) h = absurd (false≢true h)
name_equal (Literal s) (Literal t) h = ap Literal ((bytes_decides s t).0 h)
name_equal (Literal s) (ClassObject d) h = absurd (false≢true h)
name_equal (ClassObject c) (Made d j) h = absurd (false≢true h)
name_equal (ClassObject c) (Literal t) h = absurd (false≢true h)
name_equal (ClassObject c) (ClassObject d) h = ap ClassObject ((bytes_decides c d).0 h)

unlike_back : (a b : Name) → same_name a b ≡ false → same_name b a ≡ false
unlike_back a b h = elim (cases_Bool (same_name b a)) [
  | inl same ↦ absurd (false≢true (sym h ∙ subst (λ (x : Name). same_name x b ≡ true) (name_equal b a same) (name_itself b)))
  | inr differ ↦ differ
]

-- ---- one object that changes

made_changed : (a : Name) (o : Object) (heap : Listing) (class : List ℕ) → made (with_changed heap a o) class ≡ made heap class
made_changed a o [] class = refl
made_changed a o (x ∷ heap) class = by (same_name x.0 a) refl (made_changed a o heap class) where
  by : (hit : Bool) → same_name x.0 a ≡ hit → made (with_changed heap a o) class ≡ made heap class → made (if hit then (a, o) ∷ heap else x ∷ with_changed heap a o) class ≡ made (x ∷ heap) class
  by true e rest = ap (λ (n : Name). if bytes_eq (class_of n) class then suc (made heap class) else made heap class) (sym (name_equal x.0 a e))
  by false e rest = ap (λ (n : ℕ). if bytes_eq (class_of x.0) class then suc n else n) rest

made_more : (x : Name × Object) (heap : Listing) (class : List ℕ) → made heap class ≤ made (x ∷ heap) class
made_more x heap class = by (bytes_eq (class_of x.0) class) where
  by : (hit : Bool) → made heap class ≤ (if hit then suc (made heap class) else made heap class)
  by true = omega arith
  by false = omega arith

-- the last change counts
twice : (a : Name) (o p : Object) (heap : Listing) → with_changed (with_changed heap a o) a p ≡ with_changed heap a p
twice a o p [] = refl
twice a o p (x ∷ heap) = by (same_name x.0 a) refl (twice a o p heap) where
  by : (hit : Bool) → same_name x.0 a ≡ hit → with_changed (with_changed heap a o) a p ≡ with_changed heap a p
      → with_changed (if hit then (a, o) ∷ heap else x ∷ with_changed heap a o) a p ≡ (if hit then (a, p) ∷ heap else x ∷ with_changed heap a p)
  by true e rest = ap (λ (hit : Bool). if hit then (a, p) ∷ heap else (a, o) ∷ with_changed heap a p) (name_itself a)
  by false e rest = ap (λ (hit : Bool). if hit then (a, p) ∷ with_changed heap a o else x ∷ with_changed (with_changed heap a o) a p) e ∙ ap (λ (l : Listing). x ∷ l) rest

-- changes of two objects, in whatever order
swapped : (a b : Name) (o p : Object) (heap : Listing) → same_name a b ≡ false → with_changed (with_changed heap a o) b p ≡ with_changed (with_changed heap b p) a o
swapped a b o p [] h = refl
swapped a b o p (x ∷ heap) h = by (same_name x.0 a) refl (same_name x.0 b) refl (swapped a b o p heap h) where
  by : (ia : Bool) → same_name x.0 a ≡ ia → (ib : Bool) → same_name x.0 b ≡ ib → with_changed (with_changed heap a o) b p ≡ with_changed (with_changed heap b p) a o
      → with_changed (if ia then (a, o) ∷ heap else x ∷ with_changed heap a o) b p ≡ with_changed (if ib then (b, p) ∷ heap else x ∷ with_changed heap b p) a o
  by true e true f rest = absurd (false≢true (sym h ∙ subst (λ (y : Name). same_name y b ≡ true) (name_equal x.0 a e) f))
  by true e false f rest =
      ap (λ (hit : Bool). if hit then (b, p) ∷ heap else (a, o) ∷ with_changed heap b p) h
      ∙ sym (ap (λ (hit : Bool). if hit then (a, o) ∷ with_changed heap b p else x ∷ with_changed (with_changed heap b p) a o) e)
  by false e true f rest =
      ap (λ (hit : Bool). if hit then (b, p) ∷ with_changed heap a o else x ∷ with_changed (with_changed heap a o) b p) f
      ∙ sym (ap (λ (hit : Bool). if hit then (a, o) ∷ heap else (b, p) ∷ with_changed heap a o) (unlike_back a b h))
  by false e false f rest =
      ap (λ (hit : Bool). if hit then (b, p) ∷ with_changed heap a o else x ∷ with_changed (with_changed heap a o) b p) f
      ∙ ap (λ (l : Listing). x ∷ l) rest
      ∙ sym (ap (λ (hit : Bool). if hit then (a, o) ∷ with_changed heap b p else x ∷ with_changed (with_changed heap b p) a o) e)

pub set_twice : (w : World) (a : Name) (o p : Object) → set_object (set_object w a o) a p ≡ set_object w a p
set_twice w a o p = ap (λ (heap : Listing). record w { heap = heap }) (twice a o p w.heap)

pub set_new : (w : World) (a : Name) (o p : Object) → set_object (with_object w a o) a p ≡ with_object w a p
set_new w a o p = ap (λ (hit : Bool). record w { heap = if hit then (a, p) ∷ w.heap else (a, o) ∷ with_changed w.heap a p }) (name_itself a)

-- ---- an object that is there already

and_false : (b : Bool) → (b && false) ≡ false
and_false true = refl
and_false false = refl

-- keeps the object, and makes the same whatever it holds
record Spares (class : List ℕ) (k : ℕ) (one : World → Held × World) : Type 0 where
  keeps : (w : World) → k ≤ made w.heap class → k ≤ made (one w).1.heap class
  same : (w : World) (o : Object) → k ≤ made w.heap class → one (set_object w (Made class k) o) ≡ ((one w).0, set_object (one w).1 (Made class k) o)

module _ (class : List ℕ) (k : ℕ) where
  abbrev old : Name
  old = Made class k

  abbrev IsThere : World → Type 0
  IsThere w = k ≤ made w.heap class

  next_differs : (w : World) (c : List ℕ) → IsThere w → same_name (next_name w c) old ≡ false
  next_differs w c there = elim (cases_Bool (bytes_eq c class)) [
    | inl same ↦ ap (λ b. b && bytes_eq c class) (ne_eqb (suc (made w.heap c)) k (λ e. let n : made w.heap c ≡ made w.heap class = ap (made w.heap) ((bytes_decides c class).0 same) in omega arith))
    | inr differ ↦ ap (λ b. (suc (made w.heap c) == k) && b) differ ∙ and_false (suc (made w.heap c) == k)
  ]

  set_before : (w : World) (x : Name) (p o : Object) → same_name x old ≡ false → set_object (with_object w x p) old o ≡ with_object (set_object w old o) x p
  set_before w x p o h = ap (λ (hit : Bool). record w { heap = if hit then (old, o) ∷ w.heap else (x, p) ∷ with_changed w.heap old o }) h

  turn_keeps : (one : World → Held × World) → Spares class k one → (n : ℕ) (w : World) → IsThere w → IsThere (in_turn one n w).1
  turn_keeps one h zero w there = there
  turn_keeps one h (suc n) w there = turn_keeps one h n (one w).1 (h.keeps w there)

  turn_same : (one : World → Held × World) → Spares class k one → (n : ℕ) (w : World) (o : Object) → IsThere w → in_turn one n (set_object w old o) ≡ ((in_turn one n w).0, set_object (in_turn one n w).1 old o)
  turn_same one h zero w o there = refl
  turn_same one h (suc n) w o there =
      ap (λ (p : Held × World). (p.0 ∷ (in_turn one n p.1).0, (in_turn one n p.1).1)) (h.same w o there)
      ∙ ap (λ (p : List Held × World). ((one w).0 ∷ p.0, p.1)) (turn_same one h n (one w).1 o (h.keeps w there))

  spared : (type : List ℕ) (sizes : List ℤ) → Spares class k (make_arrays type sizes)
  spared type [] = record { keeps = λ w there. there; same = λ w o there. refl }
  spared type (size ∷ sizes) =
      let inner = make_arrays (elements_of type) sizes in
      let spares = spared (elements_of type) sizes in
      let n = size_of size in
      let begun : World → World = λ w. with_object w (next_name w type) (Array []) in
      let begun_there : (w : World) → IsThere w → IsThere (begun w) = λ w there. (let more = made_more (next_name w type, Array []) w.heap class in omega arith) in
      record {
        keeps = λ w there.
            let all = in_turn inner n (begun w) in
            let kept = turn_keeps inner spares n (begun w) (begun_there w there) in
            let e = made_changed (next_name w type) (Array all.0) all.1.heap class in
            omega arith;
        same = λ w o there.
            let x = next_name w type in
            let all = in_turn inner n (begun w) in
            let apart = next_differs w type there in
            ap (λ (m : ℕ). with_elements (Made type (suc m)) (in_turn inner n (with_object (set_object w old o) (Made type (suc m)) (Array [])))) (made_changed old o w.heap type)
            ∙ ap (λ (v : World). with_elements x (in_turn inner n v)) (sym (set_before w x (Array []) o apart))
            ∙ ap (with_elements x) (turn_same inner spares n (begun w) o (begun_there w there))
            ∙ ap (λ (heap : Listing). (Reference x, record all.1 { heap = heap })) (swapped old x o (Array all.0) all.1.heap (unlike_back x old apart));
      }

-- Arrays are made the same whatever an object holds that is there already, and it holds that then.
pub makes_beside : (type : List ℕ) (sizes : List ℤ) (class : List ℕ) (k : ℕ) (w : World) (o : Object) → k ≤ made w.heap class
    → make_arrays type sizes (set_object w (Made class k) o) ≡ ((make_arrays type sizes w).0, set_object (make_arrays type sizes w).1 (Made class k) o)
makes_beside type sizes class k w o there = (spared class k type sizes).same w o there

pub turn_beside : (type : List ℕ) (sizes : List ℤ) (class : List ℕ) (k n : ℕ) (w : World) → k ≤ made w.heap class → k ≤ made (in_turn (make_arrays type sizes) n w).1.heap class
turn_beside type sizes class k n w there = turn_keeps class k (make_arrays type sizes) (spared class k type sizes) n w there

pub next_there : (w : World) (class : List ℕ) (o : Object) → suc (made w.heap class) ≤ made (with_object w (next_name w class) o).heap class
next_there w class o =
    let e = ap (λ (hit : Bool). if hit then suc (made w.heap class) else made w.heap class) ((bytes_decides class class).1 refl) in omega arith

-- ---- one after the other

pub turn_next : (one : World → Held × World) (n : ℕ) (w : World) → in_turn one (suc n) w ≡ ((in_turn one n w).0 ++ (one (in_turn one n w).1).0 ∷ [], (one (in_turn one n w).1).1)
turn_next one zero w = refl
turn_next one (suc n) w = ap (λ (p : List Held × World). ((one w).0 ∷ p.0, p.1)) (turn_next one n (one w).1)

pub turn_many : (one : World → Held × World) (n : ℕ) (w : World) → length (in_turn one n w).0 ≡ n
turn_many one zero w = refl
turn_many one (suc n) w = ap suc (turn_many one n (one w).1)

turn_alike : (v : Held) (n : ℕ) (w : World) → in_turn (λ w. (v, w)) n w ≡ (replicate n v, w)
turn_alike v zero w = refl
turn_alike v (suc n) w = ap (λ (p : List Held × World). (v ∷ p.0, p.1)) (turn_alike v n w)

-- an array with no arrays in it
pub makes_one : (w : World) (type : List ℕ) (size : ℤ) → make_arrays type (size ∷ []) w ≡ (Reference (next_name w type), with_object w (next_name w type) (Array (replicate (size_of size) (blank (held_in type)))))
makes_one w type size =
    let a = next_name w type in
    let v = blank (held_in type) in
    ap (with_elements a) (turn_alike v (size_of size) (with_object w a (Array [])))
    ∙ ap (λ (v : World). (Reference a, v)) (set_new w a (Array []) (Array (replicate (size_of size) v)))

-- ---- what stays

turn_answers : (one : World → Held × World) → ((w : World) → (one w).1.answers ≡ w.answers) → (n : ℕ) (w : World) → (in_turn one n w).1.answers ≡ w.answers
turn_answers one h zero w = refl
turn_answers one h (suc n) w = turn_answers one h n (one w).1 ∙ h w

-- the script isn't asked
pub same_answers : (type : List ℕ) (sizes : List ℤ) (w : World) → (make_arrays type sizes w).1.answers ≡ w.answers
same_answers type [] w = refl
same_answers type (size ∷ sizes) w = turn_answers (make_arrays (elements_of type) sizes) (same_answers (elements_of type) sizes) (size_of size) (with_object w (next_name w type) (Array []))
