-- The worlds of the class machine in which a list of texts is made.
use Rattle.std.specs.Prelude.{◌≡◌, ℕ, suc, ◌==◌, ◌&&◌, Bool, true, false, if◌then◌else◌, List, [], ◌∷◌, ◌++◌, map, refl}
use Rattle.std.specs.List.{AllByRecursion}
use Rattle.std.specs.Str.{bytes_eq}
use Rattle.std.specs.Cmp.Lexicographic.{bytes_decides}
use Rattle.std.proofs.Common.{sym, ◌∙◌, ap, eq-eqb}
use Rattle.class_machine.specs.Descriptors.{array_of}
use Rattle.class_machine.specs.Start.{Text as text_of, arguments, texts_from, with_elements}
use Rattle.class_machine.specs.Values.{Name, Made, class_of, same_name, string_class, Held, Reference as Pointer}
use Rattle.class_machine.specs.World.{Object, Array, Text, World, made, with_changed, with_object, add_text}

abbrev pub Listing : Type 0
Listing = List (Name × Object)

-- texts one after the other are arguments one after the other
pub texts_are : (texts : List (List ℕ)) (w : World) → arguments (map text_of texts) w ≡ texts_from texts w
texts_are [] w = refl
texts_are (units ∷ texts) w = ap (λ (p : List Held × World). (Pointer (add_text w units).0 ∷ p.0, p.1)) (texts_are texts (add_text w units).1)

-- ---- what the array holds meanwhile doesn't matter

-- an array's name
abbrev pub array_name : ℕ → Name
array_name n = Made (array_of string_class) n

abbrev Others : ℕ → Listing → Type 0
Others n heap = AllByRecursion (λ (o : Name × Object). same_name o.0 (array_name n) ≡ false) heap

-- with so many objects above the array
abbrev with_array : World → Listing → ℕ → Object → World
with_array w above n o = record w { heap = above ++ (array_name n, o) ∷ w.heap }

and_false : (b : Bool) → (b && false) ≡ false
and_false true = refl
and_false false = refl

unlike_string : (k n : ℕ) → same_name (Made string_class k) (array_name n) ≡ false
unlike_string k n = and_false (k == n)

made_alike : (class : List ℕ) (above : Listing) (n : ℕ) (o p : Object) (heap : Listing) → made (above ++ (array_name n, o) ∷ heap) class ≡ made (above ++ (array_name n, p) ∷ heap) class
made_alike class [] n o p heap = refl
made_alike class (x ∷ above) n o p heap = ap (λ (k : ℕ). if bytes_eq (class_of x.0) class then suc k else k) (made_alike class above n o p heap)

pub name_itself : (class : List ℕ) (n : ℕ) → same_name (Made class n) (Made class n) ≡ true
name_itself class n = ap (λ b. b && bytes_eq class class) (eq-eqb n n refl) ∙ (bytes_decides class class).1 refl

changed_below : (above : Listing) (n : ℕ) (o p : Object) (heap : Listing) → Others n above → with_changed (above ++ (array_name n, o) ∷ heap) (array_name n) p ≡ above ++ (array_name n, p) ∷ heap
changed_below [] n o p heap h =
    ap (λ (hit : Bool). if hit then (array_name n, p) ∷ heap else (array_name n, o) ∷ with_changed heap (array_name n) p) (name_itself (array_of string_class) n)
changed_below (x ∷ above) n o p heap h =
    ap (λ (hit : Bool). if hit then (array_name n, p) ∷ (above ++ (array_name n, o) ∷ heap) else x ∷ with_changed (above ++ (array_name n, o) ∷ heap) (array_name n) p) h.0
    ∙ ap (λ (l : Listing). x ∷ l) (changed_below above n o p heap h.1)

-- the texts have the same names whatever the array holds, and stand above it
record AreAlike (texts : List (List ℕ)) (w : World) (above : Listing) (n : ℕ) : Type 0 where
  names : List Held
  more : Listing
  others : Others n more
  is : (o : Object) → texts_from texts (with_array w above n o) ≡ (names, with_array w more n o)

-- the next one's name
abbrev next_text : World → Listing → ℕ → Name
next_text w above n = Made string_class (suc (made (above ++ (array_name n, Array []) ∷ w.heap) string_class))

one_more : (units : List ℕ) (texts : List (List ℕ)) (w : World) (above : Listing) (n : ℕ) → AreAlike texts w ((next_text w above n, Text units) ∷ above) n → AreAlike (units ∷ texts) w above n
one_more units texts w above n rest = record {
  names = Pointer (next_text w above n) ∷ rest.names;
  more = rest.more;
  others = rest.others;
  is = λ o.
      ap (λ (k : ℕ). onward (Made string_class (suc k)) o) (made_alike string_class above n o (Array []) w.heap)
      ∙ ap (λ (p : List Held × World). (Pointer (next_text w above n) ∷ p.0, p.1)) (rest.is o);
} where
  onward : Name → Object → List Held × World
  onward a o = let others = texts_from texts (with_array w ((a, Text units) ∷ above) n o) in (Pointer a ∷ others.0, others.1)

are_alike : (texts : List (List ℕ)) (w : World) (above : Listing) (n : ℕ) → Others n above → AreAlike texts w above n
are_alike [] w above n h = record { names = []; more = above; others = h; is = λ o. refl }
are_alike (units ∷ texts) w above n h =
    one_more units texts w above n
    (are_alike texts w ((next_text w above n, Text units) ∷ above) n (unlike_string (suc (made (above ++ (array_name n, Array []) ∷ w.heap) string_class)) n, h))

-- so the array with its elements is the same
pub array_alike : (texts : List (List ℕ)) (w : World) (n : ℕ) (o : Object)
    → with_elements (array_name n) (texts_from texts (with_object w (array_name n) o)) ≡ with_elements (array_name n) (texts_from texts (with_object w (array_name n) (Array [])))
array_alike texts w n o = filled o ∙ sym (filled (Array [])) where
  alike : AreAlike texts w [] n
  alike = are_alike texts w [] n tt

  filled : (o : Object) → with_elements (array_name n) (texts_from texts (with_object w (array_name n) o)) ≡ (Pointer (array_name n), with_array w alike.more n (Array alike.names))
  filled o =
      ap (with_elements (array_name n)) (alike.is o)
      ∙ ap (λ (heap : Listing). (Pointer (array_name n), record w { heap = heap })) (changed_below alike.more n o (Array alike.names) w.heap alike.others)
