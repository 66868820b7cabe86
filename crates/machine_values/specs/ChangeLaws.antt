-- A heap that stands for one of the class machine still does once an object holds something else.
use Rattle.std.specs.Prelude.{◌≡◌, ℕ, zero, suc, Bool, true, false, if◌then◌else◌, List, [], ◌∷◌, ◌++◌, reverse, length, slice_get, slice_set, Option, Some, None, refl, nat_eq}
use Rattle.std.specs.List.{AllByRecursion}
use Rattle.std.proofs.Common.{sym, ◌∙◌, ap, subst, inl, inr, arith, append-nil, append_assoc}
use Rattle.std.proofs.lemmas.Bool.{cases_Bool, false≢true}
use Rattle.std.proofs.lemmas.List.{reverse-append, length-set}
use Rattle.class_file.specs.Pool.{Reference}
use Rattle.class_heads.specs.declared.types.ClassHead.{ClassHead}
use Rattle.class_machine.specs.Values as machine
use Rattle.class_machine.specs.Values.{same_name}
use Rattle.class_machine.specs.World as worlds
use Rattle.class_machine.specs.World.{with_changed}
use Rattle.machine_values.specs.declared.names.Maker.{Maker}
use Rattle.machine_values.specs.declared.names.Name.{Name}
use Rattle.machine_values.specs.declared.names.Name.TheVariants.{Made, Literal, ClassObject}
use Rattle.machine_values.specs.declared.content.Content.{Content}
use Rattle.machine_values.specs.Things.{Things, changed}
use Rattle.machine_values.specs.Standing.{machine_name, Settled, IsSettledContent, object_of, listed_one, listed, IsHeapOf, IsAlone}

abbrev pub Listing : Type 0
Listing = List (machine.Name × worlds.Object)

-- no object of that name is listed
abbrev pub Lacks : machine.Name → Listing → Type 0
Lacks a heap = AllByRecursion (λ o. same_name o.0 a ≡ false) heap

lacks_both : (a : machine.Name) (xs ys : Listing) → Lacks a xs → Lacks a ys → Lacks a (xs ++ ys)
lacks_both a [] ys h k = k
lacks_both a (x ∷ xs) ys h k = (h.0, lacks_both a xs ys h.1 k)

lacks_reversed : (a : machine.Name) (xs : Listing) → Lacks a xs → Lacks a (reverse xs)
lacks_reversed a [] h = tt
lacks_reversed a (x ∷ xs) h = subst (Lacks a) (sym (reverse-append (x ∷ []) xs)) (lacks_both a (reverse xs) (x ∷ []) (lacks_reversed a xs h.1) (h.0, tt))

-- ---- where the object is

abbrev chosen : Bool → machine.Name → worlds.Object → machine.Name × worlds.Object → Listing → Listing → Listing
chosen hit a object x others changed_others = if hit then (a, object) ∷ others else x ∷ changed_others

unchanged : (a : machine.Name) (object : worlds.Object) (xs : Listing) → Lacks a xs → with_changed xs a object ≡ xs
unchanged a object [] h = refl
unchanged a object (x ∷ xs) h = ap (λ hit. chosen hit a object x xs (with_changed xs a object)) h.0 ∙ ap (λ l. x ∷ l) (unchanged a object xs h.1)

in_last : (a : machine.Name) (object : worlds.Object) (xs ys : Listing) → Lacks a xs → with_changed (xs ++ ys) a object ≡ xs ++ with_changed ys a object
in_last a object [] ys h = refl
in_last a object (x ∷ xs) ys h = ap (λ hit. chosen hit a object x (xs ++ ys) (with_changed (xs ++ ys) a object)) h.0 ∙ ap (λ l. x ∷ l) (in_last a object xs ys h.1)

chosen-append : (hit : Bool) (a : machine.Name) (object : worlds.Object) (x : machine.Name × worlds.Object) (xs ys more : Listing) → chosen hit a object x (xs ++ more) (ys ++ more) ≡ chosen hit a object x xs ys ++ more
chosen-append true a object x xs ys more = refl
chosen-append false a object x xs ys more = refl

in_first : (a : machine.Name) (object : worlds.Object) (xs ys : Listing) → Lacks a ys → with_changed (xs ++ ys) a object ≡ with_changed xs a object ++ ys
in_first a object [] ys h = unchanged a object ys h
in_first a object (x ∷ xs) ys h =
    ap (λ l. chosen (same_name x.0 a) a object x (xs ++ ys) l) (in_first a object xs ys h)
    ∙ chosen-append (same_name x.0 a) a object x xs (with_changed xs a object) ys

changed_itself : (a : machine.Name) (old object : worlds.Object) → same_name a a ≡ true → with_changed ((a, old) ∷ []) a object ≡ (a, object) ∷ []
changed_itself a old object h = ap (λ hit. chosen hit a object (a, old) [] []) h

-- ---- a content is changed

settled_set : (n : ℕ) (cs : List Content) (at : ℕ) (c : Content) → AllByRecursion (IsSettledContent n) cs → IsSettledContent n c → AllByRecursion (IsSettledContent n) (slice_set cs at c)
settled_set n [] at c h k = tt
settled_set n (d ∷ cs) zero c h k = (k, h.1)
settled_set n (d ∷ cs) (suc at) c h k = (h.0, settled_set n cs at c h.1 k)

module _ (heads : List ClassHead) (fields : List ℕ → List Reference) (names : List Name) (maker : Maker) (k : ℕ) (c : Content) where
  abbrev subject : machine.Name
  subject = machine_name heads (Made maker k)

  abbrev later : Content → worlds.Object
  later d = object_of heads fields names maker d

  lacks_one : (n : Name) (d : Content) → same_name (machine_name heads n) subject ≡ false → Lacks subject (listed_one heads fields names n d)
  lacks_one (Made other j) d h = (h, tt)
  lacks_one (Literal units) d h = tt
  lacks_one (ClassObject type) d h = tt

  lacks_all : (ns : List Name) (cs : List Content) → AllByRecursion (λ n. same_name (machine_name heads n) subject ≡ false) ns → Lacks subject (listed heads fields names ns cs)
  lacks_all [] cs h = tt
  lacks_all (n ∷ ns) [] h = tt
  lacks_all (n ∷ ns) (d ∷ cs) h = lacks_both subject (listed_one heads fields names n d) (listed heads fields names ns cs) (lacks_one n d h.0) (lacks_all ns cs h.1)

  set_first : (ns : List Name) (d : Content) (cs : List Content) (n : Name) → n ≡ Made maker k → same_name subject subject ≡ true → AllByRecursion (λ m. same_name (machine_name heads m) subject ≡ false) ns
      → reverse (listed heads fields names (n ∷ ns) (c ∷ cs)) ≡ with_changed (reverse (listed heads fields names (n ∷ ns) (d ∷ cs))) subject (later c)
  set_first ns d cs n e itself h =
      let P : Name → Type 0 = λ n. reverse (listed heads fields names (n ∷ ns) (c ∷ cs)) ≡ with_changed (reverse (listed heads fields names (n ∷ ns) (d ∷ cs))) subject (later c) in
      let others = listed heads fields names ns cs in
      subst P (sym e) (reverse-append ((subject, later c) ∷ []) others
      ∙ ap (λ l. reverse others ++ l) (sym (changed_itself subject (later d) (later c) itself))
      ∙ sym (in_last subject (later c) (reverse others) ((subject, later d) ∷ []) (lacks_reversed subject others (lacks_all ns cs h)))
      ∙ ap (λ l. with_changed l subject (later c)) (sym (reverse-append ((subject, later d) ∷ []) others)))

  set_one : (ns : List Name) (cs : List Content) (at : ℕ) → slice_get ns at ≡ Some (Made maker k) → length cs ≡ length ns → same_name subject subject ≡ true → IsAlone heads ns at subject
      → reverse (listed heads fields names ns (slice_set cs at c)) ≡ with_changed (reverse (listed heads fields names ns cs)) subject (later c)
  set_one [] cs at there same itself alone = refl
  set_one (n ∷ ns) [] at there same itself alone = absurd (omega arith)
  set_one (n ∷ ns) (d ∷ cs) zero there same itself alone = set_first ns d cs n (some_equal n (Made maker k) there) itself alone where
    some_equal : (x y : Name) → Some x ≡ Some y → x ≡ y
    some_equal x y e = cc
  set_one (n ∷ ns) (d ∷ cs) (suc at) there same itself alone =
      let one = listed_one heads fields names n d in
      reverse-append one (listed heads fields names ns (slice_set cs at c))
      ∙ ap (λ l. l ++ reverse one) (set_one ns cs at there (omega arith) itself alone.1)
      ∙ sym (in_first subject (later c) (reverse (listed heads fields names ns cs)) (reverse one) (lacks_reversed subject one (lacks_one n d alone.0)))
      ∙ ap (λ l. with_changed l subject (later c)) (sym (reverse-append one (listed heads fields names ns cs)))

-- the world lists the object with what it holds then
pub changed_stands : (heads : List ClassHead) (fields : List ℕ → List Reference) (things : Things) (heap : Listing) (at : ℕ) (maker : Maker) (k : ℕ) (c : Content)
    → IsHeapOf heads fields things heap → slice_get things.names at ≡ Some (Made maker k) → same_name (machine_name heads (Made maker k)) (machine_name heads (Made maker k)) ≡ true
    → IsAlone heads things.names at (machine_name heads (Made maker k)) → IsSettledContent (length things.names) c
    → IsHeapOf heads fields (changed things at c) (with_changed heap (machine_name heads (Made maker k)) (object_of heads fields things.names maker c))
changed_stands heads fields things heap at maker k c h there itself alone settled = record {
  whole = length-set things.contents at c ∙ h.whole;
  settled = settled_set (length things.names) things.contents at c h.settled settled;
  same = ap (λ l. with_changed l (machine_name heads (Made maker k)) (object_of heads fields things.names maker c)) h.same
      ∙ sym (set_one heads fields things.names maker k c things.names things.contents at there h.whole itself alone);
}
