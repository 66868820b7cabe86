-- What the class machine finds at the name of an object.
use Rattle.std.specs.Prelude.{◌≡◌, ℕ, zero, suc, Bool, true, false, if◌then◌else◌, List, [], ◌∷◌, ◌++◌, reverse, slice_get, Option, Some, None, refl}
use Rattle.std.specs.List.{AllByRecursion}
use Rattle.std.proofs.Common.{sym, ◌∙◌, ap, subst}
use Rattle.std.proofs.lemmas.Option.{none-some, same_Some}
use Rattle.std.proofs.lemmas.List.{reverse-append}
use Rattle.class_file.specs.Pool.{Reference}
use Rattle.class_heads.specs.declared.types.ClassHead.{ClassHead}
use Rattle.class_machine.specs.Values as machine
use Rattle.class_machine.specs.Values.{same_name}
use Rattle.class_machine.specs.World as worlds
use Rattle.class_machine.specs.World.{World, find_made, object_at}
use Rattle.machine_values.specs.declared.names.Maker.{Maker}
use Rattle.machine_values.specs.declared.names.Name.{Name}
use Rattle.machine_values.specs.declared.names.Name.TheVariants.{Made, Literal, ClassObject}
use Rattle.machine_values.specs.declared.content.Content.{Content}
use Rattle.machine_values.specs.Things.{Things}
use Rattle.machine_values.specs.Standing.{machine_name, object_of, listed_one, listed, IsAlone}
use Rattle.machine_values.specs.NumberLaws.{name_itself_there}
use Rattle.machine_requests.specs.Telling.{AreDistinct}
use Rattle.machine_requests.specs.TellingLaws.{alone}
use Rattle.machine_requests.specs.Shares.{Setting, Others, Shares}

abbrev Listing : Type 0
Listing = List (machine.Name × worlds.Object)

-- no object of that name is listed
abbrev Lacks : machine.Name → Listing → Type 0
Lacks a heap = AllByRecursion (λ o. same_name o.0 a ≡ false) heap

lacks_both : (a : machine.Name) (xs ys : Listing) → Lacks a xs → Lacks a ys → Lacks a (xs ++ ys)
lacks_both a [] ys h k = k
lacks_both a (x ∷ xs) ys h k = (h.0, lacks_both a xs ys h.1 k)

lacks_reversed : (a : machine.Name) (xs : Listing) → Lacks a xs → Lacks a (reverse xs)
lacks_reversed a [] h = tt
lacks_reversed a (x ∷ xs) h = subst (Lacks a) (sym (reverse-append (x ∷ []) xs)) (lacks_both a (reverse xs) (x ∷ []) (lacks_reversed a xs h.1) (h.0, tt))

abbrev first_of : Bool → worlds.Object → Option worlds.Object → Option worlds.Object
first_of hit object rest = if hit then Some object else rest

found_first : (xs ys : Listing) (a : machine.Name) (object : worlds.Object) → find_made xs a ≡ Some object → find_made (xs ++ ys) a ≡ Some object
found_first [] ys a object h = absurd (none-some object h)
found_first (x ∷ xs) ys a object h = by (same_name x.0 a) h (found_first xs ys a object) where
  by : (hit : Bool) → first_of hit x.1 (find_made xs a) ≡ Some object → (find_made xs a ≡ Some object → find_made (xs ++ ys) a ≡ Some object) → first_of hit x.1 (find_made (xs ++ ys) a) ≡ Some object
  by true e rest = e
  by false e rest = rest e

found_past : (xs ys : Listing) (a : machine.Name) → Lacks a xs → find_made (xs ++ ys) a ≡ find_made ys a
found_past [] ys a h = refl
found_past (x ∷ xs) ys a h = ap (λ hit. first_of hit x.1 (find_made (xs ++ ys) a)) h.0 ∙ found_past xs ys a h.1

module _ (heads : List ClassHead) (fields : List ℕ → List Reference) (names : List Name) (maker : Maker) (k : ℕ) where
  abbrev subject : machine.Name
  subject = machine_name heads (Made maker k)

  lacks_one : (n : Name) (d : Content) → same_name (machine_name heads n) subject ≡ false → Lacks subject (listed_one heads fields names n d)
  lacks_one (Made other j) d h = (h, tt)
  lacks_one (Literal units) d h = tt
  lacks_one (ClassObject type) d h = tt

  lacks_all : (ns : List Name) (cs : List Content) → AllByRecursion (λ n. same_name (machine_name heads n) subject ≡ false) ns → Lacks subject (listed heads fields names ns cs)
  lacks_all [] cs h = tt
  lacks_all (n ∷ ns) [] h = tt
  lacks_all (n ∷ ns) (d ∷ cs) h = lacks_both subject (listed_one heads fields names n d) (listed heads fields names ns cs) (lacks_one n d h.0) (lacks_all ns cs h.1)

  found_here : (ns : List Name) (cs : List Content) (c : Content) → AllByRecursion (λ n. same_name (machine_name heads n) subject ≡ false) ns
      → find_made (reverse (listed heads fields names (Made maker k ∷ ns) (c ∷ cs))) subject ≡ Some (object_of heads fields names maker c)
  found_here ns cs c h =
      let one = (subject, object_of heads fields names maker c) ∷ [] in
      let others = listed heads fields names ns cs in
      ap (λ l. find_made l subject) (reverse-append one others)
      ∙ found_past (reverse others) one subject (lacks_reversed subject others (lacks_all ns cs h))
      ∙ ap (λ hit. first_of hit (object_of heads fields names maker c) None) (name_itself_there heads maker k)

  found : (ns : List Name) (cs : List Content) (at : ℕ) (c : Content) → slice_get ns at ≡ Some (Made maker k) → slice_get cs at ≡ Some c → IsAlone heads ns at subject
      → find_made (reverse (listed heads fields names ns cs)) subject ≡ Some (object_of heads fields names maker c)
  found [] cs at c there held lone = absurd (none-some (Made maker k) there)
  found (n ∷ ns) [] at c there held lone = absurd (none-some c held)
  found (n ∷ ns) (d ∷ cs) zero c there held lone =
      let P : Name → Type 0 = λ m. find_made (reverse (listed heads fields names (m ∷ ns) (d ∷ cs))) subject ≡ Some (object_of heads fields names maker c) in
      subst P (sym (same_Some n (Made maker k) there)) (found_here ns cs d lone ∙ ap (λ e. Some (object_of heads fields names maker e)) (same_Some d c held))
  found (n ∷ ns) (d ∷ cs) (suc at) c there held lone =
      let one = listed_one heads fields names n d in
      ap (λ l. find_made l subject) (reverse-append one (listed heads fields names ns cs))
      ∙ found_first (reverse (listed heads fields names ns cs)) (reverse one) subject (object_of heads fields names maker c) (found ns cs at c there held lone.1)

-- an object that was made is found by its name
pub made_found : (s : Setting) (things : Things) (others : Others) (w : World) (at : ℕ) (maker : Maker) (k : ℕ) (c : Content) → AreDistinct s.heads → Shares s things others w
    → slice_get things.names at ≡ Some (Made maker k) → slice_get things.contents at ≡ Some c → find_made w.heap (machine_name s.heads (Made maker k)) ≡ Some (object_of s.heads s.classes.fields things.names maker c)
made_found s things others w at maker k c distinct shares there held =
    ap (λ l. find_made l (machine_name s.heads (Made maker k))) shares.heap.objects.same
    ∙ found s.heads s.classes.fields things.names maker k things.names things.contents at c there held
    (alone s.heads distinct things.names at (Made maker k) shares.heap.numbered shares.fit there)
