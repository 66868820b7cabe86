-- Buffers that get other units.
use Rattle.std.specs.Prelude.{◌≡◌, ℕ, ◌<◌, Bool, true, false, if◌then◌else◌, List, [], ◌∷◌, ◌++◌, reverse, length, slice_get, Option, Some, None, refl}
use Rattle.std.specs.List.{AllByRecursion}
use Rattle.std.specs.Option.{unwrap_or}
use Rattle.std.proofs.Common.{sym, ◌∙◌, ap, subst}
use Rattle.std.proofs.lemmas.Bool.{false≢true}
use Rattle.std.proofs.lemmas.List.{reverse-append}
use Rattle.class_file.specs.Pool.{Reference}
use Rattle.class_heads.specs.declared.types.ClassHead.{ClassHead}
use Rattle.class_machine.specs.Values as machine
use Rattle.class_machine.specs.Values.{same_name}
use Rattle.class_machine.specs.World as worlds
use Rattle.class_machine.specs.World.{World, with_changed, set_object}
use Rattle.machine_values.specs.declared.values.Ref.{Ref}
use Rattle.machine_values.specs.declared.names.Maker.{Maker}
use Rattle.machine_values.specs.declared.names.Maker.TheVariants.{Class, Array}
use Rattle.machine_values.specs.declared.names.Name.{Name}
use Rattle.machine_values.specs.declared.names.Name.TheVariants.{Made, Literal, ClassObject}
use Rattle.machine_values.specs.declared.content.Content.{Content}
use Rattle.machine_values.specs.declared.content.Content.TheVariants.{Values, Text, Fixed}
use Rattle.machine_values.specs.Standing.{machine_name, name_in, name_of, object_of, listed, listed_one}
use Rattle.machine_values.specs.Things as things_of
use Rattle.machine_values.specs.Things.{Things, changed}
use Rattle.machine_requests.specs.Growing.{store_shares}
use Rattle.machine_requests.specs.Shares.{Setting, Others, Shares}
use Rattle.machine_requests.specs.TellingLaws.{named_at}
use Rattle.machine_rules.specs.Finishing.{is_made_name, is_made_at, Sets}
use Rattle.machine_rules.specs.Texts.{text_in, text_at, units_at}

-- ---- an object that was made

text_object : (heads : List ClassHead) (fields : List ℕ → List Reference) (names : List Name) (maker : Maker) (units : List ℕ) → object_of heads fields names maker (Text units) ≡ worlds.Text units
text_object heads fields names (Class class) units = refl
text_object heads fields names (Array type) units = refl

pub set_made : (things : Things) (at : Ref) (units : List ℕ) → at.0 < length things.names → is_made_at things at.0 ≡ true → Sets things at units (changed things at.0 (Text units))
set_made things at units known made s others w distinct shares = let name = named_at things.names at.0 known in by name.0 name.1 where
  by : (n : Name) → slice_get things.names at.0 ≡ Some n → Shares s (changed things at.0 (Text units)) others (set_object w (name_of s.heads things.names at) (worlds.Text units))
  by (Made maker k) there =
      subst (λ (a : machine.Name). Shares s (changed things at.0 (Text units)) others (set_object w a (worlds.Text units))) (sym (ap (name_in s.heads) there))
      (subst (λ (o : worlds.Object). Shares s (changed things at.0 (Text units)) others (set_object w (machine_name s.heads (Made maker k)) o)) (text_object s.heads s.classes.fields things.names maker units)
      (store_shares s things others w at.0 maker k (Text units) distinct shares there tt))
  by (Literal text) there = absurd (false≢true (sym (ap is_made_name there) ∙ made))
  by (ClassObject type) there = absurd (false≢true (sym (ap is_made_name there) ∙ made))

-- ---- another object isn't listed

abbrev Listing : Type 0
Listing = List (machine.Name × worlds.Object)

abbrev Lacks : machine.Name → Listing → Type 0
Lacks a heap = AllByRecursion (λ o. same_name o.0 a ≡ false) heap

lacks_both : (a : machine.Name) (xs ys : Listing) → Lacks a xs → Lacks a ys → Lacks a (xs ++ ys)
lacks_both a [] ys h k = k
lacks_both a (x ∷ xs) ys h k = (h.0, lacks_both a xs ys h.1 k)

lacks_reversed : (a : machine.Name) (xs : Listing) → Lacks a xs → Lacks a (reverse xs)
lacks_reversed a [] h = tt
lacks_reversed a (x ∷ xs) h = subst (Lacks a) (sym (reverse-append (x ∷ []) xs)) (lacks_both a (reverse xs) (x ∷ []) (lacks_reversed a xs h.1) (h.0, tt))

unchanged : (a : machine.Name) (object : worlds.Object) (xs : Listing) → Lacks a xs → with_changed xs a object ≡ xs
unchanged a object [] h = refl
unchanged a object (x ∷ xs) h = ap (λ (hit : Bool). if hit then (a, object) ∷ xs else x ∷ with_changed xs a object) h.0 ∙ ap (λ l. x ∷ l) (unchanged a object xs h.1)

module _ (heads : List ClassHead) (fields : List ℕ → List Reference) (names : List Name) (a : machine.Name) (apart : (maker : Maker) (k : ℕ) → same_name (machine_name heads (Made maker k)) a ≡ false) where
  lacks_one : (n : Name) (c : Content) → Lacks a (listed_one heads fields names n c)
  lacks_one (Made maker k) c = (apart maker k, tt)
  lacks_one (Literal units) c = tt
  lacks_one (ClassObject type) c = tt

  lacks_all : (ns : List Name) (cs : List Content) → Lacks a (listed heads fields names ns cs)
  lacks_all [] cs = tt
  lacks_all (n ∷ ns) [] = tt
  lacks_all (n ∷ ns) (c ∷ cs) = lacks_both a (listed_one heads fields names n c) (listed heads fields names ns cs) (lacks_one n c) (lacks_all ns cs)

-- so nothing changes
pub kept : (s : Setting) (things : Things) (others : Others) (w : World) (a : machine.Name) (object : worlds.Object) → ((maker : Maker) (k : ℕ) → same_name (machine_name s.heads (Made maker k)) a ≡ false) → Shares s things others w
    → Shares s things others (set_object w a object)
kept s things others w a object apart shares =
    subst (λ (heap : Listing). Shares s things others (record w { heap = heap }))
    (sym (unchanged a object w.heap (subst (Lacks a) (sym shares.heap.objects.same) (lacks_reversed a (listed s.heads s.classes.fields things.names things.names things.contents) (lacks_all s.heads s.classes.fields things.names a apart things.names things.contents)))))
    shares

pub set_fixed : (things : Things) (at : Ref) (units : List ℕ) → at.0 < length things.names → is_made_at things at.0 ≡ false → Sets things at units things
set_fixed things at units known fixed s others w distinct shares = let name = named_at things.names at.0 known in by name.0 name.1 where
  by : (n : Name) → slice_get things.names at.0 ≡ Some n → Shares s things others (set_object w (name_of s.heads things.names at) (worlds.Text units))
  by (Made maker k) there = absurd (false≢true (sym fixed ∙ ap is_made_name there))
  by (Literal text) there =
      subst (λ (a : machine.Name). Shares s things others (set_object w a (worlds.Text units))) (sym (ap (name_in s.heads) there)) (kept s things others w (machine.Literal text) (worlds.Text units) (λ maker k. refl) shares)
  by (ClassObject type) there =
      subst (λ (a : machine.Name). Shares s things others (set_object w a (worlds.Text units))) (sym (ap (name_in s.heads) there)) (kept s things others w (machine_name s.heads (ClassObject type)) (worlds.Text units) (λ maker k. refl) shares)

-- ---- units at the end

-- the text of an object that was made is what it holds
pub made_text : (things : Things) (at : ℕ) → at < length things.names → is_made_at things at ≡ true → text_at things at ≡ things_of.text_at things at
made_text things at known made = let name = named_at things.names at known in by name.0 name.1 where
  by_content : (o : Option Content) (maker : Maker) (k : ℕ) → text_in (Some (Made maker k)) o ≡ things_of.text_of o
  by_content None maker k = refl
  by_content (Some (Values vs)) maker k = refl
  by_content (Some (Text units)) maker k = refl
  by_content (Some Fixed) maker k = refl

  by : (n : Name) → slice_get things.names at ≡ Some n → text_at things at ≡ things_of.text_at things at
  by (Made maker k) there = ap (λ o. text_in o (slice_get things.contents at)) there ∙ by_content (slice_get things.contents at) maker k
  by (Literal text) there = absurd (false≢true (sym (ap is_made_name there) ∙ made))
  by (ClassObject type) there = absurd (false≢true (sym (ap is_made_name there) ∙ made))

pub append_made : (things : Things) (at : Ref) (units : List ℕ) → at.0 < length things.names → is_made_at things at.0 ≡ true
    → Sets things at (units_at things at.0 ++ units) (changed things at.0 (Text (unwrap_or (things_of.text_at things at.0) [] ++ units)))
append_made things at units known made =
    subst (λ (l : List ℕ). Sets things at (units_at things at.0 ++ units) (changed things at.0 (Text (l ++ units)))) (ap (λ o. unwrap_or o []) (made_text things at.0 known made))
    (set_made things at (units_at things at.0 ++ units) known made)
