-- A write to a field that an object lacks changes nothing.
use Rattle.std.specs.Prelude.{◌≡◌, ℕ, suc, ◌<◌, Bool, true, false, if◌then◌else◌, List, [], ◌∷◌, ◌++◌, map, reverse, slice_get, length, Option, Some, None, refl}
use Rattle.std.specs.List.{zip}
use Rattle.std.specs.Option.{option_map}
use Rattle.std.proofs.Common.{sym, ap, ◌∙◌, subst, arith}
use Rattle.std.proofs.lemmas.List.{reverse-append}
use Rattle.std.proofs.lemmas.Option.{none-some}
use Rattle.class_file.specs.Pool.{Reference}
use Rattle.class_machine.specs.Classes.{same_member}
use Rattle.class_machine.specs.Values as machine
use Rattle.class_machine.specs.Values.{Held, class_of, same_name}
use Rattle.class_machine.specs.World as worlds
use Rattle.class_machine.specs.World.{World, find_made, with_changed, with_field, stored, written, write_field}
use Rattle.machine_values.specs.declared.content.Content.{Content}
use Rattle.machine_values.specs.declared.content.Content.TheVariants.{Values, Text, Fixed}
use Rattle.machine_values.specs.declared.names.Maker.{Maker}
use Rattle.machine_values.specs.declared.names.Maker.TheVariants.{Class, Array}
use Rattle.machine_values.specs.declared.names.Name.{Name}
use Rattle.machine_values.specs.declared.names.Name.TheVariants.{Made, Literal, ClassObject}
use Rattle.machine_values.specs.ChangeLaws.{Listing, Lacks}
use Rattle.machine_values.specs.Standing.{machine_name, name_in, held, object_of, listed_one, listed}
use Rattle.machine_values.specs.Things.{Things}
use Rattle.machine_requests.specs.Objects.{field_place}
use Rattle.machine_requests.specs.Shares.{Setting, Others, Shares}
use Rattle.machine_requests.specs.Telling.{AreDistinct}
use Rattle.machine_requests.specs.TellingLaws.{named_at}
use Rattle.machine_requests.proofs.ArrayLaws.{place_name, content_at}
use Rattle.machine_requests.proofs.Counts.{same_is}
use Rattle.machine_requests.proofs.Found.{made_found}

-- ---- the heap

-- an object that holds what it held
same_object : (heap : Listing) (a : machine.Name) (object : worlds.Object) → find_made heap a ≡ Some object → with_changed heap a object ≡ heap
same_object [] a object found = refl
same_object (x ∷ heap) a object found = by (same_name x.0 a) refl found (same_object heap a object) where
  by : (hit : Bool) → same_name x.0 a ≡ hit → (if hit then Some x.1 else find_made heap a) ≡ Some object → (find_made heap a ≡ Some object → with_changed heap a object ≡ heap)
      → (if hit then (a, object) ∷ heap else x ∷ with_changed heap a object) ≡ x ∷ heap
  by true is same rest = let name : x.0 ≡ a = same_is x.0 a is in let held : x.1 ≡ object = cc in ap (λ b. (b, object) ∷ heap) (sym name) ∙ ap (λ o. (x.0, o) ∷ heap) (sym held)
  by false is same rest = ap (λ l. x ∷ l) (rest same)

-- an object that isn't listed
unlisted : (heap : Listing) (a : machine.Name) (object : worlds.Object) → Lacks a heap → with_changed heap a object ≡ heap
unlisted [] a object lacks = refl
unlisted (x ∷ heap) a object lacks = ap (λ hit. if hit then (a, object) ∷ heap else x ∷ with_changed heap a object) lacks.0 ∙ ap (λ l. x ∷ l) (unlisted heap a object lacks.1)

lacks_both : (a : machine.Name) (xs ys : Listing) → Lacks a xs → Lacks a ys → Lacks a (xs ++ ys)
lacks_both a [] ys h k = k
lacks_both a (x ∷ xs) ys h k = (h.0, lacks_both a xs ys h.1 k)

lacks_reversed : (a : machine.Name) (xs : Listing) → Lacks a xs → Lacks a (reverse xs)
lacks_reversed a [] h = tt
lacks_reversed a (x ∷ xs) h = subst (Lacks a) (sym (reverse-append (x ∷ []) xs)) (lacks_both a (reverse xs) (x ∷ []) (lacks_reversed a xs h.1) (h.0, tt))

-- only objects that were made are listed
module _ (s : Setting) (names : List Name) (a : machine.Name) (other : (maker : Maker) (k : ℕ) → same_name (machine_name s.heads (Made maker k)) a ≡ false) where
  lacks_one : (n : Name) (c : Content) → Lacks a (listed_one s.heads s.classes.fields names n c)
  lacks_one (Made maker k) c = (other maker k, tt)
  lacks_one (Literal units) c = tt
  lacks_one (ClassObject type) c = tt

  lacks_listed : (ns : List Name) (cs : List Content) → Lacks a (listed s.heads s.classes.fields names ns cs)
  lacks_listed [] cs = tt
  lacks_listed (n ∷ ns) [] = tt
  lacks_listed (n ∷ ns) (c ∷ cs) = lacks_both a (listed_one s.heads s.classes.fields names n c) (listed s.heads s.classes.fields names ns cs) (lacks_one n c) (lacks_listed ns cs)

-- ---- fields

lacks_field : (fs : List Reference) (hs : List Held) (r : Reference) (v : Held) → field_place fs r ≡ None → with_field (zip fs hs) r v ≡ zip fs hs
lacks_field [] hs r v none = refl
lacks_field (f ∷ fs) [] r v none = refl
lacks_field (f ∷ fs) (h ∷ hs) r v none = by (same_member f r) none (lacks_field fs hs r v) where
  later : (o : Option ℕ) → option_map suc o ≡ None → o ≡ None
  later None e = refl
  later (Some p) e = absurd cc

  by : (hit : Bool) → (if hit then Some 0 else option_map suc (field_place fs r)) ≡ None → (field_place fs r ≡ None → with_field (zip fs hs) r v ≡ zip fs hs)
      → (if hit then (r, v) ∷ zip fs hs else (f, h) ∷ with_field (zip fs hs) r v) ≡ (f, h) ∷ zip fs hs
  by true e rest = absurd (none-some 0 (sym e))
  by false e rest = ap (λ l. (f, h) ∷ l) (rest (later (field_place fs r) e))

-- ---- objects

module _ (s : Setting) (things : Things) (others : Others) (w : World) (distinct : AreDistinct s.heads) (shares : Shares s things others w) (at : ℕ) (r : Reference) (v : Held)
    (none : field_place (s.classes.fields (class_of (place_name s things at))) r ≡ None) where
  same_stored : (maker : Maker) (k : ℕ) (c : Content) → slice_get things.names at ≡ Some (Made maker k) → stored (object_of s.heads s.classes.fields things.names maker c) r v ≡ object_of s.heads s.classes.fields things.names maker c
  same_stored (Class class) k (Values vs) there =
      let lacks = ap (λ (o : Option Name). field_place (s.classes.fields (class_of (name_in s.heads o))) r) (sym there) ∙ none in
      ap worlds.Instance (lacks_field (s.classes.fields (class_of (machine_name s.heads (Made (Class class) k)))) (map (held s.heads things.names) vs) r v lacks)
  same_stored (Class class) k (Text units) there = refl
  same_stored (Class class) k Fixed there = refl
  same_stored (Array type) k (Values vs) there = refl
  same_stored (Array type) k (Text units) there = refl
  same_stored (Array type) k Fixed there = refl

  at_made : (maker : Maker) (k : ℕ) (c : Content) → slice_get things.names at ≡ Some (Made maker k) → slice_get things.contents at ≡ Some c → write_field w (place_name s things at) r v ≡ w
  at_made maker k c there holds =
      let a = machine_name s.heads (Made maker k) in
      let object = object_of s.heads s.classes.fields things.names maker c in
      let found = made_found s things others w at maker k c distinct shares there holds in
      ap (λ (o : Option Name). write_field w (name_in s.heads o) r v) there
      ∙ ap (written w a r v) found
      ∙ ap (λ (o : worlds.Object). record w { heap = with_changed w.heap a o }) (same_stored maker k c there)
      ∙ ap (λ (h : Listing). record w { heap = h }) (same_object w.heap a object found)

  -- the String of a literal and the object that stands for a class are listed nowhere
  at_constant : (a : machine.Name) (object : worlds.Object) → ((maker : Maker) (k : ℕ) → same_name (machine_name s.heads (Made maker k)) a ≡ false) → record w { heap = with_changed w.heap a object } ≡ w
  at_constant a object other =
      let all = listed s.heads s.classes.fields things.names things.names things.contents in
      let lacks : Lacks a w.heap = subst (Lacks a) (sym shares.heap.objects.same) (lacks_reversed a all (lacks_listed s things.names a other things.names things.contents)) in
      ap (λ (h : Listing). record w { heap = h }) (unlisted w.heap a object lacks)

  by_name : (n : Name) (c : Content) → slice_get things.names at ≡ Some n → slice_get things.contents at ≡ Some c → write_field w (place_name s things at) r v ≡ w
  by_name (Made maker k) c there holds = at_made maker k c there holds
  by_name (Literal units) c there holds = ap (λ (o : Option Name). write_field w (name_in s.heads o) r v) there ∙ at_constant (machine_name s.heads (Literal units)) (worlds.Text units) (λ maker k. refl)
  by_name (ClassObject type) c there holds = ap (λ (o : Option Name). write_field w (name_in s.heads o) r v) there ∙ at_constant (machine_name s.heads (ClassObject type)) (worlds.Instance []) (λ maker k. refl)

  pub writes_nothing : at < length things.names → write_field w (place_name s things at) r v ≡ w
  writes_nothing known =
      let name = named_at things.names at known in
      let whole = shares.heap.objects.whole in
      let content = content_at things.contents at (omega arith) in
      by_name name.0 content.0 name.1 content.1
