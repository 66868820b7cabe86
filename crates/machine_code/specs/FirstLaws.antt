-- The searches of methods find methods that are the first of their names, and each of those has a number of its own.
use Rattle.std.specs.Prelude.{◌≡◌, ℕ, zero, suc, ◌+◌, ◌&&◌, Bool, true, false, cond, List, [], ◌∷◌, ◌++◌, length, slice_get, Option, Some, None, refl}
use Rattle.std.proofs.Common.{get_or, sym, ap, ◌∙◌, subst, arith}
use Rattle.std.specs.List.{filter, position_from}
use Rattle.std.specs.Option.{option_map, option_or}
use Rattle.std.specs.Str.{bytes_eq}
use Rattle.std.proofs.lemmas.List.{length-map}
use Rattle.std.proofs.lemmas.Option.{option_and_then_some, cond_some, slice_get-map, slice_get_within, get_or_from_slice_get}
use Rattle.std.proofs.lemmas.Slice.Eq.{bytes_eq-Decides}
use Rattle.aj_names.specs.declared.types.MemberName.{MemberName}
use Rattle.class_heads.specs.declared.types.MethodHead.{MethodHead}
use Rattle.class_heads.specs.declared.types.ClassHead.{ClassHead}
use Rattle.class_heads.specs.Hierarchy.{superclasses, order}
use Rattle.class_heads.specs.Searches.{MemberPlace, same_name, in_class, first_found, is_private, is_selectable, is_interface_at, method_position, method_in, method_at, find_method, if_selectable, selectable_of, selectable_in, selected, select}
use Rattle.class_heads.specs.Numbers.{number_of, IsNumbered, method_counts}
use Rattle.machine_code.specs.Programs.{IsFirst}

-- ---- the first that passes

some_at : (a b : ℕ) → Some a ≡ Some b → a ≡ b
some_at a b e = cc

-- what stands at the place that is found passes
passes_there : {X : Type 0} (test : X → Bool) (s k : ℕ) (xs : List X) → position_from test s xs ≡ Some k → (i : ℕ) × (x : X) × (k ≡ s + i) × (slice_get xs i ≡ Some x) × (test x ≡ true)
passes_there test s k [] at = absurd cc
passes_there {X} test s k (x ∷ xs) at = by (λ e. passes_there test (s + 1) k xs e) (test x) refl where
  by : (position_from test (s + 1) xs ≡ Some k → (i : ℕ) × (y : X) × (k ≡ s + 1 + i) × (slice_get xs i ≡ Some y) × (test y ≡ true)) → (b : Bool) → test x ≡ b
      → (i : ℕ) × (y : X) × (k ≡ s + i) × (slice_get (x ∷ xs) i ≡ Some y) × (test y ≡ true)
  by later true is =
      let first = some_at s k (sym (ap (λ b. cond b (Some s) (position_from test (s + 1) xs)) is) ∙ at) in
      (zero, x, (let e : k ≡ s + 0 = omega arith in e), refl, is)
  by later false is =
      let r = later (sym (ap (λ b. cond b (Some s) (position_from test (s + 1) xs)) is) ∙ at) in
      (suc r.0, r.1, (let e = r.2 in omega arith), r.3, r.4)

both : (a b : Bool) → (a && b) ≡ true → (a ≡ true) × (b ≡ true)
both true true e = (refl, refl)
both true false e = absurd cc
both false b e = absurd cc

same_member : (a b : MemberName) → same_name a b ≡ true → a ≡ b
same_member a b same =
    let parts = both (bytes_eq a.name b.name) (bytes_eq a.descriptor b.descriptor) same in
    let names = (bytes_eq-Decides a.name b.name).0 parts.0 in
    let descriptors = (bytes_eq-Decides a.descriptor b.descriptor).0 parts.1 in
    let begun : a ≡ record { name = b.name; descriptor = a.descriptor } = ap (λ (n : List ℕ). record { name = n; descriptor = a.descriptor }) names in
    begun ∙ ap (λ (d : List ℕ). record { name = b.name; descriptor = d }) descriptors

-- ---- searches

module _ (heads : List ClassHead) where
  first_in : (member : MemberName) (class position : ℕ) (head : ClassHead) → slice_get heads class ≡ Some head → method_position member head ≡ Some position → IsFirst heads (in_class class position)
  first_in member class position head at found =
      let there = passes_there (λ (m : MethodHead). same_name m.name member) 0 position head.methods found in
      let method = there.1 in
      let here : there.0 ≡ position = let e = there.2 in omega arith in
      let named : method.name ≡ member = same_member method.name member there.4 in
      record {
        head = head;
        method = method;
        class = at;
        stands = subst (λ (i : ℕ). slice_get head.methods i ≡ Some method) here there.3;
        first = subst (λ (n : MemberName). method_position n head ≡ Some position) (sym named) found;
      }

  -- the method that a class declares itself
  pub declared_is_first : (member : MemberName) (class position : ℕ) → method_in heads member class ≡ Some position → IsFirst heads (in_class class position)
  declared_is_first member class position found =
      option_and_then_some (method_position member) (slice_get heads class) position found (λ head at is. first_in member class position head at is)

  same_position : (head : ClassHead) (position other : ℕ) (m : Option MethodHead) → slice_get head.methods position ≡ m → if_selectable heads head position ≡ Some other → position ≡ other
  same_position head position other None e h = let h' = rw e at h in absurd cc
  same_position head position other (Some m) e h = let h' = rw e at h in (cond_some (is_selectable m) position other h').1

  selectable_is_first : (member : MemberName) (class position : ℕ) → selectable_in heads member class ≡ Some position → IsFirst heads (in_class class position)
  selectable_is_first member class position found =
      option_and_then_some (selectable_of heads member) (slice_get heads class) position found
      (λ head at own.
      option_and_then_some (if_selectable heads head) (method_position member head) position own
      (λ other named passes.
      let same = same_position head other position (slice_get head.methods other) refl passes in
      subst (λ (p : ℕ). IsFirst heads (in_class class p)) same (first_in member class other head at named)))

  found_or : (search : ℕ → Option ℕ) (class : ℕ) (m : MemberPlace) (found : Option ℕ) (rest : Option MemberPlace) → search class ≡ found → option_or (option_map (in_class class) found) rest ≡ Some m → (rest ≡ Some m → search m.class ≡ Some m.position) → search m.class ≡ Some m.position
  found_or search class m None rest e h later = later h
  found_or search class m (Some position) rest e h later =
      let same : in_class class position ≡ m = cc in
      subst (λ (n : MemberPlace). search n.class ≡ Some n.position) same e

  found_in : (search : ℕ → Option ℕ) (classes : List ℕ) (m : MemberPlace) → first_found search classes ≡ Some m → search m.class ≡ Some m.position
  found_in search [] m h = absurd cc
  found_in search (class ∷ classes) m h = found_or search class m (search class) (first_found search classes) refl h (λ r. found_in search classes m r)

  -- the method that a search finds
  pub found_is_first : (class : ℕ) (member : MemberName) (m : MemberPlace) → find_method heads class member ≡ Some m → IsFirst heads m
  found_is_first class member m found =
      declared_is_first member m.class m.position (found_in (method_in heads member) (superclasses heads class ++ filter (is_interface_at heads) (order heads class)) m found)

  -- the first one upward that may be selected
  pub selectable_found_is_first : (member : MemberName) (classes : List ℕ) (m : MemberPlace) → first_found (selectable_in heads member) classes ≡ Some m → IsFirst heads m
  selectable_found_is_first member classes m found = selectable_is_first member m.class m.position (found_in (selectable_in heads member) classes m found)

  private_or : (runtime : ℕ) (found m : MemberPlace) (method : MethodHead) (b : Bool) → IsFirst heads found → cond b (Some found) (first_found (selectable_in heads method.name) (superclasses heads runtime)) ≡ Some m → IsFirst heads m
  private_or runtime found m method true first e = let same : found ≡ m = cc in subst (IsFirst heads) same first
  private_or runtime found m method false first e = selectable_found_is_first method.name (superclasses heads runtime) m e

  selected_first : (runtime : ℕ) (found m : MemberPlace) (method : Option MethodHead) → IsFirst heads found → selected heads runtime found method ≡ Some m → IsFirst heads m
  selected_first runtime found m None first e = absurd cc
  selected_first runtime found m (Some method) first e = private_or runtime found m method (is_private method) first e

  -- the method that is selected where such a one was found
  pub selected_is_first : (runtime : ℕ) (found m : MemberPlace) → IsFirst heads found → select heads runtime found ≡ Some m → IsFirst heads m
  selected_is_first runtime found m first e = selected_first runtime found m (method_at heads found) first e

  -- ---- numbers

  pub first_is_numbered : (m : MemberPlace) → IsFirst heads m → IsNumbered (method_counts heads) (number_of (method_counts heads) m) m
  first_is_numbered m first =
      let within = slice_get_within heads m.class first.head first.class in
      let inside = slice_get_within first.head.methods m.position first.method first.stands in
      let count : get_or (method_counts heads) m.class 0 ≡ length first.head.methods =
      get_or_from_slice_get (method_counts heads) m.class (length first.head.methods) 0 (slice_get-map (λ (c : ClassHead). length c.methods) heads m.class ∙ ap (option_map (λ (c : ClassHead). length c.methods)) first.class) in
      record {
        known = omega (arith, length-map heads (λ (c : ClassHead). length c.methods));
        within = omega arith;
        numbered = refl;
      }
