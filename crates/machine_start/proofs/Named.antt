-- The methods of a class, one after the other, up to the entry.
use Rattle.std.specs.Prelude.{◌≡◌, ℕ, zero, suc, ◌+◌, ◌<◌, ◌≤◌, ◌&&◌, Bool, true, false, if◌then◌else◌, nat_eq, nat_lt, List, [], ◌∷◌, drop, length, slice_get, get_or, Option, Some, None, IfSome, option_and_then, refl}
use Rattle.std.specs.List.{find}
use Rattle.std.specs.Option.{option_map, option_eq}
use Rattle.std.specs.Str.{bytes_eq}
use Rattle.std.proofs.Common.{sym, ◌∙◌, ap, subst, arith}
use Rattle.std.proofs.lemmas.Bool.{false≢true, eqb-true, ltb-true, lt-ltb}
use Rattle.aj_names.specs.declared.ids.MethodId.{MethodId}
use Rattle.class_file.specs.declared.types.ClassFile.{ClassFile}
use Rattle.class_heads.specs.declared.types.MethodHead.{MethodHead}
use Rattle.class_heads.specs.declared.types.ClassHead.{ClassHead}
use Rattle.class_heads.specs.Hierarchy.{place_of}
use Rattle.class_heads.specs.Numbers.{number_of, method_counts}
use Rattle.class_heads.specs.Searches as search
use Rattle.class_heads.specs.Searches.{is_static, in_class, method_position}
use Rattle.class_world.specs.Tables.{Known}
use Rattle.class_world.specs.Found.{member_named}
use Rattle.class_machine.specs.Classes.{Method}
use Rattle.class_machine.specs.Descriptors.{parameters_in}
use Rattle.class_machine.specs.Start.{EntryArgument, takes_all, is_entry, entry_among}
use Rattle.machine_fields.specs.Settings.{is_at}
use Rattle.machine_steps.specs.Runs.{IsMethod}
use Rattle.machine_invocations.specs.Methods.{classes_in, method_in, declared_as, Finds}
use Rattle.machine_start.proofs.Types.{drop_next}
use Rattle.machine_start.specs.Entries.{methods_from, entry_in, entry_at, entry_of}

at_there : (o : Option ℕ) (position : ℕ) → is_at o position ≡ true → o ≡ Some position
at_there None position h = absurd (false≢true h)
at_there (Some first) position h = ap Some (eqb-true first position h)

pub same_place : (o : Option ℕ) (position : ℕ) → option_eq nat_eq o (Some position) ≡ is_at o position
same_place None position = refl
same_place (Some first) position = refl

get_at : {X : Type 0} (xs : List X) (i : ℕ) (d x : X) → i < length xs → x ≡ get_or xs i d → slice_get xs i ≡ Some x
get_at [] i d x h e = absurd (omega arith)
get_at (y ∷ xs) zero d x h e = ap Some (sym e)
get_at (y ∷ xs) (suc i) d x h e = get_at xs i d x (omega arith) e

module _ (k : Known) (name : List ℕ) (words : List EntryArgument) (place : ℕ) (c : ClassHead) where
  -- the entry among those from a position on
  abbrev pub entry_from : ℕ → Option Method
  entry_from i = entry_among (classes_in k) name words (methods_from k place c i (drop i c.methods))

  -- whether the method is the entry, if none before it is
  abbrev pub is_it : MethodHead → ℕ → Bool
  is_it m i =
      (is_static m && (bytes_eq m.name.name name && takes_all (classes_in k) (parameters_in m.name.descriptor) words)) && is_at (method_position m.name c) i

  abbrev chosen : Bool → Bool → MethodHead → List Method → Option Method
  chosen first entry m rest = let found = declared_as k place c m in if first then (if entry then Some found else find (is_entry (classes_in k) name words) rest) else find (is_entry (classes_in k) name words) rest

  abbrev later : ℕ → List Method
  later i = methods_from k place c (suc i) (drop (i + 1) c.methods)

  here : (i : ℕ) (d m : MethodHead) → i < length c.methods → m ≡ get_or c.methods i d → entry_from i ≡ chosen (is_at (method_position m.name c) i) (is_entry (classes_in k) name words (declared_as k place c m)) m (later i)
  here i d m within is =
      ap (λ ms. entry_among (classes_in k) name words (methods_from k place c i ms)) (drop_next c.methods i d within ∙ ap (λ x. x ∷ drop (i + 1) c.methods) (sym is))
      ∙ by (is_at (method_position m.name c) i) where
        by : (b : Bool) → find (is_entry (classes_in k) name words) (if b then declared_as k place c m ∷ later i else later i) ≡ chosen b (is_entry (classes_in k) name words (declared_as k place c m)) m (later i)
        by true = refl
        by false = refl

  pub passed : (i : ℕ) (d m : MethodHead) → i < length c.methods → m ≡ get_or c.methods i d → is_it m i ≡ false → entry_from i ≡ entry_from (i + 1)
  passed i d m within is none =
      here i d m within is ∙ by (is_at (method_position m.name c) i) (is_entry (classes_in k) name words (declared_as k place c m)) none
      ∙ ap (λ n. entry_among (classes_in k) name words (methods_from k place c n (drop (i + 1) c.methods))) (let e : suc i ≡ i + 1 = omega arith in e) where
        by : (first entry : Bool) → (entry && first) ≡ false → chosen first entry m (later i) ≡ find (is_entry (classes_in k) name words) (later i)
        by false entry e = refl
        by true false e = refl
        by true true e = absurd (false≢true (sym e))

  both : (a b : Bool) → (a && b) ≡ true → (a ≡ true) × (b ≡ true)
  both true true e = (refl, refl)
  both true false e = absurd (false≢true e)
  both false b e = absurd (false≢true e)

  pub found : (i : ℕ) (d m : MethodHead) → i < length c.methods → m ≡ get_or c.methods i d → slice_get k.heads place ≡ Some c → is_it m i ≡ true
      → (result : Option MethodId) → option_map (λ (x : MethodId). x.0) result ≡ option_map (λ position. number_of (method_counts k.heads) (in_class place position)) (search.method_in k.heads (member_named m.name.name m.name.descriptor) place)
      → Finds k result (entry_from i)
  found i d m within is class it result numbered = by result (numbered ∙ ap (option_map (λ position. number_of (method_counts k.heads) (in_class place position))) in_it) where
    first : method_position m.name c ≡ Some i
    first = at_there (method_position m.name c) i (both (is_static m && (bytes_eq m.name.name name && takes_all (classes_in k) (parameters_in m.name.descriptor) words)) (is_at (method_position m.name c) i) it).1

    in_it : search.method_in k.heads m.name place ≡ Some i
    in_it = ap (option_and_then (method_position m.name)) class ∙ first

    stands : slice_get c.methods i ≡ Some m
    stands = get_at c.methods i d m within is

    seen : method_in k (in_class place i) ≡ Some (declared_as k place c m)
    seen =
        ap (option_and_then (λ (x : ClassHead). option_map (λ (y : MethodHead). declared_as k place x y) (slice_get x.methods i))) class
        ∙ ap (option_map (λ (y : MethodHead). declared_as k place c y)) stands

    is_found : entry_from i ≡ Some (declared_as k place c m)
    is_found =
        here i d m within is
        ∙ ap (λ (b : Bool). chosen b (is_entry (classes_in k) name words (declared_as k place c m)) m (later i)) (both (is_static m && (bytes_eq m.name.name name && takes_all (classes_in k) (parameters_in m.name.descriptor) words)) (is_at (method_position m.name c) i) it).1
        ∙ ap (λ (b : Bool). chosen true b m (later i)) (both (is_static m && (bytes_eq m.name.name name && takes_all (classes_in k) (parameters_in m.name.descriptor) words)) (is_at (method_position m.name c) i) it).0

    by : (o : Option MethodId) → option_map (λ (x : MethodId). x.0) o ≡ Some (number_of (method_counts k.heads) (in_class place i)) → Finds k o (entry_from i)
    by None e = absurd cc
    by (Some id) e = record {
      method = declared_as k place c m;
      sees = record {
        place = in_class place i;
        first = record { head = c; method = m; class = class; stands = stands; first = first };
        numbered = let n : Some id.0 ≡ Some (number_of (method_counts k.heads) (in_class place i)) = e in cc;
        seen = seen;
      };
      is = is_found;
    }

-- ---- the class

past_end : {X : Type 0} (xs : List X) (i : ℕ) → slice_get xs i ≡ None → length xs ≤ i
past_end [] i h = omega arith
past_end (x ∷ xs) zero h = absurd cc
past_end (x ∷ xs) (suc i) h = let e = past_end xs i h in omega arith

pub within_there : {X : Type 0} (xs : List X) (i : ℕ) (x : X) → slice_get xs i ≡ Some x → i < length xs
within_there [] i x h = absurd cc
within_there (y ∷ xs) zero x h = omega arith
within_there (y ∷ xs) (suc i) x h = let e = within_there xs i x h in omega arith

not_less : (i n : ℕ) → n ≤ i → nat_lt i n ≡ false
not_less i n past = by (nat_lt i n) refl where
  by : (b : Bool) → nat_lt i n ≡ b → b ≡ false
  by true e = absurd (let below = ltb-true i n e in omega arith)
  by false e = refl

not_given : (k : Known) (name : List ℕ) (words : List EntryArgument) (place : ℕ) → slice_get k.files place ≡ None → entry_at k name words place ≡ None
not_given k name words place none =
    ap (λ (b : Bool). if b then option_and_then (entry_in k name words place) (slice_get k.heads place) else None) (not_less place (length k.files) (past_end k.files place none))

given : (k : Known) (name : List ℕ) (words : List EntryArgument) (place : ℕ) (file : ClassFile) (c : ClassHead) → slice_get k.files place ≡ Some file → slice_get k.heads place ≡ Some c → entry_at k name words place ≡ entry_in k name words place c
given k name words place file c there head =
    ap (λ (b : Bool). if b then option_and_then (entry_in k name words place) (slice_get k.heads place) else None) (lt-ltb place (length k.files) (within_there k.files place file there))
    ∙ ap (option_and_then (entry_in k name words place)) head

pub entry_given : (k : Known) (class name : List ℕ) (words : List EntryArgument) (place : ℕ) (file : ClassFile) (result : Option MethodId) → place_of k.heads class ≡ Some place → slice_get k.files place ≡ Some file → place < length k.heads
    → ((c : ClassHead) → slice_get k.heads place ≡ Some c → Finds k result (entry_in k name words place c)) → Finds k result (entry_of k class name words)
entry_given k class name words place file result at there below finds = by (slice_get k.heads place) refl where
  by : (o : Option ClassHead) → slice_get k.heads place ≡ o → Finds k result (entry_of k class name words)
  by None e = absurd (let past = past_end k.heads place e in omega arith)
  by (Some c) e = subst (Finds k result) (sym (ap (option_and_then (entry_at k name words)) at ∙ given k name words place file c there e)) (finds c e)

pub entry_not_given : (k : Known) (class name : List ℕ) (words : List EntryArgument) (place : ℕ) → place_of k.heads class ≡ Some place → slice_get k.files place ≡ None → entry_of k class name words ≡ None
entry_not_given k class name words place at none = ap (option_and_then (entry_at k name words)) at ∙ not_given k name words place none

pub found_method : (k : Known) (result : Option MethodId) (found : Option Method) → Finds k result found → IfSome result (λ (m : MethodId). IsMethod k m.0)
found_method k None found h = tt
found_method k (Some m) found h = record { place = h.sees.place; first = h.sees.first; numbered = h.sees.numbered }
