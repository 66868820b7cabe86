-- No class of a program has an empty name.
use Rattle.std.specs.Prelude.{◌≡◌, ℕ, ◌+◌, ◌≤◌, ◌++◌, Bool, true, false, not, cond, IsTrue, List, [], ◌∷◌, map, length, Option, Some, None, refl}
use Rattle.std.specs.List.{AllByRecursion, list_all, position_from}
use Rattle.std.specs.Option.{option_map, unwrap_or}
use Rattle.std.specs.Str.{bytes_eq}
use Rattle.std.proofs.Common.{sym, ◌∙◌, ap, subst}
use Rattle.std.proofs.lemmas.Bool.{and_parts, false≢true}
use Rattle.std.proofs.lemmas.Option.{slice_get_past}
use Rattle.boot_library.specs.Heads.{library_heads}
use Rattle.class_file.specs.declared.types.ClassFile.{ClassFile}
use Rattle.class_file.specs.Pool.{this_name}
use Rattle.class_file.specs.Sound.{is_some_that}
use Rattle.class_file.specs.Text.{is_class_name}
use Rattle.class_file.specs.WellFormed.{is_well_formed}
use Rattle.class_heads.specs.declared.types.ClassHead.{ClassHead}
use Rattle.class_heads.specs.Heads.{head_of}
use Rattle.class_heads.specs.Hierarchy.{is_named, name_at, place_of}
use Rattle.class_world.specs.Tables.{Known}
use Rattle.class_machine.specs.Classes.{is_among}
use Rattle.class_machine.specs.ClassFiles.{field_constant}
use Rattle.class_machine.specs.Declarations as run
use Rattle.machine_code.proofs.Formed.{names_itself}
use Rattle.machine_steps.specs.Programs.{IsRunnable}
use Rattle.machine_invocations.specs.Methods.{classes_in}

abbrev IsUnnamed : ClassHead → Type 0
IsUnnamed c = is_named [] c ≡ false

text_unnamed : (o : Option (List ℕ)) → is_some_that is_class_name o ≡ true → bytes_eq (unwrap_or o []) [] ≡ false
text_unnamed None there = absurd (false≢true there)
text_unnamed (Some []) there = absurd (false≢true there)
text_unnamed (Some (b ∷ bytes)) there = refl

files_unnamed : (files : List ClassFile) (library : List ClassHead) → AllByRecursion (λ c. IsTrue (is_well_formed c)) files → AllByRecursion IsUnnamed library → AllByRecursion IsUnnamed (map head_of files ++ library)
files_unnamed [] library formed others = others
files_unnamed (c ∷ files) library formed others = (text_unnamed (this_name c) (names_itself c formed.0), files_unnamed files library formed.1 others)

all_unnamed : (heads : List ClassHead) → list_all (λ c. not (is_named [] c)) heads ≡ true → AllByRecursion IsUnnamed heads
all_unnamed [] h = tt
all_unnamed (c ∷ heads) h = let both = and_parts (not (is_named [] c)) (list_all (λ d. not (is_named [] d)) heads) h in (by (is_named [] c) both.0, all_unnamed heads both.1) where
  by : (b : Bool) → not b ≡ true → b ≡ false
  by true e = absurd (false≢true e)
  by false e = refl

-- by computation
library_unnamed : list_all (λ c. not (is_named [] c)) library_heads ≡ true
library_unnamed = refl

none_placed : (heads : List ClassHead) (i : ℕ) → AllByRecursion IsUnnamed heads → position_from (is_named []) i heads ≡ None
none_placed [] i h = refl
none_placed (c ∷ heads) i h = ap (λ (b : Bool). cond b (Some i) (position_from (is_named []) (i + 1) heads)) h.0 ∙ none_placed heads (i + 1) h.1

no_place : (k : Known) → IsRunnable k → place_of k.heads [] ≡ None
no_place k runnable = none_placed k.heads 0 (subst (AllByRecursion IsUnnamed) (sym runnable.library) (files_unnamed k.files library_heads runnable.program.formed (all_unnamed library_heads library_unnamed)))

-- what isn't there has no superclasses
pub none_upward : (k : Known) (class : ℕ) (name : List ℕ) → IsRunnable k → length k.heads ≤ class → is_among ((classes_in k).superclasses (name_at k.heads class)) name ≡ false
none_upward k class name runnable past =
    let unnamed : name_at k.heads class ≡ [] = ap (λ (o : Option ClassHead). unwrap_or (option_map (λ (c : ClassHead). c.name) o) []) (slice_get_past k.heads class past) in
    ap (λ (c : List ℕ). is_among ((classes_in k).superclasses c) name) unnamed
    ∙ ap (λ (o : Option ℕ). is_among (run.superclasses_of k.heads (length k.files) (field_constant k.files) o) name) (no_place k runnable)
