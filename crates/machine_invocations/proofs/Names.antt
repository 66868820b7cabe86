-- Classes by their names.
use Rattle.std.specs.Prelude.{◌≡◌, ℕ, ◌<◌, ◌==◌, ◌&&◌, ◌||◌, Bool, true, false, not, if◌then◌else◌, List, [], ◌∷◌, length, Some, None, refl}
use Rattle.std.proofs.Common.{sym, ap, ◌∙◌}
use Rattle.std.specs.List.{list_all}
use Rattle.class_file.specs.Text.{is_field_descriptor}
use Rattle.class_heads.specs.Hierarchy.{TypeName, is_array, type_named, type_of_descriptor, object_name, name_at, place_of, class_of_members}
use Rattle.class_world.specs.Tables.{Known}
use Rattle.class_machine.specs.ClassFiles.{field_constant}
use Rattle.class_machine.specs.Declarations as run
use Rattle.machine_requests.specs.Telling.{is_letter, is_plain, AreDistinct}
use Rattle.machine_invocations.specs.Methods.{classes_in, members_in}
use Rattle.machine_invocations.specs.Initialising.{names_upward}

not_bracket : (b : ℕ) (c : Bool) → (b == 91) ≡ c → is_letter b ≡ true → c ≡ false
not_bracket b false e letter = refl
not_bracket b true e letter = absurd (by (b == 59) (sym (ap (λ x. not ((b == 59) || x)) e) ∙ letter)) where
  by : (x : Bool) → not (x || true) ≡ true → ⊥
  by true h = cc
  by false h = cc

pub plain_array : (name : List ℕ) → is_plain name ≡ true → is_array name ≡ false
plain_array [] h = refl
plain_array (b ∷ bytes) h = by (is_letter b) refl where
  by : (x : Bool) → is_letter b ≡ x → is_array (b ∷ bytes) ≡ false
  by true e = not_bracket b (b == 91) refl e
  by false e = absurd (let no : false ≡ true = sym (ap (λ x. x && list_all is_letter bytes) e) ∙ h in cc)

module _ (k : Known) where
  pub superclasses_named : (class : ℕ) → AreDistinct k.heads → class < length k.heads → (classes_in k).superclasses (name_at k.heads class) ≡ names_upward k class
  superclasses_named class distinct within =
      ap (λ (b : Bool). if b then name_at k.heads class ∷ object_name ∷ [] else run.superclasses_of k.heads (length k.files) (field_constant k.files) (place_of k.heads (name_at k.heads class))) (plain_array (name_at k.heads class) (distinct.plain class within))
      ∙ ap (run.superclasses_of k.heads (length k.files) (field_constant k.files)) (distinct.different class within)

  -- a class has the members that it has
  pub class_members : (name : List ℕ) → is_array name ≡ false → members_in k name ≡ place_of k.heads name
  class_members name plain =
      ap (λ (b : Bool). if (if b then is_field_descriptor name else true) then class_of_members k.heads (type_named name) else None) plain
      ∙ ap (λ (b : Bool). class_of_members k.heads (if b then type_of_descriptor name else TypeName.Class name)) plain

  pub class_has_members : (class : ℕ) → AreDistinct k.heads → class < length k.heads → members_in k (name_at k.heads class) ≡ Some class
  class_has_members class distinct within = class_members (name_at k.heads class) (plain_array (name_at k.heads class) (distinct.plain class within)) ∙ distinct.different class within
