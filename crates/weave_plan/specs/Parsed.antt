-- What each file is, and the first that isn't built, by what the files are.
use Rattle.std.specs.Prelude.{◌≡◌, ℕ, ◌+◌, nat_le, Bool, true, false, not, ◌&&◌, ◌||◌, cond, List, [], ◌∷◌, ◌++◌, length, IsTrue, Option, Some, None, Ok, Err, MatchBool, codes}
use Rattle.std.specs.List.{list_any}
use Rattle.std.specs.Str.{bytes_eq}
use Rattle.class_file.specs.declared.types.ClassFile.{ClassFile}
use Rattle.class_file.specs.Pool.{this_name}
use Rattle.class_file.specs.Sound.{is_some_that}
use Rattle.class_file.specs.WellFormed.{is_well_formed}
use Rattle.class_file.specs.FirstForm.{is_first_form}
use Rattle.class_format.specs.declared.fault.ClassFault.{ClassFault}
use Rattle.class_format.specs.declared.fault.ClassFault.TheVariants as class_fault
use Rattle.class_format.specs.Reading.{reading}
use Rattle.jp_model.specs.declared.first_aspect.FirstAspect.{FirstAspect}
use Rattle.jp_model.specs.AspectText.{SpellsAspect}
use Rattle.jp_model.specs.Input.{is_class_file, SpellsClass}
use Rattle.weave_plan.specs.declared.parsing.Parsed.{Parsed}
use Rattle.weave_plan.specs.declared.parsing.Parsed.TheVariants.{Class, Aspect, Other}
use Rattle.weave_plan.specs.declared.planning.PlanFault.{PlanFault}
use Rattle.weave_plan.specs.declared.planning.PlanFault.TheVariants as plan_fault

-- the bytes, of this number, are those of this class file, and of no other
pub record SpellsOneClass (bytes : List ℕ) (c : ClassFile) (count : ℕ) : Type 0 where
  pub spelled : SpellsClass bytes c
  pub only : (other : ClassFile) → SpellsClass bytes other → other ≡ c
  pub read : reading bytes ≡ Ok c
  pub counted : count ≡ length bytes

-- the bytes are the text of this aspect, and of no other
pub record SpellsOneAspect (bytes : List ℕ) (a : FirstAspect) : Type 0 where
  pub spelled : SpellsAspect bytes a
  pub only : (other : FirstAspect) → SpellsAspect bytes other → other ≡ a

abbrev pub SpellsNoAspect : List ℕ → Type 0
SpellsNoAspect bytes = (a : FirstAspect) → ¬ (SpellsAspect bytes a)

-- what the file of a class is, by its bytes, and what one of an aspect is
abbrev pub IsParsedClass : List ℕ → Parsed → Type 0
IsParsedClass bytes (Class c count) = SpellsOneClass bytes c count
IsParsedClass bytes (Aspect a) = ⊥
IsParsedClass bytes Other = ⊥

abbrev pub IsParsedAspect : List ℕ → Parsed → Type 0
IsParsedAspect bytes (Class c count) = ⊥
IsParsedAspect bytes (Aspect a) = SpellsOneAspect bytes a
IsParsedAspect bytes Other = SpellsNoAspect bytes

-- what a file is
abbrev pub IsParsed : (List ℕ × List ℕ) → Parsed → Type 0
IsParsed file parsed = MatchBool (is_class_file file.0) (IsParsedClass file.1 parsed) (IsParsedAspect file.1 parsed)

-- the file at this place is one of a class that is none, for this fault, unless memory ran out
abbrev pub IsFaultOf : ℕ → (List ℕ × List ℕ) → PlanFault → Type 0
IsFaultOf place file (plan_fault.Class at fault) = (at ≡ place) × (is_class_file file.0 ≡ true) × (reading file.1 ≡ Err fault)
IsFaultOf place file (plan_fault.World fault) = ⊥
IsFaultOf place file (plan_fault.NotBuilt at) = ⊥
IsFaultOf place file plan_fault.Memory = Unit {0}

-- the fault of a file at a place
abbrev pub fault_at : ℕ → ClassFault → PlanFault
fault_at place class_fault.Memory = plan_fault.Memory
fault_at place fault = plan_fault.Class place fault

-- a class that was read is a class file
abbrev pub IsFormed : Parsed → Type 0
IsFormed (Class c count) = IsTrue (is_well_formed c)
IsFormed (Aspect a) = Unit {0}
IsFormed Other = Unit {0}

-- ---- names and kinds

-- it is a class with this name
abbrev pub is_class_named : List ℕ → Parsed → Bool
is_class_named name (Class c count) = is_some_that (λ found. bytes_eq found name) (this_name c)
is_class_named name (Aspect a) = false
is_class_named name Other = false

-- one of these is a class with this name
abbrev pub has_class_named : List Parsed → List ℕ → Bool
has_class_named files name = list_any (is_class_named name) files

-- it is the file of an aspect
abbrev pub is_aspect : Parsed → Bool
is_aspect (Class c count) = false
is_aspect (Aspect a) = true
is_aspect Other = true

abbrev pub has_aspect : List Parsed → Bool
has_aspect files = list_any is_aspect files

-- ---- the first file that isn't built

-- the class, whose file has so many bytes, is of the form that is built beside an aspect, where there is one
abbrev pub has_form : Bool → ClassFile → ℕ → Bool
has_form beside_aspect c count = not beside_aspect || (is_first_form c && nat_le count 65536)

-- A class has the aspect's name, or hides java.lang's System from its body.
abbrev pub is_hidden : List Parsed → FirstAspect → Bool
is_hidden files a = has_class_named files a.name || has_class_named files (codes "System")

-- the file is built that stands behind these ones of all
abbrev pub is_built : List Parsed → List Parsed → Parsed → Bool
is_built all before (Class c count) = has_form (has_aspect all) c count
is_built all before (Aspect a) = not (has_aspect before || is_hidden all a)
is_built all before Other = false

-- The place of the first file that isn't built among the last of all, before which these stand, as many as
-- the place says.
abbrev pub first_refused : List Parsed → List Parsed → ℕ → List Parsed → Option ℕ
first_refused all before place [] = None
first_refused all before place (file ∷ rest) =
    cond (is_built all before file) (first_refused all (before ++ file ∷ []) (place + 1) rest) (Some place)

-- ---- the classes and the aspects

abbrev pub classes_in : List Parsed → List ClassFile
classes_in [] = []
classes_in (Class c count ∷ rest) = c ∷ classes_in rest
classes_in (Aspect a ∷ rest) = classes_in rest
classes_in (Other ∷ rest) = classes_in rest

abbrev pub aspects_in : List Parsed → List FirstAspect
aspects_in [] = []
aspects_in (Class c count ∷ rest) = aspects_in rest
aspects_in (Aspect a ∷ rest) = a ∷ aspects_in rest
aspects_in (Other ∷ rest) = aspects_in rest

-- the last of the items, or what was found before where there is none
abbrev pub last_of : {X : Type 0} → Option X → List X → Option X
last_of found [] = found
last_of found (x ∷ xs) = last_of (Some x) xs
