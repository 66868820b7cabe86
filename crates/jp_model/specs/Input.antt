-- What the files of a folder say: classes and aspects, and the first file that is not of a form that
-- is built.
use Rattle.std.specs.Prelude.{◌≡◌, ℕ, ◌<◌, ◌&&◌, ◌||◌, not, nat_eq, nat_le, nat_lt, Bool, true, false, IsTrue, MatchBool, List, [], ◌∷◌, length, take, codes, Some, slice_get}
use Rattle.std.specs.List.{filter, find, list_any, ends_with}
use Rattle.aj_outside.specs.Files.{Files, is_under}
use Rattle.class_file.specs.declared.types.ClassFile.{ClassFile}
use Rattle.class_file.specs.Spelling.{spelling}
use Rattle.class_file.specs.Pool.{this_name}
use Rattle.class_file.specs.WellFormed.{is_well_formed}
use Rattle.class_file.specs.FirstForm.{is_first_form}
use Rattle.jp_model.specs.declared.first_aspect.FirstAspect.{FirstAspect}
use Rattle.jp_model.specs.AspectText.{SpellsAspect}

abbrev pub is_class_file : List ℕ → Bool
is_class_file name = ends_with nat_eq name (codes ".class")

abbrev pub is_aspect_file : List ℕ → Bool
is_aspect_file name = ends_with nat_eq name (codes ".aj")

-- A file that is not one of a class is read as one of an aspect, whatever its name.
abbrev pub is_other_file : List ℕ → Bool
is_other_file name = not (is_class_file name)

abbrev pub is_input : List ℕ → Bool
is_input name = is_class_file name || is_aspect_file name

-- the files under a folder that are read: those of classes and of aspects, in byte order of the names
abbrev pub inputs_in : List ℕ → Files → Files
inputs_in folder files = filter (λ f. is_under folder f.0 && is_input f.0) files

-- the bytes are those of this class file
pub record SpellsClass (bytes : List ℕ) (c : ClassFile) : Type 0 where
  pub formed : IsTrue (is_well_formed c)
  pub spelled : bytes ≡ spelling c

-- The files say these classes and these aspects, in order: each class file spells a class, each aspect
-- file is the text of an aspect of the form.
abbrev pub Reads : Files → List ClassFile → List FirstAspect → Type 0
Reads [] classes aspects = (classes ≡ []) × (aspects ≡ [])
Reads (f ∷ files) classes aspects =
    MatchBool (is_class_file f.0)
    ((c : ClassFile) × (rest : List ClassFile) × (classes ≡ c ∷ rest) × SpellsClass f.1 c × Reads files rest aspects)
    ((a : FirstAspect) × (rest : List FirstAspect) × (aspects ≡ a ∷ rest) × SpellsAspect f.1 a × Reads files classes rest)

-- ---- the first of these files

-- the file of this name is the first that passes the test
pub record IsFirst (test : (List ℕ × List ℕ) → Bool) (files : Files) (name : List ℕ) : Type 0 where
  pub bytes : List ℕ
  pub found : find test files ≡ Some (name, bytes)

-- the file is longer than 16,777,216 bytes
abbrev pub is_big : (List ℕ × List ℕ) → Bool
is_big file = nat_lt 16777216 (length file.1)

-- one of these is a file of an aspect
abbrev pub has_aspects : Files → Bool
has_aspects files = list_any (λ f. is_other_file f.0) files

-- ---- what is built

-- a class file among these has a class of this name
pub record HasClassNamed (files : Files) (name : List ℕ) : Type 0 where
  pub place : ℕ
  pub file : List ℕ × List ℕ
  pub stands : slice_get files place ≡ Some file
  pub kind : is_class_file file.0 ≡ true
  pub class : ClassFile
  pub spelled : SpellsClass file.1 class
  pub named : this_name class ≡ Some name

-- Beside an aspect a class is built where it is of the first form and its file has at most 65,536 bytes,
-- and without one it is built anyway.
abbrev pub has_built_form : Bool → List ℕ → ClassFile → Bool
has_built_form aspects bytes c = not aspects || (is_first_form c && nat_le (length bytes) 65536)

-- the class file is built: it says a class of the form
pub record IsBuiltClass (files : Files) (bytes : List ℕ) : Type 0 where
  pub class : ClassFile
  pub spelled : SpellsClass bytes class
  pub form : IsTrue (has_built_form (has_aspects files) bytes class)

-- The aspect file at a place is built: it is the first one, its name is that of no class, and no class
-- hides java.lang's System from its body.
pub record IsBuiltAspect (files : Files) (place : ℕ) (bytes : List ℕ) : Type 0 where
  pub aspect : FirstAspect
  pub spelled : SpellsAspect bytes aspect
  pub first : has_aspects (take place files) ≡ false
  pub own_name : ¬ (HasClassNamed files aspect.name)
  pub system : ¬ (HasClassNamed files (codes "System"))

abbrev pub IsBuiltAt : Files → ℕ → (List ℕ × List ℕ) → Type 0
IsBuiltAt files place file = MatchBool (is_class_file file.0) (IsBuiltClass files file.1) (IsBuiltAspect files place file.1)

-- each file is built
abbrev pub AllBuilt : Files → Type 0
AllBuilt files = (place : ℕ) (file : List ℕ × List ℕ) → slice_get files place ≡ Some file → IsBuiltAt files place file

-- the file at the place isn't built, and each one before it is
pub record IsFirstNotBuilt (files : Files) (place : ℕ) (file : List ℕ × List ℕ) : Type 0 where
  pub stands : slice_get files place ≡ Some file
  pub refused : ¬ (IsBuiltAt files place file)
  pub earlier : (before : ℕ) (other : List ℕ × List ℕ) → before < place → slice_get files before ≡ Some other → IsBuiltAt files before other

-- the first file that isn't built has this name
pub record IsNotBuilt (files : Files) (name : List ℕ) : Type 0 where
  pub place : ℕ
  pub bytes : List ℕ
  pub first : IsFirstNotBuilt files place (name, bytes)
