-- What may be woven, and what is written of it.
use Rattle.std.specs.Prelude.{◌≡◌, ℕ, ◌&&◌, not, IsTrue, List, [], ◌∷◌, ◌++◌, Option, Some, None, map}
use Rattle.std.specs.List.{AllByRecursion}
use Rattle.std.specs.Option.{option_to_list}
use Rattle.aj_outside.specs.Files.{Files}
use Rattle.class_file.specs.declared.types.ClassFile.{ClassFile}
use Rattle.class_file.specs.Pool.{this_name}
use Rattle.class_file.specs.WellFormed.{is_well_formed}
use Rattle.class_file.specs.FirstForm.{is_first_form}
use Rattle.class_heads.specs.Reserved.{is_reserved}
use Rattle.jp_model.specs.declared.first_aspect.FirstAspect.{FirstAspect}
use Rattle.jp_model.specs.AspectText.{is_first_aspect, aspect_of}
use Rattle.jp_model.specs.Headline.{AreApart, IsWeaving, outputs_of}

-- the classes and the aspect are of the first form, and no two have one name
pub record FitAspect (classes : List ClassFile) (a : FirstAspect) : Type 0 where
  pub forms : AllByRecursion (λ c. IsTrue (is_first_form c)) classes
  pub aspect : IsTrue (is_first_aspect a)
  pub names : AreApart (map this_name classes ++ Some a.name ∷ [])

-- they can be woven; without an aspect no class has names that are kept for what weaving makes
abbrev pub Fit : List ClassFile → Option FirstAspect → Type 0
Fit classes None = AllByRecursion (λ c. IsTrue (is_well_formed c && not (is_reserved c))) classes
Fit classes (Some a) = FitAspect classes a

-- the classes are a weaving of these
abbrev pub IsWovenOf : List ClassFile → Option FirstAspect → List ClassFile → Type 0
IsWovenOf classes aspect written = IsWeaving classes (map aspect_of (option_to_list aspect)) written

-- the outputs are the files of a weaving of these
pub record IsWoven (classes : List ClassFile) (aspect : Option FirstAspect) (folder : List ℕ) (outputs : Files) : Type 0 where
  pub written : List ClassFile
  pub weaving : IsWovenOf classes aspect written
  pub files : outputs ≡ outputs_of folder written
