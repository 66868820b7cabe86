-- What is planned from the files that were read.
use Rattle.std.specs.Prelude.{◌≡◌, ℕ, List, map}
use Rattle.aj_outside.specs.Files.{Files}
use Rattle.class_file.specs.declared.types.ClassFile.{ClassFile}
use Rattle.jp_model.specs.declared.first_aspect.FirstAspect.{FirstAspect}
use Rattle.jp_model.specs.AspectText.{aspect_of}
use Rattle.jp_model.specs.Input.{Reads}
use Rattle.jp_model.specs.Headline.{IsWeaving, outputs_of}
use Rattle.weave_plan.specs.declared.planning.NamedFile.{NamedFile}

-- the files, each as its name and its bytes
abbrev pub files_of : List NamedFile → Files
files_of files = map (λ f. (f.name, f.bytes.items)) files

-- The outputs are the files of a weaving of what the inputs say: each class of it in OUT, spelled as
-- it is, and no other file.
pub record IsPlan (inputs : Files) (folder : List ℕ) (outputs : Files) : Type 0 where
  pub classes : List ClassFile
  pub aspects : List FirstAspect
  pub written : List ClassFile
  pub reads : Reads inputs classes aspects
  pub weaving : IsWeaving classes (map aspect_of aspects) written
  pub files : outputs ≡ outputs_of folder written
