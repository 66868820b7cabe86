-- Names of classes and methods in UTF-8.
use Rattle.std.specs.Prelude.{◌≡◌, ◌==◌, if◌then◌else◌, false, List, ℕ, map}
use Rattle.aj_names.specs.ModifiedUtf8.{text_spelling}
use Rattle.aj_names.specs.Names.{IsClassName, IsMemberName}
use Rattle.run_lines.specs.Splits.{Text, has}
use Rattle.run_lines.specs.Texts.{AreUnits}

-- the bytes are the text in modified UTF-8 (JVMS 4.4.7)
pub record IsModified (bytes text : Text) : Type 0 where
  pub units : List ℕ
  pub are_units : AreUnits units text
  pub spelled : bytes ≡ text_spelling units

-- a name with slashes for its dots
abbrev pub slashed : Text → Text
slashed name = map (λ b. if b == 46 then 47 else b) name

-- the text is the name of the class, with dots for its slashes (JVMS 4.2)
pub record IsDottedClass (class text : Text) : Type 0 where
  pub no_slash : has 47 text ≡ false
  pub modified : Text
  pub is_modified : IsModified modified text
  pub same : class ≡ slashed modified
  pub is_name : IsClassName class

-- the text is the name of the method (JVMS 4.6)
pub record IsMethodText (method text : Text) : Type 0 where
  pub is_modified : IsModified method text
  pub is_name : IsMemberName method
