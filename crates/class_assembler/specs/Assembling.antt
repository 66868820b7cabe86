-- What a class text is assembled to.
use Rattle.std.specs.Prelude.{◌≡◌, ℕ, List, Result, Ok, Err}
use Rattle.class_file.specs.declared.types.ClassFile.{ClassFile}
use Rattle.class_file.specs.Spelling.{spelling}
use Rattle.class_text.specs.declared.fault.TextFault.{TextFault}
use Rattle.class_text.specs.declared.fault.TextFault.TheVariants.{Line, Memory}
use Rattle.class_text.specs.ClassOf.{class_of}

abbrev pub spelled : Result ClassFile ℕ → Result (List ℕ) ℕ
spelled (Ok class) = Ok (spelling class)
spelled (Err number) = Err number

-- the bytes of the class file that the text is, or the number of the first line that isn't of the form
abbrev pub assembled : List ℕ → Result (List ℕ) ℕ
assembled text = spelled (class_of text)

-- the fault names that line; nothing is known where memory ran out
abbrev pub Refuses : TextFault → Result (List ℕ) ℕ → Type 0
Refuses (Line number) found = found ≡ Err number
Refuses Memory found = Unit {0}
