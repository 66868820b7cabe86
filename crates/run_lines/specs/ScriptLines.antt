-- The lines of a script, each with an answer to a native call.
use Rattle.std.specs.Prelude.{◌≡◌, ◌≢◌, ℕ, suc, ◌⊎◌, List, [], ◌∷◌, length, codes, Result, Ok, Err}
use Rattle.machine_values.specs.declared.script.Answer.{Answer}
use Rattle.machine_values.specs.declared.script.Answer.TheVariants as answer
use Rattle.machine_values.specs.declared.script.Script.{Script}
use Rattle.run_lines.specs.declared.fault.ScriptFault.{ScriptFault}
use Rattle.run_lines.specs.declared.fault.ScriptFault.TheVariants as faults
use Rattle.run_lines.specs.Reading.{IsOfNothing, IsOfNoOther}
use Rattle.run_lines.specs.Splits.{Text, IsFirstSplit}
use Rattle.run_lines.specs.Numbers.{IsInt, IsLong}
use Rattle.run_lines.specs.Texts.{IsText}
use Rattle.run_lines.specs.Names.{IsDottedClass}

-- an answer of one word
abbrev pub IsBareAnswer : Answer → Text → Type 0
IsBareAnswer answer.Null word = word ≡ codes "null"
IsBareAnswer answer.Void word = word ≡ codes "void"
IsBareAnswer _ word = ⊥

-- the class, whose dotted name has no blank here, a blank and the message
pub record IsThrow (class message words : Text) : Type 0 where
  pub name : Text
  pub quoted : Text
  pub blank : IsFirstSplit 32 words name quoted
  pub is_class : IsDottedClass class name
  pub is_message : IsText message quoted

abbrev pub IsThrown : Answer → Text → Type 0
IsThrown (answer.Throw class message) words = IsThrow class message words
IsThrown _ words = ⊥

-- an answer by its keyword, and what stands behind the blank
abbrev pub IsWordedAnswer : Answer → Text → Text → Type 0
IsWordedAnswer (answer.Int n) keyword words = (keyword ≡ codes "int") × IsInt n words
IsWordedAnswer (answer.Long n) keyword words = (keyword ≡ codes "long") × IsLong n words
IsWordedAnswer (answer.Text units) keyword words = (keyword ≡ codes "text") × IsText units words
IsWordedAnswer (answer.Throw class message) keyword words = (keyword ≡ codes "throw") × IsThrow class message words
IsWordedAnswer _ keyword words = ⊥

-- the two parts of a line
pub record IsWordedLine (a : Answer) (line : Text) : Type 0 where
  pub keyword : Text
  pub words : Text
  pub blank : IsFirstSplit 32 line keyword words
  pub is_answer : IsWordedAnswer a keyword words

abbrev pub IsAnswer : Answer → Text → Type 0
IsAnswer a line = IsBareAnswer a line ⊎ IsWordedLine a line

-- the first line is the answer's
pub record IsLineAt (text : Text) (a : Answer) (behind : Text) : Type 0 where
  pub line : Text
  pub feed : IsFirstSplit 10 text line behind
  pub is_answer : IsAnswer a line

-- the text begins with the lines of the answers, behind which the rest stands
abbrev pub LinesTo : List Answer → Text → Text → Type 0
LinesTo [] text rest = text ≡ rest
LinesTo (a ∷ answers) text rest = (behind : Text) × IsLineAt text a behind × LinesTo answers behind rest

-- no line of the form stands at the front
abbrev pub BeginsNoLine : Text → Type 0
BeginsNoLine text = (a : Answer) (behind : Text) → ¬ (IsLineAt text a behind)

-- a script that nothing was taken from, whose lines the text is
pub record IsScript (script : Script) (text : Text) : Type 0 where
  pub unread : script.next ≡ 0
  pub lines : LinesTo script.answers text []

-- the line of this number, from 1 on, is there and is the first that isn't of the form
pub record IsOtherLine (text : Text) (number : ℕ) : Type 0 where
  pub answers : List Answer
  pub rest : Text
  pub lines : LinesTo answers text rest
  pub some : rest ≢ []
  pub other : BeginsNoLine rest
  pub counted : number ≡ suc (length answers)

-- a script and no other, or else the first line that isn't of the form; nothing is known where memory ran out
abbrev pub ReadsScript : Text → Result Script ScriptFault → Type 0
ReadsScript text (Ok script) = IsScript script text × IsOfNoOther (λ s. IsScript s text) script
ReadsScript text (Err (faults.Line number)) =
    IsOtherLine text number × IsOfNoOther (IsOtherLine text) number × IsOfNothing (λ s. IsScript s text)
ReadsScript text (Err faults.Memory) = Unit {0}
