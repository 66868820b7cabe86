-- The words of the command: run IN ENTRY STEPS [SCRIPT].
use Rattle.std.specs.Prelude.{◌≡◌, ℕ, ◌==◌, not, Bool, true, false, List, [], ◌∷◌, codes, Option, Some, None}
use Rattle.std.specs.List.{list_all}
use Rattle.run_lines.specs.declared.entry.EntryWords.{EntryWords}
use Rattle.run_lines.specs.Splits.{Text}
use Rattle.run_lines.specs.Numbers.{IsSteps}
use Rattle.run_lines.specs.EntryWord.{IsEntryWord}

-- no word of a command is empty or begins with `-`
abbrev pub is_plain : Text → Bool
is_plain [] = false
is_plain (b ∷ text) = not (b == 45)

-- the folder to read, the entry as it is written and what it says, how many steps to take, and the file of the script, if one is
-- named
pub record RunCommand : Type 0 where
  pub input : Text
  pub word : Text
  pub entry : EntryWords
  pub steps : ℕ
  pub script : Option Text

-- the words behind the command's name say so
pub record IsRunOf (run : RunCommand) (input entry steps : Text) (script : Option Text) : Type 0 where
  pub folder : run.input ≡ input
  pub same_word : run.word ≡ entry
  pub is_entry : IsEntryWord run.entry entry
  pub are_steps : IsSteps run.steps steps
  pub file : run.script ≡ script

abbrev pub SayRun : List Text → RunCommand → Type 0
SayRun (name ∷ input ∷ entry ∷ steps ∷ []) run = (name ≡ codes "run") × IsRunOf run input entry steps None
SayRun (name ∷ input ∷ entry ∷ steps ∷ script ∷ []) run = (name ≡ codes "run") × IsRunOf run input entry steps (Some script)
SayRun words run = ⊥

abbrev pub AreRunWords : List Text → RunCommand → Type 0
AreRunWords words run = (list_all is_plain words ≡ true) × SayRun words run
