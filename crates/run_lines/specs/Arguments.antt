-- The arguments of an entry.
use Rattle.std.specs.Prelude.{◌≡◌, ℕ, ℤ, true, List, [], ◌∷◌, ◌++◌, codes}
use Rattle.machine_values.specs.declared.script.EntryArg.{EntryArg}
use Rattle.machine_values.specs.declared.script.EntryArg.TheVariants as arg
use Rattle.run_lines.specs.Splits.{Text, is_stop}
use Rattle.run_lines.specs.Numbers.{IsInt, IsLong}
use Rattle.run_lines.specs.Lists.{IsWordAt, IsListAt}
use Rattle.run_lines.specs.Texts.{IsText}

-- a long has an L behind it
pub record IsLongArgument (n : ℤ) (word : Text) : Type 0 where
  pub digits : Text
  pub is_long : IsLong n digits
  pub letter : word ≡ digits ++ 76 ∷ []

-- an argument that is no text and no list
abbrev pub IsPlainArgument : EntryArg → Text → Type 0
IsPlainArgument (arg.Int n) word = IsInt n word
IsPlainArgument (arg.Long n) word = IsLongArgument n word
IsPlainArgument arg.Null word = word ≡ codes "null"
IsPlainArgument (arg.Text units) word = ⊥
IsPlainArgument (arg.Texts texts) word = ⊥

-- texts in square brackets
pub record IsTexts (texts : List (List ℕ)) (word : Text) : Type 0 where
  pub inside : Text
  pub bracket : word ≡ 91 ∷ inside
  pub listed : IsListAt IsText 93 inside texts []

abbrev pub IsArgument : EntryArg → Text → Type 0
IsArgument (arg.Int n) word = IsInt n word
IsArgument (arg.Long n) word = IsLongArgument n word
IsArgument arg.Null word = word ≡ codes "null"
IsArgument (arg.Text units) word = IsText units word
IsArgument (arg.Texts texts) word = IsTexts texts word

-- what stands behind an argument begins with a comma or a closing bracket
pub record BeginsWithStop (behind : Text) : Type 0 where
  pub stop : ℕ
  pub is_stop : is_stop stop ≡ true
  pub more : Text
  pub begins : behind ≡ stop ∷ more

-- an argument at the front that ends there
pub record IsEndedAt (text : Text) (a : EntryArg) (behind : Text) : Type 0 where
  pub at : IsWordAt IsArgument text a behind
  pub ended : BeginsWithStop behind
