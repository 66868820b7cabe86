-- The word that names an entry method: Class.method(args).
use Rattle.std.specs.Prelude.{[]}
use Rattle.run_lines.specs.declared.entry.EntryWords.{EntryWords}
use Rattle.run_lines.specs.Splits.{Text, IsFirstSplit, IsLastSplit}
use Rattle.run_lines.specs.Lists.{IsListAt}
use Rattle.run_lines.specs.Names.{IsDottedClass, IsMethodText}
use Rattle.run_lines.specs.Arguments.{IsArgument}

-- the first opening bracket ends the name of the method, and the last dot before it that of the class
pub record IsEntryWord (entry : EntryWords) (word : Text) : Type 0 where
  pub name : Text
  pub arguments : Text
  pub bracket : IsFirstSplit 40 word name arguments
  pub class : Text
  pub method : Text
  pub dot : IsLastSplit 46 name class method
  pub is_class : IsDottedClass entry.class class
  pub is_method : IsMethodText entry.method method
  pub are_arguments : IsListAt IsArgument 41 arguments entry.args []
