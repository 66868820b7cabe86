-- The lines of a text with their numbers, by a name that other crates have too.
use Rattle.class_text.specs.declared.numbered.Numbered.{Numbered}

abbrev pub NumberedLine : Type 0
NumberedLine = Numbered
