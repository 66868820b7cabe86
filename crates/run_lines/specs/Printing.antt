-- The lines that are printed of a run.
use Rattle.std.specs.Prelude.{List, [], ◌∷◌, ◌++◌, codes, Option, Some, None}
use Rattle.std.specs.List.{flat_map}
use Rattle.class_machine.specs.Lines.{event_text, ending_text}
use Rattle.machine_values.specs.declared.observed.Event.{Event}
use Rattle.machine_values.specs.declared.observed.Ending.{Ending}
use Rattle.machine_values.specs.Observed.{machine_event, machine_ending}
use Rattle.run_lines.specs.Splits.{Text}

-- a text and the line feed that ends it
abbrev pub line_of : Text → Text
line_of text = text ++ 10 ∷ []

abbrev pub event_line : Event → Text
event_line event = line_of (event_text (machine_event event))

abbrev pub ending_line : Ending → Text
ending_line ending = line_of (ending_text (machine_ending ending))

-- how a run came out: its ending, or none where its steps were spent before
abbrev pub outcome_line : Option Ending → Text
outcome_line None = line_of (codes "steps-spent")
outcome_line (Some ending) = ending_line ending

-- all that is printed of a run: its events, the oldest first, and how it came out
abbrev pub run_text : List Event → Option Ending → Text
run_text events ending = flat_map event_line events ++ outcome_line ending
