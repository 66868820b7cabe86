-- Texts of a heap.
use Rattle.std.specs.Prelude.{ℕ, List, Option, Some, None}
use Rattle.machine_values.specs.declared.names.Name.{Name}
use Rattle.machine_values.specs.declared.names.Name.TheVariants.{Made, Literal}
use Rattle.machine_values.specs.declared.content.Content.{Content}
use Rattle.machine_values.specs.declared.content.Content.TheVariants.{Text}

-- the units of a String or a buffer, by its name and what it holds
abbrev pub text_seen : Option Name → Option Content → Option (List ℕ)
text_seen (Some (Made maker k)) (Some (Text units)) = Some units
text_seen (Some (Literal units)) content = Some units
text_seen name content = None
