-- Values as texts.
use Rattle.std.specs.Prelude.{ℕ, List, [], ◌∷◌, Option, Some, None}
use Rattle.std.specs.Option.{option_map}
use Rattle.boot_library.specs.declared.rule.Spelling.{Spelling}
use Rattle.boot_library.specs.declared.rule.Spelling.TheVariants.{OfText, OfInt, OfLong, OfChar, OfBoolean}
use Rattle.class_heads.specs.declared.types.ClassHead.{ClassHead}
use Rattle.class_machine.specs.declared.kinds.Element.{Element}
use Rattle.class_machine.specs.Descriptors.{low_bits}
use Rattle.class_machine.specs.LibraryCalls as calls
use Rattle.class_machine.specs.LibraryCalls.{low_unit, boolean_text}
use Rattle.class_machine.specs.Numbers.{decimal}
use Rattle.machine_values.specs.declared.values.Value.{Value}
use Rattle.machine_values.specs.declared.values.Value.TheVariants.{Int, Long}
use Rattle.machine_values.specs.Things.{Things}
use Rattle.machine_rules.specs.Texts.{argument_at}

-- the text of a number, a character or a boolean, where the value is one
abbrev pub number_text : Spelling → Value → Option (List ℕ)
number_text OfInt (Int n) = Some (decimal n)
number_text OfLong (Long n) = Some (decimal n)
number_text OfChar (Int n) = Some (low_unit n ∷ [])
number_text OfBoolean (Int n) = Some (boolean_text (low_bits Element.Boolean n))
number_text how v = None

-- the text of a value, where it is one that is spelled so without a call
abbrev pub plain_text : List ClassHead → Things → Spelling → Value → Option (List ℕ)
plain_text heads things OfText v = option_map calls.text_or_null (argument_at heads things v)
plain_text heads things how v = number_text how v
