-- What a method of the library does, by its rule.
use Rattle.std.specs.Prelude.{List, Option, Some, None}
use Rattle.boot_library.specs.declared.rule.LibraryRule.{LibraryRule}
use Rattle.class_machine.specs.Classes.{Classes}
use Rattle.class_machine.specs.LibraryCalls as calls
use Rattle.class_machine.specs.Values.{Name, Held}
use Rattle.class_machine.specs.World.{World}

-- a static method, or one of an object
abbrev pub ruled : Classes → World → LibraryRule → Option Name → List Held → calls.Work
ruled cs w rule None given = calls.by_static_rule cs w rule given
ruled cs w rule (Some a) given = calls.by_rule cs w rule a given
