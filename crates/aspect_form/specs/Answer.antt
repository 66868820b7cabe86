-- What reading the text of an aspect answers.
use Rattle.std.specs.Prelude.{◌≡◌, Option, Some, None, Result, Ok, Err}
use Rattle.jp_model.specs.declared.first_aspect.FirstAspect.{FirstAspect}
use Rattle.aspect_form.specs.declared.fault.AspectFault.{AspectFault}
use Rattle.aspect_form.specs.declared.fault.AspectFault.TheVariants.{NotBuilt, Memory}
use Rattle.aspect_form.specs.declared.form.Parts.{Parts}

-- the result is the aspect that was found, and NotBuilt where there is none, unless memory ran out
abbrev pub Gives : Result FirstAspect AspectFault → Option FirstAspect → Type 0
Gives (Err Memory) found = Unit {0}
Gives (Err NotBuilt) found = found ≡ None
Gives (Ok a) found = found ≡ Some a

-- the result is this aspect, unless memory ran out
abbrev pub IsReadAs : Result FirstAspect AspectFault → FirstAspect → Type 0
IsReadAs (Err Memory) a = Unit {0}
IsReadAs (Err NotBuilt) a = ⊥
IsReadAs (Ok found) a = found ≡ a

-- the aspect whose parts were found in a text
abbrev pub view : Parts → FirstAspect
view p = record { name = p.name.now; class = p.class.now; method = p.method.now; text = p.text.now }
