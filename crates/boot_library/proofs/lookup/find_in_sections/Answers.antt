-- What is left of the sections is the section at hand and those behind it.
use Rattle.std.proofs.Common.{arith}
use Rattle.std.proofs.lemmas.Grind.{common_steps}
use Rattle.boot_library.proofs.Lookups.{methods_in-append}
use Rattle.boot_library.proofs.lookup.find_in_sections.Goals as goal

pub returns-in-Some : goal.returns-in-Some
returns-in-Some c = grind (arith, common_steps, methods_in-append)

pub loop-rows-preserved : goal.loop-rows-preserved
loop-rows-preserved c = grind (arith, common_steps, methods_in-append)
