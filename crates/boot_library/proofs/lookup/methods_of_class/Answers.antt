-- The classes of the sections stand before the exceptions.
use Rattle.std.specs.List.{flat_map}
use Rattle.std.specs.Option.{option_map}
use Rattle.std.proofs.Common.{ap, sym, ◌∙◌}
use Rattle.boot_library.specs.Library.{classes, exceptions}
use Rattle.boot_library.specs.Rows.{methods_of, classes_of, exceptions_of}
use Rattle.boot_library.proofs.Lookups.{found_first, found_second}
use Rattle.boot_library.proofs.lookup.methods_of_class.Goals as goal

pub returns-in-Some : goal.returns-in-Some
returns-in-Some c =
    found_first classes exceptions (flat_map (λ rows. classes_of rows.now) c.sections.result) c.args.class.now (methods_of c.in-Some.methods.now) c.sections.ensures
    (ap (option_map (λ rows. methods_of rows.now)) (sym c.in-Some.is) ∙ c.find_in_sections.ensures)

pub returns-in-None : goal.returns-in-None
returns-in-None c =
    found_second classes exceptions (flat_map (λ rows. classes_of rows.now) c.sections.result) (exceptions_of c.exceptions.result.now) c.args.class.now (option_map (λ rows. methods_of rows.now) c.find_constructors.result) c.sections.ensures c.exceptions.ensures
    (ap (option_map (λ rows. methods_of rows.now)) (sym c.in-None.is) ∙ c.find_in_sections.ensures) c.find_constructors.ensures
