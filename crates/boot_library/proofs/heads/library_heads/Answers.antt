-- The heads of the sections, and then those of the exceptions, are those of a library.
use Rattle.std.specs.List.{flat_map}
use Rattle.boot_library.specs.Library.{classes, exceptions}
use Rattle.boot_library.specs.Rows.{classes_of, exceptions_of}
use Rattle.boot_library.proofs.Joined.{heads_of_both}
use Rattle.boot_library.proofs.Sound.{are_library, are_all_fitting}
use Rattle.boot_library.proofs.heads.library_heads.Goals as goal

pub returns-clause-exact : goal.returns-clause-exact
returns-clause-exact c =
    heads_of_both (flat_map (λ rows. classes_of rows.now) c.sections.result) (exceptions_of c.exceptions.result.now) classes exceptions c.in_ok-heads.heads.items c.push_exceptions.new.heads.items
    c.in_ok-push_exceptions.ensures c.in_ok-heads.ensures c.sections.ensures c.exceptions.ensures

pub returns-clause-library : goal.returns-clause-library
returns-clause-library c = are_library c.push_exceptions.new.heads.items (returns-clause-exact c)

pub returns-clause-fitting : goal.returns-clause-fitting
returns-clause-fitting c = are_all_fitting c.push_exceptions.new.heads.items (returns-clause-exact c)
