use Rattle.class_file.specs.Pool.{string_at}
use Rattle.aj_names.specs.ModifiedUtf8.{text_spelling}
use Rattle.constant_pool.specs.Edit.{with_string}
use Rattle.constant_pool.specs.Laws.{string_extends}
use Rattle.constant_pool.specs.Meaning.{string_found}
use Rattle.constant_pool.proofs.Steps.{given_read, extends_given}
use Rattle.std.specs.Prelude.{Ok}
use Rattle.constant_pool.proofs.edit.PoolEdit.string.Goals as goal

pub returns-in-Ok-clause-stands : goal.returns-in-Ok-clause-stands
returns-in-Ok-clause-stands c = given_read string_at (with_string c.args.self.now c.args.units.now) c.string_entries.new.self (Ok c.in-Ok.index) (text_spelling c.args.units.now) c.in-Ok.ensures.found (string_found c.args.self.now c.args.units.now)

pub returns-in-Ok-clause-stays : goal.returns-in-Ok-clause-stays
returns-in-Ok-clause-stays c = extends_given c.args.self.now c.string_entries.new.self c.in-Ok.index (with_string c.args.self.now c.args.units.now) c.in-Ok.ensures.found (string_extends c.args.self.now c.args.units.now)
