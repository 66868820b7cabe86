use Rattle.class_file.specs.Pool.{class_at}
use Rattle.constant_pool.specs.Edit.{with_class}
use Rattle.constant_pool.specs.Laws.{class_extends}
use Rattle.constant_pool.specs.Meaning.{class_found}
use Rattle.constant_pool.proofs.Steps.{given_read, extends_given}
use Rattle.std.specs.Prelude.{Ok}
use Rattle.constant_pool.proofs.edit.PoolEdit.class.Goals as goal

pub returns-in-Ok-clause-stands : goal.returns-in-Ok-clause-stands
returns-in-Ok-clause-stands c = given_read class_at (with_class c.args.self.now c.args.name.now) c.class_entries.new.self (Ok c.in-Ok.index) c.args.name.now (rw c.as_slice.ensures at c.in-Ok.ensures.found) (class_found c.args.self.now c.args.name.now)

pub returns-in-Ok-clause-stays : goal.returns-in-Ok-clause-stays
returns-in-Ok-clause-stays c = extends_given c.args.self.now c.class_entries.new.self c.in-Ok.index (with_class c.args.self.now c.args.name.now) (rw c.as_slice.ensures at c.in-Ok.ensures.found) (class_extends c.args.self.now c.args.name.now)
