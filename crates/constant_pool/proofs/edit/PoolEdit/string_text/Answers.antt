use Rattle.class_file.specs.Pool.{string_at}
use Rattle.constant_pool.specs.Edit.{with_string_text}
use Rattle.constant_pool.specs.Laws.{string_text_extends}
use Rattle.constant_pool.specs.Meaning.{string_text_found}
use Rattle.constant_pool.proofs.Steps.{given_read, extends_given}
use Rattle.std.specs.Prelude.{Ok}
use Rattle.constant_pool.proofs.edit.PoolEdit.string_text.Goals as goal

pub returns-in-Ok-clause-stands : goal.returns-in-Ok-clause-stands
returns-in-Ok-clause-stands c = given_read string_at (with_string_text c.args.self.now c.args.text.now) c.string_text_entries.new.self (Ok c.in-Ok.index) c.args.text.now c.in-Ok.ensures.found (string_text_found c.args.self.now c.args.text.now)

pub returns-in-Ok-clause-stays : goal.returns-in-Ok-clause-stays
returns-in-Ok-clause-stays c = extends_given c.args.self.now c.string_text_entries.new.self c.in-Ok.index (with_string_text c.args.self.now c.args.text.now) c.in-Ok.ensures.found (string_text_extends c.args.self.now c.args.text.now)
