use Rattle.class_file.specs.Pool.{text_at}
use Rattle.constant_pool.specs.Edit.{with_text}
use Rattle.constant_pool.specs.Laws.{text_extends}
use Rattle.constant_pool.specs.Meaning.{text_found}
use Rattle.constant_pool.proofs.Steps.{given_read, given_extends}
use Rattle.constant_pool.proofs.edit.PoolEdit.utf8.Goals as goal

pub returns-clause-stands : goal.returns-clause-stands
returns-clause-stands c = given_read text_at (with_text c.args.self.now c.args.text.now) c.text.new.self c.text.result c.args.text.now c.text.ensures.found (text_found c.args.self.now c.args.text.now)

pub returns-clause-stays : goal.returns-clause-stays
returns-clause-stays c = given_extends c.args.self.now c.text.new.self (with_text c.args.self.now c.args.text.now) c.text.result c.text.ensures.found c.text.ensures.kept (text_extends c.args.self.now c.args.text.now)
