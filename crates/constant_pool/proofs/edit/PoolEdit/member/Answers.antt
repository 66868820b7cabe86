use Rattle.constant_pool.specs.Laws.{member_extends}
use Rattle.constant_pool.specs.Meaning.{reference, member_found}
use Rattle.constant_pool.proofs.Steps.{given_names, extends_given}
use Rattle.std.specs.Prelude.{Ok}
use Rattle.constant_pool.specs.Edit.{with_member}
use Rattle.constant_pool.proofs.edit.PoolEdit.member.Goals as goal

pub returns-in-Ok-clause-stands : goal.returns-in-Ok-clause-stands
returns-in-Ok-clause-stands c = given_names (with_member c.args.self.now c.args.kind c.args.class.now c.args.name.now c.args.descriptor.now) c.member_entries.new.self (Ok c.in-Ok.index) c.args.kind (reference c.args.class.now c.args.name.now c.args.descriptor.now) c.in-Ok.ensures.found (member_found c.args.self.now c.args.kind c.args.class.now c.args.name.now c.args.descriptor.now)

pub returns-in-Ok-clause-stays : goal.returns-in-Ok-clause-stays
returns-in-Ok-clause-stays c = extends_given c.args.self.now c.member_entries.new.self c.in-Ok.index (with_member c.args.self.now c.args.kind c.args.class.now c.args.name.now c.args.descriptor.now) c.in-Ok.ensures.found (member_extends c.args.self.now c.args.kind c.args.class.now c.args.name.now c.args.descriptor.now)
