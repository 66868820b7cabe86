use Rattle.class_world.proofs.Dotted.{spelled_lengths}
use Rattle.class_world.proofs.lookups.naming.is_spelled.Goals as goal

pub returns-then-class-name : goal.returns-then-class-name
returns-then-class-name c = spelled_lengths c.args.class.now c.args.name.now c.args.dollars c.if-class-name.true
