use Rattle.weave_plan.proofs.Classes.{name_text}
use Rattle.weave_plan.proofs.file_names.file_name.Goals as goal

pub push_name-requires : goal.push_name-requires
push_name-requires c = name_text c.args.class.now c.in-Some.own.now c.requires c.in-Some.ensures
