use Rattle.std.proofs.Common.{List, ℕ, ◌∙◌, ap}
use Rattle.class_heads.specs.Hierarchy.{is_subtype}
use Rattle.machine_natives.proofs.classes.is_throwable.Goals as goal

pub returns : goal.returns
returns c = c.is_subtype.ensures ∙ ap (λ (n : List ℕ). is_subtype c.args.world.now.heads c.args.class.now n) c.in_ok-throwable.ensures
