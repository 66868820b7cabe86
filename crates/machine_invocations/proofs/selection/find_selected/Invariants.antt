use Rattle.class_heads.specs.Searches.{selectable_in}
use Rattle.machine_invocations.specs.Selections.{member_named}
use Rattle.machine_invocations.proofs.Upward.{Searches}
use Rattle.machine_invocations.proofs.selection.find_selected.Given as goal

abbrev pub invariant-upward : goal.invariant-upward
invariant-upward l = Searches l.world.heads (selectable_in l.world.heads (member_named l.name l.descriptor)) l.initial.at.0 l._turn l.at.0
