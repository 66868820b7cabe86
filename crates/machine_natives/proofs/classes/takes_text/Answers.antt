use Rattle.std.proofs.Common.{List, ℕ, ◌∙◌, ap}
use Rattle.class_heads.specs.Hierarchy.{is_subtype}
use Rattle.class_machine.specs.Natives.{takes_text}
use Rattle.class_machine.specs.Values.{string_class}
use Rattle.machine_invocations.specs.Methods.{classes_in}
use Rattle.machine_natives.proofs.classes.takes_text.Goals as goal

pub returns : goal.returns
returns c =
    let heads = c.args.world.now.heads in
    c.is_subtype.ensures
    ∙ ap (λ (n : List ℕ). is_subtype heads n c.in_ok-class.class) c.in_ok-string.ensures
    ∙ ap (is_subtype heads string_class) c.in_ok-class.ensures
    ∙ ap (takes_text (classes_in c.args.world.now)) c.in-Some.ensures
