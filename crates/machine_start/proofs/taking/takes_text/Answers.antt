use Rattle.std.proofs.Common.{List, ℕ, sym, ap, ◌∙◌}
use Rattle.class_heads.specs.Hierarchy.{is_subtype}
use Rattle.class_heads.specs.PlaceLaws.{place-named}
use Rattle.class_machine.specs.Natives as natives
use Rattle.class_machine.specs.Values.{string_class}
use Rattle.machine_invocations.specs.Methods.{classes_in}
use Rattle.machine_start.proofs.Types.{head_named, not_below}
use Rattle.machine_start.proofs.taking.takes_text.Goals as goal

pub returns-in_default-class_named : goal.returns-in_default-class_named
returns-in_default-class_named c =
    let k = c.args.world.now in
    sym (not_below k c.requires c.in-Some.class.now (sym c.in_default-class_named.ensures.place)) ∙ ap (natives.takes_text (classes_in k)) c.in-Some.ensures

pub returns : goal.returns
returns c =
    let k = c.args.world.now in
    let class = c.in-Some.class.now in
    let high = c.in-Some-class_named.high.0 in
    c.is_subtype.ensures
    ∙ ap (λ (n : List ℕ). is_subtype k.heads n c.head-2.result.now.name) (head_named k.heads c.string_class-low.result.0 c.head.result.now string_class c.head.ensures c.string_class-low.ensures.named)
    ∙ ap (is_subtype k.heads string_class) (head_named k.heads high c.head-2.result.now class c.head-2.ensures (place-named k.heads class high (sym c.in-Some-class_named.ensures.place)))
    ∙ ap (natives.takes_text (classes_in k)) c.in-Some.ensures
