use Rattle.std.proofs.Common.{◌&&◌, Bool, List, ℕ, sym, ◌∙◌, ap, refl}
use Rattle.std.specs.Prelude.{not}
use Rattle.std.specs.Option.{option_copied}
use Rattle.class_heads.specs.Hierarchy.{is_subtype, name_at}
use Rattle.class_machine.specs.ClassFiles.{class_code}
use Rattle.class_machine.specs.Machine.{catches}
use Rattle.machine_steps.proofs.Catching.{name_here, known_catches}
use Rattle.machine_steps.proofs.unwinding.catches.Goals as goal

pub returns-then-not-is_interface : goal.returns-then-not-is_interface
returns-then-not-is_interface c m x is of_class =
    let heads = c.args.world.now.heads in
    let high = c.head-caught.result.now in
    ap (catches (class_code m.files) m.setting.classes x) (ap option_copied c.in-Some.is)
    ∙ known_catches c.args.world.now c.args.class.0 c.in-Some.name.now c.in-Some-class_named.high.0 high c.is_interface.result c.is_subtype.result
    (sym c.in-Some-class_named.ensures.place) c.head-caught.ensures c.is_interface.ensures
    (c.is_subtype.ensures ∙ ap (λ (n : List ℕ). is_subtype heads n high.name) (sym (name_here heads c.args.class.0 c.head.result.now c.head.ensures))) m x is of_class
    ∙ ap (λ (i : Bool). not i && c.is_subtype.result) c.if-not-is_interface.true

pub returns-else-not-is_interface : goal.returns-else-not-is_interface
returns-else-not-is_interface c m x is of_class =
    let heads = c.args.world.now.heads in
    let high = c.head-caught.result.now in
    let below : Bool = is_subtype heads (name_at heads c.args.class.0) high.name in
    ap (catches (class_code m.files) m.setting.classes x) (ap option_copied c.in-Some.is)
    ∙ known_catches c.args.world.now c.args.class.0 c.in-Some.name.now c.in-Some-class_named.high.0 high c.is_interface.result below
    (sym c.in-Some-class_named.ensures.place) c.head-caught.ensures c.is_interface.ensures refl m x is of_class
    ∙ ap (λ (i : Bool). not i && below) c.if-not-is_interface.false ∙ sym (ap not c.if-not-is_interface.false)
