use Rattle.std.proofs.Common.{List, ℕ, sym, ap, ◌∙◌}
use Rattle.std.specs.Str.{bytes_eq}
use Rattle.class_machine.specs.Values.{string_class}
use Rattle.machine_invocations.proofs.Shown.{shows_text, shows_object}
use Rattle.machine_invocations.proofs.showing.show_made.Goals as goal

pub returns-in_ok-units : goal.returns-in_ok-units
returns-in_ok-units c =
    shows_text c.args.world.now c.args.heap.now c.args.at c.args.class c.args.number c.requires.made c.in_ok-units.units c.content.result.now c.content.ensures
    (sym (c.is_string.ensures ∙ ap (λ (n : List ℕ). bytes_eq n string_class) c.class_name-name.ensures) ∙ c.if-is_string.true) (c.in_ok-units.ensures ∙ c.units_in.ensures)

pub returns-in_ok-class : goal.returns-in_ok-class
returns-in_ok-class c =
    shows_object c.args.world.now c.args.heap.now c.args.at c.args.class c.args.number c.requires.made c.in_ok-class.class
    (sym (c.is_string.ensures ∙ ap (λ (n : List ℕ). bytes_eq n string_class) c.class_name-name.ensures) ∙ c.if-is_string.false) (c.in_ok-class.ensures ∙ c.class_name-name.ensures)
