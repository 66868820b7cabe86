use Rattle.std.proofs.Common.{List, ℕ, ap, ◌∙◌}
use Rattle.std.specs.Prelude.{Option}
use Rattle.class_world.specs.Found.{member_named}
use Rattle.machine_fields.specs.Settings.{is_at}
use Rattle.machine_start.specs.Entries.{first_position}
use Rattle.machine_start.proofs.Named.{same_place}
use Rattle.machine_start.proofs.entries.is_first.Goals as goal

pub returns : goal.returns
returns c =
    let methods = c.args.methods.now in
    c.eq.ensures ∙ same_place c.first_position.result c.args.position
    ∙ ap (λ (o : Option ℕ). is_at o c.args.position)
    (c.first_position.ensures ∙ ap (λ (n : List ℕ). first_position (member_named n c.as_slice-descriptor.result.now) methods) c.as_slice-name.ensures
    ∙ ap (λ (d : List ℕ). first_position (member_named c.args.method.now.name.name d) methods) c.as_slice-descriptor.ensures)
