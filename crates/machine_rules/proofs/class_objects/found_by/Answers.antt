use Rattle.std.proofs.Common.{ℕ, List, length, sym, ◌∙◌, ap}
use Rattle.class_machine.specs.ClassFiles.{field_constant}
use Rattle.class_machine.specs.Declarations.{knows}
use Rattle.machine_rules.proofs.ClassWork.{known_plain}
use Rattle.machine_rules.proofs.class_objects.found_by.Goals as goal

pub returns-clause-class : goal.returns-clause-class
returns-clause-class c distinct =
    let k = c.args.world.now in
    c.in_ok-class.ensures.class (λ flat. known_plain k c.as_slice-2.result.now distinct flat
    (ap (λ (n : List ℕ). knows k.heads (length k.files) (field_constant k.files) n) (c.as_slice-2.ensures.value ∙ sym c.as_slice.ensures.value) ∙ sym c.knows.ensures ∙ c.if-not-knows.false))
