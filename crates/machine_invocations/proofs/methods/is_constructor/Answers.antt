use Rattle.std.proofs.Common.{List, ℕ, sym, ap, ◌∙◌}
use Rattle.std.specs.Prelude.{codes}
use Rattle.std.specs.Str.{bytes_eq}
use Rattle.class_machine.specs.Classes.{Method, is_constructor}
use Rattle.machine_invocations.proofs.methods.is_constructor.Goals as goal

pub returns : goal.returns
returns c m sees =
    c.names_constructors.ensures ∙ ap (λ (name : List ℕ). bytes_eq name (codes "<init>")) c.as_slice.ensures
    ∙ sym (ap (λ (x : Method). is_constructor x.name) (c.declared.ensures.seen m sees))
