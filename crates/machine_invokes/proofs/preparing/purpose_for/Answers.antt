use Rattle.std.specs.Prelude.{◌&&◌, Bool, if◌then◌else◌, List, ℕ, codes}
use Rattle.std.specs.Str.{bytes_eq}
use Rattle.std.proofs.Common.{sym, ◌∙◌, ap}
use Rattle.class_machine.specs.Classes.{is_constructor}
use Rattle.machine_values.specs.declared.frames.Purpose.TheVariants.{Ordinary, Constructs}
use Rattle.machine_invokes.proofs.preparing.purpose_for.Goals as goal

pub returns-then-not-special : goal.returns-then-not-special
returns-then-not-special c r same = sym (ap (λ (b : Bool). if b && is_constructor r then Constructs else Ordinary) c.if-not-special.true)

pub returns-then-names_constructors : goal.returns-then-names_constructors
returns-then-names_constructors c r same =
    sym (ap (λ (b : Bool). if b && is_constructor r then Constructs else Ordinary) c.if-not-special.false
    ∙ ap (λ (b : Bool). if b then Constructs else Ordinary) (ap (λ (n : List ℕ). bytes_eq n (codes "<init>")) same ∙ sym c.names_constructors.ensures ∙ c.if-names_constructors.true))

pub returns : goal.returns
returns c r same =
    sym (ap (λ (b : Bool). if b && is_constructor r then Constructs else Ordinary) c.if-not-special.false
    ∙ ap (λ (b : Bool). if b then Constructs else Ordinary) (ap (λ (n : List ℕ). bytes_eq n (codes "<init>")) same ∙ sym c.names_constructors.ensures ∙ c.if-names_constructors.false))
