use Rattle.std.specs.Prelude.{List, ℕ, false, length, refl}
use Rattle.std.proofs.Common.{sym, ◌∙◌, ap}
use Rattle.std.proofs.lemmas.Bool.{ltb-true, ltb-false}
use Rattle.class_file.specs.Lookup.{reference_seen}
use Rattle.class_machine.specs.Classes.{is_among}
use Rattle.machine_invocations.proofs.Names.{superclasses_named}
use Rattle.machine_invocations.specs.Initialising.{names_upward}
use Rattle.machine_invokes.proofs.Invoked.{runnable_distinct}
use Rattle.machine_invokes.proofs.Receivers.{unspecial_breaks, other_breaks, token_missing, token_breaks, token_builds}
use Rattle.machine_invokes.proofs.Unnamed.{none_upward}
use Rattle.machine_invokes.proofs.callees.callee_of_token.Goals as goal

pub returns-then-not-special-clause-called : goal.returns-then-not-special-clause-called
returns-then-not-special-clause-called c names given fine =
    unspecial_breaks c.args.world.now c.args.frame.now names (reference_seen c.args.named) c.args.class c.args.number given c.args.special c.if-not-special.true

pub returns-then-not-names_constructors-clause-called : goal.returns-then-not-names_constructors-clause-called
returns-then-not-names_constructors-clause-called c names given fine =
    other_breaks c.args.world.now c.args.frame.now names (reference_seen c.args.named) c.args.class c.args.number given c.args.special c.if-not-special.false (sym c.names_constructors.ensures ∙ c.if-not-names_constructors.true)

pub returns-in_default-clause-called : goal.returns-in_default-clause-called
returns-in_default-clause-called c names given fine =
    token_missing c.args.world.now c.args.frame.now names (reference_seen c.args.named) c.args.class c.args.number given c.args.special c.if-not-special.false (sym c.names_constructors.ensures ∙ c.if-not-names_constructors.false) c.in_default.ensures.found

pub returns-then-not-is_class-clause-called : goal.returns-then-not-is_class-clause-called
returns-then-not-is_class-clause-called c names given fine =
    let k = c.args.world.now in
    let one = c.in-Some.ensures.found in
    token_breaks k c.args.frame.now names (reference_seen c.args.named) c.args.class c.args.number given c.args.special c.in-Some.found.0 one false c.if-not-special.false (sym c.names_constructors.ensures ∙ c.if-not-names_constructors.false)
    (none_upward k c.args.class.0 one.method.name.class c.requires.runnable (ltb-false c.args.class.0 (length k.heads) (sym c.is_class.ensures ∙ c.if-not-is_class.true))) refl

pub is_upward-requires : goal.is_upward-requires
is_upward-requires c = ltb-true c.args.class.0 (length c.args.world.now.heads) (sym c.is_class.ensures ∙ c.if-not-is_class.false)

pub returns-then-is_upward-clause-called : goal.returns-then-is_upward-clause-called
returns-then-is_upward-clause-called c names given fine =
    let k = c.args.world.now in
    let one = c.in-Some.ensures.found in
    let within = ltb-true c.args.class.0 (length k.heads) (sym c.is_class.ensures ∙ c.if-not-is_class.false) in
    token_builds k c.args.frame.now names (reference_seen c.args.named) c.args.class c.args.number given c.args.special c.in-Some.found.0 one c.is_upward.result c.if-not-special.false (sym c.names_constructors.ensures ∙ c.if-not-names_constructors.false)
    (ap (λ (cs : List (List ℕ)). is_among cs one.method.name.class) (superclasses_named k c.args.class.0 (runnable_distinct k c.requires.runnable) within)
    ∙ ap (is_among (names_upward k c.args.class.0)) (sym (c.declaring_class.ensures.class one.method one.sees) ∙ sym c.class_name.ensures) ∙ sym c.is_upward.ensures)
    c.if-is_upward.true within fine

pub returns-clause-called : goal.returns-clause-called
returns-clause-called c names given fine =
    let k = c.args.world.now in
    let one = c.in-Some.ensures.found in
    let within = ltb-true c.args.class.0 (length k.heads) (sym c.is_class.ensures ∙ c.if-not-is_class.false) in
    token_breaks k c.args.frame.now names (reference_seen c.args.named) c.args.class c.args.number given c.args.special c.in-Some.found.0 one c.is_upward.result c.if-not-special.false (sym c.names_constructors.ensures ∙ c.if-not-names_constructors.false)
    (ap (λ (cs : List (List ℕ)). is_among cs one.method.name.class) (superclasses_named k c.args.class.0 (runnable_distinct k c.requires.runnable) within)
    ∙ ap (is_among (names_upward k c.args.class.0)) (sym (c.declaring_class.ensures.class one.method one.sees) ∙ sym c.class_name.ensures) ∙ sym c.is_upward.ensures)
    c.if-is_upward.false
