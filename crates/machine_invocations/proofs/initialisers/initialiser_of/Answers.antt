use Rattle.std.proofs.Common.{sym, ap, ◌∙◌}
use Rattle.std.specs.Prelude.{codes}
use Rattle.std.specs.Option.{option_map}
use Rattle.aj_names.specs.declared.ids.MethodId.{MethodId}
use Rattle.machine_code.specs.Views.{code_seen}
use Rattle.machine_invocations.specs.Selections.{member_named}
use Rattle.machine_invocations.proofs.Upward.{declared_is_method}
use Rattle.machine_invocations.proofs.Initialised.{undeclared, clinit, instance_lacks, codeless_lacks, has_initialiser}
use Rattle.machine_invocations.proofs.initialisers.initialiser_of.Goals as goal

pub returns-in_default : goal.returns-in_default
returns-in_default c =
    undeclared c.args.world.now c.args.class.0 (c.requires.runnable.program.different c.args.class.0 c.requires.class) (sym (ap (option_map (λ (x : MethodId). x.0)) c.in_default.is) ∙ c.clinit_of.ensures.number)

pub is_static-requires : goal.is_static-requires
is_static-requires c = declared_is_method c.args.world.now (member_named (codes "<clinit>") (codes "()V")) c.args.class.0 c.in-Some.method.0 c.in-Some.ensures.number

pub returns-then-not-is_static : goal.returns-then-not-is_static
returns-then-not-is_static c =
    let k = c.args.world.now in
    let is = clinit k c.args.class.0 c.in-Some.method.0 (c.requires.runnable.program.different c.args.class.0 c.requires.class) c.in-Some.ensures.number in
    instance_lacks k c.args.class.0 c.in-Some.method.0 is (sym (c.is_static.ensures is.method is.sees) ∙ c.if-not-is_static.true)

pub returns-in_default-code_of : goal.returns-in_default-code_of
returns-in_default-code_of c =
    let k = c.args.world.now in
    let is = clinit k c.args.class.0 c.in-Some.method.0 (c.requires.runnable.program.different c.args.class.0 c.requires.class) c.in-Some.ensures.number in
    codeless_lacks k c.args.class.0 c.in-Some.method.0 is (option_map code_seen c.code_of.result) (sym (c.is_static.ensures is.method is.sees) ∙ c.if-not-is_static.false)
    (c.code_of.ensures.named is.sees.place c.requires.runnable.program is.sees.first is.sees.numbered) (ap (option_map code_seen) c.in_default-code_of.is)

pub returns : goal.returns
returns c =
    let k = c.args.world.now in
    let is = clinit k c.args.class.0 c.in-Some.method.0 (c.requires.runnable.program.different c.args.class.0 c.requires.class) c.in-Some.ensures.number in
    has_initialiser k c.args.class.0 c.in-Some.method.0 is c.in-Some-code_of.code (sym (c.is_static.ensures is.method is.sees) ∙ c.if-not-is_static.false)
    (sym (ap (option_map code_seen) c.in-Some-code_of.is) ∙ c.code_of.ensures.named is.sees.place c.requires.runnable.program is.sees.first is.sees.numbered)
