use Rattle.std.specs.Prelude.{Bool, List, refl}
use Rattle.std.proofs.Common.{◌∙◌, subst}
use Rattle.class_heads.specs.Hierarchy.{name_at}
use Rattle.machine_invocations.proofs.Begun.{keeps_same, on_err}
use Rattle.machine_invokes.specs.Beginning.{HaveBegun}
use Rattle.machine_invokes.proofs.Started.{begun_goes, some_wait, none_wait}
use Rattle.machine_invokes.proofs.starting.start_class.Goals as goal

pub returns-then-have_begun-clause-started : goal.returns-then-have_begun-clause-started
returns-then-have_begun-clause-started c =
    let k = c.args.world.now in
    let class = c.declaring_class-class.result.0 in (
      refl,
      λ m sees.
          begun_goes k c.args.state.now class c.declaring_class-class.ensures.within c.requires.formed.begun m.name.class (c.declaring_class-class.ensures.class m sees)
          (subst (λ (begun : List Bool). HaveBegun k begun class) c.as_slice.ensures (c.have_begun.ensures c.if-have_begun.true)),
    )

pub returns-in_err-before-clause-err : goal.returns-in_err-before-clause-err
returns-in_err-before-clause-err c = on_err c.from_residual.result (keeps_same c.args.world.now c.args.state.now c.args.state.now refl refl)

pub returns-in_err-some-clause-err : goal.returns-in_err-some-clause-err
returns-in_err-some-clause-err c = on_err c.from_residual-in_err-some.result c.in_err-some.ensures.err

pub returns-then-some-clause-started : goal.returns-then-some-clause-started
returns-then-some-clause-started c m sees =
    some_wait c.args.world.now c.args.state.now c.begin.new.state (name_at c.args.world.now.heads c.declaring_class-class.result.0) m.name.class c.in_ok-some.some (c.declaring_class-class.ensures.class m sees) c.in_ok-some.ensures.added c.in_ok-some.ensures.begun c.if-some.true

pub returns-clause-started : goal.returns-clause-started
returns-clause-started c = (
  refl,
  λ m sees.
      none_wait c.args.world.now c.args.state.now c.begin.new.state (name_at c.args.world.now.heads c.declaring_class-class.result.0) m.name.class c.in_ok-some.some (c.declaring_class-class.ensures.class m sees) c.in_ok-some.ensures.added c.in_ok-some.ensures.begun
      c.in_ok-before.before (c.in_ok-before.ensures ∙ c.as_slice-2.ensures) c.if-some.false,
)
