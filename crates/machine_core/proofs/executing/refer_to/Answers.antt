use Rattle.std.specs.Prelude.{ℕ, List, refl}
use Rattle.std.proofs.Common.{◌∙◌, subst}
use Rattle.std.proofs.lemmas.Result.{IfOk-weaker}
use Rattle.class_file.specs.Pool.{string_at}
use Rattle.class_machine.specs.Operations.{Refer}
use Rattle.class_machine.specs.Texts.{units_of}
use Rattle.class_machine.specs.Values.{Literal}
use Rattle.machine_code.specs.declared.operation.Operation.TheVariants as code
use Rattle.machine_steps.specs.declared.step.Step.TheVariants.{NotMine}
use Rattle.machine_steps.specs.Executing.{executes}
use Rattle.machine_steps.specs.Moves.{Moves}
use Rattle.machine_core.specs.Taking.{TakesCore}
use Rattle.machine_core.proofs.Forms.{names_core, names_none}
use Rattle.machine_core.proofs.executing.refer_to.Goals as goal

pub returns-in_default-clause-takes : goal.returns-in_default-clause-takes
returns-in_default-clause-takes c left bytes operation e stands =
    let old = c.args.state.now in
    names_none c.args.world.now old old NotMine (λ (text : List ℕ). Refer (Literal (units_of text))) (string_at c.args.pool.now c.args.index) c.in_default.ensures left operation e

pub returns-clause-takes : goal.returns-clause-takes
returns-clause-takes c =
    let k = c.args.world.now in
    let old = c.args.state.now in
    let new = c.refer.new.state in
    let text = c.in-Some.text.now in
    IfOk-weaker c.refer.result (λ step. Moves k old new step (executes (Refer (Literal c.as_slice.result.now)))) (λ step. TakesCore k old new step c.args.pool.now (code.Refer c.args.index))
    (λ step moves left bytes operation e stands. names_core k old new step (λ (t : List ℕ). Refer (Literal (units_of t))) (string_at c.args.pool.now c.args.index) text c.in-Some.ensures (λ m f. refl)
    (subst (λ (units : List ℕ). Moves k old new step (executes (Refer (Literal units)))) (c.as_slice.ensures.value ∙ c.in_ok-units.ensures) moves) left operation e) c.refer.ensures.moves
