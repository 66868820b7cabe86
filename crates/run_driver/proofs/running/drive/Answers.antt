use Rattle.std.proofs.Common.{◌≡◌, ℕ, ◌+◌, List, Some, None, refl, sym, ◌∙◌, ap, subst, arith}
use Rattle.machine_steps.specs.declared.step.Step.{Step}
use Rattle.machine_steps.specs.Runs.{Stepped, answers_left}
use Rattle.machine_invocations.specs.Invoked.{step_of}
use Rattle.machine_values.specs.declared.observed.Event.{Event}
use Rattle.run_driver.specs.Stepping.{Steps}
use Rattle.run_driver.proofs.Reached.{Reaches, there_still, reaches_next, reaches_said, spent_reports, over_reports}
use Rattle.run_driver.proofs.Taken.{never_left}
use Rattle.run_driver.proofs.running.drive.Goals as goal
use Rattle.run_driver.proofs.running.drive.Goals.{in-Went, in-Said+in_ok-push-in-Said}

pub step-requires-clause-there : goal.step-requires-clause-there
step-requires-clause-there c =
    there_still c.args.world.now c.args.state.now (answers_left c.args.script.now) c.steps.taken c.steps.events.items c.steps.state (answers_left c.steps.script) c.requires.there c.steps.invariant.reaches

pub returns-in-Ended : goal.returns-in-Ended
returns-in-Ended c =
    let k = c.args.world.now in
    let before = answers_left c.steps.script in
    let after = answers_left c.step.new.script in
    over_reports k c.args.state.now (answers_left c.args.script.now) c.steps.taken c.steps.events.items c.steps.state c.step.new.state before after c.in-Ended.ending
    (record { events = c.steps.events; ending = Some c.in-Ended.ending; steps = c.steps.taken + 1 }) c.args.steps refl refl refl c.steps-test.true c.steps.invariant.reaches
    (subst (λ (s : Step). Steps k c.steps.state c.step.new.state before after s) c.in-Ended.is c.in_ok-step.ensures.steps)

pub unreachable-requires : goal.unreachable-requires
unreachable-requires c =
    let k = c.args.world.now in
    let after = answers_left c.step.new.script in
    let there = there_still k c.args.state.now (answers_left c.args.script.now) c.steps.taken c.steps.events.items c.steps.state (answers_left c.steps.script) c.requires.there c.steps.invariant.reaches in
    let outcome = step_of there.machine there.there in
    never_left there.machine c.step.new.state after outcome
    (subst (λ (s : Step). Stepped there.machine c.step.new.state after s outcome) c.in-NotMine.is (c.in_ok-step.ensures.steps there.machine there.there there.is there.runs))

pub steps-preserved : goal.steps-preserved
steps-preserved c =
    let k = c.args.world.now in
    let begun = c.args.state.now in
    let answers = answers_left c.args.script.now in
    let before = answers_left c.steps.script in
    let after = answers_left c.step.new.script in
    let said = λ (events : List Event). Reaches k begun answers (c.steps.taken + 1) events c.step.new.state after in
    record {
      formed = c.step.ensures.formed;
      reaches = elim c.match-branch-2.branch [
        | in-Went w ↦
            subst said (sym (ap (λ v. v.items) w.events-is))
            (reaches_next k begun answers c.steps.taken c.steps.events.items c.steps.state c.step.new.state before after c.steps.invariant.reaches
            (subst (λ (s : Step). Steps k c.steps.state c.step.new.state before after s) w.in-Went.is c.in_ok-step.ensures.steps))
        | in-Said+in_ok-push-in-Said w ↦
            subst said (sym (ap (λ v. v.items) w.events-is ∙ w.in_ok-push-in-Said.ensures.items))
            (reaches_said k begun answers c.steps.taken c.steps.events.items c.steps.state c.step.new.state before after c.steps.invariant.reaches w.in-Said.event
            (subst (λ (s : Step). Steps k c.steps.state c.step.new.state before after s) w.in-Said.is c.in_ok-step.ensures.steps))
      ];
    }

pub returns : goal.returns
returns c =
    let k = c.args.world.now in
    let answers = answers_left c.args.script.now in
    let all : c.steps.taken ≡ c.args.steps = omega arith in
    spent_reports k c.args.state.now answers c.steps.events.items c.steps.state (answers_left c.steps.script)
    (record { events = c.steps.events; ending = None; steps = c.args.steps }) c.args.steps refl refl refl
    (subst (λ (n : ℕ). Reaches k c.args.state.now answers n c.steps.events.items c.steps.state (answers_left c.steps.script)) all c.steps.invariant.reaches)
