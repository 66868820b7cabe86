use Rattle.std.proofs.Common.{inl, inr, refl, sym, ap, ◌∙◌}
use Rattle.machine_values.specs.declared.observed.Ending.TheVariants.{Broken}
use Rattle.machine_values.specs.declared.state.MachineState.{MachineState}
use Rattle.machine_steps.specs.declared.step.Step.TheVariants.{Ended}
use Rattle.machine_statics.proofs.Tops.{lacks_formed, takes_formed}
use Rattle.machine_statics.proofs.Storing.{store_moves, store_breaks, store_idle}
use Rattle.machine_statics.proofs.putting.store.Goals as goal

pub returns-in_default-clause-formed : goal.returns-in_default-clause-formed
returns-in_default-clause-formed c = lacks_formed c.args.world.now c.args.state.now c.take_value.new.state c.args.kind c.in_default.ensures c.requires.formed

pub returns-in_default-clause-moves : goal.returns-in_default-clause-moves
returns-in_default-clause-moves c r =
    elim c.in_default.ensures [
      | inl idle ↦ store_idle c.args.world.now c.args.state.now r c.args.field.0 c.args.element c.args.kind c.take_value.new.state (Ended Broken) idle
      | inr lacks ↦ store_breaks c.args.world.now c.args.state.now r c.args.field.0 c.args.element c.args.kind c.take_value.new.state lacks
    ]

pub take_back-requires-clause-formed : goal.take_back-requires-clause-formed
take_back-requires-clause-formed c =
    let mid : MachineState = record c.take_value.new.state { statics = c.put_static-done.new.statics } in
    takes_formed c.args.world.now c.args.state.now c.take_value.new.state mid c.args.kind c.in-Some.value c.put_static-done.new.statics c.in-Some.ensures refl c.put_static-done.ensures.len c.requires.formed

pub returns-clause-moves : goal.returns-clause-moves
returns-clause-moves c r =
    let popped = c.take_value.new.state in
    let mid : MachineState = record popped { statics = c.put_static-done.new.statics } in
    let takes = c.in-Some.ensures in
    store_moves c.args.world.now c.args.state.now r c.args.field.0 c.args.element c.args.kind popped mid c.take_back.new.state c.take_back.result c.in-Some.value c.put_static-done.new.statics c.put_static-done.result takes
    (λ things others q e. c.put_static-done.ensures.answer things others q (e ∙ sym (ap (λ (s : MachineState). s.statics) takes.turned.same))) refl c.take_back.ensures.taken
