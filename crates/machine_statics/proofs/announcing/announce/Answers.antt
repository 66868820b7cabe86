use Rattle.std.proofs.Common.{Bool, inl, inr, subst}
use Rattle.machine_values.specs.declared.values.Value.TheVariants.{Token}
use Rattle.machine_values.specs.declared.observed.Ending.TheVariants.{Broken}
use Rattle.machine_steps.specs.declared.step.Step.TheVariants.{Ended}
use Rattle.machine_statics.specs.Tops.{PutsOn}
use Rattle.machine_statics.proofs.Tops.{put_formed}
use Rattle.machine_statics.proofs.Storing.{announce_moves, announce_full, announce_idle}
use Rattle.machine_statics.proofs.announcing.announce.Goals as goal

pub take_back-requires-clause-formed : goal.take_back-requires-clause-formed
take_back-requires-clause-formed c = put_formed c.args.world.now c.args.state.now c.put_on.new.state (Token c.args.class c.args.number) c.put_on.result c.put_on.ensures c.requires.formed

pub returns-then-put_on-clause-moves : goal.returns-then-put_on-clause-moves
returns-then-put_on-clause-moves c name =
    announce_moves c.args.world.now c.args.state.now name c.args.class c.args.number c.put_on.new.state c.take_back.new.state c.take_back.result
    (subst (λ (b : Bool). PutsOn c.args.state.now (Token c.args.class c.args.number) c.put_on.new.state b) c.if-put_on.true c.put_on.ensures) c.take_back.ensures.taken

pub returns-else-put_on-clause-formed : goal.returns-else-put_on-clause-formed
returns-else-put_on-clause-formed c = put_formed c.args.world.now c.args.state.now c.put_on.new.state (Token c.args.class c.args.number) c.put_on.result c.put_on.ensures c.requires.formed

pub returns-else-put_on-clause-moves : goal.returns-else-put_on-clause-moves
returns-else-put_on-clause-moves c name =
    elim (subst (λ (b : Bool). PutsOn c.args.state.now (Token c.args.class c.args.number) c.put_on.new.state b) c.if-put_on.false c.put_on.ensures) [
      | inl idle ↦ announce_idle c.args.world.now c.args.state.now name c.args.class c.args.number c.put_on.new.state (Ended Broken) idle
      | inr full ↦ announce_full c.args.world.now c.args.state.now name c.args.class c.args.number c.put_on.new.state full
    ]
