use Rattle.std.proofs.Common.{sym, ◌∙◌, subst, refl}
use Rattle.std.specs.Prelude.{[]}
use Rattle.class_machine.specs.Operations.{ReferClass}
use Rattle.machine_values.specs.declared.state.MachineState.{MachineState}
use Rattle.machine_steps.specs.declared.step.Step.{Step}
use Rattle.machine_steps.specs.Executing.{executes}
use Rattle.machine_steps.specs.Moves.{Moves}
use Rattle.machine_objects.proofs.Back.{if_ok}
use Rattle.machine_objects.proofs.ConstantMoves.{class_breaks, load_missing, load_moves}
use Rattle.machine_objects.proofs.constants.refer_class.Goals as goal

pub returns-then-not-has_room-clause-moves : goal.returns-then-not-has_room-clause-moves
returns-then-not-has_room-clause-moves c = class_breaks c.args.world.now c.requires.runnable c.args.state.now c.args.class.now c.args.state.now c.if-not-has_room.ensures

pub returns-then-not-is_known_class-clause-moves : goal.returns-then-not-is_known_class-clause-moves
returns-then-not-is_known_class-clause-moves c =
    let k = c.args.world.now in
    let old = c.args.state.now in
    let class = c.args.class.now in
    if_ok c.missing_class.result _ (λ step. Moves k old old step (executes (ReferClass class)))
    (λ step e. subst (λ (s : Step). Moves k old old s (executes (ReferClass class))) (sym e) (load_missing k c.requires.runnable old class old refl c.if-not-has_room.ensures old (sym c.if-not-is_known_class.true ∙ c.is_known_class.ensures)))
    c.missing_class.ensures

pub returns-clause-moves : goal.returns-clause-moves
returns-clause-moves c =
    let old = c.args.state.now in
    let mid : MachineState = record old { heap = c.class_object.new.heap } in
    load_moves c.args.world.now c.requires.runnable old c.args.class.now mid refl c.if-not-has_room.ensures c.give_new.new.state c.give_new.result c.in_ok-reply.reply _ c.in_ok-named.ensures.named (sym c.if-not-is_known_class.false ∙ c.is_known_class.ensures)
    c.class_object.ensures.names c.in_ok-reply.ensures.ok c.in_ok-reply.ensures.filled (c.give_new.ensures.follows [])
