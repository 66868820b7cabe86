use Rattle.std.specs.Prelude.{[], ◌∷◌, refl}
use Rattle.std.proofs.Common.{sym, subst}
use Rattle.class_machine.specs.Effect as definition
use Rattle.class_machine.specs.Effect.{Cast}
use Rattle.class_machine.specs.Operations.{CheckCast}
use Rattle.machine_frames.specs.Naming.{reference}
use Rattle.machine_values.specs.declared.state.MachineState.{MachineState}
use Rattle.machine_values.specs.declared.values.Value.{Value}
use Rattle.machine_steps.specs.declared.step.Step.{Step}
use Rattle.machine_steps.specs.Executing.{executes}
use Rattle.machine_steps.specs.Moves.{Moves}
use Rattle.machine_steps.specs.Runs.{IsFormed}
use Rattle.machine_objects.specs.Taking.{Takes}
use Rattle.machine_objects.proofs.Asked.{breaks_moves}
use Rattle.machine_objects.proofs.Back.{back_to, on_err, if_err, if_ok}
use Rattle.machine_objects.proofs.TypeMoves.{cast_form, cast_kept, question_missing, question_moves}
use Rattle.machine_objects.proofs.types.check_cast.Goals as goal

pub returns-in_default-clause-moves : goal.returns-in_default-clause-moves
returns-in_default-clause-moves c =
    let class = c.args.class.now in
    breaks_moves c.args.world.now c.args.state.now c.take_object.new.state (CheckCast class) (λ room. definition.ask_of (Cast class)) (cast_form class) (c.in_default.ensures.taken (Cast class))

pub returns-then-lacks_class-clause-formed : goal.returns-then-lacks_class-clause-formed
returns-then-lacks_class-clause-formed c =
    let k = c.args.world.now in
    let old = c.args.state.now in
    let mid = c.take_object.new.state in
    let class = c.args.class.now in
    let a = c.in-Some.object in
    let vs = c.reference_value.result ∷ [] in
    let takes : Takes (λ room. definition.ask_of (Cast class)) (λ n. Cast class (reference n a)) vs old mid = subst (λ (v : Value). Takes (λ room. definition.ask_of (Cast class)) (λ n. Cast class (reference n a)) (v ∷ []) old mid) (sym c.reference_value.ensures) (c.in-Some.ensures.taken (Cast class)) in
    subst (λ (s : MachineState). IsFormed k s) (sym (back_to (λ room. definition.ask_of (Cast class)) (λ n. Cast class (reference n a)) vs old mid c.restore.new.state takes c.restore.ensures)) c.requires.formed

pub returns-then-lacks_class-clause-moves : goal.returns-then-lacks_class-clause-moves
returns-then-lacks_class-clause-moves c =
    let k = c.args.world.now in
    let old = c.args.state.now in
    let mid = c.take_object.new.state in
    let class = c.args.class.now in
    let a = c.in-Some.object in
    let vs = c.reference_value.result ∷ [] in
    let takes : Takes (λ room. definition.ask_of (Cast class)) (λ n. Cast class (reference n a)) vs old mid = subst (λ (v : Value). Takes (λ room. definition.ask_of (Cast class)) (λ n. Cast class (reference n a)) (v ∷ []) old mid) (sym c.reference_value.ensures) (c.in-Some.ensures.taken (Cast class)) in
    if_ok c.missing_class.result _ (λ step. Moves k old c.restore.new.state step (executes (CheckCast class)))
    (λ step e. subst (λ (s : Step). Moves k old c.restore.new.state s (executes (CheckCast class))) (sym e)
    (question_missing k (CheckCast class) (Cast class) class (cast_form class) (λ m. refl) (λ m x. refl) (cast_kept class) old mid c.restore.new.state a vs takes c.lacks_class.result c.lacks_class.ensures c.if-lacks_class.true))
    c.missing_class.ensures

pub returns-then-lacks_class-clause-err : goal.returns-then-lacks_class-clause-err
returns-then-lacks_class-clause-err c =
    let k = c.args.world.now in
    let old = c.args.state.now in
    let mid = c.take_object.new.state in
    let class = c.args.class.now in
    let a = c.in-Some.object in
    let vs = c.reference_value.result ∷ [] in
    let takes : Takes (λ room. definition.ask_of (Cast class)) (λ n. Cast class (reference n a)) vs old mid = subst (λ (v : Value). Takes (λ room. definition.ask_of (Cast class)) (λ n. Cast class (reference n a)) (v ∷ []) old mid) (sym c.reference_value.ensures) (c.in-Some.ensures.taken (Cast class)) in
    on_err c.missing_class.result (back_to (λ room. definition.ask_of (Cast class)) (λ n. Cast class (reference n a)) vs old mid c.restore.new.state takes c.restore.ensures)

pub follow-requires-clause-lacking : goal.follow-requires-clause-lacking
follow-requires-clause-lacking c =
    let k = c.args.world.now in
    let old = c.args.state.now in
    let mid = c.take_object.new.state in
    let class = c.args.class.now in
    let a = c.in-Some.object in
    let vs = c.reference_value.result ∷ [] in
    let takes : Takes (λ room. definition.ask_of (Cast class)) (λ n. Cast class (reference n a)) vs old mid = subst (λ (v : Value). Takes (λ room. definition.ask_of (Cast class)) (λ n. Cast class (reference n a)) (v ∷ []) old mid) (sym c.reference_value.ensures) (c.in-Some.ensures.taken (Cast class)) in
    record { before = old; from = takes.from }

pub returns-clause-moves : goal.returns-clause-moves
returns-clause-moves c =
    let k = c.args.world.now in
    let old = c.args.state.now in
    let mid = c.take_object.new.state in
    let class = c.args.class.now in
    let a = c.in-Some.object in
    let vs = c.reference_value.result ∷ [] in
    let takes : Takes (λ room. definition.ask_of (Cast class)) (λ n. Cast class (reference n a)) vs old mid = subst (λ (v : Value). Takes (λ room. definition.ask_of (Cast class)) (λ n. Cast class (reference n a)) (v ∷ []) old mid) (sym c.reference_value.ensures) (c.in-Some.ensures.taken (Cast class)) in
    if_ok c.follow.result _ (λ step. Moves k old c.follow.new.state step (executes (CheckCast class)))
    (λ step follows. question_moves k (CheckCast class) (Cast class) class (cast_form class) (λ m. refl) (λ m x. refl) (cast_kept class) old mid c.follow.new.state a vs takes c.lacks_class.result c.lacks_class.ensures c.if-lacks_class.false c.is_of-below.result c.is_of-below.ensures
    c.cast.result (λ others. c.cast.ensures mid.heap others class c.in-Some.ensures.known) step follows)
    c.follow.ensures.moves

pub returns-clause-err : goal.returns-clause-err
returns-clause-err c =
    let k = c.args.world.now in
    let old = c.args.state.now in
    let mid = c.take_object.new.state in
    let class = c.args.class.now in
    let a = c.in-Some.object in
    let vs = c.reference_value.result ∷ [] in
    let takes : Takes (λ room. definition.ask_of (Cast class)) (λ n. Cast class (reference n a)) vs old mid = subst (λ (v : Value). Takes (λ room. definition.ask_of (Cast class)) (λ n. Cast class (reference n a)) (v ∷ []) old mid) (sym c.reference_value.ensures) (c.in-Some.ensures.taken (Cast class)) in
    if_err c.follow.result (λ put. back_to (λ room. definition.ask_of (Cast class)) (λ n. Cast class (reference n a)) vs old mid c.follow.new.state takes put) c.follow.ensures.err
