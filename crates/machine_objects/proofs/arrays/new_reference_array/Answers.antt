use Rattle.std.specs.Prelude.{[], ◌∷◌, Some, ℤ, pos}
use Rattle.std.proofs.Common.{◌≡◌, rules, sym, ap, ◌∙◌, subst}
use Rattle.std.specs.Int.{w32}
use Rattle.std.proofs.lemmas.Int.{to_z-of_z}
use Rattle.class_machine.specs.Answers as answers
use Rattle.class_machine.specs.declared.kinds.Fault.{Fault}
use Rattle.class_machine.specs.Operations.{NewReferenceArray}
use Rattle.class_machine.specs.Descriptors.{array_of}
use Rattle.class_machine.specs.Effect.{MakeArray}
use Rattle.machine_frames.specs.Naming.{Naming}
use Rattle.machine_values.specs.declared.state.MachineState.{MachineState}
use Rattle.machine_values.specs.declared.values.Value.TheVariants.{Int}
use Rattle.machine_requests.specs.Replies.{IsAnswer}
use Rattle.machine_steps.specs.declared.step.Step.{Step}
use Rattle.machine_steps.specs.Executing.{executes}
use Rattle.machine_steps.specs.Moves.{Moves, MovesWithLocals, faults}
use Rattle.machine_steps.specs.Runs.{IsFormed}
use Rattle.machine_objects.specs.Taking.{IsTakenFrom}
use Rattle.machine_objects.proofs.Back.{back_to, none_written, on_err, if_err, if_ok}
use Rattle.machine_objects.proofs.ConstantMoves.{array_form, array_breaks, array_missing, array_negative, array_moves}
use Rattle.machine_objects.proofs.arrays.new_reference_array.Goals as goal

-- the int that was taken is the one that is put back
put_back_of : (r mid : MachineState) (n : ℤ) {i : ℤ} → i ≡ n → ((before : MachineState) → IsTakenFrom (Int i ∷ []) before mid → r ≡ record mid { frames = before.frames })
    → (before : MachineState) → IsTakenFrom (Int n ∷ []) before mid → r ≡ record mid { frames = before.frames }
put_back_of r mid n same put before from = put before (subst (λ (j : ℤ). IsTakenFrom (Int j ∷ []) before mid) (sym same) from)

pub returns-in_default-clause-moves : goal.returns-in_default-clause-moves
returns-in_default-clause-moves c =
    let class = c.args.class.now in
    array_breaks c.args.world.now c.requires.runnable c.args.state.now class (pos 0) c.take_size.new.state (c.in_default.ensures.taken (Some class) (array_of class))

pub returns-then-not-is_known_class-clause-formed : goal.returns-then-not-is_known_class-clause-formed
returns-then-not-is_known_class-clause-formed c =
    let k = c.args.world.now in
    let old = c.args.state.now in
    let mid = c.take_size.new.state in
    let class = c.args.class.now in
    let n = c.in-Some.size in
    let vs = Int n ∷ [] in
    let form = array_form k c.requires.runnable old class n in
    let request = λ (x : Naming). MakeArray (Some class) (array_of class) (n ∷ []) in
    let takes = c.in-Some.ensures.taken (Some class) (array_of class) in
    subst (λ (s : MachineState). IsFormed k s) (sym (back_to form request vs old mid c.restore.new.state takes (put_back_of c.restore.new.state mid n (to_z-of_z w32 n (search rules)) c.restore.ensures))) c.requires.formed

pub returns-then-not-is_known_class-clause-moves : goal.returns-then-not-is_known_class-clause-moves
returns-then-not-is_known_class-clause-moves c =
    let k = c.args.world.now in
    let old = c.args.state.now in
    let mid = c.take_size.new.state in
    let class = c.args.class.now in
    let n = c.in-Some.size in
    let vs = Int n ∷ [] in
    let form = array_form k c.requires.runnable old class n in
    let request = λ (x : Naming). MakeArray (Some class) (array_of class) (n ∷ []) in
    let takes = c.in-Some.ensures.taken (Some class) (array_of class) in
    if_ok c.missing_class.result _ (λ step. Moves k old c.restore.new.state step (executes (NewReferenceArray class)))
    (λ step e. subst (λ (s : Step). Moves k old c.restore.new.state s (executes (NewReferenceArray class))) (sym e)
    (array_missing k c.requires.runnable old class n mid takes c.restore.new.state (sym c.if-not-is_known_class.true ∙ c.is_known_class.ensures)))
    c.missing_class.ensures

pub returns-then-not-is_known_class-clause-err : goal.returns-then-not-is_known_class-clause-err
returns-then-not-is_known_class-clause-err c =
    let k = c.args.world.now in
    let old = c.args.state.now in
    let mid = c.take_size.new.state in
    let class = c.args.class.now in
    let n = c.in-Some.size in
    let vs = Int n ∷ [] in
    let form = array_form k c.requires.runnable old class n in
    let request = λ (x : Naming). MakeArray (Some class) (array_of class) (n ∷ []) in
    let takes = c.in-Some.ensures.taken (Some class) (array_of class) in
    on_err c.missing_class.result (back_to form request vs old mid c.restore.new.state takes (put_back_of c.restore.new.state mid n (to_z-of_z w32 n (search rules)) c.restore.ensures))

pub fail-requires-clause-formed : goal.fail-requires-clause-formed
fail-requires-clause-formed c =
    let k = c.args.world.now in
    let old = c.args.state.now in
    let mid = c.take_size.new.state in
    let class = c.args.class.now in
    let n = c.in-Some.size in
    let vs = Int n ∷ [] in
    let form = array_form k c.requires.runnable old class n in
    let request = λ (x : Naming). MakeArray (Some class) (array_of class) (n ∷ []) in
    let takes = c.in-Some.ensures.taken (Some class) (array_of class) in
    subst (λ (s : MachineState). IsFormed k s) (sym (back_to form request vs old mid c.restore-then-is_negative.new.state takes (put_back_of c.restore-then-is_negative.new.state mid n (to_z-of_z w32 n (search rules)) c.restore-then-is_negative.ensures))) c.requires.formed

pub returns-then-is_negative-clause-moves : goal.returns-then-is_negative-clause-moves
returns-then-is_negative-clause-moves c =
    let k = c.args.world.now in
    let old = c.args.state.now in
    let mid = c.take_size.new.state in
    let class = c.args.class.now in
    let n = c.in-Some.size in
    let vs = Int n ∷ [] in
    let form = array_form k c.requires.runnable old class n in
    let request = λ (x : Naming). MakeArray (Some class) (array_of class) (n ∷ []) in
    let takes = c.in-Some.ensures.taken (Some class) (array_of class) in
    if_ok c.fail.result _ (λ step. Moves k old c.fail.new.state step (executes (NewReferenceArray class)))
    (λ step moves. array_negative k c.requires.runnable old class n mid takes c.fail.new.state step (sym c.if-not-is_known_class.false ∙ c.is_known_class.ensures) (ap answers.is_negative (sym (to_z-of_z w32 n (search rules))) ∙ sym c.is_negative.ensures ∙ c.if-is_negative.true)
    (subst (λ (s : MachineState). MovesWithLocals k s c.fail.new.state step (faults Fault.NegativeArraySize)) (back_to form request vs old mid c.restore-then-is_negative.new.state takes (put_back_of c.restore-then-is_negative.new.state mid n (to_z-of_z w32 n (search rules)) c.restore-then-is_negative.ensures)) moves))
    c.fail.ensures.moves

pub returns-then-is_negative-clause-err : goal.returns-then-is_negative-clause-err
returns-then-is_negative-clause-err c =
    let k = c.args.world.now in
    let old = c.args.state.now in
    let mid = c.take_size.new.state in
    let class = c.args.class.now in
    let n = c.in-Some.size in
    let vs = Int n ∷ [] in
    let form = array_form k c.requires.runnable old class n in
    let request = λ (x : Naming). MakeArray (Some class) (array_of class) (n ∷ []) in
    let takes = c.in-Some.ensures.taken (Some class) (array_of class) in
    if_err c.fail.result (λ same. same ∙ back_to form request vs old mid c.restore-then-is_negative.new.state takes (put_back_of c.restore-then-is_negative.new.state mid n (to_z-of_z w32 n (search rules)) c.restore-then-is_negative.ensures)) c.fail.ensures.err

pub returns-in-Ok-clause-moves : goal.returns-in-Ok-clause-moves
returns-in-Ok-clause-moves c =
    let k = c.args.world.now in
    let old = c.args.state.now in
    let mid = c.take_size.new.state in
    let class = c.args.class.now in
    let n = c.in-Some.size in
    let vs = Int n ∷ [] in
    let form = array_form k c.requires.runnable old class n in
    let request = λ (x : Naming). MakeArray (Some class) (array_of class) (n ∷ []) in
    let takes = c.in-Some.ensures.taken (Some class) (array_of class) in
    array_moves k c.requires.runnable old class n mid takes c.make.new.heap c.give_new.new.state c.give_new.result c.in-Ok.reply (sym c.if-not-is_known_class.false ∙ c.is_known_class.ensures) (ap answers.is_negative (sym (to_z-of_z w32 n (search rules))) ∙ sym c.is_negative.ensures ∙ c.if-is_negative.false)
    c.make.ensures.names
    (λ others named. subst (λ (i : ℤ). IsAnswer mid.heap others (λ s names. MakeArray named (array_of class) (i ∷ [])) c.make.new.heap others c.in-Ok.reply) (to_z-of_z w32 n (search rules)) (c.in-Ok.ensures.ok others named)) c.in-Ok.ensures.filled (c.give_new.ensures.follows vs)

pub returns-in-Err-clause-formed : goal.returns-in-Err-clause-formed
returns-in-Err-clause-formed c =
    let k = c.args.world.now in
    let old = c.args.state.now in
    let mid = c.take_size.new.state in
    let class = c.args.class.now in
    let n = c.in-Some.size in
    let vs = Int n ∷ [] in
    let form = array_form k c.requires.runnable old class n in
    let request = λ (x : Naming). MakeArray (Some class) (array_of class) (n ∷ []) in
    let takes = c.in-Some.ensures.taken (Some class) (array_of class) in
    subst (λ (s : MachineState). IsFormed k s) (sym (none_written form request vs old mid c.make.new.heap c.restore-in-Err.new.state takes c.in-Err.ensures.err (put_back_of c.restore-in-Err.new.state (record mid { heap = c.make.new.heap }) n (to_z-of_z w32 n (search rules)) c.restore-in-Err.ensures))) c.requires.formed

pub returns-in-Err-clause-err : goal.returns-in-Err-clause-err
returns-in-Err-clause-err c =
    let k = c.args.world.now in
    let old = c.args.state.now in
    let mid = c.take_size.new.state in
    let class = c.args.class.now in
    let n = c.in-Some.size in
    let vs = Int n ∷ [] in
    let form = array_form k c.requires.runnable old class n in
    let request = λ (x : Naming). MakeArray (Some class) (array_of class) (n ∷ []) in
    let takes = c.in-Some.ensures.taken (Some class) (array_of class) in
    none_written form request vs old mid c.make.new.heap c.restore-in-Err.new.state takes c.in-Err.ensures.err (put_back_of c.restore-in-Err.new.state (record mid { heap = c.make.new.heap }) n (to_z-of_z w32 n (search rules)) c.restore-in-Err.ensures)
