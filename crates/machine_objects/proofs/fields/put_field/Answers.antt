use Rattle.std.specs.Prelude.{[], ◌∷◌, Bool, refl}
use Rattle.std.proofs.Common.{sym, ◌∙◌, subst}
use Rattle.class_file.specs.Lookup.{reference_seen}
use Rattle.class_machine.specs.declared.kinds.Access.TheVariants as Access
use Rattle.class_machine.specs.declared.kinds.Fault.{Fault}
use Rattle.class_machine.specs.Effect.{PutField}
use Rattle.class_machine.specs.Operations.{FieldAccess}
use Rattle.machine_frames.specs.Naming.{Naming, reference, held}
use Rattle.machine_requests.specs.declared.reply.Reply.TheVariants.{Done, Refuses}
use Rattle.machine_values.specs.declared.state.MachineState.{MachineState}
use Rattle.machine_values.specs.declared.values.Value.{Value}
use Rattle.machine_values.specs.declared.observed.Ending.TheVariants.{Broken}
use Rattle.machine_steps.specs.declared.step.Step.{Step}
use Rattle.machine_steps.specs.declared.step.Step.TheVariants.{Ended}
use Rattle.machine_steps.specs.Executing.{executes}
use Rattle.machine_steps.specs.Moves.{Moves, MovesWithLocals, faults}
use Rattle.machine_steps.specs.Runs.{IsFormed}
use Rattle.machine_objects.specs.Fields.{Writes, written_reply}
use Rattle.machine_objects.specs.Taking.{Takes, access_form}
use Rattle.machine_objects.proofs.Asked.{breaks_moves}
use Rattle.machine_objects.proofs.Back.{back_to, on_err, if_err, if_ok}
use Rattle.machine_objects.proofs.Followed.{follows_done, follows_refuses}
use Rattle.machine_objects.proofs.FieldMoves.{put_form, put_missing, put_null, put_moves}
use Rattle.machine_objects.proofs.fields.put_field.Goals as goal

pub returns-in_default-clause-moves : goal.returns-in_default-clause-moves
returns-in_default-clause-moves c =
    let r = reference_seen c.args.field in
    let kind = c.kind_in.result in
    breaks_moves c.args.world.now c.args.state.now c.take_written.new.state (FieldAccess Access.PutField r) (access_form Access.PutField r kind) (put_form r kind c.kind_in.ensures) (c.in_default.ensures.taken r)

pub returns-in_default-instance_field-clause-formed : goal.returns-in_default-instance_field-clause-formed
returns-in_default-instance_field-clause-formed c =
    let k = c.args.world.now in
    let r = reference_seen c.args.field in
    let old = c.args.state.now in
    let mid = c.take_written.new.state in
    let kind = c.kind_in.result in
    let w = c.in-Some.written in
    let form = access_form Access.PutField r kind in
    let request = λ (n : Naming). PutField r (reference n w.object) (held n w.value) in
    let vs = w.value ∷ c.reference_value.result ∷ [] in
    let takes : Takes form request vs old mid = subst (λ (v : Value). Takes form request (w.value ∷ v ∷ []) old mid) (sym c.reference_value.ensures) (c.in-Some.ensures.taken r) in
    subst (λ (s : MachineState). IsFormed k s) (sym (back_to form request vs old mid c.restore.new.state takes c.restore.ensures)) c.requires.formed

pub returns-in_default-instance_field-clause-moves : goal.returns-in_default-instance_field-clause-moves
returns-in_default-instance_field-clause-moves c =
    let k = c.args.world.now in
    let r = reference_seen c.args.field in
    let old = c.args.state.now in
    let mid = c.take_written.new.state in
    let kind = c.kind_in.result in
    let w = c.in-Some.written in
    let form = access_form Access.PutField r kind in
    let request = λ (n : Naming). PutField r (reference n w.object) (held n w.value) in
    let vs = w.value ∷ c.reference_value.result ∷ [] in
    let takes : Takes form request vs old mid = subst (λ (v : Value). Takes form request (w.value ∷ v ∷ []) old mid) (sym c.reference_value.ensures) (c.in-Some.ensures.taken r) in
    if_ok c.missing_member.result _ (λ step. Moves k old c.restore.new.state step (executes (FieldAccess Access.PutField r)))
    (λ step e. subst (λ (s : Step). Moves k old c.restore.new.state s (executes (FieldAccess Access.PutField r))) (sym e)
    (put_missing k old mid c.restore.new.state r kind c.kind_in.ensures w.object w.value vs takes (c.in_default-instance_field.ensures.none refl)))
    c.missing_member.ensures

pub returns-in_default-instance_field-clause-err : goal.returns-in_default-instance_field-clause-err
returns-in_default-instance_field-clause-err c =
    let k = c.args.world.now in
    let r = reference_seen c.args.field in
    let old = c.args.state.now in
    let mid = c.take_written.new.state in
    let kind = c.kind_in.result in
    let w = c.in-Some.written in
    let form = access_form Access.PutField r kind in
    let request = λ (n : Naming). PutField r (reference n w.object) (held n w.value) in
    let vs = w.value ∷ c.reference_value.result ∷ [] in
    let takes : Takes form request vs old mid = subst (λ (v : Value). Takes form request (w.value ∷ v ∷ []) old mid) (sym c.reference_value.ensures) (c.in-Some.ensures.taken r) in
    on_err c.missing_member.result (back_to form request vs old mid c.restore.new.state takes c.restore.ensures)

pub fail-requires-clause-formed : goal.fail-requires-clause-formed
fail-requires-clause-formed c =
    let k = c.args.world.now in
    let r = reference_seen c.args.field in
    let old = c.args.state.now in
    let mid = c.take_written.new.state in
    let kind = c.kind_in.result in
    let w = c.in-Some.written in
    let form = access_form Access.PutField r kind in
    let request = λ (n : Naming). PutField r (reference n w.object) (held n w.value) in
    let vs = w.value ∷ c.reference_value.result ∷ [] in
    let takes : Takes form request vs old mid = subst (λ (v : Value). Takes form request (w.value ∷ v ∷ []) old mid) (sym c.reference_value.ensures) (c.in-Some.ensures.taken r) in
    subst (λ (s : MachineState). IsFormed k s) (sym (back_to form request vs old mid c.restore-in_default-object.new.state takes c.restore-in_default-object.ensures)) c.requires.formed

pub returns-in_default-object-clause-moves : goal.returns-in_default-object-clause-moves
returns-in_default-object-clause-moves c =
    let k = c.args.world.now in
    let r = reference_seen c.args.field in
    let old = c.args.state.now in
    let mid = c.take_written.new.state in
    let kind = c.kind_in.result in
    let w = c.in-Some.written in
    let form = access_form Access.PutField r kind in
    let request = λ (n : Naming). PutField r (reference n w.object) (held n w.value) in
    let vs = w.value ∷ c.reference_value.result ∷ [] in
    let takes : Takes form request vs old mid = subst (λ (v : Value). Takes form request (w.value ∷ v ∷ []) old mid) (sym c.reference_value.ensures) (c.in-Some.ensures.taken r) in
    let back = back_to form request vs old mid c.restore-in_default-object.new.state takes c.restore-in_default-object.ensures in
    let found = c.in-Some-instance_field.found in
    if_ok c.fail.result _ (λ step. Moves k old c.fail.new.state step (executes (FieldAccess Access.PutField r)))
    (λ step moves. put_null k old mid c.fail.new.state r kind c.kind_in.ensures w.object w.value vs takes step found.class.0 found.position c.in-Some-instance_field.ensures.found c.in_default-object.is
    (subst (λ (s : MachineState). MovesWithLocals k s c.fail.new.state step (faults Fault.NullPointer)) back moves))
    c.fail.ensures.moves

pub returns-in_default-object-clause-err : goal.returns-in_default-object-clause-err
returns-in_default-object-clause-err c =
    let k = c.args.world.now in
    let r = reference_seen c.args.field in
    let old = c.args.state.now in
    let mid = c.take_written.new.state in
    let kind = c.kind_in.result in
    let w = c.in-Some.written in
    let form = access_form Access.PutField r kind in
    let request = λ (n : Naming). PutField r (reference n w.object) (held n w.value) in
    let vs = w.value ∷ c.reference_value.result ∷ [] in
    let takes : Takes form request vs old mid = subst (λ (v : Value). Takes form request (w.value ∷ v ∷ []) old mid) (sym c.reference_value.ensures) (c.in-Some.ensures.taken r) in
    if_err c.fail.result (λ same. same ∙ back_to form request vs old mid c.restore-in_default-object.new.state takes c.restore-in_default-object.ensures) c.fail.ensures.err

pub returns-then-write-clause-moves : goal.returns-then-write-clause-moves
returns-then-write-clause-moves c =
    let k = c.args.world.now in
    let r = reference_seen c.args.field in
    let old = c.args.state.now in
    let mid = c.take_written.new.state in
    let kind = c.kind_in.result in
    let w = c.in-Some.written in
    let form = access_form Access.PutField r kind in
    let request = λ (n : Naming). PutField r (reference n w.object) (held n w.value) in
    let vs = w.value ∷ c.reference_value.result ∷ [] in
    let takes : Takes form request vs old mid = subst (λ (v : Value). Takes form request (w.value ∷ v ∷ []) old mid) (sym c.reference_value.ensures) (c.in-Some.ensures.taken r) in
    let found = c.in-Some-instance_field.found in
    put_moves k old mid c.go_on_next.new.state r kind c.kind_in.ensures w.object w.value vs takes c.write.new.heap c.go_on_next.result Done found.class.0 found.position c.in-Some-object.at c.in-Some-instance_field.ensures.found c.in-Some-object.is c.write.ensures.names
    (subst (λ (b : Bool). Writes k mid.heap c.write.new.heap found.class.0 found.position r.member.descriptor c.in-Some-object.at w.value (written_reply b)) c.if-write.true c.write.ensures.written) (follows_done k (record mid { heap = c.write.new.heap }) c.go_on_next.new.state c.go_on_next.result vs c.go_on_next.ensures.moves)

pub returns-else-write-clause-moves : goal.returns-else-write-clause-moves
returns-else-write-clause-moves c =
    let k = c.args.world.now in
    let r = reference_seen c.args.field in
    let old = c.args.state.now in
    let mid = c.take_written.new.state in
    let kind = c.kind_in.result in
    let w = c.in-Some.written in
    let form = access_form Access.PutField r kind in
    let request = λ (n : Naming). PutField r (reference n w.object) (held n w.value) in
    let vs = w.value ∷ c.reference_value.result ∷ [] in
    let takes : Takes form request vs old mid = subst (λ (v : Value). Takes form request (w.value ∷ v ∷ []) old mid) (sym c.reference_value.ensures) (c.in-Some.ensures.taken r) in
    let after : MachineState = record mid { heap = c.write.new.heap } in
    let found = c.in-Some-instance_field.found in
    put_moves k old mid after r kind c.kind_in.ensures w.object w.value vs takes c.write.new.heap (Ended Broken) Refuses found.class.0 found.position c.in-Some-object.at c.in-Some-instance_field.ensures.found c.in-Some-object.is c.write.ensures.names
    (subst (λ (b : Bool). Writes k mid.heap c.write.new.heap found.class.0 found.position r.member.descriptor c.in-Some-object.at w.value (written_reply b)) c.if-write.false c.write.ensures.written) (follows_refuses k after after vs)
