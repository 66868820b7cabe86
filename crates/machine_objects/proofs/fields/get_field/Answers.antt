use Rattle.std.specs.Prelude.{[], ◌∷◌, refl}
use Rattle.std.proofs.Common.{sym, subst}
use Rattle.class_file.specs.Lookup.{reference_seen}
use Rattle.class_machine.specs.declared.kinds.Access.TheVariants as Access
use Rattle.class_machine.specs.Effect.{GetField}
use Rattle.class_machine.specs.Operations.{FieldAccess}
use Rattle.machine_frames.specs.Naming.{Naming, reference}
use Rattle.machine_values.specs.declared.state.MachineState.{MachineState}
use Rattle.machine_values.specs.declared.values.Value.{Value}
use Rattle.machine_steps.specs.declared.step.Step.{Step}
use Rattle.machine_steps.specs.Executing.{executes}
use Rattle.machine_steps.specs.Moves.{Moves}
use Rattle.machine_steps.specs.Runs.{IsFormed}
use Rattle.machine_objects.specs.Taking.{Takes, access_form}
use Rattle.machine_objects.proofs.Asked.{breaks_moves}
use Rattle.machine_objects.proofs.Back.{back_to, on_err, if_err, if_ok}
use Rattle.machine_objects.proofs.FieldMoves.{get_form, get_missing, get_moves}
use Rattle.machine_objects.proofs.fields.get_field.Goals as goal

pub returns-in_default-clause-moves : goal.returns-in_default-clause-moves
returns-in_default-clause-moves c =
    let r = reference_seen c.args.field in
    let kind = c.kind_in-kind.result in
    breaks_moves c.args.world.now c.args.state.now c.take_holder.new.state (FieldAccess Access.GetField r) (access_form Access.GetField r kind) (get_form r kind c.kind_in-kind.ensures) (c.in_default.ensures.taken r)

pub returns-in_default-instance_field-clause-formed : goal.returns-in_default-instance_field-clause-formed
returns-in_default-instance_field-clause-formed c =
    let r = reference_seen c.args.field in
    let old = c.args.state.now in
    let mid = c.take_holder.new.state in
    let form = access_form Access.GetField r c.kind_in-kind.result in
    let request = λ (n : Naming). GetField r (reference n c.in-Some.object) in
    let takes : Takes form request (c.reference_value.result ∷ []) old mid = subst (λ (v : Value). Takes form request (v ∷ []) old mid) (sym c.reference_value.ensures) (c.in-Some.ensures.taken r) in
    subst (λ (s : MachineState). IsFormed c.args.world.now s) (sym (back_to form request (c.reference_value.result ∷ []) old mid c.restore.new.state takes c.restore.ensures)) c.requires.formed

pub returns-in_default-instance_field-clause-moves : goal.returns-in_default-instance_field-clause-moves
returns-in_default-instance_field-clause-moves c =
    let k = c.args.world.now in
    let r = reference_seen c.args.field in
    let old = c.args.state.now in
    let mid = c.take_holder.new.state in
    let form = access_form Access.GetField r c.kind_in-kind.result in
    let request = λ (n : Naming). GetField r (reference n c.in-Some.object) in
    let takes : Takes form request (c.reference_value.result ∷ []) old mid = subst (λ (v : Value). Takes form request (v ∷ []) old mid) (sym c.reference_value.ensures) (c.in-Some.ensures.taken r) in
    if_ok c.missing_member.result _ (λ step. Moves k old c.restore.new.state step (executes (FieldAccess Access.GetField r)))
    (λ step e. subst (λ (s : Step). Moves k old c.restore.new.state s (executes (FieldAccess Access.GetField r))) (sym e)
    (get_missing k old mid c.restore.new.state r c.kind_in-kind.result c.kind_in-kind.ensures c.in-Some.object (c.reference_value.result ∷ []) takes (c.in_default-instance_field.ensures.none refl)))
    c.missing_member.ensures

pub returns-in_default-instance_field-clause-err : goal.returns-in_default-instance_field-clause-err
returns-in_default-instance_field-clause-err c =
    let r = reference_seen c.args.field in
    let old = c.args.state.now in
    let mid = c.take_holder.new.state in
    let form = access_form Access.GetField r c.kind_in-kind.result in
    let request = λ (n : Naming). GetField r (reference n c.in-Some.object) in
    let takes : Takes form request (c.reference_value.result ∷ []) old mid = subst (λ (v : Value). Takes form request (v ∷ []) old mid) (sym c.reference_value.ensures) (c.in-Some.ensures.taken r) in
    on_err c.missing_member.result (back_to form request (c.reference_value.result ∷ []) old mid c.restore.new.state takes c.restore.ensures)

pub follow-requires-clause-lacking : goal.follow-requires-clause-lacking
follow-requires-clause-lacking c =
    let r = reference_seen c.args.field in
    let old = c.args.state.now in
    let mid = c.take_holder.new.state in
    let form = access_form Access.GetField r c.kind_in-kind.result in
    let request = λ (n : Naming). GetField r (reference n c.in-Some.object) in
    let takes : Takes form request (c.reference_value.result ∷ []) old mid = subst (λ (v : Value). Takes form request (v ∷ []) old mid) (sym c.reference_value.ensures) (c.in-Some.ensures.taken r) in
    record { before = old; from = takes.from }

pub returns-clause-moves : goal.returns-clause-moves
returns-clause-moves c =
    let k = c.args.world.now in
    let r = reference_seen c.args.field in
    let old = c.args.state.now in
    let mid = c.take_holder.new.state in
    let form = access_form Access.GetField r c.kind_in-kind.result in
    let request = λ (n : Naming). GetField r (reference n c.in-Some.object) in
    let takes : Takes form request (c.reference_value.result ∷ []) old mid = subst (λ (v : Value). Takes form request (v ∷ []) old mid) (sym c.reference_value.ensures) (c.in-Some.ensures.taken r) in
    let found = c.in-Some-instance_field.found in
    if_ok c.follow.result _ (λ step. Moves k old c.follow.new.state step (executes (FieldAccess Access.GetField r)))
    (λ step follows. get_moves k old mid c.follow.new.state r c.kind_in-kind.result c.kind_in-kind.ensures c.in-Some.object (c.reference_value.result ∷ []) takes step c.read-reply.result found.class.0 found.position
    c.in-Some-instance_field.ensures.found c.read-reply.ensures follows)
    c.follow.ensures.moves

pub returns-clause-err : goal.returns-clause-err
returns-clause-err c =
    let r = reference_seen c.args.field in
    let old = c.args.state.now in
    let mid = c.take_holder.new.state in
    let form = access_form Access.GetField r c.kind_in-kind.result in
    let request = λ (n : Naming). GetField r (reference n c.in-Some.object) in
    let takes : Takes form request (c.reference_value.result ∷ []) old mid = subst (λ (v : Value). Takes form request (v ∷ []) old mid) (sym c.reference_value.ensures) (c.in-Some.ensures.taken r) in
    if_err c.follow.result (λ put. back_to form request (c.reference_value.result ∷ []) old mid c.follow.new.state takes put) c.follow.ensures.err
