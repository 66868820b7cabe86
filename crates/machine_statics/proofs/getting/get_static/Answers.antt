use Rattle.std.proofs.Common.{not, Option, refl, sym, ap, ◌∙◌, subst}
use Rattle.class_file.specs.Lookup.{reference_seen}
use Rattle.class_heads.specs.Hierarchy.{name_at}
use Rattle.class_machine.specs.declared.kinds.Access.TheVariants as access
use Rattle.class_machine.specs.Classes.{member_text}
use Rattle.class_machine.specs.Operations.{FieldAccess}
use Rattle.class_machine.specs.Turn.{Needs, missing_member}
use Rattle.machine_values.specs.declared.state.MachineState.{MachineState}
use Rattle.machine_values.specs.Things.{Things}
use Rattle.machine_invocations.proofs.Begun.{on_err}
use Rattle.machine_invocations.specs.Keeping.{Keeps, keeps_runs}
use Rattle.machine_statics.specs.declared.fields.StaticField.{StaticField}
use Rattle.machine_statics.specs.StaticFields.{FindsStatic, Reads}
use Rattle.machine_statics.proofs.Classes.{is_field}
use Rattle.machine_statics.proofs.Initials.{keeps_initial, initial_there}
use Rattle.machine_statics.proofs.Kept.{keeps_equal, keeps_both}
use Rattle.machine_statics.proofs.Linked.{get_needs, quiet_get}
use Rattle.machine_statics.proofs.Tops.{get_tells}
use Rattle.machine_statics.proofs.Triggered.{breaks, refuses, goes_up, goes_on}
use Rattle.machine_statics.proofs.getting.get_static.Goals as goal

pub returns-then-not-has_room-clause-moves : goal.returns-then-not-has_room-clause-moves
returns-then-not-has_room-clause-moves c =
    let k = c.args.world.now in
    let old = c.args.state.now in
    let r = reference_seen c.args.field in
    breaks k old (FieldAccess access.GetStatic r) old (λ m left t f below is runs top.
    get_tells k old c.has_room.result r c.kind_in.result c.kind_in.ensures c.has_room.ensures m left t f below is runs top ∙ ap not c.if-not-has_room.true)

pub returns-in_default-clause-moves : goal.returns-in_default-clause-moves
returns-in_default-clause-moves c =
    let k = c.args.world.now in
    let old = c.args.state.now in
    let r = reference_seen c.args.field in
    refuses k old (FieldAccess access.GetStatic r) old c.in_ok-name.name (member_text r)
    (λ m left t f below is runs top. get_tells k old c.has_room.result r c.kind_in.result c.kind_in.ensures c.has_room.ensures m left t f below is runs top ∙ ap not c.if-not-has_room.false)
    (λ m f is. get_needs m f k is r (missing_member r) (subst (λ (o : Option StaticField). FindsStatic k r o) c.in_default.is c.find_static.ensures))
    (c.in_ok-name.ensures r.member.descriptor)

pub returns-in_err-initial-clause-err : goal.returns-in_err-initial-clause-err
returns-in_err-initial-clause-err c =
    let old = c.args.state.now in
    let mid : MachineState = record old { heap = c.initial_value.new.heap } in
    on_err c.from_residual-in_err-initial.result (keeps_equal c.args.world.now old mid (ap (λ (h : Things). record old { heap = h }) c.in_err-initial.ensures.err))

pub returns-in_err-pending-clause-err : goal.returns-in_err-pending-clause-err
returns-in_err-pending-clause-err c =
    let k = c.args.world.now in
    let old = c.args.state.now in
    let mid : MachineState = record old { heap = c.initial_value.new.heap } in
    let st = c.in-Some.ensures in
    on_err c.from_residual-in_err-pending.result
    (keeps_both k old mid c.begin.new.state
    (keeps_initial k c.requires.runnable old c.initial_value.new.heap c.in_ok-initial.initial st.head st.field c.initial_value.ensures.names
    (λ others w d shares. c.in_ok-initial.ensures.initial st.head st.field others w st.stands c.in-Some-find_output.ensures d shares) c.in_ok-initial.ensures.filled mid refl)
    c.in_err-pending.ensures.err)

pub returns-then-pending-clause-moves : goal.returns-then-pending-clause-moves
returns-then-pending-clause-moves c =
    let k = c.args.world.now in
    let old = c.args.state.now in
    let r = reference_seen c.args.field in
    let mid : MachineState = record old { heap = c.initial_value.new.heap } in
    let st = c.in-Some.ensures in
    let s = c.in-Some.found in
    let keeps : Keeps k old mid =
    keeps_initial k c.requires.runnable old c.initial_value.new.heap c.in_ok-initial.initial st.head st.field c.initial_value.ensures.names
    (λ others w d shares. c.in_ok-initial.ensures.initial st.head st.field others w st.stands c.in-Some-find_output.ensures d shares) c.in_ok-initial.ensures.filled mid refl in
    goes_up k old (FieldAccess access.GetStatic r) mid c.begin.new.state (name_at k.heads s.class.0)
    (λ m left t f below is runs top. get_tells k old c.has_room.result r c.kind_in.result c.kind_in.ensures c.has_room.ensures m left t f below is runs top ∙ ap not c.if-not-has_room.false)
    (λ m f is. get_needs m f k is r (Needs (name_at k.heads s.class.0)) st.needs)
    (keeps_runs k old mid keeps) c.in_ok-pending.pending c.if-pending.true (λ m left t is runs. c.in_ok-pending.ensures.begun m left t is runs)

pub returns-clause-moves : goal.returns-clause-moves
returns-clause-moves c =
    let k = c.args.world.now in
    let old = c.args.state.now in
    let r = reference_seen c.args.field in
    let heap = c.initial_value.new.heap in
    let mid : MachineState = record old { heap = heap } in
    let begun = c.begin.new.state in
    let st = c.in-Some.ensures in
    let s = c.in-Some.found in
    let v = c.in_ok-initial.initial in
    let e = c.element_of-element.result in
    let keeps : Keeps k old mid =
    keeps_initial k c.requires.runnable old heap v st.head st.field c.initial_value.ensures.names
    (λ others w d shares. c.in_ok-initial.ensures.initial st.head st.field others w st.stands c.in-Some-find_output.ensures d shares) c.in_ok-initial.ensures.filled mid refl in
    goes_on k old (FieldAccess access.GetStatic r) mid begun (name_at k.heads s.class.0)
    (λ m left t f below is runs top. get_tells k old c.has_room.result r c.kind_in.result c.kind_in.ensures c.has_room.ensures m left t f below is runs top ∙ ap not c.if-not-has_room.false)
    (λ m f is. get_needs m f k is r (Needs (name_at k.heads s.class.0)) st.needs)
    (keeps_runs k old mid keeps) c.in_ok-pending.pending c.if-pending.false (λ m left t is runs. c.in_ok-pending.ensures.begun m left t is runs)
    c.read.new.state c.read.result (Reads r s.id.0 e begun.heap v)
    (λ m left t f below is runs top.
    let there = initial_there k c.requires.runnable old heap v st.head st.field c.initial_value.ensures.names
    (λ others w d shares. c.in_ok-initial.ensures.initial st.head st.field others w st.stands c.in-Some-find_output.ensures d shares) c.in_ok-initial.ensures.filled
    m left t is runs s.id.0 (st.named m is) begun.heap (ap (λ (x : MachineState). x.heap) c.begin.ensures.rest) in
    record { element = sym c.element_of-element.ensures; field = is_field k r s st m is e c.element_of-element.ensures; starts = there.0; settled = there.1 })
    (λ m w f. quiet_get m f w r) (c.read.ensures.moves r)
