use Rattle.std.proofs.Common.{sym, ap, subst, arith}
use Rattle.machine_values.specs.Things.{Things}
use Rattle.machine_requests.proofs.Fills.{stored_filled}
use Rattle.machine_requests.specs.Objects.{AreFilled}
use Rattle.machine_rules.specs.Fields.{field_named, Writes}
use Rattle.machine_rules.proofs.HiddenWork.{written_elsewhere, written_nowhere, written_short, reference_written, before_stay}
use Rattle.machine_rules.proofs.fields.write_reference.Goals as goal

pub returns-in_default-clause-written : goal.returns-in_default-clause-written
returns-in_default-clause-written c =
    written_elsewhere c.args.world.now c.args.heap.now c.args.at (field_named c.args.field) c.args.value c.requires.known (sym c.in_default.ensures.class)

pub returns-in_default-position_of-clause-written : goal.returns-in_default-position_of-clause-written
returns-in_default-position_of-clause-written c =
    written_nowhere c.args.world.now c.args.heap.now c.args.at (field_named c.args.field) c.args.value c.requires.known c.in-Some.class.0 (sym c.in-Some.ensures.class) c.in_default-position_of.ensures (omega (arith, c.len-count.ensures, c.len-count.type_inv))

pub returns-else-index-count-clause-written : goal.returns-else-index-count-clause-written
returns-else-index-count-clause-written c =
    written_short c.args.world.now c.args.heap.now c.args.at (field_named c.args.field) c.args.value c.requires.known c.in-Some.class.0 c.in-Some-position_of.index (sym c.in-Some.ensures.class) c.in-Some-position_of.ensures
    (omega (arith, c.len-count.ensures, c.if-index-count.false))

pub returns-then-index-count-clause-written : goal.returns-then-index-count-clause-written
returns-then-index-count-clause-written c =
    subst (λ (after : Things). Writes c.args.world.now c.args.heap.now c.args.at (field_named c.args.field) c.args.value after) (sym c.store.ensures)
    (reference_written c.args.world.now c.args.heap.now c.args.at (field_named c.args.field) c.args.value c.requires.known c.in-Some.class.0 c.in-Some-position_of.index (sym c.in-Some.ensures.class) c.in-Some-position_of.ensures
    c.requires.field c.requires.settled (omega (arith, c.len-count.ensures, c.if-index-count.true)))

pub returns-then-index-count-clause-names : goal.returns-then-index-count-clause-names
returns-then-index-count-clause-names c = ap (λ (t : Things). t.names) c.store.ensures

pub returns-then-index-count-clause-before : goal.returns-then-index-count-clause-before
returns-then-index-count-clause-before c = before_stay c.args.heap.now c.store.new.self c.args.at _ c.store.ensures

pub returns-then-index-count-clause-filled : goal.returns-then-index-count-clause-filled
returns-then-index-count-clause-filled c s filled =
    subst (λ (after : Things). AreFilled after s) (sym c.store.ensures)
    (stored_filled c.args.heap.now c.args.at.0 c.in-Some-position_of.index c.args.value (omega (arith, c.len-count.ensures, c.if-index-count.true)) s filled)
