use Rattle.std.proofs.Common.{true, length, Bool, sym, ◌∙◌, ap, subst}
use Rattle.std.specs.Prelude.{ℤ, Option, Some, slice_set}
use Rattle.std.specs.Option.{option_copied}
use Rattle.std.specs.Int.{w32}
use Rattle.std.proofs.lemmas.Int.{to_z-of_z}
use Rattle.class_machine.specs.Effect.{ArrayStore}
use Rattle.class_machine.specs.Answers.{serves}
use Rattle.class_machine.specs.declared.kinds.Element.{Element}
use Rattle.class_machine.specs.declared.kinds.Fault.{Fault}
use Rattle.machine_values.specs.declared.values.Ref.{Ref}
use Rattle.machine_values.specs.declared.values.Value.{Value}
use Rattle.machine_values.specs.declared.content.Content.TheVariants.{Values}
use Rattle.machine_values.specs.States.{is_known_object}
use Rattle.machine_values.specs.Standing.{held}
use Rattle.machine_values.specs.Things.{Things, changed, values_at}
use Rattle.machine_requests.specs.declared.reply.Reply.TheVariants.{Done, Faults, Refuses}
use Rattle.machine_requests.specs.Arrays.{index_in, kept_value, Holds}
use Rattle.machine_requests.specs.Replies.{IsAnswerWhere, object}
use Rattle.machine_requests.specs.Objects.{AreFilled}
use Rattle.machine_requests.proofs.Fills.{stored_filled}
use Rattle.machine_requests.proofs.Stores.{index_below, store_refused, store_unserved, store_outside, stored_wrong, stored_done}
use Rattle.machine_requests.proofs.arrays.array_store.Goals as goal

pub returns-in_default-array_type-clause-answer : goal.returns-in_default-array_type-clause-answer
returns-in_default-array_type-clause-answer c others =
    let things = c.args.heap.now in
    let at = c.in-Some.at in
    let v = c.args.value in
    subst (λ (a : Option Ref). IsAnswerWhere (Holds things a v c.args.fits) things others (λ s names. ArrayStore c.args.element (object s names a) c.args.index (held s.heads names v)) things others (Refuses)) (sym c.in-Some.is)
    (store_refused (Holds things (Some at) v c.args.fits) things others c.args.element at c.args.index v (sym (ap (is_known_object (length things.names)) c.in-Some.is) ∙ c.requires.known) (sym c.array_type.ensures ∙ ap option_copied c.in_default-array_type.is))

pub returns-then-not-serves-clause-answer : goal.returns-then-not-serves-clause-answer
returns-then-not-serves-clause-answer c others =
    let things = c.args.heap.now in
    let at = c.in-Some.at in
    let v = c.args.value in
    subst (λ (a : Option Ref). IsAnswerWhere (Holds things a v c.args.fits) things others (λ s names. ArrayStore c.args.element (object s names a) c.args.index (held s.heads names v)) things others (Refuses)) (sym c.in-Some.is)
    (store_unserved (Holds things (Some at) v c.args.fits) things others c.args.element at c.args.index v c.in-Some-array_type.class.now (sym (ap (is_known_object (length things.names)) c.in-Some.is) ∙ c.requires.known) (sym c.array_type.ensures ∙ ap option_copied c.in-Some-array_type.is) (ap (serves c.args.element) (sym c.array_element-held.ensures) ∙ sym c.serves.ensures ∙ c.if-not-serves.true))

pub returns-in_default-index_in-clause-answer : goal.returns-in_default-index_in-clause-answer
returns-in_default-index_in-clause-answer c others =
    let things = c.args.heap.now in
    let at = c.in-Some.at in
    let v = c.args.value in
    subst (λ (a : Option Ref). IsAnswerWhere (Holds things a v c.args.fits) things others (λ s names. ArrayStore c.args.element (object s names a) c.args.index (held s.heads names v)) things others (Faults Fault.ArrayIndex)) (sym c.in-Some.is)
    (store_outside (Holds things (Some at) v c.args.fits) things others c.args.element at c.args.index v c.in-Some-array_type.class.now (sym (ap (is_known_object (length things.names)) c.in-Some.is) ∙ c.requires.known) (sym c.array_type.ensures ∙ ap option_copied c.in-Some-array_type.is) (ap (serves c.args.element) (sym c.array_element-held.ensures) ∙ sym c.serves.ensures ∙ c.if-not-serves.false) (ap (index_in c.args.index) (sym c.len.ensures) ∙ ap (λ (i : ℤ). index_in i c.len.result) (sym (to_z-of_z w32 c.args.index c.ranges.index)) ∙ sym c.index_in.ensures ∙ c.in_default-index_in.is))

pub returns-then-not-fits-clause-answer : goal.returns-then-not-fits-clause-answer
returns-then-not-fits-clause-answer c others =
    let things = c.args.heap.now in
    let at = c.in-Some.at in
    let v = c.args.value in
    subst (λ (a : Option Ref). IsAnswerWhere (Holds things a v c.args.fits) things others (λ s names. ArrayStore c.args.element (object s names a) c.args.index (held s.heads names v)) things others (Faults Fault.ArrayStore)) (sym c.in-Some.is)
    (subst (λ (b : Bool). IsAnswerWhere (Holds things (Some at) v b) things others (λ s names. ArrayStore c.args.element (object s names (Some at)) c.args.index (held s.heads names v)) things others (Faults Fault.ArrayStore)) (sym c.if-not-fits.true)
    (stored_wrong things others c.args.element at c.args.index v c.in-Some-array_type.class.now c.in-Some-index_in.place (sym (ap (is_known_object (length things.names)) c.in-Some.is) ∙ c.requires.known) (sym c.array_type.ensures ∙ ap option_copied c.in-Some-array_type.is) (ap (serves c.args.element) (sym c.array_element-held.ensures) ∙ sym c.serves.ensures ∙ c.if-not-serves.false) (ap (index_in c.args.index) (sym c.len.ensures) ∙ ap (λ (i : ℤ). index_in i c.len.result) (sym (to_z-of_z w32 c.args.index c.ranges.index)) ∙ sym c.index_in.ensures ∙ c.in-Some-index_in.is)))

pub returns-clause-answer : goal.returns-clause-answer
returns-clause-answer c others =
    let things = c.args.heap.now in
    let at = c.in-Some.at in
    let v = c.args.value in
    let class = c.in-Some-array_type.class.now in
    subst (λ (a : Option Ref). IsAnswerWhere (Holds things a v c.args.fits) things others (λ s names. ArrayStore c.args.element (object s names a) c.args.index (held s.heads names v)) c.store.new.self others (Done)) (sym c.in-Some.is)
    (subst (λ (b : Bool). IsAnswerWhere (Holds things (Some at) v b) things others (λ s names. ArrayStore c.args.element (object s names (Some at)) c.args.index (held s.heads names v)) c.store.new.self others Done) (sym c.if-not-fits.false)
    (subst (λ (after : Things). IsAnswerWhere (Holds things (Some at) v true) things others (λ s names. ArrayStore c.args.element (object s names (Some at)) c.args.index (held s.heads names v)) after others Done)
    (ap (λ (x : Value). changed things at.0 (Values (slice_set (values_at things at.0) c.in-Some-index_in.place x))) (ap (λ (e : Element). kept_value e v) (sym c.array_element-held.ensures) ∙ sym c.kept_value.ensures) ∙ sym c.store.ensures)
    (stored_done things others c.args.element at c.args.index v class c.in-Some-index_in.place (sym (ap (is_known_object (length things.names)) c.in-Some.is) ∙ c.requires.known) (sym c.array_type.ensures ∙ ap option_copied c.in-Some-array_type.is) (ap (serves c.args.element) (sym c.array_element-held.ensures) ∙ sym c.serves.ensures ∙ c.if-not-serves.false) (ap (index_in c.args.index) (sym c.len.ensures) ∙ ap (λ (i : ℤ). index_in i c.len.result) (sym (to_z-of_z w32 c.args.index c.ranges.index)) ∙ sym c.index_in.ensures ∙ c.in-Some-index_in.is) c.requires.settled)))

pub returns-clause-filled : goal.returns-clause-filled
returns-clause-filled c s filled =
    let things = c.args.heap.now in
    let at = c.in-Some.at in
    subst (λ (after : Things). AreFilled after s) (sym c.store.ensures)
    (stored_filled things at.0 c.in-Some-index_in.place c.kept_value.result
    (index_below c.args.index (length (values_at things at.0)) c.in-Some-index_in.place
    (ap (index_in c.args.index) (sym c.len.ensures) ∙ ap (λ (i : ℤ). index_in i c.len.result) (sym (to_z-of_z w32 c.args.index c.ranges.index)) ∙ sym c.index_in.ensures ∙ c.in-Some-index_in.is)) s filled)
