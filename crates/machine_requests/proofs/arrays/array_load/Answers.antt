use Rattle.std.proofs.Common.{length, sym, ◌∙◌, ap, subst}
use Rattle.std.specs.Prelude.{Option}
use Rattle.std.specs.Option.{option_copied}
use Rattle.class_machine.specs.Effect.{ArrayLoad}
use Rattle.machine_values.specs.declared.values.Ref.{Ref}
use Rattle.machine_values.specs.States.{is_known_object}
use Rattle.machine_requests.specs.declared.reply.Reply.TheVariants.{Gives, Faults, Refuses}
use Rattle.machine_requests.specs.Arrays.{index_in}
use Rattle.machine_requests.specs.Replies.{IsAnswer, object}
use Rattle.std.proofs.lemmas.Int.{to_z-of_z}
use Rattle.std.specs.Prelude.{ℤ}
use Rattle.std.specs.Int.{w32}
use Rattle.class_machine.specs.Answers.{serves}
use Rattle.class_machine.specs.declared.kinds.Fault.{Fault}
use Rattle.machine_requests.proofs.ArrayLaws.{load_refused, load_unserved, load_outside, load_given}
use Rattle.machine_requests.proofs.arrays.array_load.Goals as goal

pub returns-in_default-array_type : goal.returns-in_default-array_type
returns-in_default-array_type c others =
    let things = c.args.heap.now in
    subst (λ (a : Option Ref). IsAnswer things others (λ s names. ArrayLoad c.args.element (object s names a) c.args.index) things others Refuses) (sym c.in-Some.is)
    (load_refused things others c.args.element c.in-Some.at c.args.index (sym (ap (is_known_object (length things.names)) c.in-Some.is) ∙ c.requires)
    (sym c.array_type.ensures ∙ ap option_copied c.in_default-array_type.is))

pub returns-then-not-serves : goal.returns-then-not-serves
returns-then-not-serves c others =
    let things = c.args.heap.now in
    subst (λ (a : Option Ref). IsAnswer things others (λ s names. ArrayLoad c.args.element (object s names a) c.args.index) things others Refuses) (sym c.in-Some.is)
    (load_unserved things others c.args.element c.in-Some.at c.args.index c.in-Some-array_type.class.now (sym (ap (is_known_object (length things.names)) c.in-Some.is) ∙ c.requires)
    (sym c.array_type.ensures ∙ ap option_copied c.in-Some-array_type.is)
    (ap (serves c.args.element) (sym c.array_element.ensures) ∙ sym c.serves.ensures ∙ c.if-not-serves.true))

pub returns-in-Some-index_in : goal.returns-in-Some-index_in
returns-in-Some-index_in c others =
    let things = c.args.heap.now in
    let at = c.in-Some.at in
    subst (λ (a : Option Ref). IsAnswer things others (λ s names. ArrayLoad c.args.element (object s names a) c.args.index) things others (Gives c.load.result)) (sym c.in-Some.is)
    (load_given things others c.args.element at c.args.index c.in-Some-array_type.class.now c.in-Some-index_in.place c.load.result (sym (ap (is_known_object (length things.names)) c.in-Some.is) ∙ c.requires)
    (sym c.array_type.ensures ∙ ap option_copied c.in-Some-array_type.is)
    (ap (serves c.args.element) (sym c.array_element.ensures) ∙ sym c.serves.ensures ∙ c.if-not-serves.false)
    (ap (index_in c.args.index) (sym c.len.ensures) ∙ ap (λ (i : ℤ). index_in i c.len.result) (sym (to_z-of_z w32 c.args.index c.ranges.index)) ∙ sym c.index_in.ensures ∙ c.in-Some-index_in.is)
    c.load.ensures)

pub returns-in-None : goal.returns-in-None
returns-in-None c others =
    let things = c.args.heap.now in
    let at = c.in-Some.at in
    subst (λ (a : Option Ref). IsAnswer things others (λ s names. ArrayLoad c.args.element (object s names a) c.args.index) things others (Faults Fault.ArrayIndex)) (sym c.in-Some.is)
    (load_outside things others c.args.element at c.args.index c.in-Some-array_type.class.now (sym (ap (is_known_object (length things.names)) c.in-Some.is) ∙ c.requires)
    (sym c.array_type.ensures ∙ ap option_copied c.in-Some-array_type.is)
    (ap (serves c.args.element) (sym c.array_element.ensures) ∙ sym c.serves.ensures ∙ c.if-not-serves.false)
    (ap (index_in c.args.index) (sym c.len.ensures) ∙ ap (λ (i : ℤ). index_in i c.len.result) (sym (to_z-of_z w32 c.args.index c.ranges.index)) ∙ sym c.index_in.ensures ∙ c.in-None.is))
