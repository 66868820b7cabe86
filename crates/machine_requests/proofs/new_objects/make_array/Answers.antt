use Rattle.std.proofs.Common.{[], ◌∷◌, ℕ, sym, ◌∙◌, subst}
use Rattle.std.specs.Prelude.{ℤ, pos}
use Rattle.std.specs.Int.{w32}
use Rattle.std.proofs.lemmas.Int.{to_z-of_z}
use Rattle.class_machine.specs.Effect.{MakeArray}
use Rattle.machine_values.specs.declared.values.Value.TheVariants.{Reference as Pointer}
use Rattle.machine_values.specs.Things.{Things}
use Rattle.machine_values.specs.Types.{type_name}
use Rattle.machine_requests.specs.declared.reply.Reply.TheVariants.{Gives}
use Rattle.machine_requests.specs.Replies.{IsAnswer}
use Rattle.std.specs.Prelude.{nat_lt}
use Rattle.std.proofs.lemmas.Bool.{and_parts}
use Rattle.machine_requests.specs.Telling.{is_plain_base}
use Rattle.machine_requests.specs.Objects.{StaysFilled}
use Rattle.machine_requests.proofs.Fills.{array_filled}
use Rattle.machine_requests.proofs.NewArrays.{array_made}
use Rattle.machine_requests.proofs.new_objects.make_array.Goals as goal

pub returns-clause-ok : goal.returns-clause-ok
returns-clause-ok c others named =
    let things = c.args.heap.now in
    let type = c.args.class.now in
    let count = c.size_of-count.result in
    subst (λ (i : ℤ). IsAnswer things others (λ s names. MakeArray named (type_name type) (i ∷ [])) c.make_array.new.self others (Gives (Pointer c.in_ok-at.at)))
    (c.size_of-count.ensures ∙ to_z-of_z w32 c.args.size c.ranges.size)
    (subst (λ (p : ℕ × Things). IsAnswer things others (λ s names. MakeArray named (type_name type) (pos count ∷ [])) p.1 others (Gives (Pointer (record { 0 = p.0 })))) (sym c.in_ok-at.ensures.ok)
    (array_made things others named type count c.requires))

pub returns-clause-filled : goal.returns-clause-filled
returns-clause-filled c s =
    subst (λ (p : ℕ × Things). StaysFilled c.args.heap.now p.1 s) (sym c.in_ok-at.ensures.ok)
    (array_filled c.args.heap.now c.args.class.now _ s (and_parts (is_plain_base c.args.class.now.base) (nat_lt 0 c.args.class.now.dims) c.requires).1)
