use Rattle.std.specs.Prelude.{[], ◌∷◌, ℕ, List, ℤ}
use Rattle.std.proofs.Common.{subst}
use Rattle.std.specs.Int.{w32}
use Rattle.std.proofs.lemmas.Int.{to_z-of_z}
use Rattle.class_machine.specs.Effect.{MakeArray}
use Rattle.machine_values.specs.Types.{type_name}
use Rattle.machine_requests.specs.Replies.{IsAnswer}
use Rattle.machine_objects.proofs.Back.{if_ok}
use Rattle.machine_objects.proofs.arrays.make.Goals as goal

pub returns-clause-ok : goal.returns-clause-ok
returns-clause-ok c =
    if_ok c.make_array.result _ _
    (λ reply h others named.
    subst (λ (t : List ℕ). IsAnswer c.args.heap.now others (λ s names. MakeArray named t (c.args.size ∷ [])) c.make_array.new.heap others reply) c.in_ok-named.ensures.named
    (subst (λ (i : ℤ). IsAnswer c.args.heap.now others (λ s names. MakeArray named (type_name c.in_ok-named.named) (i ∷ [])) c.make_array.new.heap others reply) (to_z-of_z w32 c.args.size c.ranges.size) (h others named)))
    c.make_array.ensures.ok
