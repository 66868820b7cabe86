use Rattle.std.proofs.Common.{sym, ap, ◌∙◌, arith}
use Rattle.std.specs.Prelude.{Bool, if◌then◌else◌, None}
use Rattle.class_heads.specs.Hierarchy.{place_of, object_name}
use Rattle.machine_invocations.proofs.ArrayTypes.{array_members, not_array}
use Rattle.machine_invocations.proofs.search.class_of_array.Goals as goal

pub returns-then-class-eq0-clause-place : goal.returns-then-class-eq0-clause-place
returns-then-class-eq0-clause-place c array = not_array c.args.class.now c.if-class-eq0.true array

pub returns-then-not-is_known_base-clause-place : goal.returns-then-not-is_known_base-clause-place
returns-then-not-is_known_base-clause-place c array =
    let k = c.args.world.now in
    sym (array_members k c.args.class.now (omega arith) array ∙ ap (λ (b : Bool). if b then place_of k.heads object_name else None) (sym c.is_known_base.ensures ∙ c.if-not-is_known_base.true))

pub returns-clause-place : goal.returns-clause-place
returns-clause-place c array =
    let k = c.args.world.now in
    c.object_class.ensures.place ∙ sym (array_members k c.args.class.now (omega arith) array ∙ ap (λ (b : Bool). if b then place_of k.heads object_name else None) (sym c.is_known_base.ensures ∙ c.if-not-is_known_base.false))
