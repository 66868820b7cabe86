use Rattle.std.proofs.Common.{ℕ, ◌+◌, List, length, sym, ◌∙◌, ap, drop, arith, length-drop, ◌≡◌}
use Rattle.class_heads.specs.Hierarchy.{type_of_descriptor}
use Rattle.machine_fields.specs.Types.{arrays}
use Rattle.machine_fields.proofs.TypeParts.{array_step, array_has}
use Rattle.machine_fields.proofs.types.type_named.Goals as goal

pub loop-rest-preserved : goal.loop-rest-preserved
loop-rest-preserved c =
    let array = sym c.is_array-in-loop-rest.ensures ∙ c.loop-rest-test.true in
    let some = array_has c.loop-rest.rest.now array in
    let shorter = length-drop 1 c.loop-rest.rest.now in
    let size : length c.behind_first-rest.result.now ≡ length (drop 1 c.loop-rest.rest.now) = ap (length {A = ℕ}) c.behind_first-rest.ensures in
    record {
      same = array_step (type_of_descriptor c.args.name.now) c.loop-rest.rest.now c.loop-rest.dims array c.loop-rest.invariant.same
          ∙ ap (λ (l : List ℕ). arrays (c.loop-rest.dims + 1) (type_of_descriptor l)) (sym c.behind_first-rest.ensures);
      whole = omega arith;
    }
