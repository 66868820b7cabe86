use mir.Val.{to_z, of_z}
use mir.Syntax.{w32}
use Rattle.std.proofs.Common.{rules, ◌≡◌, ℕ, ◌+◌, ◌-◌, List, ◌∷◌, ℤ, pos, length, take, drop, get_or, sym, ap, ◌∙◌, subst, arith}
use Rattle.aj_names.specs.declared.types.FieldType.{FieldType}
use Rattle.class_machine.specs.Answers.{size_of}
use Rattle.machine_values.specs.Things.{Things}
use Rattle.machine_arrays.specs.Made.{Makes, KeepsFilled}
use Rattle.machine_arrays.proofs.Lists.{first_and_others, no_items, some_others}
use Rattle.machine_arrays.proofs.Filling.{Filling, extends_both, extends_within, made_filled, one_made, filling_first, filling_extends, filling_within, within_there, filling_next, all_filled, all_kept}
use Rattle.machine_arrays.proofs.making.+put_arrays.Goals as goal

abbrev inner_of : List ℤ → List ℤ
inner_of sizes = take (length sizes - 1) (drop 1 sizes)

pub returns-then-is_empty-clause-made : goal.returns-then-is_empty-clause-made
returns-then-is_empty-clause-made t c =
    let before = c.args.heap.now in
    let sizes = c.args.sizes.now in
    let size = get_or sizes 0 (pos 0) in
    let same : to_z w32 (of_z w32 (get_or c.args.sizes.now 0 (pos 0))) ≡ get_or c.args.sizes.now 0 (pos 0) = search rules in
    subst (λ (l : List ℤ). Makes before c.make_array.new.self c.args.class.now l c.in_ok-at.at) (sym (first_and_others sizes (pos 0) c.requires.some))
    (subst (λ (p : ℕ × Things). Makes before p.1 c.args.class.now (size ∷ inner_of sizes) (record { 0 = p.0 })) (sym c.in_ok-at.ensures.ok)
    (one_made before c.args.class.now c.size_of-count.result c.requires.array c.requires.whole (inner_of sizes) size (c.size_of-count.ensures ∙ ap size_of same) (no_items (inner_of sizes) (sym c.if-is_empty.ensures))))

pub returns-then-is_empty-clause-filled : goal.returns-then-is_empty-clause-filled
returns-then-is_empty-clause-filled t c s =
    subst (λ (p : ℕ × Things). KeepsFilled c.args.heap.now p.1 s) (sym c.in_ok-at.ensures.ok) (made_filled c.args.heap.now c.args.class.now _ s c.requires.array)

pub filling-init : goal.filling-init
filling-init t c =
    let before = c.args.heap.now in
    let sizes = c.args.sizes.now in
    let deep = some_others sizes c.requires.some (sym c.if-is_empty.ensures) in
    subst (λ (p : ℕ × Things). Filling before c.args.class.now (inner_of sizes) c.size_of-count.result 0 p.0 p.1) (sym c.in_ok-at.ensures.ok)
    (filling_first before c.args.class.now c.size_of-count.result c.requires.array c.requires.whole (inner_of sizes) (omega (arith, deep, c.requires.deep)))

pub returns-in_err-array-clause-extends : goal.returns-in_err-array-clause-extends
returns-in_err-array-clause-extends t c =
    extends_both c.args.heap.now c.filling.heap c.put_arrays.new.heap
    (filling_extends c.args.heap.now c.filling.heap c.args.class.now (inner_of c.args.sizes.now) c.size_of-count.result c.filling.index c.in_ok-at.at.0 c.requires.whole c.filling.invariant) c.put_arrays.ensures.extends

pub store-requires-clause-known : goal.store-requires-clause-known
store-requires-clause-known t c =
    extends_within c.filling.heap c.put_arrays.new.heap c.in_ok-at.at.0 c.put_arrays.ensures.extends
    (filling_within c.args.heap.now c.filling.heap c.args.class.now (inner_of c.args.sizes.now) c.size_of-count.result c.filling.index c.in_ok-at.at.0 c.requires.whole c.filling.invariant)

pub store-requires-clause-within : goal.store-requires-clause-within
store-requires-clause-within t c =
    within_there c.args.heap.now c.filling.heap c.args.class.now (inner_of c.args.sizes.now) c.size_of-count.result c.filling.index c.in_ok-at.at.0 c.requires.whole c.filling.invariant c.put_arrays.new.heap c.put_arrays.ensures.extends c.filling-test.true

pub filling-preserved : goal.filling-preserved
filling-preserved t c =
    let before = c.args.heap.now in
    let now = c.filling.heap in
    let mid = c.put_arrays.new.heap in
    let sizes = c.args.sizes.now in
    let class = c.args.class.now in
    let deep = some_others sizes c.requires.some (sym c.if-is_empty.ensures) in
    subst (Filling before class (inner_of sizes) c.size_of-count.result (c.filling.index + 1) c.in_ok-at.at.0) (sym c.store.ensures)
    (filling_next before now class (inner_of sizes) c.size_of-count.result c.filling.index c.in_ok-at.at.0 c.requires.whole c.filling.invariant mid c.put_arrays.ensures.extends c.in_ok-array.array (c.filling.index + 1)
    c.in_ok-array.ensures.within (omega (arith, deep, c.requires.deep)) (subst (λ (e : FieldType). Makes now mid e (inner_of sizes) c.in_ok-array.array) c.in_ok-element.ensures c.in_ok-array.ensures.made) c.in_ok-array.ensures.filled c.filling-test.true (omega arith))

pub returns-clause-made : goal.returns-clause-made
returns-clause-made t c =
    let before = c.args.heap.now in
    let sizes = c.args.sizes.now in
    let size = get_or sizes 0 (pos 0) in
    let same : to_z w32 (of_z w32 (get_or c.args.sizes.now 0 (pos 0))) ≡ get_or c.args.sizes.now 0 (pos 0) = search rules in
    subst (λ (l : List ℤ). Makes before c.filling.heap c.args.class.now l c.in_ok-at.at) (sym (first_and_others sizes (pos 0) c.requires.some))
    (all_filled before c.filling.heap c.args.class.now size (inner_of sizes) c.size_of-count.result c.filling.index c.in_ok-at.at.0 c.filling.invariant (omega (arith, c.filling-test.false, c.filling.auto.index-end)) (c.size_of-count.ensures ∙ ap size_of same))

pub returns-clause-within : goal.returns-clause-within
returns-clause-within t c = filling_within c.args.heap.now c.filling.heap c.args.class.now (inner_of c.args.sizes.now) c.size_of-count.result c.filling.index c.in_ok-at.at.0 c.requires.whole c.filling.invariant

pub returns-clause-filled : goal.returns-clause-filled
returns-clause-filled t c = all_kept c.args.heap.now c.filling.heap c.args.class.now (inner_of c.args.sizes.now) c.size_of-count.result c.filling.index c.in_ok-at.at.0 c.filling.invariant

pub returns-clause-extends : goal.returns-clause-extends
returns-clause-extends t c = filling_extends c.args.heap.now c.filling.heap c.args.class.now (inner_of c.args.sizes.now) c.size_of-count.result c.filling.index c.in_ok-at.at.0 c.requires.whole c.filling.invariant
