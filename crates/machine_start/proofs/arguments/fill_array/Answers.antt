use Rattle.std.proofs.Common.{◌≡◌, ◌<◌, List, ℕ, ap, sym, ◌∙◌, subst, arith, length}
use Rattle.std.specs.Prelude.{slice_set, refl}
use Rattle.machine_values.specs.declared.names.Name.{Name}
use Rattle.machine_values.specs.declared.content.Content.TheVariants.{Values}
use Rattle.machine_values.specs.declared.values.Value.{Value}
use Rattle.machine_values.specs.Things.{Things, changed, values_at}
use Rattle.machine_requests.specs.Objects.{AreFilled}
use Rattle.machine_requests.proofs.Fills.{stored_filled}
use Rattle.machine_start.proofs.Nulls.{so_far, all_put, unchanged, put_again, nulls_there, as_many_still}
use Rattle.machine_start.proofs.arguments.fill_array.Goals as goal

pub loop-index-init : goal.loop-index-init
loop-index-init c = record {
  many = c.len-count.ensures;
  names = refl;
  filled = λ s filled. filled;
  is = λ nulls. unchanged c.args.heap.now c.args.at.0 (Values (so_far c.args.values.now 0)) nulls;
}

pub store-requires-clause-known : goal.store-requires-clause-known
store-requires-clause-known c = subst (λ (names : List Name). c.args.at.0 < length names) (sym c.loop-index.invariant.names) c.requires

pub store-requires-clause-within : goal.store-requires-clause-within
store-requires-clause-within c = let many = c.loop-index.invariant.many in let below = c.loop-index-test.true in omega arith

pub loop-index-preserved : goal.loop-index-preserved
loop-index-preserved c =
    let before = c.args.heap.now in
    let now = c.loop-index.heap in
    let at = c.args.at.0 in
    let i = c.loop-index.index in
    let vs = c.args.values.now in
    let v = c.in-Some.value.now in
    let there = c.in-Some.ensures.lookup in
    let within : i < length (values_at now at) = let many = c.loop-index.invariant.many in let below = c.loop-index-test.true in omega arith in
    record {
      many = c.loop-index.invariant.many ∙ sym (as_many_still now at i v within) ∙ ap (λ (h : Things). length (values_at h at)) (sym c.store.ensures);
      names = ap (λ (h : Things). h.names) c.store.ensures ∙ c.loop-index.invariant.names;
      filled = λ s filled. subst (λ (h : Things). AreFilled h s) (sym c.store.ensures) (stored_filled now at i v within s (c.loop-index.invariant.filled s filled));
      is = λ nulls.
          c.store.ensures ∙ ap (λ (h : Things). changed h at (Values (slice_set (values_at h at) i v))) (c.loop-index.invariant.is nulls)
          ∙ put_again before at (Values (so_far vs 0)) vs i v v nulls there.3.0 there.1;
    }

pub returns-in_default-clause-elements : goal.returns-in_default-clause-elements
returns-in_default-clause-elements c nulls =
    let past = c.in_default.ensures.lookup.3 in
    let all = nulls_there c.args.heap.now c.args.at.0 c.args.values.now nulls in
    let count = c.len-count.ensures in
    let below = c.loop-index-test.true in
    absurd (omega arith)

pub returns-clause-elements : goal.returns-clause-elements
returns-clause-elements c nulls =
    let all = nulls_there c.args.heap.now c.args.at.0 c.args.values.now nulls in
    let count = c.len-count.ensures in
    let end : c.loop-index.index ≡ length c.args.values.now = omega (arith, c.loop-index-test.false, c.loop-index.auto.index-end) in
    c.loop-index.invariant.is nulls
    ∙ ap (λ (n : ℕ). changed c.args.heap.now c.args.at.0 (Values (so_far c.args.values.now n))) end
    ∙ ap (λ (vs : List Value). changed c.args.heap.now c.args.at.0 (Values vs)) (all_put c.args.values.now)
