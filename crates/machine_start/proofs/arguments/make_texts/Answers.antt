use Rattle.std.proofs.Common.{◌+◌, List, [], ◌∷◌, ℕ, ap, sym, ◌∙◌, subst, arith, take, length, length-append}
use Rattle.std.specs.Prelude.{map}
use Rattle.std.proofs.lemmas.List.{take_all}
use Rattle.class_machine.specs.Start.{Text}
use Rattle.machine_start.specs.Arguments.{MakesValue, MakesValues}
use Rattle.machine_start.proofs.Made.{kept_none, kept_both, none_made, next_made}
use Rattle.machine_start.proofs.arguments.make_texts.Goals as goal

pub loop-text-init : goal.loop-text-init
loop-text-init c = record {
  made = subst (MakesValues c.args.world.now c.args.heap.now [] c.args.heap.now) (sym c.new-values.ensures) (none_made c.args.world.now c.args.heap.now);
  many = ap length c.new-values.ensures;
  kept = kept_none c.args.heap.now;
}

pub loop-text-preserved : goal.loop-text-preserved
loop-text-preserved c =
    let k = c.args.world.now in
    let i = c.loop-text.text-index in
    let text = c.text-item.result in
    let vs = c.loop-text.values in
    let v = c.in_ok-value.value in
    let made = subst (λ (units : List ℕ). MakesValue k c.loop-text.heap (Text units) c.make_text.new.heap v) c.as_slice.ensures c.in_ok-value.ensures.made in
    record {
      made = subst (MakesValues k c.args.heap.now (map Text (take (i + 1) c.args.texts.now)) c.make_text.new.heap) (sym c.in_ok-push.ensures.ok)
          (next_made k c.args.heap.now c.loop-text.heap c.make_text.new.heap Text c.args.texts.now i text text vs v c.loop-text-test.true c.text-item.is c.loop-text.invariant.made made);
      many = ap length c.in_ok-push.ensures.ok ∙ (let n = length-append vs (v ∷ []) in let so_far = c.loop-text.invariant.many in omega arith);
      kept = kept_both c.args.heap.now c.loop-text.heap c.make_text.new.heap c.loop-text.invariant.kept c.in_ok-value.ensures.kept;
    }

pub returns-clause-made : goal.returns-clause-made
returns-clause-made c =
    subst (λ (ts : List (List ℕ)). MakesValues c.args.world.now c.args.heap.now (map Text ts) c.loop-text.heap c.loop-text.values) (take_all c.loop-text.text-index c.args.texts.now (omega arith)) c.loop-text.invariant.made

pub returns-clause-many : goal.returns-clause-many
returns-clause-many c = let so_far = c.loop-text.invariant.many in omega arith
