-- Each turn puts one file, and keeps the order.
use Rattle.std.proofs.Common.{◌≡◌, map, ap, sym, ◌∙◌, rules}
use Rattle.std.specs.Vec.Iter.{into_iter_items}
use Rattle.aj_outside.specs.Files.{put_each}
use Rattle.aj_outside.specs.Stored.{stored_files}
use Rattle.aj_outside.proofs.Entries.{stored-none, stored-more, ordered-none, ordered-insert}
use Rattle.aj_outside.proofs.memory_shelves.store.Goals as goal

pub loop-name-init : goal.loop-name-init
loop-name-init c =
    let all : into_iter_items c.into_iter-name-iterator.result ≡ c.args.files.items = search rules in
    record { left = stored-none _ _ _ c.new-stored.ensures.empty all; ordered = ordered-none _ c.new-stored.ensures.empty }

pub loop-name-preserved-in_ok-insert : goal.loop-name-preserved-in_ok-insert
loop-name-preserved-in_ok-insert c =
    let before = ap (λ left. put_each (stored_files c.loop-name.stored.entries) (map (λ file. (file.0, file.1.items)) left)) (sym c.in-Some.ensures.steps.0) ∙ c.loop-name.invariant.left in
    record {
      left = stored-more _ _ _ _ _ (map (λ file. (file.0, file.1.items)) (into_iter_items c.next.new.self)) _ c.in_ok-insert.ensures.entries c.into_string.ensures.text before;
      ordered = ordered-insert _ _ _ _ c.in_ok-insert.ensures.entries c.loop-name.invariant.ordered;
    }

pub loop-name-preserved : goal.loop-name-preserved
loop-name-preserved c =
    let before = ap (λ left. put_each (stored_files c.loop-name.stored.entries) (map (λ file. (file.0, file.1.items)) left)) (sym c.in-Some.ensures.steps.0) ∙ c.loop-name.invariant.left in
    record {
      left = stored-more _ _ _ _ _ (map (λ file. (file.0, file.1.items)) (into_iter_items c.next.new.self)) _ c.in_ok-insert.ensures.entries c.into_string.ensures.text before;
      ordered = ordered-insert _ _ _ _ c.in_ok-insert.ensures.entries c.loop-name.invariant.ordered;
    }
