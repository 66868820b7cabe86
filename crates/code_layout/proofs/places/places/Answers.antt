use Rattle.std.proofs.Common.{ℕ, List, [], ◌∷◌, ◌++◌, arith, ap, ◌∙◌}
use Rattle.code_layout.proofs.Placing.{places_begin, places_more}
use Rattle.code_layout.proofs.places.places.Goals as goal

pub loop-i-init : goal.loop-i-init
loop-i-init c = places_begin c.args.rows.now c.args.wide.now _ (c.in_ok-push.ensures.items ∙ ap (λ (l : List ℕ). l ++ 0 ∷ []) c.new-places.ensures.items)

pub loop-i-preserved : goal.loop-i-preserved
loop-i-preserved c =
    places_more c.args.rows.now c.args.wide.now c.loop-i.places.items _ c.loop-i.i c.loop-i.pc c.in-Some.end c.index-rows-i.result (omega arith) c.index-rows-i.is c.loop-i.invariant c.in-Some.ensures c.in_ok-push-2.ensures.items
