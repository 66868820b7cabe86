use Rattle.std.proofs.Common.{◌≡◌, length, Bool, List, ◌∙◌, ap, sym, subst}
use Rattle.code_layout.specs.Places.{widen_from}
use Rattle.code_layout.specs.Spelled.{ArePlaces, place_in}
use Rattle.code_layout.proofs.Rounds.{rounds_begin, rounds_end, rounds_more, round_smaller, round_by, round_length, none_wide}
use Rattle.code_layout.proofs.widening.widened.Goals as goal

pub loop-found-init : goal.loop-found-init
loop-found-init c = rounds_begin c.args.rows.now c.in_ok-wide.wide.items c.in_ok-found.found.items (none_wide c.args.rows.now c.in_ok-wide.wide.items c.in_ok-wide.ensures) (subst (λ (l : List Bool). ArePlaces c.args.rows.now l c.in_ok-found.found.items) c.as_slice.ensures.value c.in_ok-found.ensures.found)

pub returns-then-is_settled-clause-widened : goal.returns-then-is_settled-clause-widened
returns-then-is_settled-clause-widened c =
    let round = round_by c.args.rows.now _ _ _ _ _ c.in_ok-next.ensures c.as_slice-in-loop-found.ensures.value c.as_slice-in-loop-found-2.ensures.value in
    let same : c.in_ok-next.next.items ≡ c.loop-found.wide.items = sym c.as_slice-in-loop-found-3.ensures.value ∙ c.if-is_settled.ensures ∙ c.as_slice-in-loop-found-4.ensures.value in
    rounds_end c.args.rows.now c.loop-found.wide.items c.in_ok-next.next.items c.loop-found.found.items c.requires c.loop-found.invariant round same

pub places-requires-in-loop-found : goal.places-requires-in-loop-found
places-requires-in-loop-found c =
    ap length c.as_slice-in-loop-found-5.ensures.value ∙ round_length c.args.rows.now c.as_slice-in-loop-found-2.result.now _ c.as_slice-in-loop-found.result.now c.in_ok-next.ensures

pub loop-found-smaller : goal.loop-found-smaller
loop-found-smaller c =
    let round = round_by c.args.rows.now _ _ _ _ _ c.in_ok-next.ensures c.as_slice-in-loop-found.ensures.value c.as_slice-in-loop-found-2.ensures.value in
    round_smaller c.args.rows.now c.loop-found.wide.items c.in_ok-next.next.items c.loop-found.found.items c.loop-found.invariant.laid.flags round
    (λ same. c.if-is_settled.ensures (c.as_slice-in-loop-found-3.ensures.value ∙ same ∙ sym c.as_slice-in-loop-found-4.ensures.value))

pub loop-found-preserved : goal.loop-found-preserved
loop-found-preserved c =
    let round = round_by c.args.rows.now _ _ _ _ _ c.in_ok-next.ensures c.as_slice-in-loop-found.ensures.value c.as_slice-in-loop-found-2.ensures.value in
    rounds_more c.args.rows.now c.loop-found.wide.items c.in_ok-next.next.items c.loop-found.found.items c.in_ok-found-2.found.items c.requires c.loop-found.invariant round
    (subst (λ (l : List Bool). ArePlaces c.args.rows.now l c.in_ok-found-2.found.items) c.as_slice-in-loop-found-5.ensures.value c.in_ok-found-2.ensures.found)
