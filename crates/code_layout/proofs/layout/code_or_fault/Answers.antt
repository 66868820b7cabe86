use Rattle.std.proofs.Common.{◌≡◌, ◌∙◌, ap, refl, arith, sym, subst, ℕ, List, length, get_or}
use Rattle.code_layout.specs.declared.row.Row.{Row}
use Rattle.code_layout.specs.Blocks.{rows}
use Rattle.code_layout.specs.Places.{AreWidened}
use Rattle.code_layout.specs.Laid.{IsLength, PassesEntries}
use Rattle.code_layout.specs.Spelled.{AreRows, ArePlaces}
use Rattle.code_layout.proofs.Layable.{are_rows}
use Rattle.code_layout.proofs.Whole.{is_length}
use Rattle.code_layout.proofs.layout.code_or_fault.Goals as goal

pub widened-requires : goal.widened-requires
widened-requires c = subst AreRows (sym (c.as_slice-2.ensures.value ∙ c.in_ok-rows.ensures.rows)) (are_rows c.args.blocks.now c.requires.each)

pub returns-then-count-gt-MOST-clause-fault : goal.returns-then-count-gt-MOST-clause-fault
returns-then-count-gt-MOST-clause-fault c =
    let all = c.as_slice-2.result.now in
    let is : all ≡ rows c.args.blocks.now = c.as_slice-2.ensures.value ∙ c.in_ok-rows.ensures.rows in
    let length_is : IsLength c.args.blocks.now (get_or c.in_ok-layout.layout.places.items (length all) 0) =
    is_length c.args.blocks.now all c.in_ok-layout.layout.wide.items c.in_ok-layout.layout.places.items _ is c.in_ok-layout.ensures.widened c.in_ok-layout.ensures.places refl in
    let n : length all ≡ c.len.result = c.as_slice-2.ensures.len ∙ sym c.len.ensures in
    let here : get_or c.in_ok-layout.layout.places.items (length all) 0 ≡ get_or c.as_slice-3.result.now c.len.result 0 =
    ap (λ (l : List ℕ). get_or l (length all) 0) (sym c.as_slice-3.ensures.value) ∙ ap (λ (m : ℕ). get_or c.as_slice-3.result.now m 0) n in
    record { length = get_or c.in_ok-layout.layout.places.items (length all) 0; is = length_is; fits = omega (arith, here, c.if-length-gt-MOST.false); count = c.in-Some.ensures; many = omega arith }
