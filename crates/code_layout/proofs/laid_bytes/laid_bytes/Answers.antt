use Rattle.std.proofs.Common.{◌≡◌, ℕ, List, length, take, arith, ap, ◌∙◌}
use Rattle.std.proofs.lemmas.List.{take_all}
use Rattle.code_layout.specs.declared.row.Row.{Row}
use Rattle.code_layout.specs.Spelled.{bytes_from, place_in}
use Rattle.code_layout.proofs.Settling.{can_stand, bytes_more, bytes_are}
use Rattle.code_layout.proofs.laid_bytes.laid_bytes.Goals as goal

pub put_row-requires : goal.put_row-requires
put_row-requires c = can_stand c.args.rows.now c.args.wide.now c.args.places.now c.loop-i.i c.index-rows-i.result c.requires.are c.requires.widened c.requires.places c.requires.small (omega arith) c.index-rows-i.is

pub loop-i-preserved : goal.loop-i-preserved
loop-i-preserved c = bytes_more (place_in c.args.places.now) c.loop-i.i c.args.rows.now c.args.wide.now c.index-rows-i.result c.loop-i.out.items _ (omega arith) c.index-rows-i.is c.loop-i.invariant c.in_ok-put_row.ensures

pub returns : goal.returns
returns c =
    c.loop-i.invariant ∙ ap (λ (l : List Row). bytes_from (place_in c.args.places.now) 0 l c.args.wide.now) (take_all c.loop-i.i c.args.rows.now (omega arith)) ∙ bytes_are c.args.rows.now c.args.wide.now c.args.places.now c.requires.are c.requires.places
