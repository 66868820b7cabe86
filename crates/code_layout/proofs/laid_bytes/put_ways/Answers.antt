use Rattle.std.proofs.Common.{rules, arith, ◌∙◌}
use Rattle.std.specs.Prelude.{FitsSigned}
use Rattle.std.specs.Int.{w32}
use Rattle.std.proofs.lemmas.Int.{to_z-of_z}
use Rattle.code_layout.specs.Spelled.{way}
use Rattle.code_layout.proofs.Putting.{words_more}
use Rattle.code_layout.proofs.laid_bytes.put_ways.Goals as goal

pub loop-row-preserved : goal.loop-row-preserved
loop-row-preserved c =
    let fits : FitsSigned w32 c.way.result = search rules in
    words_more (way c.args.places.now c.args.pc) c.args.out.now.items c.loop-row.out.items _ c.args.to.now c.loop-row.row-index _ (omega arith) c.loop-row.invariant (to_z-of_z w32 c.way.result fits ∙ c.way.ensures) c.in_ok-put_word.ensures
