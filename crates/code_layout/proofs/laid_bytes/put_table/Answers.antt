use Rattle.std.proofs.Common.{rules, ◌-◌, length, get_or, pos, arith, ◌∙◌}
use Rattle.std.specs.Prelude.{FitsSigned}
use Rattle.std.specs.Int.{w32}
use Rattle.std.proofs.lemmas.Int.{to_z-of_z}
use Rattle.code_layout.specs.Spelled.{way}
use Rattle.code_layout.proofs.Putting.{on_ok, table_is}
use Rattle.code_layout.proofs.laid_bytes.put_table.Goals as goal

pub returns : goal.returns
returns c =
    let fits : FitsSigned w32 c.way.result = search rules in
    let low : FitsSigned w32 (get_or c.args.keys.now 0 (pos 0)) = search rules in
    let high : FitsSigned w32 (get_or c.args.keys.now (length c.args.keys.now - 1) (pos 0)) = search rules in
    on_ok c.put_ways.result (table_is (way c.args.places.now c.args.pc) c.args.out.now.items _ _ _ _ c.args.keys.now c.args.to.now _ _ _ c.requires.keys c.requires.each
    (to_z-of_z w32 c.way.result fits ∙ c.way.ensures) (to_z-of_z w32 (get_or c.args.keys.now 0 (pos 0)) low) (to_z-of_z w32 (get_or c.args.keys.now (length c.args.keys.now - 1) (pos 0)) high)
    c.in_ok-put_word.ensures c.in_ok-put_word-2.ensures c.in_ok-put_word-3.ensures) c.put_ways.ensures
