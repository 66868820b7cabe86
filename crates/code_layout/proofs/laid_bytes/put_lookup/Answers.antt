use Rattle.std.proofs.Common.{rules, ◌≡◌, length, pos, arith, ◌∙◌}
use Rattle.std.specs.Prelude.{FitsSigned}
use Rattle.std.specs.Int.{w32, cast_signed}
use Rattle.std.proofs.lemmas.Int.{to_z-of_z, to_z_pos}
use Rattle.code_layout.specs.Spelled.{way}
use Rattle.code_layout.proofs.Putting.{on_ok, lookup_is}
use Rattle.code_layout.proofs.laid_bytes.put_lookup.Goals as goal

pub returns : goal.returns
returns c =
    let fits : FitsSigned w32 c.way.result = search rules in
    let count : cast_signed w32 (length c.args.keys.now) ≡ pos (length c.args.keys.now) = to_z_pos w32 (length c.args.keys.now) (omega arith) in
    on_ok c.put_pairs.result (lookup_is (way c.args.places.now c.args.pc) c.args.out.now.items _ _ _ c.args.keys.now c.args.to.now _ _ c.requires.each
    (to_z-of_z w32 c.way.result fits ∙ c.way.ensures) count
    c.in_ok-put_word.ensures c.in_ok-put_word-2.ensures) c.put_pairs.ensures
