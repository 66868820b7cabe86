use Rattle.std.proofs.Common.{rules, ◌++◌, List, ℕ, get_or, pos, arith, ap, sym, append-nil, ◌∙◌}
use Rattle.std.specs.Prelude.{FitsSigned}
use Rattle.std.specs.Int.{w32}
use Rattle.std.proofs.lemmas.Int.{to_z-of_z}
use Rattle.code_layout.specs.Spelled.{way}
use Rattle.code_layout.proofs.Putting.{pairs_more, no_pairs}
use Rattle.code_layout.proofs.laid_bytes.put_pairs.Goals as goal

pub loop-i-init : goal.loop-i-init
loop-i-init c = sym (ap (λ (l : List ℕ). c.args.out.now.items ++ l) (no_pairs c.args.keys.now) ∙ append-nil c.args.out.now.items)

pub loop-i-preserved : goal.loop-i-preserved
loop-i-preserved c =
    let key : FitsSigned w32 (get_or c.args.keys.now c.loop-i.i (pos 0)) = search rules in
    let fits : FitsSigned w32 c.way.result = search rules in
    pairs_more (way c.args.places.now c.args.pc) c.args.out.now.items c.loop-i.out.items _ _ c.args.keys.now c.args.to.now c.loop-i.i _ _ (omega arith) c.requires.each c.loop-i.invariant
    (to_z-of_z w32 (get_or c.args.keys.now c.loop-i.i (pos 0)) key) (to_z-of_z w32 c.way.result fits ∙ c.way.ensures) c.in_ok-put_word.ensures c.in_ok-put_word-2.ensures
