use Rattle.std.proofs.Common.{◌≡◌, ◌∙◌, ap, rules, pos, ◌+ℤ◌, ℤ}
use Rattle.std.specs.Prelude.{FitsSigned}
use Rattle.std.specs.Int.{w32}
use Rattle.std.proofs.lemmas.Int.{to_z-of_z}
use Rattle.opcode_table.specs.Decoding.{table_low}
use Rattle.code_layout.proofs.Numbered.{numbered_push}
use Rattle.code_layout.proofs.jumps.table_keys.Goals as goal

pub loop-i-preserved : goal.loop-i-preserved
loop-i-preserved c =
    let key : FitsSigned w32 c.key_above.result = search rules in
    let low : FitsSigned w32 c.table_low-low.result = search rules in
    let is : c.key_above.result ≡ c.table_low-low.result +ℤ pos c.loop-i.i = simp to_z-of_z at c.key_above.ensures in
    numbered_push (λ i. table_low c.args.code.now c.args.table +ℤ pos i) c.loop-i.i c.loop-i.keys.items _ c.key_above.result (simp to_z-of_z at c.in_ok-push.ensures.items) c.loop-i.invariant (is ∙ ap (λ (n : ℤ). n +ℤ pos c.loop-i.i) c.table_low-low.ensures)
