use Rattle.std.proofs.Common.{◌≡◌, ℤ, ◌≤ℤ◌, ◌<ℤ◌, ◌-ℤ◌, sym, ◌∙◌, refl, arith, rules, subst}
use Rattle.std.specs.Int.{w32}
use Rattle.std.specs.Prelude.{FitsSigned, unsigned_abs}
use Rattle.std.proofs.lemmas.Int.{ints, to_z-of_z}
use Rattle.opcode_table.specs.Decoding.{table_low, table_high}
use Rattle.machine_code.proofs.KeyTargets.{in_range, below_range, above_range, same_range}
use Rattle.machine_code.proofs.switches.range_target.Goals as goal
use Rattle.machine_code.proofs.switches.range_target.Goals.{else-low-key-via-then-low-key+else-key-table_high, else-low-key-via-else-low-key}

pub returns-then-key-table_high : goal.returns-then-key-table_high
returns-then-key-table_high c =
    let low = c.table_low-low.result in
    let high = c.table_high.result in
    let key_fits : FitsSigned w32 c.args.key = c.ranges.key in
    let low_fits : FitsSigned w32 low = search rules in
    let high_fits : FitsSigned w32 high = search rules in
    let above : low ≤ℤ c.args.key = grind (arith, ints) in
    let below : c.args.key ≤ℤ high = grind (arith, ints) in
    let is : c.abs_diff.result ≡ unsigned_abs (c.args.key -ℤ low) = simp to_z-of_z at c.abs_diff.ensures in
    sym (in_range low high c.args.key c.abs_diff.result above below is)
    ∙ same_range low (table_low c.args.code.now c.args.table) high (table_high c.args.code.now c.args.table) c.args.key c.table_low-low.ensures c.table_high.ensures

pub returns-else-low-key : goal.returns-else-low-key
returns-else-low-key c =
    let low = c.table_low-low.result in
    let key_fits : FitsSigned w32 c.args.key = c.ranges.key in
    let low_fits : FitsSigned w32 low = search rules in
    elim c.else-low-key.branch [
      | else-low-key-via-then-low-key+else-key-table_high w ↦
          let high = w.table_high.result in
          let high_fits : FitsSigned w32 high = search rules in
          let order : low ≤ℤ high = subst (λ (l : ℤ). l ≤ℤ high) (sym c.table_low-low.ensures) (subst (λ (h : ℤ). table_low c.args.code.now c.args.table ≤ℤ h) (sym w.table_high.ensures) c.requires.there.order) in
          let over : high <ℤ c.args.key = grind (arith, ints) in
          sym (above_range low high c.args.key order over)
          ∙ same_range low (table_low c.args.code.now c.args.table) high (table_high c.args.code.now c.args.table) c.args.key c.table_low-low.ensures w.table_high.ensures
      | else-low-key-via-else-low-key w ↦
          let high = table_high c.args.code.now c.args.table in
          let under : c.args.key <ℤ low = grind (arith, ints) in
          sym (below_range low high c.args.key under)
          ∙ same_range low (table_low c.args.code.now c.args.table) high high c.args.key c.table_low-low.ensures refl
    ]
