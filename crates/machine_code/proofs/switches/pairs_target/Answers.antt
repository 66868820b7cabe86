use Rattle.std.proofs.Common.{◌≡◌, ℕ, ◌<◌, sym, ap, ◌∙◌, arith, below_more, subst, rules}
use Rattle.std.specs.Int.{w32, cast_signed, cast_unsigned}
use Rattle.std.specs.Prelude.{FitsSigned}
use Rattle.std.proofs.lemmas.Int.{to_z-of_z}
use Rattle.opcode_table.specs.Decoding.{pair_count, pair_key}
use Rattle.machine_code.proofs.KeyTargets.{numbered_found, numbered_none}
use Rattle.machine_code.proofs.switches.pairs_target.Goals as goal

pub returns-then-pair_key-key : goal.returns-then-pair_key-key
returns-then-pair_key-key c =
    let fits : FitsSigned w32 c.pair_key.result = search rules in
    let key_is = to_z-of_z w32 c.args.key c.ranges.key in
    let same : c.pair_key.result ≡ c.args.key = sym (to_z-of_z w32 c.pair_key.result fits) ∙ ap (cast_signed w32) c.if-pair_key-key.true ∙ key_is in
    let within = subst (λ (n : ℕ). c.loop-i.i < n) c.pair_count-i-end.ensures c.loop-i-test.true in
    sym (numbered_found (pair_count c.args.code.now c.args.table) (pair_key c.args.code.now c.args.table) c.args.key c.loop-i.i within (sym c.pair_key.ensures ∙ same)
    (λ j before is. c.loop-i.invariant j before (is ∙ sym key_is)))

pub loop-i-preserved : goal.loop-i-preserved
loop-i-preserved c =
    let key_is = to_z-of_z w32 c.args.key c.ranges.key in
    below_more _ _ c.loop-i.invariant (λ is. c.if-pair_key-key.false (ap (cast_unsigned w32) (c.pair_key.ensures ∙ is ∙ key_is)))

pub returns : goal.returns
returns c =
    let key_is = to_z-of_z w32 c.args.key c.ranges.key in
    let past = c.loop-i-test.false in
    let all : c.loop-i.i ≡ pair_count c.args.code.now c.args.table = (let e : c.loop-i.i ≡ c.pair_count-i-end.result = omega arith in e) ∙ c.pair_count-i-end.ensures in
    sym (numbered_none (pair_count c.args.code.now c.args.table) (pair_key c.args.code.now c.args.table) c.args.key
    (λ j within is. c.loop-i.invariant j (subst (λ (n : ℕ). j < n) (sym all) within) (is ∙ sym key_is)))
