use Rattle.std.proofs.Common.{◌≡◌, ◌-◌, ◌<◌, ℕ, List, false, length, drop, sym, ap, ◌∙◌, subst, arith, length-drop}
use Rattle.std.proofs.lemmas.List.{length-map}
use Rattle.class_machine.specs.Descriptors.{kind_in, types_in}
use Rattle.machine_code.specs.TypeLengths.{type_length}
use Rattle.machine_code.proofs.TypeKinds.{kinds, no_kinds, one_less}
use Rattle.machine_code.proofs.descriptors.parameter_count.Goals as goal
use Rattle.machine_code.proofs.descriptors.parameter_count.Goals.{After-behind_first-rest}

some-type : (c : After-behind_first-rest) → 0 < type_length c.types.rest.now
some-type c = subst (λ (n : ℕ). 0 < n) c.type_length.ensures.length c.types-test.true

shorter : (c : After-behind_first-rest) → length c.behind_first-rest.result.now < length c.types.rest.now
shorter c =
    let some = some-type c in
    let within = c.type_length.ensures.within in
    let here = c.type_length.ensures.length in
    let len : length c.behind_first-rest.result.now ≡ length c.types.rest.now - type_length c.types.rest.now = ap length c.behind_first-rest.ensures ∙ length-drop (type_length c.types.rest.now) c.types.rest.now in
    omega arith

pub types-preserved : goal.types-preserved
types-preserved c =
    let less = one_less c.types.rest.now (some-type c) in
    let same : length (kinds c.behind_first-rest.result.now) ≡ length (kinds (drop (type_length c.types.rest.now) c.types.rest.now)) = ap (λ (bytes : List ℕ). length (kinds bytes)) c.behind_first-rest.ensures in
    let counted = c.types.invariant.counted in
    let fits = c.types.invariant.fits in
    let short = shorter c in
    record {
      counted = omega arith;
      fits = omega arith;
    }

pub types-smaller : goal.types-smaller
types-smaller c = shorter c

pub returns : goal.returns
returns c =
    let none : type_length c.types.rest.now ≡ 0 = sym c.type_length.ensures.length ∙ (let past = c.types-test.false in let e : c.type_length.result ≡ 0 = omega arith in e) in
    let left : length (kinds c.types.rest.now) ≡ 0 = ap length (no_kinds c.types.rest.now none) in
    let counted = c.types.invariant.counted in
    let all : c.types.count ≡ length (kinds (drop 1 c.args.descriptor.now)) = omega arith in
    all ∙ length-map (types_in false (drop 1 c.args.descriptor.now)) kind_in
