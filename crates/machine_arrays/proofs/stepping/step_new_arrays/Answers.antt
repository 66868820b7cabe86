use Rattle.std.proofs.Common.{◌≡◌, ◌∙◌, List, ℤ, length, sym, ap, subst, arith}
use Rattle.std.specs.Prelude.{Option, MatchOption}
use Rattle.std.specs.Global.{Vec}
use Rattle.machine_values.specs.declared.observed.Ending.TheVariants.{Broken}
use Rattle.machine_steps.specs.declared.step.Step.TheVariants.{Ended}
use Rattle.machine_steps.specs.Moves.{Moves}
use Rattle.machine_arrays.specs.Stepping.{LacksSizes, TakesSizes, asks}
use Rattle.machine_arrays.proofs.Asked.{fitting, unfit, lacking, executed}
use Rattle.machine_arrays.proofs.Descriptors.{dims_some, dims_few}
use Rattle.machine_arrays.proofs.Taken.{taken_many}
use Rattle.machine_arrays.proofs.stepping.step_new_arrays.Goals as goal

pub returns-then-not-has_dimensions-clause-moves : goal.returns-then-not-has_dimensions-clause-moves
returns-then-not-has_dimensions-clause-moves c =
    unfit c.args.world.now c.args.state.now c.args.state.now c.args.named.now c.args.dims (sym c.has_dimensions.ensures ∙ c.if-not-has_dimensions.true)

pub returns-in_default-clause-moves : goal.returns-in_default-clause-moves
returns-in_default-clause-moves c =
    let old = c.args.state.now in
    let mid = c.take_sizes.new.state in
    fitting c.args.world.now old mid (Ended Broken) c.args.named.now c.args.dims (sym c.has_dimensions.ensures ∙ c.if-not-has_dimensions.false)
    (lacking c.args.world.now old mid c.args.named.now c.args.dims
    (subst (λ (o : Option (Vec ℤ)). MatchOption o (LacksSizes c.args.dims old) (λ xs. TakesSizes c.args.dims old xs.items mid)) c.in_default.is c.in_ok-sizes.ensures.taken))

pub new_arrays-requires-clause-some : goal.new_arrays-requires-clause-some
new_arrays-requires-clause-some c =
    let old = c.args.state.now in
    let mid = c.take_sizes.new.state in
    let h : TakesSizes c.args.dims old c.in-Some.sizes.items mid =
    subst (λ (o : Option (Vec ℤ)). MatchOption o (LacksSizes c.args.dims old) (λ xs. TakesSizes c.args.dims old xs.items mid)) c.in-Some.is c.in_ok-sizes.ensures.taken in
    let many = taken_many c.args.dims old c.in-Some.sizes.items mid h in
    let some = dims_some c.args.dims c.args.named.now (sym c.has_dimensions.ensures ∙ c.if-not-has_dimensions.false) in
    let same : length c.as_slice.result.now ≡ length c.in-Some.sizes.items = ap length c.as_slice.ensures.value in
    omega arith

pub new_arrays-requires-clause-deep : goal.new_arrays-requires-clause-deep
new_arrays-requires-clause-deep c =
    let old = c.args.state.now in
    let mid = c.take_sizes.new.state in
    let h : TakesSizes c.args.dims old c.in-Some.sizes.items mid =
    subst (λ (o : Option (Vec ℤ)). MatchOption o (LacksSizes c.args.dims old) (λ xs. TakesSizes c.args.dims old xs.items mid)) c.in-Some.is c.in_ok-sizes.ensures.taken in
    let many = taken_many c.args.dims old c.in-Some.sizes.items mid h in
    let few = dims_few c.args.dims c.args.named.now (sym c.has_dimensions.ensures ∙ c.if-not-has_dimensions.false) in
    let same : length c.as_slice.result.now ≡ length c.in-Some.sizes.items = ap length c.as_slice.ensures.value in
    omega arith

pub returns-in-Ok-clause-moves : goal.returns-in-Ok-clause-moves
returns-in-Ok-clause-moves c =
    let old = c.args.state.now in
    let mid = c.take_sizes.new.state in
    fitting c.args.world.now old c.new_arrays.new.state c.in-Ok.step c.args.named.now c.args.dims (sym c.has_dimensions.ensures ∙ c.if-not-has_dimensions.false)
    (executed c.args.world.now old mid c.new_arrays.new.state c.in-Ok.step c.args.named.now c.args.dims c.in-Some.sizes.items
    (subst (λ (o : Option (Vec ℤ)). MatchOption o (LacksSizes c.args.dims old) (λ xs. TakesSizes c.args.dims old xs.items mid)) c.in-Some.is c.in_ok-sizes.ensures.taken)
    (subst (λ (xs : List ℤ). Moves c.args.world.now mid c.new_arrays.new.state c.in-Ok.step (asks c.args.named.now xs)) c.as_slice.ensures.value c.in-Ok.ensures.moves))
