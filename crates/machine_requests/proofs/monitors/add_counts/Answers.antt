use Rattle.std.proofs.Common.{length, take, slice_index, ℕ, List, [], ◌∷◌, sym, ◌∙◌, ap, refl, arith, length-append}
use Rattle.std.proofs.Math.Seq.{take-length}
use Rattle.std.proofs.lemmas.List.{take-append-le}
use Rattle.machine_requests.proofs.Counts.{zero_pushed}
use Rattle.machine_requests.proofs.monitors.add_counts.Goals as goal

pub loop-missing-init : goal.loop-missing-init
loop-missing-init c = record { counts = λ n. refl; len = sym c.len-missing.ensures; few = omega arith; least = omega arith; begin = take-length c.args.monitors.now }

pub loop-missing-preserved : goal.loop-missing-preserved
loop-missing-preserved c = record {
  counts = λ n. ap (λ (l : List ℕ). slice_index l n) c.in_ok-push.ensures.ok ∙ zero_pushed c.loop-missing.monitors n ∙ c.loop-missing.invariant.counts n;
  len = omega (arith, ap length c.in_ok-push.ensures.ok, length-append c.loop-missing.monitors (0 ∷ []), c.loop-missing.invariant.len);
  few = omega (arith, ap length c.in_ok-push.ensures.ok, length-append c.loop-missing.monitors (0 ∷ []), c.loop-missing.invariant.len, c.loop-missing-test.true);
  least = omega (arith, ap length c.in_ok-push.ensures.ok, length-append c.loop-missing.monitors (0 ∷ []), c.loop-missing.invariant.least);
  begin = ap (take (length c.args.monitors.now)) c.in_ok-push.ensures.ok ∙ take-append-le (length c.args.monitors.now) c.loop-missing.monitors (0 ∷ []) c.loop-missing.invariant.least ∙ c.loop-missing.invariant.begin;
}

pub returns-in_err-push-clause-counts : goal.returns-in_err-push-clause-counts
returns-in_err-push-clause-counts c n = ap (λ (l : List ℕ). slice_index l n) c.in_err-push.ensures.err ∙ c.loop-missing.invariant.counts n

pub returns-in_err-push-clause-within : goal.returns-in_err-push-clause-within
returns-in_err-push-clause-within c = omega (arith, ap length c.in_err-push.ensures.err, c.loop-missing.invariant.len)

pub returns-in_err-push-clause-begin : goal.returns-in_err-push-clause-begin
returns-in_err-push-clause-begin c = ap (take (length c.args.monitors.now)) c.in_err-push.ensures.err ∙ c.loop-missing.invariant.begin
