use Rattle.std.proofs.Common.{length, take, slice_index, ℕ, List, ap, ◌∙◌, arith}
use Rattle.machine_requests.proofs.monitors.reach.Goals as goal

pub returns-in-Err-clause-counts : goal.returns-in-Err-clause-counts
returns-in-Err-clause-counts c place =
    ap (λ (l : List ℕ). slice_index l place) (c.cut.ensures ∙ ap (λ (n : ℕ). take n c.add_counts.new.monitors) c.len-count.ensures ∙ c.add_counts.ensures.begin)

pub returns-in-Err-clause-within : goal.returns-in-Err-clause-within
returns-in-Err-clause-within c = omega (arith, ap length (c.cut.ensures ∙ ap (λ (n : ℕ). take n c.add_counts.new.monitors) c.len-count.ensures ∙ c.add_counts.ensures.begin))

pub returns-in-Err-clause-err : goal.returns-in-Err-clause-err
returns-in-Err-clause-err c = c.cut.ensures ∙ ap (λ (n : ℕ). take n c.add_counts.new.monitors) c.len-count.ensures ∙ c.add_counts.ensures.begin
