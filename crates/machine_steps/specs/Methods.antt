-- Numbers of methods.
use Rattle.std.specs.Prelude.{ℕ, ◌<◌}
use Rattle.std.specs.List.{sum}
use Rattle.std.proofs.Common.{arith}
use Rattle.std.proofs.lemmas.List.Sums.{sum_by_more_le}
use Rattle.class_heads.specs.Numbers.{number_of, IsNumbered, method_counts}
use Rattle.class_world.specs.Tables.{Known}
use Rattle.machine_code.specs.FirstLaws.{first_is_numbered}
use Rattle.machine_steps.specs.Runs.{IsMethod}

-- the number of a method is less than how many there are
pub method_within : (k : Known) (number : ℕ) → IsMethod k number → number < sum (method_counts k.heads)
method_within k number method =
    let numbered : IsNumbered (method_counts k.heads) (number_of (method_counts k.heads) method.place) method.place = first_is_numbered k.heads method.place method.first in
    let most = sum_by_more_le (λ x. x) (method_counts k.heads) method.place.class 0 numbered.known in
    omega (arith, numbered.within, method.numbered, most)
