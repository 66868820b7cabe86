use Rattle.std.proofs.Common.{◌≡◌, length}
use Rattle.std.specs.Prelude.{Some, replicate, slice_get}
use Rattle.machine_values.specs.declared.content.Content.TheVariants.{Values}
use Rattle.machine_values.specs.declared.values.Value.TheVariants.{Null}
use Rattle.machine_values.specs.Things.{changed, values_at}
use Rattle.machine_requests.specs.Objects.{AreFilled}
use Rattle.machine_requests.specs.Shares.{Setting}
use Rattle.machine_start.proofs.Nulls.{so_far}
use Rattle.machine_start.proofs.arguments.fill_array.Given as goal

-- those so far, and null for the rest
abbrev pub invariant-loop-index : goal.invariant-loop-index
invariant-loop-index l = record {
  many : l.count ≡ length (values_at l.heap l.at.0);
  names : l.heap.names ≡ l.fn.heap.names;
  filled : (s : Setting) → AreFilled l.fn.heap s → AreFilled l.heap s;
  is : slice_get l.fn.heap.contents l.at.0 ≡ Some (Values (replicate (length l.values) Null)) → l.heap ≡ changed l.fn.heap l.at.0 (Values (so_far l.values l.index));
}
