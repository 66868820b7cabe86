-- No more than the limit is kept.
use Rattle.std.proofs.Common.{◌≤◌, vec_len}
use Rattle.aj_outside.proofs.folder_shelves.read_first.Given as goal

abbrev pub invariant-loop : goal.invariant-loop
invariant-loop g l = vec_len l.bytes ≤ l.limit
