-- What is listed, with the paths that are left, is what all paths make.
use Rattle.std.proofs.Common.{◌≡◌, ◌≤◌, ◌++◌, map, vec_len}
use Rattle.aj_outside.proofs.Joined.{joined}
use Rattle.aj_outside.proofs.folder_shelves.first_names.Given as goal

abbrev pub invariant-loop-rest : goal.invariant-loop-rest
invariant-loop-rest l = record {
  left : l.listed.items ++ map (joined l.folder) l.rest-iterator ≡ map (joined l.folder) l.rests.keys;
  few : vec_len l.listed ≤ l.most;
}
