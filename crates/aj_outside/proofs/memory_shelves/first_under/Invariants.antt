-- What is listed, with the keys that are left, gives the first names under the folder.
use Rattle.std.proofs.Common.{◌≡◌, ◌≤◌, ◌++◌, map, take, vec_len}
use Rattle.std.specs.List.{filter}
use Rattle.std.specs.String.{string_bytes}
use Rattle.aj_outside.specs.Files.{is_under, names_under}
use Rattle.aj_outside.specs.Stored.{stored_files}
use Rattle.aj_outside.proofs.memory_shelves.first_under.Given as goal

abbrev pub invariant-loop-text : goal.invariant-loop-text
invariant-loop-text l = record {
  left : take l.most (l.listed.items ++ filter (is_under l.folder) (map string_bytes l.text-iterator)) ≡ take l.most (names_under l.folder (stored_files l.files.entries));
  few : vec_len l.listed ≤ l.most;
}
