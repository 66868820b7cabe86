-- What is stored, with the files that are left put in turn, is what all files make.
use Rattle.std.proofs.Common.{◌≡◌, [], map}
use Rattle.std.specs.Vec.Iter.{into_iter_items}
use Rattle.aj_outside.specs.Files.{AreFiles, put_each}
use Rattle.aj_outside.specs.Stored.{stored_files}
use Rattle.aj_outside.proofs.memory_shelves.store.Given as goal

abbrev pub invariant-loop-name : goal.invariant-loop-name
invariant-loop-name l = record {
  left : put_each (stored_files l.stored.entries) (map (λ file. (file.0, file.1.items)) (into_iter_items l.name-iterator)) ≡ put_each [] (map (λ file. (file.0, file.1.items)) l.fn.files.items);
  ordered : AreFiles (stored_files l.stored.entries);
}
