use Rattle.std.proofs.Common.{◌≡◌}
use Rattle.ajweave.proofs.Writing.{held_after}
use Rattle.ajweave.proofs.weave.write_all.Given as goal

abbrev pub invariant-loop-file : goal.invariant-loop-file
invariant-loop-file g l = record {
  held : g.S.Shelf.held l.shelf ≡ held_after l.files l.file-index (g.S.Shelf.held l.initial.shelf);
  write_faults : g.S.Shelf.write_faults l.shelf ≡ g.S.Shelf.write_faults l.initial.shelf;
  faults : g.S.Shelf.faults l.shelf ≡ g.S.Shelf.faults l.initial.shelf;
  missing : g.S.Shelf.missing l.shelf ≡ g.S.Shelf.missing l.initial.shelf;
}
