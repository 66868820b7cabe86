use Rattle.std.proofs.Common.{◌≡◌, map}
use Rattle.std.specs.Prelude.{IfSome}
use Rattle.std.specs.List.{filter}
use Rattle.weave_plan.specs.Plan.{files_of}
use Rattle.ajweave.specs.Steps.{cut_at, keeps}
use Rattle.ajweave.proofs.input.read_inputs.Given as goal

abbrev pub invariant-loop-name : goal.invariant-loop-name
invariant-loop-name g l = record {
  given : IfSome (g.S.Shelf.held l.initial.shelf) (λ files. files_of l.files.items ≡ map (cut_at files) (filter (keeps l.kept) l.yielded));
  named : map (λ input. input.name) l.files.items ≡ filter (keeps l.kept) l.yielded;
  held : g.S.Shelf.held l.shelf ≡ g.S.Shelf.held l.initial.shelf;
  write_faults : g.S.Shelf.write_faults l.shelf ≡ g.S.Shelf.write_faults l.initial.shelf;
  faults : g.S.Shelf.faults l.shelf ≡ g.S.Shelf.faults l.initial.shelf;
  missing : g.S.Shelf.missing l.shelf ≡ g.S.Shelf.missing l.initial.shelf;
}
