-- What the map has at the name, seen as bytes.
use Rattle.std.proofs.Common.{None, Some, ap, ◌∙◌}
use Rattle.aj_outside.proofs.Entries.{found-file}
use Rattle.aj_outside.proofs.memory_shelves.MemShelf.file.Goals as goal

pub returns-in-None : goal.returns-in-None
returns-in-None c = record { file = found-file _ _ _ None (ap (λ s. s.files) c.self.view_is) c.in-None.ensures.value }

pub returns-in-Some : goal.returns-in-Some
returns-in-Some c =
    record { file = ap Some c.as_slice.ensures.value ∙ found-file _ _ _ (Some c.in-Some.bytes) (ap (λ s. s.files) c.self.view_is) c.in-Some.ensures.value }
