-- The insert puts the file and keeps the order.
use Rattle.std.proofs.Common.{ap, ◌∙◌, arith}
use Rattle.aj_outside.proofs.Entries.{written, ordered-insert}
use Rattle.aj_outside.proofs.memory_shelves.MemShelfShelf.write.Goals as goal

pub invariant_of-self-2 : goal.invariant_of-self-2
invariant_of-self-2 c = (grind arith, grind arith, ordered-insert _ _ _ _ c.in-Ok.ensures.entries c.self.invariant.2)

pub returns-clause-written : goal.returns-clause-written
returns-clause-written c =
    written _ _ _ _ _ _ _ c.in-Ok.ensures.entries (ap (λ shelf. shelf.files) c.self.view_is) (c.into_string.ensures.text ∙ c.in-Ok-Ok.ensures.equal) c.in-Ok-Ok.ensures'.items

pub returns-clause-ordered : goal.returns-clause-ordered
returns-clause-ordered c = ordered-insert _ _ _ _ c.in-Ok.ensures.entries c.self.invariant.2
