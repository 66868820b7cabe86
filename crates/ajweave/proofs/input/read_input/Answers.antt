use Rattle.ajweave.proofs.Reading.{cut_at-read}
use Rattle.ajweave.proofs.input.read_input.Goals as goal

pub returns-in-Ok-clause-given : goal.returns-in-Ok-clause-given
returns-in-Ok-clause-given g c = cut_at-read (g.S.Shelf.held c.args.shelf.now) c.args.name c.in-Ok.bytes.items 16777217 c.in-Ok.ensures.given
