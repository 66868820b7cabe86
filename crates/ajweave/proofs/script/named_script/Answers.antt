use Rattle.ajweave.proofs.Scripts.{script_found}
use Rattle.ajweave.proofs.script.named_script.Goals as goal

pub returns-in-Ok-read-clause-found : goal.returns-in-Ok-read-clause-found
returns-in-Ok-read-clause-found g c =
    script_found (g.S.Shelf.held c.args.shelf.now) c.args.name.now (record { name = c.in-Ok.name; bytes = c.in-Ok-read.bytes }) c.in-Ok.ensures.text c.in-Ok-read.ensures.given
