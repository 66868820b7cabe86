use Rattle.std.proofs.Common.{length, refl}
use Rattle.std.proofs.lemmas.Result.{IfOk-weaker}
use Rattle.ajweave.proofs.Reading.{AreListed-whole, IsNoWriteStop-list}
use Rattle.ajweave.proofs.Weaving.{many_stop}
use Rattle.ajweave.proofs.input.listed.Goals as goal

pub returns-in-Ok-clause-all : goal.returns-in-Ok-clause-all
returns-in-Ok-clause-all g c =
    IfOk-weaker c.at_most.result _ _ (λ listed whole. AreListed-whole c.args.folder.now (g.S.Shelf.held c.args.shelf.now) (g.S.Shelf.held c.list.new.self) c.in-Ok.names.items listed.items 65537 refl c.in-Ok.ensures.kept c.in-Ok.ensures.ordered c.in-Ok.ensures.given whole) c.at_most.ensures.whole

pub returns-in-Ok-clause-stopped : goal.returns-in-Ok-clause-stopped
returns-in-Ok-clause-stopped g c =
    IsNoWriteStop-list c.args.folder.now (g.S.Shelf.held c.args.shelf.now) c.in-Ok.names.items 65537 c.at_most.result c.in-Ok.ensures.given c.at_most.ensures.stopped

pub returns-in-Ok-clause-many : goal.returns-in-Ok-clause-many
returns-in-Ok-clause-many g c = many_stop (length c.in-Ok.names.items) c.at_most.result c.at_most.ensures.stopped
