use Rattle.std.proofs.Common.{sym, ◌∙◌}
use Rattle.class_world.proofs.Named.{place_found, place_nowhere}
use Rattle.class_world.proofs.names.class_named.Goals as goal

pub returns-in-Some : goal.returns-in-Some
returns-in-Some c = c.at.ensures ∙ sym (place_found c.args.heads.now c.args.name.now c.in-Some.place (sym (c.requires c.args.name.now) ∙ sym c.place_named.ensures ∙ c.in-Some.is)).1

pub returns-in-None : goal.returns-in-None
returns-in-None c = sym (place_nowhere c.args.heads.now c.args.name.now (sym (c.requires c.args.name.now) ∙ sym c.place_named.ensures ∙ c.in-None.is))
