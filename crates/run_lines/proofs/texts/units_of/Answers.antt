use Rattle.std.proofs.Common.{sym, subst}
use Rattle.std.specs.Str.{IsUtf8}
use Rattle.std.proofs.lemmas.Iterator.{YieldsList-from_chars}
use Rattle.std.proofs.lemmas.Iterator.Consumers.{YieldsList-end}
use Rattle.run_lines.proofs.TextWords.{units_read}
use Rattle.run_lines.proofs.texts.units_of.Goals as goal

pub returns : goal.returns
returns c =
    let utf8 = subst IsUtf8 (sym c.in-Ok.ensures.cases.0) c.in-Ok.ensures.cases.1 in
    let all = YieldsList-end (YieldsList-from_chars c.in-Ok.text.now utf8 cc) c.loop-character.yielded _ c.loop-character.yielded_by _ _ c.in-None.is c.next.ensures.steps in
    units_read c.args.text.now c.in-Ok.text.now c.loop-character.units.items c.loop-character.yielded c.in-Ok.ensures.cases.0 c.in-Ok.ensures.cases.1 c.loop-character.invariant all.0
