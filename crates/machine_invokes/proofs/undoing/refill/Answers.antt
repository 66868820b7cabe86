use Rattle.std.specs.Prelude.{refl, length, List}
use Rattle.std.proofs.Common.{sym, ◌∙◌, ap}
use Rattle.machine_values.specs.declared.values.Local.{Local}
use Rattle.machine_invokes.proofs.Refilled.{refilled_taken}
use Rattle.machine_invokes.proofs.undoing.refill.Goals as goal

pub returns : goal.returns
returns c old is =
    c.put_back.ensures old
    (refilled_taken old c.args.frame.now _ c.args.operands.now c.args.locals.now is refl c.empty.ensures.room c.empty.ensures.values
    (c.put_locals.ensures (ap (λ (ls : List Local). length ls) (sym is.held) ∙ sym is.count)))
