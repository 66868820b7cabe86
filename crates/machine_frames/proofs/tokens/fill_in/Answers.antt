use Rattle.std.proofs.Common.{List, ap, ◌∙◌, subst, sym}
use Rattle.machine_values.specs.declared.values.Value.{Value}
use Rattle.machine_values.specs.declared.values.Local.{Local}
use Rattle.machine_frames.specs.Naming.{values, locals}
use Rattle.machine_frames.specs.Effects.{AreKnown, AreKnownLocals}
use Rattle.machine_frames.proofs.FillingIn.{all_filled, all_locals_filled, all_known, all_locals_known}
use Rattle.machine_frames.proofs.tokens.fill_in.Goals as goal

pub returns-clause-operands : goal.returns-clause-operands
returns-clause-operands c n =
    ap (λ (vs : List Value). values n c.args.frame.now.method.0 vs) c.fill_in.ensures.filled ∙ all_filled n c.args.frame.now.method.0 c.args.number c.args.object c.args.frame.now.operands.values

pub returns-clause-locals : goal.returns-clause-locals
returns-clause-locals c n =
    ap (λ (ls : List Local). locals n c.args.frame.now.method.0 ls) c.fill_in-2.ensures ∙ all_locals_filled n c.args.frame.now.method.0 c.args.number c.args.object c.args.frame.now.locals

pub returns-clause-within : goal.returns-clause-within
returns-clause-within c count below h = record {
  operands = subst (AreKnown count) (sym c.fill_in.ensures.filled) (all_known count c.args.number c.args.object below c.args.frame.now.operands.values h.operands);
  locals = subst (AreKnownLocals count) (sym c.fill_in-2.ensures) (all_locals_known count c.args.number c.args.object below c.args.frame.now.locals h.locals);
  monitor = h.monitor;
  purpose = h.purpose;
}
