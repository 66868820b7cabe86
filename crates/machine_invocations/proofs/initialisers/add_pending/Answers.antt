use Rattle.std.proofs.Common.{sym, ◌∙◌, subst}
use Rattle.std.specs.Prelude.{Option, []}
use Rattle.std.specs.Option.{option_to_list}
use Rattle.std.proofs.lemmas.List.{append-nil}
use Rattle.machine_values.specs.declared.frames.Frame.{Frame}
use Rattle.machine_invocations.specs.Initialising.{AreOwn}
use Rattle.machine_invocations.proofs.Initialised.{begun_pends, none_pends}
use Rattle.machine_invocations.proofs.initialisers.add_pending.Goals as goal

pub returns-then-has_begun : goal.returns-then-has_begun
returns-then-has_begun c = record {
  own = [];
  added = sym (append-nil c.args.frames.now.items);
  pending = begun_pends c.args.world.now c.args.begun.now c.args.class.0 (sym c.has_begun.ensures ∙ c.if-has_begun.true);
}

pub returns-in-None : goal.returns-in-None
returns-in-None c = record {
  own = [];
  added = sym (append-nil c.args.frames.now.items);
  pending = none_pends c.args.world.now c.args.begun.now c.args.class.0 (sym c.has_begun.ensures ∙ c.if-has_begun.false)
      (subst (λ (o : Option Frame). AreOwn c.args.world.now c.args.class.0 (option_to_list o)) c.in-None.is c.in_ok-own.ensures);
}
