use Rattle.std.proofs.Common.{Option, None, sym, ◌∙◌, ap}
use Rattle.std.specs.Option.{unwrap_or, option_copied}
use Rattle.std.proofs.lemmas.Option.{unwrap_or-slice_get}
use Rattle.machine_values.specs.declared.values.Value.{Value}
use Rattle.machine_requests.proofs.statics.stored_in.Goals as goal

pub returns-in-None : goal.returns-in-None
returns-in-None c = ap (λ (o : Option (Option Value)). unwrap_or o None) (sym (ap option_copied c.in-None.is) ∙ c.get.ensures.value) ∙ unwrap_or-slice_get c.args.statics.now c.args.field.0 None
