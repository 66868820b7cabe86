use Rattle.std.proofs.Common.{Some, sym, ◌∙◌, ap}
use Rattle.std.specs.Prelude.{Option}
use Rattle.class_machine.specs.Events as events
use Rattle.machine_values.specs.declared.values.Value.{Value}
use Rattle.machine_requests.specs.Shares.{others_of}
use Rattle.machine_natives.specs.declared.response.Response.TheVariants.{Returns}
use Rattle.machine_natives.specs.Closing.{ending_of}
use Rattle.machine_natives.proofs.closing.returned.Goals as goal

pub returns : goal.returns
returns c m left t is runs =
    ap (λ (s : events.Shown). events.Returned (Some s)) (c.in_ok-seen.ensures m (others_of c.args.state.now) t.world is runs.shares)
    ∙ sym (ap (λ (o : Option Value). ending_of m c.args.state.now t.world (Returns o)) c.in-Some.is)
