use Rattle.std.proofs.lemmas.Result.{on_ok_weaker}
use Rattle.machine_fields.specs.NewObjects.{held_by}
use Rattle.machine_fields.proofs.NewOnes.{head_asked}
use Rattle.machine_fields.proofs.new_objects.push_head.Goals as goal

pub returns : goal.returns
returns c = on_ok_weaker c.push_hidden.result (λ hidden. head_asked (held_by c.args.types.now.items) (held_by c.push_own.new.types.items) (held_by c.push_hidden.new.types.items) c.args.head.now c.as_slice.result.now c.as_slice-2.result.now
    c.as_slice.ensures c.as_slice-2.ensures c.in_ok-push_own.ensures hidden) c.push_hidden.ensures
