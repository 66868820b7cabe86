use Rattle.std.proofs.Common.{sym, ◌∙◌}
use Rattle.std.proofs.lemmas.Bool.{false≢true}
use Rattle.machine_values.specs.Standing.{held}
use Rattle.machine_objects.proofs.Followed.{next_gives}
use Rattle.machine_objects.proofs.going.give_next.Goals as goal

pub returns-then-not-is_settled-clause-moves : goal.returns-then-not-is_settled-clause-moves
returns-then-not-is_settled-clause-moves c = λ settled. absurd (false≢true (sym c.if-not-is_settled.true ∙ c.is_settled.ensures ∙ settled))

pub returns-clause-moves : goal.returns-clause-moves
returns-clause-moves c = λ settled.
    next_gives c.args.world.now c.args.state.now c.give.new.state c.give.result c.next_place-pc.result (λ m t. held m.setting.heads c.args.state.now.heap.names c.args.value) c.next_place-pc.ensures c.give.ensures.moves
