use Rattle.machine_objects.proofs.Followed.{next_goes}
use Rattle.machine_objects.proofs.going.go_on_next.Goals as goal

pub returns-clause-moves : goal.returns-clause-moves
returns-clause-moves c = next_goes c.args.world.now c.args.state.now c.go_on.new.state c.go_on.result c.next_place-pc.result c.next_place-pc.ensures c.go_on.ensures.moves
