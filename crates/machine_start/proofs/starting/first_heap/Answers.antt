use Rattle.std.proofs.Common.{sym, subst}
use Rattle.class_heads.specs.PlaceLaws.{place-named}
use Rattle.class_machine.specs.Values.{print_stream_class}
use Rattle.machine_values.specs.Things.{Things}
use Rattle.machine_fields.specs.NewObjects.{MakesOf, KeepsFilled}
use Rattle.machine_natives.proofs.Library.{streams_there}
use Rattle.machine_start.proofs.Output.{output_there}
use Rattle.machine_start.proofs.starting.first_heap.Goals as goal

pub unreachable-requires : goal.unreachable-requires
unreachable-requires c = streams_there c.args.world.now c.requires (sym c.in_default.ensures.place)

pub returns : goal.returns
returns c =
    let k = c.args.world.now in
    let class = c.in-Some.class.0 in
    let after = c.make_object.new.heap in
    output_there k c.requires class after c.in_ok-_output._output (place-named k.heads print_stream_class class (sym c.in-Some.ensures.place))
    (subst (λ (h : Things). MakesOf k class h after c.in_ok-_output._output) c.new-heap.ensures c.in_ok-_output.ensures.made)
    (subst (λ (h : Things). KeepsFilled k class h after) c.new-heap.ensures c.in_ok-_output.ensures.filled)
