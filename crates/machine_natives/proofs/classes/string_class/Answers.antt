use Rattle.std.proofs.Common.{sym}
use Rattle.class_heads.specs.PlaceLaws.{place-named}
use Rattle.class_machine.specs.Values.{string_class}
use Rattle.machine_natives.proofs.Library.{strings_there}
use Rattle.machine_natives.proofs.classes.string_class.Goals as goal

pub unreachable-requires : goal.unreachable-requires
unreachable-requires c = strings_there c.args.world.now c.requires (sym c.in_default.ensures.place)

pub returns-clause-named : goal.returns-clause-named
returns-clause-named c = place-named c.args.world.now.heads string_class c.in-Some.class.0 (sym c.in-Some.ensures.place)
