use Rattle.class_file.specs.Lookup.{reference_seen}
use Rattle.machine_invokes.proofs.Invoked.{no_library, library_tells}
use Rattle.machine_invokes.proofs.belonging.is_library_call.Goals as goal

pub returns-in-None : goal.returns-in-None
returns-in-None c = no_library c.args.world.now c.args.state.now c.args.mode (reference_seen c.args.named) c.in-None.ensures.found

pub returns-in-Some : goal.returns-in-Some
returns-in-Some c =
    library_tells c.args.world.now c.args.state.now c.args.mode (reference_seen c.args.named) c.in-Some.method c.is_of_library.result c.in-Some.ensures.found c.is_of_library.ensures
