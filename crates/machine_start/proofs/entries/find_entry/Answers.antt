use Rattle.std.proofs.Common.{sym, ap}
use Rattle.std.specs.Prelude.{map, option_and_then}
use Rattle.machine_start.specs.Arguments.{argument_of}
use Rattle.machine_start.specs.Entries.{entry_at}
use Rattle.machine_start.proofs.Named.{entry_given, entry_not_given, found_method}
use Rattle.machine_start.proofs.entries.find_entry.Goals as goal

pub returns-in_default-clause-found : goal.returns-in_default-clause-found
returns-in_default-clause-found c = ap (option_and_then (entry_at c.args.world.now c.args.method.now (map argument_of c.args.args.now))) (sym c.in_default.ensures.place)

pub returns-in-Some-file-clause-found : goal.returns-in-Some-file-clause-found
returns-in-Some-file-clause-found c =
    entry_given c.args.world.now c.args.class.now c.args.method.now (map argument_of c.args.args.now) c.in-Some.place.0 _ c.find_in.result (sym c.in-Some.ensures.place) (sym c.in-Some-file.ensures) c.in-Some.ensures.within c.find_in.ensures

pub returns-in-Some-file-clause-method : goal.returns-in-Some-file-clause-method
returns-in-Some-file-clause-method c =
    found_method c.args.world.now c.find_in.result _
    (entry_given c.args.world.now c.args.class.now c.args.method.now (map argument_of c.args.args.now) c.in-Some.place.0 _ c.find_in.result (sym c.in-Some.ensures.place) (sym c.in-Some-file.ensures) c.in-Some.ensures.within c.find_in.ensures)

pub returns-in-None-clause-found : goal.returns-in-None-clause-found
returns-in-None-clause-found c =
    entry_not_given c.args.world.now c.args.class.now c.args.method.now (map argument_of c.args.args.now) c.in-Some.place.0 (sym c.in-Some.ensures.place) (sym c.in-None.ensures)
