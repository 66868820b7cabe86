use Rattle.std.proofs.Common.{sym, ◌∙◌}
use Rattle.machine_values.specs.NameLaws.{place_of-within}
use Rattle.machine_values.proofs.heap.Heap.add_constant.Goals as goal

pub returns-in-Some-clause-within : goal.returns-in-Some-clause-within
returns-in-Some-clause-within c = place_of-within c.args.self.now.names c.args.name c.in-Some.place (sym c.find.ensures ∙ c.in-Some.is)
