use Rattle.std.proofs.Common.{◌≡◌, ◌++◌, map, take, drop}
use Rattle.machine_values.specs.Stacks.{filled_local}
use Rattle.machine_values.proofs.locals.fill_in.Given as goal

abbrev pub invariant-loop-local : goal.invariant-loop-local
invariant-loop-local l = l.locals ≡ map (filled_local l.number l.object) (take l.local-index l.initial.locals) ++ drop l.local-index l.initial.locals
