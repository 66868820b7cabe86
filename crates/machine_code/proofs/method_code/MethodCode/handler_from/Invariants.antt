use Rattle.std.proofs.Common.{◌≡◌, drop}
use Rattle.std.specs.List.{filter}
use Rattle.class_machine.specs.ClassFiles.{covers}
use Rattle.machine_code.proofs.method_code.MethodCode.handler_from.Given as goal

-- no entry before covers the place
abbrev pub invariant-loop-number : goal.invariant-loop-number
invariant-loop-number l = filter (covers l.pc) (drop l.number l.entries) ≡ filter (covers l.pc) (drop l.from l.entries)
