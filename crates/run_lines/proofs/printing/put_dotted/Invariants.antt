use Rattle.std.proofs.Common.{◌≡◌, ◌++◌, take}
use Rattle.class_machine.specs.Classes.{dotted}
use Rattle.run_lines.proofs.printing.put_dotted.Given as goal

abbrev pub invariant-loop-byte : goal.invariant-loop-byte
invariant-loop-byte l = l.out.items ≡ l.fn.out.items ++ dotted (take l.byte-index l.name)
