use Rattle.std.proofs.Common.{◌≡◌, take, length}
use Rattle.std.specs.Prelude.{map}
use Rattle.class_machine.specs.Start.{Text}
use Rattle.machine_start.specs.Arguments.{KeepsContents, MakesValues}
use Rattle.machine_start.proofs.arguments.make_texts.Given as goal

-- those so far
abbrev pub invariant-loop-text : goal.invariant-loop-text
invariant-loop-text l = record {
  made : MakesValues l.world l.fn.heap (map Text (take l.text-index l.texts)) l.heap l.values;
  many : length l.values ≡ l.text-index;
  kept : KeepsContents l.fn.heap l.heap;
}
