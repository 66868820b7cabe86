use Rattle.std.proofs.Common.{◌≡◌, drop}
use Rattle.class_file.specs.Text.{utf8_from, is_utf8}
use Rattle.class_file.proofs.text.is_utf8.Given as goal

abbrev pub invariant-loop-b : goal.invariant-loop-b
invariant-loop-b l = utf8_from l.expected (drop l.b-index l.bytes) ≡ is_utf8 l.bytes
