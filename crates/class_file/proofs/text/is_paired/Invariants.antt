use Rattle.std.proofs.Common.{◌≡◌, drop}
use Rattle.class_file.specs.Text.{paired_from, is_paired}
use Rattle.class_file.proofs.text.is_paired.Given as goal

abbrev pub invariant-loop-b : goal.invariant-loop-b
invariant-loop-b l = paired_from l.pairing (drop l.b-index l.bytes) ≡ is_paired l.bytes
