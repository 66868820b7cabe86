use Rattle.std.proofs.Common.{◌≡◌, length, drop}
use Rattle.std.specs.Str.{bytes_eq}
use Rattle.aj_names.specs.Hierarchy.{dotted}
use Rattle.class_world.proofs.lookups.naming.is_dotted.Given as goal

-- what is left decides
abbrev pub invariant-loop-i : goal.invariant-loop-i
invariant-loop-i l = record {
  lengths : length l.class ≡ length l.text;
  left : bytes_eq (dotted (drop l.i l.class)) (drop l.i l.text) ≡ bytes_eq (dotted l.class) l.text;
}
