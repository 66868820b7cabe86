use Rattle.std.proofs.Common.{◌≡◌, length, drop}
use Rattle.std.specs.Str.{bytes_eq}
use Rattle.aj_names.specs.Hierarchy.{dots, dollared, dotted}
use Rattle.class_world.proofs.lookups.naming.is_spelled.Given as goal

-- what is left decides, and its dots are counted
abbrev pub invariant-loop-i : goal.invariant-loop-i
invariant-loop-i l = record {
  lengths : length l.class ≡ length l.name;
  counted : l.left ≡ dots (drop l.i l.name);
  rest : bytes_eq (dotted (drop l.i l.class)) (dollared l.dollars (drop l.i l.name)) ≡ bytes_eq (dotted l.class) (dollared l.dollars l.name);
}
