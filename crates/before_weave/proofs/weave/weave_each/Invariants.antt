use Rattle.std.proofs.Common.{◌≡◌, ◌++◌}
use Rattle.std.specs.List.{AllZip}
use Rattle.before_weave.specs.Weaving.{IsClassWeaving}
use Rattle.before_weave.proofs.weave.weave_each.Given as goal

-- the classes so far, and those that are left
abbrev pub invariant-loop-class : goal.invariant-loop-class
invariant-loop-class l = record {
  woven : AllZip (IsClassWeaving l.aspect) l.yielded l.woven.items;
  left : l.fn.classes.items ≡ l.yielded ++ l.class-iterator.rest.items;
}
