use Rattle.std.proofs.Common.{◌≡◌, ◌++◌, take}
use Rattle.std.specs.List.{flat_map}
use Rattle.class_text.specs.Bytes.{place_bytes}
use Rattle.class_text.proofs.bytes.put_places.Given as goal

abbrev pub invariant-loop-label : goal.invariant-loop-label
invariant-loop-label l = l.out.items ≡ l.fn.out.items ++ flat_map (place_bytes l.body l.pc) (take l.label-index l.labels)
