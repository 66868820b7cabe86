-- What the calls of a heap make of the class machine's heap that it stands for: these are the laws that code which runs
-- the machine cites.
use Rattle.std.specs.Prelude.{◌≡◌, ℕ, suc, true, List, [], ◌∷◌, ◌++◌, length, slice_get, Option, Some, None, refl}
use Rattle.std.specs.List.{AllByRecursion}
use Rattle.std.proofs.Common.{sym, ◌∙◌, ap, subst}
use Rattle.std.proofs.lemmas.Bool.{false≢true}
use Rattle.class_file.specs.Pool.{Reference}
use Rattle.class_heads.specs.declared.types.ClassHead.{ClassHead}
use Rattle.class_machine.specs.Values as machine
use Rattle.class_machine.specs.World as worlds
use Rattle.class_machine.specs.World.{World, with_changed}
use Rattle.machine_values.specs.declared.names.Maker.{Maker}
use Rattle.machine_values.specs.declared.names.Name.{Name}
use Rattle.machine_values.specs.declared.names.Name.TheVariants.{Made, Literal, ClassObject}
use Rattle.machine_values.specs.declared.content.Content.{Content}
use Rattle.machine_values.specs.declared.content.Content.TheVariants.{Fixed}
use Rattle.machine_values.specs.Things.{Things, with_thing, changed, made, next_name, with_made, is_constant, place_of, placed_at, with_constant}
use Rattle.machine_values.specs.Standing.{maker_name, machine_name, IsSettledContent, object_of, IsHeapOf, AreNumbered, Stands}
use Rattle.machine_values.specs.StandingLaws.{made_stands, literal_stands, class_object_stands}
use Rattle.machine_values.specs.ChangeLaws.{changed_stands}
use Rattle.machine_values.specs.NumberLaws.{IsTold, numbered_push, numbered_alone, made_alike, name_itself_there}

-- ---- an object that is made

-- what the class machine adds then
abbrev pub HeapAdded : List ClassHead → (List ℕ → List Reference) → Things → Maker → Content → World → Type 0
HeapAdded heads fields things maker c w =
    Stands heads fields (with_made things maker c).1 (worlds.add w (maker_name heads maker) (object_of heads fields things.names maker c)).1.heap

pub make_stands : (heads : List ClassHead) (fields : List ℕ → List Reference) (things : Things) (w : World) (maker : Maker) (c : Content)
    → Stands heads fields things w.heap → AllByRecursion (IsTold heads maker) things.names → IsSettledContent (length things.names) c → HeapAdded heads fields things maker c w
make_stands heads fields things w maker c h told settled =
    let k = suc (made things.names maker) in
    let object = object_of heads fields things.names maker c in
    record {
      objects = subst (λ n. IsHeapOf heads fields (with_made things maker c).1 ((machine.Made (maker_name heads maker) (suc n), object) ∷ w.heap))
          (sym (made_alike heads fields things w.heap maker h.objects told)) (made_stands heads fields things w.heap maker k c h.objects settled);
      numbered = numbered_push [] things.names (Made maker k) h.numbered refl;
    }

-- ---- a literal or a class object

added : (heads : List ClassHead) (fields : List ℕ → List Reference) (things : Things) (heap : List (machine.Name × worlds.Object)) (name : Name)
    → Stands heads fields things heap → is_constant name ≡ true → place_of things.names name ≡ None → Stands heads fields (with_thing things name Fixed) heap
added heads fields things heap (Made maker k) h constant absent = absurd (false≢true constant)
added heads fields things heap (Literal units) h constant absent = record {
  objects = literal_stands heads fields things heap units h.objects;
  numbered = numbered_push [] things.names (Literal units) h.numbered absent;
}
added heads fields things heap (ClassObject type) h constant absent = record {
  objects = class_object_stands heads fields things heap type h.objects;
  numbered = numbered_push [] things.names (ClassObject type) h.numbered absent;
}

-- the class machine's heap stays as it is
pub constant_stands : (heads : List ClassHead) (fields : List ℕ → List Reference) (things : Things) (heap : List (machine.Name × worlds.Object)) (name : Name)
    → Stands heads fields things heap → is_constant name ≡ true → Stands heads fields (with_constant things name).1 heap
constant_stands heads fields things heap name h constant = found (place_of things.names name) refl where
  found : (o : Option ℕ) → place_of things.names name ≡ o → Stands heads fields (placed_at things name o).1 heap
  found None absent = added heads fields things heap name h constant absent
  found (Some place) there = h

-- ---- an object that holds something else

pub store_stands : (heads : List ClassHead) (fields : List ℕ → List Reference) (things : Things) (heap : List (machine.Name × worlds.Object)) (at : ℕ) (maker : Maker) (k : ℕ) (c : Content)
    → Stands heads fields things heap → AllByRecursion (IsTold heads maker) things.names → slice_get things.names at ≡ Some (Made maker k) → IsSettledContent (length things.names) c
    → Stands heads fields (changed things at c) (with_changed heap (machine_name heads (Made maker k)) (object_of heads fields things.names maker c))
store_stands heads fields things heap at maker k c h told there settled = record {
  objects = changed_stands heads fields things heap at maker k c h.objects there (name_itself_there heads maker k) (numbered_alone heads [] things.names at maker k h.numbered told there) settled;
  numbered = h.numbered;
}
