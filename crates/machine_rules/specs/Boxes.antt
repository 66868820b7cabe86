-- Boxes of primitive values, and what they hold.
use Rattle.std.specs.Prelude.{◌≡◌, ℕ, ◌==◌, Bool, false, List, Option, Some, ℤ}
use Rattle.std.specs.Int.{w64, cast_unsigned}
use Rattle.std.specs.Str.{bytes_eq}
use Rattle.boot_library.specs.declared.rule.Primitive.{Primitive}
use Rattle.boot_library.specs.declared.rule.Primitive.TheVariants as boxed
use Rattle.class_file.specs.Pool.{Reference}
use Rattle.class_heads.specs.declared.types.ClassHead.{ClassHead}
use Rattle.class_heads.specs.Hierarchy.{name_at}
use Rattle.class_world.specs.Tables.{Known}
use Rattle.class_machine.specs.LibraryCalls.{truth_hash, long_hash, same_box}
use Rattle.class_machine.specs.Numbers.{same_int}
use Rattle.class_machine.specs.World.{World, box_class}
use Rattle.machine_values.specs.declared.names.Maker.TheVariants.{Class}
use Rattle.machine_values.specs.declared.names.Name.{Name}
use Rattle.machine_values.specs.declared.names.Name.TheVariants.{Made}
use Rattle.machine_values.specs.declared.values.Ref.{Ref}
use Rattle.machine_values.specs.declared.values.Value.{Value}
use Rattle.machine_values.specs.declared.values.Value.TheVariants.{Int, Long, Float, Double}
use Rattle.machine_values.specs.Standing.{name_of, held}
use Rattle.machine_values.specs.Things.{Things}
use Rattle.machine_requests.specs.Shares.{Others}
use Rattle.machine_requests.specs.Telling.{AreDistinct}
use Rattle.machine_rules.specs.Works.{setting_of, Holds}

-- an object that was made of the class of the type's boxes
abbrev pub is_box_name : List ClassHead → Primitive → Option Name → Bool
is_box_name heads type (Some (Made (Class class) k)) = bytes_eq (name_at heads class.0) (box_class type)
is_box_name heads type name = false

-- the hash of a box that holds an int
abbrev pub int_hash : Primitive → ℤ → ℤ
int_hash boxed.Boolean n = truth_hash n
int_hash type n = n

-- the hash of a box, by the value that it holds
abbrev pub hash_value : Primitive → Value → Value
hash_value type (Int n) = Int (int_hash type n)
hash_value type (Long n) = Int (long_hash (cast_unsigned w64 n))
hash_value type v = v

-- the same number, or the same bits
abbrev pub same_values : Value → Value → Bool
same_values (Int n) (Int m) = same_int n m
same_values (Long n) (Long m) = same_int n m
same_values (Float b) (Float c) = b == c
same_values (Double b) (Double c) = b == c
same_values v u = false

-- whatever world the heap stands for, whether the value is a box of the type that holds the same
abbrev pub TellsSameBox : Known → Things → Primitive → Ref → Value → Bool → Type 0
TellsSameBox k things type at v is =
    (names : ℕ → Reference) (others : Others) (w : World) → AreDistinct k.heads → Holds (setting_of k names) things others w
    → is ≡ same_box w type (name_of k.heads things.names at) (held k.heads things.names v)
