-- What the machine runs: the classes of a world, with the library behind those that were given as files, and what the numbers
-- of a world stand for.
use Rattle.std.specs.Prelude.{◌≡◌, ℕ, List, [], map, length, slice_get, Option, Some, option_and_then, unwrap_or}
use Rattle.std.specs.List.{sum}
use Rattle.std.specs.Option.{option_map}
use Rattle.aj_names.specs.declared.types.MemberName.{MemberName}
use Rattle.class_file.specs.declared.types.ClassFile.{ClassFile}
use Rattle.class_file.specs.Pool.{Reference}
use Rattle.class_heads.specs.declared.types.FieldHead.{FieldHead}
use Rattle.class_heads.specs.declared.types.ClassHead.{ClassHead}
use Rattle.class_heads.specs.Heads.{head_of}
use Rattle.class_heads.specs.Numbers.{number_of, field_counts, method_counts}
use Rattle.class_heads.specs.Searches.{MemberPlace, find_field}
use Rattle.class_world.specs.Tables.{Known}
use Rattle.class_machine.specs.Classes.{reference}
use Rattle.class_machine.specs.Declarations.{run_heads, classes_of, declared_in}
use Rattle.class_machine.specs.ClassFiles.{field_constant}
use Rattle.machine_code.specs.Programs.{IsProgram, IsFirst, method_name}
use Rattle.machine_requests.specs.Telling.{AreDistinct}
use Rattle.machine_requests.specs.Shares.{Setting}
use Rattle.machine_requests.specs.Statics.{AreApart}

-- well-formed class files whose classes have names of their own, and behind them the library's classes
pub record IsRunnable (k : Known) : Type 0 where
  pub program : IsProgram k.files k.heads
  pub library : k.heads ≡ run_heads (map head_of k.files)

-- the class files, the classes, and the fields and methods by their numbers
pub record Machine : Type 0 where
  pub files : List ClassFile
  pub setting : Setting
  pub methods : ℕ → Reference

-- the field at a place, by the class that declares it
abbrev pub field_in_class : ℕ → ClassHead → Option Reference
field_in_class position c = option_map (λ (f : FieldHead). declared_in c.name f.name) (slice_get c.fields position)

abbrev pub field_name : List ClassHead → MemberPlace → Reference
field_name heads m = unwrap_or (option_and_then (field_in_class m.position) (slice_get heads m.class)) (reference [] [] [])

-- The machine is that of the world: the numbers of fields and methods that searches find stand for their names, and fields
-- have names of their own.
pub record IsMachine (k : Known) (m : Machine) : Type 0 where
  pub files : m.files ≡ k.files
  pub heads : m.setting.heads ≡ k.heads
  pub classes : m.setting.classes ≡ classes_of k.heads (length k.files) (field_constant k.files)
  pub distinct : AreDistinct k.heads
  pub apart : AreApart (sum (field_counts k.heads)) m.setting
  pub fields : (class : ℕ) (member : MemberName) (f : MemberPlace) → find_field k.heads class member ≡ Some f
      → m.setting.field_names (number_of (field_counts k.heads) f) ≡ field_name k.heads f
  pub methods : (f : MemberPlace) → IsFirst k.heads f → m.methods (number_of (method_counts k.heads) f) ≡ method_name k.heads f
