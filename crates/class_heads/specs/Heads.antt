-- The head of a class file: what it declares, by names (JVMS 4.1, 4.5 to 4.7). An index that stands for
-- no name stands for the empty one, which no class file has.
use Rattle.std.specs.Prelude.{ℕ, ◌==◌, Bool, true, false, ◌||◌, List, [], map, bit_and}
use Rattle.std.specs.List.{list_any, flat_map}
use Rattle.std.specs.Option.{unwrap_or}
use Rattle.aj_names.specs.declared.types.MemberName.{MemberName}
use Rattle.class_file.specs.declared.pool.PoolEntry.{PoolEntry}
use Rattle.class_file.specs.declared.types.ClassFile.{ClassFile}
use Rattle.class_file.specs.declared.types.Member.{Member}
use Rattle.class_file.specs.declared.types.Content.{Content}
use Rattle.class_file.specs.declared.types.Content.TheVariants.{ConstantValue, Exceptions, Synthetic}
use Rattle.class_file.specs.Pool.{text_at, class_at, super_name}
use Rattle.class_heads.specs.declared.types.FieldHead.{FieldHead}
use Rattle.class_heads.specs.declared.types.MethodHead.{MethodHead}
use Rattle.class_heads.specs.declared.types.ClassHead.{ClassHead}

abbrev pub has_flag : ℕ → ℕ → Bool
has_flag flag flags = bit_and flags flag == flag

-- ---- attributes

abbrev pub is_synthetic : Content → Bool
is_synthetic Synthetic = true
is_synthetic _ = false

abbrev pub is_constant : Content → Bool
is_constant (ConstantValue index) = true
is_constant _ = false

-- the indices of the classes that it declares to be thrown
abbrev pub thrown : Content → List ℕ
thrown (Exceptions classes) = classes
thrown _ = []

-- ---- members

abbrev pub class_name_at : List PoolEntry → ℕ → List ℕ
class_name_at pool index = unwrap_or (class_at pool index) []

abbrev pub name_at : List PoolEntry → ℕ → List ℕ
name_at pool index = unwrap_or (text_at pool index) []

abbrev pub member_name : List PoolEntry → Member → MemberName
member_name pool m = record { name = name_at pool m.name; descriptor = name_at pool m.descriptor }

-- it has the flag or the attribute
abbrev pub member_is_synthetic : Member → Bool
member_is_synthetic m = has_flag 0x1000 m.flags.0 || list_any (λ a. is_synthetic a.content) m.attributes

abbrev pub field_head : List PoolEntry → Member → FieldHead
field_head pool m = record {
  name = member_name pool m;
  flags = m.flags;
  is_synthetic = member_is_synthetic m;
  has_constant = list_any (λ a. is_constant a.content) m.attributes;
}

abbrev pub method_head : List PoolEntry → Member → MethodHead
method_head pool m = record {
  name = member_name pool m;
  flags = m.flags;
  exceptions = map (class_name_at pool) (flat_map (λ a. thrown a.content) m.attributes);
  is_synthetic = member_is_synthetic m;
}

-- ---- the class

abbrev pub head_of : ClassFile → ClassHead
head_of c = record {
  name = class_name_at c.pool c.this_class;
  version = c.major;
  flags = c.flags;
  super_class = super_name c;
  interfaces = map (class_name_at c.pool) c.interfaces;
  fields = map (field_head c.pool) c.fields;
  methods = map (method_head c.pool) c.methods;
}
