-- What the indices of a constant pool stand for (JVMS 4.4). An index that is 0, past the end or of
-- another kind stands for nothing.
use Rattle.std.specs.Prelude.{ℕ, zero, suc, List, Option, Some, None, slice_get, option_and_then}
use Rattle.class_file.specs.declared.pool.PoolEntry.{PoolEntry}
use Rattle.class_file.specs.declared.pool.PoolEntry.TheVariants.{Utf8, Class, String, Fieldref, Methodref, NameAndType}
use Rattle.class_file.specs.declared.types.ClassFile.{ClassFile}
use Rattle.class_file.specs.declared.types.Member.{Member}

-- a member's name and descriptor
pub record NamedType : Type 0 where
  pub name : List ℕ
  pub descriptor : List ℕ

-- a member of a class or an interface, as code names it
pub record Reference : Type 0 where
  pub class : List ℕ
  pub member : NamedType

abbrev pub entry_at : List PoolEntry → ℕ → Option PoolEntry
entry_at pool zero = None
entry_at pool (suc place) = slice_get pool place

abbrev pub as_text : PoolEntry → Option (List ℕ)
as_text (Utf8 text) = Some text
as_text _ = None

-- the text at an index, in modified UTF-8
abbrev pub text_at : List PoolEntry → ℕ → Option (List ℕ)
text_at pool index = option_and_then as_text (entry_at pool index)

abbrev pub as_class : List PoolEntry → PoolEntry → Option (List ℕ)
as_class pool (Class name) = text_at pool name
as_class pool _ = None

-- the name of the class or array type at an index
abbrev pub class_at : List PoolEntry → ℕ → Option (List ℕ)
class_at pool index = option_and_then (as_class pool) (entry_at pool index)

abbrev pub as_string : List PoolEntry → PoolEntry → Option (List ℕ)
as_string pool (String text) = text_at pool text
as_string pool _ = None

-- the text of the string constant at an index
abbrev pub string_at : List PoolEntry → ℕ → Option (List ℕ)
string_at pool index = option_and_then (as_string pool) (entry_at pool index)

abbrev pub as_named_type : List PoolEntry → PoolEntry → Option NamedType
as_named_type pool (NameAndType name descriptor) =
    option_and_then (λ n. option_and_then (λ d. Some (record { name = n; descriptor = d })) (text_at pool descriptor)) (text_at pool name)
as_named_type pool _ = None

abbrev pub named_type_at : List PoolEntry → ℕ → Option NamedType
named_type_at pool index = option_and_then (as_named_type pool) (entry_at pool index)

abbrev pub referred : List PoolEntry → ℕ → ℕ → Option Reference
referred pool class member =
    option_and_then (λ c. option_and_then (λ m. Some (record { class = c; member = m })) (named_type_at pool member)) (class_at pool class)

abbrev pub as_field : List PoolEntry → PoolEntry → Option Reference
as_field pool (Fieldref class member) = referred pool class member
as_field pool _ = None

-- the field that the index names
abbrev pub field_at : List PoolEntry → ℕ → Option Reference
field_at pool index = option_and_then (as_field pool) (entry_at pool index)

abbrev pub as_method : List PoolEntry → PoolEntry → Option Reference
as_method pool (Methodref class member) = referred pool class member
as_method pool _ = None

-- the method of a class that the index names
abbrev pub method_at : List PoolEntry → ℕ → Option Reference
method_at pool index = option_and_then (as_method pool) (entry_at pool index)

-- the name of the class that a file declares, and that of its superclass
abbrev pub this_name : ClassFile → Option (List ℕ)
this_name c = class_at c.pool c.this_class

abbrev pub super_name : ClassFile → Option (List ℕ)
super_name c = class_at c.pool c.super_class

-- the name and descriptor of a member of a class with this pool
abbrev pub member_type : List PoolEntry → Member → Option NamedType
member_type pool m =
    option_and_then (λ n. option_and_then (λ d. Some (record { name = n; descriptor = d })) (text_at pool m.descriptor)) (text_at pool m.name)
