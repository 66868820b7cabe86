-- What indices of the pool stand for where they are read.
use Rattle.std.specs.Prelude.{ℕ, Bool, if◌then◌else◌, List, is_some}
use Rattle.class_file.specs.declared.pool.PoolEntry.{PoolEntry}
use Rattle.class_file.specs.Text.{is_class_name, is_field_descriptor, is_method_descriptor_with}
use Rattle.class_file.specs.Pool.{entry_at, text_at, class_at}
use Rattle.class_file.specs.Sound.{is_some_that}
use Rattle.class_file.specs.WellFormed.{is_class_index, is_class_or_none, is_name_index, is_name_or_none, is_constant, receiver_slots}
use Rattle.class_format.specs.declared.known.Role.{Role}

abbrev pub is_text_index : List PoolEntry → ℕ → Bool
is_text_index pool index = is_some (text_at pool index)

-- the class itself is no array type
abbrev pub is_this_index : List PoolEntry → ℕ → Bool
is_this_index pool index = is_some_that is_class_name (class_at pool index)

abbrev pub is_type_index : List PoolEntry → ℕ → Bool
is_type_index pool index = is_some_that is_field_descriptor (text_at pool index)

-- the descriptor of a method with these flags
abbrev pub is_signature_index : List PoolEntry → ℕ → ℕ → Bool
is_signature_index pool flags index = is_some_that (is_method_descriptor_with (receiver_slots flags)) (text_at pool index)

abbrev pub is_constant_index : List PoolEntry → ℕ → Bool
is_constant_index pool index = is_some_that is_constant (entry_at pool index)

-- the index stands for what the role says
abbrev pub serves : List PoolEntry → Role → ℕ → Bool
serves pool Role.Text index = is_text_index pool index
serves pool Role.Class index = is_class_index pool index
serves pool Role.ClassOrNone index = is_class_or_none pool index
serves pool Role.ThisClass index = is_this_index pool index
serves pool Role.Name index = is_name_index pool index
serves pool Role.NameOrNone index = is_name_or_none pool index
serves pool Role.FieldType index = is_type_index pool index
serves pool (Role.MethodType receiver) index = is_some_that (is_method_descriptor_with (if receiver then 1 else 0)) (text_at pool index)
serves pool Role.Constant index = is_constant_index pool index
