-- The form of a class file of Java 1.2 to 5, beside what its spelling says (JVMS, second edition,
-- chapter 4): which versions there are, what each index stands for, which attribute stands where, and
-- what code may be. A class that passes is what its spelling is read as.
use Rattle.std.specs.Prelude.{ℕ, ◌==◌, Bool, true, false, not, ◌&&◌, ◌||◌, if◌then◌else◌, List, [], ◌∷◌, Option, is_some, is_none, bit_and, codes}
use Rattle.std.specs.List.{list_all, list_any, cons_option}
use Rattle.std.specs.Str.{bytes_eq}
use Rattle.class_file.specs.declared.pool.PoolEntry.{PoolEntry}
use Rattle.class_file.specs.declared.pool.PoolEntry.TheVariants as entry
use Rattle.class_file.specs.declared.types.ClassFile.{ClassFile}
use Rattle.class_file.specs.declared.types.Member.{Member}
use Rattle.class_file.specs.declared.types.Attribute.{Attribute}
use Rattle.class_file.specs.declared.types.Content.{Content}
use Rattle.class_file.specs.declared.types.Content.TheVariants as content
use Rattle.class_file.specs.declared.types.CodeAttr.{CodeAttr}
use Rattle.class_file.specs.declared.types.CodeAttribute.{CodeAttribute}
use Rattle.class_file.specs.declared.types.CodeContent.{CodeContent}
use Rattle.class_file.specs.declared.types.CodeContent.TheVariants as code_content
use Rattle.class_file.specs.declared.types.ExceptionEntry.{ExceptionEntry}
use Rattle.class_file.specs.declared.types.InnerClass.{InnerClass}
use Rattle.class_file.specs.declared.types.VariableRow.{VariableRow}
use Rattle.class_file.specs.Range.{is_writable}
use Rattle.class_file.specs.Text.{within, is_class_name, is_member_name, is_field_descriptor, is_method_descriptor_with}
use Rattle.class_file.specs.Pool.{entry_at, text_at, class_at, this_name, super_name}
use Rattle.class_file.specs.Sound.{is_some_that, pool_is_sound}
use Rattle.class_file.specs.Code.{code_fault}

-- ---- which attribute stands where

-- what the format has an attribute hold
pub data Kind : Type 0 where
  Code : Kind
  ConstantValue : Kind
  Exceptions : Kind
  InnerClasses : Kind
  Synthetic : Kind
  Other : Kind

-- by its name among the attributes of a class, of a field and of a method (JVMS 4.7)
abbrev pub kind_in_class : List ℕ → Kind
kind_in_class name =
    if bytes_eq name (codes "InnerClasses") then Kind.InnerClasses else
    (if bytes_eq name (codes "Synthetic") then Kind.Synthetic else Kind.Other)

abbrev pub kind_in_field : List ℕ → Kind
kind_in_field name =
    if bytes_eq name (codes "ConstantValue") then Kind.ConstantValue else
    (if bytes_eq name (codes "Synthetic") then Kind.Synthetic else Kind.Other)

abbrev pub kind_in_method : List ℕ → Kind
kind_in_method name =
    if bytes_eq name (codes "Code") then Kind.Code else
    (if bytes_eq name (codes "Exceptions") then Kind.Exceptions else
    (if bytes_eq name (codes "Synthetic") then Kind.Synthetic else Kind.Other))

-- what the content is
abbrev pub is_of_kind : Kind → Content → Bool
is_of_kind Kind.Code (content.Code code) = true
is_of_kind Kind.ConstantValue (content.ConstantValue constant) = true
is_of_kind Kind.Exceptions (content.Exceptions classes) = true
is_of_kind Kind.InnerClasses (content.InnerClasses classes) = true
is_of_kind Kind.Synthetic content.Synthetic = true
is_of_kind Kind.Other (content.Other bytes) = true
is_of_kind _ _ = false

-- a second attribute of a name is kept as bytes
abbrev pub kind_after : (List ℕ → Kind) → List (List ℕ) → List ℕ → Kind
kind_after kind_in earlier name = if list_any (bytes_eq name) earlier then Kind.Other else kind_in name

-- The attributes have names, and each holds what the format has it hold, and passes the test; the names
-- of those before are given.
abbrev pub attributes_agree : (List ℕ → Kind) → (Content → Bool) → List PoolEntry → List (List ℕ) → List Attribute → Bool
attributes_agree kind_in test pool earlier [] = true
attributes_agree kind_in test pool earlier (a ∷ attributes) =
    is_some_that (λ name. is_of_kind (kind_after kind_in earlier name) a.content) (text_at pool a.name)
    && (test a.content && attributes_agree kind_in test pool (cons_option (text_at pool a.name) earlier) attributes)

-- what the format has an attribute of a Code hold
pub data CodeKind : Type 0 where
  Lines : CodeKind
  Variables : CodeKind
  VariableTypes : CodeKind
  Bytes : CodeKind

abbrev pub kind_in_code : List ℕ → CodeKind
kind_in_code name =
    if bytes_eq name (codes "LineNumberTable") then CodeKind.Lines else
    (if bytes_eq name (codes "LocalVariableTable") then CodeKind.Variables else
    (if bytes_eq name (codes "LocalVariableTypeTable") then CodeKind.VariableTypes else CodeKind.Bytes))

abbrev pub is_of_code_kind : CodeKind → CodeContent → Bool
is_of_code_kind CodeKind.Lines (code_content.LineNumberTable rows) = true
is_of_code_kind CodeKind.Variables (code_content.LocalVariableTable rows) = true
is_of_code_kind CodeKind.VariableTypes (code_content.LocalVariableTypeTable rows) = true
is_of_code_kind CodeKind.Bytes (code_content.Other bytes) = true
is_of_code_kind _ _ = false

-- ---- what indices stand for

abbrev pub is_class_index : List PoolEntry → ℕ → Bool
is_class_index pool index = is_some (class_at pool index)

-- or no class
abbrev pub is_class_or_none : List PoolEntry → ℕ → Bool
is_class_or_none pool index = index == 0 || is_class_index pool index

abbrev pub is_name_index : List PoolEntry → ℕ → Bool
is_name_index pool index = is_some_that is_member_name (text_at pool index)

abbrev pub is_name_or_none : List PoolEntry → ℕ → Bool
is_name_or_none pool index = index == 0 || is_name_index pool index

-- what a ConstantValue may name (JVMS 4.7.2)
abbrev pub is_constant : PoolEntry → Bool
is_constant (entry.Integer n) = true
is_constant (entry.Float bits) = true
is_constant (entry.Long n) = true
is_constant (entry.Double bits) = true
is_constant (entry.String text) = true
is_constant _ = false

abbrev pub inner_is_sound : List PoolEntry → InnerClass → Bool
inner_is_sound pool c = is_class_index pool c.inner && (is_class_or_none pool c.outer && is_name_or_none pool c.name)

-- a row of LocalVariableTable, and one of LocalVariableTypeTable, whose type may be any text
abbrev pub variable_is_sound : List PoolEntry → VariableRow → Bool
variable_is_sound pool r = is_name_index pool r.name && is_some_that is_field_descriptor (text_at pool r.descriptor)

abbrev pub variable_type_is_sound : List PoolEntry → VariableRow → Bool
variable_type_is_sound pool r = is_name_index pool r.name && is_some (text_at pool r.descriptor)

abbrev pub code_content_is_sound : List PoolEntry → CodeContent → Bool
code_content_is_sound pool (code_content.LocalVariableTable rows) = list_all (variable_is_sound pool) rows
code_content_is_sound pool (code_content.LocalVariableTypeTable rows) = list_all (variable_type_is_sound pool) rows
code_content_is_sound pool _ = true

abbrev pub code_attribute_is_sound : List PoolEntry → CodeAttribute → Bool
code_attribute_is_sound pool a =
    is_some_that (λ name. is_of_code_kind (kind_in_code name) a.content) (text_at pool a.name) && code_content_is_sound pool a.content

abbrev pub code_is_sound : ℕ → List PoolEntry → CodeAttr → Bool
code_is_sound major pool c =
    list_all (λ e. is_class_or_none pool e.catch_type) c.entries
    && (list_all (code_attribute_is_sound pool) c.attributes && is_none (code_fault major pool c))

abbrev pub content_is_sound : ℕ → List PoolEntry → Content → Bool
content_is_sound major pool (content.Code code) = code_is_sound major pool code
content_is_sound major pool (content.ConstantValue constant) = is_some_that is_constant (entry_at pool constant)
content_is_sound major pool (content.Exceptions classes) = list_all (is_class_index pool) classes
content_is_sound major pool (content.InnerClasses classes) = list_all (inner_is_sound pool) classes
content_is_sound major pool _ = true

-- ---- members

abbrev pub field_is_sound : ℕ → List PoolEntry → Member → Bool
field_is_sound major pool m =
    is_name_index pool m.name && (is_some_that is_field_descriptor (text_at pool m.descriptor)
    && attributes_agree kind_in_field (content_is_sound major pool) pool [] m.attributes)

-- the slots before the parameters: one for the receiver of a method that isn't static (8)
abbrev pub receiver_slots : ℕ → ℕ
receiver_slots flags = if bit_and flags 8 == 0 then 1 else 0

-- its receiver and parameters take at most 255 slots
abbrev pub method_is_sound : ℕ → List PoolEntry → Member → Bool
method_is_sound major pool m =
    is_name_index pool m.name && (is_some_that (is_method_descriptor_with (receiver_slots m.flags.0)) (text_at pool m.descriptor)
    && attributes_agree kind_in_method (content_is_sound major pool) pool [] m.attributes)

-- ---- the class

-- of Java 1.2 to 5
abbrev pub has_known_version : ClassFile → Bool
has_known_version c = within 46 50 c.major

-- the class itself is no array type
abbrev pub has_sound_names : ClassFile → Bool
has_sound_names c = is_some_that is_class_name (this_name c) && (is_some (super_name c) && list_all (is_class_index c.pool) c.interfaces)

abbrev pub has_sound_parts : ClassFile → Bool
has_sound_parts c =
    list_all (field_is_sound c.major c.pool) c.fields && (list_all (method_is_sound c.major c.pool) c.methods
    && attributes_agree kind_in_class (content_is_sound c.major c.pool) c.pool [] c.attributes)

-- the class is a class file
abbrev pub is_well_formed : ClassFile → Bool
is_well_formed c =
    is_writable c && (has_known_version c && (pool_is_sound c.pool && (has_sound_names c && has_sound_parts c)))
