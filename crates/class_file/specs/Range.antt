-- Which classes can be written: each number and each count fits its field (JVMS, second edition, 4.1 to 4.7).
use Rattle.std.specs.Prelude.{ℕ, ◌+◌, ◌^◌, Bool, true, ◌&&◌, List, length, nat_lt, ℤ, pos, negsuc}
use Rattle.std.specs.List.{list_all}
use Rattle.class_file.specs.declared.pool.PoolEntry.{PoolEntry}
use Rattle.class_file.specs.declared.pool.PoolEntry.TheVariants as entry
use Rattle.class_file.specs.declared.types.ClassFile.{ClassFile}
use Rattle.class_file.specs.declared.types.Member.{Member}
use Rattle.class_file.specs.declared.types.Attribute.{Attribute}
use Rattle.class_file.specs.declared.types.Content.{Content}
use Rattle.class_file.specs.declared.types.Content.TheVariants as content
use Rattle.class_file.specs.declared.types.CodeAttr.{CodeAttr}
use Rattle.class_file.specs.declared.types.CodeAttribute.{CodeAttribute}
use Rattle.class_file.specs.declared.types.CodeContent.{CodeContent}
use Rattle.class_file.specs.declared.types.CodeContent.TheVariants as code_content
use Rattle.class_file.specs.declared.types.ExceptionEntry.{ExceptionEntry}
use Rattle.class_file.specs.declared.types.InnerClass.{InnerClass}
use Rattle.class_file.specs.declared.types.LineRow.{LineRow}
use Rattle.class_file.specs.declared.types.VariableRow.{VariableRow}
use Rattle.class_file.specs.Spelling.{spelled_content, spelled_code_content}

-- a number of one, two, four or eight bytes
abbrev pub is_u1 : ℕ → Bool
is_u1 n = nat_lt n (2 ^ 8)

abbrev pub is_u2 : ℕ → Bool
is_u2 n = nat_lt n (2 ^ 16)

abbrev pub is_u4 : ℕ → Bool
is_u4 n = nat_lt n (2 ^ 32)

abbrev pub is_u8 : ℕ → Bool
is_u8 n = nat_lt n (2 ^ 64)

-- at least minus the bound, and below it: `negsuc n` is minus n and one
abbrev pub is_signed : ℕ → ℤ → Bool
is_signed bound (pos n) = nat_lt n bound
is_signed bound (negsuc n) = nat_lt n bound

-- a signed number of four or eight bytes
abbrev pub is_s4 : ℤ → Bool
is_s4 n = is_signed (2 ^ 31) n

abbrev pub is_s8 : ℤ → Bool
is_s8 n = is_signed (2 ^ 63) n

abbrev pub are_bytes : List ℕ → Bool
are_bytes bytes = list_all is_u1 bytes

-- a list whose count takes two bytes, and whose items fit
abbrev pub counted_fits : {X : Type 0} → (X → Bool) → List X → Bool
counted_fits fits xs = is_u2 (length xs) && list_all fits xs

abbrev pub entry_fits : PoolEntry → Bool
entry_fits (entry.Utf8 text) = is_u2 (length text) && are_bytes text
entry_fits (entry.Integer n) = is_s4 n
entry_fits (entry.Float bits) = is_u4 bits
entry_fits (entry.Long n) = is_s8 n
entry_fits (entry.Double bits) = is_u8 bits
entry_fits (entry.Class name) = is_u2 name
entry_fits (entry.String text) = is_u2 text
entry_fits (entry.Fieldref class member) = is_u2 class && is_u2 member
entry_fits (entry.Methodref class member) = is_u2 class && is_u2 member
entry_fits (entry.InterfaceMethodref class member) = is_u2 class && is_u2 member
entry_fits (entry.NameAndType name descriptor) = is_u2 name && is_u2 descriptor
entry_fits entry.Second = true

-- the pool count is one more than the pool's length
abbrev pub pool_fits : List PoolEntry → Bool
pool_fits pool = is_u2 (length pool + 1) && list_all entry_fits pool

abbrev pub exception_fits : ExceptionEntry → Bool
exception_fits e = is_u2 e.start && (is_u2 e.end && (is_u2 e.handler && is_u2 e.catch_type))

abbrev pub inner_fits : InnerClass → Bool
inner_fits c = is_u2 c.inner && (is_u2 c.outer && (is_u2 c.name && is_u2 c.flags.0))

abbrev pub line_fits : LineRow → Bool
line_fits r = is_u2 r.start && is_u2 r.line

abbrev pub variable_fits : VariableRow → Bool
variable_fits r = is_u2 r.start && (is_u2 r.length && (is_u2 r.name && (is_u2 r.descriptor && is_u2 r.index)))

abbrev pub code_content_fits : CodeContent → Bool
code_content_fits (code_content.LineNumberTable rows) = counted_fits line_fits rows
code_content_fits (code_content.LocalVariableTable rows) = counted_fits variable_fits rows
code_content_fits (code_content.LocalVariableTypeTable rows) = counted_fits variable_fits rows
code_content_fits (code_content.Other bytes) = are_bytes bytes

-- the length of the content takes four bytes
abbrev pub code_attribute_fits : CodeAttribute → Bool
code_attribute_fits a = is_u2 a.name && (is_u4 (length (spelled_code_content a.content)) && code_content_fits a.content)

abbrev pub code_fits : CodeAttr → Bool
code_fits c =
    is_u2 c.max_stack && (is_u2 c.max_locals && (is_u4 (length c.code) && (are_bytes c.code
    && (counted_fits exception_fits c.entries && counted_fits code_attribute_fits c.attributes))))

abbrev pub content_fits : Content → Bool
content_fits (content.Code code) = code_fits code
content_fits (content.ConstantValue constant) = is_u2 constant
content_fits (content.Exceptions classes) = counted_fits is_u2 classes
content_fits (content.InnerClasses classes) = counted_fits inner_fits classes
content_fits content.Synthetic = true
content_fits (content.Other bytes) = are_bytes bytes

abbrev pub attribute_fits : Attribute → Bool
attribute_fits a = is_u2 a.name && (is_u4 (length (spelled_content a.content)) && content_fits a.content)

abbrev pub member_fits : Member → Bool
member_fits m = is_u2 m.flags.0 && (is_u2 m.name && (is_u2 m.descriptor && counted_fits attribute_fits m.attributes))

-- the class has a spelling in which each number and each count takes its field
abbrev pub is_writable : ClassFile → Bool
is_writable c =
    is_u2 c.minor && (is_u2 c.major && (pool_fits c.pool && (is_u2 c.flags.0
    && (is_u2 c.this_class && (is_u2 c.super_class && (counted_fits is_u2 c.interfaces
    && (counted_fits member_fits c.fields && (counted_fits member_fits c.methods
    && counted_fits attribute_fits c.attributes))))))))
