-- The one spelling of each class file (JVMS, second edition, chapter 4): all numbers are big-endian,
-- and each list stands behind its count.
use Rattle.std.specs.Prelude.{ℕ, ◌+◌, List, [], ◌∷◌, ◌++◌, length}
use Rattle.std.specs.List.{flat_map}
use Rattle.std.specs.Int.{w16, w32, w64, to_be_bytes, cast_unsigned}
use Rattle.class_file.specs.declared.pool.PoolEntry.{PoolEntry}
use Rattle.class_file.specs.declared.pool.PoolEntry.TheVariants as entry
use Rattle.class_file.specs.declared.types.ClassFile.{ClassFile}
use Rattle.class_file.specs.declared.types.Member.{Member}
use Rattle.class_file.specs.declared.types.Attribute.{Attribute}
use Rattle.class_file.specs.declared.types.Content.{Content}
use Rattle.class_file.specs.declared.types.Content.TheVariants as content
use Rattle.class_file.specs.declared.types.CodeAttr.{CodeAttr}
use Rattle.class_file.specs.declared.types.CodeAttribute.{CodeAttribute}
use Rattle.class_file.specs.declared.types.CodeContent.{CodeContent}
use Rattle.class_file.specs.declared.types.CodeContent.TheVariants as code_content
use Rattle.class_file.specs.declared.types.ExceptionEntry.{ExceptionEntry}
use Rattle.class_file.specs.declared.types.InnerClass.{InnerClass}
use Rattle.class_file.specs.declared.types.LineRow.{LineRow}
use Rattle.class_file.specs.declared.types.VariableRow.{VariableRow}

abbrev pub u2 : ℕ → List ℕ
u2 n = to_be_bytes w16 n

abbrev pub u4 : ℕ → List ℕ
u4 n = to_be_bytes w32 n

abbrev pub u8 : ℕ → List ℕ
u8 n = to_be_bytes w64 n

-- a list behind its count
abbrev pub counted : {X : Type 0} → (X → List ℕ) → List X → List ℕ
counted item xs = u2 (length xs) ++ flat_map item xs

-- an entry of the pool: a tag, and what goes with it (JVMS 4.4)
abbrev pub spelled_entry : PoolEntry → List ℕ
spelled_entry (entry.Utf8 text) = 1 ∷ (u2 (length text) ++ text)
spelled_entry (entry.Integer n) = 3 ∷ u4 (cast_unsigned w32 n)
spelled_entry (entry.Float bits) = 4 ∷ u4 bits
spelled_entry (entry.Long n) = 5 ∷ u8 (cast_unsigned w64 n)
spelled_entry (entry.Double bits) = 6 ∷ u8 bits
spelled_entry (entry.Class name) = 7 ∷ u2 name
spelled_entry (entry.String text) = 8 ∷ u2 text
spelled_entry (entry.Fieldref class name) = 9 ∷ (u2 class ++ u2 name)
spelled_entry (entry.Methodref class name) = 10 ∷ (u2 class ++ u2 name)
spelled_entry (entry.InterfaceMethodref class name) = 11 ∷ (u2 class ++ u2 name)
spelled_entry (entry.NameAndType name descriptor) = 12 ∷ (u2 name ++ u2 descriptor)
spelled_entry entry.Second = []

-- the pool stands behind a count that is one more than its length (JVMS 4.1)
abbrev pub spelled_pool : List PoolEntry → List ℕ
spelled_pool pool = u2 (length pool + 1) ++ flat_map spelled_entry pool

-- an attribute: the index of its name, and its content behind the length (JVMS 4.7)
abbrev pub named : ℕ → List ℕ → List ℕ
named name bytes = u2 name ++ (u4 (length bytes) ++ bytes)

abbrev pub spelled_exception : ExceptionEntry → List ℕ
spelled_exception e = u2 e.start ++ (u2 e.end ++ (u2 e.handler ++ u2 e.catch_type))

abbrev pub spelled_inner : InnerClass → List ℕ
spelled_inner c = u2 c.inner ++ (u2 c.outer ++ (u2 c.name ++ u2 c.flags.0))

abbrev pub spelled_line : LineRow → List ℕ
spelled_line r = u2 r.start ++ u2 r.line

abbrev pub spelled_variable : VariableRow → List ℕ
spelled_variable r = u2 r.start ++ (u2 r.length ++ (u2 r.name ++ (u2 r.descriptor ++ u2 r.index)))

abbrev pub spelled_code_content : CodeContent → List ℕ
spelled_code_content (code_content.LineNumberTable rows) = counted spelled_line rows
spelled_code_content (code_content.LocalVariableTable rows) = counted spelled_variable rows
spelled_code_content (code_content.LocalVariableTypeTable rows) = counted spelled_variable rows
spelled_code_content (code_content.Other bytes) = bytes

abbrev pub spelled_code_attribute : CodeAttribute → List ℕ
spelled_code_attribute a = named a.name (spelled_code_content a.content)

-- the content of a Code attribute (JVMS 4.7.3)
abbrev pub spelled_code : CodeAttr → List ℕ
spelled_code c =
    u2 c.max_stack ++ (u2 c.max_locals ++ (u4 (length c.code) ++ (c.code
    ++ (counted spelled_exception c.entries ++ counted spelled_code_attribute c.attributes))))

abbrev pub spelled_content : Content → List ℕ
spelled_content (content.Code code) = spelled_code code
spelled_content (content.ConstantValue constant) = u2 constant
spelled_content (content.Exceptions classes) = counted u2 classes
spelled_content (content.InnerClasses classes) = counted spelled_inner classes
spelled_content content.Synthetic = []
spelled_content (content.Other bytes) = bytes

abbrev pub spelled_attribute : Attribute → List ℕ
spelled_attribute a = named a.name (spelled_content a.content)

-- a field or a method (JVMS 4.5, 4.6)
abbrev pub spelled_member : Member → List ℕ
spelled_member m = u2 m.flags.0 ++ (u2 m.name ++ (u2 m.descriptor ++ counted spelled_attribute m.attributes))

-- 0xCAFEBABE, the number with which each class file begins
abbrev pub magic : List ℕ
magic = 202 ∷ 254 ∷ 186 ∷ 190 ∷ []

-- the bytes of a class file (JVMS 4.1)
abbrev pub spelling : ClassFile → List ℕ
spelling c =
    magic ++ (u2 c.minor ++ (u2 c.major ++ (spelled_pool c.pool
    ++ (u2 c.flags.0 ++ (u2 c.this_class ++ (u2 c.super_class ++ (counted u2 c.interfaces
    ++ (counted spelled_member c.fields ++ (counted spelled_member c.methods
    ++ counted spelled_attribute c.attributes)))))))))
