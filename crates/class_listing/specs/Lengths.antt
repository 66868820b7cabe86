-- How many bytes stand in an attribute behind its length (JVMS 4.7).
use Rattle.std.specs.Prelude.{ℕ, ◌+◌, ◌*◌, List, [], ◌∷◌, length}
use Rattle.class_file.specs.declared.types.CodeAttr.{CodeAttr}
use Rattle.class_file.specs.declared.types.CodeAttribute.{CodeAttribute}
use Rattle.class_file.specs.declared.types.CodeContent.{CodeContent}
use Rattle.class_file.specs.declared.types.CodeContent.TheVariants as code_content
use Rattle.class_file.specs.declared.types.Content.{Content}
use Rattle.class_file.specs.declared.types.Content.TheVariants as content

-- a count of two bytes, and rows of 4 or 10
abbrev pub code_content_length : CodeContent → ℕ
code_content_length (code_content.LineNumberTable rows) = 2 + 4 * length rows
code_content_length (code_content.LocalVariableTable rows) = 2 + 10 * length rows
code_content_length (code_content.LocalVariableTypeTable rows) = 2 + 10 * length rows
code_content_length (code_content.Other bytes) = length bytes

-- each with its name and length, which take 6 bytes
abbrev pub attributes_length : List CodeAttribute → ℕ
attributes_length [] = 0
attributes_length (a ∷ attributes) = 6 + code_content_length a.content + attributes_length attributes

-- the sizes of the stack and of the locals, the length of the code and the two counts take 12 bytes
abbrev pub code_length : CodeAttr → ℕ
code_length c = 12 + length c.code + 8 * length c.entries + attributes_length c.attributes

abbrev pub content_length : Content → ℕ
content_length (content.Code c) = code_length c
content_length (content.ConstantValue index) = 2
content_length (content.Exceptions classes) = 2 + 2 * length classes
content_length (content.InnerClasses rows) = 2 + 8 * length rows
content_length content.Synthetic = 0
content_length (content.Other bytes) = length bytes
