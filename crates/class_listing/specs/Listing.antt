-- The listing of a class file: the lines of class text that say it (JVMS 4.1), and a line for each attribute that class text can't say.
use Rattle.std.specs.Prelude.{ℕ, List, [], ◌∷◌, ◌++◌, map, codes, Option, Some, None}
use Rattle.std.specs.List.{flat_map}
use Rattle.std.specs.Fmt.{decimal}
use Rattle.class_file.specs.declared.pool.PoolEntry.{PoolEntry}
use Rattle.class_file.specs.declared.types.ClassFile.{ClassFile}
use Rattle.class_file.specs.declared.types.Member.{Member}
use Rattle.class_file.specs.declared.types.Attribute.{Attribute}
use Rattle.class_file.specs.declared.types.CodeAttr.{CodeAttr}
use Rattle.class_file.specs.declared.types.CodeAttribute.{CodeAttribute}
use Rattle.class_file.specs.declared.types.Content.{Content}
use Rattle.class_file.specs.declared.types.Content.TheVariants as content
use Rattle.class_file.specs.Code.{Placed}
use Rattle.class_lines.specs.declared.line.Line.{Line}
use Rattle.class_lines.specs.declared.line.MemberHead.{MemberHead}
use Rattle.class_lines.specs.Words.{Text}
use Rattle.class_lines.specs.Printing.{spaced, line_text}
use Rattle.class_lines.specs.Utf8.{utf8_of}
use Rattle.class_listing.specs.declared.listed.Listed.{Listed}
use Rattle.class_listing.specs.Names.{text_shown, class_shown}
use Rattle.class_listing.specs.Lengths.{code_content_length, content_length}
use Rattle.class_listing.specs.Steps.{lines_of, insns_of}

-- ---- attributes

-- an attribute that class text can't say
abbrev pub attribute : List PoolEntry → Attribute → Listed
attribute pool a = Listed.Attribute (text_shown pool a.name) (content_length a.content)

abbrev pub code_attribute : List PoolEntry → CodeAttribute → Listed
code_attribute pool a = Listed.Attribute (text_shown pool a.name) (code_content_length a.content)

-- the lines of code, if it has instructions, with the other attributes in it; else the attribute
abbrev pub body : List PoolEntry → Attribute → CodeAttr → Option (List Placed) → List Listed
body pool a c None = attribute pool a ∷ []
body pool a c (Some insns) = map Listed.Line (lines_of pool c insns) ++ map (code_attribute pool) c.attributes

-- an attribute of a method, with an `end` behind code
abbrev pub method_attribute : List PoolEntry → Attribute → Content → List Listed
method_attribute pool a (content.Code c) = body pool a c (insns_of c.code) ++ Listed.Line Line.End ∷ []
method_attribute pool a _ = attribute pool a ∷ []

-- ---- members

abbrev pub head : List PoolEntry → Member → MemberHead
head pool m = record { name = text_shown pool m.name; descriptor = text_shown pool m.descriptor; flags = m.flags.0 }

abbrev pub field : List PoolEntry → Member → List Listed
field pool m = Listed.Line (Line.Field (head pool m)) ∷ map (attribute pool) m.attributes

abbrev pub or_code : Content → Option CodeAttr → Option CodeAttr
or_code (content.Code c) other = Some c
or_code _ other = other

-- the first code among the attributes
abbrev pub code_of : List Attribute → Option CodeAttr
code_of [] = None
code_of (a ∷ attributes) = or_code a.content (code_of attributes)

abbrev pub method_line : MemberHead → Option CodeAttr → Line
method_line head None = Line.Bare head
method_line head (Some c) = Line.Method head c.max_stack c.max_locals

abbrev pub method : List PoolEntry → Member → List Listed
method pool m = Listed.Line (method_line (head pool m) (code_of m.attributes)) ∷ flat_map (λ (a : Attribute). method_attribute pool a a.content) m.attributes

-- ---- the class

abbrev pub class_line : ClassFile → Line
class_line c = Line.Class (class_shown c.pool c.this_class) (class_shown c.pool c.super_class) c.major c.flags.0 (map (class_shown c.pool) c.interfaces)

-- the class, its fields, its methods and its attributes
abbrev pub listing_of : ClassFile → List Listed
listing_of c =
    Listed.Line (class_line c) ∷ flat_map (field c.pool) c.fields ++ flat_map (method c.pool) c.methods ++ map (attribute c.pool) c.attributes

-- ---- the text

-- `attribute NAME N`, which is no line of class text
abbrev pub attribute_text : Text → ℕ → Text
attribute_text name length = codes "attribute" ++ spaced (utf8_of name) ++ spaced (decimal length)

-- a line in UTF-8
abbrev pub listed_text : Listed → Text
listed_text (Listed.Line line) = utf8_of (line_text line)
listed_text (Listed.Attribute name length) = attribute_text name length

-- each line with its line feed
abbrev pub listing_text : List Listed → Text
listing_text listing = flat_map (λ (l : Listed). listed_text l ++ 10 ∷ []) listing
