-- Reading attributes, fields and methods (JVMS 4.5 to 4.7). Each index is judged as soon as it is read.
use Rattle.std.specs.Prelude.{ℕ, Bool, List, [], Option, Some, None, Ok}
use Rattle.std.specs.List.{cons_option}
use Rattle.std.specs.Int.{w16, w32}
use Rattle.class_file.specs.declared.pool.PoolEntry.{PoolEntry}
use Rattle.class_file.specs.declared.types.Member.{Member}
use Rattle.class_file.specs.declared.types.Attribute.{Attribute}
use Rattle.class_file.specs.declared.types.Content.{Content}
use Rattle.class_file.specs.declared.types.Content.TheVariants as content
use Rattle.class_file.specs.declared.types.CodeAttr.{CodeAttr}
use Rattle.class_file.specs.declared.types.CodeAttribute.{CodeAttribute}
use Rattle.class_file.specs.declared.types.CodeContent.{CodeContent}
use Rattle.class_file.specs.declared.types.CodeContent.TheVariants as code_content
use Rattle.class_file.specs.declared.types.ExceptionEntry.{ExceptionEntry}
use Rattle.class_file.specs.declared.types.InnerClass.{InnerClass}
use Rattle.class_file.specs.declared.types.LineRow.{LineRow}
use Rattle.class_file.specs.declared.types.VariableRow.{VariableRow}
use Rattle.class_file.specs.Pool.{text_at}
use Rattle.class_file.specs.Code.{code_fault}
use Rattle.class_file.specs.WellFormed.{Kind, kind_in_field, kind_in_method, kind_after, CodeKind, kind_in_code, is_class_index, is_class_or_none, is_name_index, is_name_or_none}
use Rattle.class_format.specs.declared.fault.ClassFault.TheVariants.{Code}
use Rattle.class_format.specs.Roles.{is_text_index, is_type_index, is_signature_index, is_constant_index}
use Rattle.class_format.specs.Readers.{◌>>=◌, Reader, number, sized, both, made, listed, in_turn, index_that, unless, others, behind_length}

-- ---- rows of tables

abbrev pub to_exception : ℕ × (ℕ × (ℕ × ℕ)) → ExceptionEntry
to_exception e = record { start = e.0; end = e.1.0; handler = e.1.1.0; catch_type = e.1.1.1 }

unfoldable pub exception : List PoolEntry → Reader ExceptionEntry
exception pool scope bytes =
    made to_exception (both (number w16) (both (number w16) (both (number w16) (index_that (is_class_or_none pool))))) scope bytes

abbrev pub to_inner : ℕ × (ℕ × (ℕ × ℕ)) → InnerClass
to_inner c = record { inner = c.0; outer = c.1.0; name = c.1.1.0; flags = record { 0 = c.1.1.1 } }

unfoldable pub inner_class : List PoolEntry → Reader InnerClass
inner_class pool scope bytes =
    made to_inner (both (index_that (is_class_index pool)) (both (index_that (is_class_or_none pool)) (both (index_that (is_name_or_none pool)) (number w16)))) scope bytes

abbrev pub to_line : ℕ × ℕ → LineRow
to_line r = record { start = r.0; line = r.1 }

unfoldable pub line : Reader LineRow
line scope bytes = made to_line (both (number w16) (number w16)) scope bytes

abbrev pub to_variable : ℕ × (ℕ × (ℕ × (ℕ × ℕ))) → VariableRow
to_variable r = record { start = r.0; length = r.1.0; name = r.1.1.0; descriptor = r.1.1.1.0; index = r.1.1.1.1 }

-- a local variable whose type passes the test
unfoldable pub variable : (ℕ → Bool) → List PoolEntry → Reader VariableRow
variable is_type pool scope bytes =
    made to_variable (both (number w16) (both (number w16) (both (index_that (is_name_index pool)) (both (index_that is_type) (number w16))))) scope bytes

-- ---- the code of a method

unfoldable pub in_code : List PoolEntry → CodeKind → Reader CodeContent
in_code pool CodeKind.Lines scope bytes = made code_content.LineNumberTable (listed line) scope bytes
in_code pool CodeKind.Variables scope bytes = made code_content.LocalVariableTable (listed (variable (is_type_index pool) pool)) scope bytes
in_code pool CodeKind.VariableTypes scope bytes = made code_content.LocalVariableTypeTable (listed (variable (is_text_index pool) pool)) scope bytes
in_code pool CodeKind.Bytes scope bytes = made code_content.Other others scope bytes

-- what an attribute of a Code holds, by the index of its name
abbrev pub code_kind_at : List PoolEntry → ℕ → CodeKind
code_kind_at pool index = elim (text_at pool index) [ Some name ↦ kind_in_code name | None ↦ CodeKind.Bytes ]

abbrev pub to_code_attribute : ℕ → CodeContent → CodeAttribute
to_code_attribute name held = record { name = name; content = held }

unfoldable pub code_attribute : List PoolEntry → Reader CodeAttribute
code_attribute pool scope bytes =
    index_that (is_text_index pool) scope bytes >>= λ name. made (to_code_attribute name.0) (behind_length (in_code pool (code_kind_at pool name.0))) scope name.1

abbrev pub to_code : ℕ × (ℕ × (List ℕ × (List ExceptionEntry × List CodeAttribute))) → CodeAttr
to_code c = record { max_stack = c.0; max_locals = c.1.0; code = c.1.1.0; entries = c.1.1.1.0; attributes = c.1.1.1.1 }

unfoldable pub code : List PoolEntry → Reader CodeAttr
code pool scope bytes =
    made to_code (both (number w16) (both (number w16) (both (sized w32) (both (listed (exception pool)) (listed (code_attribute pool)))))) scope bytes

-- ---- attributes

unfoldable pub held : List PoolEntry → Kind → Reader Content
held pool Kind.Code scope bytes = made content.Code (code pool) scope bytes
held pool Kind.ConstantValue scope bytes = made content.ConstantValue (index_that (is_constant_index pool)) scope bytes
held pool Kind.Exceptions scope bytes = made content.Exceptions (listed (index_that (is_class_index pool))) scope bytes
held pool Kind.InnerClasses scope bytes = made content.InnerClasses (listed (inner_class pool)) scope bytes
held pool Kind.Synthetic scope bytes = Ok (content.Synthetic, bytes)
held pool Kind.Other scope bytes = made content.Other others scope bytes

-- what an attribute holds, by the index of its name and the names of the earlier ones
abbrev pub kind_at : (List ℕ → Kind) → List PoolEntry → List (List ℕ) → ℕ → Kind
kind_at kind_in pool earlier index = elim (text_at pool index) [ Some name ↦ kind_after kind_in earlier name | None ↦ Kind.Other ]

-- where its code is wrong
abbrev pub fault_in : ℕ → List PoolEntry → Content → Option ℕ
fault_in major pool (content.Code code) = code_fault major pool code
fault_in major pool _ = None

abbrev pub to_attribute : ℕ → Content → Attribute
to_attribute name held = record { name = name; content = held }

-- An attribute of a class of this major and pool. The position is that of the method in which it
-- stands: where attributes of this kind have no Code, any.
unfoldable pub attribute : (List ℕ → Kind) → ℕ → List PoolEntry → ℕ → List (List ℕ) → Reader Attribute
attribute kind_in major pool position earlier scope bytes =
    index_that (is_text_index pool) scope bytes >>= λ name.
    behind_length (held pool (kind_at kind_in pool earlier name.0)) scope name.1 >>= λ c.
    unless (fault_in major pool c.0) (Code position) (to_attribute name.0 c.0, c.1)

-- the names of the earlier attributes, with that of one more
abbrev pub with_name : List PoolEntry → List (List ℕ) → Attribute → List (List ℕ)
with_name pool earlier a = cons_option (text_at pool a.name) earlier

unfoldable pub attributes : (List ℕ → Kind) → ℕ → List PoolEntry → ℕ → Reader (List Attribute)
attributes kind_in major pool position scope bytes =
    number w16 scope bytes >>= λ n. in_turn (attribute kind_in major pool position) (with_name pool) [] n.0 scope n.1

-- ---- fields and methods

abbrev pub Head : Type 0
Head = ℕ × (ℕ × ℕ)

-- flags, name and descriptor, which passes the test for these flags
unfoldable pub head : (ℕ → ℕ → Bool) → List PoolEntry → Reader Head
head is_type pool scope bytes =
    number w16 scope bytes >>= λ flags. made (λ h. (flags.0, h)) (both (index_that (is_name_index pool)) (index_that (is_type flags.0))) scope flags.1

abbrev pub to_member : Head × List Attribute → Member
to_member m = record { flags = record { 0 = m.0.0 }; name = m.0.1.0; descriptor = m.0.1.1; attributes = m.1 }

unfoldable pub field : ℕ → List PoolEntry → Reader Member
field major pool scope bytes =
    made to_member (both (head (λ flags. is_type_index pool) pool) (attributes kind_in_field major pool 0)) scope bytes

-- the method of this position
unfoldable pub method : ℕ → List PoolEntry → ℕ → Reader Member
method major pool position scope bytes =
    made to_member (both (head (is_signature_index pool) pool) (attributes kind_in_method major pool position)) scope bytes
