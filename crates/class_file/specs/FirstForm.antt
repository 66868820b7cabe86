-- The classes of the first form: static methods without parameters and results, whose code prints texts and calls such methods of the same class.
use Rattle.std.specs.Prelude.{◌≡◌, ℕ, zero, suc, ◌+◌, ◌==◌, Bool, true, false, not, ◌&&◌, ◌||◌, if◌then◌else◌, List, [], ◌∷◌, length, Option, Some, None, is_some, Ok, Err, nat_lt, nat_le, bit_and, codes}
use Rattle.std.specs.List.{list_all, list_any, filter_map}
use Rattle.std.specs.Str.{bytes_eq}
use Rattle.class_file.specs.declared.pool.PoolEntry.{PoolEntry}
use Rattle.class_file.specs.declared.types.ClassFile.{ClassFile}
use Rattle.class_file.specs.declared.types.Member.{Member}
use Rattle.class_file.specs.declared.types.Attribute.{Attribute}
use Rattle.class_file.specs.declared.types.Content.{Content}
use Rattle.class_file.specs.declared.types.Content.TheVariants as content
use Rattle.class_file.specs.declared.types.CodeAttr.{CodeAttr}
use Rattle.opcode_table.specs.declared.insn.Insn.{Insn}
use Rattle.opcode_table.specs.Decoding.{Decoded, decoded}
use Rattle.class_file.specs.Text.{within}
use Rattle.class_file.specs.Pool.{Reference, text_at, string_at, field_at, method_at, this_name, super_name}
use Rattle.class_file.specs.Sound.{is_some_that}
use Rattle.class_file.specs.WellFormed.{is_well_formed}

-- ---- names

abbrev pub is_letter : ℕ → Bool
is_letter b = within 65 91 b || within 97 123 b

abbrev pub is_digit : ℕ → Bool
is_digit b = within 48 58 b

abbrev pub is_letter_or_digit : ℕ → Bool
is_letter_or_digit b = is_letter b || is_digit b

-- The keywords and literals of Java (the Java Language Specification, second edition, 3.9, 3.10), and the words of advice.
abbrev pub reserved_words : List (List ℕ)
reserved_words =
    codes "abstract" ∷ codes "assert" ∷ codes "boolean" ∷ codes "break" ∷ codes "byte" ∷ codes "case" ∷ codes "catch" ∷
    codes "char" ∷ codes "class" ∷ codes "const" ∷ codes "continue" ∷ codes "default" ∷ codes "do" ∷ codes "double" ∷
    codes "else" ∷ codes "extends" ∷ codes "final" ∷ codes "finally" ∷ codes "float" ∷ codes "for" ∷ codes "goto" ∷
    codes "if" ∷ codes "implements" ∷ codes "import" ∷ codes "instanceof" ∷ codes "int" ∷ codes "interface" ∷
    codes "long" ∷ codes "native" ∷ codes "new" ∷ codes "package" ∷ codes "private" ∷ codes "protected" ∷ codes "public" ∷
    codes "return" ∷ codes "short" ∷ codes "static" ∷ codes "strictfp" ∷ codes "super" ∷ codes "switch" ∷
    codes "synchronized" ∷ codes "this" ∷ codes "throw" ∷ codes "throws" ∷ codes "transient" ∷ codes "try" ∷
    codes "void" ∷ codes "volatile" ∷ codes "while" ∷ codes "true" ∷ codes "false" ∷ codes "null" ∷
    codes "aspect" ∷ codes "pointcut" ∷ codes "before" ∷ codes "after" ∷ codes "around" ∷ codes "declare" ∷ codes "returning" ∷
    codes "throwing" ∷ codes "proceed" ∷ codes "issingleton" ∷ []

abbrev pub begins_with_letter : List ℕ → Bool
begins_with_letter [] = false
begins_with_letter (b ∷ bytes) = is_letter b

abbrev pub is_reserved : List ℕ → Bool
is_reserved text = list_any (bytes_eq text) reserved_words

-- letters and digits of ASCII, a letter first, and no reserved word
abbrev pub is_identifier : List ℕ → Bool
is_identifier text = begins_with_letter text && (list_all is_letter_or_digit text && not (is_reserved text))

-- ---- instructions

abbrev pub is_printable : ℕ → Bool
is_printable b = within 32 127 b

-- a text of bytes 32 to 126
abbrev pub is_printable_text : List ℕ → Bool
is_printable_text text = list_all is_printable text

abbrev pub is_reference : List ℕ → List ℕ → List ℕ → Reference → Bool
is_reference class name descriptor r = bytes_eq r.class class && (bytes_eq r.member.name name && bytes_eq r.member.descriptor descriptor)

abbrev pub object_class : List ℕ
object_class = codes "java/lang/Object"

abbrev pub no_arguments : List ℕ
no_arguments = codes "()V"

-- the field System.out
abbrev pub is_system_out : Reference → Bool
is_system_out r = is_reference (codes "java/lang/System") (codes "out") (codes "Ljava/io/PrintStream;") r

-- the method println(String) of PrintStream
abbrev pub is_println : Reference → Bool
is_println r = is_reference (codes "java/io/PrintStream") (codes "println") (codes "(Ljava/lang/String;)V") r

-- a method of the class itself, without parameters and result
abbrev pub is_own_method : List ℕ → List (List ℕ) → Reference → Bool
is_own_method own methods r =
    bytes_eq r.class own && (list_any (bytes_eq r.member.name) methods && bytes_eq r.member.descriptor no_arguments)

-- 18 is ldc, 178 getstatic, 182 invokevirtual and 184 invokestatic
abbrev pub is_form_operand : List PoolEntry → List ℕ → List (List ℕ) → ℕ → ℕ → Bool
is_form_operand pool own methods op index =
    if op == 18 then is_some_that is_printable_text (string_at pool index) else
    (if op == 178 then is_some_that is_system_out (field_at pool index) else
    (if op == 182 then is_some_that is_println (method_at pool index) else
    (if op == 184 then is_some_that (is_own_method own methods) (method_at pool index) else false)))

-- 0 is nop and 177 return
abbrev pub is_form_insn : List PoolEntry → List ℕ → List (List ℕ) → Insn → Bool
is_form_insn pool own methods (Insn.Plain op) = op == 0 || op == 177
is_form_insn pool own methods (Insn.Pool op index) = is_form_operand pool own methods op index
is_form_insn pool own methods _ = false

-- the instruction passes, and so do those behind it
abbrev pub step_passes : (Insn → Bool) → (ℕ → Bool) → ℕ → Decoded → Bool
step_passes test next pc (Ok (insn, size)) = test insn && next (pc + size)
step_passes test next pc (Err fault) = false

-- each instruction from pc on passes, and the last one ends where the code does; there are at most as many as turns
abbrev pub insns_pass : (Insn → Bool) → List ℕ → ℕ → ℕ → Bool
insns_pass test code zero pc = pc == length code
insns_pass test code (suc turns) pc = pc == length code || step_passes test (insns_pass test code turns) pc (decoded code pc)

-- what is known of the place behind the instruction at pc: none, where the instruction fails
abbrev pub Steps : (Insn → Bool) → List ℕ → ℕ → Option ℕ → Type 0
Steps test code pc None = (next : ℕ → Bool) → step_passes test next pc (decoded code pc) ≡ false
Steps test code pc (Some place) = (next : ℕ → Bool) → step_passes test next pc (decoded code pc) ≡ next place

-- ---- methods

-- a Code without entries and attributes, of 1 to 1,000 bytes
abbrev pub is_plain_code : CodeAttr → Bool
is_plain_code c = length c.entries == 0 && (length c.attributes == 0 && within 1 1001 (length c.code))

abbrev pub has_form_code : List PoolEntry → List ℕ → List (List ℕ) → CodeAttr → Bool
has_form_code pool own methods c =
    is_plain_code c && insns_pass (is_form_insn pool own methods) c.code (length c.code) 0

abbrev pub is_form_content : List PoolEntry → List ℕ → List (List ℕ) → Content → Bool
is_form_content pool own methods (content.Code code) = has_form_code pool own methods code
is_form_content pool own methods _ = false

abbrev pub is_text : List PoolEntry → List ℕ → ℕ → Bool
is_text pool text index = is_some_that (bytes_eq text) (text_at pool index)

abbrev pub is_form_attribute : List PoolEntry → List ℕ → List (List ℕ) → Attribute → Bool
is_form_attribute pool own methods a = is_text pool (codes "Code") a.name && is_form_content pool own methods a.content

-- exactly one
abbrev pub is_single : {X : Type 0} → (X → Bool) → List X → Bool
is_single test [] = false
is_single test (x ∷ []) = test x
is_single test (x ∷ y ∷ xs) = false

-- static (8), and not synchronized (20), native (100), abstract (400) or synthetic (1000)
abbrev pub has_form_flags : ℕ → Bool
has_form_flags flags = bit_and flags 0x1528 == 0x0008

abbrev pub is_form_method : List PoolEntry → List ℕ → List (List ℕ) → Member → Bool
is_form_method pool own methods m =
    has_form_flags m.flags.0 && (is_some_that is_identifier (text_at pool m.name)
    && (is_text pool no_arguments m.descriptor && is_single (is_form_attribute pool own methods) m.attributes))

-- ---- the class

-- the names of the methods, in order
abbrev pub names_in : List PoolEntry → List Member → List (List ℕ)
names_in pool methods = filter_map (λ m. text_at pool m.name) methods

abbrev pub method_names : ClassFile → List (List ℕ)
method_names c = names_in c.pool c.methods

abbrev pub are_distinct : List (List ℕ) → Bool
are_distinct [] = true
are_distinct (text ∷ texts) = not (list_any (bytes_eq text) texts) && are_distinct texts

abbrev pub has_short_lists : ClassFile → Bool
has_short_lists c =
    nat_lt (length c.pool) 10000 && (length c.interfaces == 0 && (length c.fields == 0 && nat_le (length c.methods) 100))

abbrev pub has_form_names : ClassFile → Bool
has_form_names c = is_some_that is_identifier (this_name c) && is_some_that (bytes_eq object_class) (super_name c)

-- the class's own name, where it has one
abbrev pub own_name : Option (List ℕ) → List ℕ
own_name None = []
own_name (Some name) = name

abbrev pub has_form_methods : ClassFile → Bool
has_form_methods c =
    are_distinct (method_names c) && list_all (is_form_method c.pool (own_name (this_name c)) (method_names c)) c.methods

abbrev pub is_first_form : ClassFile → Bool
is_first_form c = is_well_formed c && (has_short_lists c && (has_form_names c && has_form_methods c))
