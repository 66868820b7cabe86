-- A class, from its lines (JVMS 4.1). The entries of its pool are made as the class file is read from this class to its end.
use Rattle.std.specs.Prelude.{ℕ, ◌+◌, Bool, true, nat_le, nat_lt, if◌then◌else◌, List, [], ◌∷◌, ◌++◌, length, codes, Option, Some, None, Result, Ok, Err}
use Rattle.std.specs.List.{cons_option}
use Rattle.class_file.specs.declared.pool.PoolEntry.{PoolEntry}
use Rattle.class_file.specs.declared.types.ClassFile.{ClassFile}
use Rattle.class_file.specs.declared.types.Member.{Member}
use Rattle.class_file.specs.declared.types.Attribute.{Attribute}
use Rattle.class_file.specs.declared.types.Content.TheVariants as content
use Rattle.class_file.specs.declared.types.ExceptionEntry.{ExceptionEntry}
use Rattle.class_lines.specs.declared.line.Line.{Line}
use Rattle.class_lines.specs.declared.line.MemberHead.{MemberHead}
use Rattle.class_lines.specs.Words.{Text}
use Rattle.class_text.specs.declared.numbered.Numbered.{Numbered}
use Rattle.class_text.specs.Gives.{◌>>=◌, Making}
use Rattle.class_text.specs.Labels.{is_end, place_of, place_behind}
use Rattle.class_text.specs.Pool.{text_made, class_made, index_made}
use Rattle.class_text.specs.Bytes.{operation_bytes}

-- ---- code

-- the bytes of the instruction of a line, if it has one, with lines of its method and its place
abbrev pub step_made : ℕ → List Numbered → ℕ → ℕ → Option Line → List PoolEntry → Making (List ℕ)
step_made version body pc number (Some (Line.Step label operation)) pool =
    index_made version number operation pool >>= (λ index. Ok (index.0, operation_bytes body pc index.1 operation))
step_made version body pc number _ pool = Ok (pool, [])

-- the bytes of the lines up to the method's end
abbrev pub steps_made : ℕ → List Numbered → ℕ → List Numbered → List PoolEntry → Making (List ℕ)
steps_made version body pc [] pool = Ok (pool, [])
steps_made version body pc (line ∷ lines) pool =
    if is_end line.line then Ok (pool, []) else (do
      step ← step_made version body pc line.number line.line pool
      more ← steps_made version body (place_behind pc line.line) lines step.0
      Ok (more.0, step.1 ++ more.1))

-- a place of two bytes, which each one is where the lines are right
abbrev pub place_index : Option ℕ → ℕ
place_index None = 0
place_index (Some place) = if nat_le place 65535 then place else 0

-- the class that is caught; 0 is any
abbrev pub caught_made : ℕ → Option Text → List PoolEntry → Making ℕ
caught_made number None pool = Ok (pool, 0)
caught_made number (Some class) pool = class_made number class pool

abbrev pub at_label : List Numbered → Text → ℕ
at_label body name = place_index (place_of name 0 body)

-- the entry of a line, if it has one
abbrev pub entry_made : List Numbered → ℕ → Option Line → List PoolEntry → Making (Option ExceptionEntry)
entry_made body number (Some (Line.Catch from to handler class)) pool =
    caught_made number class pool >>= (λ caught. Ok (caught.0, Some (record { start = at_label body from; end = at_label body to; handler = at_label body handler; catch_type = caught.1 })))
entry_made body number _ pool = Ok (pool, None)

-- there is room for one more, so that two bytes count them
abbrev pub has_room : {X : Type 0} → ℕ → Option X → Bool
has_room count None = true
has_room count (Some x) = nat_lt count 65535

-- this one, if it is there, and more
abbrev pub counted : {X : Type 0} → ℕ → ℕ → Option X → Making (List X) → Making (List X)
counted number count one more = if has_room count one then (more >>= (λ m. Ok (m.0, cons_option one m.1))) else Err number

abbrev pub count_with : {X : Type 0} → ℕ → Option X → ℕ
count_with count None = count
count_with count (Some x) = count + 1

-- the entries of the lines up to the method's end; there were some before
abbrev pub entries_made : List Numbered → ℕ → List Numbered → List PoolEntry → Making (List ExceptionEntry)
entries_made body count [] pool = Ok (pool, [])
entries_made body count (line ∷ lines) pool =
    if is_end line.line then Ok (pool, []) else
    (entry_made body line.number line.line pool >>= (λ one. counted line.number count one.1 (entries_made body (count_with count one.1) lines one.0)))

-- ---- members

abbrev pub head_made : ℕ → MemberHead → List PoolEntry → Making (ℕ × ℕ)
head_made number head pool = do
  name ← text_made number head.name pool
  descriptor ← text_made number head.descriptor name.0
  Ok (descriptor.0, (name.1, descriptor.1))

abbrev pub bare_made : ℕ → MemberHead → List PoolEntry → Making Member
bare_made number head pool = do
  names ← head_made number head pool
  Ok (names.0, record { flags = record { 0 = head.flags }; name = names.1.0; descriptor = names.1.1; attributes = [] })

-- a method with code, from the lines behind its own
abbrev pub code_made : ℕ → ℕ → ℕ → List Numbered → ℕ → List PoolEntry → Making (List Attribute)
code_made version stack locals body number pool = do
  name ← text_made number (codes "Code") pool
  code ← steps_made version body 0 body name.0
  entries ← entries_made body 0 body code.0
  Ok (entries.0, record { name = name.1; content = content.Code (record { max_stack = stack; max_locals = locals; code = code.1; entries = entries.1; attributes = [] }) } ∷ [])

abbrev pub method_made : ℕ → List Numbered → ℕ → MemberHead → ℕ → ℕ → List PoolEntry → Making Member
method_made version body number head stack locals pool = do
  names ← head_made number head pool
  attributes ← code_made version stack locals body number names.0
  Ok (attributes.0, record { flags = record { 0 = head.flags }; name = names.1.0; descriptor = names.1.1; attributes = attributes.1 })

abbrev pub one_of : {X : Type 0} → Making X → Making (Option X)
one_of made = made >>= (λ x. Ok (x.0, Some x.1))

-- the field of a line, if it has one
abbrev pub field_made : ℕ → Option Line → List PoolEntry → Making (Option Member)
field_made number (Some (Line.Field head)) pool = one_of (bare_made number head pool)
field_made number _ pool = Ok (pool, None)

-- the method of a line, if it has one, with the lines behind it
abbrev pub any_method_made : ℕ → List Numbered → ℕ → Option Line → List PoolEntry → Making (Option Member)
any_method_made version body number (Some (Line.Method head stack locals)) pool = one_of (method_made version body number head stack locals pool)
any_method_made version body number (Some (Line.Bare head)) pool = one_of (bare_made number head pool)
any_method_made version body number _ pool = Ok (pool, None)

-- those of the lines; there were some before
abbrev pub fields_made : ℕ → List Numbered → List PoolEntry → Making (List Member)
fields_made count [] pool = Ok (pool, [])
fields_made count (line ∷ lines) pool =
    field_made line.number line.line pool >>= (λ one. counted line.number count one.1 (fields_made (count_with count one.1) lines one.0))

abbrev pub methods_made : ℕ → ℕ → List Numbered → List PoolEntry → Making (List Member)
methods_made version count [] pool = Ok (pool, [])
methods_made version count (line ∷ lines) pool =
    any_method_made version lines line.number line.line pool >>= (λ one. counted line.number count one.1 (methods_made version (count_with count one.1) lines one.0))

-- ---- the class

abbrev pub interfaces_made : ℕ → List Text → List PoolEntry → Making (List ℕ)
interfaces_made number [] pool = Ok (pool, [])
interfaces_made number (name ∷ names) pool = do
  one ← class_made number name pool
  more ← interfaces_made number names one.0
  Ok (more.0, one.1 ∷ more.1)

-- the interfaces of a class, whose count has two bytes
abbrev pub all_interfaces_made : ℕ → List Text → List PoolEntry → Making (List ℕ)
all_interfaces_made number names pool = if nat_le (length names) 65535 then interfaces_made number names pool else Err number

abbrev pub class_file_made : ℕ → Text → Text → ℕ → ℕ → List Text → List Numbered → Result ClassFile ℕ
class_file_made number name super version flags names lines = do
  this ← class_made number name []
  up ← class_made number super this.0
  interfaces ← all_interfaces_made number names up.0
  fields ← fields_made 0 lines interfaces.0
  methods ← methods_made version 0 lines fields.0
  Ok (record {
    minor = 0;
    major = version;
    pool = methods.0;
    flags = record { 0 = flags };
    this_class = this.1;
    super_class = up.1;
    interfaces = interfaces.1;
    fields = fields.1;
    methods = methods.1;
    attributes = [];
  })

-- the class of some lines, of which the first is the class's own; else this line is the faulty one
abbrev pub first_made : ℕ → ℕ → Option Line → List Numbered → Result ClassFile ℕ
first_made fault number (Some (Line.Class name super version flags interfaces)) lines = class_file_made number name super version flags interfaces lines
first_made fault number _ lines = Err fault

abbrev pub class_made_of : ℕ → List Numbered → Result ClassFile ℕ
class_made_of fault [] = Err fault
class_made_of fault (line ∷ lines) = first_made fault line.number line.line lines
