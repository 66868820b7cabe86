-- Reading names and descriptors from left to right. A reader gives a value and the bytes behind it,
-- or how many bytes are left from the first one on with which nothing goes on.
use Rattle.std.specs.Prelude.{◌≡◌, ℕ, zero, suc, List, [], ◌∷◌, length, Bool, true, false, Option, Some, None, Result, Ok, Err, if◌then◌else◌, nat_lt, nat_le, ◌==◌, ◌&&◌, ◌||◌, ◌-◌, ◌^◌, min}
use Rattle.aj_names.specs.declared.types.Base.{Base}
use Rattle.aj_names.specs.declared.types.Base.TheVariants.{Boolean, Byte, Char, Short, Int, Long, Float, Double, Class}
use Rattle.aj_names.specs.declared.types.FieldType.{FieldType}
use Rattle.aj_names.specs.declared.types.MethodType.{MethodType}
use Rattle.aj_names.specs.declared.types.NameFault.{NameFault}
use Rattle.aj_names.specs.declared.types.NameFault.TheVariants as faults
use Rattle.aj_names.specs.declared.reading.Stopped.{Stopped}
use Rattle.aj_names.specs.declared.reading.Stopped.TheVariants as stops
use Rattle.aj_names.specs.Faults.{held_offset}
use Rattle.aj_names.specs.Descriptors.{params_slots}
use Rattle.aj_names.specs.declared.names.NameKind.{NameKind}
use Rattle.aj_names.specs.declared.names.NameKind.TheVariants as kinds
use Rattle.aj_names.specs.declared.names.NameState.{NameState}
use Rattle.aj_names.specs.declared.names.NameState.TheVariants.{Start, Inside, Last, BehindE0, Middle, BehindED, HighLast, LowLead, LowMiddle}

infixl 10 ◌>>=◌
abbrev pub ◌>>=◌ : {A B : Type 0} → Result A ℕ → (A → Result B ℕ) → Result B ℕ
(Ok x) >>= f = f x
(Err left) >>= f = Err left

-- What a function returned, seen by view, is what reading gives.
abbrev pub Gives : {X Y : Type 0} → (X → Y) → Result X ℕ → Result Y ℕ → Type 0
Gives view (Ok x) read = read ≡ Ok (view x)
Gives view (Err left) read = read ≡ Err left

-- ---- names

abbrev pub within : ℕ → ℕ → ℕ → NameState → Option NameState
within low high b state = if nat_le low b && nat_le b high then Some state else None

-- the first byte of a character of a name
abbrev pub lead : ℕ → Option NameState
lead b =
    if b == 0 || b == 46 || b == 47 || b == 59 || b == 91
    then None
    else if nat_lt b 0x80
    then Some Inside
    else if nat_lt b 0xC2
    then None
    else if nat_lt b 0xE0
    then Some Last
    else if b == 0xE0
    then Some BehindE0
    else if b == 0xED
    then Some BehindED
    else if nat_lt b 0xF0
    then Some Middle
    else None

abbrev pub has_parts : NameKind → Bool
has_parts kinds.Member = false
has_parts kinds.Class = true

-- where a byte leads in a name
abbrev pub name_after : NameKind → NameState → ℕ → Option NameState
name_after kind Start b = lead b
name_after kind Inside b = if has_parts kind && b == 47 then Some Start else lead b
name_after kind Last b = within 0x80 0xBF b Inside
name_after kind BehindE0 b = within 0xA0 0xBF b Last
name_after kind Middle b = within 0x80 0xBF b Last
name_after kind BehindED b = if nat_lt b 0xA0 then within 0x80 0x9F b Last else within 0xA0 0xAF b HighLast
name_after kind HighLast b = within 0x80 0xBF b LowLead
name_after kind LowLead b = within 0xED 0xED b LowMiddle
name_after kind LowMiddle b = within 0xB0 0xBF b Last

-- whether a name may end there
abbrev pub may_end : NameState → Bool
may_end Inside = true
may_end _ = false

-- whether the bytes lead to the end of a name
abbrev pub ends_name : NameKind → NameState → List ℕ → Bool
ends_name kind state [] = may_end state
ends_name kind state (b ∷ bytes) = elim (name_after kind state b) [ None ↦ false | Some next ↦ ends_name kind next bytes ]

-- a class name up to its ;
abbrev pub class_at : NameState → List ℕ → Result (List ℕ × List ℕ) ℕ
class_at state [] = Err 0
class_at state (b ∷ bytes) =
    elim (name_after kinds.Class state b) [
      | None ↦ if may_end state && b == 59 then Ok ([], bytes) else Err (suc (length bytes))
      | Some next ↦ class_at next bytes >>= λ x. Ok (b ∷ x.0, x.1)
    ]

-- ---- types

abbrev pub primitives : List (ℕ × Base)
primitives = (90, Boolean) ∷ (66, Byte) ∷ (67, Char) ∷ (83, Short) ∷ (73, Int) ∷ (74, Long) ∷ (70, Float) ∷ (68, Double) ∷ []

abbrev pub base_in : ℕ → List (ℕ × Base) → Option Base
base_in b [] = None
base_in b (e ∷ table) = if b == e.0 then Some e.1 else base_in b table

abbrev pub base_at : List ℕ → Result (Base × List ℕ) ℕ
base_at [] = Err 0
base_at (b ∷ bytes) =
    elim (base_in b primitives) [
      | Some base ↦ Ok (base, bytes)
      | None ↦ if b == 76 then (class_at Start bytes >>= λ x. Ok (Class x.0, x.1)) else Err (suc (length bytes))
    ]

abbrev pub deeper : FieldType → FieldType
deeper t = record t { dims = suc t.dims }

-- a type of at most so many dimensions
abbrev pub type_at : ℕ → List ℕ → Result (FieldType × List ℕ) ℕ
type_at most [] = Err 0
type_at zero (b ∷ bytes) = base_at (b ∷ bytes) >>= λ x. Ok (record { base = x.0; dims = 0 }, x.1)
type_at (suc most) (b ∷ bytes) =
    if b == 91
    then (type_at most bytes >>= λ x. Ok (deeper x.0, x.1))
    else (base_at (b ∷ bytes) >>= λ x. Ok (record { base = x.0; dims = 0 }, x.1))

unfoldable pub field_at : List ℕ → Result (FieldType × List ℕ) ℕ
field_at bytes = type_at 255 bytes

-- the types up to the ), in at most so many steps
abbrev pub params_at : ℕ → List ℕ → Result (List FieldType × List ℕ) ℕ
params_at steps [] = Err 0
params_at zero (b ∷ bytes) = Err (suc (length bytes))
params_at (suc steps) (b ∷ bytes) =
    if b == 41
    then Ok ([], bytes)
    else (field_at (b ∷ bytes) >>= λ t. params_at steps t.1 >>= λ ts. Ok (t.0 ∷ ts.0, ts.1))

abbrev pub result_at : List ℕ → Result (Option FieldType × List ℕ) ℕ
result_at [] = Err 0
result_at (b ∷ bytes) = if b == 86 then Ok (None, bytes) else (field_at (b ∷ bytes) >>= λ t. Ok (Some t.0, t.1))

abbrev pub method_at : List ℕ → Result (MethodType × List ℕ) ℕ
method_at [] = Err 0
method_at (b ∷ bytes) =
    if b == 40
    then (params_at (suc (length bytes)) bytes >>= λ ps. result_at ps.1 >>= λ r. Ok (record { params = ps.0; result = r.0 }, r.1))
    else Err (suc (length bytes))

-- all of the bytes
abbrev pub whole : {X : Type 0} → Result (X × List ℕ) ℕ → Result X ℕ
whole read = read >>= λ x. elim (length x.1) [ zero ↦ Ok x.0 | suc n ↦ Err (suc n) ]

-- What a call answers of a whole text, unless memory ran out.
abbrev pub AnswersFault : {X : Type 0} → List ℕ → NameFault → Result X ℕ → Type 0
AnswersFault text (faults.BadDescriptor at) read = (left : ℕ) × (read ≡ Err left) × (at ≡ held_offset (length text - left))
AnswersFault text (faults.BadUtf8 at) read = ⊥
AnswersFault text faults.Memory read = Unit {0}

abbrev pub Answers : {X : Type 0} → List ℕ → Result X NameFault → Result X ℕ → Type 0
Answers text (Ok x) read = read ≡ Ok x
Answers text (Err fault) read = AnswersFault text fault read

-- What a function returned, seen by view, is what reading gives, unless memory ran out.
abbrev pub Stops : {Y : Type 0} → Stopped → Result Y ℕ → Type 0
Stops (stops.Left left) read = read ≡ Err left
Stops stops.Memory read = Unit {0}

abbrev pub GivesUnless : {X Y : Type 0} → (X → Y) → Result X Stopped → Result Y ℕ → Type 0
GivesUnless view (Ok x) read = read ≡ Ok (view x)
GivesUnless view (Err stop) read = Stops stop read

-- the slots of what was read, which stand at the last number of 32 bits
abbrev pub counted : Result (List FieldType × List ℕ) ℕ → Result (ℕ × List ℕ) ℕ
counted read = read >>= λ x. Ok (min (params_slots x.0) (2 ^ 32 - 1), x.1)

abbrev pub method_counted : Result MethodType ℕ → Result ℕ ℕ
method_counted read = read >>= λ m. Ok (min (params_slots m.params) (2 ^ 32 - 1))
