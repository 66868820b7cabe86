-- Where a text stops to be a descriptor, and what a fault says of it.
use Rattle.std.specs.Prelude.{◌≡◌, ℕ, ◌+◌, ◌<◌, ◌≤◌, ◌^◌, ◌-◌, min, List, ◌++◌, length, take}
use Rattle.aj_names.specs.declared.types.FieldType.{FieldType}
use Rattle.aj_names.specs.declared.types.MethodType.{MethodType}
use Rattle.aj_names.specs.declared.types.NameFault.{NameFault}
use Rattle.aj_names.specs.declared.types.NameFault.TheVariants.{BadDescriptor, BadUtf8, Memory}
use Rattle.aj_names.specs.Descriptors.{field_spelling, method_spelling, IsFieldType, IsMethodType, IsFieldDescriptor, IsMethodDescriptor}

-- the spelling of some field type begins with these bytes
pub record BeginsField (bytes : List ℕ) : Type 0 where
  pub value : FieldType
  pub formed : IsFieldType value
  pub rest : List ℕ
  pub spelled : bytes ++ rest ≡ field_spelling value

-- the spelling of some method type, of any number of slots, begins with these bytes
pub record BeginsMethod (bytes : List ℕ) : Type 0 where
  pub value : MethodType
  pub formed : IsMethodType value
  pub rest : List ℕ
  pub spelled : bytes ++ rest ≡ method_spelling value

-- the text is no descriptor, its first n bytes begin one, and one byte more doesn't
pub record IsFieldFault (text : List ℕ) (n : ℕ) : Type 0 where
  pub within : n ≤ length text
  pub begins : BeginsField (take n text)
  pub longest : n < length text → ¬ BeginsField (take (n + 1) text)
  pub none : ¬ IsFieldDescriptor text

pub record IsMethodFault (text : List ℕ) (n : ℕ) : Type 0 where
  pub within : n ≤ length text
  pub begins : BeginsMethod (take n text)
  pub longest : n < length text → ¬ BeginsMethod (take (n + 1) text)
  pub none : ¬ IsMethodDescriptor text

-- an offset as a fault holds it
abbrev pub held_offset : ℕ → ℕ
held_offset n = min n (2 ^ 32 - 1)

-- A descriptor was refused at an offset of which P holds, or memory ran out.
abbrev pub RefusesDescriptor : NameFault → (ℕ → Type 0) → Type 0
RefusesDescriptor (BadDescriptor at) P = (n : ℕ) × (at ≡ held_offset n) × P n
RefusesDescriptor (BadUtf8 at) P = ⊥
RefusesDescriptor Memory P = Unit {0}

-- Modified UTF-8 was refused at an offset of which P holds, or memory ran out.
abbrev pub RefusesUtf8 : NameFault → (ℕ → Type 0) → Type 0
RefusesUtf8 (BadDescriptor at) P = ⊥
RefusesUtf8 (BadUtf8 at) P = (n : ℕ) × (at ≡ held_offset n) × P n
RefusesUtf8 Memory P = Unit {0}
