-- Array types and what their elements hold at first.
use Rattle.std.specs.Prelude.{◌≡◌, ℕ, zero, suc, ◌-◌, ◌<◌, Bool, true, false, if◌then◌else◌, nat_lt, List, ◌++◌, replicate, refl}
use Rattle.std.proofs.Common.{sym, ◌∙◌, ap, arith}
use Rattle.std.proofs.lemmas.Bool.{and_parts, and_from, lt-ltb, false≢true}
use Rattle.aj_names.specs.declared.types.Base.{Base}
use Rattle.aj_names.specs.declared.types.Base.TheVariants as base
use Rattle.aj_names.specs.declared.types.FieldType.{FieldType}
use Rattle.aj_names.specs.Descriptors.{base_spelling}
use Rattle.class_heads.specs.declared.types.ClassHead.{ClassHead}
use Rattle.class_machine.specs.Descriptors.{element_of, elements_of, held_in, blank}
use Rattle.machine_values.specs.declared.values.Value.TheVariants.{Null}
use Rattle.machine_values.specs.declared.names.Name.{Name}
use Rattle.machine_values.specs.First.{first_element, first_of_base}
use Rattle.machine_values.specs.Standing.{held, Settled}
use Rattle.machine_values.specs.Types.{type_name}
use Rattle.machine_requests.specs.Telling.{is_array_type, is_plain_base}
use Rattle.machine_requests.specs.TellingLaws.{array_name}
use Rattle.machine_arrays.specs.Made.{element_type}

pub has_dims : (type : FieldType) → is_array_type type ≡ true → nat_lt 0 type.dims ≡ true
has_dims type array = (and_parts (is_plain_base type.base) (nat_lt 0 type.dims) array).1

-- ---- the first elements

blank_base : (heads : List ClassHead) (names : List Name) (b : Base) → blank (element_of (base_spelling b)) ≡ held heads names (first_of_base b)
blank_base heads names base.Boolean = refl
blank_base heads names base.Byte = refl
blank_base heads names base.Char = refl
blank_base heads names base.Short = refl
blank_base heads names base.Int = refl
blank_base heads names base.Long = refl
blank_base heads names base.Float = refl
blank_base heads names base.Double = refl
blank_base heads names (base.Class name) = refl

blank_dims : (heads : List ClassHead) (names : List Name) (n : ℕ) (b : Base) → nat_lt 0 n ≡ true
    → blank (element_of (elements_of (replicate n 91 ++ base_spelling b))) ≡ held heads names (first_element (record { base = b; dims = n }))
blank_dims heads names zero b h = absurd (false≢true h)
blank_dims heads names (suc zero) b h = blank_base heads names b
blank_dims heads names (suc (suc n)) b h = ap (λ (more : Bool). held heads names (if more then Null else first_of_base b)) (sym (lt-ltb 1 (suc (suc n)) (omega arith)))

pub blank_held : (heads : List ClassHead) (names : List Name) (type : FieldType) → is_array_type type ≡ true → blank (held_in (type_name type)) ≡ held heads names (first_element type)
blank_held heads names type array = ap (λ (n : List ℕ). blank (held_in n)) (array_name type (has_dims type array)) ∙ blank_dims heads names type.dims type.base (has_dims type array)

settled_base : (n : ℕ) (b : Base) → Settled n (first_of_base b)
settled_base n base.Boolean = refl
settled_base n base.Byte = refl
settled_base n base.Char = refl
settled_base n base.Short = refl
settled_base n base.Int = refl
settled_base n base.Long = refl
settled_base n base.Float = refl
settled_base n base.Double = refl
settled_base n (base.Class name) = refl

pub settled_first : (n : ℕ) (type : FieldType) → Settled n (first_element type)
settled_first n type = by (nat_lt 1 type.dims) where
  by : (more : Bool) → Settled n (if more then Null else first_of_base type.base)
  by true = refl
  by false = settled_base n type.base

-- an array of arrays holds null at first
pub null_first : (type : FieldType) → 1 < type.dims → first_element type ≡ Null
null_first type more = ap (λ (b : Bool). if b then Null else first_of_base type.base) (lt-ltb 1 type.dims more)

-- ---- the type of the elements

pub element_array : (type : FieldType) → 1 < type.dims → is_array_type type ≡ true → is_array_type (element_type type) ≡ true
element_array type more array =
    and_from (is_plain_base type.base) (nat_lt 0 (type.dims - 1)) (and_parts (is_plain_base type.base) (nat_lt 0 type.dims) array).0 (lt-ltb 0 (type.dims - 1) (omega arith))

behind_one : (n : ℕ) (bytes : List ℕ) → 0 < n → elements_of (replicate n 91 ++ bytes) ≡ replicate (n - 1) 91 ++ bytes
behind_one zero bytes h = absurd (omega arith)
behind_one (suc n) bytes h = ap (λ (m : ℕ). replicate m 91 ++ bytes) (let m : n ≡ suc n - 1 = omega arith in m)

pub element_name : (type : FieldType) → 1 < type.dims → elements_of (type_name type) ≡ type_name (element_type type)
element_name type more =
    ap elements_of (array_name type (lt-ltb 0 type.dims (omega arith))) ∙ behind_one type.dims (base_spelling type.base) (omega arith)
    ∙ sym (array_name (element_type type) (lt-ltb 0 (type.dims - 1) (omega arith)))
