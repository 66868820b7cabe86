-- Types by their names.
use Rattle.std.specs.Prelude.{◌≡◌, ℕ, zero, suc, ◌<◌, ◌||◌, Bool, true, false, if◌then◌else◌, nat_lt, List, [], ◌∷◌, ◌++◌, refl}
use Rattle.std.proofs.Common.{sym, ap, ◌∙◌, arith}
use Rattle.std.proofs.lemmas.Bool.{and_parts, and_from, lt-ltb}
use Rattle.aj_names.specs.declared.types.FieldType.{FieldType}
use Rattle.aj_names.specs.Descriptors.{field_spelling}
use Rattle.class_heads.specs.Hierarchy.{is_array}
use Rattle.class_machine.specs.Descriptors.{array_of}
use Rattle.machine_values.specs.Types.{type_name, base_name}
use Rattle.machine_requests.specs.Telling.{is_plain_base, is_class, is_class_type, is_array_type}

some_dims : (n : ℕ) → (n ≡ 0 → ⊥) → nat_lt 0 n ≡ true
some_dims zero h = absurd (h refl)
some_dims (suc n) h = lt-ltb 0 (suc n) (let e : 0 < suc n = omega arith in e)

pub array_named : (t : FieldType) (text : List ℕ) → (t.dims ≡ 0 → ⊥) → text ≡ field_spelling t → type_name t ≡ text
array_named t text some spelled = ap (λ (b : Bool). if b then field_spelling t else base_name t.base) (some_dims t.dims some) ∙ sym spelled

pub array_is : (t : FieldType) → (t.dims ≡ 0 → ⊥) → is_plain_base t.base ≡ true → is_array_type t ≡ true
array_is t some plain = and_from (is_plain_base t.base) (nat_lt 0 t.dims) plain (some_dims t.dims some)

pub array_is_class : (t : FieldType) → is_array_type t ≡ true → is_class_type t ≡ true
array_is_class t array =
    let parts = and_parts (is_plain_base t.base) (nat_lt 0 t.dims) array in
    and_from (is_plain_base t.base) (nat_lt 0 t.dims || is_class t.base) parts.0 (ap (λ (b : Bool). b || is_class t.base) parts.1)

pub array_text : (class text : List ℕ) → is_array class ≡ true → text ≡ 91 ∷ class → text ≡ array_of class
array_text class text array is = is ∙ sym (ap (λ (b : Bool). 91 ∷ (if b then class else 76 ∷ class ++ 59 ∷ [])) array)

pub class_text : (class text : List ℕ) → is_array class ≡ false → text ≡ 91 ∷ 76 ∷ class ++ 59 ∷ [] → text ≡ array_of class
class_text class text plain is = is ∙ sym (ap (λ (b : Bool). 91 ∷ (if b then class else 76 ∷ class ++ 59 ∷ [])) plain)
