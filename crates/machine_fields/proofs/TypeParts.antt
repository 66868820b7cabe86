-- Types by their names and by their parts.
use Rattle.std.specs.Prelude.{◌≡◌, ℕ, zero, suc, ◌+◌, ◌-◌, ◌<◌, Bool, true, false, not, ◌||◌, ◌==◌, if◌then◌else◌, nat_lt, List, [], ◌∷◌, ◌++◌, drop, length, replicate, slice_get, Option, Some, None, refl}
use Rattle.std.specs.Option.{option_map, unwrap_or}
use Rattle.std.proofs.Common.{sym, ◌∙◌, ap, subst, arith}
use Rattle.std.proofs.lemmas.Bool.{false≢true, and_parts, ltb-true}
use Rattle.std.proofs.lemmas.Option.{none-some, same_Some}
use Rattle.aj_names.specs.declared.ids.ClassId.{ClassId}
use Rattle.aj_names.specs.declared.types.Base.{Base}
use Rattle.aj_names.specs.declared.types.Base.TheVariants as base
use Rattle.aj_names.specs.declared.types.FieldType.{FieldType}
use Rattle.aj_names.specs.Descriptors.{base_spelling}
use Rattle.class_file.specs.Pool.{Reference}
use Rattle.class_heads.specs.declared.types.ClassHead.{ClassHead}
use Rattle.class_heads.specs.Hierarchy.{TypeName, name_at, place_of, is_array, type_named, type_of_descriptor, before_semicolon, is_class_below, is_type_below, is_subtype}
use Rattle.class_heads.specs.PlaceLaws.{place-named, place-within}
use Rattle.class_machine.specs.Values as machine
use Rattle.class_machine.specs.Values.{class_of, Held}
use Rattle.class_machine.specs.Descriptors.{class_in, elements_of}
use Rattle.class_machine.specs.Declarations.{classes_of}
use Rattle.class_machine.specs.Answers.{is_below, may_hold}
use Rattle.class_machine.specs.ClassFiles.{field_constant}
use Rattle.class_world.specs.Tables.{Known}
use Rattle.machine_values.specs.declared.values.Ref.{Ref}
use Rattle.machine_values.specs.declared.values.Value.{Value}
use Rattle.machine_values.specs.declared.values.Value.TheVariants.{Reference as Pointer}
use Rattle.machine_values.specs.declared.content.Content.{Content}
use Rattle.machine_values.specs.declared.content.Content.TheVariants.{Values, Text, Fixed}
use Rattle.machine_values.specs.Things.{Things}
use Rattle.machine_values.specs.States.{is_known}
use Rattle.machine_values.specs.declared.names.Maker.TheVariants.{Class, Array}
use Rattle.machine_values.specs.declared.names.Name.{Name}
use Rattle.machine_values.specs.declared.names.Name.TheVariants.{Made, Literal, ClassObject}
use Rattle.machine_values.specs.Types.{type_name}
use Rattle.machine_values.specs.Standing.{name_in, name_of, held}
use Rattle.machine_requests.specs.Arrays.{type_of_array, array_type, Holds}
use Rattle.machine_requests.specs.Telling.{is_letter, is_plain, is_plain_base, is_array_type, AreDistinct, AreFit}
use Rattle.machine_requests.specs.TellingLaws.{plain_no_array, array_name, array_is_array, fit_at, named_at}
use Rattle.machine_fields.specs.Settings.{world_setting}
use Rattle.machine_fields.specs.declared.types.BaseView.{BaseView}
use Rattle.machine_fields.specs.declared.types.BaseView.TheVariants as view
use Rattle.machine_fields.specs.Types.{base_type, arrays, base_named, takes_arrays, element_type, if_known}

-- ---- arrays

arrays_in : (n : ℕ) (t : TypeName) → arrays n (TypeName.Array t) ≡ TypeName.Array (arrays n t)
arrays_in zero t = refl
arrays_in (suc n) t = ap TypeName.Array (arrays_in n t)

one_bracket : (bytes : List ℕ) → is_array bytes ≡ true → type_of_descriptor bytes ≡ TypeName.Array (type_of_descriptor (drop 1 bytes))
one_bracket [] h = absurd (false≢true h)
one_bracket (b ∷ bytes) h = ap (λ (hit : Bool). if hit then TypeName.Array (type_of_descriptor bytes) else (if b == 76 then TypeName.Class (before_semicolon bytes) else TypeName.Primitive (b ∷ bytes))) h

pub array_step : (type : TypeName) (rest : List ℕ) (dims : ℕ) → is_array rest ≡ true → type ≡ arrays dims (type_of_descriptor rest) → type ≡ arrays (dims + 1) (type_of_descriptor (drop 1 rest))
array_step type rest dims h e =
    let more : suc dims ≡ dims + 1 = omega arith in
    e ∙ ap (arrays dims) (one_bracket rest h) ∙ arrays_in dims (type_of_descriptor (drop 1 rest)) ∙ ap (λ n. arrays n (type_of_descriptor (drop 1 rest))) more

pub array_has : (bytes : List ℕ) → is_array bytes ≡ true → 0 < length bytes
array_has [] h = absurd (false≢true h)
array_has (b ∷ bytes) h = omega arith

module _ (heads : List ClassHead) where
  pub arrays_less : (m n : ℕ) (l h : BaseView) → m < n → is_type_below heads (arrays m (base_type l)) (arrays n (base_type h)) ≡ false
  arrays_less m zero l h less = absurd (omega arith)
  arrays_less zero (suc n) (view.Class name) h less = refl
  arrays_less zero (suc n) (view.Primitive name) h less = refl
  arrays_less (suc m) (suc n) l h less = arrays_less m n l h (omega arith)

  pub arrays_more : (m n : ℕ) (l h : BaseView) → n < m → is_type_below heads (arrays m (base_type l)) (arrays n (base_type h)) ≡ takes_arrays h
  arrays_more zero n l h less = absurd (omega arith)
  arrays_more (suc m) zero l (view.Class name) less = refl
  arrays_more (suc m) zero l (view.Primitive name) less = refl
  arrays_more (suc m) (suc n) l h less = arrays_more m n l h (omega arith)

  pub arrays_same : (m n : ℕ) (l h : BaseView) → m ≡ n → is_type_below heads (arrays m (base_type l)) (arrays n (base_type h)) ≡ is_type_below heads (base_type l) (base_type h)
  arrays_same zero zero l h same = refl
  arrays_same zero (suc n) l h same = absurd (omega arith)
  arrays_same (suc m) zero l h same = absurd (omega arith)
  arrays_same (suc m) (suc n) l h same = arrays_same m n l h (omega arith)

-- ---- names of types

no_semicolon : (b : ℕ) → is_letter b ≡ true → (b == 59) ≡ false
no_semicolon b h = by (b == 59) (b == 91) h where
  by : (semicolon bracket : Bool) → not (semicolon || bracket) ≡ true → semicolon ≡ false
  by true bracket k = absurd (false≢true k)
  by false bracket k = refl

pub before_last : (name : List ℕ) → is_plain name ≡ true → before_semicolon (name ++ 59 ∷ []) ≡ name
before_last [] h = refl
before_last (b ∷ name) h =
    let both = and_parts (is_letter b) (is_plain name) h in
    ap (λ (hit : Bool). if hit then [] else b ∷ before_semicolon (name ++ 59 ∷ [])) (no_semicolon b both.0) ∙ ap (λ l. b ∷ l) (before_last name both.1)

base_spelled : (b : Base) → is_plain_base b ≡ true → type_of_descriptor (base_spelling b) ≡ base_named b
base_spelled base.Boolean h = refl
base_spelled base.Byte h = refl
base_spelled base.Char h = refl
base_spelled base.Short h = refl
base_spelled base.Int h = refl
base_spelled base.Long h = refl
base_spelled base.Float h = refl
base_spelled base.Double h = refl
base_spelled (base.Class name) h = ap TypeName.Class (before_last name h)

spelled : (n : ℕ) (b : Base) → is_plain_base b ≡ true → type_of_descriptor (replicate n 91 ++ base_spelling b) ≡ arrays n (base_named b)
spelled zero b h = base_spelled b h
spelled (suc n) b h = ap TypeName.Array (spelled n b h)

named_flat : (name : List ℕ) → is_array name ≡ false → type_named name ≡ TypeName.Class name
named_flat name flat = ap (λ (b : Bool). if b then type_of_descriptor name else TypeName.Class name) flat

named_array : (name : List ℕ) → is_array name ≡ true → type_named name ≡ type_of_descriptor name
named_array name array = ap (λ (b : Bool). if b then type_of_descriptor name else TypeName.Class name) array

pub type_by_parts : (type : FieldType) → is_array_type type ≡ true → type_named (type_name type) ≡ arrays type.dims (base_named type.base)
type_by_parts type h =
    let both = and_parts (is_plain_base type.base) (nat_lt 0 type.dims) h in
    named_array (type_name type) (array_is_array type both.1) ∙ ap type_of_descriptor (array_name type both.1) ∙ spelled type.dims type.base both.0

-- ---- classes

head_name : (heads : List ClassHead) (place : ℕ) (head : ClassHead) → slice_get heads place ≡ Some head → name_at heads place ≡ head.name
head_name heads place head at = ap (λ (o : Option ClassHead). unwrap_or (option_map (λ (c : ClassHead). c.name) o) []) at

module _ (heads : List ClassHead) (distinct : AreDistinct heads) where
  flat_name : (name : List ℕ) (place : ℕ) → place_of heads name ≡ Some place → is_array name ≡ false
  flat_name name place at = subst (λ n. is_array n ≡ false) (place-named heads name place at) (plain_no_array (name_at heads place) (distinct.plain place (place-within heads name place at)))

  pub below_named : (low high : List ℕ) (l h : ℕ) (a b : ClassHead) → place_of heads low ≡ Some l → place_of heads high ≡ Some h → slice_get heads l ≡ Some a → slice_get heads h ≡ Some b
      → is_subtype heads a.name b.name ≡ is_class_below heads low high
  below_named low high l h a b at_low at_high first second =
      let name_low : a.name ≡ low = sym (head_name heads l a first) ∙ place-named heads low l at_low in
      let name_high : b.name ≡ high = sym (head_name heads h b second) ∙ place-named heads high h at_high in
      ap (λ n. is_subtype heads n b.name) name_low ∙ ap (is_subtype heads low) name_high
      ∙ ap (λ t. is_type_below heads t (type_named high)) (named_flat low (flat_name low l at_low))
      ∙ ap (is_type_below heads (TypeName.Class low)) (named_flat high (flat_name high h at_high))

  -- ---- objects

  module _ (names : List Name) (fit : AreFit (length heads) names) (at : Ref) where
    object_is : (n : Name) → slice_get names at.0 ≡ Some n → name_of heads names at ≡ name_in heads (Some n)
    object_is n there = ap (name_in heads) there

    pub array_object : (type : FieldType) (k : ℕ) → slice_get names at.0 ≡ Some (Made (Array type) k) → is_array_type type ≡ true
    array_object type k there = fit_at heads distinct names at.0 (Made (Array type) k) fit there

    pub array_seen : (type : FieldType) (k : ℕ) → slice_get names at.0 ≡ Some (Made (Array type) k) → arrays type.dims (base_named type.base) ≡ type_named (class_of (name_of heads names at))
    array_seen type k there = sym (ap (λ (o : Option Name). type_named (class_of (name_in heads o))) there ∙ type_by_parts type (array_object type k there))

    class_within : (class : ClassId) (k : ℕ) → slice_get names at.0 ≡ Some (Made (Class class) k) → nat_lt class.0 (length heads) ≡ true
    class_within class k there = fit_at heads distinct names at.0 (Made (Class class) k) fit there

    pub class_seen : (class : ClassId) (k : ℕ) → slice_get names at.0 ≡ Some (Made (Class class) k) → TypeName.Class (name_at heads class.0) ≡ type_named (class_of (name_of heads names at))
    class_seen class k there =
        let within = ltb-true class.0 (length heads) (class_within class k there) in
        sym (ap (λ (o : Option Name). type_named (class_of (name_in heads o))) there ∙ named_flat (name_at heads class.0) (plain_no_array (name_at heads class.0) (distinct.plain class.0 within)))

    pub class_placed : (class : ClassId) (k : ℕ) → slice_get names at.0 ≡ Some (Made (Class class) k) → if_known (length heads) class.0 ≡ place_of heads (class_of (name_of heads names at))
    class_placed class k there =
        let known = class_within class k there in
        ap (λ (b : Bool). if b then Some class.0 else None) known
        ∙ sym (distinct.different class.0 (ltb-true class.0 (length heads) known))
        ∙ sym (ap (λ (o : Option Name). place_of heads (class_of (name_in heads o))) there)

    pub array_unplaced : (type : FieldType) (k : ℕ) → slice_get names at.0 ≡ Some (Made (Array type) k) → None ≡ place_of heads (class_of (name_of heads names at))
    array_unplaced type k there =
        by (place_of heads (type_name type)) refl ∙ sym (ap (λ (o : Option Name). place_of heads (class_of (name_in heads o))) there) where
          by : (o : Option ℕ) → place_of heads (type_name type) ≡ o → None ≡ place_of heads (type_name type)
          by None e = sym e
          by (Some p) e = absurd (false≢true (sym (flat_name (type_name type) p e) ∙ array_is_array type (and_parts (is_plain_base type.base) (nat_lt 0 type.dims) (array_object type k there)).1))

    -- an object's type is no primitive one
    no_primitive : (n : Name) → slice_get names at.0 ≡ Some n → (descriptor : List ℕ) → is_type_below heads (type_named (class_of (name_of heads names at))) (TypeName.Primitive descriptor) ≡ false
    no_primitive (Made (Class class) k) there descriptor = ap (λ t. is_type_below heads t (TypeName.Primitive descriptor)) (sym (class_seen class k there))
    no_primitive (Made (Array type) k) there descriptor =
        ap (λ t. is_type_below heads t (TypeName.Primitive descriptor)) (sym (array_seen type k there)) ∙ some_dims type.dims (and_parts (is_plain_base type.base) (nat_lt 0 type.dims) (array_object type k there)).1 where
          some_dims : (n : ℕ) → nat_lt 0 n ≡ true → is_type_below heads (arrays n (base_named type.base)) (TypeName.Primitive descriptor) ≡ false
          some_dims zero h = absurd (false≢true h)
          some_dims (suc n) h = refl
    no_primitive (Literal units) there descriptor = ap (λ (o : Option Name). is_type_below heads (type_named (class_of (name_in heads o))) (TypeName.Primitive descriptor)) there
    no_primitive (ClassObject type) there descriptor = ap (λ (o : Option Name). is_type_below heads (type_named (class_of (name_in heads o))) (TypeName.Primitive descriptor)) there

    abbrev own : List ℕ
    own = class_of (name_of heads names at)

    module _ (given : ℕ) (constant : Reference → Option Held) (n : Name) (there : slice_get names at.0 ≡ Some n) where
      abbrev Takes : List ℕ → TypeName → Type 0
      Takes descriptor type = is_type_below heads (type_named own) type ≡ is_below (classes_of heads given constant) own (class_in descriptor)

      of_base : (b : Base) → is_plain_base b ≡ true → Takes (base_spelling b) (base_named b)
      of_base base.Boolean h = no_primitive n there _
      of_base base.Byte h = no_primitive n there _
      of_base base.Char h = no_primitive n there _
      of_base base.Short h = no_primitive n there _
      of_base base.Int h = no_primitive n there _
      of_base base.Long h = no_primitive n there _
      of_base base.Float h = no_primitive n there _
      of_base base.Double h = no_primitive n there _
      of_base (base.Class name) h =
          sym (ap (λ c. is_subtype heads own c) (before_last name h) ∙ ap (is_type_below heads (type_named own)) (named_flat name (plain_no_array name h)))

      of_spelling : (dims : ℕ) (b : Base) → is_plain_base b ≡ true → Takes (replicate dims 91 ++ base_spelling b) (arrays dims (base_named b))
      of_spelling zero b h = of_base b h
      of_spelling (suc dims) b h = ap (is_type_below heads (type_named own)) (sym (spelled (suc dims) b h))

      of_array : (dims : ℕ) (b : Base) → is_plain_base b ≡ true → nat_lt 0 dims ≡ true → Takes (elements_of (replicate dims 91 ++ base_spelling b)) (arrays (dims - 1) (base_named b))
      of_array zero b h some = absurd (false≢true some)
      of_array (suc dims) b h some =
          let less : suc dims - 1 ≡ dims = omega arith in
          ap (λ m. is_type_below heads (type_named own) (arrays m (base_named b))) less ∙ of_spelling dims b h

      pub may_hold_is : (type : FieldType) → is_array_type type ≡ true → is_type_below heads (type_named own) (element_type type) ≡ may_hold (classes_of heads given constant) (type_name type) (machine.Reference (name_of heads names at))
      may_hold_is type h =
          let both = and_parts (is_plain_base type.base) (nat_lt 0 type.dims) h in
          of_array type.dims type.base both.0 both.1
          ∙ ap (λ d. is_below (classes_of heads given constant) own (class_in (elements_of d))) (sym (array_name type both.1))

-- ---- arrays that may hold a value

array_named : (o : Option Name) (p : Option Content) (type : FieldType) → type_of_array o p ≡ Some type → (k : ℕ) × (o ≡ Some (Made (Array type) k))
array_named (Some (Made (Array other) k)) (Some (Values vs)) type h = (k, ap (λ t. Some (Made (Array t) k)) (same_Some other type h))
array_named (Some (Made (Array other) k)) (Some (Text units)) type h = absurd (none-some type h)
array_named (Some (Made (Array other) k)) (Some Fixed) type h = absurd (none-some type h)
array_named (Some (Made (Array other) k)) None type h = absurd (none-some type h)
array_named (Some (Made (Class class) k)) p type h = absurd (none-some type h)
array_named (Some (Literal units)) p type h = absurd (none-some type h)
array_named (Some (ClassObject other)) p type h = absurd (none-some type h)
array_named None p type h = absurd (none-some type h)

pub holds_there : (known : Known) → AreDistinct known.heads → (things : Things) → AreFit (length known.heads) things.names → (array : Option Ref) (value : Value) (at object : Ref) (type : FieldType) (below : Bool)
    → array ≡ Some at → value ≡ Pointer object → array_type things at.0 ≡ Some type → is_known (length things.names) value ≡ true
    → below ≡ is_type_below known.heads (type_named (class_of (name_of known.heads things.names object))) (element_type type) → Holds things array value below (world_setting known)
holds_there known distinct things fit array value at object type below is_array is_object there within is = record {
  may = λ other kind e array_there.
      let same : at ≡ other = same_some at other (sym is_array ∙ e) in
      let alike : type ≡ kind = same_type type kind (sym there ∙ ap (λ (r : Ref). array_type things r.0) same ∙ array_there) in
      let below_length = ltb-true object.0 (length things.names) (sym (ap (is_known (length things.names)) is_object) ∙ within) in
      let name = named_at things.names object.0 below_length in
      let named = array_named (slice_get things.names at.0) (slice_get things.contents at.0) type there in
      let fits : is_array_type type ≡ true = fit_at known.heads distinct things.names at.0 (Made (Array type) named.0) fit named.1 in
      ap (λ (t : FieldType). may_hold (world_setting known).classes (type_name t) (held known.heads things.names value)) (sym alike)
      ∙ ap (λ (v : Value). may_hold (world_setting known).classes (type_name type) (held known.heads things.names v)) is_object
      ∙ sym (may_hold_is known.heads distinct things.names fit object (length known.files) (field_constant known.files) name.0 name.1 type fits)
      ∙ sym is;
} where
  same_some : (a b : Ref) → Some a ≡ Some b → a ≡ b
  same_some a b e = cc

  same_type : (a b : FieldType) → Some a ≡ Some b → a ≡ b
  same_type a b e = cc
