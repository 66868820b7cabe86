-- The names of classes that descriptors have are plain.
use Rattle.std.specs.Prelude.{◌≡◌, ◌≢◌, ℕ, zero, suc, ◌+◌, ◌-◌, ◌/◌, ◌%◌, ◌≤◌, ◌==◌, ◌&&◌, ◌||◌, Bool, true, false, not, if◌then◌else◌, nat_lt, List, [], ◌∷◌, ◌++◌, refl}
use Rattle.std.specs.List.{AllByRecursion, flat_map, join_with_byte}
use Rattle.std.proofs.Common.{sym, ◌∙◌, ap, arith}
use Rattle.std.proofs.lemmas.Bool.{ne_eqb, lt-ltb, false≢true}
use Rattle.std.proofs.lemmas.List.Folds.{list_all-append}
use Rattle.aj_names.specs.declared.types.Base.{Base}
use Rattle.aj_names.specs.declared.types.Base.TheVariants as base
use Rattle.aj_names.specs.declared.types.FieldType.{FieldType}
use Rattle.aj_names.specs.Descriptors.{IsBase, IsFieldType, field_spelling}
use Rattle.aj_names.specs.ModifiedUtf8.{unit_spelling, text_spelling}
use Rattle.aj_names.specs.Names.{character_units, character_spelling, IsNameCharacter, IsMemberName, IsClassName}
use Rattle.class_heads.specs.Hierarchy.{is_array}
use Rattle.machine_requests.specs.Telling.{is_letter, is_plain, is_plain_base, is_class, is_class_type}
use Rattle.machine_values.specs.Types.{type_name, base_name}

letter : (b : ℕ) → b ≢ 59 → b ≢ 91 → is_letter b ≡ true
letter b semicolon bracket = ap (λ (x : Bool). not (x || b == 91)) (ne_eqb b 59 semicolon) ∙ ap not (ne_eqb b 91 bracket)

high : (b : ℕ) → 128 ≤ b → is_letter b ≡ true
high b h = letter b (λ e. omega arith) (λ e. omega arith)

both : (a b : Bool) → a ≡ true → b ≡ true → (a && b) ≡ true
both true b h k = k
both false b h k = absurd (false≢true h)

plain_both : (xs ys : List ℕ) → is_plain xs ≡ true → is_plain ys ≡ true → is_plain (xs ++ ys) ≡ true
plain_both xs ys h k = list_all-append is_letter xs ys ∙ both (is_plain xs) (is_plain ys) h k

one_plain : (a : ℕ) (xs : List ℕ) → is_letter a ≡ true → is_plain xs ≡ true → is_plain (a ∷ xs) ≡ true
one_plain a xs h k = both (is_letter a) (is_plain xs) h k

unit_plain : (u : ℕ) → u ≢ 59 → u ≢ 91 → is_plain (unit_spelling u) ≡ true
unit_plain u semicolon bracket = by (nat_lt 0 u && nat_lt u 0x80) (nat_lt u 0x800) where
  by : (one two : Bool)
      → is_plain (if one then u ∷ [] else if two then (0xC0 + u / 64) ∷ (0x80 + u % 64) ∷ [] else (0xE0 + u / 4096) ∷ (0x80 + u / 64 % 64) ∷ (0x80 + u % 64) ∷ []) ≡ true
  by true two = one_plain u [] (letter u semicolon bracket) refl
  by false true = one_plain (0xC0 + u / 64) ((0x80 + u % 64) ∷ []) (high (0xC0 + u / 64) (omega arith)) (one_plain (0x80 + u % 64) [] (high (0x80 + u % 64) (omega arith)) refl)
  by false false =
      one_plain (0xE0 + u / 4096) ((0x80 + u / 64 % 64) ∷ (0x80 + u % 64) ∷ []) (high (0xE0 + u / 4096) (omega arith))
      (one_plain (0x80 + u / 64 % 64) ((0x80 + u % 64) ∷ []) (high (0x80 + u / 64 % 64) (omega arith)) (one_plain (0x80 + u % 64) [] (high (0x80 + u % 64) (omega arith)) refl))

abbrev IsOther : ℕ → Type 0
IsOther u = (u ≢ 59) × (u ≢ 91)

units_plain : (units : List ℕ) → AllByRecursion IsOther units → is_plain (text_spelling units) ≡ true
units_plain [] h = refl
units_plain (u ∷ units) h = plain_both (unit_spelling u) (text_spelling units) (unit_plain u h.0.0 h.0.1) (units_plain units h.1)

character_plain : (c : ℕ) → IsNameCharacter c → is_plain (character_spelling c) ≡ true
character_plain c is = units_plain (character_units c) (by (nat_lt c 0x10000)) where
  by : (one : Bool) → AllByRecursion IsOther (if one then c ∷ [] else (0xD800 + (c - 0x10000) / 1024) ∷ (0xDC00 + (c - 0x10000) % 1024) ∷ [])
  by true = ((is.not_semicolon, is.not_bracket), tt)
  by false = (((λ e. omega arith), (λ e. omega arith)), (((λ e. omega arith), (λ e. omega arith)), tt))

characters_plain : (cs : List ℕ) → AllByRecursion IsNameCharacter cs → is_plain (flat_map character_spelling cs) ≡ true
characters_plain [] h = refl
characters_plain (c ∷ cs) h = plain_both (character_spelling c) (flat_map character_spelling cs) (character_plain c h.0) (characters_plain cs h.1)

member_plain : (name : List ℕ) → IsMemberName name → is_plain name ≡ true
member_plain name is = ap is_plain is.spelled ∙ characters_plain is.characters is.allowed

parts_plain : (parts : List (List ℕ)) → AllByRecursion IsMemberName parts → is_plain (join_with_byte 47 parts) ≡ true
parts_plain [] h = refl
parts_plain (part ∷ []) h = member_plain part h.0
parts_plain (part ∷ next ∷ parts) h = plain_both part (47 ∷ join_with_byte 47 (next ∷ parts)) (member_plain part h.0) (parts_plain (next ∷ parts) h.1)

name_plain : (name : List ℕ) → IsClassName name → is_plain name ≡ true
name_plain name is = ap is_plain is.joined ∙ parts_plain is.parts is.names

base_plain : (b : Base) → IsBase b → is_plain_base b ≡ true
base_plain base.Boolean is = refl
base_plain base.Byte is = refl
base_plain base.Char is = refl
base_plain base.Short is = refl
base_plain base.Int is = refl
base_plain base.Long is = refl
base_plain base.Float is = refl
base_plain base.Double is = refl
base_plain (base.Class name) is = name_plain name is

-- ---- array types

-- the dimensions of a type that is spelled as an array
some_dims : (b : Base) (dims : ℕ) → is_array (field_spelling (record { base = b; dims = dims })) ≡ true → nat_lt 0 dims ≡ true
some_dims b (suc dims) is = lt-ltb 0 (suc dims) (omega arith)
some_dims base.Boolean zero is = absurd (false≢true is)
some_dims base.Byte zero is = absurd (false≢true is)
some_dims base.Char zero is = absurd (false≢true is)
some_dims base.Short zero is = absurd (false≢true is)
some_dims base.Int zero is = absurd (false≢true is)
some_dims base.Long zero is = absurd (false≢true is)
some_dims base.Float zero is = absurd (false≢true is)
some_dims base.Double zero is = absurd (false≢true is)
some_dims (base.Class name) zero is = absurd (false≢true is)

or_of : (b c : Bool) → b ≡ true → (b || c) ≡ true
or_of true c e = refl
or_of false c e = absurd (false≢true e)

pub array_class : (type : FieldType) → is_plain_base type.base ≡ true → nat_lt 0 type.dims ≡ true → is_class_type type ≡ true
array_class type plain dims = both (is_plain_base type.base) (nat_lt 0 type.dims || is_class type.base) plain (or_of (nat_lt 0 type.dims) (is_class type.base) dims)

pub plain_class : (name : List ℕ) → is_plain name ≡ true → is_class_type (record { base = base.Class name; dims = 0 }) ≡ true
plain_class name plain = both (is_plain name) true plain refl

pub read_name : (type : FieldType) (text : List ℕ) → text ≡ field_spelling type → is_array text ≡ true → type_name type ≡ text
read_name type text spelled array =
    ap (λ (b : Bool). if b then field_spelling type else base_name type.base) (some_dims type.base type.dims (sym (ap is_array spelled) ∙ array)) ∙ sym spelled

pub read_class : (type : FieldType) (text : List ℕ) → IsFieldType type → text ≡ field_spelling type → is_array text ≡ true → is_class_type type ≡ true
read_class type text is spelled array = array_class type (base_plain type.base is.base) (some_dims type.base type.dims (sym (ap is_array spelled) ∙ array))
