-- Of classes with names of their own, and of objects that are numbered, each name is that of one object.
use Rattle.std.specs.Prelude.{◌≡◌, ◌≢◌, ℕ, zero, suc, ◌<◌, ◌==◌, Bool, true, false, not, ◌&&◌, ◌||◌, List, [], ◌∷◌, ◌++◌, length, replicate, slice_get, Option, Some, None, refl, nat_lt, if◌then◌else◌}
use Rattle.std.specs.List.{AllByRecursion, list_all}
use Rattle.std.specs.Str.{bytes_eq}
use Rattle.std.proofs.Common.{sym, ◌∙◌, ap, subst, inl, inr, arith, eq-eqb}
use Rattle.std.proofs.lemmas.Bool.{and_parts, cases_Bool, false≢true, eqb-true, ltb-true, ltb-false}
use Rattle.std.proofs.lemmas.Option.{none-some, same_Some}
use Rattle.std.specs.Cmp.Lexicographic.{bytes_decides}
use Rattle.aj_names.specs.declared.ids.ClassId.{ClassId}
use Rattle.aj_names.specs.declared.types.Base.{Base}
use Rattle.aj_names.specs.declared.types.Base.TheVariants as base
use Rattle.aj_names.specs.declared.types.FieldType.{FieldType}
use Rattle.aj_names.specs.Descriptors.{base_spelling, field_spelling}
use Rattle.class_file.specs.Text.{is_utf8, is_paired, is_name_byte, is_name_text, has_parts, is_class_name}
use Rattle.class_heads.specs.declared.types.ClassHead.{ClassHead}
use Rattle.class_heads.specs.Hierarchy.{name_at, place_of, is_array}
use Rattle.class_machine.specs.Values as machine
use Rattle.machine_values.specs.declared.names.Maker.{Maker}
use Rattle.machine_values.specs.declared.names.Maker.TheVariants.{Class, Array}
use Rattle.machine_values.specs.declared.names.Name.{Name}
use Rattle.machine_values.specs.declared.names.Name.TheVariants.{Made, Literal, ClassObject}
use Rattle.machine_values.specs.Things.{is_constant, same_name, place_of as found_at}
use Rattle.machine_values.specs.Types.{type_name, base_name}
use Rattle.machine_values.specs.Standing.{maker_name, machine_name, name_in, IsAlone, IsNext, AreNumbered}
use Rattle.machine_values.specs.NameLaws.{name_itself, or_at, place_of-push}
use Rattle.machine_values.specs.NumberLaws.{IsTold, numbered_alone, name_itself_there}
use Rattle.machine_requests.specs.Telling.{is_letter, is_plain, AreDistinct, is_plain_base, is_class, is_class_type, is_array_type, is_fit_maker, is_fit, AreFit}

-- ---- names of types

-- a class's name isn't an array type's
pub plain_no_array : (name : List ℕ) → is_plain name ≡ true → is_array name ≡ false
plain_no_array [] h = refl
plain_no_array (b ∷ bytes) h = elim (cases_Bool (b == 91)) [
  | inl bracket ↦ absurd (no_letter (b == 59) (b == 91) bracket (and_parts (is_letter b) (is_plain bytes) h).0)
  | inr other ↦ other
] where
  no_letter : (semicolon bracket : Bool) → bracket ≡ true → not (semicolon || bracket) ≡ true → ⊥
  no_letter true bracket e k = false≢true k
  no_letter false true e k = false≢true k
  no_letter false false e k = false≢true e

base_no_array : (b : Base) → is_array (base_spelling b) ≡ false
base_no_array base.Boolean = refl
base_no_array base.Byte = refl
base_no_array base.Char = refl
base_no_array base.Short = refl
base_no_array base.Int = refl
base_no_array base.Long = refl
base_no_array base.Float = refl
base_no_array base.Double = refl
base_no_array (base.Class name) = refl

-- what stands behind brackets, and how many they are
behind_brackets : (m n : ℕ) (x y : List ℕ) → is_array x ≡ false → is_array y ≡ false → replicate m 91 ++ x ≡ replicate n 91 ++ y → (m ≡ n) × (x ≡ y)
behind_brackets zero zero x y h k e = (refl, e)
behind_brackets zero (suc n) x y h k e = absurd (false≢true (sym h ∙ ap is_array e))
behind_brackets (suc m) zero x y h k e = absurd (false≢true (sym k ∙ ap is_array (sym e)))
behind_brackets (suc m) (suc n) x y h k e =
    let tail : replicate m 91 ++ x ≡ replicate n 91 ++ y = cc in
    let both = behind_brackets m n x y h k tail in
    (ap suc both.0, both.1)

without_last : List ℕ → List ℕ
without_last [] = []
without_last (x ∷ []) = []
without_last (x ∷ (y ∷ ys)) = x ∷ without_last (y ∷ ys)

without_last-push : (xs : List ℕ) (x : ℕ) → without_last (xs ++ x ∷ []) ≡ xs
unfolding without_last
without_last-push [] x = refl
without_last-push (y ∷ []) x = refl
without_last-push (y ∷ (z ∷ zs)) x = ap (λ l. y ∷ l) (without_last-push (z ∷ zs) x)

abbrev read_back : List ℕ → Base
read_back [] = base.Boolean
read_back (b ∷ bytes) =
    if b == 90 then base.Boolean else (if b == 66 then base.Byte else (if b == 67 then base.Char else (if b == 83 then base.Short
    else (if b == 73 then base.Int else (if b == 74 then base.Long else (if b == 70 then base.Float else (if b == 68 then base.Double
    else base.Class (without_last bytes))))))))

read_back-spelling : (b : Base) → read_back (base_spelling b) ≡ b
read_back-spelling base.Boolean = refl
read_back-spelling base.Byte = refl
read_back-spelling base.Char = refl
read_back-spelling base.Short = refl
read_back-spelling base.Int = refl
read_back-spelling base.Long = refl
read_back-spelling base.Float = refl
read_back-spelling base.Double = refl
read_back-spelling (base.Class name) = ap base.Class (without_last-push name 59)

abbrev type_of : Base → ℕ → FieldType
type_of b n = record { base = b; dims = n }

same_parts : (x y : Base) (m n : ℕ) → x ≡ y → m ≡ n → type_of x m ≡ type_of y n
same_parts x y m n p q = ap (λ b. type_of b m) p ∙ ap (type_of y) q

-- an array type is told by its descriptor
spelling_tells : (a b : FieldType) → field_spelling a ≡ field_spelling b → a ≡ b
spelling_tells a b e =
    let both = behind_brackets a.dims b.dims (base_spelling a.base) (base_spelling b.base) (base_no_array a.base) (base_no_array b.base) e in
    same_parts a.base b.base a.dims b.dims (sym (read_back-spelling a.base) ∙ ap read_back both.1 ∙ read_back-spelling b.base) both.0

abbrev named_by : Bool → FieldType → List ℕ
named_by array type = if array then field_spelling type else base_name type.base

array_spelling : (n : ℕ) (bytes : List ℕ) → nat_lt 0 n ≡ true → is_array (replicate n 91 ++ bytes) ≡ true
array_spelling zero bytes h = absurd (false≢true h)
array_spelling (suc n) bytes h = refl

pub array_name : (type : FieldType) → nat_lt 0 type.dims ≡ true → type_name type ≡ field_spelling type
array_name type h = ap (λ array. named_by array type) h

pub array_is_array : (type : FieldType) → nat_lt 0 type.dims ≡ true → is_array (type_name type) ≡ true
array_is_array type h = ap is_array (array_name type h) ∙ array_spelling type.dims (base_spelling type.base) h

plain_name : (b : Base) → is_plain_base b ≡ true → is_class b ≡ true → (name : List ℕ) × (b ≡ base.Class name) × (is_plain name ≡ true)
plain_name (base.Class name) h k = (name, refl, h)
plain_name base.Boolean h k = absurd (false≢true k)
plain_name base.Byte h k = absurd (false≢true k)
plain_name base.Char h k = absurd (false≢true k)
plain_name base.Short h k = absurd (false≢true k)
plain_name base.Int h k = absurd (false≢true k)
plain_name base.Long h k = absurd (false≢true k)
plain_name base.Float h k = absurd (false≢true k)
plain_name base.Double h k = absurd (false≢true k)

no_dims : (n : ℕ) → nat_lt 0 n ≡ false → n ≡ 0
no_dims n h = let most = ltb-false 0 n h in omega arith

or_false : (b c : Bool) → (b || c) ≡ true → b ≡ false → c ≡ true
or_false true c h e = absurd (false≢true (sym e))
or_false false c h e = h

class_name : (type : FieldType) → is_class_type type ≡ true → nat_lt 0 type.dims ≡ false → (name : List ℕ) × (type ≡ type_of (base.Class name) 0) × (is_plain name ≡ true)
class_name type h flat =
    let both = and_parts (is_plain_base type.base) (nat_lt 0 type.dims || is_class type.base) h in
    let named = plain_name type.base both.0 (or_false (nat_lt 0 type.dims) (is_class type.base) both.1 flat) in
    (named.0, same_parts type.base (base.Class named.0) type.dims 0 named.1 (no_dims type.dims flat), named.2)

class_no_array : (type : FieldType) → is_class_type type ≡ true → nat_lt 0 type.dims ≡ false → is_array (type_name type) ≡ false
class_no_array type h flat = let named = class_name type h flat in ap (λ t. is_array (type_name t)) named.1 ∙ plain_no_array named.0 named.2

-- a class or array type is told by its name
pub type_tells : (a b : FieldType) → is_class_type a ≡ true → is_class_type b ≡ true → type_name a ≡ type_name b → a ≡ b
type_tells a b h k e = elim (cases_Bool (nat_lt 0 a.dims)) [
  | inl array ↦ elim (cases_Bool (nat_lt 0 b.dims)) [
    | inl both ↦ spelling_tells a b (sym (array_name a array) ∙ e ∙ array_name b both)
    | inr flat ↦ absurd (false≢true (sym (class_no_array b k flat) ∙ ap is_array (sym e) ∙ array_is_array a array))
  ]
  | inr flat ↦ elim (cases_Bool (nat_lt 0 b.dims)) [
    | inl array ↦ absurd (false≢true (sym (class_no_array a h flat) ∙ ap is_array e ∙ array_is_array b array))
    | inr both ↦
        let x = class_name a h flat in let y = class_name b k both in
        let same : x.0 ≡ y.0 = ap type_name (sym x.1) ∙ e ∙ ap type_name y.1 in
        x.1 ∙ ap (λ name. type_of (base.Class name) 0) same ∙ sym y.1
  ]
]

and_of : (b c : Bool) → b ≡ true → c ≡ true → (b && c) ≡ true
and_of true c e f = f
and_of false c e f = absurd (false≢true e)

or_of : (b c : Bool) → b ≡ true → (b || c) ≡ true
or_of true c e = refl
or_of false c e = absurd (false≢true e)

array_class : (type : FieldType) → is_array_type type ≡ true → is_class_type type ≡ true
array_class type h =
    let both = and_parts (is_plain_base type.base) (nat_lt 0 type.dims) h in
    and_of (is_plain_base type.base) (nat_lt 0 type.dims || is_class type.base) both.0 (or_of (nat_lt 0 type.dims) (is_class type.base) both.1)

-- ---- names that class files have

letter : (dot semicolon bracket zero_byte : Bool) → (not dot && (not semicolon && (not bracket && not zero_byte))) ≡ true → not (semicolon || bracket) ≡ true
letter true semicolon bracket zero_byte h = absurd (false≢true h)
letter false true bracket zero_byte h = absurd (false≢true h)
letter false false true zero_byte h = absurd (false≢true h)
letter false false false zero_byte h = refl

letters : (bytes : List ℕ) → list_all is_name_byte bytes ≡ true → is_plain bytes ≡ true
letters [] h = refl
letters (b ∷ bytes) h =
    let both = and_parts (is_name_byte b) (list_all is_name_byte bytes) h in
    and_of (is_letter b) (is_plain bytes) (letter (b == 46) (b == 59) (b == 91) (b == 0xC0) both.0) (letters bytes both.1)

-- the name of a class has neither
pub class_name_plain : (name : List ℕ) → is_class_name name ≡ true → is_plain name ≡ true
class_name_plain name h =
    let text = (and_parts (is_name_text name) (has_parts true name) h).0 in
    let paired = (and_parts (is_utf8 name) (is_paired name && list_all is_name_byte name) text).1 in
    letters name (and_parts (is_paired name) (list_all is_name_byte name) paired).1

-- ---- names of makers

module _ (heads : List ClassHead) (distinct : AreDistinct heads) where
  place_tells : (a b : ℕ) → a < length heads → b < length heads → name_at heads a ≡ name_at heads b → a ≡ b
  place_tells a b h k e = same_Some a b (sym (distinct.different a h) ∙ ap (place_of heads) e ∙ distinct.different b k)

  class_apart : (class : ClassId) (type : FieldType) → nat_lt class.0 (length heads) ≡ true → is_array_type type ≡ true → name_at heads class.0 ≡ type_name type → ⊥
  class_apart class type h k e =
      let both = and_parts (is_plain_base type.base) (nat_lt 0 type.dims) k in
      false≢true (sym (plain_no_array (name_at heads class.0) (distinct.plain class.0 (ltb-true class.0 (length heads) h))) ∙ ap is_array e ∙ array_is_array type both.1)

  pub maker_tells : (a b : Maker) → is_fit_maker (length heads) a ≡ true → is_fit_maker (length heads) b ≡ true → maker_name heads a ≡ maker_name heads b → a ≡ b
  maker_tells (Class a) (Class b) h k e = ap (λ n. Class (record { 0 = n })) (place_tells a.0 b.0 (ltb-true a.0 (length heads) h) (ltb-true b.0 (length heads) k) e)
  maker_tells (Class a) (Array b) h k e = absurd (class_apart a b h k e)
  maker_tells (Array a) (Class b) h k e = absurd (class_apart b a k h (sym e))
  maker_tells (Array a) (Array b) h k e = ap Array (type_tells a b (array_class a h) (array_class b k) e)

  one_told : (maker : Maker) (name : Name) → is_fit_maker (length heads) maker ≡ true → is_fit (length heads) name ≡ true → IsTold heads maker name
  one_told maker (Made other j) h k = maker_tells other maker k h
  one_told maker (Literal units) h k = tt
  one_told maker (ClassObject type) h k = tt

  -- the class's or array type's name tells it from those of all objects
  pub all_told : (maker : Maker) (names : List Name) → is_fit_maker (length heads) maker ≡ true → AreFit (length heads) names → AllByRecursion (IsTold heads maker) names
  all_told maker [] h k = tt
  all_told maker (name ∷ names) h k = (one_told maker name h k.0, all_told maker names h k.1)

  -- ---- names of objects

  made_same : (a b : Maker) (j k : ℕ) → a ≡ b → j ≡ k → Made a j ≡ Made b k
  made_same a b j k p q = ap (λ m. Made m j) p ∙ ap (Made b) q

  -- a name is told by the class machine's
  pub name_tells : (a b : Name) → is_fit (length heads) a ≡ true → is_fit (length heads) b ≡ true → machine.same_name (machine_name heads a) (machine_name heads b) ≡ true → a ≡ b
  name_tells (Made a j) (Made b k) h f e =
      let both = and_parts (j == k) (bytes_eq (maker_name heads a) (maker_name heads b)) e in
      made_same a b j k (maker_tells a b h f ((bytes_decides (maker_name heads a) (maker_name heads b)).0 both.1)) (eqb-true j k both.0)
  name_tells (Literal a) (Literal b) h f e = ap Literal ((bytes_decides a b).0 e)
  name_tells (ClassObject a) (ClassObject b) h f e = ap ClassObject (type_tells a b h f ((bytes_decides (type_name a) (type_name b)).0 e))
  name_tells (Made a j) (Literal b) h f e = absurd (false≢true e)
  name_tells (Made a j) (ClassObject b) h f e = absurd (false≢true e)
  name_tells (Literal a) (Made b k) h f e = absurd (false≢true e)
  name_tells (Literal a) (ClassObject b) h f e = absurd (false≢true e)
  name_tells (ClassObject a) (Made b k) h f e = absurd (false≢true e)
  name_tells (ClassObject a) (Literal b) h f e = absurd (false≢true e)

pub name_same : (heads : List ClassHead) (a : Name) → machine.same_name (machine_name heads a) (machine_name heads a) ≡ true
name_same heads (Made maker k) = name_itself_there heads maker k
name_same heads (Literal units) = (bytes_decides units units).1 refl
name_same heads (ClassObject type) = (bytes_decides (type_name type) (type_name type)).1 refl

-- ---- constants are there once

some_at : Option ℕ → Type 0
some_at o = (place : ℕ) × (o ≡ Some place)

still_found : (before : List Name) (x name : Name) (place : ℕ) → found_at before x ≡ Some place → found_at (before ++ name ∷ []) x ≡ Some place
still_found before x name place h = place_of-push before name x ∙ ap (λ o. or_at o (same_name x name) (length before)) h

none_before : (o : Option ℕ) (hit : Bool) (n : ℕ) → or_at o hit n ≡ None → o ≡ None
none_before (Some place) hit n h = h
none_before None hit n h = refl

hit_pushed : (o : Option ℕ) (hit : Bool) (n : ℕ) → hit ≡ true → or_at o hit n ≡ None → ⊥
hit_pushed (Some place) hit n e h = none-some place (sym h)
hit_pushed None true n e h = none-some n (sym h)
hit_pushed None false n e h = false≢true e

next_constant : (before : List Name) (x : Name) → is_constant x ≡ true → IsNext before x → found_at before x ≡ None
next_constant before (Made maker k) h next = absurd (false≢true h)
next_constant before (Literal units) h next = next
next_constant before (ClassObject type) h next = next

-- no object before a literal or class object is it
unfound : (before names : List Name) (at : ℕ) (x : Name) → is_constant x ≡ true → AreNumbered before names → slice_get names at ≡ Some x → found_at before x ≡ None
unfound before [] at x h numbered there = absurd (none-some x there)
unfound before (name ∷ names) zero x h numbered there = next_constant before x h (subst (IsNext before) (same_Some name x there) numbered.0)
unfound before (name ∷ names) (suc at) x h numbered there =
    none_before (found_at before x) (same_name x name) (length before) (sym (place_of-push before name x) ∙ unfound (before ++ name ∷ []) names at x h numbered.1 there)

module _ (heads : List ClassHead) (distinct : AreDistinct heads) where
  -- behind it, none is that literal or class object
  later_constant : (before names : List Name) (x : Name) (place : ℕ) → is_constant x ≡ true → is_fit (length heads) x ≡ true → found_at before x ≡ Some place → AreNumbered before names → AreFit (length heads) names
      → AllByRecursion (λ other. machine.same_name (machine_name heads other) (machine_name heads x) ≡ false) names
  later_constant before [] x place h fit found numbered fits = tt
  later_constant before (other ∷ names) x place h fit found numbered fits = (
    elim (cases_Bool (machine.same_name (machine_name heads other) (machine_name heads x))) [
      | inl same ↦ absurd (none-some place (sym (next_constant before x h (subst (IsNext before) (name_tells heads distinct other x fits.0 fit same) numbered.0)) ∙ found))
      | inr differ ↦ differ
    ],
    later_constant (before ++ other ∷ []) names x place h fit (still_found before x other place found) numbered.1 fits.1,
  )

  itself_found : (before : List Name) (x : Name) → found_at before x ≡ None → found_at (before ++ x ∷ []) x ≡ Some (length before)
  itself_found before x none =
      place_of-push before x x ∙ ap (λ o. or_at o (same_name x x) (length before)) none ∙ ap (λ hit. or_at None hit (length before)) (name_itself x)

  constant_alone : (before names : List Name) (at : ℕ) (x : Name) → is_constant x ≡ true → is_fit (length heads) x ≡ true → AreNumbered before names → AreFit (length heads) names → slice_get names at ≡ Some x
      → IsAlone heads names at (machine_name heads x)
  constant_alone before [] at x h fit numbered fits there = tt
  constant_alone before (name ∷ names) zero x h fit numbered fits there =
      let same = same_Some name x there in
      let none = next_constant before x h (subst (IsNext before) same numbered.0) in
      later_constant (before ++ x ∷ []) names x (length before) h fit (itself_found before x none) (subst (λ m. AreNumbered (before ++ m ∷ []) names) same numbered.1) fits.1
  constant_alone before (name ∷ names) (suc at) x h fit numbered fits there = (
    elim (cases_Bool (machine.same_name (machine_name heads name) (machine_name heads x))) [
      | inl same ↦
          let e : name ≡ x = name_tells heads distinct name x fits.0 fit same in
          let later = sym (place_of-push before name x) ∙ unfound (before ++ name ∷ []) names at x h numbered.1 there in
          absurd (hit_pushed (found_at before x) (same_name x name) (length before) (subst (λ m. same_name x m ≡ true) (sym e) (name_itself x)) later)
      | inr differ ↦ differ
    ],
    constant_alone (before ++ name ∷ []) names at x h fit numbered.1 fits.1 there,
  )

  pub fit_at : (names : List Name) (at : ℕ) (x : Name) → AreFit (length heads) names → slice_get names at ≡ Some x → is_fit (length heads) x ≡ true
  fit_at [] at x fits there = absurd (none-some x there)
  fit_at (name ∷ names) zero x fits there = subst (λ m. is_fit (length heads) m ≡ true) (same_Some name x there) fits.0
  fit_at (name ∷ names) (suc at) x fits there = fit_at names at x fits.1 there

  -- of numbered objects the one at the place alone has its name
  pub alone : (names : List Name) (at : ℕ) (x : Name) → AreNumbered [] names → AreFit (length heads) names → slice_get names at ≡ Some x → IsAlone heads names at (machine_name heads x)
  alone names at (Made maker k) numbered fits there =
      numbered_alone heads [] names at maker k numbered (all_told heads distinct maker names (fit_at names at (Made maker k) fits there) fits) there
  alone names at (Literal units) numbered fits there = constant_alone [] names at (Literal units) refl (fit_at names at (Literal units) fits there) numbered fits there
  alone names at (ClassObject type) numbered fits there = constant_alone [] names at (ClassObject type) refl (fit_at names at (ClassObject type) fits there) numbered fits there

-- ---- places

-- another place has another name
pub another : (heads : List ClassHead) (names : List Name) (at : ℕ) (a : machine.Name) → IsAlone heads names at a → (i : ℕ) → i < length names → i ≢ at → machine.same_name (name_in heads (slice_get names i)) a ≡ false
another heads [] at a h i within apart = absurd (omega arith)
another heads (name ∷ names) zero a h zero within apart = absurd (apart refl)
another heads (name ∷ names) zero a h (suc i) within apart = elsewhere names i h (omega arith) where
  elsewhere : (ns : List Name) (j : ℕ) → AllByRecursion (λ other. machine.same_name (machine_name heads other) a ≡ false) ns → j < length ns → machine.same_name (name_in heads (slice_get ns j)) a ≡ false
  elsewhere [] j k below = absurd (omega arith)
  elsewhere (n ∷ ns) zero k below = k.0
  elsewhere (n ∷ ns) (suc j) k below = elsewhere ns j k.1 (omega arith)
another heads (name ∷ names) (suc at) a h zero within apart = h.0
another heads (name ∷ names) (suc at) a h (suc i) within apart = another heads names at a h.1 i (omega arith) (λ e. apart (ap suc e))

pub named_at : (names : List Name) (at : ℕ) → at < length names → (x : Name) × (slice_get names at ≡ Some x)
named_at [] at h = absurd (omega arith)
named_at (name ∷ names) zero h = (name, refl)
named_at (name ∷ names) (suc at) h = named_at names at (omega arith)

-- two places have the same object only if they are the same
pub places_tell : (heads : List ClassHead) (names : List Name) → AreDistinct heads → AreNumbered [] names → AreFit (length heads) names → (a b : ℕ) → a < length names → b < length names
    → machine.same_name (name_in heads (slice_get names a)) (name_in heads (slice_get names b)) ≡ (a == b)
places_tell heads names distinct numbered fits a b h k = elim (cases_Bool (a == b)) [
  | inl same ↦
      let e : a ≡ b = eqb-true a b same in
      let x = named_at names b k in
      ap (λ i. machine.same_name (name_in heads (slice_get names i)) (name_in heads (slice_get names b))) e
      ∙ ap (λ o. machine.same_name (name_in heads o) (name_in heads o)) x.1 ∙ name_same heads x.0 ∙ sym same
  | inr apart ↦
      let x = named_at names b k in
      let differ : a ≢ b = λ e. false≢true (sym apart ∙ eq-eqb a b e) in
      ap (λ o. machine.same_name (name_in heads (slice_get names a)) (name_in heads o)) x.1
      ∙ another heads names b (machine_name heads x.0) (alone heads distinct names b x.0 numbered fits x.1) a h differ ∙ sym apart
]
