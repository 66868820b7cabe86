-- The tests by which names are compared hold exactly where they are equal; where a name stands first.
use Rattle.std.specs.Prelude.{◌≡◌, ℕ, suc, ◌<◌, ◌≤◌, Bool, true, false, if◌then◌else◌, ◌⊎◌, List, [], ◌∷◌, ◌++◌, length, slice_get, Option, Some, None, option_map, refl, nat_eq}
use Rattle.std.proofs.Common.{sym, ◌∙◌, ap, subst, inl, inr, arith}
use Rattle.std.specs.Cmp.Lexicographic.{bytes_decides}
use Rattle.std.proofs.lemmas.Bool.{eqb-true, and_parts, cases_Bool, false≢true}
use Rattle.std.proofs.lemmas.Option.{none-some}
use Rattle.aj_names.specs.declared.ids.ClassId.{ClassId}
use Rattle.aj_names.specs.declared.types.Base.{Base}
use Rattle.aj_names.specs.declared.types.Base.TheVariants as base
use Rattle.aj_names.specs.declared.types.FieldType.{FieldType}
use Rattle.aj_names.specs.contracts.types.BasePartialEq.TheImpl.{ghosts as of_base}
use Rattle.aj_names.specs.contracts.types.FieldTypePartialEq.TheImpl.{ghosts as of_type}
use Rattle.machine_values.specs.declared.names.Maker.{Maker}
use Rattle.machine_values.specs.declared.names.Maker.TheVariants.{Class, Array}
use Rattle.machine_values.specs.declared.names.Name.{Name}
use Rattle.machine_values.specs.declared.names.Name.TheVariants.{Made, Literal, ClassObject}
use Rattle.machine_values.specs.contracts.names.MakerEq.TheImpl.Laws as maker_laws
use Rattle.machine_values.specs.contracts.names.NameEq.TheImpl.Laws as name_laws
use Rattle.machine_values.specs.Things.{same_maker, is_made_of, made, is_constant, same_name, place_of}

-- ---- equal names

base_equal : (a b : Base) → of_base.eq a b ≡ true → a ≡ b
base_equal base.Boolean base.Boolean h = refl
base_equal base.Byte base.Byte h = refl
base_equal base.Char base.Char h = refl
base_equal base.Short base.Short h = refl
base_equal base.Int base.Int h = refl
base_equal base.Long base.Long h = refl
base_equal base.Float base.Float h = refl
base_equal base.Double base.Double h = refl
base_equal (base.Class a) (base.Class b) h = ap base.Class ((bytes_decides a b).0 h)
base_equal a b h = absurd (false≢true h)

abbrev type_of : Base → ℕ → FieldType
type_of b n = record { base = b; dims = n }

same_parts : (x y : Base) (m n : ℕ) → x ≡ y → m ≡ n → type_of x m ≡ type_of y n
same_parts x y m n p q = ap (λ b. type_of b m) p ∙ ap (type_of y) q

pub type_equal : (a b : FieldType) → of_type.eq a b ≡ true → a ≡ b
type_equal a b h = let p = and_parts (of_base.eq a.base b.base) (nat_eq a.dims b.dims) h in
    same_parts a.base b.base a.dims b.dims (base_equal a.base b.base p.0) (eqb-true a.dims b.dims p.1)

abbrev class_of : ℕ → ClassId
class_of n = record { 0 = n }

pub maker_equal : (a b : Maker) → same_maker a b ≡ true → a ≡ b
maker_equal (Class a) (Class b) h = ap (λ n. Class (class_of n)) (eqb-true a.0 b.0 h)
maker_equal (Array a) (Array b) h = ap Array (type_equal a b h)
maker_equal a b h = absurd (false≢true h)

made_equal : (a b : Maker) (k j : ℕ) → a ≡ b → k ≡ j → Made a k ≡ Made b j
made_equal a b k j p q = ap (λ m. Made m k) p ∙ ap (Made b) q

pub name_equal : (a b : Name) → same_name a b ≡ true → a ≡ b
name_equal (Made a k) (Made b j) h = let p = and_parts (same_maker a b) (nat_eq k j) h in made_equal a b k j (maker_equal a b p.0) (eqb-true k j p.1)
name_equal (Literal a) (Literal b) h = ap Literal ((bytes_decides a b).0 h)
name_equal (ClassObject a) (ClassObject b) h = ap ClassObject (type_equal a b h)
name_equal a b h = absurd (false≢true h)

pub maker_itself : (a : Maker) → same_maker a a ≡ true
maker_itself a = maker_laws.laws-law.refl a

pub name_itself : (a : Name) → same_name a a ≡ true
name_itself a = name_laws.laws-law.refl a

-- equal, or told apart both ways
pub maker_cases : (a b : Maker) → (a ≡ b) ⊎ ((same_maker a b ≡ false) × (same_maker b a ≡ false))
maker_cases a b =
    elim (cases_Bool (same_maker a b)) [
      | inl same ↦ inl (maker_equal a b same)
      | inr apart ↦ elim (cases_Bool (same_maker b a)) [
        | inl same ↦ inl (sym (maker_equal b a same))
        | inr other ↦ inr (apart, other)
      ]
    ]

pub name_cases : (a b : Name) → (a ≡ b) ⊎ ((same_name a b ≡ false) × (same_name b a ≡ false))
name_cases a b =
    elim (cases_Bool (same_name a b)) [
      | inl same ↦ inl (name_equal a b same)
      | inr apart ↦ elim (cases_Bool (same_name b a)) [
        | inl same ↦ inl (sym (name_equal b a same))
        | inr other ↦ inr (apart, other)
      ]
    ]

-- ---- how many were made, with one more name

abbrev plus_one : Bool → ℕ → ℕ
plus_one hit n = if hit then suc n else n

plus_one-twice : (a b : Bool) (n : ℕ) → plus_one a (plus_one b n) ≡ plus_one b (plus_one a n)
plus_one-twice true true n = refl
plus_one-twice true false n = refl
plus_one-twice false true n = refl
plus_one-twice false false n = refl

made-push : (names : List Name) (name : Name) (maker : Maker) → made (names ++ name ∷ []) maker ≡ plus_one (is_made_of maker name) (made names maker)
made-push [] name maker = refl
made-push (first ∷ names) name maker = ap (plus_one (is_made_of maker first)) (made-push names name maker) ∙ plus_one-twice (is_made_of maker first) (is_made_of maker name) (made names maker)

pub made-hit : (names : List Name) (name : Name) (maker : Maker) → is_made_of maker name ≡ true → made (names ++ name ∷ []) maker ≡ suc (made names maker)
made-hit names name maker h = made-push names name maker ∙ ap (λ hit. plus_one hit (made names maker)) h

pub made-miss : (names : List Name) (name : Name) (maker : Maker) → is_made_of maker name ≡ false → made (names ++ name ∷ []) maker ≡ made names maker
made-miss names name maker h = made-push names name maker ∙ ap (λ hit. plus_one hit (made names maker)) h

-- ---- the first place, with one more name

-- a place where there is one, or else this one where the test holds
abbrev pub or_at : Option ℕ → Bool → ℕ → Option ℕ
or_at (Some i) hit n = Some i
or_at None hit n = if hit then Some n else None

or_at-suc : (o : Option ℕ) (hit : Bool) (n : ℕ) → option_map suc (or_at o hit n) ≡ or_at (option_map suc o) hit (suc n)
or_at-suc (Some i) hit n = refl
or_at-suc None true n = refl
or_at-suc None false n = refl

abbrev first_or : Bool → Option ℕ → Option ℕ
first_or hit o = if hit then Some 0 else option_map suc o

first_or-at : (first : Bool) (o : Option ℕ) (hit : Bool) (n : ℕ) → first_or first (or_at o hit n) ≡ or_at (first_or first o) hit (suc n)
first_or-at true o hit n = refl
first_or-at false o hit n = or_at-suc o hit n

pub or_at-false : (o : Option ℕ) (n : ℕ) → or_at o false n ≡ o
or_at-false (Some i) n = refl
or_at-false None n = refl

pub place_of-push : (names : List Name) (x name : Name) → place_of (names ++ x ∷ []) name ≡ or_at (place_of names name) (same_name name x) (length names)
place_of-push [] x name = refl
place_of-push (first ∷ names) x name = ap (first_or (same_name name first)) (place_of-push names x name) ∙ first_or-at (same_name name first) (place_of names name) (same_name name x) (length names)

pub place_of-within : (names : List Name) (name : Name) (place : ℕ) → place_of names name ≡ Some place → place < length names
place_of-within (first ∷ names) name place h = within (same_name name first) (place_of names name) (place_of-within names name) place h where
  within : (hit : Bool) (o : Option ℕ) → ((i : ℕ) → o ≡ Some i → i < length names) → (i : ℕ) → first_or hit o ≡ Some i → i < suc (length names)
  within true o later i e = let z : 0 ≡ i = cc in omega arith
  within false None later i e = absurd (none-some i e)
  within false (Some j) later i e = let below = later j refl in let next : suc j ≡ i = cc in omega arith
place_of-within [] name place h = absurd (none-some place h)

pub made_few : (names : List Name) (maker : Maker) → made names maker ≤ length names
made_few [] maker = omega arith
made_few (name ∷ names) maker = let fewer = made_few names maker in one_more (is_made_of maker name) (made names maker) (length names) fewer where
  one_more : (hit : Bool) (n count : ℕ) → n ≤ count → plus_one hit n ≤ suc count
  one_more true n count h = omega arith
  one_more false n count h = omega arith

pub made-grows : (names : List Name) (name : Name) (maker : Maker) → made names maker ≤ made (names ++ name ∷ []) maker
made-grows names name maker = rw (made-push names name maker) (no_less (is_made_of maker name) (made names maker)) where
  no_less : (hit : Bool) (n : ℕ) → n ≤ plus_one hit n
  no_less true n = omega arith
  no_less false n = omega arith
