-- Subtypes by the tables of supertypes.
use Rattle.std.specs.Prelude.{◌≡◌, ℕ, ◌<◌, Bool, true, false, ◌||◌, if◌then◌else◌, List, [], length, Option, None, Some, nat_eq, slice_get, refl}
use Rattle.std.proofs.Common.{get_or, sym, ap, ◌∙◌, subst}
use Rattle.std.specs.Borrow.{Bor}
use Rattle.std.specs.List.{list_any, All, Contains}
use Rattle.std.specs.Option.{option_map, option_copied, IsNone}
use Rattle.std.specs.Str.{bytes_eq}
use Rattle.std.proofs.lemmas.Option.{slice_get-map, slice_get_within, get_or_from_slice_get}
use Rattle.std.proofs.lemmas.Slice.Eq.{bytes_eq-Decides}
use Rattle.class_heads.specs.declared.types.ClassHead.{ClassHead}
use Rattle.class_heads.specs.Hierarchy.{is_named, is_array, class_names, place_of, name_at, supertypes, supertypes_of, supertype_names, is_among_supertypes, is_class_below}
use Rattle.class_world.specs.Tables.{IsSupers}
use Rattle.class_world.proofs.Positions.{position_from-none}

-- of two known classes of different names
pub below_by_table : (heads : List ClassHead) (low high : List ℕ) (l h : ℕ) (table : List ℕ) (answer : Bool) → bytes_eq low high ≡ false → place_of heads low ≡ Some l → place_of heads high ≡ Some h → table ≡ supertypes heads l → answer ≡ list_any (nat_eq h) table → answer ≡ is_class_below heads low high
below_by_table heads low high l h table answer other pl ph t a =
    let e : is_class_below heads low high ≡ is_among_supertypes heads (Some l) (Some h) =
    ap (λ b. b || is_among_supertypes heads (place_of heads low) (place_of heads high)) other
    ∙ ap (λ o. is_among_supertypes heads o (place_of heads high)) pl
    ∙ ap (λ o. is_among_supertypes heads (Some l) o) ph in
    a ∙ ap (list_any (nat_eq h)) t ∙ sym e

-- the entry of a known class's supertypes, by its table
pub supertype_entry : (heads : List ClassHead) (low : List ℕ) (class index : ℕ) (table : List ℕ) → is_array low ≡ false → place_of heads low ≡ Some class → table ≡ supertypes heads class → option_map (name_at heads) (slice_get table index) ≡ slice_get (supertype_names heads low) index
supertype_entry heads low class index table other known is =
    ap (λ t. option_map (name_at heads) (slice_get t index)) is
    ∙ sym (slice_get-map (name_at heads) (supertypes heads class) index)
    ∙ sym (ap (λ o. slice_get (supertypes_of heads o) index) known)
    ∙ sym (ap (λ b. slice_get (if b then [] else supertypes_of heads (place_of heads low)) index) other)

All_slot : {X : Type 0} (P : X → Type 0) (xs : List X) (k : ℕ) (x : X) → All P xs → slice_get xs k ≡ Some x → P x
All_slot P xs k x all e = subst P (get_or_from_slice_get xs k x x e) (all k x (slice_get_within xs k x e))

-- what stands in a table is a place
pub table_within : (heads : List ClassHead) (supers : List (List ℕ)) (class index place : ℕ) → IsSupers heads supers → class < length supers → slice_get (get_or supers class []) index ≡ Some place → place < length heads
table_within heads supers class index place s h e = All_slot (λ p. p < length heads) (get_or supers class []) index place (s.within class [] h) e

-- ---- unknown classes

place_of-unknown : (heads : List ClassHead) (name : List ℕ) → (Contains (class_names heads) name → ⊥) → place_of heads name ≡ None
place_of-unknown heads name unknown =
    position_from-none (is_named name) 0 heads
    (λ j head e. other (bytes_eq head.name name) (λ same.
    let named : head.name ≡ name = (bytes_eq-Decides head.name name).0 same in
    let slot : slice_get (class_names heads) j ≡ Some name = slice_get-map (λ (c : ClassHead). c.name) heads j ∙ ap (option_map (λ (c : ClassHead). c.name)) e ∙ ap Some named in
    unknown (j, slice_get_within (class_names heads) j name slot, get_or_from_slice_get (class_names heads) j name name slot)))
  where
    other : (b : Bool) → (b ≡ true → ⊥) → b ≡ false
    other true h = absurd (h refl)
    other false h = refl

no_entry : (heads : List ClassHead) (b : Bool) (index : ℕ) → slice_get (if b then [] else supertypes_of heads None) index ≡ None
no_entry heads true index = refl
no_entry heads false index = refl

-- an unknown class has no supertypes
pub unknown_none : (heads : List ClassHead) (low : List ℕ) (index : ℕ) (r : Option (Bor (List ℕ))) → option_copied r ≡ slice_get (supertype_names heads low) index → (Contains (class_names heads) low → ⊥) → IsNone r
unknown_none heads low index None e unknown = refl
unknown_none heads low index (Some name) e unknown =
    let none : slice_get (supertype_names heads low) index ≡ None =
    ap (λ o. slice_get (if is_array low then [] else supertypes_of heads o) index) (place_of-unknown heads low unknown) ∙ no_entry heads (is_array low) index in
    let both : Some name.now ≡ None = e ∙ none in
    absurd cc
