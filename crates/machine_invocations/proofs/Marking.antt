-- The classes that a trigger marks as begun.
use Rattle.std.specs.Prelude.{◌≡◌, ℕ, suc, ◌+◌, ◌-◌, ◌<◌, ◌≤◌, ◌||◌, Bool, true, false, if◌then◌else◌, List, [], ◌∷◌, map, length, slice_set, slice_index_or, Some, refl}
use Rattle.std.proofs.Common.{sym, ap, ◌∙◌, subst, arith}
use Rattle.std.specs.Str.{bytes_eq}
use Rattle.std.proofs.lemmas.List.{get_or-set_same, get_or-set_other, length-set}
use Rattle.std.proofs.lemmas.Option.{same_Some}
use Rattle.std.proofs.lemmas.Slice.Eq.{bytes_eq-Decides}
use Rattle.class_heads.specs.Graph.{walk}
use Rattle.class_heads.specs.Hierarchy.{name_at, place_of, superclass_at}
use Rattle.class_world.specs.Tables.{Known}
use Rattle.class_machine.specs.Classes.{is_among, marked}
use Rattle.machine_invocations.specs.Initialising.{HasBegun, names_upward}
use Rattle.machine_invocations.proofs.Upward.{walk_up, walk_top}

-- ---- the names that are marked

both_ways : (a b c : Bool) → (a || (b || c)) ≡ (b || (a || c))
both_ways true true c = refl
both_ways true false c = refl
both_ways false b c = refl

or_false : (a : Bool) → (a || false) ≡ a
or_false true = refl
or_false false = refl

absorbed : (a b c : Bool) → (b ≡ true → a ≡ true) → (a || c) ≡ (a || (b || c))
absorbed true b c h = refl
absorbed false false c h = refl
absorbed false true c h = absurd (let no : false ≡ true = h refl in cc)

marked_step : (begun classes : List (List ℕ)) (class x : List ℕ) (b : Bool) → is_among begun class ≡ b → is_among (marked begun classes) x ≡ (is_among begun x || is_among classes x)
    → is_among (if b then marked begun classes else class ∷ marked begun classes) x ≡ (is_among begun x || (bytes_eq x class || is_among classes x))
marked_step begun classes class x true there later =
    later ∙ absorbed (is_among begun x) (bytes_eq x class) (is_among classes x) (λ e. ap (is_among begun) ((bytes_eq-Decides x class).0 e) ∙ there)
marked_step begun classes class x false there later = ap (λ b. bytes_eq x class || b) later ∙ both_ways (bytes_eq x class) (is_among begun x) (is_among classes x)

among_marked : (begun classes : List (List ℕ)) (x : List ℕ) → is_among (marked begun classes) x ≡ (is_among begun x || is_among classes x)
among_marked begun [] x = sym (or_false (is_among begun x))
among_marked begun (class ∷ classes) x = marked_step begun classes class x (is_among begun class) refl (among_marked begun classes x)

-- ---- the marks, by the numbers of the classes

-- what is left of the way upward is still to be marked
pub record Marks (k : Known) (old : List Bool) (start turn at : ℕ) (begun : List Bool) : Type 0 where
  pub within : at < length k.heads
  pub len : length begun ≡ length k.heads
  pub each : (n : ℕ) → n < length k.heads
      → (slice_index_or begun n false || is_among (map (name_at k.heads) (walk (superclass_at k.heads) (length k.heads - turn) at)) (name_at k.heads n)) ≡ (slice_index_or old n false || is_among (names_upward k start) (name_at k.heads n))

pub record AreMarked (k : Known) (old : List Bool) (start : ℕ) (begun : List Bool) : Type 0 where
  pub len : length begun ≡ length k.heads
  pub each : (n : ℕ) → n < length k.heads → slice_index_or begun n false ≡ (slice_index_or old n false || is_among (names_upward k start) (name_at k.heads n))

module _ (k : Known) (distinct : (place : ℕ) → place < length k.heads → place_of k.heads (name_at k.heads place) ≡ Some place) where
  same_class : (n at : ℕ) → n < length k.heads → at < length k.heads → bytes_eq (name_at k.heads n) (name_at k.heads at) ≡ true → n ≡ at
  same_class n at h g e = same_Some n at (sym (distinct n h) ∙ ap (place_of k.heads) ((bytes_eq-Decides (name_at k.heads n) (name_at k.heads at)).0 e) ∙ distinct at g)

  pub marks_first : (old : List Bool) (start : ℕ) → start < length k.heads → length old ≡ length k.heads → Marks k old start 0 start old
  marks_first old start h len = record {
    within = h;
    len = len;
    each = λ n below. ap (λ most. slice_index_or old n false || is_among (map (name_at k.heads) (walk (superclass_at k.heads) most start)) (name_at k.heads n)) (let e : length k.heads - 0 ≡ length k.heads = omega arith in e);
  }

  module _ (old : List Bool) (start turn at : ℕ) (begun : List Bool) (marks : Marks k old start turn at begun) (more : turn < length k.heads) where
    set_len : length (slice_set begun at true) ≡ length k.heads
    set_len = length-set begun at true ∙ marks.len

    set_at : (n : ℕ) (rest : Bool) → n < length k.heads → (slice_index_or begun n false || (bytes_eq (name_at k.heads n) (name_at k.heads at) || rest)) ≡ (slice_index_or (slice_set begun at true) n false || rest)
    set_at n rest h = by (bytes_eq (name_at k.heads n) (name_at k.heads at)) refl where
      to_true : (a : Bool) → (a || true) ≡ true
      to_true true = refl
      to_true false = refl

      by : (b : Bool) → bytes_eq (name_at k.heads n) (name_at k.heads at) ≡ b → (slice_index_or begun n false || (b || rest)) ≡ (slice_index_or (slice_set begun at true) n false || rest)
      by true e =
          let same = same_class n at h marks.within e in
          let len = marks.len in
          let lies : at < length begun = let w = marks.within in omega arith in
          to_true (slice_index_or begun n false)
          ∙ sym (ap (λ b. b || rest) (ap (λ i. slice_index_or (slice_set begun at true) i false) same ∙ get_or-set_same begun at true false lies))
      by false e =
          let apart : n ≡ at → ⊥ = λ same. (let no : false ≡ true = sym e ∙ (bytes_eq-Decides (name_at k.heads n) (name_at k.heads at)).1 (ap (name_at k.heads) same) in cc) in
          sym (ap (λ b. b || rest) (get_or-set_other begun at n true false apart))

    here : (n : ℕ) → n < length k.heads
        → (slice_index_or begun n false || is_among (map (name_at k.heads) (walk (superclass_at k.heads) (suc (length k.heads - (turn + 1))) at)) (name_at k.heads n)) ≡ (slice_index_or old n false || is_among (names_upward k start) (name_at k.heads n))
    here n below =
        subst (λ most. (slice_index_or begun n false || is_among (map (name_at k.heads) (walk (superclass_at k.heads) most at)) (name_at k.heads n)) ≡ (slice_index_or old n false || is_among (names_upward k start) (name_at k.heads n)))
        (let e : length k.heads - turn ≡ suc (length k.heads - (turn + 1)) = omega arith in e) (marks.each n below)

    pub marks_next : (next : ℕ) → next < length k.heads → next ∷ [] ≡ superclass_at k.heads at → Marks k old start (turn + 1) next (slice_set begun at true)
    marks_next next within up = record {
      within = within;
      len = set_len;
      each = λ n below.
          let left = length k.heads - (turn + 1) in
          sym (set_at n (is_among (map (name_at k.heads) (walk (superclass_at k.heads) left next)) (name_at k.heads n)) below)
          ∙ sym (ap (λ places. slice_index_or begun n false || is_among (map (name_at k.heads) places) (name_at k.heads n)) (walk_up (superclass_at k.heads) left at next up))
          ∙ here n below;
    }

    pub marks_top : [] ≡ superclass_at k.heads at → AreMarked k old start (slice_set begun at true)
    marks_top up = record {
      len = set_len;
      each = λ n below.
          let left = length k.heads - (turn + 1) in
          sym (or_false (slice_index_or (slice_set begun at true) n false))
          ∙ sym (set_at n false below)
          ∙ sym (ap (λ places. slice_index_or begun n false || is_among (map (name_at k.heads) places) (name_at k.heads n)) (walk_top (superclass_at k.heads) left at up))
          ∙ here n below;
    }

  pub marks_end : (old : List Bool) (start turn at : ℕ) (begun : List Bool) → Marks k old start turn at begun → length k.heads ≤ turn → AreMarked k old start begun
  marks_end old start turn at begun marks h = record {
    len = marks.len;
    each = λ n below.
        sym (or_false (slice_index_or begun n false))
        ∙ subst (λ most. (slice_index_or begun n false || is_among (map (name_at k.heads) (walk (superclass_at k.heads) most at)) (name_at k.heads n)) ≡ (slice_index_or old n false || is_among (names_upward k start) (name_at k.heads n)))
        (let e : length k.heads - turn ≡ 0 = omega arith in e) (marks.each n below);
  }

  pub has_marked : (old : List Bool) (start : ℕ) (begun : List Bool) (others : List (List ℕ)) → AreMarked k old start begun → HasBegun k old others → HasBegun k begun (marked others (names_upward k start))
  has_marked old start begun others are has n below =
      among_marked others (names_upward k start) (name_at k.heads n)
      ∙ ap (λ b. b || is_among (names_upward k start) (name_at k.heads n)) (has n below)
      ∙ sym (are.each n below)
