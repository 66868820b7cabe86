-- Up the superclasses to one of a name.
use Rattle.std.specs.Prelude.{◌≡◌, ℕ, suc, ◌+◌, ◌-◌, ◌<◌, ◌≤◌, ◌||◌, Bool, true, false, List, [], ◌∷◌, map, length}
use Rattle.std.specs.List.{flat_map}
use Rattle.std.specs.Str.{bytes_eq}
use Rattle.std.proofs.Common.{sym, ◌∙◌, ap, subst, arith}
use Rattle.class_heads.specs.declared.types.ClassHead.{ClassHead}
use Rattle.class_heads.specs.Graph.{walk}
use Rattle.class_heads.specs.Hierarchy.{superclass_at, superclasses, name_at}
use Rattle.class_machine.specs.Classes.{is_among}
use Rattle.machine_invocations.proofs.Upward.{walk_up, walk_top}

abbrev among : List ClassHead → List ℕ → List ℕ → Bool
among heads name places = is_among (map (name_at heads) places) name

-- what is left of the way upward decides
pub record Rises (heads : List ClassHead) (name : List ℕ) (start turn at : ℕ) : Type 0 where
  pub within : at < length heads
  pub same : is_among (map (name_at heads) (walk (superclass_at heads) (length heads - turn) at)) name ≡ is_among (map (name_at heads) (superclasses heads start)) name

module _ (heads : List ClassHead) (name : List ℕ) (start : ℕ) where
  pub rises_first : start < length heads → Rises heads name start 0 start
  rises_first h = record { within = h; same = ap (λ n. among heads name (walk (superclass_at heads) n start)) (let e : length heads - 0 ≡ length heads = omega arith in e) }

  module _ (turn at : ℕ) (is : Rises heads name start turn at) where
    here : turn < length heads → among heads name (walk (superclass_at heads) (suc (length heads - (turn + 1))) at) ≡ among heads name (superclasses heads start)
    here h = subst (λ n. among heads name (walk (superclass_at heads) n at) ≡ among heads name (superclasses heads start)) (let e : length heads - turn ≡ suc (length heads - (turn + 1)) = omega arith in e) is.same

    later : (places : List ℕ) → bytes_eq name (name_at heads at) ≡ false → among heads name (at ∷ places) ≡ among heads name places
    later places e = ap (λ (b : Bool). b || among heads name places) e

    pub rises_found : turn < length heads → bytes_eq name (name_at heads at) ≡ true → true ≡ among heads name (superclasses heads start)
    rises_found h e = sym (ap (λ (b : Bool). b || among heads name (flat_map (walk (superclass_at heads) (length heads - (turn + 1))) (superclass_at heads at))) e) ∙ here h

    pub rises_next : (next : ℕ) → turn < length heads → next < length heads → bytes_eq name (name_at heads at) ≡ false → next ∷ [] ≡ superclass_at heads at → Rises heads name start (turn + 1) next
    rises_next next h within e up = record {
      within = within;
      same = sym (ap (among heads name) (walk_up (superclass_at heads) (length heads - (turn + 1)) at next up) ∙ later (walk (superclass_at heads) (length heads - (turn + 1)) next) e) ∙ here h;
    }

    pub rises_top : turn < length heads → bytes_eq name (name_at heads at) ≡ false → [] ≡ superclass_at heads at → false ≡ among heads name (superclasses heads start)
    rises_top h e up = sym (ap (among heads name) (walk_top (superclass_at heads) (length heads - (turn + 1)) at up) ∙ later [] e) ∙ here h

    pub rises_end : length heads ≤ turn → false ≡ among heads name (superclasses heads start)
    rises_end h = subst (λ n. among heads name (walk (superclass_at heads) n at) ≡ among heads name (superclasses heads start)) (let e : length heads - turn ≡ 0 = omega arith in e) is.same
