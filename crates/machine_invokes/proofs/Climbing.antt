-- Up the superclasses that have begun.
use Rattle.std.specs.Prelude.{◌≡◌, ℕ, suc, ◌+◌, ◌-◌, ◌<◌, ◌≤◌, Bool, true, false, List, [], ◌∷◌, length, slice_index_or}
use Rattle.std.specs.List.{AllByRecursion}
use Rattle.std.proofs.Common.{sym, subst, arith}
use Rattle.class_heads.specs.Graph.{walk}
use Rattle.class_heads.specs.Hierarchy.{superclass_at, superclasses}
use Rattle.class_world.specs.Tables.{Known}
use Rattle.machine_invocations.proofs.Upward.{walk_up, walk_top}
use Rattle.machine_invokes.specs.Beginning.{HaveBegun}

module _ (k : Known) (begun : List Bool) (start : ℕ) where
  abbrev AllBegun : List ℕ → Type 0
  AllBegun places = AllByRecursion (λ (place : ℕ). slice_index_or begun place false ≡ true) places

  -- what is left of the way upward decides
  pub record Climbs (turn at : ℕ) : Type 0 where
    pub within : at < length k.heads
    pub rest : AllBegun (walk (superclass_at k.heads) (length k.heads - turn) at) → AllBegun (superclasses k.heads start)

  pub climbs_first : start < length k.heads → Climbs 0 start
  climbs_first h = record { within = h; rest = λ all. subst (λ n. AllBegun (walk (superclass_at k.heads) n start)) (let e : length k.heads - 0 ≡ length k.heads = omega arith in e) all }

  module _ (turn at : ℕ) (climbs : Climbs turn at) where
    here : turn < length k.heads → AllBegun (walk (superclass_at k.heads) (suc (length k.heads - (turn + 1))) at) → AllBegun (superclasses k.heads start)
    here h all = climbs.rest (subst (λ n. AllBegun (walk (superclass_at k.heads) n at)) (let e : suc (length k.heads - (turn + 1)) ≡ length k.heads - turn = omega arith in e) all)

    pub climbs_next : (next : ℕ) → turn < length k.heads → slice_index_or begun at false ≡ true → next < length k.heads → next ∷ [] ≡ superclass_at k.heads at → Climbs (turn + 1) next
    climbs_next next h has within up = record {
      within = within;
      rest = λ all. here h (subst AllBegun (sym (walk_up (superclass_at k.heads) (length k.heads - (turn + 1)) at next up)) (has, all));
    }

    pub climbs_top : turn < length k.heads → slice_index_or begun at false ≡ true → [] ≡ superclass_at k.heads at → HaveBegun k begun start
    climbs_top h has up = record { all = here h (subst AllBegun (sym (walk_top (superclass_at k.heads) (length k.heads - (turn + 1)) at up)) (has, tt)) }

    pub climbs_end : length k.heads ≤ turn → HaveBegun k begun start
    climbs_end h = record { all = climbs.rest (subst (λ n. AllBegun (walk (superclass_at k.heads) n at)) (let e : 0 ≡ length k.heads - turn = omega arith in e) tt) }
