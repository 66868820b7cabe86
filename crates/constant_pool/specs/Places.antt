-- The map that finds entries of a pool.
use Rattle.std.specs.Prelude.{◌≡◌, ℕ, ◌≤◌, List, length}
use Rattle.indexmap.specs.IndexMap.{IndexMap, get}
use Rattle.class_file.specs.declared.pool.PoolEntry.{PoolEntry}
use Rattle.constant_pool.specs.Edit.{same_entry, least_index}

-- The pool's count is at most 65,535, and the map has each entry at its least index, and no others.
pub record IsIndexed {S : Type 0} (pool : List PoolEntry) (places : IndexMap PoolEntry ℕ S) : Type 0 where
  pub fits : length pool ≤ 65534
  pub least : (e : PoolEntry) → get same_entry places e ≡ least_index pool e
