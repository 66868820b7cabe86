-- What shelves and sinks in memory are seen as, and which of their calls fail.
use Rattle.std.specs.Prelude.{ℕ, ◌+◌, ◌<◌, min, List}
use Rattle.std.specs.List.{Contains}
use Rattle.aj_outside.specs.Counts.{last_count}
use Rattle.aj_outside.specs.Files.{Files}

-- a shelf in memory: its files, the numbers of the calls that are to fail, how many calls were made,
-- and its counts
pub record ShelfState : Type 0 where
  pub files : Files
  pub failing : List ℕ
  pub calls : ℕ
  pub faults : ℕ
  pub write_faults : ℕ
  pub missing : ℕ

-- a sink in memory: what was written, the numbers of the calls that are to fail, how many calls were
-- made, and its count of failures
pub record SinkState : Type 0 where
  pub bytes : List ℕ
  pub failing : List ℕ
  pub calls : ℕ
  pub faults : ℕ

-- after this many calls the next one is to fail; calls are counted from 1, and no call past the last
-- count has a number
abbrev pub NextFails : List ℕ → ℕ → Type 0
NextFails failing calls = (calls < last_count) × Contains failing (calls + 1)

-- one more; a count that stands at the last one stays there
abbrev pub one_more : ℕ → ℕ
one_more count = min (count + 1) last_count
