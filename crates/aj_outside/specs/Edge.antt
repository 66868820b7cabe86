-- What the shelf over real files is seen as: its counts. What the files hold is not told.
use Rattle.std.specs.Prelude.{ℕ}

pub record FolderCounts : Type 0 where
  pub faults : ℕ
  pub write_faults : ℕ
  pub missing : ℕ
