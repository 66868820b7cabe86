-- Files that are kept in a map from texts to bytes.
use Rattle.std.specs.Prelude.{ℕ, List, map}
use Rattle.std.specs.declared.alloc.Global.{Global}
use Rattle.std.specs.declared.string.String.{String}
use Rattle.std.specs.declared.vec.Vec.{Vec}
use Rattle.std.specs.String.{string_bytes}
use Rattle.aj_outside.specs.Files.{Files}

-- the name and the bytes of each entry
abbrev pub stored_files : List (String Global × Vec ℕ Global) → Files
stored_files entries = map (λ entry. (string_bytes entry.0, entry.1.items)) entries
