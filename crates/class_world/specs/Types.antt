-- Types by their descriptors (JVMS 4.3.2).
use Rattle.std.specs.Prelude.{ℕ, Bool, ◌&&◌, List}
use Rattle.class_heads.specs.Hierarchy.{is_array}

-- both are array types
abbrev pub are_arrays : List ℕ → List ℕ → Bool
are_arrays low high = is_array low && is_array high
