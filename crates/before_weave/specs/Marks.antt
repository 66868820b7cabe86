-- Which entries of a pool name the method whose calls are advised, and which instructions call it.
use Rattle.std.specs.Prelude.{ℕ, zero, suc, ◌==◌, ◌&&◌, Bool, false, List, map, slice_index_or}
use Rattle.opcode_table.specs.declared.insn.Insn.{Insn}
use Rattle.opcode_table.specs.declared.insn.Insn.TheVariants as insn
use Rattle.class_file.specs.declared.pool.PoolEntry.{PoolEntry}
use Rattle.class_file.specs.Pool.{as_method}
use Rattle.class_file.specs.Sound.{is_some_that}
use Rattle.jp_model.specs.declared.first_aspect.FirstAspect.{FirstAspect}
use Rattle.jp_model.specs.Aspects.{CallPattern}
use Rattle.jp_model.specs.JoinPoints.{matches}

-- the pattern of the aspect's pointcut
abbrev pub pattern_of : FirstAspect → CallPattern
pattern_of a = record { class = a.class; method = a.method }

-- the entry names a method that the pattern matches
abbrev pub is_match : List PoolEntry → FirstAspect → PoolEntry → Bool
is_match pool a e = is_some_that (matches (pattern_of a)) (as_method pool e)

-- for each entry whether it does
abbrev pub marks_of : List PoolEntry → FirstAspect → List Bool
marks_of pool a = map (is_match pool a) pool

-- the entry of the index is marked; the entry of index 1 comes first (JVMS 4.1)
abbrev pub is_marked : List Bool → ℕ → Bool
is_marked marks zero = false
is_marked marks (suc place) = slice_index_or marks place false

-- invokestatic of a method that is marked
abbrev pub is_advised : List Bool → Insn → Bool
is_advised marks (insn.Pool op index) = op == 184 && is_marked marks index
is_advised marks _ = false
