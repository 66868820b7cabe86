-- Reserved names by a table of marks, which says of each entry of the pool whether it is a text with the
-- mark in it.
use Rattle.std.specs.Prelude.{ℕ, zero, suc, Bool, false, ◌||◌, List, Option, None, slice_get, unwrap_or}
use Rattle.std.specs.List.{list_any}
use Rattle.class_file.specs.declared.pool.PoolEntry.{PoolEntry}
use Rattle.class_file.specs.declared.pool.PoolEntry.TheVariants.{Class, NameAndType}
use Rattle.class_file.specs.declared.types.ClassFile.{ClassFile}
use Rattle.class_file.specs.declared.types.Member.{Member}
use Rattle.class_file.specs.Pool.{as_text}
use Rattle.class_file.specs.Sound.{is_some_that}
use Rattle.class_heads.specs.Reserved.{has_mark}

abbrev pub entry_mark : PoolEntry → Bool
entry_mark entry = is_some_that has_mark (as_text entry)

abbrev pub mark_at : List Bool → ℕ → Option Bool
mark_at marks zero = None
mark_at marks (suc place) = slice_get marks place

abbrev pub is_marked : List Bool → ℕ → Bool
is_marked marks index = unwrap_or (mark_at marks index) false

abbrev pub entry_is_marked : List Bool → PoolEntry → Bool
entry_is_marked marks (Class name) = is_marked marks name
entry_is_marked marks (NameAndType name descriptor) = is_marked marks name || is_marked marks descriptor
entry_is_marked marks _ = false

abbrev pub member_is_marked : List Bool → Member → Bool
member_is_marked marks m = is_marked marks m.name || is_marked marks m.descriptor

abbrev pub is_reserved : List Bool → ClassFile → Bool
is_reserved marks c =
    list_any (entry_is_marked marks) c.pool
    || (list_any (member_is_marked marks) c.fields || list_any (member_is_marked marks) c.methods)
