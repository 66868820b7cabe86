-- Which classes take names that are kept for what is woven: the names of classes, and the names and
-- descriptors of members, that a class declares or refers to (JVMS 4.4.1, 4.4.6, 4.5, 4.6). Texts of
-- string constants, attributes and local variables are no such names.
use Rattle.std.specs.Prelude.{ℕ, Bool, false, ◌||◌, List, [], ◌∷◌, codes, nat_eq}
use Rattle.std.specs.List.{list_any, starts_with}
use Rattle.class_file.specs.declared.pool.PoolEntry.{PoolEntry}
use Rattle.class_file.specs.declared.pool.PoolEntry.TheVariants.{Class, NameAndType}
use Rattle.class_file.specs.declared.types.ClassFile.{ClassFile}
use Rattle.class_file.specs.declared.types.Member.{Member}
use Rattle.class_file.specs.Pool.{text_at}
use Rattle.class_file.specs.Sound.{is_some_that}

-- ajc$ stands somewhere in the text
abbrev pub has_mark : List ℕ → Bool
has_mark [] = false
has_mark (b ∷ bs) = starts_with nat_eq (b ∷ bs) (codes "ajc$") || has_mark bs

abbrev pub is_marked : List PoolEntry → ℕ → Bool
is_marked pool index = is_some_that has_mark (text_at pool index)

abbrev pub entry_is_marked : List PoolEntry → PoolEntry → Bool
entry_is_marked pool (Class name) = is_marked pool name
entry_is_marked pool (NameAndType name descriptor) = is_marked pool name || is_marked pool descriptor
entry_is_marked pool _ = false

abbrev pub member_is_marked : List PoolEntry → Member → Bool
member_is_marked pool m = is_marked pool m.name || is_marked pool m.descriptor

abbrev pub is_reserved : ClassFile → Bool
is_reserved c =
    list_any (entry_is_marked c.pool) c.pool
    || (list_any (member_is_marked c.pool) c.fields || list_any (member_is_marked c.pool) c.methods)
