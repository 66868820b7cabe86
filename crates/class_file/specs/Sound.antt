-- Soundness of a constant pool (JVMS, second edition, 4.4), as a test.
use Rattle.std.specs.Prelude.{ℕ, Bool, true, false, not, ◌&&◌, ◌||◌, List, [], ◌∷◌, Option, Some, None, is_some}
use Rattle.std.specs.List.{list_all}
use Rattle.class_file.specs.declared.pool.PoolEntry.{PoolEntry}
use Rattle.class_file.specs.declared.pool.PoolEntry.TheVariants as entry
use Rattle.class_file.specs.Range.{pool_fits}
use Rattle.class_file.specs.Text.{is_utf8, is_internal_name, is_member_name, is_field_descriptor, is_method_descriptor}
use Rattle.class_file.specs.Pool.{NamedType, text_at, class_at, named_type_at}

-- there is a value, and it passes the test
abbrev pub is_some_that : {X : Type 0} → (X → Bool) → Option X → Bool
is_some_that test None = false
is_some_that test (Some x) = test x

-- it takes two indices
abbrev pub is_wide : PoolEntry → Bool
is_wide (entry.Long n) = true
is_wide (entry.Double bits) = true
is_wide _ = false

abbrev pub is_second : PoolEntry → Bool
is_second entry.Second = true
is_second _ = false

-- Second stands behind each Long and Double, and nowhere else; `wide` where one of those stands before
abbrev pub seconds_follow : Bool → List PoolEntry → Bool
seconds_follow wide [] = not wide
seconds_follow true (e ∷ entries) = is_second e && seconds_follow (is_wide e) entries
seconds_follow false (e ∷ entries) = not (is_second e) && seconds_follow (is_wide e) entries

abbrev pub is_descriptor : List ℕ → Bool
is_descriptor text = is_field_descriptor text || is_method_descriptor text

abbrev pub of_field : NamedType → Bool
of_field member = is_field_descriptor member.descriptor

abbrev pub of_method : NamedType → Bool
of_method member = is_method_descriptor member.descriptor

-- what the entry names is there, and of the right kind and form
abbrev pub entry_is_sound : List PoolEntry → PoolEntry → Bool
entry_is_sound pool (entry.Utf8 text) = is_utf8 text
entry_is_sound pool (entry.Class name) = is_some_that is_internal_name (text_at pool name)
entry_is_sound pool (entry.String text) = is_some (text_at pool text)
entry_is_sound pool (entry.Fieldref class member) = is_some (class_at pool class) && is_some_that of_field (named_type_at pool member)
entry_is_sound pool (entry.Methodref class member) = is_some (class_at pool class) && is_some_that of_method (named_type_at pool member)
entry_is_sound pool (entry.InterfaceMethodref class member) = is_some (class_at pool class) && is_some_that of_method (named_type_at pool member)
entry_is_sound pool (entry.NameAndType name descriptor) = is_some_that is_member_name (text_at pool name) && is_some_that is_descriptor (text_at pool descriptor)
entry_is_sound pool _ = true

-- the entries stand where they may, and name what they may
abbrev pub entries_agree : List PoolEntry → Bool
entries_agree pool = seconds_follow false pool && list_all (entry_is_sound pool) pool

-- each number is in its range, and the entries agree
abbrev pub pool_is_sound : List PoolEntry → Bool
pool_is_sound pool = pool_fits pool && entries_agree pool
