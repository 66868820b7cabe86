-- Reading a constant pool (JVMS 4.4).
use Rattle.std.specs.Prelude.{ℕ, zero, suc, ◌+◌, ◌==◌, Bool, false, ◌&&◌, ◌||◌, if◌then◌else◌, List, Ok, Err}
use Rattle.std.specs.Int.{w16, w32, w64, cast_signed}
use Rattle.class_file.specs.declared.pool.PoolEntry.{PoolEntry}
use Rattle.class_file.specs.declared.pool.PoolEntry.TheVariants as entry
use Rattle.class_file.specs.Text.{is_utf8}
use Rattle.class_file.specs.Sound.{is_wide}
use Rattle.class_rules.specs.FirstUnsound.{first_unsound}
use Rattle.class_format.specs.declared.fault.ClassFault.TheVariants.{PoolRef, PoolTag, Utf8}
use Rattle.class_format.specs.Readers.{◌>>=◌, Reader, byte, number, sized, both, made, in_turn, judged, unless}

-- two indices
abbrev pub two : Reader (ℕ × ℕ)
two scope bytes = both (number w16) (number w16) scope bytes

-- the entry of an index behind its tag
unfoldable pub tagged : ℕ → ℕ → Reader PoolEntry
tagged index tag scope bytes =
    if tag == 1 then made entry.Utf8 (judged is_utf8 (λ text. Utf8 index) (sized w16)) scope bytes else
    (if tag == 3 then made (λ n. entry.Integer (cast_signed w32 n)) (number w32) scope bytes else
    (if tag == 4 then made entry.Float (number w32) scope bytes else
    (if tag == 5 then made (λ n. entry.Long (cast_signed w64 n)) (number w64) scope bytes else
    (if tag == 6 then made entry.Double (number w64) scope bytes else
    (if tag == 7 then made entry.Class (number w16) scope bytes else
    (if tag == 8 then made entry.String (number w16) scope bytes else
    (if tag == 9 then made (λ p. entry.Fieldref p.0 p.1) two scope bytes else
    (if tag == 10 then made (λ p. entry.Methodref p.0 p.1) two scope bytes else
    (if tag == 11 then made (λ p. entry.InterfaceMethodref p.0 p.1) two scope bytes else
    (if tag == 12 then made (λ p. entry.NameAndType p.0 p.1) two scope bytes else Err (PoolTag index tag)))))))))))

-- Long and Double
abbrev pub is_wide_tag : ℕ → Bool
is_wide_tag tag = tag == 5 || tag == 6

-- where an entry stands: its index, and whether a Long or Double stands before
abbrev pub Turn : Type 0
Turn = ℕ × Bool

abbrev pub after : Turn → PoolEntry → Turn
after turn entry = (turn.0 + 1, is_wide entry)

-- the entry of an index below the count: a Long or Double takes the next index too
abbrev pub first_entry : ℕ → ℕ → Reader PoolEntry
first_entry count index scope bytes =
    byte scope bytes >>= λ tag. if is_wide_tag tag.0 && index + 1 == count then Err (PoolTag index tag.0) else tagged index tag.0 scope tag.1

-- the second index of a Long or Double has no bytes
unfoldable pub entry_of : ℕ → Turn → Reader PoolEntry
entry_of count turn scope bytes = if turn.1 then Ok (entry.Second, bytes) else first_entry count turn.0 scope bytes

-- the entries from 1 to below the count
unfoldable pub entries : ℕ → Reader (List PoolEntry)
entries zero scope bytes = Err (PoolRef 0)
entries (suc n) scope bytes = in_turn (entry_of (suc n)) after (1, false) n scope bytes

abbrev pub counted_entries : Reader (List PoolEntry)
counted_entries scope bytes = number w16 scope bytes >>= λ n. entries n.0 scope n.1

-- the pool, of which once it is read each entry must be sound
unfoldable pub pool : Reader (List PoolEntry)
pool scope bytes = counted_entries scope bytes >>= λ p. unless (first_unsound p.0) PoolRef p
