-- The words that stand in a listing for what the indices of a pool name (JVMS 4.4), and for places in code.
use Rattle.std.specs.Prelude.{ℕ, zero, suc, if◌then◌else◌, List, [], ◌∷◌, map, codes, Option, Some, None, option_and_then, ℤ}
use Rattle.std.specs.Fmt.{signed_decimal}
use Rattle.std.specs.Str.{bytes_eq}
use Rattle.class_file.specs.declared.pool.PoolEntry.{PoolEntry}
use Rattle.class_file.specs.declared.pool.PoolEntry.TheVariants as entry
use Rattle.class_file.specs.Pool.{Reference, entry_at, text_at, class_at, referred}
use Rattle.class_lines.specs.Fields.{is_blank}
use Rattle.class_lines.specs.Words.{Text}

-- ---- names

-- A byte of a word. A blank or a line feed would end it: `.` stands in its place, which no name has (JVMS 4.2, 4.3).
abbrev pub visible : ℕ → ℕ
visible b = if is_blank b then 46 else b

-- `.` stands for what isn't there or has no byte
abbrev pub shown : Option Text → Text
shown None = codes "."
shown (Some []) = codes "."
shown (Some (b ∷ bytes)) = map visible (b ∷ bytes)

abbrev pub text_shown : List PoolEntry → ℕ → Text
text_shown pool index = shown (text_at pool index)

abbrev pub class_shown : List PoolEntry → ℕ → Text
class_shown pool index = shown (class_at pool index)

-- a class that is caught, unless its name is `any`, which stands for any class
abbrev pub caught_name : Text → Text
caught_name name = if bytes_eq name (codes "any") then shown None else name

-- the class that is caught; 0 is any
abbrev pub caught : List PoolEntry → ℕ → Option Text
caught pool zero = None
caught pool (suc place) = Some (caught_name (class_shown pool (suc place)))

abbrev pub as_interface_method : List PoolEntry → PoolEntry → Option Reference
as_interface_method pool (entry.InterfaceMethodref class member) = referred pool class member
as_interface_method pool _ = None

-- the method of an interface that the index names
abbrev pub interface_method_at : List PoolEntry → ℕ → Option Reference
interface_method_at pool index = option_and_then (as_interface_method pool) (entry_at pool index)

-- ---- places

-- The label of a place in the code. A place before the code has one too, which no instruction has.
abbrev pub label : ℤ → Text
label place = 76 ∷ signed_decimal place
