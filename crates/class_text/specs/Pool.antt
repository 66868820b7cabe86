-- The entries of the pool that a line needs, made in order of first use, operands before the entry that names them (JVMS 4.4).
use Rattle.std.specs.Prelude.{ℕ, ◌==◌, Bool, ◌&&◌, ◌||◌, nat_le, nat_lt, if◌then◌else◌, List, length, Ok, Err}
use Rattle.class_file.specs.declared.pool.PoolEntry.{PoolEntry}
use Rattle.class_file.specs.declared.pool.PoolEntry.TheVariants as entry
use Rattle.class_lines.specs.declared.line.Operation.{Operation}
use Rattle.class_lines.specs.declared.line.Constant.{Constant}
use Rattle.class_lines.specs.Words.{Text}
use Rattle.constant_pool.specs.declared.fault.PoolFault.{PoolFault}
use Rattle.constant_pool.specs.declared.fault.PoolFault.TheVariants as pool_faults
use Rattle.constant_pool.specs.Edit.{Placed, with_entry, with_text, with_class, with_string_text, with_field, with_method}
use Rattle.class_text.specs.declared.fault.TextFault.{TextFault}
use Rattle.class_text.specs.declared.fault.TextFault.TheVariants as faults
use Rattle.class_text.specs.Bytes.{argument_slots}
use Rattle.class_text.specs.Gives.{◌>>=◌, Making}

-- the pool's count, one more than its length, is at most 65,535
abbrev pub within_pool : ℕ → Placed → Making ℕ
within_pool line placed = if nat_le (length placed.0) 65534 then Ok placed else Err line

abbrev pub refusal : ℕ → PoolFault → TextFault
refusal line pool_faults.PoolFull = faults.Line line
refusal line pool_faults.Memory = faults.Memory

-- a text of a class file has at most 65,535 bytes
abbrev pub with_short : ℕ → Text → Placed → Making ℕ
with_short line text placed = if nat_le (length text) 65535 then within_pool line placed else Err line

abbrev pub text_made : ℕ → Text → List PoolEntry → Making ℕ
text_made line text pool = with_short line text (with_text pool text)

abbrev pub class_made : ℕ → Text → List PoolEntry → Making ℕ
class_made line name pool = with_short line name (with_class pool name)

abbrev pub string_made : ℕ → Text → List PoolEntry → Making ℕ
string_made line text pool = with_short line text (with_string_text pool text)

abbrev pub field_made : ℕ → Text → Text → Text → List PoolEntry → Making ℕ
field_made line class name descriptor pool = within_pool line (with_field pool (record { class = class; name = name; descriptor = descriptor }))

abbrev pub method_made : ℕ → Text → Text → Text → Bool → List PoolEntry → Making ℕ
method_made line class name descriptor interface pool = within_pool line (with_method pool (record { class = class; name = name; descriptor = descriptor; interface = interface }))

abbrev pub are_short : Text → Text → Text → Bool
are_short class name descriptor = nat_le (length class) 65535 && (nat_le (length name) 65535 && nat_le (length descriptor) 65535)

-- the slots of a call of an interface's method, 185, are counted in a byte
abbrev pub takes_few : ℕ → Text → Bool
takes_few op descriptor = nat_lt op 185 || nat_le (argument_slots descriptor) 255

-- 178 to 181 get and put fields
abbrev pub member_made : ℕ → ℕ → Text → Text → Text → List PoolEntry → Making ℕ
member_made line op class name descriptor pool =
    if are_short class name descriptor && takes_few op descriptor
    then (if nat_le op 181 then field_made line class name descriptor pool else method_made line class name descriptor (op == 185) pool)
    else Err line

-- A class is a constant from version 49 on.
abbrev pub constant_made : ℕ → ℕ → Constant → List PoolEntry → Making ℕ
constant_made version line (Constant.Int n) pool = within_pool line (with_entry pool (entry.Integer n))
constant_made version line (Constant.Float bits) pool = within_pool line (with_entry pool (entry.Float bits))
constant_made version line (Constant.Text text) pool = string_made line text pool
constant_made version line (Constant.Class class) pool = if nat_lt version 49 then Err line else class_made line class pool

-- the index of 18, `ldc`, has one byte
abbrev pub within_byte : ℕ → ℕ → List PoolEntry × ℕ → Making ℕ
within_byte op line placed = if op == 18 && nat_lt 255 placed.1 then Err line else Ok placed

abbrev pub pushed_made : ℕ → ℕ → ℕ → Constant → List PoolEntry → Making ℕ
pushed_made version line op constant pool = constant_made version line constant pool >>= within_byte op line

-- the index that an instruction names, or 0 where it names none
abbrev pub index_made : ℕ → ℕ → Operation → List PoolEntry → Making ℕ
index_made version line (Operation.Constant op constant) pool = pushed_made version line op constant pool
index_made version line (Operation.Long n) pool = within_pool line (with_entry pool (entry.Long n))
index_made version line (Operation.Double bits) pool = within_pool line (with_entry pool (entry.Double bits))
index_made version line (Operation.Member op class name descriptor) pool = member_made line op class name descriptor pool
index_made version line (Operation.Class op class) pool = class_made line class pool
index_made version line (Operation.Multi class dims) pool = class_made line class pool
index_made version line operation pool = Ok (pool, 0)
