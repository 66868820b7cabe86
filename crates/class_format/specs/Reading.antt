-- Reading a class file in byte order: what bytes are read as, and else the first fault (JVMS 4.1).
use Rattle.std.specs.Prelude.{ℕ, ◌+◌, ◌-◌, ◌==◌, if◌then◌else◌, List, length, Result, Ok, Err}
use Rattle.std.specs.Int.{w16, w32}
use Rattle.class_file.specs.declared.pool.PoolEntry.{PoolEntry}
use Rattle.class_file.specs.declared.types.ClassFile.{ClassFile}
use Rattle.class_file.specs.declared.types.Member.{Member}
use Rattle.class_file.specs.declared.types.Attribute.{Attribute}
use Rattle.class_file.specs.Text.{within}
use Rattle.class_file.specs.WellFormed.{kind_in_class, is_class_index}
use Rattle.class_format.specs.declared.fault.ClassFault.{ClassFault}
use Rattle.class_format.specs.declared.fault.ClassFault.TheVariants.{Magic, Version, Truncated, Trailing}
use Rattle.class_format.specs.declared.scope.Scope.{Scope}
use Rattle.class_format.specs.Roles.{is_this_index}
use Rattle.class_format.specs.Readers.{◌>>=◌, Reader, number, both, made, listed, in_turn, judged, index_that}
use Rattle.class_format.specs.PoolReading.{pool}
use Rattle.class_format.specs.PartReading.{attributes, field, method}

-- ---- the parts of a class

abbrev pub magic_number : Reader ℕ
magic_number scope bytes = judged (λ n. n == 0xCAFEBABE) (λ n. Magic) (number w32) scope bytes

-- minor and major: of Java 1.2 to 5
abbrev pub versions : Reader (ℕ × ℕ)
versions scope bytes = judged (λ v. within 46 50 v.1) (λ v. Version v.1) (both (number w16) (number w16)) scope bytes

unfoldable pub version : Reader (ℕ × ℕ)
version scope bytes = made (λ v. v.1) (both magic_number versions) scope bytes

abbrev pub Names : Type 0
Names = ℕ × (ℕ × (ℕ × List ℕ))

-- flags, class, superclass and interfaces
unfoldable pub names : List PoolEntry → Reader Names
names pool scope bytes =
    both (number w16) (both (index_that (is_this_index pool)) (both (index_that (is_class_index pool)) (listed (index_that (is_class_index pool))))) scope bytes

unfoldable pub fields : ℕ → List PoolEntry → Reader (List Member)
fields major pool scope bytes = listed (field major pool) scope bytes

-- the methods, by their positions from 0
unfoldable pub methods : ℕ → List PoolEntry → Reader (List Member)
methods major pool scope bytes = number w16 scope bytes >>= λ n. in_turn (method major pool) (λ position m. position + 1) 0 n.0 scope n.1

abbrev pub Parts : Type 0
Parts = List Member × (List Member × List Attribute)

unfoldable pub parts : ℕ → List PoolEntry → Reader Parts
parts major pool scope bytes = both (fields major pool) (both (methods major pool) (attributes kind_in_class major pool 0)) scope bytes

-- ---- the class

abbrev pub to_class : ℕ × ℕ → List PoolEntry → Names × Parts → ClassFile
to_class version pool c =
    record {
      minor = version.0;
      major = version.1;
      pool = pool;
      flags = record { 0 = c.0.0 };
      this_class = c.0.1.0;
      super_class = c.0.1.1.0;
      interfaces = c.0.1.1.1;
      fields = c.1.0;
      methods = c.1.1.0;
      attributes = c.1.1.1;
    }

unfoldable pub class : Reader ClassFile
class scope bytes =
    version scope bytes >>= λ v. pool scope v.1 >>= λ p.
    made (to_class v.0 p.0) (both (names p.0) (parts v.0.1 p.0)) scope p.1

-- an item that passes the end of a file is cut there
abbrev pub file_scope : ℕ → Scope
file_scope size = record { cut = Truncated size; end = size }

abbrev pub ended : ℕ → ClassFile × List ℕ → Result ClassFile ClassFault
ended size c = if length c.1 == 0 then Ok c.0 else Err (Trailing (size - length c.1))

-- What the bytes are read as: a class, or the first fault that is met.
unfoldable pub reading : List ℕ → Result ClassFile ClassFault
reading bytes = class (file_scope (length bytes)) bytes >>= ended (length bytes)
