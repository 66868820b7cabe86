-- A class file that runs: the class
--     class C { static void m() { System.out.println("m"); }  static void main() { m(); } }
use Rattle.std.specs.Prelude.{◌≡◌, ℕ, List, [], ◌∷◌, ◌++◌, codes, Some, None, pos}
use Rattle.std.specs.Option.{unwrap_or}
use Rattle.std.proofs.Common.{refl}
use Rattle.event_machine.specs.Observation.{Observation}
use Rattle.opcode_table.specs.Decoding.{decoded}
use Rattle.opcode_table.specs.Table.{opcode}
use Rattle.class_file.specs.declared.pool.PoolEntry.{PoolEntry}
use Rattle.class_file.specs.declared.pool.PoolEntry.TheVariants as entry
use Rattle.class_file.specs.declared.types.ClassFile.{ClassFile}
use Rattle.class_file.specs.declared.types.Member.{Member}
use Rattle.class_file.specs.declared.types.Content.TheVariants as content
use Rattle.class_file.specs.declared.types.CodeAttr.{CodeAttr}
use Rattle.class_machine.specs.Events.{Event, Ending}
use Rattle.class_machine.specs.Events as events
use Rattle.class_machine.specs.Classes.{Method}
use Rattle.class_machine.specs.Run.{declared_method, class_observation}
use Rattle.class_machine.specs.Listed.{missing, member}
use Rattle.class_machine.specs.Examples.{said}

abbrev pub pool : List PoolEntry
pool =
    entry.Utf8 (codes "C") ∷ entry.Class 1 ∷  -- 1, 2
    entry.Utf8 (codes "java/lang/Object") ∷ entry.Class 3 ∷  -- 3, 4
    entry.Utf8 (codes "m") ∷ entry.Utf8 (codes "()V") ∷ entry.Utf8 (codes "Code") ∷  -- 5, 6, 7
    entry.Utf8 (codes "java/lang/System") ∷ entry.Class 8 ∷  -- 8, 9
    entry.Utf8 (codes "out") ∷ entry.Utf8 (codes "Ljava/io/PrintStream;") ∷  -- 10, 11
    entry.NameAndType 10 11 ∷ entry.Fieldref 9 12 ∷ entry.String 5 ∷  -- 12, 13, 14
    entry.Utf8 (codes "java/io/PrintStream") ∷ entry.Class 15 ∷  -- 15, 16
    entry.Utf8 (codes "println") ∷ entry.Utf8 (codes "(Ljava/lang/String;)V") ∷  -- 17, 18
    entry.NameAndType 17 18 ∷ entry.Methodref 16 19 ∷  -- 19, 20
    entry.Utf8 (codes "main") ∷ entry.NameAndType 5 6 ∷ entry.Methodref 2 22 ∷ []  -- 21, 22, 23

abbrev pub code_attribute : ℕ → List ℕ → CodeAttr
code_attribute stack code = record { max_stack = stack; max_locals = 0; code = code; entries = []; attributes = [] }

-- a static method of the name at the index
abbrev pub static_member : ℕ → CodeAttr → Member
static_member name code = record { flags = record { 0 = 8 }; name = name; descriptor = 6; attributes = record { name = 7; content = content.Code code } ∷ [] }

-- m: getstatic System.out, ldc "m", invokevirtual println, return; main: invokestatic C.m, return
abbrev pub file : ClassFile
file = record {
  minor = 0;
  major = 46;
  pool = pool;
  flags = record { 0 = 32 };
  this_class = 2;
  super_class = 4;
  interfaces = [];
  fields = [];
  methods = static_member 5 (code_attribute 2 (178 ∷ 0 ∷ 13 ∷ 18 ∷ 14 ∷ 182 ∷ 0 ∷ 20 ∷ 177 ∷ [])) ∷ static_member 21 (code_attribute 0 (184 ∷ 0 ∷ 23 ∷ 177 ∷ [])) ∷ [];
  attributes = [];
}

abbrev pub main : Method
main = unwrap_or (declared_method (file ∷ []) (member (codes "main") (codes "()V")) (codes "C")) (missing (codes "C") (member (codes "main") (codes "()V")))

-- what is observed within n steps
abbrev pub runs : ℕ → Observation Event Ending
runs = class_observation (file ∷ []) [] main []

six_steps : runs 6 ≡ record { events = said (codes "m") ∷ []; ending = Some (events.Returned None) }
unfolding decoded opcode
six_steps = refl

five_steps : runs 5 ≡ record { events = said (codes "m") ∷ []; ending = None }
unfolding decoded opcode
five_steps = refl

-- ---- a field with a ConstantValue: class C { static final int n = 7;  static int get() { return n; } }, where the code reads n

abbrev pub constant_pool : List PoolEntry
constant_pool =
    pool
    ++ entry.Utf8 (codes "n") ∷ entry.Utf8 (codes "I") ∷ entry.NameAndType 24 25 ∷ entry.Fieldref 2 26 ∷  -- 24, 25, 26, 27
    entry.Integer (pos 7) ∷ entry.Utf8 (codes "ConstantValue") ∷  -- 28, 29
    entry.Utf8 (codes "get") ∷ entry.Utf8 (codes "()I") ∷ []  -- 30, 31

abbrev pub constant_field : Member
constant_field = record { flags = record { 0 = 24 }; name = 24; descriptor = 25; attributes = record { name = 29; content = content.ConstantValue 28 } ∷ [] }

-- get: getstatic C.n, ireturn
abbrev pub constant_file : ClassFile
constant_file = record file { pool = constant_pool; fields = constant_field ∷ []; methods = record (static_member 30 (code_attribute 1 (178 ∷ 0 ∷ 27 ∷ 172 ∷ []))) { descriptor = 31 } ∷ [] }

abbrev pub get : Method
get = unwrap_or (declared_method (constant_file ∷ []) (member (codes "get") (codes "()I")) (codes "C")) (missing (codes "C") (member (codes "get") (codes "()I")))

constant_read : class_observation (constant_file ∷ []) [] get [] 2 ≡ record { events = []; ending = Some (events.Returned (Some (events.Int (pos 7)))) }
unfolding decoded opcode
constant_read = refl
