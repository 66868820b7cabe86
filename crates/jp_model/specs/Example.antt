-- A worked example: the class
--     class C { static void m() { System.out.println("m"); }  static void main() { m(); } }
-- as a class file, and the aspect
--     aspect T { before(): call(void C.m()) { System.out.println("a"); } }
use Rattle.std.specs.Prelude.{ℕ, true, false, List, [], ◌∷◌, codes, None}
use Rattle.class_file.specs.declared.pool.PoolEntry.{PoolEntry}
use Rattle.class_file.specs.declared.pool.PoolEntry.TheVariants as entry
use Rattle.class_file.specs.declared.types.ClassFile.{ClassFile}
use Rattle.class_file.specs.declared.types.Member.{Member}
use Rattle.class_file.specs.declared.types.Content.TheVariants as content
use Rattle.class_file.specs.declared.types.CodeAttr.{CodeAttr}
use Rattle.class_file.specs.Pool.{Reference}
use Rattle.class_machine.specs.Classes.{reference, Method}
use Rattle.jp_model.specs.declared.first_aspect.FirstAspect.{FirstAspect}
use Rattle.jp_model.specs.JoinPoints.{no_parameters}

abbrev pub example_pool : List PoolEntry
example_pool =
    entry.Utf8 (codes "C") ∷ entry.Class 1 ∷  -- 1, 2
    entry.Utf8 (codes "java/lang/Object") ∷ entry.Class 3 ∷  -- 3, 4
    entry.Utf8 (codes "m") ∷ entry.Utf8 (codes "()V") ∷ entry.Utf8 (codes "Code") ∷  -- 5, 6, 7
    entry.Utf8 (codes "java/lang/System") ∷ entry.Class 8 ∷  -- 8, 9
    entry.Utf8 (codes "out") ∷ entry.Utf8 (codes "Ljava/io/PrintStream;") ∷  -- 10, 11
    entry.NameAndType 10 11 ∷ entry.Fieldref 9 12 ∷ entry.String 5 ∷  -- 12, 13, 14
    entry.Utf8 (codes "java/io/PrintStream") ∷ entry.Class 15 ∷  -- 15, 16
    entry.Utf8 (codes "println") ∷ entry.Utf8 (codes "(Ljava/lang/String;)V") ∷  -- 17, 18
    entry.NameAndType 17 18 ∷ entry.Methodref 16 19 ∷  -- 19, 20
    entry.Utf8 (codes "main") ∷ entry.NameAndType 5 6 ∷ entry.Methodref 2 22 ∷ []  -- 21, 22, 23

abbrev pub example_code : ℕ → List ℕ → CodeAttr
example_code stack code = record { max_stack = stack; max_locals = 0; code = code; entries = []; attributes = [] }

-- a static method of the name at the index
abbrev pub example_method : ℕ → CodeAttr → Member
example_method name code = record { flags = record { 0 = 8 }; name = name; descriptor = 6; attributes = record { name = 7; content = content.Code code } ∷ [] }

-- getstatic System.out, ldc "m", invokevirtual println, return
abbrev pub printing_code : CodeAttr
printing_code = example_code 2 (178 ∷ 0 ∷ 13 ∷ 18 ∷ 14 ∷ 182 ∷ 0 ∷ 20 ∷ 177 ∷ [])

-- invokestatic C.m, return
abbrev pub main_code : CodeAttr
main_code = example_code 0 (184 ∷ 0 ∷ 23 ∷ 177 ∷ [])

abbrev pub example_class : ClassFile
example_class = record {
  minor = 0;
  major = 46;
  pool = example_pool;
  flags = record { 0 = 32 };
  this_class = 2;
  super_class = 4;
  interfaces = [];
  fields = [];
  methods = example_method 5 printing_code ∷ example_method 21 main_code ∷ [];
  attributes = [];
}

-- the entry method
abbrev pub main_reference : Reference
main_reference = reference (codes "C") (codes "main") no_parameters

abbrev pub main_method : Method
main_method = record { name = main_reference; is_static = true; is_private = false; is_synchronized = false; is_native = false; rule = None }

abbrev pub example_aspect : FirstAspect
example_aspect = record { name = codes "T"; class = codes "C"; method = codes "m"; text = codes "a" }
