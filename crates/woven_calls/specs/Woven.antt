-- What the classes are that one before advice at calls is woven into: a call of the advice's method
-- stands before each call that the pointcut matches, and nothing else changes.
use Rattle.std.specs.Prelude.{◌≡◌, ℕ, ◌+◌, Bool, true, false, IsTrue, List, [], ◌∷◌, ◌++◌, length, codes}
use Rattle.std.specs.List.{flat_map, AllZip, AllByRecursion}
use Rattle.opcode_table.specs.declared.insn.Insn.{Insn}
use Rattle.opcode_table.specs.declared.insn.Insn.TheVariants as insn
use Rattle.opcode_table.specs.Spelling.{spelling as insn_spelling, IsInsn, IsSingle}
use Rattle.class_file.specs.declared.pool.PoolEntry.{PoolEntry}
use Rattle.class_file.specs.declared.pool.PoolEntry.TheVariants as entry
use Rattle.class_file.specs.declared.types.ClassFile.{ClassFile}
use Rattle.class_file.specs.declared.types.Member.{Member}
use Rattle.class_file.specs.declared.types.Attribute.{Attribute}
use Rattle.class_file.specs.declared.types.Content.TheVariants as content
use Rattle.class_file.specs.declared.types.CodeAttr.{CodeAttr}
use Rattle.jp_model.specs.declared.first_aspect.FirstAspect.{FirstAspect}
use Rattle.jp_model.specs.AspectText.{aspect_of}
use Rattle.jp_model.specs.JoinPoints.{chain_of}
use Rattle.class_machine.specs.ClassFiles.{operation}

-- the name of the method that holds the advice's body
abbrev pub advice_name : List ℕ
advice_name = codes "ajc$before$1"

abbrev pub is_empty : {X : Type 0} → List X → Bool
is_empty [] = true
is_empty (x ∷ xs) = false

abbrev pub unless : Bool → List ℕ → List ℕ
unless true bytes = []
unless false bytes = bytes

-- ---- code

-- no advice applies at the instruction of this code
abbrev pub is_unadvised : List PoolEntry → List ℕ → FirstAspect → Insn → Bool
is_unadvised pool code a i = is_empty (chain_of (aspect_of a ∷ []) (operation pool code i))

-- an instruction, with a call of the method at the index before it where the advice applies
abbrev pub woven_insn : List PoolEntry → List ℕ → FirstAspect → ℕ → Insn → List ℕ
woven_insn pool code a index i = unless (is_unadvised pool code a i) (insn_spelling (insn.Pool 184 index)) ++ insn_spelling i

-- The new code is the old one with the calls put in.
pub record IsWovenCode (pool : List PoolEntry) (a : FirstAspect) (index : ℕ) (old new : List ℕ) : Type 0 where
  pub insns : List Insn
  pub single : AllByRecursion (λ i. IsInsn i × IsSingle i) insns
  pub before : old ≡ flat_map insn_spelling insns
  pub after : new ≡ flat_map (woven_insn pool old a index) insns

-- ---- classes

-- what is appended to a pool so that a method of the aspect's class can be called
abbrev pub call_entries : List PoolEntry → FirstAspect → List PoolEntry
call_entries pool a =
    let first = length pool + 1 in
    entry.Utf8 a.name ∷ entry.Class first ∷ entry.Utf8 advice_name ∷ entry.Utf8 (codes "()V") ∷
    entry.NameAndType (first + 2) (first + 3) ∷ entry.Methodref (first + 1) (first + 4) ∷ []

-- the index of the advice's method in that pool
abbrev pub call_index : List PoolEntry → ℕ
call_index pool = length pool + 6

abbrev pub with_code : ℕ → CodeAttr → List Attribute
with_code name code = record { name = name; content = content.Code code } ∷ []

-- The new method is the old one, its code woven.
pub record IsWovenMethod (pool : List PoolEntry) (a : FirstAspect) (index : ℕ) (old new : Member) : Type 0 where
  pub name : ℕ
  pub code : CodeAttr
  pub bytes : List ℕ
  pub woven : IsWovenCode pool a index code.code bytes
  pub before : old.attributes ≡ with_code name code
  pub after : new ≡ record { flags = old.flags; name = old.name; descriptor = old.descriptor; attributes = with_code name (record { max_stack = code.max_stack; max_locals = code.max_locals; code = bytes; entries = code.entries; attributes = code.attributes }) }

-- the new class is the old one with the pool's entries for the call behind the old ones, and its methods woven
pub record IsWovenClass (a : FirstAspect) (old new : ClassFile) : Type 0 where
  pub methods : List Member
  pub each : AllZip (IsWovenMethod old.pool a (call_index old.pool)) old.methods methods
  pub after : new ≡ record {
    minor = old.minor;
    major = old.major;
    pool = old.pool ++ call_entries old.pool a;
    flags = old.flags;
    this_class = old.this_class;
    super_class = old.super_class;
    interfaces = old.interfaces;
    fields = old.fields;
    methods = methods;
    attributes = old.attributes;
  }

-- The advice applies nowhere in this code.
pub record IsUnadvisedCode (pool : List PoolEntry) (a : FirstAspect) (code : List ℕ) : Type 0 where
  pub insns : List Insn
  pub single : AllByRecursion (λ i. IsInsn i × IsSingle i) insns
  pub spelled : code ≡ flat_map insn_spelling insns
  pub none : AllByRecursion (λ i. IsTrue (is_unadvised pool code a i)) insns

-- The advice applies nowhere in the code of this method.
pub record IsUnadvisedMethod (pool : List PoolEntry) (a : FirstAspect) (m : Member) : Type 0 where
  pub name : ℕ
  pub code : CodeAttr
  pub attributes : m.attributes ≡ with_code name code
  pub unadvised : IsUnadvisedCode pool a code.code

-- the advice applies nowhere in the class
abbrev pub IsUnadvised : FirstAspect → ClassFile → Type 0
IsUnadvised a c = AllByRecursion (IsUnadvisedMethod c.pool a) c.methods

-- A class is woven, or it is as it was, where the advice applies nowhere in it.
pub data IsWovenOrKept (a : FirstAspect) (old new : ClassFile) : Type 0 where
  Woven : (woven : IsWovenClass a old new) → IsWovenOrKept a old new
  Kept : (same : new ≡ old) (unadvised : IsUnadvised a old) → IsWovenOrKept a old new

-- ---- the aspect's class

abbrev pub aspect_pool : FirstAspect → List PoolEntry
aspect_pool a =
    entry.Utf8 a.name ∷ entry.Class 1 ∷  -- 1, 2
    entry.Utf8 (codes "java/lang/Object") ∷ entry.Class 3 ∷  -- 3, 4
    entry.Utf8 advice_name ∷ entry.Utf8 (codes "()V") ∷ entry.Utf8 (codes "Code") ∷  -- 5, 6, 7
    entry.Utf8 (codes "java/lang/System") ∷ entry.Class 8 ∷  -- 8, 9
    entry.Utf8 (codes "out") ∷ entry.Utf8 (codes "Ljava/io/PrintStream;") ∷  -- 10, 11
    entry.NameAndType 10 11 ∷ entry.Fieldref 9 12 ∷  -- 12, 13
    entry.Utf8 a.text ∷ entry.String 14 ∷  -- 14, 15
    entry.Utf8 (codes "java/io/PrintStream") ∷ entry.Class 16 ∷  -- 16, 17
    entry.Utf8 (codes "println") ∷ entry.Utf8 (codes "(Ljava/lang/String;)V") ∷  -- 18, 19
    entry.NameAndType 18 19 ∷ entry.Methodref 17 20 ∷ []  -- 20, 21

-- getstatic System.out, ldc of the text, invokevirtual println, return
abbrev pub advice_code : List ℕ
advice_code = 178 ∷ 0 ∷ 13 ∷ 18 ∷ 15 ∷ 182 ∷ 0 ∷ 21 ∷ 177 ∷ []

abbrev pub advice_method : Member
advice_method = record {
  flags = record { 0 = 9 };
  name = 5;
  descriptor = 6;
  attributes = with_code 7 (record { max_stack = 2; max_locals = 0; code = advice_code; entries = []; attributes = [] });
}

-- the class that stands for the aspect: public, of Java 1.2, with the advice's body as a public static method
abbrev pub aspect_class : FirstAspect → ClassFile
aspect_class a = record {
  minor = 0;
  major = 46;
  pool = aspect_pool a;
  flags = record { 0 = 33 };
  this_class = 2;
  super_class = 4;
  interfaces = [];
  fields = [];
  methods = advice_method ∷ [];
  attributes = [];
}
