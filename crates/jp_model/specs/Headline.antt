-- What weaving promises of the classes that it writes.
use Rattle.std.specs.Prelude.{◌≡◌, ◌≢◌, ℕ, ◌+◌, ◌-◌, ◌*◌, ◌/◌, ◌%◌, ◌==◌, ◌&&◌, if◌then◌else◌, not, Bool, true, false, IsTrue, List, [], ◌∷◌, ◌++◌, length, map, codes, Option, Some, None, slice_get, Ok, option_and_then}
use Rattle.std.specs.List.{filter, AllZip, AllByRecursion, starts_with}
use Rattle.event_machine.specs.Equivalent.{Equivalent}
use Rattle.event_machine.specs.Observation.{IsPrefix}
use Rattle.aj_outside.specs.Files.{Files, put_each}
use Rattle.opcode_table.specs.declared.insn.Insn.{Insn}
use Rattle.opcode_table.specs.Decoding.{decoded}
use Rattle.class_file.specs.declared.types.ClassFile.{ClassFile}
use Rattle.class_file.specs.declared.types.Member.{Member}
use Rattle.class_file.specs.declared.types.Attribute.{Attribute}
use Rattle.class_file.specs.declared.types.Content.{Content}
use Rattle.class_file.specs.declared.types.Content.TheVariants as content
use Rattle.class_file.specs.declared.types.CodeAttr.{CodeAttr}
use Rattle.class_file.specs.Spelling.{spelling}
use Rattle.class_file.specs.Text.{within}
use Rattle.class_file.specs.WellFormed.{is_well_formed}
use Rattle.class_file.specs.Pool.{this_name, super_name, text_at}
use Rattle.class_heads.specs.Heads.{head_of}
use Rattle.class_machine.specs.Values.{object_class}
use Rattle.class_machine.specs.Events.{is_broken, Answer}
use Rattle.class_machine.specs.Classes.{Method}
use Rattle.class_machine.specs.Start.{EntryArgument, entry_among}
use Rattle.class_machine.specs.Declarations.{method_found}
use Rattle.class_machine.specs.ClassFiles.{code_of, with_pool, file_named, line_at}
use Rattle.class_machine.specs.Run.{class_table, class_step, class_start}
use Rattle.jp_model.specs.Aspects.{Aspect}
use Rattle.jp_model.specs.JoinPoints.{chain_of}
use Rattle.jp_model.specs.JoinPointMachine.{aspect_step, aspect_start}

-- ---- every run

-- the methods that a class declares, in their order
abbrev pub methods_of : ClassFile → List Method
methods_of c = map (method_found None (head_of c)) (head_of c).methods

-- the entry method of this name in the class of this name: its first static method of the name that takes the arguments
abbrev pub entry_in : List ClassFile → List ℕ → List ℕ → List EntryArgument → Option Method
entry_in classes class name words =
    option_and_then (λ c. entry_among (class_table classes) name words (methods_of c)) (file_named classes class)

-- these words name an entry method of the classes: a static one, no class initialiser, and arguments that it takes
pub record IsEntry (classes : List ClassFile) (class name : List ℕ) (words : List EntryArgument) (m : Method) : Type 0 where
  pub found : entry_in classes class name words ≡ Some m
  pub ordinary : name ≢ codes "<clinit>"

-- The written classes have the entry method, and from it they print, call natives and end exactly as and when the join
-- point machine does on the original classes and aspects, whatever a script answers to native calls.
pub record RunsAlike (classes : List ClassFile) (aspects : List Aspect) (written : List ClassFile) (class name : List ℕ) (words : List EntryArgument) (m : Method) : Type 0 where
  pub method : Method
  pub found : entry_in written class name words ≡ Some method
  pub same : (answers : List Answer) → Equivalent is_broken
      (aspect_step classes aspects) (aspect_start classes answers m words)
      (class_step written) (class_start written answers method words)

-- from every entry method, with all arguments and for all native answers
abbrev pub Behaves : List ClassFile → List Aspect → List ClassFile → Type 0
Behaves classes aspects written =
    (class name : List ℕ) (words : List EntryArgument) (m : Method) → IsEntry classes class name words m
    → RunsAlike classes aspects written class name words m

-- ---- the written files

-- one class for each input class, and then one for each aspect, each with its name
abbrev pub AreExtended : List ClassFile → List Aspect → List ClassFile → Type 0
AreExtended classes aspects written = map this_name written ≡ map this_name classes ++ map (λ a. Some a.name) aspects

-- no two of these are alike
abbrev pub AreApart : {X : Type 0} → List X → Type 0
AreApart [] = Unit {0}
AreApart (x ∷ xs) = AllByRecursion (λ y. x ≢ y) xs × AreApart xs

-- a class's own name, where it has one
abbrev pub named_so : Option (List ℕ) → List ℕ
named_so None = []
named_so (Some name) = name

-- the four bytes of a character past U+FFFF in UTF-8: `high` and `low` are the 10 bits that the two
-- surrogates hold
abbrev pub four_bytes : ℕ → ℕ → List ℕ
four_bytes high low =
    let n = 0x10000 + (high * 1024 + low) in
    (0xF0 + n / 0x40000) ∷ (0x80 + (n / 0x1000) % 64) ∷ (0x80 + (n / 64) % 64) ∷ (0x80 + n % 64) ∷ []

-- three bytes are a surrogate, whose second one is one of the 16 from the least one on
abbrev pub is_surrogate : ℕ → ℕ → ℕ → ℕ → Bool
is_surrogate least a b c = a == 0xED && (within least (least + 16) b && within 0x80 0xC0 c)

-- six bytes are a high surrogate and a low one
abbrev pub is_pair : ℕ → ℕ → ℕ → ℕ → ℕ → ℕ → Bool
is_pair a b c d e f = is_surrogate 0xA0 a b c && is_surrogate 0xB0 d e f

-- the ten bits that a surrogate holds in its last two bytes
abbrev pub surrogate_bits : ℕ → ℕ → ℕ → ℕ
surrogate_bits least b c = (b - least) * 64 + (c - 0x80)

-- A name in UTF-8, from its modified UTF-8 (JVMS 4.4.7): each pair of surrogates becomes the character
-- that it stands for, and each other byte stays.
abbrev pub utf8_of : List ℕ → List ℕ
utf8_of (a ∷ b ∷ c ∷ d ∷ e ∷ f ∷ rest) =
    if is_pair a b c d e f
    then four_bytes (surrogate_bits 0xA0 b c) (surrogate_bits 0xB0 e f) ++ utf8_of rest
    else a ∷ utf8_of (b ∷ c ∷ d ∷ e ∷ f ∷ rest)
utf8_of bytes = bytes

-- OUT/NAME.class
abbrev pub output_name : List ℕ → ClassFile → List ℕ
output_name folder c = folder ++ (47 ∷ (utf8_of (named_so (this_name c)) ++ codes ".class"))

abbrev pub output : List ℕ → ClassFile → List ℕ × List ℕ
output folder c = (output_name folder c, spelling c)

-- the files to write, in byte order of their names
abbrev pub outputs_of : List ℕ → List ClassFile → Files
outputs_of folder written = put_each [] (map (output folder) written)

-- the shelf's files with that of each written class set, and nothing else changed
abbrev pub with_outputs : List ℕ → List ClassFile → Files → Files
with_outputs folder written files = put_each files (outputs_of folder written)

-- ---- untouched classes

-- an instruction of the code begins at the place
pub data IsStart (code : List ℕ) : ℕ → Type 0 where
  First : IsStart code 0
  Behind : (pc : ℕ) (insn : Insn) (size : ℕ) → IsStart code pc → decoded code pc ≡ Ok (insn, size) → IsStart code (pc + size)

-- no place of a method of the class has a chain
abbrev pub IsUntouched : List Aspect → ClassFile → Type 0
IsUntouched aspects c =
    (place : ℕ) (m : Member) (code : CodeAttr) (pc : ℕ) → slice_get c.methods place ≡ Some m → code_of m ≡ Some code
    → IsStart code.code pc → chain_of aspects (line_at pc (with_pool c code)) ≡ []

abbrev pub KeepsUntouched : List Aspect → ClassFile → ClassFile → Type 0
KeepsUntouched aspects c written = IsUntouched aspects c → spelling written ≡ spelling c

-- The written classes, first those of the input's classes: an untouched one has the input's bytes.
pub record HoldsUntouched (classes : List ClassFile) (aspects : List Aspect) (written : List ClassFile) : Type 0 where
  pub woven : List ClassFile
  pub made : List ClassFile
  pub parts : written ≡ woven ++ made
  pub kept : AllZip (KeepsUntouched aspects) classes woven

-- ---- declared members

abbrev pub is_code : Attribute → Bool
is_code a = is_code_content a.content where
  is_code_content : Content → Bool
  is_code_content (content.Code code) = true
  is_code_content _ = false

-- a member but for its code
abbrev pub declared_member : Member → Member
declared_member m = record { flags = m.flags; name = m.name; descriptor = m.descriptor; attributes = filter (λ a. not (is_code a)) m.attributes }

-- the text has this one in it
abbrev pub has_within : List ℕ → List ℕ → Bool
has_within part [] = starts_with (λ a b. a == b) [] part
has_within part (b ∷ text) = if_starts (starts_with (λ a b. a == b) (b ∷ text) part) (has_within part text) where
  if_starts : Bool → Bool → Bool
  if_starts true rest = true
  if_starts false rest = rest

-- the name is generated: it has `ajc$` in it
abbrev pub is_generated : Option (List ℕ) → Bool
is_generated None = false
is_generated (Some name) = has_within (codes "ajc$") name

-- the members that are no generated ones, but for their code
abbrev pub declared_members : ClassFile → List Member → List Member
declared_members c members = map declared_member (filter (λ m. not (is_generated (text_at c.pool m.name))) members)

-- The written class is the input class but for generated members and for code: it has its pool entries
-- at their indices, its version, flags, superclass, interfaces and class attributes, and exactly its
-- members.
pub record KeepsDeclared (c written : ClassFile) : Type 0 where
  pub pool : IsPrefix c.pool written.pool
  pub minor : written.minor ≡ c.minor
  pub major : written.major ≡ c.major
  pub flags : written.flags ≡ c.flags
  pub this_class : written.this_class ≡ c.this_class
  pub super_class : written.super_class ≡ c.super_class
  pub interfaces : written.interfaces ≡ c.interfaces
  pub attributes : written.attributes ≡ c.attributes
  pub fields : declared_members written written.fields ≡ map declared_member c.fields
  pub methods : declared_members written written.methods ≡ map declared_member c.methods

-- The class of an aspect: public, of Java 1.2, without a superclass of its own, and with no members but
-- a generated method for each advice.
pub record IsAspectClass (a : Aspect) (written : ClassFile) : Type 0 where
  pub name : this_name written ≡ Some a.name
  pub super_class : super_name written ≡ Some object_class
  pub minor : written.minor ≡ 0
  pub major : written.major ≡ 46
  pub flags : written.flags.0 ≡ 33
  pub interfaces : written.interfaces ≡ []
  pub attributes : written.attributes ≡ []
  pub fields : written.fields ≡ []
  pub methods : declared_members written written.methods ≡ []
  pub advice : length written.methods ≡ length a.advice

-- The written classes, first those of the input's classes and then those of the aspects.
pub record HoldsDeclared (classes : List ClassFile) (aspects : List Aspect) (written : List ClassFile) : Type 0 where
  pub woven : List ClassFile
  pub made : List ClassFile
  pub parts : written ≡ woven ++ made
  pub members : AllZip KeepsDeclared classes woven
  pub generated : AllZip IsAspectClass aspects made

-- ---- all of it

-- a class file
abbrev pub IsWritten : ClassFile → Type 0
IsWritten written = IsTrue (is_well_formed written)

-- The written classes are a weaving of the aspects into the classes. Each is a class file, so that its
-- spelling is its own and is read as it.
pub record IsWeaving (classes : List ClassFile) (aspects : List Aspect) (written : List ClassFile) : Type 0 where
  pub formed : AllByRecursion IsWritten written
  pub extended : AreExtended classes aspects written
  pub behaves : Behaves classes aspects written
  pub untouched : HoldsUntouched classes aspects written
  pub declared : HoldsDeclared classes aspects written
