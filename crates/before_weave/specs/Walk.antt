-- What the walk over code and over methods makes, by the marks of the pool's entries.
use Rattle.std.specs.Prelude.{◌≡◌, ℕ, ◌&&◌, Bool, true, false, not, List, ◌++◌, length, MatchBool}
use Rattle.std.specs.List.{list_any, flat_map, All, Any, AllZip, AllByRecursion}
use Rattle.opcode_table.specs.declared.insn.Insn.{Insn}
use Rattle.opcode_table.specs.declared.insn.Insn.TheVariants as insn
use Rattle.opcode_table.specs.Spelling.{spelling, IsInsn, IsSingle}
use Rattle.class_file.specs.declared.types.Member.{Member}
use Rattle.class_file.specs.declared.types.Attribute.{Attribute}
use Rattle.class_file.specs.declared.types.Content.{Content}
use Rattle.class_file.specs.declared.types.Content.TheVariants as content
use Rattle.class_file.specs.declared.types.CodeAttr.{CodeAttr}
use Rattle.class_file.specs.FirstForm.{is_single, is_plain_code, insns_pass}
use Rattle.woven_calls.specs.Woven.{unless, with_code}
use Rattle.before_weave.specs.Marks.{is_advised}

-- ---- what is walked

-- the instruction is no switch
abbrev pub has_no_table : Insn → Bool
has_no_table (insn.TableSwitch table) = false
has_no_table (insn.LookupSwitch table) = false
has_no_table _ = true

-- the code is one instruction after the other, and none is a switch
abbrev pub is_straight : List ℕ → Bool
is_straight code = insns_pass has_no_table code (length code) 0

abbrev pub is_straight_content : Content → Bool
is_straight_content (content.Code code) = is_plain_code code && is_straight code.code
is_straight_content _ = false

-- the method's one attribute is such code, without entries and attributes
abbrev pub is_straight_method : Member → Bool
is_straight_method m = is_single (λ (a : Attribute). is_straight_content a.content) m.attributes

-- ---- what is made

-- an instruction, behind a call of the method at the index where it is advised
abbrev pub marked_insn : List Bool → ℕ → Insn → List ℕ
marked_insn marks index i = unless (not (is_advised marks i)) (spelling (insn.Pool 184 index)) ++ spelling i

-- The new code is the old one with the calls put in; `advised` says whether there is any.
pub record IsMarkedCode (marks : List Bool) (index : ℕ) (old new : List ℕ) (advised : Bool) : Type 0 where
  pub insns : List Insn
  pub single : AllByRecursion (λ i. IsInsn i × IsSingle i) insns
  pub before : old ≡ flat_map spelling insns
  pub after : new ≡ flat_map (marked_insn marks index) insns
  pub any : advised ≡ list_any (is_advised marks) insns

-- the new method is the old one with its code so
pub record IsMarkedMethod (marks : List Bool) (index : ℕ) (old new : Member) : Type 0 where
  pub name : ℕ
  pub code : CodeAttr
  pub bytes : List ℕ
  pub advised : Bool
  pub woven : IsMarkedCode marks index code.code bytes advised
  pub before : old.attributes ≡ with_code name code
  pub after : new ≡ record { flags = old.flags; name = old.name; descriptor = old.descriptor; attributes = with_code name (record { max_stack = code.max_stack; max_locals = code.max_locals; code = bytes; entries = code.entries; attributes = code.attributes }) }

-- the method has advised calls, or has none
pub record HasCalls (marks : List Bool) (advised : Bool) (m : Member) : Type 0 where
  pub name : ℕ
  pub code : CodeAttr
  pub insns : List Insn
  pub attributes : m.attributes ≡ with_code name code
  pub single : AllByRecursion (λ i. IsInsn i × IsSingle i) insns
  pub spelled : code.code ≡ flat_map spelling insns
  pub any : list_any (is_advised marks) insns ≡ advised

-- some method has advised calls, or none has
abbrev pub HaveCalls : List Bool → Bool → List Member → Type 0
HaveCalls marks advised methods = MatchBool advised (Any (HasCalls marks true) methods) (All (HasCalls marks false) methods)

-- the new methods are the old ones, and whether any has advised calls
pub record AreMarkedMethods (marks : List Bool) (index : ℕ) (old new : List Member) (advised : Bool) : Type 0 where
  pub each : AllZip (IsMarkedMethod marks index) old new
  pub any : HaveCalls marks advised old
