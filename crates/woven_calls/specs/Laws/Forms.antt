-- What is known of a class of the first form: each instruction has a meaning, the same in a longer pool.
use Rattle.std.proofs.Common.{◌≡◌, ℕ, zero, suc, ◌+◌, Bool, true, false, ◌&&◌, ◌||◌, ◌==◌, bytes_eq, List, [], ◌∷◌, ◌++◌, length, drop, flat_map, Option, Some, None, Ok, Err, refl, sym, ap, ◌∙◌, option_map, option_and_then, arith, if◌then◌else◌, subst}
use Rattle.std.specs.List.{AllByRecursion}
use Rattle.std.proofs.lemmas.Bool.{and_parts, eqb-true}
use Rattle.std.proofs.lemmas.List.{drop-drop, drop_at, drop_all}
use Rattle.std.proofs.lemmas.Slice.Eq.{bytes_eq-Decides}
use Rattle.opcode_table.specs.declared.insn.Insn.{Insn}
use Rattle.opcode_table.specs.declared.insn.Insn.TheVariants as insn
use Rattle.opcode_table.specs.declared.fault.CodeFault.TheVariants.{Cut}
use Rattle.opcode_table.specs.Decoding.{decoded, instruction}
use Rattle.opcode_table.specs.Spelling.{spelling, IsInsn, IsSingle}
use Rattle.opcode_table.specs.DecodedAgain.{decoded_where_spelled}
use Rattle.class_file.specs.declared.pool.PoolEntry.{PoolEntry}
use Rattle.class_file.specs.declared.pool.PoolEntry.TheVariants as entry
use Rattle.class_file.specs.Sound.{is_some_that}
use Rattle.class_file.specs.Pool.{Reference, entry_at, as_string, string_at, field_at, method_at}
use Rattle.class_file.specs.FirstForm.{is_printable_text, is_reference, is_system_out, is_println, is_own_method, is_form_insn, step_passes, insns_pass}
use Rattle.class_machine.specs.declared.kinds.Access.{Access}
use Rattle.class_machine.specs.declared.kinds.Mode.{Mode}
use Rattle.class_machine.specs.Classes.{reference}
use Rattle.class_machine.specs.Texts.{units_of}
use Rattle.class_machine.specs.Operations.{Operation, FieldAccess, Invoke}
use Rattle.class_machine.specs.Declarations.{output_field}
use Rattle.class_machine.specs.ClassFiles.{constant_operation, operation}
use Rattle.woven_calls.specs.Laws.Pools.{Extends, found_through, string_kept, field_kept, method_kept}
use Rattle.woven_calls.specs.Laws.Tables.{println}
use Rattle.woven_calls.specs.Laws.Turns.{Form, Nothing, Text, Output, Prints, Calls, Back, meaning}

-- ---- instructions

-- a static call is of a method of the class itself
abbrev pub CallsKnown : List ℕ → List (List ℕ) → Form → Type 0
CallsKnown own methods Nothing = Unit {0}
CallsKnown own methods (Text units) = Unit {0}
CallsKnown own methods Output = Unit {0}
CallsKnown own methods Prints = Unit {0}
CallsKnown own methods (Calls r) = is_own_method own methods r ≡ true
CallsKnown own methods Back = Unit {0}

-- the operation under both pools
pub record HasMeaning (own : List ℕ) (methods : List (List ℕ)) (old new : Option Operation) : Type 0 where
  pub form : Form
  pub before : old ≡ Some (meaning form)
  pub after : new ≡ Some (meaning form)
  pub calls : CallsKnown own methods form

pub same_bytes : (xs ys : List ℕ) → bytes_eq xs ys ≡ true → xs ≡ ys
same_bytes xs ys h = (bytes_eq-Decides xs ys).0 h

is_the : (class name descriptor : List ℕ) (r : Reference) → is_reference class name descriptor r ≡ true → r ≡ reference class name descriptor
is_the class name descriptor r h =
    let outer = and_parts (bytes_eq r.class class) (bytes_eq r.member.name name && bytes_eq r.member.descriptor descriptor) h in
    let inner = and_parts (bytes_eq r.member.name name) (bytes_eq r.member.descriptor descriptor) outer.1 in
    ap (λ (c : List ℕ). reference c r.member.name r.member.descriptor) (same_bytes r.class class outer.0)
    ∙ ap (λ (n : List ℕ). reference class n r.member.descriptor) (same_bytes r.member.name name inner.0)
    ∙ ap (λ (d : List ℕ). reference class name d) (same_bytes r.member.descriptor descriptor inner.1)

-- what the ldc of a string refers to
string_operation : (pool : List PoolEntry) (e : PoolEntry) (t : List ℕ) → as_string pool e ≡ Some t → constant_operation pool e ≡ Some (meaning (Text (units_of t)))
string_operation pool (entry.String text) t found = ap (option_map (λ bytes. meaning (Text (units_of bytes)))) found
string_operation pool _ t found = absurd cc

string_means : (pool : List PoolEntry) (index : ℕ) (t : List ℕ) → string_at pool index ≡ Some t → option_and_then (constant_operation pool) (entry_at pool index) ≡ Some (meaning (Text (units_of t)))
string_means pool index t found =
    let f = found_through (entry_at pool index) (as_string pool) t found in
    ap (option_and_then (constant_operation pool)) f.1 ∙ string_operation pool f.0 t f.2

module _ (pool more : List PoolEntry) (code code' : List ℕ) (own : List ℕ) (methods : List (List ℕ)) (h : Extends pool more) where
  abbrev Means : Insn → Type 0
  Means i = HasMeaning own methods (operation pool code i) (operation more code' i)

  constant_means : (index : ℕ) (o : Option (List ℕ)) → string_at pool index ≡ o → is_some_that is_printable_text o ≡ true → Means (insn.Pool 18 index)
  constant_means index None is passes = absurd cc
  constant_means index (Some text) is passes =
      record { form = Text (units_of text); before = string_means pool index text is; after = string_means more index text (string_kept pool more h index text is); calls = tt }

  field_means : (index : ℕ) (o : Option Reference) → field_at pool index ≡ o → is_some_that is_system_out o ≡ true → Means (insn.Pool 178 index)
  field_means index None is passes = absurd cc
  field_means index (Some r) is passes =
      let known : r ≡ output_field = is_the output_field.class output_field.member.name output_field.member.descriptor r passes in
      let op : Option Reference → Option Operation = option_map (FieldAccess Access.GetStatic) in
      record { form = Output; before = ap op (is ∙ ap Some known); after = ap op (field_kept pool more h index r is ∙ ap Some known); calls = tt }

  virtual_means : (index : ℕ) (o : Option Reference) → method_at pool index ≡ o → is_some_that is_println o ≡ true → Means (insn.Pool 182 index)
  virtual_means index None is passes = absurd cc
  virtual_means index (Some r) is passes =
      let known : r ≡ println = is_the println.class println.member.name println.member.descriptor r passes in
      let op : Option Reference → Option Operation = option_map (Invoke Mode.Virtual) in
      record { form = Prints; before = ap op (is ∙ ap Some known); after = ap op (method_kept pool more h index r is ∙ ap Some known); calls = tt }

  static_means : (index : ℕ) (o : Option Reference) → method_at pool index ≡ o → is_some_that (is_own_method own methods) o ≡ true → Means (insn.Pool 184 index)
  static_means index None is passes = absurd cc
  static_means index (Some r) is passes =
      let op : Option Reference → Option Operation = option_map (Invoke Mode.Static) in
      record { form = Calls r; before = ap op is; after = ap op (method_kept pool more h index r is); calls = passes }

  -- the choice among the four opcodes
  abbrev tested : ℕ → Bool → Bool → Bool → Bool → Bool
  tested index a b c d =
      if a then is_some_that is_printable_text (string_at pool index) else
      (if b then is_some_that is_system_out (field_at pool index) else
      (if c then is_some_that is_println (method_at pool index) else
      (if d then is_some_that (is_own_method own methods) (method_at pool index) else false)))

  known_as : (op n index : ℕ) → (op == n) ≡ true → Means (insn.Pool n index) → Means (insn.Pool op index)
  known_as op n index is means = subst (λ (k : ℕ). Means (insn.Pool k index)) (sym (eqb-true op n is)) means

  choice_means : (op index : ℕ) (a b c d : Bool) → (op == 18) ≡ a → (op == 178) ≡ b → (op == 182) ≡ c → (op == 184) ≡ d → tested index a b c d ≡ true → Means (insn.Pool op index)
  choice_means op index true b c d e f g i passes = known_as op 18 index e (constant_means index (string_at pool index) refl passes)
  choice_means op index false true c d e f g i passes = known_as op 178 index f (field_means index (field_at pool index) refl passes)
  choice_means op index false false true d e f g i passes = known_as op 182 index g (virtual_means index (method_at pool index) refl passes)
  choice_means op index false false false true e f g i passes = known_as op 184 index i (static_means index (method_at pool index) refl passes)
  choice_means op index false false false false e f g i passes = let apart : false ≡ true = passes in absurd cc

  plain_as : (op n : ℕ) → (op == n) ≡ true → Means (insn.Plain n) → Means (insn.Plain op)
  plain_as op n is means = subst (λ (k : ℕ). Means (insn.Plain k)) (sym (eqb-true op n is)) means

  plain_means : (op : ℕ) (a b : Bool) → (op == 0) ≡ a → (op == 177) ≡ b → (a || b) ≡ true → Means (insn.Plain op)
  plain_means op true b e f passes = plain_as op 0 e (record { form = Nothing; before = refl; after = refl; calls = tt })
  plain_means op false true e f passes = plain_as op 177 f (record { form = Back; before = refl; after = refl; calls = tt })
  plain_means op false false e f passes = let apart : false ≡ true = passes in absurd cc

  -- an instruction of the form has a meaning
  pub has_meaning : (i : Insn) → is_form_insn pool own methods i ≡ true → Means i
  has_meaning (insn.Plain op) passes = plain_means op (op == 0) (op == 177) refl refl passes
  has_meaning (insn.Pool op index) passes = choice_means op index (op == 18) (op == 178) (op == 182) (op == 184) refl refl refl refl passes
  has_meaning _ passes = let apart : false ≡ true = passes in absurd cc

-- ---- code

-- nothing stands at the end of the code
pub decoded_end : (code : List ℕ) (pc : ℕ) → drop pc code ≡ [] → decoded code pc ≡ Err (Cut pc)
unfolding decoded
decoded_end code pc e = ap (instruction code pc) e

-- behind an instruction
pub drop_behind : (code : List ℕ) (pc : ℕ) (front rest : List ℕ) → drop pc code ≡ front ++ rest → drop (pc + length front) code ≡ rest
drop_behind code pc front rest e =
    sym (drop-drop (length front) pc code) ∙ ap (drop (length front)) e ∙ drop_at front rest (length front) refl

pub ended_not : (code : List ℕ) (pc : ℕ) (i : Insn) (n : ℕ) → (pc == length code) ≡ true → decoded code pc ≡ Ok (i, n) → ⊥
ended_not code pc i n ended found =
    let at : pc ≡ length code = eqb-true pc (length code) ended in
    let end = decoded_end code pc (drop_all pc code (omega arith)) in
    let apart = sym end ∙ found in cc

-- the instructions of code whose test passes are those that the code spells
module _ (test : Insn → Bool) (code : List ℕ) where
  pub all_pass : (turns pc : ℕ) (insns : List Insn) → AllByRecursion (λ i. IsInsn i × IsSingle i) insns → drop pc code ≡ flat_map spelling insns → insns_pass test code turns pc ≡ true → AllByRecursion (λ i. test i ≡ true) insns
  all_pass turns pc [] good stands passes = tt
  all_pass zero pc (i ∷ insns) good stands passes =
      let found = decoded_where_spelled code pc i (flat_map spelling insns) stands good.0.0 good.0.1 in
      absurd (ended_not code pc i (length (spelling i)) passes found)
  all_pass (suc turns) pc (i ∷ insns) good stands passes =
      let found = decoded_where_spelled code pc i (flat_map spelling insns) stands good.0.0 good.0.1 in
      go found (all_pass turns (pc + length (spelling i)) insns good.1 (drop_behind code pc (spelling i) (flat_map spelling insns) stands)) (pc == length code) refl passes
    where
      go : decoded code pc ≡ Ok (i, length (spelling i)) → (insns_pass test code turns (pc + length (spelling i)) ≡ true → AllByRecursion (λ i. test i ≡ true) insns)
          → (b : Bool) → (pc == length code) ≡ b → (b || step_passes test (insns_pass test code turns) pc (decoded code pc)) ≡ true → (test i ≡ true) × AllByRecursion (λ i. test i ≡ true) insns
      go found onward true e passes = absurd (ended_not code pc i (length (spelling i)) e found)
      go found onward false e passes =
          let parts = and_parts (test i) (insns_pass test code turns (pc + length (spelling i))) (sym (ap (step_passes test (insns_pass test code turns) pc) found) ∙ passes) in
          (parts.0, onward parts.1)
