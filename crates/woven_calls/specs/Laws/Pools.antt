-- A pool that begins with another: what the indices of the shorter one stand for stays.
use Rattle.std.proofs.Common.{◌≡◌, ℕ, zero, suc, ◌+◌, ◌<◌, List, [], ◌∷◌, ◌++◌, length, Option, Some, None, refl, ap, ◌∙◌, arith, slice_get, option_and_then, codes}
use Rattle.opcode_table.specs.declared.insn.Insn.TheVariants as insn
use Rattle.opcode_table.specs.Table.{opcode}
use Rattle.opcode_table.specs.Spelling.{IsInsn}
use Rattle.class_file.specs.declared.pool.PoolEntry.{PoolEntry}
use Rattle.class_file.specs.declared.pool.PoolEntry.TheVariants as entry
use Rattle.class_file.specs.declared.types.Member.{Member}
use Rattle.class_file.specs.Pool.{NamedType, Reference, entry_at, as_text, text_at, as_class, class_at, as_string, string_at, as_named_type, named_type_at, referred, as_field, field_at, as_method, method_at, member_type}
use Rattle.jp_model.specs.declared.first_aspect.FirstAspect.{FirstAspect}
use Rattle.class_machine.specs.Classes.{reference}
use Rattle.woven_calls.specs.Woven.{advice_name, call_entries, call_index}

abbrev pub named_type : List ℕ → List ℕ → NamedType
named_type name descriptor = record { name = name; descriptor = descriptor }

-- what is found through an option
pub found_through : {A B : Type 0} (o : Option A) (f : A → Option B) (y : B) → option_and_then f o ≡ Some y → (x : A) × (o ≡ Some x) × (f x ≡ Some y)
found_through None f y e = absurd cc
found_through (Some x) f y e = (x, refl, e)

-- each entry of the one is one of the other, at its index
abbrev pub Extends : List PoolEntry → List PoolEntry → Type 0
Extends pool more = (index : ℕ) (e : PoolEntry) → entry_at pool index ≡ Some e → entry_at more index ≡ Some e

pub slice_front : {X : Type 0} (xs ys : List X) (k : ℕ) (x : X) → slice_get xs k ≡ Some x → slice_get (xs ++ ys) k ≡ Some x
slice_front [] ys k x e = absurd cc
slice_front (y ∷ xs) ys zero x e = e
slice_front (y ∷ xs) ys (suc k) x e = slice_front xs ys k x e

pub slice_back : {X : Type 0} (xs ys : List X) (k : ℕ) → slice_get (xs ++ ys) (length xs + k) ≡ slice_get ys k
slice_back [] ys k = let e : 0 + k ≡ k = omega arith in ap (slice_get ys) e
slice_back (x ∷ xs) ys k =
    let e : length (x ∷ xs) + k ≡ suc (length xs + k) = omega arith in
    ap (slice_get (x ∷ xs ++ ys)) e ∙ slice_back xs ys k

pub extends_append : (pool more : List PoolEntry) → Extends pool (pool ++ more)
extends_append pool more zero e found = absurd cc
extends_append pool more (suc place) e found = slice_front pool more place e found

pub extends_same : (pool : List PoolEntry) → Extends pool pool
extends_same pool index e found = found

module _ (pool more : List PoolEntry) (h : Extends pool more) where
  pub text_kept : (index : ℕ) (t : List ℕ) → text_at pool index ≡ Some t → text_at more index ≡ Some t
  text_kept index t found =
      let f = found_through (entry_at pool index) as_text t found in
      ap (option_and_then as_text) (h index f.0 f.1) ∙ f.2

  as_class_kept : (e : PoolEntry) (t : List ℕ) → as_class pool e ≡ Some t → as_class more e ≡ Some t
  as_class_kept (entry.Class name) t found = text_kept name t found
  as_class_kept _ t found = absurd cc

  pub class_kept : (index : ℕ) (t : List ℕ) → class_at pool index ≡ Some t → class_at more index ≡ Some t
  class_kept index t found =
      let f = found_through (entry_at pool index) (as_class pool) t found in
      ap (option_and_then (as_class more)) (h index f.0 f.1) ∙ as_class_kept f.0 t f.2

  as_string_kept : (e : PoolEntry) (t : List ℕ) → as_string pool e ≡ Some t → as_string more e ≡ Some t
  as_string_kept (entry.String text) t found = text_kept text t found
  as_string_kept _ t found = absurd cc

  pub string_kept : (index : ℕ) (t : List ℕ) → string_at pool index ≡ Some t → string_at more index ≡ Some t
  string_kept index t found =
      let f = found_through (entry_at pool index) (as_string pool) t found in
      ap (option_and_then (as_string more)) (h index f.0 f.1) ∙ as_string_kept f.0 t f.2

  -- two texts, as a name and a descriptor
  typed_kept : (name descriptor : ℕ) (t : NamedType) → as_named_type pool (entry.NameAndType name descriptor) ≡ Some t → as_named_type more (entry.NameAndType name descriptor) ≡ Some t
  typed_kept name descriptor t found =
      let n = found_through (text_at pool name) (λ n. option_and_then (λ d. Some (named_type n d)) (text_at pool descriptor)) t found in
      let d = found_through (text_at pool descriptor) (λ d. Some (named_type n.0 d)) t n.2 in
      ap (option_and_then (λ n. option_and_then (λ d. Some (named_type n d)) (text_at more descriptor))) (text_kept name n.0 n.1)
      ∙ ap (option_and_then (λ d. Some (named_type n.0 d))) (text_kept descriptor d.0 d.1)
      ∙ d.2

  as_named_type_kept : (e : PoolEntry) (t : NamedType) → as_named_type pool e ≡ Some t → as_named_type more e ≡ Some t
  as_named_type_kept (entry.NameAndType name descriptor) t found = typed_kept name descriptor t found
  as_named_type_kept _ t found = absurd cc

  pub named_type_kept : (index : ℕ) (t : NamedType) → named_type_at pool index ≡ Some t → named_type_at more index ≡ Some t
  named_type_kept index t found =
      let f = found_through (entry_at pool index) (as_named_type pool) t found in
      ap (option_and_then (as_named_type more)) (h index f.0 f.1) ∙ as_named_type_kept f.0 t f.2

  -- the name and descriptor of a member
  pub member_kept : (m : Member) (t : NamedType) → member_type pool m ≡ Some t → member_type more m ≡ Some t
  member_kept m t found = typed_kept m.name m.descriptor t found

  referred_kept : (class member : ℕ) (r : Reference) → referred pool class member ≡ Some r → referred more class member ≡ Some r
  referred_kept class member r found =
      let c = found_through (class_at pool class) (λ (c : List ℕ). option_and_then (λ (m : NamedType). let r : Reference = record { class = c; member = m } in Some r) (named_type_at pool member)) r found in
      let m = found_through (named_type_at pool member) (λ (m : NamedType). let r : Reference = record { class = c.0; member = m } in Some r) r c.2 in
      ap (option_and_then (λ (c : List ℕ). option_and_then (λ (m : NamedType). let r : Reference = record { class = c; member = m } in Some r) (named_type_at more member))) (class_kept class c.0 c.1)
      ∙ ap (option_and_then (λ (m : NamedType). let r : Reference = record { class = c.0; member = m } in Some r)) (named_type_kept member m.0 m.1)
      ∙ m.2

  as_field_kept : (e : PoolEntry) (r : Reference) → as_field pool e ≡ Some r → as_field more e ≡ Some r
  as_field_kept (entry.Fieldref class member) r found = referred_kept class member r found
  as_field_kept _ r found = absurd cc

  pub field_kept : (index : ℕ) (r : Reference) → field_at pool index ≡ Some r → field_at more index ≡ Some r
  field_kept index r found =
      let f = found_through (entry_at pool index) (as_field pool) r found in
      ap (option_and_then (as_field more)) (h index f.0 f.1) ∙ as_field_kept f.0 r f.2

  as_method_kept : (e : PoolEntry) (r : Reference) → as_method pool e ≡ Some r → as_method more e ≡ Some r
  as_method_kept (entry.Methodref class member) r found = referred_kept class member r found
  as_method_kept _ r found = absurd cc

  pub method_kept : (index : ℕ) (r : Reference) → method_at pool index ≡ Some r → method_at more index ≡ Some r
  method_kept index r found =
      let f = found_through (entry_at pool index) (as_method pool) r found in
      ap (option_and_then (as_method more)) (h index f.0 f.1) ∙ as_method_kept f.0 r f.2

-- the entries for the call of the advice's method name it
module _ (pool : List PoolEntry) (a : FirstAspect) where
  abbrev longer : List PoolEntry
  longer = pool ++ call_entries pool a

  pub slot : (k index : ℕ) → index ≡ suc (length pool + k) → entry_at longer index ≡ slice_get (call_entries pool a) k
  slot k index e = ap (entry_at longer) e ∙ slice_back pool (call_entries pool a) k

  pub text_slot : (k index : ℕ) (t : List ℕ) → index ≡ suc (length pool + k) → slice_get (call_entries pool a) k ≡ Some (entry.Utf8 t) → text_at longer index ≡ Some t
  text_slot k index t e is = ap (option_and_then as_text) (slot k index e ∙ is)

  pub call_class : class_at longer (length pool + 1 + 1) ≡ Some a.name
  call_class =
      let n = length pool in
      ap (option_and_then (as_class longer)) (slot 1 (n + 1 + 1) (omega arith)) ∙ text_slot 0 (n + 1) a.name (omega arith) refl

  pub call_type : named_type_at longer (length pool + 1 + 4) ≡ Some (named_type advice_name (codes "()V"))
  call_type =
      let n = length pool in
      ap (option_and_then (as_named_type longer)) (slot 4 (n + 1 + 4) (omega arith))
      ∙ ap (option_and_then (λ n'. option_and_then (λ d. Some (named_type n' d)) (text_at longer (n + 1 + 3)))) (text_slot 2 (n + 1 + 2) advice_name (omega arith) refl)
      ∙ ap (option_and_then (λ d. Some (named_type advice_name d))) (text_slot 3 (n + 1 + 3) (codes "()V") (omega arith) refl)

  pub call_names : method_at longer (call_index pool) ≡ Some (reference a.name advice_name (codes "()V"))
  call_names =
      let n = length pool in
      ap (option_and_then (as_method longer)) (slot 5 (call_index pool) (omega arith))
      ∙ ap (option_and_then (λ (c : List ℕ). option_and_then (λ (m : NamedType). let r : Reference = record { class = c; member = m } in Some r) (named_type_at longer (n + 1 + 4)))) call_class
      ∙ ap (option_and_then (λ (m : NamedType). let r : Reference = record { class = a.name; member = m } in Some r)) call_type

-- the call is an instruction
pub call_is_insn : (pool : List PoolEntry) → length pool < 10000 → IsInsn (insn.Pool 184 (call_index pool))
unfolding opcode
call_is_insn pool few = omega (arith, few)
