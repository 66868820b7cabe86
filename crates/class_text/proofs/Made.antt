-- The index that an operation's entry is given, and what it names.
use Rattle.std.proofs.Common.{◌≡◌, ℕ, ◌^◌, ◌<◌, ◌≤◌, Bool, true, false, ◌&&◌, ◌||◌, List, length, Option, Some, None, Ok, Err, refl, sym, ap, subst, ◌∙◌, arith, inl, inr, ⊎_elim}
use Rattle.std.specs.Prelude.{if◌then◌else◌, ◌==◌, nat_lt, nat_le, option_and_then, Result}
use Rattle.std.proofs.lemmas.Bool.{and_parts, and_from, and_right, or_cases, leb-true, le-leb, lt-leb, ltb-true, ltb-false, lt-ltb, le-ltb, eqb-true, eq-eqb, eqb-false, ne_eqb, cond-true, cond-false, cases_Bool}
use Rattle.opcode_table.specs.declared.insn.Insn.{Insn}
use Rattle.class_file.specs.declared.pool.PoolEntry.{PoolEntry}
use Rattle.class_file.specs.declared.pool.PoolEntry.TheVariants as entry
use Rattle.class_file.specs.Text.{within, dimensions, is_utf8, is_internal_name, is_field_descriptor, is_method_descriptor}
use Rattle.class_file.specs.Pool.{Reference, entry_at, text_at, as_class, class_at, as_string, string_at, as_field, as_method}
use Rattle.class_file.specs.Sound.{is_some_that}
use Rattle.class_file.specs.Code.{is_narrow_constant, is_wide_constant, is_field_entry, is_method_entry, is_interface_entry, is_class_entry, is_element_name, has_dimensions, has_operand}
use Rattle.class_lines.specs.declared.line.Operation.{Operation}
use Rattle.class_lines.specs.declared.line.Constant.{Constant}
use Rattle.class_lines.specs.Words.{Text}
use Rattle.class_lines.specs.Lines.{is_constant, is_class_op, is_operation}
use Rattle.aj_names.specs.declared.types.FieldName.{FieldName}
use Rattle.aj_names.specs.declared.types.MethodName.{MethodName}
use Rattle.constant_pool.specs.Edit.{Placed, with_entry, with_text, with_class, with_string_text, with_field, with_method, Extends}
use Rattle.constant_pool.specs.Laws.{extends-itself, entry_extends, text_extends, class_extends, string_text_extends, member_extends}
use Rattle.constant_pool.specs.Meaning.{entry_stays, class_stays, string_stays, referred_stays, entry_found, text_found, class_found, string_text_found, field_found, method_found, interface_method_found, reference}
use Rattle.class_lines.proofs.LineForms.{MemberForm, member_form, class_form, multi_form, class_constant_form, text_word}
use Rattle.class_text.specs.declared.numbered.Numbered.{Numbered}
use Rattle.class_text.specs.Gives.{◌>>=◌, Making}
use Rattle.class_text.specs.Pool.{within_pool, with_short, text_made, class_made, field_made, method_made, are_short, takes_few, member_made, constant_made, within_byte, pushed_made, index_made}
use Rattle.class_text.proofs.Numbers.{int_is, long_is}
use Rattle.class_text.specs.Meaning.{member_insn, insn_of, NamesConstant, entry_of, NamesMember, Names}
use Rattle.class_text.proofs.Insns.{HasIndex}
use Rattle.class_text.proofs.Pools.{Sound, New, entry_sound, text_sound, class_sound, string_sound, field_sound, method_sound, entry_within, class_within}

-- ---- steps

-- what the next step is made of
pub record Then {A B : Type 0} (made : Result A ℕ) (next : A → Result B ℕ) (result : B) : Type 0 where
  pub value : A
  pub first : made ≡ Ok value
  pub after : next value ≡ Ok result

pub then_parts : {A B : Type 0} (made : Result A ℕ) (next : A → Result B ℕ) (result : B) → (made >>= next) ≡ Ok result → Then made next result
then_parts (Ok value) next result h = record { value = value; first = refl; after = h }
then_parts (Err n) next result h = absurd cc

pub if_made : {A : Type 0} (t : Bool) (made : Result A ℕ) (line : ℕ) (result : A) → (if t then made else Err line) ≡ Ok result → (t ≡ true) × (made ≡ Ok result)
if_made true made line result h = (refl, h)
if_made false made line result h = absurd cc

pub same_ok : {A : Type 0} (x y : A) → (let r : Result A ℕ = Ok x in r) ≡ Ok y → x ≡ y
same_ok x y h = cc

within_made : (line : ℕ) (placed made : Placed) → within_pool line placed ≡ Ok made → (placed ≡ made) × (length made.0 ≤ 65534)
within_made line placed made h =
    let p = if_made (nat_le (length placed.0) 65534) (Ok placed) line made h in
    let same : placed ≡ made = same_ok placed made p.1 in
    (same, subst (λ (m : Placed). length m.0 ≤ 65534) same (leb-true (length placed.0) 65534 p.0))

pub short_made : (line : ℕ) (text : Text) (placed made : Placed) → with_short line text placed ≡ Ok made → (length text ≤ 65535) × (placed ≡ made) × (length made.0 ≤ 65534)
short_made line text placed made h =
    let p = if_made (nat_le (length text) 65535) (within_pool line placed) line made h in
    let q = within_made line placed made p.1 in
    (leb-true (length text) 65535 p.0, q.0, q.1)

-- a pool is made of another, with an index of it
pub record Grown (pool after : List PoolEntry) : Type 0 where
  pub grows : Extends pool after
  pub few : length after ≤ 65534
  pub sound : Sound pool → Sound after

pub record MadeText (pool after : List PoolEntry) (index : ℕ) (text : Text) : Type 0 where
  pub grown : Grown pool after
  pub names : text_at after index ≡ Some text

pub made_text : (line : ℕ) (text : Text) (pool : List PoolEntry) (made : Placed) → is_utf8 text ≡ true → text_made line text pool ≡ Ok made → MadeText pool made.0 made.1 text
made_text line text pool made u h =
    let p = short_made line text (with_text pool text) made h in
    record {
      grown = record {
        grows = subst (λ (m : Placed). Extends pool m.0) p.1 (text_extends pool text);
        few = p.2;
        sound = λ s. subst (λ (m : Placed). Sound m.0) p.1 (text_sound pool text s u p.0);
      };
      names = subst (λ (m : Placed). text_at m.0 m.1 ≡ Some text) p.1 (text_found pool text);
    }

pub record MadeClass (pool after : List PoolEntry) (index : ℕ) (name : Text) : Type 0 where
  pub grown : Grown pool after
  pub names : class_at after index ≡ Some name

pub made_class : (line : ℕ) (name : Text) (pool : List PoolEntry) (made : Placed) → is_internal_name name ≡ true → class_made line name pool ≡ Ok made → MadeClass pool made.0 made.1 name
made_class line name pool made i h =
    let p = short_made line name (with_class pool name) made h in
    record {
      grown = record {
        grows = subst (λ (m : Placed). Extends pool m.0) p.1 (class_extends pool name);
        few = p.2;
        sound = λ s. subst (λ (m : Placed). Sound m.0) p.1 (class_sound pool name s i p.0);
      };
      names = subst (λ (m : Placed). class_at m.0 m.1 ≡ Some name) p.1 (class_found pool name);
    }

-- ---- what an index names

constant_stays : (pool more : List PoolEntry) → Extends pool more → (index : ℕ) (c : Constant) → NamesConstant pool index c → NamesConstant more index c
constant_stays pool more h index (Constant.Int n) e = entry_stays pool more h index (entry.Integer n) e
constant_stays pool more h index (Constant.Float bits) e = entry_stays pool more h index (entry.Float bits) e
constant_stays pool more h index (Constant.Text text) e = string_stays pool more h index text e
constant_stays pool more h index (Constant.Class class) e = class_stays pool more h index class e

pub names_stay : (pool more : List PoolEntry) → Extends pool more → (index : ℕ) (o : Operation) → Names pool index o → Names more index o
names_stay pool more h index (Operation.Constant op constant) e = constant_stays pool more h index constant e
names_stay pool more h index (Operation.Long n) e = entry_stays pool more h index (entry.Long n) e
names_stay pool more h index (Operation.Double bits) e = entry_stays pool more h index (entry.Double bits) e
names_stay pool more h index (Operation.Member op class name descriptor) e =
    record { class = e.class; member = e.member; at = entry_stays pool more h index (entry_of op e.class e.member) e.at; names = referred_stays pool more h e.class e.member (reference class name descriptor) e.names }
names_stay pool more h index (Operation.Class op class) e = class_stays pool more h index class e
names_stay pool more h index (Operation.Multi class dims) e = class_stays pool more h index class e
names_stay pool more h index _ e = tt

-- ---- operands

class_entry : (pool : List PoolEntry) (o : Option PoolEntry) (name : Text) → option_and_then (as_class pool) o ≡ Some name → is_some_that is_class_entry o ≡ true
class_entry pool None name h = absurd cc
class_entry pool (Some (entry.Class n)) name h = refl
class_entry pool (Some _) name h = absurd cc

class_constant : (major : ℕ) (pool : List PoolEntry) (o : Option PoolEntry) (name : Text) → nat_le 49 major ≡ true → option_and_then (as_class pool) o ≡ Some name → is_some_that (is_narrow_constant major) o ≡ true
class_constant major pool None name v h = absurd cc
class_constant major pool (Some (entry.Class n)) name v h = v
class_constant major pool (Some _) name v h = absurd cc

string_constant : (major : ℕ) (pool : List PoolEntry) (o : Option PoolEntry) (text : Text) → option_and_then (as_string pool) o ≡ Some text → is_some_that (is_narrow_constant major) o ≡ true
string_constant major pool None text h = absurd cc
string_constant major pool (Some (entry.String n)) text h = refl
string_constant major pool (Some _) text h = absurd cc

-- a class is pushed from version 49 on
abbrev pub MayPush : ℕ → Operation → Type 0
MayPush version (Operation.Constant op (Constant.Class class)) = nat_le 49 version ≡ true
MayPush version operation = Unit {0}

narrow : (version : ℕ) (pool : List PoolEntry) (index op : ℕ) (c : Constant) → NamesConstant pool index c → MayPush version (Operation.Constant op c) → is_some_that (is_narrow_constant version) (entry_at pool index) ≡ true
narrow version pool index op (Constant.Int n) e v = ap (is_some_that (is_narrow_constant version)) e
narrow version pool index op (Constant.Float bits) e v = ap (is_some_that (is_narrow_constant version)) e
narrow version pool index op (Constant.Text text) e v = string_constant version pool (entry_at pool index) text e
narrow version pool index op (Constant.Class class) e v = class_constant version pool (entry_at pool index) class v e

past_20 : (op : ℕ) → 178 ≤ op → (within 18 20 op ≡ false) × ((op == 20) ≡ false)
past_20 op le = (and_right (nat_le 18 op) (nat_lt op 20) (le-ltb op 20 (omega arith)), ne_eqb op 20 (λ e. omega arith))

field_operand : (version : ℕ) (pool : List PoolEntry) (op index class member : ℕ) → 178 ≤ op → op < 182 → entry_at pool index ≡ Some (entry.Fieldref class member) → has_operand version pool (Insn.Pool op index) ≡ true
field_operand version pool op index class member le lt at =
    let p = past_20 op le in
    let here : within 178 182 op ≡ true = and_from (nat_le 178 op) (nat_lt op 182) (le-leb 178 op le) (lt-ltb op 182 lt) in
    cond-false (within 18 20 op) _ _ p.0 ∙ cond-false (op == 20) _ _ p.1 ∙ cond-true (within 178 182 op) _ _ here ∙ ap (is_some_that is_field_entry) at

method_operand : (version : ℕ) (pool : List PoolEntry) (op index class member : ℕ) → 182 ≤ op → op < 185 → entry_at pool index ≡ Some (entry.Methodref class member) → has_operand version pool (Insn.Pool op index) ≡ true
method_operand version pool op index class member le lt at =
    let p = past_20 op (omega arith) in
    let other : within 178 182 op ≡ false = and_right (nat_le 178 op) (nat_lt op 182) (le-ltb op 182 le) in
    let here : within 182 185 op ≡ true = and_from (nat_le 182 op) (nat_lt op 185) (le-leb 182 op le) (lt-ltb op 185 lt) in
    cond-false (within 18 20 op) _ _ p.0 ∙ cond-false (op == 20) _ _ p.1 ∙ cond-false (within 178 182 op) _ _ other ∙ cond-true (within 182 185 op) _ _ here ∙ ap (is_some_that is_method_entry) at

-- the kind is that of the opcode
of_field : (op class member : ℕ) → op < 182 → entry_of op class member ≡ entry.Fieldref class member
of_field op class member lt = cond-true (nat_le op 181) _ _ (le-leb op 181 (omega arith))

of_method : (op class member : ℕ) → 182 ≤ op → entry_of op class member ≡ (if op == 185 then entry.InterfaceMethodref class member else entry.Methodref class member)
of_method op class member le = cond-false (nat_le op 181) _ _ (lt-leb op 181 (omega arith))

member_operand : (version : ℕ) (pool : List PoolEntry) (op index : ℕ) (class name descriptor : Text) → MemberForm op class name descriptor → Names pool index (Operation.Member op class name descriptor) → has_operand version pool (member_insn op index descriptor) ≡ true
member_operand version pool op index class name descriptor h e =
    ⊎_elim
    (λ f.
    let low = f.0 in
    let high = f.1 in
    let other : (op == 185) ≡ false = ne_eqb op 185 (λ x. omega arith) in
    ap (has_operand version pool) (cond-false (op == 185) _ (Insn.Pool op index) other)
    ∙ field_operand version pool op index e.class e.member low high (e.at ∙ ap Some (of_field op e.class e.member high)))
    (λ m.
    let low = m.0 in
    let high = m.1 in
    let is = of_method op e.class e.member low in
    elim (cases_Bool (op == 185)) [
      | inl same ↦
          ap (has_operand version pool) (cond-true (op == 185) _ (Insn.Pool op index) same)
          ∙ ap (is_some_that is_interface_entry) (e.at ∙ ap Some (is ∙ cond-true (op == 185) _ _ same))
      | inr other ↦
          let ne = eqb-false op 185 other in
          ap (has_operand version pool) (cond-false (op == 185) _ (Insn.Pool op index) other)
          ∙ method_operand version pool op index e.class e.member low (omega arith) (e.at ∙ ap Some (is ∙ cond-false (op == 185) _ _ other))
    ])
    h.type

class_operand : (version : ℕ) (pool : List PoolEntry) (op index : ℕ) (class : Text) → is_class_op op class ≡ true → class_at pool index ≡ Some class → has_operand version pool (Insn.Pool op index) ≡ true
class_operand version pool op index class h e =
    let of_class : is_some_that is_class_entry (entry_at pool index) ≡ true = class_entry pool (entry_at pool index) class e in
    ⊎_elim
    (λ (a : (op == 187) ≡ true). ap (λ (n : ℕ). has_operand version pool (Insn.Pool n index)) (eqb-true op 187 a) ∙ of_class)
    (λ rest. ⊎_elim
    (λ (a : (op == 189 && nat_lt (dimensions class) 255) ≡ true).
    let p = and_parts (op == 189) (nat_lt (dimensions class) 255) a in
    ap (λ (n : ℕ). has_operand version pool (Insn.Pool n index)) (eqb-true op 189 p.0) ∙ ap (is_some_that is_element_name) e ∙ p.1)
    (λ (a : within 192 194 op ≡ true).
    let p = and_parts (nat_le 192 op) (nat_lt op 194) a in
    let low = leb-true 192 op p.0 in
    let high = ltb-true op 194 p.1 in
    elim (cases_Bool (op == 192)) [
      | inl same ↦ ap (λ (n : ℕ). has_operand version pool (Insn.Pool n index)) (eqb-true op 192 same) ∙ of_class
      | inr other ↦ let ne = eqb-false op 192 other in let is : op ≡ 193 = omega arith in ap (λ (n : ℕ). has_operand version pool (Insn.Pool n index)) is ∙ of_class
    ])
    (or_cases (op == 189 && nat_lt (dimensions class) 255) (within 192 194 op) rest))
    (or_cases (op == 187) ((op == 189 && nat_lt (dimensions class) 255) || within 192 194 op) h)

-- what an instruction names is an operand that it may have
pub operand_named : (version : ℕ) (pool : List PoolEntry) (body : List Numbered) (pc index : ℕ) (o : Operation) → is_operation o ≡ true → Names pool index o → MayPush version o → has_operand version pool (insn_of body pc index o) ≡ true
operand_named version pool body pc index (Operation.Constant op constant) h e v =
    let p = and_parts (op == 18 || op == 19) (is_constant constant) h in
    let is : is_some_that (is_narrow_constant version) (entry_at pool index) ≡ true = narrow version pool index op constant e v in
    ⊎_elim
    (λ (a : (op == 18) ≡ true). ap (λ (n : ℕ). has_operand version pool (Insn.Pool n index)) (eqb-true op 18 a) ∙ is)
    (λ (a : (op == 19) ≡ true). ap (λ (n : ℕ). has_operand version pool (Insn.Pool n index)) (eqb-true op 19 a) ∙ is)
    (or_cases (op == 18) (op == 19) p.0)
operand_named version pool body pc index (Operation.Long n) h e v = ap (is_some_that is_wide_constant) e
operand_named version pool body pc index (Operation.Double bits) h e v = ap (is_some_that is_wide_constant) e
operand_named version pool body pc index (Operation.Member op class name descriptor) h e v =
    member_operand version pool op index class name descriptor (member_form op class name descriptor h) e
operand_named version pool body pc index (Operation.Class op class) h e v = class_operand version pool op index class (class_form op class h).1 e
operand_named version pool body pc index (Operation.NewArray code) h e v = h
operand_named version pool body pc index (Operation.Multi class dims) h e v =
    let p = multi_form class dims h in
    let some = p.2 in
    ap (is_some_that (has_dimensions dims)) e ∙ and_from (nat_lt 0 dims) (nat_le dims (dimensions class)) (lt-ltb 0 dims (omega arith)) p.3
operand_named version pool body pc index _ h e v = refl

-- ---- indices

pub record Indexed (version : ℕ) (pool after : List PoolEntry) (index : ℕ) (o : Operation) : Type 0 where
  pub grown : Grown pool after
  pub has : HasIndex index o
  pub names : Names after index o
  pub push : MayPush version o

-- the entry itself
made_entry : (line : ℕ) (e : PoolEntry) (pool : List PoolEntry) (made : Placed) → ((s : Sound pool) → New pool e) → within_pool line (with_entry pool e) ≡ Ok made → Grown pool made.0 × (entry_at made.0 made.1 ≡ Some e)
made_entry line e pool made new h =
    let p = within_made line (with_entry pool e) made h in (
      record {
        grows = subst (λ (m : Placed). Extends pool m.0) p.0 (entry_extends pool e);
        few = p.1;
        sound = λ s. subst (λ (m : Placed). Sound m.0) p.0 (entry_sound pool e s (new s));
      },
      subst (λ (m : Placed). entry_at m.0 m.1 ≡ Some e) p.0 (entry_found pool e),
    )

-- an index in a pool that isn't too long
index_small : (pool : List PoolEntry) (index : ℕ) → length pool ≤ 65534 → index ≤ length pool → index < 2 ^ 16
index_small pool index few le = omega arith

string_within : (pool : List PoolEntry) (index : ℕ) (o : Option PoolEntry) (text : Text) → entry_at pool index ≡ o → option_and_then (as_string pool) o ≡ Some text → index ≤ length pool
string_within pool index None text is h = absurd cc
string_within pool index (Some e) text is h = entry_within pool index e is

pub record MadeConstant (version : ℕ) (pool after : List PoolEntry) (index : ℕ) (c : Constant) : Type 0 where
  pub grown : Grown pool after
  pub small : index < 2 ^ 16
  pub names : NamesConstant after index c
  pub push : MayPush version (Operation.Constant 18 c)

made_constant : (version line : ℕ) (c : Constant) (pool : List PoolEntry) (made : Placed) → is_constant c ≡ true → constant_made version line c pool ≡ Ok made → MadeConstant version pool made.0 made.1 c
made_constant version line (Constant.Int n) pool made h m =
    let p = made_entry line (entry.Integer n) pool made (λ _. record { sound = refl; range = int_is n h; first = refl }) m in
    record { grown = p.0; small = index_small made.0 made.1 p.0.few (entry_within made.0 made.1 (entry.Integer n) p.1); names = p.1; push = tt }
made_constant version line (Constant.Float bits) pool made h m =
    let p = made_entry line (entry.Float bits) pool made (λ _. record { sound = refl; range = h; first = refl }) m in
    record { grown = p.0; small = index_small made.0 made.1 p.0.few (entry_within made.0 made.1 (entry.Float bits) p.1); names = p.1; push = tt }
made_constant version line (Constant.Text text) pool made h m =
    let p = short_made line text (with_string_text pool text) made m in
    let t = text_word text h in
    let names : string_at made.0 made.1 ≡ Some text = subst (λ (m : Placed). string_at m.0 m.1 ≡ Some text) p.1 (string_text_found pool text) in
    record {
      grown = record {
        grows = subst (λ (m : Placed). Extends pool m.0) p.1 (string_text_extends pool text);
        few = p.2;
        sound = λ s. subst (λ (m : Placed). Sound m.0) p.1 (string_sound pool text s t.1 t.0);
      };
      small = index_small made.0 made.1 p.2 (string_within made.0 made.1 (entry_at made.0 made.1) text refl names);
      names = names;
      push = tt;
    }
made_constant version line (Constant.Class class) pool made h m =
    pushed (nat_lt version 49) refl m (class_constant_form class h)
  where
    pushed : (late : Bool) → nat_lt version 49 ≡ late → (if late then Err line else class_made line class pool) ≡ Ok made → is_internal_name class ≡ true → MadeConstant version pool made.0 made.1 (Constant.Class class)
    pushed true is e i = absurd cc
    pushed false is e i =
        let p = made_class line class pool made i e in
        record { grown = p.grown; small = index_small made.0 made.1 p.grown.few (class_within made.0 made.1 class p.names); names = p.names; push = le-leb 49 version (ltb-false version 49 is) }

pushed_index : (version line op : ℕ) (c : Constant) (pool : List PoolEntry) (made : Placed) → is_constant c ≡ true → pushed_made version line op c pool ≡ Ok made → Indexed version pool made.0 made.1 (Operation.Constant op c)
pushed_index version line op c pool made h m =
    let t = then_parts (constant_made version line c pool) (within_byte op line) made m in
    go t.value t.first (op == 18 && nat_lt 255 t.value.1) refl t.after
  where
    push_any : (c : Constant) → MayPush version (Operation.Constant 18 c) → MayPush version (Operation.Constant op c)
    push_any (Constant.Class class) v = v
    push_any _ v = tt

    go : (value : Placed) → constant_made version line c pool ≡ Ok value → (past : Bool) → (op == 18 && nat_lt 255 value.1) ≡ past → (if past then Err line else Ok value) ≡ Ok made → Indexed version pool made.0 made.1 (Operation.Constant op c)
    go value first true is e = absurd cc
    go value first false is e =
        let same : value ≡ made = same_ok value made e in
        let k = made_constant version line c pool value h first in
        subst (λ (m : Placed). Indexed version pool m.0 m.1 (Operation.Constant op c)) same
        (record { grown = k.grown; has = (k.small, λ op18. few_of op18 is); names = k.names; push = push_any c k.push })
      where
        few_of : op ≡ 18 → (op == 18 && nat_lt 255 value.1) ≡ false → value.1 ≤ 255
        few_of e is = ltb-false 255 value.1 (sym (ap (λ (b : Bool). b && nat_lt 255 value.1) (eq-eqb op 18 e)) ∙ is)

-- the entry that a member is given
pub record MadeMember (pool after : List PoolEntry) (index op : ℕ) (r : Reference) : Type 0 where
  pub grown : Grown pool after
  pub names : NamesMember after index op r

some_field : (pool : List PoolEntry) (index op : ℕ) (o : Option PoolEntry) (r : Reference) → op < 182 → entry_at pool index ≡ o → option_and_then (as_field pool) o ≡ Some r → NamesMember pool index op r
some_field pool index op None r lt is h = absurd cc
some_field pool index op (Some (entry.Fieldref class member)) r lt is h = record { class = class; member = member; at = is ∙ ap Some (sym (of_field op class member lt)); names = h }
some_field pool index op (Some _) r lt is h = absurd cc

some_method : (pool : List PoolEntry) (index op : ℕ) (o : Option PoolEntry) (r : Reference) → 182 ≤ op → (op == 185) ≡ false → entry_at pool index ≡ o → option_and_then (as_method pool) o ≡ Some r → NamesMember pool index op r
some_method pool index op None r le other is h = absurd cc
some_method pool index op (Some (entry.Methodref class member)) r le other is h =
    record { class = class; member = member; at = is ∙ ap Some (sym (of_method op class member le ∙ cond-false (op == 185) _ _ other)); names = h }
some_method pool index op (Some _) r le other is h = absurd cc

module _ (line op : ℕ) (class name descriptor : Text) (pool : List PoolEntry) (form : MemberForm op class name descriptor) (short : length class ≤ 65535) (short' : length name ≤ 65535) (short'' : length descriptor ≤ 65535) where
  made_field : (made : Placed) → op < 182 → is_field_descriptor descriptor ≡ true → field_made line class name descriptor pool ≡ Ok made → MadeMember pool made.0 made.1 op (reference class name descriptor)
  made_field made lt d m =
      let f : FieldName = record { class = class; name = name; descriptor = descriptor } in
      let w = within_made line (with_field pool f) made m in
      record {
        grown = record {
          grows = subst (λ (m : Placed). Extends pool m.0) w.0 (member_extends pool _ class name descriptor);
          few = w.1;
          sound = λ x. subst (λ (m : Placed). Sound m.0) w.0 (field_sound pool class name descriptor x form.class_is short form.name_is short' short'' d);
        };
        names = subst (λ (m : Placed). NamesMember m.0 m.1 op (reference class name descriptor)) w.0 (some_field (with_field pool f).0 (with_field pool f).1 op _ (reference class name descriptor) lt refl (field_found pool f));
      }

  method_grown : (interface : Bool) (made : Placed) → is_method_descriptor descriptor ≡ true → (with_method pool (record { class = class; name = name; descriptor = descriptor; interface = interface }) ≡ made) × (length made.0 ≤ 65534) → Grown pool made.0
  method_grown interface made d w =
      record {
        grows = subst (λ (m : Placed). Extends pool m.0) w.0 (member_extends pool _ class name descriptor);
        few = w.1;
        sound = λ x. subst (λ (m : Placed). Sound m.0) w.0 (method_sound pool class name descriptor x form.class_is short form.name_is short' short'' interface d);
      }

  made_method : (interface : Bool) (made : Placed) → (op == 185) ≡ interface → 182 ≤ op → is_method_descriptor descriptor ≡ true → method_made line class name descriptor interface pool ≡ Ok made → MadeMember pool made.0 made.1 op (reference class name descriptor)
  made_method false made is le d m =
      let f : MethodName = record { class = class; name = name; descriptor = descriptor; interface = false } in
      let w = within_made line (with_method pool f) made m in
      record {
        grown = method_grown false made d w;
        names = subst (λ (m : Placed). NamesMember m.0 m.1 op (reference class name descriptor)) w.0 (some_method (with_method pool f).0 (with_method pool f).1 op _ (reference class name descriptor) le is refl (method_found pool f refl));
      }
  made_method true made is le d m =
      let f : MethodName = record { class = class; name = name; descriptor = descriptor; interface = true } in
      let w = within_made line (with_method pool f) made m in
      let n = interface_method_found pool f refl in
      record {
        grown = method_grown true made d w;
        names = subst (λ (m : Placed). NamesMember m.0 m.1 op (reference class name descriptor)) w.0
            (record { class = n.class; member = n.member; at = n.at ∙ ap Some (sym (of_method op n.class n.member le ∙ cond-true (op == 185) _ _ is)); names = n.names });
      }

member_index : (version line op : ℕ) (class name descriptor : Text) (pool : List PoolEntry) (made : Placed) → is_operation (Operation.Member op class name descriptor) ≡ true → member_made line op class name descriptor pool ≡ Ok made → Indexed version pool made.0 made.1 (Operation.Member op class name descriptor)
member_index version line op class name descriptor pool made h m =
    let form = member_form op class name descriptor h in
    let r = if_made (are_short class name descriptor && takes_few op descriptor) (if nat_le op 181 then field_made line class name descriptor pool else method_made line class name descriptor (op == 185) pool) line made m in
    let s = and_parts (are_short class name descriptor) (takes_few op descriptor) r.0 in
    let t = and_parts (nat_le (length class) 65535) (nat_le (length name) 65535 && nat_le (length descriptor) 65535) s.0 in
    let u = and_parts (nat_le (length name) 65535) (nat_le (length descriptor) 65535) t.1 in
    let k : MadeMember pool made.0 made.1 op (reference class name descriptor) =
    ⊎_elim
    (λ f. let low : op ≤ 181 = (let lt = f.1 in omega arith) in made_field line op class name descriptor pool form (leb-true (length class) 65535 t.0) (leb-true (length name) 65535 u.0) (leb-true (length descriptor) 65535 u.1) made f.1 f.2 (sym (cond-true (nat_le op 181) _ _ (le-leb op 181 low)) ∙ r.1))
    (λ f. let high : 181 < op = (let le = f.0 in omega arith) in made_method line op class name descriptor pool form (leb-true (length class) 65535 t.0) (leb-true (length name) 65535 u.0) (leb-true (length descriptor) 65535 u.1) (op == 185) made refl f.0 f.2 (sym (cond-false (nat_le op 181) _ _ (lt-leb op 181 high)) ∙ r.1))
    form.type in
    record {
      grown = k.grown;
      has = (index_small made.0 made.1 k.grown.few (entry_within made.0 made.1 (entry_of op k.names.class k.names.member) k.names.at), s.1);
      names = k.names;
      push = tt;
    }

-- nothing is made
pub grown_itself : (pool : List PoolEntry) → length pool ≤ 65534 → Grown pool pool
grown_itself pool few = record { grows = extends-itself pool; few = few; sound = λ s. s }

none_made : (pool : List PoolEntry) (made : Placed) → length pool ≤ 65534 → (let r : Making ℕ = Ok (pool, 0) in r) ≡ Ok made → Grown pool made.0 × (made.1 < 2 ^ 16)
none_made pool made few h =
    let same : (pool, 0) ≡ made = same_ok (pool, 0) made h in
    subst (λ (m : Placed). Grown pool m.0 × (m.1 < 2 ^ 16)) same (grown_itself pool few, omega arith)

-- The index of an operation names what the operation does.
pub index_is : (version line : ℕ) (o : Operation) (pool : List PoolEntry) (made : Placed) → is_operation o ≡ true → length pool ≤ 65534 → index_made version line o pool ≡ Ok made → Indexed version pool made.0 made.1 o
index_is version line (Operation.Constant op constant) pool made h few m = pushed_index version line op constant pool made (and_parts (op == 18 || op == 19) (is_constant constant) h).1 m
index_is version line (Operation.Long n) pool made h few m =
    let p = made_entry line (entry.Long n) pool made (λ _. record { sound = refl; range = long_is n h; first = refl }) m in
    record { grown = p.0; has = index_small made.0 made.1 p.0.few (entry_within made.0 made.1 (entry.Long n) p.1); names = p.1; push = tt }
index_is version line (Operation.Double bits) pool made h few m =
    let p = made_entry line (entry.Double bits) pool made (λ _. record { sound = refl; range = h; first = refl }) m in
    record { grown = p.0; has = index_small made.0 made.1 p.0.few (entry_within made.0 made.1 (entry.Double bits) p.1); names = p.1; push = tt }
index_is version line (Operation.Member op class name descriptor) pool made h few m = member_index version line op class name descriptor pool made h m
index_is version line (Operation.Class op class) pool made h few m =
    let p = made_class line class pool made (class_form op class h).0 m in
    record { grown = p.grown; has = index_small made.0 made.1 p.grown.few (class_within made.0 made.1 class p.names); names = p.names; push = tt }
index_is version line (Operation.Multi class dims) pool made h few m =
    let p = made_class line class pool made (multi_form class dims h).0 m in
    record { grown = p.grown; has = index_small made.0 made.1 p.grown.few (class_within made.0 made.1 class p.names); names = p.names; push = tt }
index_is version line (Operation.Plain op) pool made h few m = let p = none_made pool made few m in record { grown = p.0; has = p.1; names = tt; push = tt }
index_is version line (Operation.Bipush value) pool made h few m = let p = none_made pool made few m in record { grown = p.0; has = p.1; names = tt; push = tt }
index_is version line (Operation.Sipush value) pool made h few m = let p = none_made pool made few m in record { grown = p.0; has = p.1; names = tt; push = tt }
index_is version line (Operation.Local op local) pool made h few m = let p = none_made pool made few m in record { grown = p.0; has = p.1; names = tt; push = tt }
index_is version line (Operation.Iinc local by) pool made h few m = let p = none_made pool made few m in record { grown = p.0; has = p.1; names = tt; push = tt }
index_is version line (Operation.NewArray code) pool made h few m = let p = none_made pool made few m in record { grown = p.0; has = p.1; names = tt; push = tt }
index_is version line (Operation.Branch op to) pool made h few m = let p = none_made pool made few m in record { grown = p.0; has = p.1; names = tt; push = tt }
index_is version line (Operation.TableSwitch low labels default) pool made h few m = let p = none_made pool made few m in record { grown = p.0; has = p.1; names = tt; push = tt }
index_is version line (Operation.LookupSwitch cases default) pool made h few m = let p = none_made pool made few m in record { grown = p.0; has = p.1; names = tt; push = tt }
