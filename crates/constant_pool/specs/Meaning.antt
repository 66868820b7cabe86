-- What the indices that an edit answers stand for, and that what old indices stand for stays.
use Rattle.std.specs.Prelude.{◌≡◌, ℕ, zero, suc, ◌≤◌, Bool, true, false, if◌then◌else◌, List, [], ◌∷◌, ◌++◌, length, Option, Some, None, option_map, option_and_then, slice_get, refl}
use Rattle.std.proofs.Common.{sym, ◌∙◌, ap, subst, inl, inr, arith, add-one}
use Rattle.std.proofs.lemmas.Option.{option_and_then_some, same_Some}
use Rattle.std.proofs.lemmas.Bool.{cases_Bool}
use Rattle.class_file.specs.declared.pool.PoolEntry.{PoolEntry}
use Rattle.class_file.specs.declared.pool.PoolEntry.TheVariants as entry
use Rattle.class_file.specs.Pool.{NamedType, Reference, entry_at, as_text, text_at, as_class, class_at, as_string, string_at, as_named_type, named_type_at, referred, as_field, field_at, as_method, method_at}
use Rattle.class_file.specs.Sound.{is_wide}
use Rattle.aj_names.specs.ModifiedUtf8.{text_spelling}
use Rattle.aj_names.specs.declared.types.FieldName.{FieldName}
use Rattle.aj_names.specs.declared.types.MethodName.{MethodName}
use Rattle.constant_pool.specs.declared.calls.MemberKind.{MemberKind}
use Rattle.constant_pool.specs.declared.calls.MemberKind.TheVariants as kind
use Rattle.constant_pool.specs.Edit.{same_entry, least_index, slots, placed_at, with_entry, with_text, with_class, with_string, with_string_text, with_named_type, with_member, member_entry, method_kind, with_field, with_method, Extends}
use Rattle.constant_pool.specs.Laws.{same_entry-equal, same_entry-itself, entry_extends, text_extends, named_type_extends}

-- ---- the least index

some_suc : (o : Option ℕ) (i : ℕ) → option_map suc o ≡ Some i → (j : ℕ) × (o ≡ Some j) × (i ≡ suc j)
some_suc (Some j) i h = (j, refl, grind arith)
some_suc None i h = cc

behind : (p : PoolEntry) (pool : List PoolEntry) (e : PoolEntry) (j : ℕ) → entry_at pool j ≡ Some e → entry_at (p ∷ pool) (suc j) ≡ Some e
behind p pool e zero h = cc
behind p pool e (suc j) h = h

-- an equal entry stands at it
pub least_index-entry : (pool : List PoolEntry) (e : PoolEntry) (i : ℕ) → least_index pool e ≡ Some i → entry_at pool i ≡ Some e
least_index-entry [] e i h = cc
least_index-entry (p ∷ pool) e i found =
    let parts = λ (b : Bool). (if b then Some 1 else option_map suc (least_index pool e)) ≡ Some i in
    elim (cases_Bool (same_entry e p)) [
      | inl same ↦ let h = subst parts same found in let one : 1 ≡ i = same_Some 1 i h in
          subst (λ (n : ℕ). entry_at (p ∷ pool) n ≡ Some e) one (ap Some (sym (same_entry-equal e p same)))
      | inr apart ↦ let h = subst parts apart found in let s = some_suc (least_index pool e) i h in
          subst (λ (n : ℕ). entry_at (p ∷ pool) n ≡ Some e) (sym s.2) (behind p pool e s.0 (least_index-entry pool e s.0 s.1))
    ]

-- and none stands before it
pub least_index-least : (pool : List PoolEntry) (e : PoolEntry) (i : ℕ) → entry_at pool i ≡ Some e → (j : ℕ) × (least_index pool e ≡ Some j) × (j ≤ i)
least_index-least [] e zero h = cc
least_index-least [] e (suc i) h = cc
least_index-least (p ∷ pool) e zero h = cc
least_index-least (p ∷ pool) e (suc zero) h =
    let same = ap (same_entry e) (same_Some p e h) ∙ same_entry-itself e in
    (1, ap (λ (b : Bool). if b then Some 1 else option_map suc (least_index pool e)) same, omega arith)
least_index-least (p ∷ pool) e (suc (suc i)) h =
    let other = least_index-least pool e (suc i) h in
    let found = λ (b : Bool). if b then Some 1 else option_map suc (least_index pool e) in
    elim (cases_Bool (same_entry e p)) [
      | inl same ↦ (1, ap found same, omega arith)
      | inr apart ↦ (suc other.0, ap found apart ∙ ap (option_map suc) other.1, let le = other.2 in omega arith)
    ]

-- ---- old indices

slice_get-append : (xs ys : List PoolEntry) (k : ℕ) (x : PoolEntry) → slice_get xs k ≡ Some x → slice_get (xs ++ ys) k ≡ Some x
slice_get-append [] ys k x h = cc
slice_get-append (y ∷ xs) ys zero x h = h
slice_get-append (y ∷ xs) ys (suc k) x h = slice_get-append xs ys k x h

pub entry_stays : (old new : List PoolEntry) → Extends old new → (index : ℕ) (e : PoolEntry) → entry_at old index ≡ Some e → entry_at new index ≡ Some e
entry_stays old new h zero e at = cc
entry_stays old new h (suc place) e at = subst (λ (p : List PoolEntry). slice_get p place ≡ Some e) (sym h.is) (slice_get-append old h.added place e at)

stays_by : {T : Type 0} (read : List PoolEntry → PoolEntry → Option T) (old new : List PoolEntry) → Extends old new → ((e : PoolEntry) (t : T) → read old e ≡ Some t → read new e ≡ Some t)
    → (index : ℕ) (t : T) → option_and_then (read old) (entry_at old index) ≡ Some t → option_and_then (read new) (entry_at new index) ≡ Some t
stays_by read old new h each index t g = option_and_then_some (read old) (entry_at old index) t g (λ e at is. ap (option_and_then (read new)) (entry_stays old new h index e at) ∙ each e t is)

pub text_stays : (old new : List PoolEntry) → Extends old new → (index : ℕ) (text : List ℕ) → text_at old index ≡ Some text → text_at new index ≡ Some text
text_stays old new h index text g = stays_by (λ _. as_text) old new h (λ e t is. is) index text g

as_class_stays : (old new : List PoolEntry) → Extends old new → (e : PoolEntry) (name : List ℕ) → as_class old e ≡ Some name → as_class new e ≡ Some name
as_class_stays old new h (entry.Class n) name g = text_stays old new h n name g
as_class_stays old new h e name g = cc

pub class_stays : (old new : List PoolEntry) → Extends old new → (index : ℕ) (name : List ℕ) → class_at old index ≡ Some name → class_at new index ≡ Some name
class_stays old new h index name g = stays_by as_class old new h (as_class_stays old new h) index name g

as_string_stays : (old new : List PoolEntry) → Extends old new → (e : PoolEntry) (text : List ℕ) → as_string old e ≡ Some text → as_string new e ≡ Some text
as_string_stays old new h (entry.String n) text g = text_stays old new h n text g
as_string_stays old new h e text g = cc

pub string_stays : (old new : List PoolEntry) → Extends old new → (index : ℕ) (text : List ℕ) → string_at old index ≡ Some text → string_at new index ≡ Some text
string_stays old new h index text g = stays_by as_string old new h (as_string_stays old new h) index text g

-- two parts, put together
two_found : {A B C : Type 0} (f : A → B → C) (oa : Option A) (ob : Option B) (a : A) (b : B) → oa ≡ Some a → ob ≡ Some b → option_and_then (λ a. option_and_then (λ b. Some (f a b)) ob) oa ≡ Some (f a b)
two_found f oa ob a b ea eb = ap (option_and_then (λ a. option_and_then (λ b. Some (f a b)) ob)) ea ∙ ap (option_and_then (λ b. Some (f a b))) eb

two_stay : {A B C : Type 0} (f : A → B → C) (oa na : Option A) (ob nb : Option B) → ((a : A) → oa ≡ Some a → na ≡ Some a) → ((b : B) → ob ≡ Some b → nb ≡ Some b)
    → (c : C) → option_and_then (λ a. option_and_then (λ b. Some (f a b)) ob) oa ≡ Some c → option_and_then (λ a. option_and_then (λ b. Some (f a b)) nb) na ≡ Some c
two_stay f None na ob nb ha hb c h = cc
two_stay f (Some a) na None nb ha hb c h = cc
two_stay f (Some a) na (Some b) nb ha hb c h = two_found f na nb a b (ha a refl) (hb b refl) ∙ h

as_named_type_stays : (old new : List PoolEntry) → Extends old new → (e : PoolEntry) (member : NamedType) → as_named_type old e ≡ Some member → as_named_type new e ≡ Some member
as_named_type_stays old new h (entry.NameAndType n d) member g =
    two_stay (λ n d. record { name = n; descriptor = d }) (text_at old n) (text_at new n) (text_at old d) (text_at new d) (text_stays old new h n) (text_stays old new h d) member g
as_named_type_stays old new h e member g = cc

pub named_type_stays : (old new : List PoolEntry) → Extends old new → (index : ℕ) (member : NamedType) → named_type_at old index ≡ Some member → named_type_at new index ≡ Some member
named_type_stays old new h index member g = stays_by as_named_type old new h (as_named_type_stays old new h) index member g

pub referred_stays : (old new : List PoolEntry) → Extends old new → (class member : ℕ) (r : Reference) → referred old class member ≡ Some r → referred new class member ≡ Some r
referred_stays old new h class member r g =
    two_stay (λ c m. record { class = c; member = m }) (class_at old class) (class_at new class) (named_type_at old member) (named_type_at new member) (class_stays old new h class) (named_type_stays old new h member) r g

as_field_stays : (old new : List PoolEntry) → Extends old new → (e : PoolEntry) (r : Reference) → as_field old e ≡ Some r → as_field new e ≡ Some r
as_field_stays old new h (entry.Fieldref c m) r g = referred_stays old new h c m r g
as_field_stays old new h e r g = cc

pub field_stays : (old new : List PoolEntry) → Extends old new → (index : ℕ) (r : Reference) → field_at old index ≡ Some r → field_at new index ≡ Some r
field_stays old new h index r g = stays_by as_field old new h (as_field_stays old new h) index r g

as_method_stays : (old new : List PoolEntry) → Extends old new → (e : PoolEntry) (r : Reference) → as_method old e ≡ Some r → as_method new e ≡ Some r
as_method_stays old new h (entry.Methodref c m) r g = referred_stays old new h c m r g
as_method_stays old new h e r g = cc

pub method_stays : (old new : List PoolEntry) → Extends old new → (index : ℕ) (r : Reference) → method_at old index ≡ Some r → method_at new index ≡ Some r
method_stays old new h index r g = stays_by as_method old new h (as_method_stays old new h) index r g

-- ---- what is answered

slice_get-end : (pool : List PoolEntry) (e : PoolEntry) (rest : List PoolEntry) → slice_get (pool ++ e ∷ rest) (length pool) ≡ Some e
slice_get-end [] e rest = refl
slice_get-end (p ∷ pool) e rest = slice_get-end pool e rest

appended : (pool : List PoolEntry) (e : PoolEntry) → entry_at (pool ++ slots e) (suc (length pool)) ≡ Some e
appended pool e =
    elim (is_wide e) as (λ b. entry_at (pool ++ (if b then e ∷ entry.Second ∷ [] else e ∷ [])) (suc (length pool)) ≡ Some e) [
      | true ↦ slice_get-end pool e (entry.Second ∷ [])
      | false ↦ slice_get-end pool e []
    ]

placed_entry : (pool : List PoolEntry) (e : PoolEntry) (found : Option ℕ) → ((i : ℕ) → found ≡ Some i → entry_at pool i ≡ Some e) → entry_at (placed_at pool e found).0 (placed_at pool e found).1 ≡ Some e
placed_entry pool e (Some i) h = h i refl
placed_entry pool e None h = subst (λ (n : ℕ). entry_at (pool ++ slots e) n ≡ Some e) (sym (add-one (length pool))) (appended pool e)

pub entry_found : (pool : List PoolEntry) (e : PoolEntry) → entry_at (with_entry pool e).0 (with_entry pool e).1 ≡ Some e
unfolding with_entry
entry_found pool e = placed_entry pool e (least_index pool e) (least_index-entry pool e)

pub text_found : (pool : List PoolEntry) (text : List ℕ) → text_at (with_text pool text).0 (with_text pool text).1 ≡ Some text
text_found pool text = ap (option_and_then as_text) (entry_found pool (entry.Utf8 text))

pub class_found : (pool : List PoolEntry) (name : List ℕ) → class_at (with_class pool name).0 (with_class pool name).1 ≡ Some name
unfolding with_class
class_found pool name =
    let t = with_text pool name in
    let w = with_entry t.0 (entry.Class t.1) in
    ap (option_and_then (as_class w.0)) (entry_found t.0 (entry.Class t.1)) ∙ text_stays t.0 w.0 (entry_extends t.0 (entry.Class t.1)) t.1 name (text_found pool name)

-- the text of the units in modified UTF-8
pub string_found : (pool : List PoolEntry) (units : List ℕ) → string_at (with_string pool units).0 (with_string pool units).1 ≡ Some (text_spelling units)
unfolding with_string
string_found pool units =
    let t = with_text pool (text_spelling units) in
    let w = with_entry t.0 (entry.String t.1) in
    ap (option_and_then (as_string w.0)) (entry_found t.0 (entry.String t.1)) ∙ text_stays t.0 w.0 (entry_extends t.0 (entry.String t.1)) t.1 (text_spelling units) (text_found pool (text_spelling units))

pub string_text_found : (pool : List PoolEntry) (text : List ℕ) → string_at (with_string_text pool text).0 (with_string_text pool text).1 ≡ Some text
unfolding with_string_text
string_text_found pool text =
    let t = with_text pool text in
    let w = with_entry t.0 (entry.String t.1) in
    ap (option_and_then (as_string w.0)) (entry_found t.0 (entry.String t.1)) ∙ text_stays t.0 w.0 (entry_extends t.0 (entry.String t.1)) t.1 text (text_found pool text)

pub named_type_found : (pool : List PoolEntry) (name descriptor : List ℕ) → named_type_at (with_named_type pool name descriptor).0 (with_named_type pool name descriptor).1 ≡ Some (record { name = name; descriptor = descriptor })
unfolding with_named_type
named_type_found pool name descriptor =
    let n = with_text pool name in
    let d = with_text n.0 descriptor in
    let e = entry.NameAndType n.1 d.1 in
    let w = with_entry d.0 e in
    ap (option_and_then (as_named_type w.0)) (entry_found d.0 e)
    ∙ two_found (λ n d. record { name = n; descriptor = d }) (text_at w.0 n.1) (text_at w.0 d.1) name descriptor
    (text_stays d.0 w.0 (entry_extends d.0 e) n.1 name (text_stays n.0 d.0 (text_extends n.0 descriptor) n.1 name (text_found pool name)))
    (text_stays d.0 w.0 (entry_extends d.0 e) d.1 descriptor (text_found n.0 descriptor))

abbrev pub reference : List ℕ → List ℕ → List ℕ → Reference
reference c n d = record { class = c; member = record { name = n; descriptor = d } }

-- an entry of the kind that names the member
pub record NamesMember (pool : List PoolEntry) (index : ℕ) (k : MemberKind) (r : Reference) : Type 0 where
  pub class : ℕ
  pub member : ℕ
  pub at : entry_at pool index ≡ Some (member_entry k class member)
  pub names : referred pool class member ≡ Some r

pub member_found : (pool : List PoolEntry) (k : MemberKind) (class name descriptor : List ℕ) → NamesMember (with_member pool k class name descriptor).0 (with_member pool k class name descriptor).1 k (reference class name descriptor)
unfolding with_member
member_found pool k class name descriptor =
    let c = with_class pool class in
    let m = with_named_type c.0 name descriptor in
    let e = member_entry k c.1 m.1 in
    let w = with_entry m.0 e in
    record {
      class = c.1;
      member = m.1;
      at = entry_found m.0 e;
      names = two_found (λ c m. record { class = c; member = m }) (class_at w.0 c.1) (named_type_at w.0 m.1) class (record { name = name; descriptor = descriptor })
          (class_stays m.0 w.0 (entry_extends m.0 e) c.1 class (class_stays c.0 m.0 (named_type_extends c.0 name descriptor) c.1 class (class_found pool class)))
          (named_type_stays m.0 w.0 (entry_extends m.0 e) m.1 (record { name = name; descriptor = descriptor }) (named_type_found c.0 name descriptor));
    }

pub field_named : (pool : List PoolEntry) (index : ℕ) (r : Reference) → NamesMember pool index kind.Field r → field_at pool index ≡ Some r
field_named pool index r n = ap (option_and_then (as_field pool)) n.at ∙ n.names

pub method_named : (pool : List PoolEntry) (index : ℕ) (r : Reference) → NamesMember pool index kind.Method r → method_at pool index ≡ Some r
method_named pool index r n = ap (option_and_then (as_method pool)) n.at ∙ n.names

pub field_found : (pool : List PoolEntry) (f : FieldName) → field_at (with_field pool f).0 (with_field pool f).1 ≡ Some (reference f.class f.name f.descriptor)
field_found pool f =
    let w = with_field pool f in
    field_named w.0 w.1 (reference f.class f.name f.descriptor) (member_found pool kind.Field f.class f.name f.descriptor)

pub method_found : (pool : List PoolEntry) (m : MethodName) → m.interface ≡ false → method_at (with_method pool m).0 (with_method pool m).1 ≡ Some (reference m.class m.name m.descriptor)
method_found pool m class =
    let w = with_method pool m in
    let r = reference m.class m.name m.descriptor in
    method_named w.0 w.1 r (subst (λ (k : MemberKind). NamesMember w.0 w.1 k r) (ap method_kind class) (member_found pool (method_kind m.interface) m.class m.name m.descriptor))

pub interface_method_found : (pool : List PoolEntry) (m : MethodName) → m.interface ≡ true → NamesMember (with_method pool m).0 (with_method pool m).1 kind.InterfaceMethod (reference m.class m.name m.descriptor)
interface_method_found pool m interface =
    let w = with_method pool m in
    subst (λ (k : MemberKind). NamesMember w.0 w.1 k (reference m.class m.name m.descriptor)) (ap method_kind interface) (member_found pool (method_kind m.interface) m.class m.name m.descriptor)
