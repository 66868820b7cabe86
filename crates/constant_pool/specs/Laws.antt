-- Laws of the definitions of edits, for those who call them.
use Rattle.std.specs.Prelude.{◌≡◌, ℕ, suc, ◌+◌, ◌≤◌, Bool, true, false, if◌then◌else◌, ◌⊎◌, List, [], ◌∷◌, ◌++◌, length, Option, Some, None, option_map, refl, nat_eq}
use Rattle.std.proofs.Common.{sym, ◌∙◌, ap, subst, inl, inr, arith, take, append_assoc, append-nil, length-append}
use Rattle.std.proofs.Math.Seq.{take-append_seam}
use Rattle.std.specs.Cmp.Lexicographic.{bytes_decides}
use Rattle.std.proofs.lemmas.Bool.{eqb-true, and_parts, cases_Bool, false≢true}
use Rattle.std.proofs.lemmas.Bool.Decides.{Decides-int_eq}
use Rattle.class_file.specs.declared.pool.PoolEntry.{PoolEntry}
use Rattle.class_file.specs.declared.pool.PoolEntry.TheVariants as entry
use Rattle.class_file.specs.contracts.pool.PoolEntryEq.TheImpl.Laws as laws
use Rattle.class_file.specs.Sound.{is_wide}
use Rattle.aj_names.specs.ModifiedUtf8.{text_spelling}
use Rattle.constant_pool.specs.Edit.{same_entry, least_index, slots, placed_at, with_entry, with_text, with_class, with_string, with_string_text, with_named_type, with_member, member_entry, Extends}
use Rattle.constant_pool.specs.declared.calls.MemberKind.{MemberKind}

-- ---- the test on entries

both_numbers : (f : ℕ → ℕ → PoolEntry) (a b c d : ℕ) → nat_eq a c ≡ true → nat_eq b d ≡ true → f a b ≡ f c d
both_numbers f a b c d p q = subst (λ n. f a b ≡ f n d) (eqb-true a c p) (ap (f a) (eqb-true b d q))

pub same_entry-equal : (a b : PoolEntry) → same_entry a b ≡ true → a ≡ b
same_entry-equal (entry.Utf8 a) (entry.Utf8 b) h = ap entry.Utf8 ((bytes_decides a b).0 h)
same_entry-equal (entry.Integer a) (entry.Integer b) h = ap entry.Integer ((Decides-int_eq a b).0 h)
same_entry-equal (entry.Float a) (entry.Float b) h = ap entry.Float (eqb-true a b h)
same_entry-equal (entry.Long a) (entry.Long b) h = ap entry.Long ((Decides-int_eq a b).0 h)
same_entry-equal (entry.Double a) (entry.Double b) h = ap entry.Double (eqb-true a b h)
same_entry-equal (entry.Class a) (entry.Class b) h = ap entry.Class (eqb-true a b h)
same_entry-equal (entry.String a) (entry.String b) h = ap entry.String (eqb-true a b h)
same_entry-equal (entry.Fieldref a b) (entry.Fieldref c d) h = let p = and_parts (nat_eq a c) (nat_eq b d) h in both_numbers entry.Fieldref a b c d p.0 p.1
same_entry-equal (entry.Methodref a b) (entry.Methodref c d) h = let p = and_parts (nat_eq a c) (nat_eq b d) h in both_numbers entry.Methodref a b c d p.0 p.1
same_entry-equal (entry.InterfaceMethodref a b) (entry.InterfaceMethodref c d) h = let p = and_parts (nat_eq a c) (nat_eq b d) h in both_numbers entry.InterfaceMethodref a b c d p.0 p.1
same_entry-equal (entry.NameAndType a b) (entry.NameAndType c d) h = let p = and_parts (nat_eq a c) (nat_eq b d) h in both_numbers entry.NameAndType a b c d p.0 p.1
same_entry-equal entry.Second entry.Second h = refl
same_entry-equal a b h = absurd (false≢true h)

pub same_entry-itself : (a : PoolEntry) → same_entry a a ≡ true
same_entry-itself a = laws.laws-law.refl a

-- equal, or told apart both ways
pub same_entry-cases : (a b : PoolEntry) → (a ≡ b) ⊎ ((same_entry a b ≡ false) × (same_entry b a ≡ false))
same_entry-cases a b =
    elim (cases_Bool (same_entry a b)) [
      | inl same ↦ inl (same_entry-equal a b same)
      | inr apart ↦ elim (cases_Bool (same_entry b a)) [
        | inl same ↦ inl (sym (same_entry-equal b a same))
        | inr other ↦ inr (apart, other)
      ]
    ]

-- ---- the least index

-- an index where there is one, or else this one where the test holds
abbrev pub or_at : Option ℕ → Bool → ℕ → Option ℕ
or_at (Some i) hit n = Some i
or_at None hit n = if hit then Some n else None

or_at-suc : (o : Option ℕ) (hit : Bool) (n : ℕ) → option_map suc (or_at o hit n) ≡ or_at (option_map suc o) hit (suc n)
or_at-suc (Some i) hit n = refl
or_at-suc None true n = refl
or_at-suc None false n = refl

pub or_at-false : (o : Option ℕ) (n : ℕ) → or_at o false n ≡ o
or_at-false (Some i) n = refl
or_at-false None n = refl

pub least_index-push : (pool : List PoolEntry) (x e : PoolEntry) → least_index (pool ++ x ∷ []) e ≡ or_at (least_index pool e) (same_entry e x) (suc (length pool))
least_index-push [] x e = refl
least_index-push (p ∷ pool) x e =
    elim (same_entry e p) as (λ b. (if b then Some 1 else option_map suc (least_index (pool ++ x ∷ []) e)) ≡ or_at (if b then Some 1 else option_map suc (least_index pool e)) (same_entry e x) (suc (suc (length pool)))) [
      | true ↦ refl
      | false ↦ ap (option_map suc) (least_index-push pool x e) ∙ or_at-suc (least_index pool e) (same_entry e x) (suc (length pool))
    ]

some_suc : (o : Option ℕ) (i : ℕ) → option_map suc o ≡ Some i → (j : ℕ) × (o ≡ Some j) × (i ≡ suc j)
some_suc (Some j) i h = (j, refl, grind arith)
some_suc None i h = cc

pub least_index-within : (pool : List PoolEntry) (e : PoolEntry) (i : ℕ) → least_index pool e ≡ Some i → i ≤ length pool
least_index-within [] e i h = cc
least_index-within (p ∷ pool) e i found =
    (elim (same_entry e p) as (λ b. (if b then Some 1 else option_map suc (least_index pool e)) ≡ Some i → i ≤ suc (length pool)) [
      | true ↦ λ h. let one : i ≡ 1 = grind arith in omega arith
      | false ↦ λ h. let s = some_suc (least_index pool e) i h in let w = least_index-within pool e s.0 s.1 in omega (arith, s.2, w)
    ]) found

-- ---- the pool with an entry

pub with_entry-found : (pool : List PoolEntry) (e : PoolEntry) (i : ℕ) → least_index pool e ≡ Some i → with_entry pool e ≡ (pool, i)
unfolding with_entry
with_entry-found pool e i found = ap (placed_at pool e) found

pub with_entry-narrow : (pool : List PoolEntry) (e : PoolEntry) → least_index pool e ≡ None → is_wide e ≡ false → with_entry pool e ≡ (pool ++ e ∷ [], length pool + 1)
unfolding with_entry
with_entry-narrow pool e absent narrow = ap (placed_at pool e) absent ∙ ap (λ (b : Bool). (pool ++ (if b then e ∷ entry.Second ∷ [] else e ∷ []), length pool + 1)) narrow

pub with_entry-wide : (pool : List PoolEntry) (e : PoolEntry) → least_index pool e ≡ None → is_wide e ≡ true → with_entry pool e ≡ (pool ++ e ∷ entry.Second ∷ [], length pool + 1)
unfolding with_entry
with_entry-wide pool e absent wide = ap (placed_at pool e) absent ∙ ap (λ (b : Bool). (pool ++ (if b then e ∷ entry.Second ∷ [] else e ∷ []), length pool + 1)) wide

-- ---- old entries stay

pub extends-itself : (pool : List PoolEntry) → Extends pool pool
extends-itself pool = record { added = []; is = simp append-nil }

pub extends-further : (a b c : List PoolEntry) → Extends a b → Extends b c → Extends a c
extends-further a b c h k = record { added = h.added ++ k.added; is = k.is ∙ ap (λ p. p ++ k.added) h.is ∙ append_assoc a h.added k.added }

pub extends-length : (a b : List PoolEntry) → Extends a b → length a ≤ length b
extends-length a b h = omega (arith, ap length h.is, length-append a h.added)

pub extends-take : (a b : List PoolEntry) → Extends a b → take (length a) b ≡ a
extends-take a b h = ap (take (length a)) h.is ∙ take-append_seam a h.added

placed_extends : (pool : List PoolEntry) (e : PoolEntry) (found : Option ℕ) → Extends pool (placed_at pool e found).0
placed_extends pool e (Some i) = extends-itself pool
placed_extends pool e None = record { added = slots e; is = refl }

pub entry_extends : (pool : List PoolEntry) (e : PoolEntry) → Extends pool (with_entry pool e).0
unfolding with_entry
entry_extends pool e = placed_extends pool e (least_index pool e)

pub text_extends : (pool : List PoolEntry) (text : List ℕ) → Extends pool (with_text pool text).0
text_extends pool text = entry_extends pool (entry.Utf8 text)

pub class_extends : (pool : List PoolEntry) (name : List ℕ) → Extends pool (with_class pool name).0
unfolding with_class
class_extends pool name = let t = with_text pool name in extends-further pool t.0 (with_entry t.0 (entry.Class t.1)).0 (text_extends pool name) (entry_extends t.0 (entry.Class t.1))

pub string_text_extends : (pool : List PoolEntry) (text : List ℕ) → Extends pool (with_string_text pool text).0
unfolding with_string_text
string_text_extends pool text = let t = with_text pool text in extends-further pool t.0 (with_entry t.0 (entry.String t.1)).0 (text_extends pool text) (entry_extends t.0 (entry.String t.1))

pub string_extends : (pool : List PoolEntry) (units : List ℕ) → Extends pool (with_string pool units).0
unfolding with_string
string_extends pool units = let t = with_text pool (text_spelling units) in extends-further pool t.0 (with_entry t.0 (entry.String t.1)).0 (text_extends pool (text_spelling units)) (entry_extends t.0 (entry.String t.1))

pub named_type_extends : (pool : List PoolEntry) (name descriptor : List ℕ) → Extends pool (with_named_type pool name descriptor).0
unfolding with_named_type
named_type_extends pool name descriptor =
    let n = with_text pool name in
    let d = with_text n.0 descriptor in
    extends-further pool d.0 (with_entry d.0 (entry.NameAndType n.1 d.1)).0
    (extends-further pool n.0 d.0 (text_extends pool name) (text_extends n.0 descriptor)) (entry_extends d.0 (entry.NameAndType n.1 d.1))

pub member_extends : (pool : List PoolEntry) (k : MemberKind) (class name descriptor : List ℕ) → Extends pool (with_member pool k class name descriptor).0
unfolding with_member
member_extends pool k class name descriptor =
    let c = with_class pool class in
    let m = with_named_type c.0 name descriptor in
    extends-further pool m.0 (with_entry m.0 (member_entry k c.1 m.1)).0
    (extends-further pool c.0 m.0 (class_extends pool class) (named_type_extends c.0 name descriptor)) (entry_extends m.0 (member_entry k c.1 m.1))
