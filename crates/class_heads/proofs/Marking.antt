-- The marks of a pool's texts tell which names are reserved.
use Rattle.std.proofs.Common.{◌≡◌, ℕ, zero, suc, ◌+◌, ◌-◌, ◌<◌, length, take, drop, Bool, false, List, [], ◌∷◌, Option, Some, None, refl, ap, sym, ◌∙◌, arith}
use Rattle.std.specs.Prelude.{map, ◌||◌, slice_get, option_and_then, unwrap_or, codes, nat_eq}
use Rattle.std.specs.Option.{option_map}
use Rattle.std.specs.List.{list_any, starts_with}
use Rattle.std.proofs.lemmas.Option.{slice_get-map}
use Rattle.std.proofs.lemmas.List.{at_drop_more, length-drop}
use Rattle.std.proofs.Math.Seq.{take-length}
use Rattle.class_file.specs.declared.pool.PoolEntry.{PoolEntry}
use Rattle.class_file.specs.declared.pool.PoolEntry.TheVariants as entry
use Rattle.class_file.specs.declared.types.ClassFile.{ClassFile}
use Rattle.class_file.specs.declared.types.Member.{Member}
use Rattle.class_file.specs.Pool.{as_text}
use Rattle.class_file.specs.Sound.{is_some_that}
use Rattle.class_heads.specs.Reserved.{has_mark, is_marked, entry_is_marked, member_is_marked, is_reserved}
use Rattle.class_heads.specs.Marked as by
use Rattle.class_heads.specs.Marked.{entry_mark, mark_at}

-- ---- an index

in_entry : (entry : Option PoolEntry) → unwrap_or (option_map entry_mark entry) false ≡ is_some_that has_mark (option_and_then as_text entry)
in_entry None = refl
in_entry (Some entry) = refl

marked_there : (pool : List PoolEntry) (index : ℕ) → by.is_marked (map entry_mark pool) index ≡ is_marked pool index
marked_there pool zero = refl
marked_there pool (suc place) = ap (λ (mark : Option Bool). unwrap_or mark false) (slice_get-map entry_mark pool place) ∙ in_entry (slice_get pool place)

one_less : (marks : List Bool) (index place : ℕ) → (index ≡ 0 → ⊥) → place + 1 ≡ index → slice_get marks place ≡ mark_at marks index
one_less marks zero place some is = absurd (some refl)
one_less marks (suc n) place some is = let same : place ≡ n = omega arith in ap (slice_get marks) same

pub got_at : (marks : List Bool) (index number : ℕ) → (index ≡ 0 → ⊥) → number ≡ index → slice_get marks (number - 1) ≡ mark_at marks index
got_at marks index number some same = let positive : (number ≡ 0 → ⊥) = λ none. some (sym same ∙ none) in one_less marks index (number - 1) some (omega arith)

-- ---- the class

either : (a b c d : Bool) → a ≡ c → b ≡ d → (a || b) ≡ (c || d)
either a b c d first second = ap (λ (x : Bool). x || b) first ∙ ap (λ (y : Bool). c || y) second

entry_there : (pool : List PoolEntry) (e : PoolEntry) → by.entry_is_marked (map entry_mark pool) e ≡ entry_is_marked pool e
entry_there pool (entry.Class name) = marked_there pool name
entry_there pool (entry.NameAndType name descriptor) = either _ _ _ _ (marked_there pool name) (marked_there pool descriptor)
entry_there pool _ = refl

member_there : (pool : List PoolEntry) (m : Member) → by.member_is_marked (map entry_mark pool) m ≡ member_is_marked pool m
member_there pool m = either _ _ _ _ (marked_there pool m.name) (marked_there pool m.descriptor)

any_same : {X : Type 0} (f g : X → Bool) → ((x : X) → f x ≡ g x) → (xs : List X) → list_any f xs ≡ list_any g xs
any_same f g same [] = refl
any_same f g same (x ∷ xs) = either _ _ _ _ (same x) (any_same f g same xs)

pub reserved_by : (c : ClassFile) (marks : List Bool) → marks ≡ map entry_mark c.pool → by.is_reserved marks c ≡ is_reserved c
reserved_by c marks is =
    ap (λ (ms : List Bool). by.is_reserved ms c) is
    ∙ either _ _ _ _ (any_same _ _ (entry_there c.pool) c.pool)
    (either _ _ _ _ (any_same _ _ (member_there c.pool) c.fields) (any_same _ _ (member_there c.pool) c.methods))

-- ---- a text

-- where the mark doesn't stand at a place, the text from the next place on tells
pub skips : (text : List ℕ) (i : ℕ) → i < length text → starts_with nat_eq (take (length text - i) (drop i text)) (codes "ajc$") ≡ false → has_mark text ≡ has_mark (drop i text) → has_mark text ≡ has_mark (drop (i + 1) text)
skips text i within other so =
    let rest : take (length text - i) (drop i text) ≡ drop i text = ap (λ (n : ℕ). take n (drop i text)) (sym (length-drop i text)) ∙ take-length (drop i text) in
    let here : starts_with nat_eq (drop i text) (codes "ajc$") ≡ false = ap (λ (bytes : List ℕ). starts_with nat_eq bytes (codes "ajc$")) (sym rest) ∙ other in
    so ∙ at_drop_more has_mark text i 0 within
    ∙ ap (λ (x : Bool). x || has_mark (drop (i + 1) text))
    (sym (at_drop_more (λ (bytes : List ℕ). starts_with nat_eq bytes (codes "ajc$")) text i 0 within) ∙ here)
