-- The reader of a constant pool reads the spellings of sound pools.
use Rattle.std.proofs.Common.{◌≡◌, ℕ, zero, suc, ◌+◌, ◌<◌, Bool, true, false, ◌&&◌, not, eqb, List, [], ◌∷◌, ◌++◌, length, Ok, refl, sym, ap, subst, ◌∙◌, append_assoc, arith, inl, inr}
use Rattle.std.specs.List.{flat_map, list_all}
use Rattle.std.specs.Int.{w16}
use Rattle.std.proofs.lemmas.Bool.{cases_lt, eqb-false, ne_eqb, and_parts, and_from}
use Rattle.class_file.specs.declared.pool.PoolEntry.{PoolEntry}
use Rattle.class_file.specs.declared.pool.PoolEntry.TheVariants as entry
use Rattle.class_file.specs.Spelling.{u2, spelled_entry, spelled_pool}
use Rattle.class_file.specs.Range.{is_u2, entry_fits, pool_fits}
use Rattle.class_file.specs.Sound.{is_wide, is_second, seconds_follow, entry_is_sound, entries_agree, pool_is_sound}
use Rattle.class_rules.specs.FirstUnsound.{first_unsound, first_unsound-none}
use Rattle.class_format.specs.declared.fault.ClassFault.TheVariants.{PoolRef}
use Rattle.class_format.specs.declared.scope.Scope.{Scope}
use Rattle.class_format.specs.Readers.{number, unless}
use Rattle.class_format.specs.PoolReading.{after, entry_of, entries, counted_entries, pool}
use Rattle.class_format.specs.LawsCodec.{IsBytes, bind_ok, Takes, Takes-then, IsCodec, u2_codec}
use Rattle.class_format.specs.LawsEntries.{has_text, is_spelled, is_placed, stands, missed, entry_codec}
use Rattle.class_format.specs.LawsParts.{no_fault}
use Rattle.class_format.specs.LawsLists.{all_in_turn, turns_take, turns_again}

-- ---- where the entries stand

-- the entries have spellings, and each Long and Double is followed by its second index
abbrev are_placed : Bool → List PoolEntry → Bool
are_placed wide es = list_all entry_fits es && (seconds_follow wide es && list_all has_text es)

-- a Long or Double before the entries leaves an index below the count
abbrev Leaves : ℕ → ℕ → Bool → Type 0
Leaves count index wide = wide ≡ true → index < count

placed_leaves : (count index more : ℕ) (e : PoolEntry) → index + suc more ≡ count → is_placed count index e ≡ true → Leaves count (index + 1) (is_wide e)
placed_leaves count index more e size h wide =
    let k : eqb (index + 1) count ≡ false = subst (λ (w : Bool). (w && eqb (index + 1) count) ≡ false) wide (missed (is_wide e) (eqb (index + 1) count) h) in
    let apart = eqb-false (index + 1) count k in
    elim (cases_lt (index + 1) count) [
      | inl lt ↦ lt
      | inr le ↦ absurd (apart (omega arith))
    ]

second_narrow : (e : PoolEntry) → is_second e ≡ true → (is_wide e ≡ false) × ((entry_fits e ≡ true) × (has_text e ≡ true))
second_narrow entry.Second h = (refl, (refl, refl))
second_narrow _ h = absurd cc

placed_from : (count index : ℕ) (wide : Bool) (es : List PoolEntry) → index + length es ≡ count → Leaves count index wide → all_in_turn (stands count) after (index, wide) es ≡ true → are_placed wide es ≡ true
unfolding all_in_turn
placed_from count index true [] size leaves h = absurd (let lt = leaves refl in omega arith)
placed_from count index false [] size leaves h = refl
placed_from count index true (e ∷ es) size leaves h =
    let p = and_parts (is_second e) (all_in_turn (stands count) after (index + 1, is_wide e) es) h in
    let n = second_narrow e p.0 in
    let next = placed_from count (index + 1) (is_wide e) es (omega (arith, size)) (λ w. absurd (let k = n.0 in cc)) p.1 in
    let a = and_parts (list_all entry_fits es) (seconds_follow (is_wide e) es && list_all has_text es) next in
    let b = and_parts (seconds_follow (is_wide e) es) (list_all has_text es) a.1 in
    and_from _ _ (and_from (entry_fits e) (list_all entry_fits es) n.1.0 a.0)
    (and_from _ _ (and_from (is_second e) (seconds_follow (is_wide e) es) p.0 b.0) (and_from (has_text e) (list_all has_text es) n.1.1 b.1))
placed_from count index false (e ∷ es) size leaves h =
    let p = and_parts (is_spelled e && is_placed count index e) (all_in_turn (stands count) after (index + 1, is_wide e) es) h in
    let q = and_parts (is_spelled e) (is_placed count index e) p.0 in
    let r = and_parts (entry_fits e) (not (is_second e) && has_text e) q.0 in
    let t = and_parts (not (is_second e)) (has_text e) r.1 in
    let next = placed_from count (index + 1) (is_wide e) es (omega (arith, size)) (placed_leaves count index (length es) e size q.1) p.1 in
    let a = and_parts (list_all entry_fits es) (seconds_follow (is_wide e) es && list_all has_text es) next in
    let b = and_parts (seconds_follow (is_wide e) es) (list_all has_text es) a.1 in
    and_from _ _ (and_from (entry_fits e) (list_all entry_fits es) r.0 a.0)
    (and_from _ _ (and_from (not (is_second e)) (seconds_follow (is_wide e) es) t.0 b.0) (and_from (has_text e) (list_all has_text es) t.1 b.1))

-- behind a Long or Double there is an entry
some_follow : (es : List PoolEntry) → seconds_follow true es ≡ true → 0 < length es
some_follow [] h = absurd cc
some_follow (e ∷ es) h = omega arith

followed_placed : (count index : ℕ) (e : PoolEntry) (es : List PoolEntry) → index + length (e ∷ es) ≡ count → seconds_follow (is_wide e) es ≡ true → is_placed count index e ≡ true
followed_placed count index e es size h = go (is_wide e) refl
  where
    go : (w : Bool) → is_wide e ≡ w → is_placed count index e ≡ true
    go false w-is = rw w-is refl
    go true w-is =
        let some = some_follow es (subst (λ (w : Bool). seconds_follow w es ≡ true) w-is h) in
        rw (w-is, ne_eqb (index + 1) count (λ same. omega (arith, same, size, some))) refl

placed_back : (count index : ℕ) (wide : Bool) (es : List PoolEntry) → index + length es ≡ count → are_placed wide es ≡ true → all_in_turn (stands count) after (index, wide) es ≡ true
unfolding all_in_turn
placed_back count index wide [] size h = refl
placed_back count index true (e ∷ es) size h =
    let a = and_parts (list_all entry_fits (e ∷ es)) (seconds_follow true (e ∷ es) && list_all has_text (e ∷ es)) h in
    let b = and_parts (seconds_follow true (e ∷ es)) (list_all has_text (e ∷ es)) a.1 in
    let c = and_parts (entry_fits e) (list_all entry_fits es) a.0 in
    let d = and_parts (is_second e) (seconds_follow (is_wide e) es) b.0 in
    let f = and_parts (has_text e) (list_all has_text es) b.1 in
    and_from (is_second e) _ d.0 (placed_back count (index + 1) (is_wide e) es (omega (arith, size)) (and_from _ _ c.1 (and_from _ _ d.1 f.1)))
placed_back count index false (e ∷ es) size h =
    let a = and_parts (list_all entry_fits (e ∷ es)) (seconds_follow false (e ∷ es) && list_all has_text (e ∷ es)) h in
    let b = and_parts (seconds_follow false (e ∷ es)) (list_all has_text (e ∷ es)) a.1 in
    let c = and_parts (entry_fits e) (list_all entry_fits es) a.0 in
    let d = and_parts (not (is_second e)) (seconds_follow (is_wide e) es) b.0 in
    let f = and_parts (has_text e) (list_all has_text es) b.1 in
    and_from (is_spelled e && is_placed count index e) _
    (and_from (is_spelled e) (is_placed count index e) (and_from _ _ c.0 (and_from _ _ d.0 f.0)) (followed_placed count index e es size d.1))
    (placed_back count (index + 1) (is_wide e) es (omega (arith, size)) (and_from _ _ c.1 (and_from _ _ d.1 f.1)))

-- ---- the pool

entries_take : (n : ℕ) (scope : Scope) (bytes : List ℕ) (x : List PoolEntry × List ℕ) → IsBytes bytes → entries n scope bytes ≡ Ok x → Takes bytes (flat_map spelled_entry x.0) x.1 × ((length x.0 + 1 ≡ n) × (are_placed false x.0 ≡ true))
unfolding entries
entries_take zero scope bytes x fits e = absurd cc
entries_take (suc n) scope bytes x fits e =
    let t = turns_take (entry_of (suc n)) after spelled_entry (stands (suc n)) (entry_codec (suc n)) n (1, false) scope bytes x fits e in
    (t.0, (omega (arith, t.1.0), placed_from (suc n) 1 false x.0 (omega (arith, t.1.0)) (λ w. absurd cc) t.1.1))

entries_again : (scope : Scope) (es : List PoolEntry) (rest : List ℕ) → are_placed false es ≡ true → entries (length es + 1) scope (flat_map spelled_entry es ++ rest) ≡ Ok (es, rest)
unfolding entries
entries_again scope es rest h =
    let one : length es + 1 ≡ suc (length es) = omega arith in
    rw one (turns_again (entry_of (suc (length es))) after spelled_entry (stands (suc (length es))) (entry_codec (suc (length es))) (1, false) scope es rest (placed_back (suc (length es)) 1 false es (omega arith) h))

sound_text : (all : List PoolEntry) (e : PoolEntry) → entry_is_sound all e ≡ true → has_text e ≡ true
sound_text all (entry.Utf8 text) h = h
sound_text all _ h = refl

sound_texts : (all es : List PoolEntry) → list_all (entry_is_sound all) es ≡ true → list_all has_text es ≡ true
sound_texts all [] h = refl
sound_texts all (e ∷ es) h =
    let p = and_parts (entry_is_sound all e) (list_all (entry_is_sound all) es) h in
    and_from (has_text e) (list_all has_text es) (sound_text all e p.0) (sound_texts all es p.1)

pool_takes : (scope : Scope) (bytes : List ℕ) (x : List PoolEntry × List ℕ) → IsBytes bytes → pool scope bytes ≡ Ok x → Takes bytes (spelled_pool x.0) x.1 × (pool_is_sound x.0 ≡ true)
unfolding pool
pool_takes scope bytes x fits e =
    let b = bind_ok (counted_entries scope bytes) (λ p. unless (first_unsound p.0) PoolRef p) x e in
    let a = bind_ok (number w16 scope bytes) (λ n. entries n.0 scope n.1) b.0 b.1 in
    let g = no_fault (first_unsound b.0.0) PoolRef b.0 x b.2 in
    let t = u2_codec.takes scope bytes a.0 fits a.1 in
    let u = entries_take a.0.0 scope a.0.1 b.0 t.0.rest_fits a.2 in
    let p = and_parts (list_all entry_fits b.0.0) (seconds_follow false b.0.0 && list_all has_text b.0.0) u.1.1 in
    let q = and_parts (seconds_follow false b.0.0) (list_all has_text b.0.0) p.1 in
    let whole = Takes-then bytes (u2 a.0.0) a.0.1 (flat_map spelled_entry b.0.0) b.0.1 t.0 u.0 in
    let spelled : Takes bytes (spelled_pool b.0.0) b.0.1 = subst (λ (n : ℕ). Takes bytes (u2 n ++ flat_map spelled_entry b.0.0) b.0.1) (sym u.1.0) whole in
    let sized : is_u2 (length b.0.0 + 1) ≡ true = subst (λ (n : ℕ). is_u2 n ≡ true) (sym u.1.0) t.1 in
    let sound : pool_is_sound b.0.0 ≡ true =
    and_from (pool_fits b.0.0) (entries_agree b.0.0) (and_from (is_u2 (length b.0.0 + 1)) (list_all entry_fits b.0.0) sized p.0)
    (and_from (seconds_follow false b.0.0) (list_all (entry_is_sound b.0.0) b.0.0) q.0 ((first_unsound-none b.0.0).0 g.0)) in
    subst (λ (y : List PoolEntry × List ℕ). Takes bytes (spelled_pool y.0) y.1 × (pool_is_sound y.0 ≡ true)) g.1 (spelled, sound)

pool_again : (scope : Scope) (es : List PoolEntry) (rest : List ℕ) → pool_is_sound es ≡ true → pool scope (spelled_pool es ++ rest) ≡ Ok (es, rest)
unfolding pool
pool_again scope es rest fits =
    let p = and_parts (pool_fits es) (entries_agree es) fits in
    let q = and_parts (is_u2 (length es + 1)) (list_all entry_fits es) p.0 in
    let r = and_parts (seconds_follow false es) (list_all (entry_is_sound es) es) p.1 in
    let placed : are_placed false es ≡ true = and_from _ _ q.1 (and_from _ _ r.0 (sound_texts es es r.1)) in
    ap (pool scope) (append_assoc (u2 (length es + 1)) (flat_map spelled_entry es) rest)
    ∙ rw (u2_codec.again scope (length es + 1) (flat_map spelled_entry es ++ rest) q.0, entries_again scope es rest placed, (first_unsound-none es).1 r.1) refl

pub pool_codec : IsCodec pool spelled_pool pool_is_sound
pool_codec = record { takes = pool_takes; again = pool_again }
