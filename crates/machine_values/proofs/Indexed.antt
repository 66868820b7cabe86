-- The tables of a heap, as objects come.
use Rattle.std.specs.Prelude.{◌≡◌, ℕ, suc, min, take, ◌+◌, ◌-◌, ◌<◌, ◌≤◌, ◌^◌, Bool, true, false, cond, List, [], ◌∷◌, ◌++◌, length, Option, Some, None, refl}
use Rattle.std.specs.Option.{unwrap_or}
use Rattle.std.proofs.Common.{sym, ◌∙◌, ap, subst, inl, inr, arith, length-append}
use Rattle.std.proofs.lemmas.Bool.{false≢true}
use Rattle.std.proofs.lemmas.List.{length-take}
use Rattle.indexmap.specs.IndexMap.{IndexMap, get}
use Rattle.machine_values.specs.declared.names.Maker.{Maker}
use Rattle.machine_values.specs.declared.names.Name.{Name}
use Rattle.machine_values.specs.declared.names.Name.TheVariants.{Made, Literal, ClassObject}
use Rattle.machine_values.specs.declared.content.Content.{Content}
use Rattle.machine_values.specs.Things.{same_maker, is_made_of, made, is_constant, same_name, place_of}
use Rattle.machine_values.specs.Tables.{IsHeap, AreCounted, ArePlaced, IsCounted}
use Rattle.machine_values.specs.NameLaws.{maker_itself, name_itself, maker_cases, name_cases, made-hit, made-miss, or_at, or_at-false, place_of-push, place_of-within}

pub empty_heap : {S T : Type 0} (counts : IndexMap Maker ℕ S) (places : IndexMap Name ℕ T) → counts.entries ≡ [] → places.entries ≡ [] → IsHeap [] [] counts places
empty_heap counts places e f = record { fits = omega arith; whole = refl; counted = λ q. rw e refl; placed = λ q h. rw f refl }

length_push : {X : Type 0} (xs : List X) (x : X) → length (xs ++ x ∷ []) ≡ suc (length xs)
length_push xs x = omega (arith, length-append xs (x ∷ []))

constant_apart : (name : Name) (maker : Maker) (k : ℕ) → is_constant name ≡ true → same_name name (Made maker k) ≡ false
constant_apart (Made other j) maker k h = absurd (false≢true h)
constant_apart (Literal units) maker k h = refl
constant_apart (ClassObject type) maker k h = refl

constant_unmade : (name : Name) (maker : Maker) → is_constant name ≡ true → is_made_of maker name ≡ false
constant_unmade (Made other j) maker h = absurd (false≢true h)
constant_unmade (Literal units) maker h = refl
constant_unmade (ClassObject type) maker h = refl

pub pushed_made : {S T : Type 0} (names : List Name) (contents : List Content) (counts new : IndexMap Maker ℕ S) (places : IndexMap Name ℕ T) (maker : Maker) (content : Content) (count : ℕ)
    → IsHeap names contents counts places → length names < 2 ^ 32 → count ≡ suc (made names maker)
    → ((q : Maker) → get same_maker new q ≡ cond (same_maker maker q) (Some count) (get same_maker counts q)) → IsHeap (names ++ Made maker count ∷ []) (contents ++ content ∷ []) new places
pushed_made names contents counts new places maker content count h room is_count updates = record {
  fits = let a = length_push names (Made maker count) in omega arith;
  whole = let a = length_push names (Made maker count) in let b = length_push contents content in let c = h.whole in omega arith;
  counted = λ q. elim (maker_cases maker q) [
    | inl e ↦ let P : Maker → Type 0 = λ q. unwrap_or (get same_maker new q) 0 ≡ made (names ++ Made maker count ∷ []) q in
        subst P e (ap (λ o. unwrap_or o 0) (updates maker ∙ ap (λ b. cond b (Some count) (get same_maker counts maker)) (maker_itself maker))
        ∙ is_count ∙ sym (made-hit names (Made maker count) maker (maker_itself maker)))
    | inr apart ↦ ap (λ o. unwrap_or o 0) (updates q ∙ ap (λ b. cond b (Some count) (get same_maker counts q)) apart.0)
        ∙ h.counted q ∙ sym (made-miss names (Made maker count) q apart.1)
  ];
  placed = λ q constant. h.placed q constant ∙ sym (or_at-false (place_of names q) (length names))
      ∙ ap (λ b. or_at (place_of names q) b (length names)) (sym (constant_apart q maker count constant)) ∙ sym (place_of-push names (Made maker count) q);
}

pub pushed_constant : {S T : Type 0} (names : List Name) (contents : List Content) (counts : IndexMap Maker ℕ S) (places new : IndexMap Name ℕ T) (x : Name) (content : Content) (at : ℕ)
    → IsHeap names contents counts places → length names < 2 ^ 32 → is_constant x ≡ true → get same_name places x ≡ None → at ≡ length names
    → ((q : Name) → get same_name new q ≡ cond (same_name x q) (Some at) (get same_name places q)) → IsHeap (names ++ x ∷ []) (contents ++ content ∷ []) counts new
pushed_constant names contents counts places new x content at h room constant absent is_at updates = record {
  fits = let a = length_push names x in omega arith;
  whole = let a = length_push names x in let b = length_push contents content in let c = h.whole in omega arith;
  counted = λ q. h.counted q ∙ sym (made-miss names x q (constant_unmade x q constant));
  placed = λ q known. elim (name_cases x q) [
    | inl e ↦ let P : Name → Type 0 = λ q. get same_name new q ≡ place_of (names ++ x ∷ []) q in
        subst P e (updates x ∙ ap (λ b. cond b (Some at) (get same_name places x)) (name_itself x) ∙ ap Some is_at
        ∙ ap (λ o. or_at o true (length names)) (sym absent ∙ h.placed x constant)
        ∙ ap (λ b. or_at (place_of names x) b (length names)) (sym (name_itself x)) ∙ sym (place_of-push names x x))
    | inr apart ↦ updates q ∙ ap (λ b. cond b (Some at) (get same_name places q)) apart.0 ∙ h.placed q known
        ∙ sym (or_at-false (place_of names q) (length names)) ∙ ap (λ b. or_at (place_of names q) b (length names)) (sym apart.1) ∙ sym (place_of-push names x q)
  ];
}

-- ---- the last object goes

pub counted_down : {S : Type 0} (counts new : IndexMap Maker ℕ S) (maker : Maker) (k : ℕ) → ((q : Maker) → get same_maker new q ≡ cond (same_maker maker q) (Some (unwrap_or (get same_maker counts maker) 0 - 1)) (get same_maker counts q))
    → (names : List Name) → AreCounted (names ++ Made maker k ∷ []) counts → AreCounted names new
counted_down counts new maker k updates names h = record {
  counted = λ q. elim (maker_cases maker q) [
    | inl e ↦ let P : Maker → Type 0 = λ q. unwrap_or (get same_maker new q) 0 ≡ made names q in
        let one : unwrap_or (get same_maker counts maker) 0 ≡ suc (made names maker) = h.counted maker ∙ made-hit names (Made maker k) maker (maker_itself maker) in
        subst P e (ap (λ o. unwrap_or o 0) (updates maker ∙ ap (λ b. cond b (Some (unwrap_or (get same_maker counts maker) 0 - 1)) (get same_maker counts maker)) (maker_itself maker))
        ∙ (let less : unwrap_or (get same_maker counts maker) 0 - 1 ≡ made names maker = omega arith in less))
    | inr apart ↦ ap (λ o. unwrap_or o 0) (updates q ∙ ap (λ b. cond b (Some (unwrap_or (get same_maker counts maker) 0 - 1)) (get same_maker counts q)) apart.0)
        ∙ h.counted q ∙ made-miss names (Made maker k) q apart.1
  ];
}

pub counted_without : {S : Type 0} (counts : IndexMap Maker ℕ S) (x : Name) → is_constant x ≡ true → (names : List Name) → AreCounted (names ++ x ∷ []) counts → AreCounted names counts
counted_without counts x constant names h = record { counted = λ q. h.counted q ∙ made-miss names x q (constant_unmade x q constant) }

pub placed_without : {T : Type 0} (places : IndexMap Name ℕ T) (maker : Maker) (k : ℕ) (names : List Name) → ArePlaced (names ++ Made maker k ∷ []) places → ArePlaced names places
placed_without places maker k names h = record {
  placed = λ q constant. h.placed q constant ∙ place_of-push names (Made maker k) q ∙ ap (λ b. or_at (place_of names q) b (length names)) (constant_apart q maker k constant)
      ∙ or_at-false (place_of names q) (length names);
}

pub unplaced : {T : Type 0} (places new : IndexMap Name ℕ T) (x : Name) (place : ℕ) → is_constant x ≡ true
    → (get same_name places x ≡ Some place → (q : Name) → get same_name new q ≡ cond (same_name x q) None (get same_name places q))
    → ((get same_name places x ≡ Some place → ⊥) → (q : Name) → get same_name new q ≡ get same_name places q)
    → (names : List Name) → length names ≡ place → ArePlaced (names ++ x ∷ []) places → ArePlaced names new
unplaced places new x place constant gone kept names last h = by (place_of names x) refl where
  own : get same_name places x ≡ or_at (place_of names x) true (length names)
  own = h.placed x constant ∙ place_of-push names x x ∙ ap (λ b. or_at (place_of names x) b (length names)) (name_itself x)

  other : (q : Name) → is_constant q ≡ true → same_name q x ≡ false → get same_name places q ≡ place_of names q
  other q known apart = h.placed q known ∙ place_of-push names x q ∙ ap (λ b. or_at (place_of names q) b (length names)) apart ∙ or_at-false (place_of names q) (length names)

  some_equal : (a b : ℕ) → Some a ≡ Some b → a ≡ b
  some_equal a b e = cc

  by : (o : Option ℕ) → place_of names x ≡ o → ArePlaced names new
  by None none =
      let at : get same_name places x ≡ Some place = own ∙ ap (λ o. or_at o true (length names)) none ∙ ap Some last in
      record {
        placed = λ q known. elim (name_cases x q) [
          | inl e ↦ let P : Name → Type 0 = λ q. get same_name new q ≡ place_of names q in
              subst P e (gone at x ∙ ap (λ b. cond b None (get same_name places x)) (name_itself x) ∙ sym none)
          | inr apart ↦ gone at q ∙ ap (λ b. cond b None (get same_name places q)) apart.0 ∙ other q known apart.1
        ];
      }
  by (Some i) there =
      let within = place_of-within names x i there in
      let at : get same_name places x ≡ Some i = own ∙ ap (λ o. or_at o true (length names)) there in
      let elsewhere : get same_name places x ≡ Some place → ⊥ = λ e. (let same = some_equal i place (sym at ∙ e) in omega arith) in
      record {
        placed = λ q known. elim (name_cases x q) [
          | inl e ↦ let P : Name → Type 0 = λ q. get same_name new q ≡ place_of names q in
              subst P e (kept elsewhere x ∙ at ∙ sym there)
          | inr apart ↦ kept elsewhere q ∙ other q known apart.1
        ];
      }

pub last_counted : {S T : Type 0} (names all : List Name) (contents : List Content) (counts : IndexMap Maker ℕ S) (places : IndexMap Name ℕ T) (x : Name) → all ≡ names ++ x ∷ [] → IsHeap all contents counts places → IsCounted x counts
last_counted names all contents counts places (Made maker k) is h =
    let one = h.counted maker ∙ ap (λ l. made l maker) is ∙ made-hit names (Made maker k) maker (maker_itself maker) in omega arith
last_counted names all contents counts places (Literal units) is h = tt
last_counted names all contents counts places (ClassObject type) is h = tt

pub forgotten : {S T : Type 0} (names all : List Name) (contents left : List Content) (counts counts' : IndexMap Maker ℕ S) (places places' : IndexMap Name ℕ T) (x : Name) → all ≡ names ++ x ∷ [] → IsHeap all contents counts places
    → left ≡ take (length contents - 1) contents
    → ((ns : List Name) → AreCounted (ns ++ x ∷ []) counts → AreCounted ns counts') → ((ns : List Name) → length ns ≡ length names → ArePlaced (ns ++ x ∷ []) places → ArePlaced ns places') → IsHeap names left counts' places'
forgotten names all contents left counts counts' places places' x is h gone counted placed =
    let size : length all ≡ suc (length names) = ap length is ∙ length_push names x in
    let fits = h.fits in
    let whole = h.whole in
    let fewer : length left ≡ min (length contents - 1) (length contents) = ap length gone ∙ length-take (length contents - 1) contents in
    record {
      fits = omega arith;
      whole = omega arith;
      counted = (counted names (record { counted = λ q. h.counted q ∙ ap (λ l. made l q) is })).counted;
      placed = (placed names refl (record { placed = λ q known. h.placed q known ∙ ap (λ l. place_of l q) is })).placed;
    }
