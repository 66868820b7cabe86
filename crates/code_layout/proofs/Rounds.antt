-- The rounds of widening: what each changes, and that they end.
use Rattle.std.proofs.Common.{◌≡◌, ℕ, zero, suc, ◌+◌, ◌<◌, ◌≤◌, Bool, true, false, List, [], ◌∷◌, ◌++◌, length, map, replicate, get_or, take, Option, Some, arith, refl, sym, ap, subst, ◌∙◌, add-one, ◌⊎◌, inl, inr}
use Rattle.std.specs.Prelude.{◌||◌, ◌&&◌}
use Rattle.std.specs.List.{AllByRecursion}
use Rattle.std.proofs.lemmas.List.{take_all}
use lib.Pointwise.{pointwise}
use mathlib.Core.Bool.{beq}
use Rattle.opcode_table.specs.declared.insn.Insn.{Insn}
use Rattle.opcode_table.specs.declared.insn.Insn.TheVariants as insn
use Rattle.code_layout.specs.declared.row.Row.{Row}
use Rattle.code_layout.specs.Places.{is_short, passes, is_far_insn, is_far, first_wide, other_wide, widen_from, widen, after_rounds, place_of, AreWidened}
use Rattle.code_layout.specs.Spelled.{IsRow, AreRows, ArePlaces, place_in, IsShortInsn}
use Rattle.code_layout.proofs.Placing.{first_is, other_is}

-- ---- one row more

module _ (place : ℕ → ℕ) where
  wide_more : (n i : ℕ) (rows : List Row) (wide : List Bool) (row : Row) → i < length rows → row ≡ get_or rows i row → widen_from place n (take (suc i) rows) wide ≡ widen_from place n (take i rows) wide ++ (get_or wide i false || is_far place (n + i) row) ∷ []
  wide_more n i [] wide row lt is = absurd (omega arith)
  wide_more n zero (r ∷ rows) wide row lt is =
      let same : n + 0 ≡ n = omega arith in
      ap (λ (w : Bool). (w || is_far place n r) ∷ []) (first_is wide)
      ∙ ap (λ (q : Row). (get_or wide 0 false || is_far place n q) ∷ []) (sym is)
      ∙ ap (λ (k : ℕ). (get_or wide 0 false || is_far place k row) ∷ []) (sym same)
  wide_more n (suc i) (r ∷ rows) wide row lt is =
      let same : n + 1 + i ≡ n + suc i = omega arith in
      ap (λ (l : List Bool). (first_wide wide || is_far place n r) ∷ l)
      (wide_more (n + 1) i rows (other_wide wide) row (omega arith) is
      ∙ ap (λ (w : Bool). widen_from place (n + 1) (take i rows) (other_wide wide) ++ (w || is_far place (n + 1 + i) row) ∷ []) (other_is wide i)
      ∙ ap (λ (k : ℕ). widen_from place (n + 1) (take i rows) (other_wide wide) ++ (get_or wide (suc i) false || is_far place k row) ∷ []) same)

  pub widen_more : (i : ℕ) (rows : List Row) (wide next next' : List Bool) (row : Row) (w : Bool) → i < length rows → row ≡ get_or rows i row → next ≡ widen_from place 0 (take i rows) wide → w ≡ (get_or wide i false || is_far place i row) → next' ≡ next ++ w ∷ [] → next' ≡ widen_from place 0 (take (i + 1) rows) wide
  widen_more i rows wide next next' row w lt is so_far here more =
      more ∙ ap (λ (l : List Bool). l ++ w ∷ []) so_far ∙ ap (λ (b : Bool). widen_from place 0 (take i rows) wide ++ b ∷ []) here
      ∙ ap (λ (k : ℕ). widen_from place 0 (take i rows) wide ++ (get_or wide i false || is_far place k row) ∷ []) (let e : i ≡ 0 + i = omega arith in e)
      ∙ sym (wide_more 0 i rows wide row lt is)
      ∙ ap (λ (k : ℕ). widen_from place 0 (take k rows) wide) (let e : suc i ≡ i + 1 = omega arith in e)

  widen_length : (n : ℕ) (rows : List Row) (wide : List Bool) → length (widen_from place n rows wide) ≡ length rows
  widen_length n [] wide = refl
  widen_length n (r ∷ rows) wide = ap suc (widen_length (n + 1) rows (other_wide wide))

-- ---- places that agree

module _ (f g : ℕ → ℕ) (count : ℕ) (agree : (k : ℕ) → k ≤ count → f k ≡ g k) where
  first_within : (to : List ℕ) → AllByRecursion (λ (t : ℕ). t ≤ count) to → get_or to 0 0 ≤ count
  first_within [] all = omega arith
  first_within (t ∷ to) all = let here = all.0 in omega arith

  pub far_agrees : (i : ℕ) (insn : Insn) (to : List ℕ) → i ≤ count → AllByRecursion (λ (t : ℕ). t ≤ count) to → is_far_insn f i insn to ≡ is_far_insn g i insn to
  far_agrees i (insn.Branch op offset) to le all = let a = agree i le in let b = agree (get_or to 0 0) (first_within to all) in rw (a, b) refl
  far_agrees i _ to le all = refl

  pub widen_agrees : (n : ℕ) (rows : List Row) (wide : List Bool) → n + length rows ≤ count → AllByRecursion (IsRow count) rows → widen_from f n rows wide ≡ widen_from g n rows wide
  widen_agrees n [] wide le all = refl
  widen_agrees n (r ∷ rows) wide le all =
      let far = far_agrees n r.insn r.jump.to (omega arith) all.0.within in
      ap (λ (b : Bool). (first_wide wide || b) ∷ widen_from f (n + 1) rows (other_wide wide)) far
      ∙ ap (λ (l : List Bool). (first_wide wide || is_far g n r) ∷ l) (widen_agrees (n + 1) rows (other_wide wide) (omega arith) all.1)

-- ---- fewer are left in each round but the last

-- how many are not wide
abbrev pub narrow : List Bool → ℕ
narrow [] = 0
narrow (true ∷ wide) = narrow wide
narrow (false ∷ wide) = suc (narrow wide)

-- nothing changed, or fewer are left
abbrev pub Fewer : List Bool → List Bool → Type 0
Fewer wide next = (next ≡ wide) ⊎ (narrow next < narrow wide)

fewer_narrow : (far : Bool) (wide next : List Bool) → Fewer wide next → Fewer (false ∷ wide) (far ∷ next)
fewer_narrow true wide next (inl same) = inr (let e = ap narrow same in omega arith)
fewer_narrow true wide next (inr less) = inr (omega arith)
fewer_narrow false wide next (inl same) = inl (ap (λ (l : List Bool). false ∷ l) same)
fewer_narrow false wide next (inr less) = inr (omega arith)

fewer_wide : (wide next : List Bool) → Fewer wide next → Fewer (true ∷ wide) (true ∷ next)
fewer_wide wide next (inl same) = inl (ap (λ (l : List Bool). true ∷ l) same)
fewer_wide wide next (inr less) = inr less

pub widen_fewer : (place : ℕ → ℕ) (n : ℕ) (rows : List Row) (wide : List Bool) → length wide ≡ length rows → Fewer wide (widen_from place n rows wide)
widen_fewer place n [] [] count = inl refl
widen_fewer place n [] (w ∷ wide) count = absurd (omega arith)
widen_fewer place n (r ∷ rows) [] count = absurd (omega arith)
widen_fewer place n (r ∷ rows) (true ∷ wide) count = fewer_wide wide _ (widen_fewer place (n + 1) rows wide (omega arith))
widen_fewer place n (r ∷ rows) (false ∷ wide) count = fewer_narrow (is_far place n r) wide _ (widen_fewer place (n + 1) rows wide (omega arith))

-- ---- only branches of two bytes are widened

abbrev pub AreShort : List Row → List Bool → Type 0
AreShort [] wide = Unit {0}
AreShort (r ∷ rows) [] = Unit {0}
AreShort (r ∷ rows) (true ∷ wide) = IsShortInsn r.insn × AreShort rows wide
AreShort (r ∷ rows) (false ∷ wide) = AreShort rows wide

none_short : (rows : List Row) → AreShort rows (map (λ row. false) rows)
none_short [] = tt
none_short (r ∷ rows) = none_short rows

both_true : (a b : Bool) → (a && b) ≡ true → a ≡ true
both_true true b is = refl
both_true false b is = is

far_short : (place : ℕ → ℕ) (i : ℕ) (insn : Insn) (to : List ℕ) → is_far_insn place i insn to ≡ true → IsShortInsn insn
far_short place i (insn.Branch op offset) to is = both_true (is_short op) _ is
far_short place i (insn.Plain op) to is = absurd cc
far_short place i (insn.Bipush v) to is = absurd cc
far_short place i (insn.Sipush v) to is = absurd cc
far_short place i (insn.Local op index wide) to is = absurd cc
far_short place i (insn.Iinc index by wide) to is = absurd cc
far_short place i (insn.Pool op index) to is = absurd cc
far_short place i (insn.Interface index count last) to is = absurd cc
far_short place i (insn.NewArray code) to is = absurd cc
far_short place i (insn.Multi index dims) to is = absurd cc
far_short place i (insn.TableSwitch table) to is = absurd cc
far_short place i (insn.LookupSwitch table) to is = absurd cc

short_cons : (r : Row) (rows : List Row) (far : Bool) (next : List Bool) → (far ≡ true → IsShortInsn r.insn) → AreShort rows next → AreShort (r ∷ rows) (far ∷ next)
short_cons r rows true next here others = (here refl, others)
short_cons r rows false next here others = others

widen_short : (place : ℕ → ℕ) (n : ℕ) (rows : List Row) (wide : List Bool) → AreShort rows wide → AreShort rows (widen_from place n rows wide)
widen_short place n [] wide short = tt
widen_short place n (r ∷ rows) [] short = short_cons r rows (is_far place n r) _ (far_short place n r.insn r.jump.to) (widen_short place (n + 1) rows [] (no_short rows))
  where
    no_short : (rows : List Row) → AreShort rows []
    no_short [] = tt
    no_short (q ∷ rows) = tt
widen_short place n (r ∷ rows) (true ∷ wide) short = (short.0, widen_short place (n + 1) rows wide short.1)
widen_short place n (r ∷ rows) (false ∷ wide) short = short_cons r rows (is_far place n r) _ (far_short place n r.insn r.jump.to) (widen_short place (n + 1) rows wide short)

short_at : (rows : List Row) (wide : List Bool) (i : ℕ) (row : Row) → AreShort rows wide → i < length rows → row ≡ get_or rows i row → get_or wide i false ≡ true → IsShortInsn row.insn
short_at [] wide i row short lt is w = absurd (omega arith)
short_at (r ∷ rows) [] i row short lt is w = absurd cc
short_at (r ∷ rows) (true ∷ wide) zero row short lt is w = subst (λ (q : Row). IsShortInsn q.insn) (sym is) short.0
short_at (r ∷ rows) (false ∷ wide) zero row short lt is w = absurd cc
short_at (r ∷ rows) (true ∷ wide) (suc i) row short lt is w = short_at rows wide i row short.1 (omega arith) is w
short_at (r ∷ rows) (false ∷ wide) (suc i) row short lt is w = short_at rows wide i row short (omega arith) is w

rounds_short : (rows : List Row) (n : ℕ) → AreShort rows (after_rounds rows n)
rounds_short rows zero = none_short rows
rounds_short rows (suc n) = widen_short (place_of rows (after_rounds rows n)) 0 rows (after_rounds rows n) (rounds_short rows n)

-- only a branch of two bytes is wide
pub wide_is_short : (rows : List Row) (wide : List Bool) (i : ℕ) (row : Row) → AreWidened rows wide → i < length rows → row ≡ get_or rows i row → get_or wide i false ≡ true → IsShortInsn row.insn
wide_is_short rows wide i row widened lt is w = short_at rows wide i row (subst (AreShort rows) (sym widened.reached) (rounds_short rows widened.rounds)) lt is w

-- ---- the rounds

-- so many rounds led here
pub record Rounds (rows : List Row) (wide : List Bool) (places : List ℕ) : Type 0 where
  pub rounds : ℕ
  pub reached : wide ≡ after_rounds rows rounds
  pub laid : ArePlaces rows wide places

pub rounds_begin : (rows : List Row) (wide : List Bool) (places : List ℕ) → wide ≡ map (λ row. false) rows → ArePlaces rows wide places → Rounds rows wide places
rounds_begin rows wide places is laid = record { rounds = 0; reached = is; laid = laid }

-- the round by the places that are listed is that by the places that are meant
pub round_is : (rows : List Row) (wide : List Bool) (places : List ℕ) → AreRows rows → ArePlaces rows wide places → widen_from (place_in places) 0 rows wide ≡ widen rows wide
round_is rows wide places all laid = widen_agrees (place_in places) (place_of rows wide) (length rows) laid.each 0 rows wide (omega arith) all

pub rounds_more : (rows : List Row) (wide next : List Bool) (places places' : List ℕ) → AreRows rows → Rounds rows wide places → next ≡ widen_from (place_in places) 0 rows wide → ArePlaces rows next places' → Rounds rows next places'
rounds_more rows wide next places places' all so_far is laid = record {
  rounds = suc so_far.rounds;
  reached = is ∙ round_is rows wide places all so_far.laid ∙ ap (widen rows) so_far.reached;
  laid = laid;
}

pub rounds_end : (rows : List Row) (wide next : List Bool) (places : List ℕ) → AreRows rows → Rounds rows wide places → next ≡ widen_from (place_in places) 0 rows wide → next ≡ wide → AreWidened rows wide
rounds_end rows wide next places all so_far is same = record {
  rounds = so_far.rounds;
  reached = so_far.reached;
  settled = sym (round_is rows wide places all so_far.laid) ∙ sym is ∙ same;
}

pub round_smaller : (rows : List Row) (wide next : List Bool) (places : List ℕ) → length wide ≡ length rows → next ≡ widen_from (place_in places) 0 rows wide → (next ≡ wide → ⊥) → narrow next < narrow wide
round_smaller rows wide next places count is differs =
    elim (widen_fewer (place_in places) 0 rows wide count) [
      | inl same ↦ absurd (differs (is ∙ same))
      | inr less ↦ (let e = ap narrow is in omega arith)
    ]

pub none_wide : (rows : List Row) (wide : List Bool) → wide ≡ replicate (length rows) false → wide ≡ map (λ row. false) rows
none_wide rows wide is = is ∙ same rows
  where
    same : (rows : List Row) → replicate (length rows) false ≡ map (λ row. false) rows
    same [] = refl
    same (r ∷ rows) = ap (λ (l : List Bool). false ∷ l) (same rows)

-- ---- flags that are compared

equal_flags : (xs : List Bool) → pointwise beq xs xs ≡ true
equal_flags [] = refl
equal_flags (true ∷ xs) = equal_flags xs
equal_flags (false ∷ xs) = equal_flags xs

pub same_flags : (xs ys : List Bool) → true ≡ pointwise beq xs ys → xs ≡ ys
same_flags [] [] is = refl
same_flags [] (y ∷ ys) is = absurd cc
same_flags (x ∷ xs) [] is = absurd cc
same_flags (true ∷ xs) (true ∷ ys) is = ap (λ (l : List Bool). true ∷ l) (same_flags xs ys is)
same_flags (true ∷ xs) (false ∷ ys) is = absurd cc
same_flags (false ∷ xs) (true ∷ ys) is = absurd cc
same_flags (false ∷ xs) (false ∷ ys) is = ap (λ (l : List Bool). false ∷ l) (same_flags xs ys is)

pub other_flags : (xs ys : List Bool) → false ≡ pointwise beq xs ys → xs ≡ ys → ⊥
other_flags xs ys is same = let e = equal_flags xs in let d : pointwise beq xs xs ≡ pointwise beq xs ys = ap (pointwise beq xs) same in absurd cc

-- the round of lists that are equal
pub round_by : (rows : List Row) (wide wide' next : List Bool) (places places' : List ℕ) → next ≡ widen_from (place_in places') 0 rows wide' → places' ≡ places → wide' ≡ wide → next ≡ widen_from (place_in places) 0 rows wide
round_by rows wide wide' next places places' is places_are wide_is = is ∙ ap (λ (l : List ℕ). widen_from (place_in l) 0 rows wide') places_are ∙ ap (widen_from (place_in places) 0 rows) wide_is

pub round_length : (rows : List Row) (wide next : List Bool) (places : List ℕ) → next ≡ widen_from (place_in places) 0 rows wide → length next ≡ length rows
round_length rows wide next places is = ap length is ∙ widen_length (place_in places) 0 rows wide
