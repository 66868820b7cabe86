-- The whole code that blocks are laid out as.
use Rattle.std.proofs.Common.{◌≡◌, ℕ, zero, suc, ◌+◌, ◌*◌, ◌^◌, ◌<◌, ◌≤◌, Bool, false, List, [], ◌∷◌, ◌++◌, length, get_or, drop, map, refl, sym, ap, ◌∙◌, arith, subst, add-one, length-append, inl, inr}
use Rattle.std.specs.Prelude.{Option, Some, slice_get, max}
use Rattle.std.specs.List.{AllByRecursion}
use Rattle.std.proofs.lemmas.List.{length-map}
use Rattle.std.proofs.lemmas.Bool.{cases_lt}
use Rattle.std.proofs.Math.Seq.{drop-cons}
use Rattle.class_file.specs.declared.types.CodeAttr.{CodeAttr}
use Rattle.class_file.specs.declared.types.ExceptionEntry.{ExceptionEntry}
use Rattle.code_layout.specs.declared.method_code.CodeEntry.{CodeEntry}
use Rattle.code_layout.specs.declared.method_code.MethodCode.{MethodCode}
use Rattle.code_layout.specs.declared.block.Block.{Block}
use Rattle.code_layout.specs.declared.layout_fault.LayoutFault.{LayoutFault}
use Rattle.code_layout.specs.declared.layout_fault.LayoutFault.TheVariants as faults
use Rattle.code_layout.specs.declared.row.Row.{Row}
use Rattle.code_layout.specs.Blocks.{IsBlock, AreLayable, start_of, row_in, rows, row_count}
use Rattle.code_layout.specs.Places.{place_of, end_of, AreWidened}
use Rattle.code_layout.specs.Laid.{RowStands, own_entry, own_entries_from, old_entry, entries_of, attributes_of, own_count, entry_count, greatest, most_bytes, switches, IsLaidOut, IsLength, PassesLength, PassesEntries, IsLayoutFault}
use Rattle.code_layout.specs.Spelled.{bytes_of, ArePlaces, AreSmall, HaveKeys, place_in}
use Rattle.code_layout.proofs.Rising.{place_rises, place_at_most}
use Rattle.code_layout.proofs.Laying.{laid_length, rows_stand}
use Rattle.code_layout.proofs.Positions.{position}
use Rattle.code_layout.proofs.Layable.{rows_length, are_rows, length_most, entries_same, attributes_same}

-- ---- counts

own_step : (blocks : List Block) (k : ℕ) (b : Block) → k < length blocks → b ≡ get_or blocks k b → own_count (drop k blocks) ≡ length b.entries + own_count (drop (k + 1) blocks)
own_step blocks k b lt is =
    ap own_count (drop-cons blocks k b lt) ∙ ap (λ (x : Block). length x.entries + own_count (drop (suc k) blocks)) (sym is)
    ∙ ap (λ (n : ℕ). length b.entries + own_count (drop n blocks)) (sym (add-one k))

pub own_more : (blocks : List Block) (k count more whole : ℕ) (b : Block) → k < length blocks → b ≡ get_or blocks k b → more ≡ count + length b.entries → count + own_count (drop k blocks) ≡ whole → more + own_count (drop (k + 1) blocks) ≡ whole
own_more blocks k count more whole b lt is sum before = omega (arith, own_step blocks k b lt is)

pub own_none : (blocks : List Block) (k : ℕ) → length blocks ≤ k → own_count (drop k blocks) ≡ 0
own_none [] zero le = refl
own_none [] (suc k) le = refl
own_none (b ∷ blocks) zero le = absurd (omega arith)
own_none (b ∷ blocks) (suc k) le = own_none blocks k (omega arith)

module _ (f : Block → ℕ) where
  pub greatest_more : (blocks : List Block) (k now whole : ℕ) (b : Block) → k < length blocks → b ≡ get_or blocks k b → greatest now (map f (drop k blocks)) ≡ whole → greatest (max now (f b)) (map f (drop (k + 1) blocks)) ≡ whole
  greatest_more blocks k now whole b lt is before =
      ap (λ (n : ℕ). greatest (max now (f b)) (map f (drop n blocks))) (add-one k)
      ∙ ap (λ (x : Block). greatest (max now (f x)) (map f (drop (suc k) blocks))) is
      ∙ ap (λ (l : List Block). greatest now (map f l)) (sym (drop-cons blocks k b lt)) ∙ before

  pub greatest_all : (blocks : List Block) (k now : ℕ) → length blocks ≤ k → greatest now (map f (drop k blocks)) ≡ now
  greatest_all [] zero now le = refl
  greatest_all [] (suc k) now le = refl
  greatest_all (b ∷ blocks) zero now le = absurd (omega arith)
  greatest_all (b ∷ blocks) (suc k) now le = greatest_all blocks k now (omega arith)

-- ---- places

out_of : (xs : List ℕ) (i : ℕ) → length xs ≤ i → get_or xs i 0 ≡ 0
out_of [] i le = refl
out_of (x ∷ xs) zero le = absurd (omega arith)
out_of (x ∷ xs) (suc i) le = out_of xs i (omega arith)

module _ (blocks : List Block) (old : MethodCode) (rs : List Row) (wide : List Bool) (places : List ℕ) (is : rs ≡ rows blocks) (layable : AreLayable blocks old) (widened : AreWidened rs wide) (at : ArePlaces rs wide places) (fits : end_of rs wide < 2 ^ 16) where
  count_is : length rs ≡ row_count blocks
  count_is = ap length is ∙ rows_length blocks layable.each

  place_is : (i : ℕ) → i ≤ row_count blocks → place_in places i ≡ place_of (rows blocks) wide i
  place_is i le = (let n = count_is in at.each i (omega arith)) ∙ ap (λ (l : List Row). place_of l wide i) is

  own_widened : AreWidened (rows blocks) wide
  own_widened = subst (λ (l : List Row). AreWidened l wide) is widened

  own_fits : end_of (rows blocks) wide < 2 ^ 16
  own_fits = subst (λ (l : List Row). end_of l wide < 2 ^ 16) is fits

  below_end : (i : ℕ) → i ≤ row_count blocks → place_of (rows blocks) wide i < 2 ^ 16
  below_end i le = omega (arith, rows_length blocks layable.each, own_fits, place_at_most 0 (rows blocks) wide i (length (rows blocks)))

  pub small_places : AreSmall (row_count blocks) places
  small_places =
      let n = count_is in
      record {
        all = omega (arith, at.count);
        each = λ i. elim (cases_lt i (row_count blocks + 1)) [
          | inl lt ↦ omega (arith, place_is i (omega arith), below_end i (omega arith))
          | inr le ↦ omega (arith, out_of places i (omega (arith, at.count)))
        ];
        rise = λ i j le within. omega (arith, place_is i (omega arith), place_is j within, place_at_most 0 (rows blocks) wide i j le);
      }

  module _ (code : CodeAttr) (keys : HaveKeys rs) (bytes : code.code ≡ bytes_of rs wide) where
    own_bytes : code.code ≡ bytes_of (rows blocks) wide
    own_bytes = bytes ∙ ap (λ (l : List Row). bytes_of l wide) is

    code_length : length code.code ≡ end_of (rows blocks) wide
    code_length = ap length own_bytes ∙ laid_length (rows blocks) wide (are_rows blocks layable.each) own_widened

    own_length : (place : ℕ → ℕ) (start : ℕ) (others : List Block) → length (own_entries_from place blocks start others) ≡ own_count others
    own_length place start [] = refl
    own_length place start (b ∷ others) =
        omega (arith, length-append (map (own_entry place blocks start b.labels) b.entries) (own_entries_from place blocks (start + length b.insns) others), length-map b.entries (own_entry place blocks start b.labels), own_length place (start + length b.insns) others)

    pub entries_length : code.entries ≡ entries_of (place_in places) blocks old.entries → length code.entries ≡ own_count blocks + length old.entries
    entries_length entries =
        ap length entries ∙ omega (arith, length-append (own_entries_from (place_in places) blocks 0 blocks) (map (old_entry (place_in places) blocks) old.entries), own_length (place_in places) 0 blocks, length-map old.entries (old_entry (place_in places) blocks))

    pub is_laid_out : code.entries ≡ entries_of (place_in places) blocks old.entries → code.attributes ≡ attributes_of (place_in places) blocks old.lines old.variables → code.max_stack ≡ greatest old.max_stack (map (λ (b : Block). b.stack) blocks)
        → code.max_locals ≡ greatest old.max_locals (map (λ (b : Block). b.locals) blocks) → entry_count blocks old < 2 ^ 16 → IsLaidOut blocks old code
    is_laid_out entries attributes stack locals few =
        let standing = rows_stand (rows blocks) wide (are_rows blocks layable.each) own_widened code.code own_bytes own_fits (subst HaveKeys is keys) in
        record {
          wide = wide;
          widened = own_widened;
          stands = standing;
          at = λ k p b i j block insn jump. standing (start_of blocks k + p) (row_in blocks (start_of blocks k) b.labels i j) (position blocks k p b i j layable.each block insn jump);
          ends = code_length;
          fits = omega (arith, code_length, own_fits);
          rises = place_rises 0 (rows blocks) wide;
          entries = entries ∙ entries_same (place_in places) (place_of (rows blocks) wide) blocks place_is old.entries layable.each;
          few = omega (arith, entries_length entries);
          attributes = attributes ∙ attributes_same (place_in places) (place_of (rows blocks) wide) blocks place_is old.lines old.variables;
          stack = stack;
          locals = locals;
        }

-- ---- faults

pub is_length : (blocks : List Block) (rs : List Row) (wide : List Bool) (places : List ℕ) (n : ℕ) → rs ≡ rows blocks → AreWidened rs wide → ArePlaces rs wide places → n ≡ get_or places (length rs) 0 → IsLength blocks n
is_length blocks rs wide places n is widened at here = record {
  wide = wide;
  widened = subst (λ (l : List Row). AreWidened l wide) is widened;
  is = here ∙ at.each (length rs) (omega arith) ∙ ap (λ (l : List Row). end_of l wide) is;
}
