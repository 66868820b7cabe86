-- The fields that are found, one by one.
use Rattle.std.proofs.Common.{◌≡◌, ◌≢◌, ℕ, zero, suc, ◌<◌, ◌≤◌, Bool, true, false, not, List, [], ◌∷◌, ◌++◌, length, get_or, refl, sym, ap, subst, ◌∙◌, arith, inl, inr, append_assoc}
use Rattle.std.specs.Prelude.{if◌then◌else◌}
use Rattle.std.proofs.lemmas.Bool.{cases_Bool, ne_eqb, eq-eqb}
use Rattle.std.proofs.lemmas.List.{append-nil}
use Rattle.class_lines.specs.Fields.{is_blank, is_inside, run_of, behind_run, trimmed, field_and, fields_in, fields}

pub behind_le : (test : ℕ → Bool) (xs : List ℕ) → length (behind_run test xs) ≤ length xs
behind_le test [] = omega arith
behind_le test (b ∷ rest) =
    elim (cases_Bool (test b)) [
      | inl is_so ↦ let e : length (behind_run test (b ∷ rest)) ≡ length (behind_run test rest) = ap (λ (t : Bool). length (if t then behind_run test rest else b ∷ rest)) is_so in omega (arith, e, behind_le test rest)
      | inr isnt ↦ let e : length (behind_run test (b ∷ rest)) ≡ length (b ∷ rest) = ap (λ (t : Bool). length (if t then behind_run test rest else b ∷ rest)) isnt in omega (arith, e)
    ]

pub behind_again : (test : ℕ → Bool) (xs : List ℕ) → behind_run test (behind_run test xs) ≡ behind_run test xs
behind_again test [] = refl
behind_again test (b ∷ rest) =
    let whole : Bool → List ℕ = λ t. if t then behind_run test rest else b ∷ rest in
    elim (cases_Bool (test b)) [
      | inl is_so ↦ ap (λ (t : Bool). behind_run test (whole t)) is_so ∙ behind_again test rest ∙ sym (ap whole is_so)
      | inr isnt ↦ ap (λ (t : Bool). behind_run test (whole t)) isnt ∙ ap whole isnt ∙ sym (ap whole isnt)
    ]

-- the first byte is no blank
pub begins_inside : (b : ℕ) (rest : List ℕ) → behind_run is_blank (b ∷ rest) ≡ b ∷ rest → is_blank b ≡ false
begins_inside b rest h =
    elim (cases_Bool (is_blank b)) [
      | inr isnt ↦ isnt
      | inl is_so ↦
          let e : length (behind_run is_blank rest) ≡ length (b ∷ rest) = ap (λ (t : Bool). length (if t then behind_run is_blank rest else b ∷ rest)) (sym is_so) ∙ ap length h in
          absurd (omega (arith, e, behind_le is_blank rest))
    ]

-- a byte above the space stands inside a word
pub inside_above : (b : ℕ) → 32 < b → is_inside b ≡ true
inside_above b lt = rw (ne_eqb b 32 (λ e. omega arith), ne_eqb b 9 (λ e. omega arith), ne_eqb b 10 (λ e. omega arith)) refl

-- the fields of the line are those that were found, and those of the rest, which begins with no blank
pub record Found (line rest : List ℕ) (found : List (List ℕ)) : Type 0 where
  pub turns : ℕ
  pub enough : length rest ≤ turns
  pub same : fields line ≡ found ++ field_and (fields_in turns) rest
  pub begun : behind_run is_blank rest ≡ rest

begins : (line rest : List ℕ) → rest ≡ behind_run is_blank line → Found line rest []
begins line rest e = record {
  turns = length line;
  enough = omega (arith, ap length e, behind_le is_blank line);
  same = ap (field_and (fields_in (length line))) (sym e);
  begun = subst (λ (r : List ℕ). behind_run is_blank r ≡ r) (sym e) (behind_again is_blank line);
}

pub found_begins : (line rest : List ℕ) (found : List (List ℕ)) → found ≡ [] → rest ≡ behind_run is_blank line → Found line rest found
found_begins line rest found none e = subst (λ (f : List (List ℕ)). Found line rest f) (sym none) (begins line rest e)

-- behind a field less is left
pub field_shorter : (b : ℕ) (rest : List ℕ) → is_blank b ≡ false → length (behind_run is_blank (behind_run is_inside (b ∷ rest))) ≤ length rest
field_shorter b rest isnt =
    let e : length (behind_run is_inside (b ∷ rest)) ≡ length (behind_run is_inside rest) = ap (λ (t : Bool). length (if not t then behind_run is_inside rest else b ∷ rest)) isnt in
    omega (arith, e, behind_le is_blank (behind_run is_inside (b ∷ rest)), behind_le is_inside rest)

shorter : (line rest : List ℕ) (found : List (List ℕ)) → Found line rest found → 0 < length rest → length (behind_run is_blank (behind_run is_inside rest)) < length rest
shorter line [] found f some = absurd (omega arith)
shorter line (b ∷ rest) found f some = omega (arith, field_shorter b rest (begins_inside b rest f.begun))

pub found_shorter : (line rest rest' : List ℕ) (found : List (List ℕ)) → Found line rest found → 0 < length rest → rest' ≡ behind_run is_blank (behind_run is_inside rest) → length rest' < length rest
found_shorter line rest rest' found f some e = let s = shorter line rest found f some in omega (arith, ap length e, s)

plain_field : (next : List ℕ → List (List ℕ)) (b : ℕ) (rest : List ℕ) → b ≢ 34 → field_and next (b ∷ rest) ≡ run_of is_inside (b ∷ rest) ∷ next (behind_run is_inside (b ∷ rest))
plain_field next b rest ne =
    ap (λ (t : Bool). if t then trimmed (b ∷ rest) ∷ [] else run_of is_inside (b ∷ rest) ∷ next (behind_run is_inside (b ∷ rest))) (ne_eqb b 34 ne)

go_on : (line : List ℕ) (b : ℕ) (rest : List ℕ) (found : List (List ℕ)) (turns : ℕ) → length (b ∷ rest) ≤ turns → fields line ≡ found ++ field_and (fields_in turns) (b ∷ rest) → is_blank b ≡ false → b ≢ 34
    → Found line (behind_run is_blank (behind_run is_inside (b ∷ rest))) (found ++ run_of is_inside (b ∷ rest) ∷ [])
go_on line b rest found zero enough same isnt ne = absurd (omega arith)
go_on line b rest found (suc turns) enough same isnt ne = record {
  turns = turns;
  enough = omega (arith, field_shorter b rest isnt);
  same = same ∙ ap (λ (more : List (List ℕ)). found ++ more) (plain_field (fields_in (suc turns)) b rest ne) ∙ sym (append_assoc found (run_of is_inside (b ∷ rest) ∷ []) _);
  begun = behind_again is_blank (behind_run is_inside (b ∷ rest));
}

more_found : (line rest : List ℕ) (found : List (List ℕ)) → Found line rest found → 0 < length rest → get_or rest 0 0 ≢ 34
    → Found line (behind_run is_blank (behind_run is_inside rest)) (found ++ run_of is_inside rest ∷ [])
more_found line [] found f some ne = absurd (omega arith)
more_found line (b ∷ rest) found f some ne = go_on line b rest found f.turns f.enough f.same (begins_inside b rest f.begun) ne

pub found_more : (line rest rest' : List ℕ) (found found' : List (List ℕ)) → Found line rest found → 0 < length rest → get_or rest 0 0 ≢ 34 → rest' ≡ behind_run is_blank (behind_run is_inside rest) → found' ≡ found ++ run_of is_inside rest ∷ [] → Found line rest' found'
found_more line rest rest' found found' f some ne e is =
    subst (λ (r : List ℕ). Found line r found') (sym e) (subst (λ (l : List (List ℕ)). Found line (behind_run is_blank (behind_run is_inside rest)) l) (sym is) (more_found line rest found f some ne))

pub found_quoted : (line rest : List ℕ) (found : List (List ℕ)) → Found line rest found → 0 < length rest → get_or rest 0 0 ≡ 34 → found ++ trimmed rest ∷ [] ≡ fields line
found_quoted line [] found f some e = absurd (omega arith)
found_quoted line (b ∷ rest) found f some e =
    sym (f.same ∙ ap (λ (t : Bool). found ++ (if t then trimmed (b ∷ rest) ∷ [] else run_of is_inside (b ∷ rest) ∷ fields_in f.turns (behind_run is_inside (b ∷ rest)))) (eq-eqb b 34 e))

pub found_ends : (line rest : List ℕ) (found : List (List ℕ)) → Found line rest found → length rest ≡ 0 → found ≡ fields line
found_ends line [] found f e = sym (f.same ∙ append-nil found)
found_ends line (b ∷ rest) found f e = absurd (omega arith)
