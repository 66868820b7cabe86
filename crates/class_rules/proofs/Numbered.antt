-- Whether each offset of a table leads to an instruction, as a loop asks it.
use Rattle.std.proofs.Common.{◌≡◌, ◌+◌, ◌<◌, ℕ, zero, suc, Bool, true, false, ◌&&◌, List, [], ◌∷◌, refl, sym, ap, ◌∙◌, inl, inr, arith, add-one}
use Rattle.std.specs.Prelude.{ℤ, pos, ◌+ℤ◌}
use Rattle.std.specs.List.{list_all}
use Rattle.std.proofs.lemmas.Bool.{cases_eq, and_from, and_left, and_right}
use Rattle.std.proofs.lemmas.List.Folds.{list_all-append}
use Rattle.class_file.specs.Code.{Placed, is_start_at, numbered}

module _ (test : ℤ → Bool) (f : ℕ → ℤ) where
  all_more : (n : ℕ) → list_all test (numbered (suc n) f) ≡ (list_all test (numbered n f) && (test (f n) && true))
  all_more n = list_all-append test (numbered n f) (f n ∷ [])

  all_further : (n : ℕ) → list_all test (numbered n f) ≡ true → test (f n) ≡ true → list_all test (numbered (n + 1) f) ≡ true
  all_further n so_far here = rw add-one (all_more n ∙ and_from (list_all test (numbered n f)) (test (f n) && true) so_far (and_from (test (f n)) true here refl))

  all_fails : (n i : ℕ) → i < n → test (f i) ≡ false → list_all test (numbered n f) ≡ false
  all_fails zero i lt here = absurd (omega arith)
  all_fails (suc n) i lt here =
      elim (cases_eq i n) [
        | inl e ↦ all_more n ∙ and_right (list_all test (numbered n f)) (test (f n) && true) (and_left (test (f n)) true (ap (λ (k : ℕ). test (f k)) (sym e) ∙ here))
        | inr ne ↦ all_more n ∙ and_left (list_all test (numbered n f)) (test (f n) && true) (all_fails n i (omega (arith, ne)) here)
      ]

module _ (insns : List Placed) (pc : ℕ) (f : ℕ → ℤ) (i : ℕ) (offset : ℤ) (answer : Bool) (is : offset ≡ f i) (answered : answer ≡ is_start_at insns (pos pc +ℤ offset)) where
  pub leads_further : answer ≡ true → list_all (λ o. is_start_at insns (pos pc +ℤ o)) (numbered i f) ≡ true → list_all (λ o. is_start_at insns (pos pc +ℤ o)) (numbered (i + 1) f) ≡ true
  leads_further passes so_far =
      all_further (λ o. is_start_at insns (pos pc +ℤ o)) f i so_far (ap (λ (o : ℤ). is_start_at insns (pos pc +ℤ o)) (sym is) ∙ sym answered ∙ passes)

  pub leads_astray : (n : ℕ) → i < n → answer ≡ false → false ≡ list_all (λ o. is_start_at insns (pos pc +ℤ o)) (numbered n f)
  leads_astray n lt fails =
      sym (all_fails (λ o. is_start_at insns (pos pc +ℤ o)) f n i lt (ap (λ (o : ℤ). is_start_at insns (pos pc +ℤ o)) (sym is) ∙ sym answered ∙ fails))

pub leads_whole : (insns : List Placed) (pc : ℕ) (f : ℕ → ℤ) (i n : ℕ) → i ≡ n → list_all (λ o. is_start_at insns (pos pc +ℤ o)) (numbered i f) ≡ true → true ≡ list_all (λ o. is_start_at insns (pos pc +ℤ o)) (numbered n f)
leads_whole insns pc f i n is all = sym all ∙ ap (λ (k : ℕ). list_all (λ o. is_start_at insns (pos pc +ℤ o)) (numbered k f)) is

-- ---- the default's offset, before the others

both : (here answer others whole : Bool) → answer ≡ here → answer ≡ true → others ≡ whole → others ≡ (here && whole)
both true answer others whole is passes same = same
both false answer others whole is passes same = absurd cc

neither : (here answer whole : Bool) → answer ≡ here → answer ≡ false → answer ≡ (here && whole)
neither true answer whole is fails = absurd cc
neither false answer whole is fails = fails

module _ (insns : List Placed) (pc : ℕ) (offset default : ℤ) (answer : Bool) (is : offset ≡ default) (answered : answer ≡ is_start_at insns (pos pc +ℤ offset)) where
  pub default_leads : (others whole : Bool) → answer ≡ true → others ≡ whole → others ≡ (is_start_at insns (pos pc +ℤ default) && whole)
  default_leads others whole passes same =
      both (is_start_at insns (pos pc +ℤ default)) answer others whole (answered ∙ ap (λ (o : ℤ). is_start_at insns (pos pc +ℤ o)) is) passes same

  pub default_strays : (whole : Bool) → answer ≡ false → answer ≡ (is_start_at insns (pos pc +ℤ default) && whole)
  default_strays whole fails =
      neither (is_start_at insns (pos pc +ℤ default)) answer whole (answered ∙ ap (λ (o : ℤ). is_start_at insns (pos pc +ℤ o)) is) fails
