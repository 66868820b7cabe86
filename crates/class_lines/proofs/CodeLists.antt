-- The characters of a line, one by one.
use Rattle.std.proofs.Common.{◌≡◌, ℕ, zero, suc, ◌<◌, ◌≤◌, List, [], ◌∷◌, ◌++◌, length, Option, Some, None, refl, sym, ap, subst, ◌∙◌, arith, append_assoc}
use Rattle.std.specs.Prelude.{option_map}
use Rattle.std.proofs.lemmas.List.{append-nil}
use Rattle.class_lines.specs.declared.recoding.Code.{Code}
use Rattle.class_lines.specs.Words.{◌>>=◌}
use Rattle.class_lines.specs.Recoding.{code_bytes, character_at, characters, modified}
use Rattle.class_lines.proofs.WordLists.{before}

-- the text stands for the bytes that were put out and for those of the rest
pub record Recoded (written rest out : List ℕ) : Type 0 where
  pub turns : ℕ
  pub enough : length rest ≤ turns
  pub same : modified written ≡ before out (characters turns rest)

before_none : (o : Option (List ℕ)) → o ≡ before [] o
before_none None = refl
before_none (Some more) = refl

pub recoded_begins : (written : List ℕ) → Recoded written written []
recoded_begins written = record { turns = length written; enough = omega arith; same = before_none (modified written) }

put : (out bytes : List ℕ) (more : Option (List ℕ)) → before out (option_map (λ m. bytes ++ m) more) ≡ before (out ++ bytes) more
put out bytes None = refl
put out bytes (Some more) = ap Some (sym (append_assoc out bytes more))

more_turns : (written : List ℕ) (b : ℕ) (rest behind out : List ℕ) (piece : Code) (turns : ℕ) → length (b ∷ rest) ≤ turns → modified written ≡ before out (characters turns (b ∷ rest)) → character_at (b ∷ rest) ≡ Some (piece, behind) → length behind < length (b ∷ rest)
    → Recoded written behind (out ++ code_bytes piece)
more_turns written b rest behind out piece zero enough same found shorter = absurd (omega arith)
more_turns written b rest behind out piece (suc turns) enough same found shorter = record {
  turns = turns;
  enough = omega arith;
  same = same ∙ ap (λ (p : Option (Code × List ℕ)). before out (p >>= (λ c. option_map (λ more. code_bytes c.0 ++ more) (characters turns c.1)))) found ∙ put out (code_bytes piece) (characters turns behind);
}

-- one more piece
pub recoded_more : (written rest out behind out' : List ℕ) (piece : Code) → Recoded written rest out → 0 < length rest → character_at rest ≡ Some (piece, behind) → length behind < length rest → out' ≡ out ++ code_bytes piece → Recoded written behind out'
recoded_more written [] out behind out' piece w some found shorter e = absurd (omega arith)
recoded_more written (b ∷ rest) out behind out' piece w some found shorter e =
    subst (λ (o : List ℕ). Recoded written behind o) (sym e) (more_turns written b rest behind out piece w.turns w.enough w.same found shorter)

fail_turns : (written : List ℕ) (b : ℕ) (rest out : List ℕ) (turns : ℕ) → modified written ≡ before out (characters turns (b ∷ rest)) → character_at (b ∷ rest) ≡ None → modified written ≡ None
fail_turns written b rest out zero same found = same
fail_turns written b rest out (suc turns) same found =
    same ∙ ap (λ (p : Option (Code × List ℕ)). before out (p >>= (λ c. option_map (λ more. code_bytes c.0 ++ more) (characters turns c.1)))) found

-- no piece
pub recoded_fails : (written rest out : List ℕ) → Recoded written rest out → 0 < length rest → character_at rest ≡ None → modified written ≡ None
recoded_fails written [] out w some found = absurd (omega arith)
recoded_fails written (b ∷ rest) out w some found = fail_turns written b rest out w.turns w.same found

no_pieces : (turns : ℕ) → characters turns [] ≡ Some []
no_pieces zero = refl
no_pieces (suc turns) = refl

pub recoded_ends : (written rest out : List ℕ) → Recoded written rest out → length rest ≡ 0 → modified written ≡ Some out
recoded_ends written [] out w e = w.same ∙ ap (before out) (no_pieces w.turns) ∙ ap Some (append-nil out)
recoded_ends written (b ∷ rest) out w e = absurd (omega arith)
