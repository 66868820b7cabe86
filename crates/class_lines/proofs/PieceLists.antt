-- The pieces of a text in quotes, one by one.
use Rattle.std.proofs.Common.{◌≡◌, ℕ, zero, suc, ◌<◌, ◌≤◌, List, [], ◌∷◌, ◌++◌, length, Option, Some, None, refl, sym, ap, subst, ◌∙◌, arith, append_assoc}
use Rattle.std.specs.Prelude.{option_map}
use Rattle.std.proofs.lemmas.List.{append-nil}
use Rattle.class_lines.specs.declared.quotes.Piece.{Piece}
use Rattle.class_lines.specs.Words.{◌>>=◌}
use Rattle.class_lines.specs.Quotes.{piece_bytes, piece_at, pieces, unescaped}
use Rattle.class_lines.proofs.WordLists.{before}

-- the text stands for the bytes that were put out and for those of the rest
pub record Written (written rest out : List ℕ) : Type 0 where
  pub turns : ℕ
  pub enough : length rest ≤ turns
  pub same : unescaped written ≡ before out (pieces turns rest)

before_none : (o : Option (List ℕ)) → o ≡ before [] o
before_none None = refl
before_none (Some more) = refl

pub written_begins : (written : List ℕ) → Written written written []
written_begins written = record { turns = length written; enough = omega arith; same = before_none (unescaped written) }

put : (out bytes : List ℕ) (more : Option (List ℕ)) → before out (option_map (λ m. bytes ++ m) more) ≡ before (out ++ bytes) more
put out bytes None = refl
put out bytes (Some more) = ap Some (sym (append_assoc out bytes more))

more_turns : (written : List ℕ) (b : ℕ) (rest behind out : List ℕ) (piece : Piece) (turns : ℕ) → length (b ∷ rest) ≤ turns → unescaped written ≡ before out (pieces turns (b ∷ rest)) → piece_at (b ∷ rest) ≡ Some (piece, behind) → length behind < length (b ∷ rest)
    → Written written behind (out ++ piece_bytes piece)
more_turns written b rest behind out piece zero enough same found shorter = absurd (omega arith)
more_turns written b rest behind out piece (suc turns) enough same found shorter = record {
  turns = turns;
  enough = omega arith;
  same = same ∙ ap (λ (p : Option (Piece × List ℕ)). before out (p >>= (λ piece. option_map (λ more. piece_bytes piece.0 ++ more) (pieces turns piece.1)))) found ∙ put out (piece_bytes piece) (pieces turns behind);
}

-- one more piece
pub written_more : (written rest out behind out' : List ℕ) (piece : Piece) → Written written rest out → 0 < length rest → piece_at rest ≡ Some (piece, behind) → length behind < length rest → out' ≡ out ++ piece_bytes piece → Written written behind out'
written_more written [] out behind out' piece w some found shorter e = absurd (omega arith)
written_more written (b ∷ rest) out behind out' piece w some found shorter e =
    subst (λ (o : List ℕ). Written written behind o) (sym e) (more_turns written b rest behind out piece w.turns w.enough w.same found shorter)

fail_turns : (written : List ℕ) (b : ℕ) (rest out : List ℕ) (turns : ℕ) → unescaped written ≡ before out (pieces turns (b ∷ rest)) → piece_at (b ∷ rest) ≡ None → unescaped written ≡ None
fail_turns written b rest out zero same found = same
fail_turns written b rest out (suc turns) same found =
    same ∙ ap (λ (p : Option (Piece × List ℕ)). before out (p >>= (λ piece. option_map (λ more. piece_bytes piece.0 ++ more) (pieces turns piece.1)))) found

-- no piece
pub written_fails : (written rest out : List ℕ) → Written written rest out → 0 < length rest → piece_at rest ≡ None → unescaped written ≡ None
written_fails written [] out w some found = absurd (omega arith)
written_fails written (b ∷ rest) out w some found = fail_turns written b rest out w.turns w.same found

no_pieces : (turns : ℕ) → pieces turns [] ≡ Some []
no_pieces zero = refl
no_pieces (suc turns) = refl

pub written_ends : (written rest out : List ℕ) → Written written rest out → length rest ≡ 0 → unescaped written ≡ Some out
written_ends written [] out w e = w.same ∙ ap (before out) (no_pieces w.turns) ∙ ap Some (append-nil out)
written_ends written (b ∷ rest) out w e = absurd (omega arith)
