-- Scanning a name byte by byte, as a loop does.
use Rattle.std.proofs.Common.{◌≡◌, ℕ, ◌+◌, List, ◌++◌, Result, Ok, Err, refl, ap, zero-add}
use Rattle.aj_names.specs.declared.types.FieldType.{FieldType}
use Rattle.aj_names.specs.Reading.{◌>>=◌}

-- the bytes of a name that were read before
abbrev pub behind_name : List ℕ → Result (List ℕ × List ℕ) ℕ → Result (List ℕ × List ℕ) ℕ
behind_name front read = read >>= λ x. Ok (front ++ x.0, x.1)

-- a type behind so many dimensions that were read before
abbrev pub behind_dims : ℕ → Result (FieldType × List ℕ) ℕ → Result (FieldType × List ℕ) ℕ
behind_dims dims read = read >>= λ x. Ok (record { base = x.0.base; dims = dims + x.0.dims }, x.1)

pub behind_none : (read : Result (FieldType × List ℕ) ℕ) → behind_dims 0 read ≡ read
behind_none (Ok x) = ap (λ (n : ℕ). ok (record { base = x.0.base; dims = n }) x.1) (zero-add x.0.dims)
  where
    ok : FieldType → List ℕ → Result (FieldType × List ℕ) ℕ
    ok t rest = Ok (t, rest)
behind_none (Err left) = refl
