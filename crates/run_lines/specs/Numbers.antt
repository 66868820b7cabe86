-- Numbers are written as they are printed: without a leading zero but for 0, and with one - before a negative one.
use Rattle.std.specs.Prelude.{◌≡◌, ℕ, ◌<◌, ◌^◌, ℤ, FitsSigned}
use Rattle.std.specs.Int.{w32, w64}
use Rattle.std.specs.Fmt.{decimal, signed_decimal}
use Rattle.run_lines.specs.Splits.{Text}

abbrev pub IsInt : ℤ → Text → Type 0
IsInt n word = FitsSigned w32 n × (word ≡ signed_decimal n)

abbrev pub IsLong : ℤ → Text → Type 0
IsLong n word = FitsSigned w64 n × (word ≡ signed_decimal n)

-- a number of steps
abbrev pub IsSteps : ℕ → Text → Type 0
IsSteps n word = (n < 2 ^ 64) × (word ≡ decimal n)
