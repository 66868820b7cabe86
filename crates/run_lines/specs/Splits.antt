-- Where a text is cut.
use Rattle.std.specs.Prelude.{◌≡◌, ℕ, ◌==◌, ◌||◌, Bool, true, false, List, ◌∷◌, ◌++◌}
use Rattle.std.specs.List.{list_any}

abbrev pub Text : Type 0
Text = List ℕ

-- the byte is among these
abbrev pub has : ℕ → Text → Bool
has byte text = list_any (λ b. b == byte) text

-- the first such byte stands between these
pub record IsFirstSplit (byte : ℕ) (text before behind : Text) : Type 0 where
  pub whole : text ≡ before ++ byte ∷ behind
  pub first : has byte before ≡ false

-- the last such byte stands between these
pub record IsLastSplit (byte : ℕ) (text before behind : Text) : Type 0 where
  pub whole : text ≡ before ++ byte ∷ behind
  pub last : has byte behind ≡ false

-- a comma or a closing bracket
abbrev pub is_stop : ℕ → Bool
is_stop b = b == 44 || b == 41

-- the first stop begins what stands behind
pub record IsStopSplit (text before behind : Text) : Type 0 where
  pub whole : text ≡ before ++ behind
  pub first : list_any is_stop before ≡ false
  pub stop : ℕ
  pub is_stop : is_stop stop ≡ true
  pub more : Text
  pub begins : behind ≡ stop ∷ more
