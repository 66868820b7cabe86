-- Numbers as they are written.
use Rattle.std.proofs.Common.{◌≡◌, ℕ, suc, ◌^◌, ◌<◌, ◌≤◌, [], ◌∷◌, ◌++◌, Result, Ok, Err, sym, ap, subst, ◌∙◌, length, arith}
use Rattle.std.specs.Prelude.{ℤ, pos, negsuc, FitsSigned}
use Rattle.std.specs.Int.{w32, w64}
use Rattle.std.specs.Str.{IsUtf8}
use mir.Syntax.{Width}
use mir.Val.{to_z, of_z}
use Rattle.std.proofs.lemmas.Int.{to_z-of_z}
use Rattle.std.specs.Str.Parse.{AllDigits, ParsesSigned, ParsesUnsigned}
use Rattle.std.specs.Fmt.{decimal, signed_decimal}
use Rattle.std.proofs.lemmas.Fmt.{decimal_is_IsNumeral, IsAscii-signed, IsAscii-decimal, parse-signed_decimal, parse-decimal}
use Rattle.std.proofs.lemmas.Str.{IsUtf8-from_ascii}
use Rattle.std.proofs.lemmas.Str.Parse.{digit_from_value}
use lib.Signed.{mag}
use Rattle.run_lines.specs.Splits.{Text}
use Rattle.run_lines.specs.Numbers.{IsInt, IsLong, IsSteps}

pub int_small : (n : ℤ) → FitsSigned w32 n → mag n < 2 ^ 63
int_small n h = omega (arith, h.sfits)

pub long_small : (n : ℤ) → FitsSigned w64 n → mag n < 2 ^ 63
long_small n h = omega (arith, h.sfits)

pub int_utf8 : (n : ℤ) (word : Text) → IsInt n word → IsUtf8 word
int_utf8 n word h = subst IsUtf8 (sym h.1) (IsUtf8-from_ascii (signed_decimal n) (IsAscii-signed n (int_small n h.0)))

pub long_utf8 : (n : ℤ) (word : Text) → IsLong n word → IsUtf8 word
long_utf8 n word h = subst IsUtf8 (sym h.1) (IsUtf8-from_ascii (signed_decimal n) (IsAscii-signed n (long_small n h.0)))

pub steps_utf8 : (n : ℕ) (word : Text) → IsSteps n word → IsUtf8 word
steps_utf8 n word h = subst IsUtf8 (sym h.1) (IsUtf8-from_ascii (decimal n) (IsAscii-decimal n h.0))

-- ---- the bytes of a number

-- a digit, a minus, or between them
abbrev pub IsNumberByte : ℕ → Type 0
IsNumberByte b = (45 ≤ b) × (b ≤ 57)

abbrev pub AreNumberBytes : Text → Type 0
AreNumberBytes [] = Unit {0}
AreNumberBytes (b ∷ bs) = IsNumberByte b × AreNumberBytes bs

digits_are : (ds : Text) → AllDigits 10 ds → AreNumberBytes ds
digits_are [] h = tt
digits_are (d ∷ ds) h = let range = digit_from_value d h.0 in ((omega (arith, range.0), omega (arith, range.1)), digits_are ds h.1)

pub signed_are : (z : ℤ) → mag z < 2 ^ 63 → AreNumberBytes (signed_decimal z)
signed_are (pos n) h = digits_are (decimal n) (decimal_is_IsNumeral n (omega arith)).0.1
signed_are (negsuc n) h = ((omega arith, omega arith), digits_are (decimal (suc n)) (decimal_is_IsNumeral (suc n) (omega arith)).0.1)

pub signed_some : (z : ℤ) → mag z < 2 ^ 63 → 0 < length (signed_decimal z)
signed_some (pos n) h = (decimal_is_IsNumeral n (omega arith)).0.0
signed_some (negsuc n) h = omega arith

-- no other byte is the first or the last one
pub number_first : (bs t : Text) (c : ℕ) → AreNumberBytes bs → bs ≡ c ∷ t → IsNumberByte c
number_first [] t c h e = let no : ⊥ = cc in absurd no
number_first (b ∷ bs) t c h e = let same : b ≡ c = cc in subst IsNumberByte same h.0

pub number_last : (bs t : Text) (c : ℕ) → AreNumberBytes bs → bs ≡ t ++ c ∷ [] → IsNumberByte c
number_last [] [] c h e = let no : ⊥ = cc in absurd no
number_last [] (x ∷ t) c h e = let no : ⊥ = cc in absurd no
number_last (b ∷ bs) [] c h e = let same : b ≡ c = cc in subst IsNumberByte same h.0
number_last (b ∷ bs) (x ∷ t) c h e = let same : bs ≡ t ++ c ∷ [] = cc in number_last bs t c h.1 same

pub number_starts : (bs rest t : Text) (c : ℕ) → AreNumberBytes bs → 0 < length bs → bs ++ rest ≡ c ∷ t → IsNumberByte c
number_starts [] rest t c h some e = absurd (omega arith)
number_starts (b ∷ bs) rest t c h some e = let same : b ≡ c = cc in subst IsNumberByte same h.0

-- ---- what parsing a word gives

module _ (w : Width) (small : (z : ℤ) → FitsSigned w z → mag z < 2 ^ 63) where
  abbrev IsSigned : ℤ → Text → Type 0
  IsSigned n word = FitsSigned w n × (word ≡ signed_decimal n)

  pub parses : (n : ℤ) (word bs : Text) (r : Result ℤ ℕ) → IsSigned n word → bs ≡ word → ParsesSigned {E = ℕ} w 10 bs r → r ≡ Ok n
  parses n word bs r h e p = parse-signed_decimal w n bs r h.0 (small n h.0) (e ∙ h.1) p

  pub unparsed : (word bs : Text) → bs ≡ word → ParsesSigned {E = ℕ} w 10 bs (Err 0) → (n : ℤ) → ¬ (IsSigned n word)
  unparsed word bs e p n h = let same : ◌≡◌ {A = Result ℤ ℕ} (Err 0) (Ok n) = parses n word bs (Err 0) h e p in let no : ⊥ = cc in no

  parsed_fits : (bs : Text) (n : ℤ) → ParsesSigned {E = ℕ} w 10 bs (Ok n) → FitsSigned w n
  parsed_fits bs n p = subst (FitsSigned w) (sym p.1) p.0.1

  same_number : (word bs : Text) (n y : ℤ) → bs ≡ word → ParsesSigned {E = ℕ} w 10 bs (Ok n) → IsSigned y word → y ≡ n
  same_number word bs n y e p h = let same : ◌≡◌ {A = Result ℤ ℕ} (Ok n) (Ok y) = parses y word bs (Ok n) h e p in cc

  pub number_read : (word bs out : Text) (n m : ℤ) → bs ≡ word → ParsesSigned {E = ℕ} w 10 bs (Ok n) → m ≡ to_z w (of_z w n) → out ≡ signed_decimal m → out ≡ word → IsSigned m word × ((y : ℤ) → IsSigned y word → y ≡ m)
  number_read word bs out n m e p is printed same =
      let fits = parsed_fits bs n p in
      let whole : m ≡ n = is ∙ to_z-of_z w n fits in
      ((subst (FitsSigned w) (sym whole) fits, sym same ∙ printed), λ y h. same_number word bs n y e p h ∙ sym whole)

  pub number_unread : (word bs out : Text) (n m : ℤ) → bs ≡ word → ParsesSigned {E = ℕ} w 10 bs (Ok n) → m ≡ to_z w (of_z w n) → out ≡ signed_decimal m → ¬ (out ≡ word) → (y : ℤ) → ¬ (IsSigned y word)
  number_unread word bs out n m e p is printed other y h =
      let whole : m ≡ n = is ∙ to_z-of_z w n (parsed_fits bs n p) in
      other (printed ∙ ap signed_decimal (whole ∙ sym (same_number word bs n y e p h)) ∙ sym h.1)

pub steps_parse : (n : ℕ) (word bs : Text) (r : Result ℕ ℕ) → IsSteps n word → bs ≡ word → ParsesUnsigned {E = ℕ} 64 10 bs r → r ≡ Ok n
steps_parse n word bs r h e p = parse-decimal 64 n bs r h.0 h.0 (e ∙ h.1) p

pub steps_unparsed : (word bs : Text) → bs ≡ word → ParsesUnsigned {E = ℕ} 64 10 bs (Err 0) → (n : ℕ) → ¬ (IsSteps n word)
steps_unparsed word bs e p n h = let same : ◌≡◌ {A = Result ℕ ℕ} (Err 0) (Ok n) = steps_parse n word bs (Err 0) h e p in let no : ⊥ = cc in no

same_steps : (word bs : Text) (n y : ℕ) → bs ≡ word → ParsesUnsigned {E = ℕ} 64 10 bs (Ok n) → IsSteps y word → y ≡ n
same_steps word bs n y e p h = let same : ◌≡◌ {A = Result ℕ ℕ} (Ok n) (Ok y) = steps_parse y word bs (Ok n) h e p in cc

pub steps_read : (word bs out : Text) (n : ℕ) → bs ≡ word → ParsesUnsigned {E = ℕ} 64 10 bs (Ok n) → out ≡ decimal n → out ≡ word → IsSteps n word × ((y : ℕ) → IsSteps y word → y ≡ n)
steps_read word bs out n e p printed same = ((subst (λ (v : ℕ). v < 2 ^ 64) (sym p.1) p.0.1, sym same ∙ printed), λ y h. same_steps word bs n y e p h)

pub steps_unread : (word bs out : Text) (n : ℕ) → bs ≡ word → ParsesUnsigned {E = ℕ} 64 10 bs (Ok n) → out ≡ decimal n → ¬ (out ≡ word) → (y : ℕ) → ¬ (IsSteps y word)
steps_unread word bs out n e p printed other y h = other (printed ∙ ap decimal (sym (same_steps word bs n y e p h)) ∙ sym h.1)
