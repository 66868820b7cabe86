-- The bytes of a character in UTF-8.
use Rattle.std.proofs.Common.{◌≡◌, ℕ, ◌+◌, ◌-◌, ◌*◌, ◌/◌, ◌%◌, ◌<◌, ◌≤◌, inl, inr, Bool, true, cond, leb, ltb, ◌&&◌, List, [], ◌∷◌, ◌++◌, IsUtf8, ap, ap₂, subst, ◌∙◌, arith}
use Rattle.std.proofs.lemmas.Bool.{lt-ltb, le-ltb, le-leb, cases_lt, cases_eq}
use Rattle.std.proofs.lemmas.Str.{IsUtf8-encode, IsUtf8-append, encode_ascii}
use Rattle.std.proofs.Math.Utf8.{scalar, encode, low_scalar}
use Rattle.jp_model.specs.Headline.{four_bytes}

abbrev two : ℕ → ℕ → List ℕ
two a b = a ∷ b ∷ []

abbrev three : ℕ → ℕ → ℕ → List ℕ
three a b c = a ∷ b ∷ c ∷ []

-- what is encoded below and above a bound
below : (c bound : ℕ) (x y : List ℕ) → c < bound → cond (ltb c bound) x y ≡ x
below c bound x y h = ap (λ (b : Bool). cond b x y) (lt-ltb c bound h)

above : (c bound : ℕ) (x y : List ℕ) → bound ≤ c → cond (ltb c bound) x y ≡ y
above c bound x y h = ap (λ (b : Bool). cond b x y) (le-ltb c bound h)

high_scalar : (c : ℕ) → 57344 ≤ c → c < 1114112 → scalar c ≡ true
high_scalar c low high =
    ap (λ (b : Bool). cond b true (leb 57344 c && ltb c 1114112)) (le-ltb c 55296 (omega arith))
    ∙ ap (λ (b : Bool). b && ltb c 1114112) (le-leb 57344 c low) ∙ lt-ltb c 1114112 high

pub one_byte : (a : ℕ) (rest : List ℕ) → a < 128 → IsUtf8 rest → IsUtf8 (a ∷ rest)
one_byte a rest small u = IsUtf8-append (a ∷ []) rest (subst IsUtf8 (encode_ascii a small) (IsUtf8-encode a (low_scalar a (omega arith)))) u

encode_two : (x y : ℕ) → 2 ≤ x → x < 32 → y < 64 → encode (x * 64 + y) ≡ two (192 + x) (128 + y)
unfolding encode
encode_two x y low high small =
    let n = x * 64 + y in
    let head : n / 64 ≡ x = omega arith in
    let tail : n % 64 ≡ y = omega arith in
    above n 128 _ _ (omega arith) ∙ below n 2048 _ _ (omega arith) ∙ ap₂ two (ap (λ (k : ℕ). 192 + k) head) (ap (λ (k : ℕ). 128 + k) tail)

pub two_bytes : (a b : ℕ) (rest : List ℕ) → 194 ≤ a → a < 224 → 128 ≤ b → b < 192 → IsUtf8 rest → IsUtf8 (a ∷ b ∷ rest)
two_bytes a b rest la ha lb hb u =
    let x = a - 192 in
    let y = b - 128 in
    let n = x * 64 + y in
    let small : n < 55296 = omega arith in
    let first : 192 + x ≡ a = omega arith in
    let second : 128 + y ≡ b = omega arith in
    let bytes : encode n ≡ two a b = encode_two x y (omega arith) (omega arith) (omega arith) ∙ ap₂ two first second in
    IsUtf8-append (a ∷ b ∷ []) rest (subst IsUtf8 bytes (IsUtf8-encode n (low_scalar n small))) u

encode_three : (x y z : ℕ) → x < 16 → y < 64 → z < 64 → 2048 ≤ (x * 64 + y) * 64 + z → encode ((x * 64 + y) * 64 + z) ≡ three (224 + x) (128 + y) (128 + z)
unfolding encode
encode_three x y z hx hy hz low =
    let n = (x * 64 + y) * 64 + z in
    let head : n / 4096 ≡ x = omega arith in
    let up : n / 64 ≡ x * 64 + y = omega arith in
    let middle : n / 64 % 64 ≡ y = ap (λ (k : ℕ). k % 64) up ∙ (let e : (x * 64 + y) % 64 ≡ y = omega arith in e) in
    let tail : n % 64 ≡ z = omega arith in
    above n 128 _ _ (omega arith) ∙ above n 2048 _ _ low ∙ below n 65536 _ _ (omega arith)
    ∙ ap (λ (k : ℕ). three (224 + k) (128 + n / 64 % 64) (128 + n % 64)) head
    ∙ ap (λ (k : ℕ). three (224 + x) (128 + k) (128 + n % 64)) middle
    ∙ ap (λ (k : ℕ). three (224 + x) (128 + y) (128 + k)) tail

pub three_bytes : (a b c : ℕ) (rest : List ℕ) → 224 ≤ a → a < 240 → 128 ≤ b → b < 192 → (a ≡ 224 → 160 ≤ b) → (a ≡ 237 → b < 160) → 128 ≤ c → c < 192 → IsUtf8 rest → IsUtf8 (a ∷ b ∷ c ∷ rest)
three_bytes a b c rest la ha lb hb least most lc hc u =
    let x = a - 224 in
    let y = b - 128 in
    let z = c - 128 in
    let n = (x * 64 + y) * 64 + z in
    let first : 224 + x ≡ a = omega arith in
    let second : 128 + y ≡ b = omega arith in
    let third : 128 + z ≡ c = omega arith in
    let low : 2048 ≤ n = elim (cases_eq a 224) [ inl e ↦ let h : 160 ≤ b = least e in omega arith | inr o ↦ omega arith ] in
    let bytes : encode n ≡ three a b c =
    encode_three x y z (omega arith) (omega arith) (omega arith) low ∙ ap (λ (k : ℕ). three k (128 + y) (128 + z)) first ∙ ap (λ (k : ℕ). three a k (128 + z)) second ∙ ap (λ (k : ℕ). three a b k) third in
    IsUtf8-append (a ∷ b ∷ c ∷ []) rest (subst IsUtf8 bytes (IsUtf8-encode n (is_scalar x y z a b la ha first second least most (omega arith) (omega arith)))) u
  where
    is_scalar : (x y z a b : ℕ) → 224 ≤ a → a < 240 → 224 + x ≡ a → 128 + y ≡ b → (a ≡ 224 → 160 ≤ b) → (a ≡ 237 → b < 160) → y < 64 → z < 64 → scalar ((x * 64 + y) * 64 + z) ≡ true
    is_scalar x y z a b la ha first second least most hy hz =
        elim (cases_lt a 237) [
          | inl h ↦ low_scalar ((x * 64 + y) * 64 + z) (omega arith)
          | inr h ↦ elim (cases_eq a 237) [
            | inl e ↦ let i : b < 160 = most e in low_scalar ((x * 64 + y) * 64 + z) (omega arith)
            | inr o ↦ high_scalar ((x * 64 + y) * 64 + z) (omega arith) (omega arith)
          ]
        ]

encode_four : (high low : ℕ) → high < 1024 → low < 1024 → encode (65536 + (high * 1024 + low)) ≡ four_bytes high low
unfolding encode
encode_four high low hh hl =
    let n = 65536 + (high * 1024 + low) in
    above n 128 _ _ (omega arith) ∙ above n 2048 _ _ (omega arith) ∙ above n 65536 _ _ (omega arith)

pub four_bytes_are : (high low : ℕ) (rest : List ℕ) → high < 1024 → low < 1024 → IsUtf8 rest → IsUtf8 (four_bytes high low ++ rest)
four_bytes_are high low rest hh hl u =
    let n = 65536 + (high * 1024 + low) in
    IsUtf8-append (four_bytes high low) rest (subst IsUtf8 (encode_four high low hh hl) (IsUtf8-encode n (high_scalar n (omega arith) (omega arith)))) u
