-- Numbers of class text.
use Rattle.std.specs.Prelude.{◌≡◌, ℕ, suc, ◌==◌, Bool, ◌&&◌, nat_le, nat_lt, if◌then◌else◌, List, [], ◌∷◌, length, codes, Option, Some, None, option_map, ℤ, pos, neg_ℤ, refl}
use Rattle.std.specs.List.{list_all}
use Rattle.std.specs.Char.{digit_value}
use Rattle.std.specs.Str.Parse.{digits_value}

abbrev pub is_digit : ℕ → ℕ → Bool
is_digit radix byte = nat_lt (digit_value byte) radix

-- a number of one digit or more of the radix, of at most this value
unfoldable pub number : ℕ → ℕ → List ℕ → Option ℕ
number radix most digits =
    if nat_lt 0 (length digits) && (list_all (is_digit radix) digits && nat_le (digits_value radix digits) most)
    then Some (digits_value radix digits) else None

-- a decimal number of at most this value
abbrev pub natural : ℕ → List ℕ → Option ℕ
natural most word = number 10 most word

-- a decimal number from - (most + 1) to most
unfoldable pub integer : ℕ → List ℕ → Option ℤ
integer most [] = None
integer most (b ∷ digits) =
    if b == 45 then option_map (λ n. neg_ℤ (pos n)) (natural (suc most) digits)
    else option_map pos (natural most (b ∷ digits))

-- so many digits of a number in base 16, of at most this value
unfoldable pub hexadecimal : ℕ → ℕ → List ℕ → Option ℕ
hexadecimal count most word = if length word == count then number 16 most word else None

-- ---- examples

zeros : natural 65535 (codes "0065535") ≡ Some 65535
unfolding number
zeros = refl

past : natural 65535 (codes "65536") ≡ None
unfolding number
past = refl

signed : integer 127 (codes "-128") ≡ Some (neg_ℤ (pos 128))
unfolding number integer
signed = refl

no_plus : integer 127 (codes "+1") ≡ None
unfolding number integer
no_plus = refl

bits : hexadecimal 8 0xFFFFFFFF (codes "3F800000") ≡ Some 0x3F800000
unfolding number hexadecimal
bits = refl
