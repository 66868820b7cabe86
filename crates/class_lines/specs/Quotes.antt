-- Texts in quotes: the bytes of modified UTF-8 that they stand for (JVMS 4.4.7).
use Rattle.std.specs.Prelude.{ℕ, zero, suc, ◌-◌, ◌==◌, Bool, ◌&&◌, ◌||◌, nat_le, nat_lt, if◌then◌else◌, List, [], ◌∷◌, ◌++◌, length, take, drop, slice_index, Option, Some, None, option_map}
use Rattle.aj_names.specs.ModifiedUtf8.{unit_spelling}
use Rattle.class_file.specs.Text.{is_utf8}
use Rattle.class_lines.specs.Numbers.{hexadecimal}
use Rattle.class_lines.specs.Words.{◌>>=◌}
use Rattle.class_lines.specs.declared.quotes.Piece.{Piece}

-- The unit that a letter or a sign stands for behind a backslash: a line feed, a tab, a carriage return, a backspace, a form feed, a quote, an apostrophe or a backslash.
abbrev pub escaped : ℕ → Option ℕ
escaped b =
    if b == 110 then Some 10 else
    (if b == 116 then Some 9 else
    (if b == 114 then Some 13 else
    (if b == 98 then Some 8 else
    (if b == 102 then Some 12 else
    (if b == 34 || (b == 39 || b == 92) then Some b else None)))))

-- the bytes that a piece stands for
abbrev pub piece_bytes : Piece → List ℕ
piece_bytes (Piece.Byte b) = b ∷ []
piece_bytes (Piece.Unit u) = unit_spelling u

-- a unit, and what is written behind it
abbrev pub with_unit : List ℕ → Option ℕ → Option (Piece × List ℕ)
with_unit rest unit = option_map (λ u. (Piece.Unit u, rest)) unit

-- four digits
abbrev pub digits_at : List ℕ → Option (Piece × List ℕ)
digits_at bytes = with_unit (drop 4 bytes) (hexadecimal 4 0xFFFF (take 4 bytes))

unfoldable pub escape_at : List ℕ → Option (Piece × List ℕ)
escape_at [] = None
escape_at (b ∷ rest) = if b == 117 then digits_at rest else with_unit rest (escaped b)

-- the piece at the front, and what is written behind it
unfoldable pub piece_at : List ℕ → Option (Piece × List ℕ)
piece_at [] = None
piece_at (b ∷ rest) =
    if b == 92 then escape_at rest else
    (if b == 34 then None else Some (Piece.Byte b, rest))

-- the pieces are no more than turns
abbrev pub pieces : ℕ → List ℕ → Option (List ℕ)
pieces turns [] = Some []
pieces zero (b ∷ rest) = None
pieces (suc turns) (b ∷ rest) = piece_at (b ∷ rest) >>= (λ piece. option_map (λ more. piece_bytes piece.0 ++ more) (pieces turns piece.1))

-- what is written between quotes, as the bytes that it stands for
abbrev pub unescaped : List ℕ → Option (List ℕ)
unescaped written = pieces (length written) written

-- what stands between two quotes
unfoldable pub inside_quotes : List ℕ → Option (List ℕ)
inside_quotes [] = None
inside_quotes (b ∷ rest) =
    if b == 34 && (nat_lt 0 (length rest) && slice_index rest (length rest - 1) == 34)
    then Some (take (length rest - 1) rest) else None

-- a text that a class file may hold
unfoldable pub is_text : List ℕ → Bool
is_text text = nat_le (length text) 65535 && is_utf8 text

-- the text of a word in quotes
unfoldable pub quoted : List ℕ → Option (List ℕ)
quoted word = inside_quotes word >>= unescaped >>= (λ text. if is_text text then Some text else None)
