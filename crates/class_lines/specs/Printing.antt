-- How a line is printed.
use Rattle.std.specs.Prelude.{ℕ, zero, suc, ◌/◌, ◌%◌, ◌==◌, ◌||◌, if◌then◌else◌, List, [], ◌∷◌, ◌++◌, map, codes, Option, Some, None}
use Rattle.std.specs.List.{flat_map}
use Rattle.std.specs.Char.{digit_char}
use Rattle.std.specs.Fmt.{decimal, signed_decimal}
use Rattle.opcode_table.specs.Table.{mnemonic_of}
use Rattle.class_file.specs.Text.{within}
use Rattle.class_lines.specs.declared.line.Line.{Line}
use Rattle.class_lines.specs.declared.line.MemberHead.{MemberHead}
use Rattle.class_lines.specs.declared.line.Operation.{Operation}
use Rattle.class_lines.specs.declared.line.Constant.{Constant}
use Rattle.class_lines.specs.declared.line.Case.{Case}
use Rattle.class_lines.specs.Words.{Text}
use Rattle.class_lines.specs.Units.{units_of}

-- a word behind a blank
abbrev pub spaced : Text → Text
spaced word = 32 ∷ word

abbrev pub all_spaced : List Text → Text
all_spaced words = flat_map spaced words

-- ---- numbers

abbrev pub hex_digit : ℕ → ℕ
hex_digit n = digit_char n

-- so many digits of a number in base 16, from the last on
unfoldable pub hex_digits : ℕ → ℕ → Text
hex_digits zero n = []
hex_digits (suc count) n = hex_digits count (n / 16) ++ hex_digit (n % 16) ∷ []

-- ---- constants

-- A UTF-16 unit of a text between quotes: a quote, a backslash and a line feed stand behind a backslash, and units below 32 and above 126 are written by four digits.
abbrev pub escape : ℕ → Text
escape u =
    if u == 34 || u == 92 then 92 ∷ u ∷ [] else
    (if u == 10 then codes "\\n" else
    (if within 32 127 u then u ∷ [] else codes "\\u" ++ hex_digits 4 u))

-- a text in modified UTF-8, unit by unit
abbrev pub quote : Text → Text
quote text = 34 ∷ flat_map escape (units_of text) ++ 34 ∷ []

abbrev pub constant_text : Constant → Text
constant_text (Constant.Int n) = signed_decimal n
constant_text (Constant.Float bits) = codes "float:" ++ hex_digits 8 bits
constant_text (Constant.Text text) = quote text
constant_text (Constant.Class class) = class

-- ---- instructions

-- a key and its label
abbrev pub case_text : Case → Text
case_text c = signed_decimal c.key ++ 58 ∷ c.label

abbrev pub default_text : Text → Text
default_text label = all_spaced (codes "default" ∷ label ∷ [])

-- the opcode of the instruction
abbrev pub op_of : Operation → ℕ
op_of (Operation.Plain op) = op
op_of (Operation.Bipush value) = 16
op_of (Operation.Sipush value) = 17
op_of (Operation.Local op index) = op
op_of (Operation.Iinc index by) = 132
op_of (Operation.Constant op constant) = op
op_of (Operation.Long n) = 20
op_of (Operation.Double bits) = 20
op_of (Operation.Member op class name descriptor) = op
op_of (Operation.Class op class) = op
op_of (Operation.NewArray code) = 188
op_of (Operation.Multi class dims) = 197
op_of (Operation.Branch op to) = op
op_of (Operation.TableSwitch low labels default) = 170
op_of (Operation.LookupSwitch cases default) = 171

-- its operands, each behind a blank
abbrev pub operands_text : Operation → Text
operands_text (Operation.Plain op) = []
operands_text (Operation.Bipush value) = spaced (signed_decimal value)
operands_text (Operation.Sipush value) = spaced (signed_decimal value)
operands_text (Operation.Local op index) = spaced (decimal index)
operands_text (Operation.Iinc index by) = all_spaced (decimal index ∷ signed_decimal by ∷ [])
operands_text (Operation.Constant op constant) = spaced (constant_text constant)
operands_text (Operation.Long n) = spaced (signed_decimal n)
operands_text (Operation.Double bits) = spaced (codes "double:" ++ hex_digits 16 bits)
operands_text (Operation.Member op class name descriptor) = all_spaced (class ∷ name ∷ descriptor ∷ [])
operands_text (Operation.Class op class) = spaced class
operands_text (Operation.NewArray code) = spaced (decimal code)
operands_text (Operation.Multi class dims) = all_spaced (class ∷ decimal dims ∷ [])
operands_text (Operation.Branch op to) = spaced to
operands_text (Operation.TableSwitch low labels default) = spaced (signed_decimal low) ++ all_spaced labels ++ default_text default
operands_text (Operation.LookupSwitch cases default) = all_spaced (map case_text cases) ++ default_text default

-- a mnemonic and its operands, behind a blank
abbrev pub operation_text : Operation → Text
operation_text o = spaced (mnemonic_of (op_of o)) ++ operands_text o

-- ---- lines

abbrev pub natural_text : Text → ℕ → Text
natural_text word n = spaced word ++ spaced (decimal n)

abbrev pub head_text : MemberHead → Text
head_text head = all_spaced (head.name ∷ head.descriptor ∷ []) ++ natural_text (codes "flags") head.flags

abbrev pub interfaces_text : List Text → Text
interfaces_text [] = []
interfaces_text (name ∷ names) = all_spaced (codes "interface" ∷ name ∷ names)

abbrev pub label_text : Option Text → Text
label_text None = []
label_text (Some label) = spaced (label ++ 58 ∷ [])

abbrev pub caught_text : Option Text → Text
caught_text None = codes "any"
caught_text (Some class) = class

-- a line without its line feed
abbrev pub line_text : Line → Text
line_text (Line.Class name super version flags interfaces) =
    codes "class" ++ all_spaced (name ∷ codes "super" ∷ super ∷ []) ++ natural_text (codes "version") version ++ natural_text (codes "flags") flags ++ interfaces_text interfaces
line_text (Line.Field head) = codes "field" ++ head_text head
line_text (Line.Method head stack locals) = codes "method" ++ head_text head ++ natural_text (codes "stack") stack ++ natural_text (codes "locals") locals
line_text (Line.Bare head) = codes "method" ++ head_text head ++ spaced (codes "none")
line_text (Line.Step label operation) = 32 ∷ label_text label ++ operation_text operation
line_text (Line.Catch from to handler class) = 32 ∷ all_spaced (codes "catch" ∷ from ∷ to ∷ handler ∷ caught_text class ∷ [])
line_text Line.End = codes "end"
