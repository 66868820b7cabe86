-- The lines of a class, a field and a method.
use Rattle.std.specs.Prelude.{ℕ, ◌==◌, Bool, nat_le, if◌then◌else◌, List, [], ◌∷◌, codes, bit_and, bit_or, Option, Some, None}
use Rattle.std.specs.Option.{option_or}
use Rattle.std.specs.Str.{bytes_eq}
use Rattle.class_file.specs.Text.{is_method_descriptor_with}
use Rattle.class_lines.specs.declared.line.Line.{Line}
use Rattle.class_lines.specs.declared.line.MemberHead.{MemberHead}
use Rattle.class_lines.specs.declared.words.WordKind.{WordKind}
use Rattle.class_lines.specs.Words.{◌>>=◌, Text, keyword_at, word_at, words_at, natural_at, number_after, ended}

-- `flags N`, or what holds without it
unfoldable pub flags_at : ℕ → List Text → Option (ℕ × List Text)
flags_at default [] = Some (default, [])
flags_at default (w ∷ words) = if bytes_eq w (codes "flags") then natural_at 65535 words else Some (default, w ∷ words)

-- `interface NAME {NAME}`, or nothing
unfoldable pub interfaces_at : List Text → Option (List Text)
interfaces_at [] = Some []
interfaces_at (w ∷ []) = None
interfaces_at (w ∷ v ∷ words) = if bytes_eq w (codes "interface") then words_at WordKind.ClassName (v ∷ words) else None

-- of Java 1.2 to 5
unfoldable pub version_at : List Text → Option (ℕ × List Text)
version_at words = number_after (codes "version") 49 words >>= (λ v. if nat_le 46 v.0 then Some v else None)

-- behind `class`
unfoldable pub class_at : List Text → Option Line
class_at words = do
  name ← word_at WordKind.ClassName words
  super ← keyword_at (codes "super") name.1
  super_name ← word_at WordKind.ClassName super
  version ← version_at super_name.1
  flags ← flags_at 0x21 version.1
  interfaces ← interfaces_at flags.1
  Some (Line.Class name.0 super_name.0 version.0 flags.0 interfaces)

-- the name and the descriptor of a member, and its flags, to which some are added
unfoldable pub head_at : WordKind → ℕ → List Text → Option (MemberHead × List Text)
head_at kind added words = do
  name ← word_at WordKind.MemberName words
  descriptor ← word_at kind name.1
  flags ← flags_at 1 descriptor.1
  Some (record { name = name.0; descriptor = descriptor.0; flags = bit_or flags.0 added }, flags.1)

unfoldable pub field_at : ℕ → List Text → Option Line
field_at added words = do
  head ← head_at WordKind.FieldDescriptor added words
  ended head.1 (Line.Field head.0)

-- a method's receiver and parameters take at most 255 slots; 8 is static
unfoldable pub takes_few : MemberHead → Bool
takes_few head = is_method_descriptor_with (if bit_and head.flags 8 == 0 then 1 else 0) head.descriptor

unfoldable pub method_at : ℕ → List Text → Option Line
method_at added words = do
  head ← head_at WordKind.MethodDescriptor added words
  stack ← number_after (codes "stack") 65535 head.1
  locals ← number_after (codes "locals") 65535 stack.1
  line ← ended locals.1 (Line.Method head.0 stack.0 locals.0)
  if takes_few head.0 then Some line else None

abbrev pub bare_of : MemberHead → List Text → Option Line
bare_of head words = do
  line ← ended words (Line.Bare head)
  if takes_few head then Some line else None

-- a method without code, whose flags are written
unfoldable pub bare_at : List Text → Option Line
bare_at words = do
  name ← word_at WordKind.MemberName words
  descriptor ← word_at WordKind.MethodDescriptor name.1
  flags ← number_after (codes "flags") 65535 descriptor.1
  rest ← keyword_at (codes "none") flags.1
  bare_of (record { name = name.0; descriptor = descriptor.0; flags = flags.0 }) rest

abbrev pub static_field_at : List Text → Option Line
static_field_at words = keyword_at (codes "static") words >>= field_at 8

abbrev pub static_method_at : List Text → Option Line
static_method_at words = keyword_at (codes "static") words >>= method_at 8

-- behind `field`: without or with `static`
unfoldable pub any_field_at : List Text → Option Line
any_field_at words = option_or (field_at 0 words) (static_field_at words)

-- behind `method`: with code, without or with `static`, or without code
unfoldable pub any_method_at : List Text → Option Line
any_method_at words = option_or (option_or (method_at 0 words) (static_method_at words)) (bare_at words)
