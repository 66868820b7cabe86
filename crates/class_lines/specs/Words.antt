-- Words, and reading them from left to right.
use Rattle.std.specs.Prelude.{◌≡◌, ℕ, ◌==◌, Bool, false, not, ◌&&◌, nat_le, nat_lt, if◌then◌else◌, List, [], ◌∷◌, length, map, Option, Some, None, Result, Ok, Err, option_map, ℤ}
use Rattle.std.proofs.Common.{Bor}
use Rattle.std.specs.List.{list_all}
use Rattle.std.specs.Str.{bytes_eq}
use Rattle.class_file.specs.Text.{is_class_name, is_internal_name, is_member_name, is_field_descriptor, is_method_descriptor}
use Rattle.class_lines.specs.Fields.{is_inside}
use Rattle.class_lines.specs.Numbers.{natural, integer}
use Rattle.class_lines.specs.declared.fault.LineFault.{LineFault}
use Rattle.class_lines.specs.declared.fault.LineFault.TheVariants as faults
use Rattle.class_lines.specs.declared.words.WordKind.{WordKind}

infixl 10 ◌>>=◌
abbrev pub ◌>>=◌ : {A B : Type 0} → Option A → (A → Option B) → Option B
None >>= f = None
(Some x) >>= f = f x

-- the result is what is found, or Form where nothing is, unless memory ran out
abbrev pub GivesAs : {X Y : Type 0} → (X → Y) → Result X LineFault → Option Y → Type 0
GivesAs view (Ok x) found = found ≡ Some (view x)
GivesAs view (Err faults.Form) found = found ≡ None
GivesAs view (Err faults.Memory) found = Unit {0}

abbrev pub Gives : {X : Type 0} → Result X LineFault → Option X → Type 0
Gives result found = GivesAs (λ x. x) result found

abbrev pub Text : Type 0
Text = List ℕ

-- the words that are borrowed
abbrev pub texts : List (Bor (List ℕ)) → List Text
texts words = map (λ w. w.now) words

abbrev pub with_texts : {X : Type 0} → X × Bor (List (Bor (List ℕ))) → X × List Text
with_texts x = (x.0, texts x.1.now)

-- ---- words

abbrev pub is_label_byte : ℕ → Bool
is_label_byte b = not (b == 58)

-- a label has a byte and no colon
unfoldable pub is_label : Text → Bool
is_label word = nat_lt 0 (length word) && list_all is_label_byte word

unfoldable pub is_of_kind : WordKind → Text → Bool
is_of_kind WordKind.ClassName word = is_class_name word
is_of_kind WordKind.TypeName word = is_internal_name word
is_of_kind WordKind.MemberName word = is_member_name word
is_of_kind WordKind.FieldDescriptor word = is_field_descriptor word
is_of_kind WordKind.MethodDescriptor word = is_method_descriptor word
is_of_kind WordKind.Label word = is_label word

-- a word has no blank, and doesn't begin as a text in quotes
abbrev pub is_plain : Text → Bool
is_plain [] = false
is_plain (b ∷ word) = not (b == 34) && list_all is_inside (b ∷ word)

-- the word is no longer than a text of a class file may be (JVMS 4.4.7), and of the kind
unfoldable pub fits : WordKind → Text → Bool
fits kind word = is_plain word && (nat_le (length word) 65535 && is_of_kind kind word)

-- the words behind this one
unfoldable pub keyword_at : Text → List Text → Option (List Text)
keyword_at word [] = None
keyword_at word (w ∷ words) = if bytes_eq w word then Some words else None

-- a word of the kind, and those behind it
unfoldable pub word_at : WordKind → List Text → Option (Text × List Text)
word_at kind [] = None
word_at kind (w ∷ words) = if fits kind w then Some (w, words) else None

-- this, where no word is left
abbrev pub ended : {X : Type 0} → List Text → X → Option X
ended [] x = Some x
ended (w ∷ words) x = None

-- the words, if each is of the kind
unfoldable pub words_at : WordKind → List Text → Option (List Text)
words_at kind words = if list_all (fits kind) words then Some words else None

-- ---- numbers

unfoldable pub natural_at : ℕ → List Text → Option (ℕ × List Text)
natural_at most [] = None
natural_at most (w ∷ words) = option_map (λ n. (n, words)) (natural most w)

unfoldable pub integer_at : ℕ → List Text → Option (ℤ × List Text)
integer_at most [] = None
integer_at most (w ∷ words) = option_map (λ n. (n, words)) (integer most w)

-- a word, and then a number
unfoldable pub number_after : Text → ℕ → List Text → Option (ℕ × List Text)
number_after word most words = keyword_at word words >>= natural_at most
