-- The heads of classes, fields and methods that are printed are read again.
use Rattle.std.proofs.Common.{◌≡◌, ℕ, ◌^◌, ◌<◌, ◌≤◌, Bool, true, false, ◌&&◌, List, [], ◌∷◌, ◌++◌, length, Some, None, refl, sym, ap, ◌∙◌, arith, inl, inr, append_assoc}
use Rattle.std.specs.Prelude.{if◌then◌else◌, nat_lt, nat_le, option_map, codes, ℤ}
use Rattle.std.specs.List.{list_all}
use Rattle.std.specs.Str.{bytes_eq}
use Rattle.std.specs.Fmt.{decimal, signed_decimal}
use Rattle.std.specs.Int.Bits.{or_zero_r}
use Rattle.std.proofs.lemmas.Bool.{and_parts, leb-true, ltb-true, cases_Bool}
use Rattle.std.proofs.lemmas.List.{append-nil}
use Rattle.class_file.specs.Text.{within}
use Rattle.class_lines.specs.declared.line.Line.{Line}
use Rattle.class_lines.specs.declared.line.MemberHead.{MemberHead}
use Rattle.class_lines.specs.declared.words.WordKind.{WordKind}
use Rattle.class_lines.specs.Fields.{fields}
use Rattle.class_lines.specs.Words.{◌>>=◌, Text, is_plain, fits, is_of_kind, keyword_at, word_at, words_at, natural_at, integer_at, number_after}
use Rattle.class_lines.specs.Heads.{flags_at, interfaces_at, version_at, class_at, head_at, field_at, takes_few, method_at, bare_at, static_method_at, any_field_at, any_method_at}
use Rattle.class_lines.specs.Printing.{spaced, all_spaced, natural_text, head_text}
use Rattle.class_lines.specs.Lines.{is_head}
use Rattle.class_lines.proofs.Spaced.{ends, fields_spaced, fields_all, all_plain}
use Rattle.class_lines.proofs.NumbersRead.{natural_decimal, integer_decimal, plain_decimal, Within}

-- ---- words

pub fits_plain : (kind : WordKind) (w : Text) → fits kind w ≡ true → is_plain w ≡ true
unfolding fits
fits_plain kind w h = (and_parts (is_plain w) (nat_le (length w) 65535 && is_of_kind kind w) h).0

pub fit_plain : (kind : WordKind) (words : List Text) → list_all (fits kind) words ≡ true → all_plain words ≡ true
fit_plain kind [] h = refl
fit_plain kind (w ∷ words) h =
    let both = and_parts (fits kind w) (list_all (fits kind) words) h in
    ap (λ (t : Bool). t && all_plain words) (fits_plain kind w both.0) ∙ fit_plain kind words both.1

pub word_read : (kind : WordKind) (w : Text) (words : List Text) → fits kind w ≡ true → word_at kind (w ∷ words) ≡ Some (w, words)
unfolding word_at
word_read kind w words h = ap (λ (t : Bool). if t then Some (w, words) else None) h

pub words_read : (kind : WordKind) (words : List Text) → list_all (fits kind) words ≡ true → words_at kind words ≡ Some words
unfolding words_at
words_read kind words h = ap (λ (t : Bool). if t then Some words else None) h

pub natural_read : (most n : ℕ) (words : List Text) → n ≤ most → n < 2 ^ 64 → natural_at most (decimal n ∷ words) ≡ Some (n, words)
unfolding natural_at
natural_read most n words le small = ap (option_map (λ n. (n, words))) (natural_decimal most n le small)

pub integer_read : (most : ℕ) (z : ℤ) (words : List Text) → most < 2 ^ 63 → Within most z → integer_at most (signed_decimal z ∷ words) ≡ Some (z, words)
unfolding integer_at
integer_read most z words small within = ap (option_map (λ n. (n, words))) (integer_decimal most z small within)

named_read : (word : Text) (most n : ℕ) (words : List Text) → bytes_eq word word ≡ true → n ≤ most → n < 2 ^ 64 → number_after word most (word ∷ decimal n ∷ words) ≡ Some (n, words)
unfolding number_after keyword_at
named_read word most n words same le small =
    ap (λ (t : Bool). (if t then Some (decimal n ∷ words) else None) >>= natural_at most) same ∙ natural_read most n words le small

flags_read : (default n : ℕ) (words : List Text) → n ≤ 65535 → flags_at default (codes "flags" ∷ decimal n ∷ words) ≡ Some (n, words)
unfolding flags_at
flags_read default n words le = natural_read 65535 n words le (omega arith)

-- ---- the fields of what is printed

pub fields_natural : (word : Text) (n : ℕ) (rest : Text) → is_plain word ≡ true → n < 2 ^ 64 → ends rest ≡ true → fields (natural_text word n ++ rest) ≡ word ∷ decimal n ∷ fields rest
fields_natural word n rest plain small h =
    ap fields (append_assoc (spaced word) (spaced (decimal n)) rest)
    ∙ fields_spaced word (spaced (decimal n) ++ rest) plain refl
    ∙ ap (λ (l : List Text). word ∷ l) (fields_spaced (decimal n) rest (plain_decimal n small) h)

-- the same at the end
pub fields_natural_end : (word : Text) (n : ℕ) → is_plain word ≡ true → n < 2 ^ 64 → fields (natural_text word n) ≡ word ∷ decimal n ∷ []
fields_natural_end word n plain small = ap fields (sym (append-nil (natural_text word n))) ∙ fields_natural word n [] plain small refl

-- words at the end
pub fields_all_end : (words : List Text) → all_plain words ≡ true → fields (all_spaced words) ≡ words
fields_all_end words plain = ap fields (sym (append-nil (all_spaced words))) ∙ fields_all words [] plain refl ∙ append-nil words

abbrev pub head_words : MemberHead → List Text
head_words head = head.name ∷ head.descriptor ∷ codes "flags" ∷ decimal head.flags ∷ []

pub fields_head : (kind : WordKind) (head : MemberHead) (rest : Text) → is_head kind head ≡ true → ends rest ≡ true → fields (head_text head ++ rest) ≡ head_words head ++ fields rest
fields_head kind head rest is h =
    let parts = and_parts (fits WordKind.MemberName head.name) (fits kind head.descriptor && nat_le head.flags 65535) is in
    let others = and_parts (fits kind head.descriptor) (nat_le head.flags 65535) parts.1 in
    let few = leb-true head.flags 65535 others.1 in
    let names : List Text = head.name ∷ head.descriptor ∷ [] in
    let plain : all_plain names ≡ true = rw (fits_plain WordKind.MemberName head.name parts.0, fits_plain kind head.descriptor others.0) refl in
    ap fields (append_assoc (all_spaced names) (natural_text (codes "flags") head.flags) rest)
    ∙ fields_all names (natural_text (codes "flags") head.flags ++ rest) plain refl
    ∙ ap (λ (l : List Text). names ++ l) (fields_natural (codes "flags") head.flags rest refl (omega arith) h)

-- ---- reading

head_read : (kind : WordKind) (head : MemberHead) (words : List Text) → is_head kind head ≡ true → head_at kind 0 (head_words head ++ words) ≡ Some (head, words)
unfolding head_at
head_read kind head words is =
    let parts = and_parts (fits WordKind.MemberName head.name) (fits kind head.descriptor && nat_le head.flags 65535) is in
    let others = and_parts (fits kind head.descriptor) (nat_le head.flags 65535) parts.1 in
    let few = leb-true head.flags 65535 others.1 in
    rw (
      word_read WordKind.MemberName head.name (head.descriptor ∷ codes "flags" ∷ decimal head.flags ∷ words) parts.0,
      word_read kind head.descriptor (codes "flags" ∷ decimal head.flags ∷ words) others.0,
      flags_read 1 head.flags words few,
      or_zero_r head.flags,
    ) refl

pub field_read : (head : MemberHead) → is_head WordKind.FieldDescriptor head ≡ true → any_field_at (head_words head) ≡ Some (Line.Field head)
unfolding any_field_at field_at
field_read head is = rw (head_read WordKind.FieldDescriptor head [] is) refl

method_words : MemberHead → ℕ → ℕ → List Text
method_words head stack locals = head_words head ++ codes "stack" ∷ decimal stack ∷ codes "locals" ∷ decimal locals ∷ []

pub method_read : (head : MemberHead) (stack locals : ℕ) → is_head WordKind.MethodDescriptor head ≡ true → takes_few head ≡ true → stack ≤ 65535 → locals ≤ 65535
    → any_method_at (head_words head ++ codes "stack" ∷ decimal stack ∷ codes "locals" ∷ decimal locals ∷ []) ≡ Some (Line.Method head stack locals)
unfolding any_method_at method_at
method_read head stack locals is few s l =
    rw (
      head_read WordKind.MethodDescriptor head (codes "stack" ∷ decimal stack ∷ codes "locals" ∷ decimal locals ∷ []) is,
      named_read (codes "stack") 65535 stack (codes "locals" ∷ decimal locals ∷ []) refl s (omega arith),
      named_read (codes "locals") 65535 locals [] refl l (omega arith),
      few,
    ) refl

no_stack : (words : List Text) → number_after (codes "stack") 65535 (codes "none" ∷ words) ≡ None
unfolding number_after keyword_at
no_stack words = refl

no_code : (head : MemberHead) → is_head WordKind.MethodDescriptor head ≡ true → method_at 0 (head_words head ++ codes "none" ∷ []) ≡ None
unfolding method_at
no_code head is = rw (head_read WordKind.MethodDescriptor head (codes "none" ∷ []) is, no_stack []) refl

no_descriptor : fits WordKind.MethodDescriptor (codes "flags") ≡ false
unfolding fits is_of_kind
no_descriptor = refl

static_head : (added : ℕ) (w : Text) (words : List Text) → head_at WordKind.MethodDescriptor added (w ∷ codes "flags" ∷ words) ≡ None
unfolding head_at word_at
static_head added w words =
    elim (cases_Bool (fits WordKind.MemberName w)) [
      | inl is ↦ rw (is, no_descriptor) refl
      | inr isnt ↦ rw isnt refl
    ]

no_static : (head : MemberHead) (words : List Text) → static_method_at (head.name ∷ head.descriptor ∷ codes "flags" ∷ words) ≡ None
unfolding keyword_at method_at
no_static head words =
    elim (cases_Bool (bytes_eq head.name (codes "static"))) [
      | inl is ↦ rw (is, static_head 8 head.descriptor words) refl
      | inr isnt ↦ rw isnt refl
    ]

bare_read_at : (head : MemberHead) → is_head WordKind.MethodDescriptor head ≡ true → takes_few head ≡ true → bare_at (head_words head ++ codes "none" ∷ []) ≡ Some (Line.Bare head)
unfolding bare_at keyword_at
bare_read_at head is few =
    let parts = and_parts (fits WordKind.MemberName head.name) (fits WordKind.MethodDescriptor head.descriptor && nat_le head.flags 65535) is in
    let others = and_parts (fits WordKind.MethodDescriptor head.descriptor) (nat_le head.flags 65535) parts.1 in
    let flags = leb-true head.flags 65535 others.1 in
    rw (
      word_read WordKind.MemberName head.name (head.descriptor ∷ codes "flags" ∷ decimal head.flags ∷ codes "none" ∷ []) parts.0,
      word_read WordKind.MethodDescriptor head.descriptor (codes "flags" ∷ decimal head.flags ∷ codes "none" ∷ []) others.0,
      named_read (codes "flags") 65535 head.flags (codes "none" ∷ []) refl flags (omega arith),
      few,
    ) refl

pub bare_read : (head : MemberHead) → is_head WordKind.MethodDescriptor head ≡ true → takes_few head ≡ true → any_method_at (head_words head ++ codes "none" ∷ []) ≡ Some (Line.Bare head)
unfolding any_method_at
bare_read head is few = rw (no_code head is, no_static head (decimal head.flags ∷ codes "none" ∷ []), bare_read_at head is few) refl

abbrev pub interface_words : List Text → List Text
interface_words [] = []
interface_words (name ∷ names) = codes "interface" ∷ name ∷ names

interfaces_read : (names : List Text) → list_all (fits WordKind.ClassName) names ≡ true → interfaces_at (interface_words names) ≡ Some names
unfolding interfaces_at
interfaces_read [] h = refl
interfaces_read (name ∷ names) h = words_read WordKind.ClassName (name ∷ names) h

pub class_read : (name super : Text) (version flags : ℕ) (interfaces : List Text) → fits WordKind.ClassName name ≡ true → fits WordKind.ClassName super ≡ true → within 46 50 version ≡ true → flags ≤ 65535 → list_all (fits WordKind.ClassName) interfaces ≡ true
    → class_at (name ∷ codes "super" ∷ super ∷ codes "version" ∷ decimal version ∷ codes "flags" ∷ decimal flags ∷ interface_words interfaces) ≡ Some (Line.Class name super version flags interfaces)
unfolding class_at version_at keyword_at
class_read name super version flags interfaces is_name is_super v f names =
    let range = and_parts (nat_le 46 version) (nat_lt version 50) v in
    let high = ltb-true version 50 range.1 in
    rw (
      word_read WordKind.ClassName name (codes "super" ∷ super ∷ codes "version" ∷ decimal version ∷ codes "flags" ∷ decimal flags ∷ interface_words interfaces) is_name,
      word_read WordKind.ClassName super (codes "version" ∷ decimal version ∷ codes "flags" ∷ decimal flags ∷ interface_words interfaces) is_super,
      named_read (codes "version") 49 version (codes "flags" ∷ decimal flags ∷ interface_words interfaces) refl (omega arith) (omega arith),
      range.0,
      flags_read 0x21 flags (interface_words interfaces) f,
      interfaces_read interfaces names,
    ) refl
