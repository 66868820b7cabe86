-- A class that came from a text comes back from its listing.
use Rattle.std.proofs.Common.{◌≡◌, ℕ, ◌+◌, Bool, true, ◌&&◌, List, [], ◌∷◌, ◌++◌, length, map, Option, Some, None, Result, Ok, Err, refl, sym, ap, ◌∙◌, append_assoc}
use Rattle.std.specs.Prelude.{if◌then◌else◌, ◌==◌, nat_le, IfOk}
use Rattle.std.specs.List.{flat_map, list_all, cons_option}
use Rattle.std.proofs.lemmas.Bool.{and_parts, not-true}
use Rattle.std.proofs.lemmas.List.{append-nil, map-append}
use Rattle.class_file.specs.declared.types.ClassFile.{ClassFile}
use Rattle.class_file.specs.declared.types.Attribute.{Attribute}
use Rattle.class_file.specs.Text.{within}
use Rattle.class_lines.specs.declared.line.Line.{Line}
use Rattle.class_lines.specs.Words.{Text, fits}
use Rattle.class_lines.specs.Lines.{is_line}
use Rattle.class_lines.specs.Printing.{line_text}
use Rattle.class_lines.specs.Utf8.{utf8_of, is_no_feed, is_one_line}
use Rattle.class_lines.proofs.WordKinds.{class_kind}
use Rattle.class_lines.proofs.TextLines.{line_heard, line_is_one}
use Rattle.class_text.proofs.NumberedLines.{NumberedLine as Numbered}
use Rattle.class_text.specs.Texts.{put_front, lines, said, numbered}
use Rattle.class_text.specs.ClassOf.{first_wrong, judged, class_of}
use Rattle.class_text.specs.Meaning.{IsClassOf, Means}
use Rattle.class_text.proofs.Steps.{AreOfForm}
use Rattle.class_text.proofs.WellFormed.{numbered_form, text_is_good}
use Rattle.class_text.proofs.SameFile.{Listing, lines_again}
use Rattle.class_listing.specs.declared.listed.Listed.{Listed}
use Rattle.class_listing.specs.Names.{class_shown}
use Rattle.class_listing.specs.Listing.{attribute, field, method, class_line, listing_of, listing_text}
use Rattle.class_listing.proofs.Labels.{label_of, apart}
use Rattle.class_listing.proofs.Shown.{class_is, classes_are}
use Rattle.class_listing.proofs.Bodies.{from_number, behind, numbers_append, AreGood, good_append}
use Rattle.class_listing.proofs.Parts.{fields_listed, methods_listed}

-- ---- the lines of a text

abbrev printed : Line → Text
printed l = utf8_of (line_text l)

one_line : (w : Text) (rest : List ℕ) → is_one_line w ≡ true → lines (w ++ 10 ∷ rest) ≡ w ∷ lines rest
one_line [] rest h = refl
one_line (b ∷ w) rest h =
    let p = and_parts (is_no_feed b) (is_one_line w) h in
    ap (λ (t : Bool). if t then [] ∷ lines (w ++ 10 ∷ rest) else put_front b (lines (w ++ 10 ∷ rest))) (not-true (b == 10) p.0) ∙ ap (put_front b) (one_line w rest p.1)

lines_printed : (ls : List Line) → AreGood ls → lines (listing_text (map Listed.Line ls)) ≡ map printed ls
lines_printed [] good = refl
lines_printed (l ∷ ls) good =
    let rest : List ℕ = listing_text (map Listed.Line ls) in
    ap lines (append_assoc (printed l) (10 ∷ []) rest) ∙ one_line (printed l) rest (line_is_one l good.0.form) ∙ ap (λ (t : List Text). printed l ∷ t) (lines_printed ls good.1)

numbers_printed : (n : ℕ) (ls : List Line) → AreGood ls → numbered n (map printed ls) ≡ from_number n ls
numbers_printed n [] good = refl
numbers_printed n (l ∷ ls) good =
    ap (λ (o : Option (Option Line)). cons_option (said n o) (numbered (n + 1) (map printed ls))) (line_heard l good.0.form good.0.labels)
    ∙ ap (λ (t : List Numbered). let k : Numbered = record { number = n; line = Some l } in k ∷ t) (numbers_printed (n + 1) ls good.1)

-- ---- the class

first_is : (c : ClassFile) (name super : Text) (version flags : ℕ) (interfaces : List Text) (rest : List Numbered) → is_line (Line.Class name super version flags interfaces) ≡ true → IsClassOf name super version flags interfaces rest c
    → class_line c ≡ Line.Class name super version flags interfaces
first_is c name super version flags interfaces rest h means =
    let p = and_parts (fits class_kind name) (fits class_kind super && (within 46 50 version && (nat_le flags 65535 && list_all (fits class_kind) interfaces))) h in
    let q = and_parts (fits class_kind super) (within 46 50 version && (nat_le flags 65535 && list_all (fits class_kind) interfaces)) p.1 in
    let r = and_parts (within 46 50 version) (nat_le flags 65535 && list_all (fits class_kind) interfaces) q.1 in
    let s = and_parts (nat_le flags 65535) (list_all (fits class_kind) interfaces) r.1 in
    let up : Text = class_shown c.pool c.super_class in
    let names : List Text = map (class_shown c.pool) c.interfaces in
    ap (λ (x : Text). Line.Class x up c.major c.flags.0 names) (class_is class_kind c.pool c.this_class name p.0 means.this)
    ∙ ap (λ (x : Text). Line.Class name x c.major c.flags.0 names) (class_is class_kind c.pool c.super_class super q.0 means.super_class)
    ∙ ap (λ (x : ℕ). Line.Class name super x c.flags.0 names) means.major
    ∙ ap (λ (x : ℕ). Line.Class name super version x names) means.access
    ∙ ap (Line.Class name super version flags) (classes_are c.pool c.interfaces interfaces s.1 means.implements)

class_again : (end number : ℕ) (name super : Text) (version flags : ℕ) (interfaces : List Text) (rest : List Numbered) (c : ClassFile) → AreOfForm (record { number = number; line = Some (Line.Class name super version flags interfaces) } ∷ rest)
    → (let first : Numbered = record { number = number; line = Some (Line.Class name super version flags interfaces) } in judged (first ∷ rest) (first_wrong end (first ∷ rest)) ≡ Ok c) → IsClassOf name super version flags interfaces rest c
    → class_of (listing_text (listing_of c)) ≡ Ok c
class_again end number name super version flags interfaces rest c form h means =
    let line : Line = Line.Class name super version flags interfaces in
    let first : Numbered = record { number = number; line = Some line } in
    let f = fields_listed c.pool c.fields rest form.1 means.fields in
    let m = methods_listed c.pool c.methods rest form.1 means.methods in
    let ls : List Line = line ∷ (f.lines ++ m.lines) in
    let good : AreGood ls = (record { form = form.0; labels = refl }, good_append f.lines m.lines f.good m.good) in
    let listing : listing_of c ≡ map Listed.Line ls =
    ap (λ (x : Line). Listed.Line x ∷ (flat_map (field c.pool) c.fields ++ flat_map (method c.pool) c.methods ++ map (attribute c.pool) c.attributes)) (first_is c name super version flags interfaces rest form.0 means)
    ∙ ap (λ (x : List Attribute). Listed.Line line ∷ (flat_map (field c.pool) c.fields ++ flat_map (method c.pool) c.methods ++ map (attribute c.pool) x)) means.attributes
    ∙ ap (λ (x : List Listed). Listed.Line line ∷ x) (append-nil (flat_map (field c.pool) c.fields ++ flat_map (method c.pool) c.methods))
    ∙ ap (λ (x : List Listed). Listed.Line line ∷ (x ++ flat_map (method c.pool) c.methods)) f.are
    ∙ ap (λ (x : List Listed). Listed.Line line ∷ (map Listed.Line f.lines ++ x)) m.are
    ∙ ap (λ (x : List Listed). Listed.Line line ∷ x) (sym (map-append Listed.Line f.lines m.lines)) in
    let all : List Numbered = from_number 2 (f.lines ++ m.lines) in
    let b : Listing label_of apart rest all = record {
      fields = from_number 2 f.lines;
      methods = from_number (behind 2 f.lines) m.lines;
      are = numbers_append 2 f.lines m.lines;
      of_fields = f.of_heads 2;
      of_methods = m.blocks (behind 2 f.lines);
    } in
    let texts : List Text = lines (listing_text (listing_of c)) in
    let is : texts ≡ map printed ls = ap (λ (x : List Listed). lines (listing_text x)) listing ∙ lines_printed ls good in
    let numbers : numbered 1 texts ≡ from_number 1 ls = ap (numbered 1) is ∙ numbers_printed 1 ls good in
    ap (λ (x : List Numbered). judged x (first_wrong (length texts + 1) x)) numbers
    ∙ lines_again label_of apart end (length texts + 1) first rest all 1 c form h b

first_again : (end number : ℕ) (o : Option Line) (rest : List Numbered) (c : ClassFile) → AreOfForm (record { number = number; line = o } ∷ rest)
    → (let first : Numbered = record { number = number; line = o } in judged (first ∷ rest) (first_wrong end (first ∷ rest)) ≡ Ok c) → (let first : Numbered = record { number = number; line = o } in Means (first ∷ rest) c)
    → class_of (listing_text (listing_of c)) ≡ Ok c
first_again end number (Some (Line.Class name super version flags interfaces)) rest c form h means = class_again end number name super version flags interfaces rest c form h means
first_again end number (Some (Line.Field head)) rest c form h means = absurd means
first_again end number (Some (Line.Method head stack locals)) rest c form h means = absurd means
first_again end number (Some (Line.Bare head)) rest c form h means = absurd means
first_again end number (Some (Line.Step label o)) rest c form h means = absurd means
first_again end number (Some (Line.Catch from to handler class)) rest c form h means = absurd means
first_again end number (Some Line.End) rest c form h means = absurd means
first_again end number None rest c form h means = absurd means

all_again : (end : ℕ) (all : List Numbered) (c : ClassFile) → AreOfForm all → judged all (first_wrong end all) ≡ Ok c → Means all c → class_of (listing_text (listing_of c)) ≡ Ok c
all_again end [] c form h means = absurd means
all_again end (first ∷ rest) c form h means = first_again end first.number first.line rest c form h means

pub comes_back : (text : List ℕ) (c : ClassFile) → class_of text ≡ Ok c → class_of (listing_text (listing_of c)) ≡ Ok c
comes_back text c h = all_again (length (lines text) + 1) (numbered 1 (lines text)) c (numbered_form 1 (lines text)) h (text_is_good text c h).means

-- what is given, if anything is, is a text of the class
pub given_back : {X E : Type 0} (result : Result X E) (items : X → List ℕ) (c : ClassFile) → IfOk result (λ x. items x ≡ listing_text (listing_of c)) → (text : List ℕ) → class_of text ≡ Ok c → IfOk result (λ x. class_of (items x) ≡ Ok c)
given_back (Ok x) items c h text from = ap class_of h ∙ comes_back text c from
given_back (Err e) items c h text from = tt
