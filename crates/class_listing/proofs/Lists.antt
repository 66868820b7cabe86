-- Lists that are put together.
use Rattle.std.proofs.Common.{◌≡◌, ℕ, ◌+◌, ◌<◌, List, [], ◌∷◌, ◌++◌, length, take, get_or, Result, Ok, Err, Option, Some, refl, sym, ap, ◌∙◌, arith, append_assoc, ℤ}
use Rattle.std.specs.Prelude.{map, OnOk}
use Rattle.std.specs.List.{flat_map}
use Rattle.std.proofs.lemmas.List.{map-append, take_more}
use Rattle.class_file.specs.declared.pool.PoolEntry.{PoolEntry}
use Rattle.class_file.specs.declared.types.Attribute.{Attribute}
use Rattle.class_file.specs.declared.types.CodeAttr.{CodeAttr}
use Rattle.class_file.specs.declared.types.CodeAttribute.{CodeAttribute}
use Rattle.class_file.specs.declared.types.ExceptionEntry.{ExceptionEntry}
use Rattle.class_file.specs.declared.types.Member.{Member}
use Rattle.class_file.specs.Code.{Placed}
use Rattle.class_lines.specs.declared.line.Line.{Line}
use Rattle.class_lines.specs.declared.line.MemberHead.{MemberHead}
use Rattle.class_lines.specs.Words.{Text}
use Rattle.class_listing.specs.declared.listed.Listed.{Listed}
use Rattle.class_listing.specs.declared.walk.Step.{Step}
use Rattle.class_listing.specs.Walked.{placed_of}
use Rattle.class_listing.specs.Steps.{step, catch_line, named_places, lines_of}
use Rattle.class_listing.specs.Names.{visible, shown}
use Rattle.class_listing.specs.Lengths.{code_content_length, attributes_length}
use Rattle.class_listing.specs.Listing.{head, code_of, method_line, method_attribute, method}

-- two parts of lines, one behind the other
pub lines_put : (before middle after : List Listed) (first second : List Line) → middle ≡ before ++ map Listed.Line first → after ≡ middle ++ map Listed.Line second → after ≡ before ++ map Listed.Line (first ++ second)
lines_put before middle after first second one two =
    two ∙ ap (λ (l : List Listed). l ++ map Listed.Line second) one ∙ append_assoc before (map Listed.Line first) (map Listed.Line second)
    ∙ ap (λ (l : List Listed). before ++ l) (sym (map-append Listed.Line first second))

pub lengths_more : (attributes : List CodeAttribute) (a : CodeAttribute) → attributes_length (attributes ++ a ∷ []) ≡ attributes_length attributes + (6 + code_content_length a.content)
lengths_more [] a = omega arith
lengths_more (b ∷ attributes) a = let e = lengths_more attributes a in omega arith

-- the length of one more attribute
pub lengths_next : (attributes : List CodeAttribute) (k : ℕ) (a : CodeAttribute) (before one after : ℕ) → k < length attributes → a ≡ get_or attributes k a → before ≡ attributes_length (take k attributes)
    → one ≡ 6 + code_content_length a.content → after ≡ before + one → after ≡ attributes_length (take (k + 1) attributes)
lengths_next attributes k a before one after lt is front here sum =
    let more : take (k + 1) attributes ≡ take k attributes ++ a ∷ [] = take_more attributes k a lt ∙ ap (λ (x : CodeAttribute). take k attributes ++ x ∷ []) (sym is) in
    let e : attributes_length (take (k + 1) attributes) ≡ attributes_length (take k attributes) + (6 + code_content_length a.content) = ap attributes_length more ∙ lengths_more (take k attributes) a in
    sum ∙ ap (λ (n : ℕ). n + one) front ∙ ap (λ (n : ℕ). attributes_length (take k attributes) + n) here ∙ sym e

-- a name that has a byte
pub shown_some : (bytes : Text) → 0 < length bytes → shown (Some bytes) ≡ map visible bytes
shown_some [] lt = absurd (omega arith)
shown_some (b ∷ bytes) lt = refl

pub on_ok : {X E P Q : Type 0} (r : Result X E) → OnOk r P → (P → Q) → OnOk r Q
on_ok (Ok x) p f = f p
on_ok (Err e) p f = tt

-- the line of one more instruction
pub steps_put : (f : Placed → Line) (steps : List Step) (k : ℕ) (d : Step) (line : Line) (before listing after : List Listed) → k < length steps → line ≡ f (placed_of (get_or steps k d))
    → listing ≡ before ++ map Listed.Line (map f (map placed_of (take k steps))) → after ≡ listing ++ Listed.Line line ∷ [] → after ≡ before ++ map Listed.Line (map f (map placed_of (take (k + 1) steps)))
steps_put f steps k d line before listing after lt is front pushed =
    let s : Step = get_or steps k d in
    let lines : List Step → List Listed = λ (l : List Step). map Listed.Line (map f (map placed_of l)) in
    let more : lines (take (k + 1) steps) ≡ lines (take k steps) ++ Listed.Line (f (placed_of s)) ∷ [] =
    ap lines (take_more steps k d lt)
    ∙ ap (λ (l : List Placed). map Listed.Line (map f l)) (map-append placed_of (take k steps) (s ∷ []))
    ∙ ap (λ (l : List Line). map Listed.Line l) (map-append f (map placed_of (take k steps)) (placed_of s ∷ []))
    ∙ map-append Listed.Line (map f (map placed_of (take k steps))) (f (placed_of s) ∷ []) in
    pushed ∙ ap (λ (x : Line). listing ++ Listed.Line x ∷ []) is
    ∙ ap (λ (l : List Listed). l ++ Listed.Line (f (placed_of s)) ∷ []) front
    ∙ append_assoc before (lines (take k steps)) (Listed.Line (f (placed_of s)) ∷ [])
    ∙ ap (λ (l : List Listed). before ++ l) (sym more)

-- the instructions and then the exception table
pub body_put : (pool : List PoolEntry) (code : CodeAttr) (insns : List Placed) (bytes : List ℕ) (entries : List ExceptionEntry) (places slice : List ℤ) (before middle after : List Listed)
    → bytes ≡ code.code → entries ≡ code.entries → places ≡ named_places bytes insns entries → slice ≡ places
    → middle ≡ before ++ map Listed.Line (map (step pool bytes slice) insns) → after ≡ middle ++ map Listed.Line (map (catch_line pool) entries)
    → after ≡ before ++ map Listed.Line (lines_of pool code insns)
body_put pool code insns bytes entries places slice before middle after same rows named is one two =
    let first : middle ≡ before ++ map Listed.Line (map (step pool code.code (named_places code.code insns code.entries)) insns) =
    one ∙ ap (λ (s : List ℤ). before ++ map Listed.Line (map (step pool bytes s) insns)) (is ∙ named)
    ∙ ap (λ (b : List ℕ). before ++ map Listed.Line (map (step pool b (named_places b insns entries)) insns)) same
    ∙ ap (λ (e : List ExceptionEntry). before ++ map Listed.Line (map (step pool code.code (named_places code.code insns e)) insns)) rows in
    let second : after ≡ middle ++ map Listed.Line (map (catch_line pool) code.entries) =
    two ∙ ap (λ (e : List ExceptionEntry). middle ++ map Listed.Line (map (catch_line pool) e)) rows in
    lines_put before middle after (map (step pool code.code (named_places code.code insns code.entries)) insns) (map (catch_line pool) code.entries) first second

-- the line of a method, and those of its attributes
pub method_put : (pool : List PoolEntry) (m : Member) (h : MemberHead) (code : Option CodeAttr) (line : Line) (attributes : List Attribute) (before middle after : List Listed)
    → h ≡ head pool m → attributes ≡ m.attributes → code ≡ code_of attributes → line ≡ method_line h code → middle ≡ before ++ Listed.Line line ∷ []
    → after ≡ middle ++ flat_map (λ (a : Attribute). method_attribute pool a a.content) attributes → after ≡ before ++ method pool m
method_put pool m h code line attributes before middle after named same first is one two =
    let parts : List Attribute → List Listed = λ (l : List Attribute). flat_map (λ (a : Attribute). method_attribute pool a a.content) l in
    let whole : line ≡ method_line (head pool m) (code_of m.attributes) =
    is ∙ ap (method_line h) first ∙ ap (λ (l : List Attribute). method_line h (code_of l)) same ∙ ap (λ (x : MemberHead). method_line x (code_of m.attributes)) named in
    two ∙ ap (λ (l : List Listed). l ++ parts attributes) one
    ∙ ap (λ (l : List Attribute). (before ++ Listed.Line line ∷ []) ++ parts l) same
    ∙ ap (λ (l : Line). (before ++ Listed.Line l ∷ []) ++ parts m.attributes) whole
    ∙ append_assoc before (Listed.Line (method_line (head pool m) (code_of m.attributes)) ∷ []) (parts m.attributes)
