-- A script, line by line.
use Rattle.std.proofs.Common.{◌≡◌, ◌≢◌, ◌⊎◌, ℕ, suc, List, [], ◌∷◌, ◌++◌, refl, sym, ap, subst, ◌∙◌, length, get_or, inl, inr, append_assoc, arith, length-append}
use Rattle.std.specs.Prelude.{codes, ℤ, ◌<◌, ◌≤◌, ◌+◌}
use Rattle.std.proofs.lemmas.List.{append-nil}
use Rattle.machine_values.specs.declared.script.Answer.{Answer}
use Rattle.machine_values.specs.declared.script.Answer.TheVariants as answer
use Rattle.machine_values.specs.declared.script.Script.{Script}
use Rattle.run_lines.specs.Reading.{IsOfNothing, IsOfNoOther}
use Rattle.run_lines.specs.Splits.{Text, IsFirstSplit}
use Rattle.run_lines.specs.Numbers.{IsInt, IsLong}
use Rattle.run_lines.specs.Texts.{IsText}
use Rattle.run_lines.specs.Names.{IsDottedClass}
use Rattle.run_lines.specs.ScriptLines.{IsBareAnswer, IsThrow, IsThrown, IsWordedAnswer, IsWordedLine, IsAnswer, IsLineAt, LinesTo, BeginsNoLine, IsScript, IsOtherLine}
use Rattle.run_lines.proofs.Refusing.{pair_is}
use Rattle.run_lines.proofs.Cuts.{first_only, first_none}

-- the lines of the answers go as far as there are lines of the form
pub record IsRun (text : Text) (answers : List Answer) (rest : Text) : Type 0 where
  pub lines : LinesTo answers text rest
  pub stops : BeginsNoLine rest

-- out was read from the start on, and every run there begins with it
pub record IsRead (start now : Text) (out : List Answer) : Type 0 where
  pub made : LinesTo out start now
  pub only : (answers : List Answer) (rest : Text) → IsRun start answers rest → (more : List Answer) × (answers ≡ out ++ more) × IsRun now more rest

pub read_begins : (start : Text) → IsRead start start []
read_begins start = record { made = refl; only = λ answers rest h. (answers, refl, h) }

one_more : (out : List Answer) (start now behind : Text) (a : Answer) → LinesTo out start now → IsLineAt now a behind → LinesTo (out ++ a ∷ []) start behind
one_more [] start now behind a l h = (behind, subst (λ (t : Text). IsLineAt t a behind) (sym l) h, refl)
one_more (b ∷ out) start now behind a l h = (l.0, l.1, one_more out l.0 now behind a l.2 h)

-- the first line of a run
headed : (now : Text) (more : List Answer) (rest : Text) (a : Answer) (behind : Text) → IsLineAt now a behind → IsRun now more rest → (b : Answer) × (after : Text) × (others : List Answer) × (more ≡ b ∷ others) × IsLineAt now b after × IsRun after others rest
headed now [] rest a behind h r = absurd (r.stops a behind (subst (λ (t : Text). IsLineAt t a behind) r.lines h))
headed now (b ∷ others) rest a behind h r = (b, r.lines.0, others, refl, r.lines.1, record { lines = r.lines.2; stops = r.stops })

pub read_more : (start now behind : Text) (out out' : List Answer) (a : Answer) → IsRead start now out → IsLineAt now a behind → ((y : Answer × Text) → IsLineAt now y.0 y.1 → y ≡ (a, behind)) → out' ≡ out ++ a ∷ [] → IsRead start behind out'
read_more start now behind out out' a w h one e =
    subst (λ (o : List Answer). IsRead start behind o) (sym e) (record {
      made = one_more out start now behind a w.made h;
      only = λ answers rest r.
          let was = w.only answers rest r in
          let first = headed now was.0 rest a behind h was.2 in
          let same = one (first.0, first.1) first.4 in
          let head : first.0 ≡ a = ap (λ (y : Answer × Text). y.0) same in
          let tail : first.1 ≡ behind = ap (λ (y : Answer × Text). y.1) same in
          (first.2, was.1 ∙ ap (λ (m : List Answer). out ++ m) (first.3 ∙ ap (λ (b : Answer). b ∷ first.2) head) ∙ sym (append_assoc out (a ∷ []) first.2), subst (λ (t : Text). IsRun t first.2 rest) tail first.5);
    })

no_split : (byte : ℕ) (a b : Text) → ¬ (IsFirstSplit byte [] a b)
no_split byte [] b s = let w = s.whole in let no : ⊥ = cc in no
no_split byte (x ∷ a) b s = let w = s.whole in let no : ⊥ = cc in no

pub empty_stops : BeginsNoLine []
empty_stops a behind h = no_split 10 h.line behind h.feed

stays : (rest : Text) (more : List Answer) (end : Text) → BeginsNoLine rest → LinesTo more rest end → (more ≡ []) × (rest ≡ end)
stays rest [] end stops l = (refl, l)
stays rest (a ∷ more) end stops l = absurd (stops a l.0 l.1)

script_is : (a b : Script) → a.answers ≡ b.answers → a.next ≡ b.next → a ≡ b
script_is a b p q = λ i. record { answers = p i; next = q i }

-- nothing is left
pub script_made : (start now : Text) (script : Script) → IsRead start now script.answers → now ≡ [] → script.next ≡ 0 → IsScript script start
script_made start now script w e z = record { unread = z; lines = subst (λ (t : Text). LinesTo script.answers start t) e w.made }

pub script_only : (start now : Text) (script : Script) → IsRead start now script.answers → now ≡ [] → script.next ≡ 0 → IsOfNoOther (λ (s : Script). IsScript s start) script
script_only start now script w e z s h =
    let was = w.only s.answers [] (record { lines = h.lines; stops = empty_stops }) in
    let end = stays now was.0 [] (subst BeginsNoLine (sym e) empty_stops) was.2.lines in
    script_is s script (was.1 ∙ ap (λ (m : List Answer). script.answers ++ m) end.0 ∙ append-nil script.answers) (h.unread ∙ sym z)

-- something is left that is no line
pub other_made : (start now : Text) (out : List Answer) (number : ℕ) → IsRead start now out → 0 < length now → IsOfNothing (λ (y : Answer × Text). IsLineAt now y.0 y.1) → number ≡ length out + 1 → IsOtherLine start number
other_made start now out number w some none n = record {
  answers = out;
  rest = now;
  lines = w.made;
  some = filled now some;
  other = λ a behind h. none (a, behind) h;
  counted = omega arith;
}
  where
    filled : (t : Text) → 0 < length t → t ≢ []
    filled [] h e = omega (arith, h)
    filled (x ∷ t) h e = let no : ⊥ = cc in no

pub other_only : (start now : Text) (out : List Answer) (number : ℕ) → IsRead start now out → IsOfNothing (λ (y : Answer × Text). IsLineAt now y.0 y.1) → number ≡ length out + 1 → IsOfNoOther (IsOtherLine start) number
other_only start now out number w none n m h =
    let was = w.only h.answers h.rest (record { lines = h.lines; stops = h.other }) in
    let end = stays now was.0 h.rest (λ a behind l. none (a, behind) l) was.2.lines in
    let same : h.answers ≡ out = was.1 ∙ ap (λ (more : List Answer). out ++ more) end.0 ∙ append-nil out in
    h.counted ∙ ap (λ (l : List Answer). suc (length l)) same ∙ omega arith

pub no_script : (start now : Text) (out : List Answer) → IsRead start now out → 0 < length now → IsOfNothing (λ (y : Answer × Text). IsLineAt now y.0 y.1) → IsOfNothing (λ (s : Script). IsScript s start)
no_script start now out w some none s h =
    let was = w.only s.answers [] (record { lines = h.lines; stops = empty_stops }) in
    let end = stays now was.0 [] (λ a behind l. none (a, behind) l) was.2.lines in
    let empty : length now ≡ 0 = ap length end.1 in
    omega (arith, empty, some)

-- so many answers at most
pub few : (out : List Answer) (start now : Text) → LinesTo out start now → length out + length now ≤ length start
few [] start now l = let e : length start ≡ length now = ap length l in omega arith
few (a ∷ out) start now l =
    let rest = few out l.0 now l.2 in
    let e : length start ≡ length (l.1.line ++ 10 ∷ l.0) = ap length l.1.feed.whole in
    omega (arith, e, length-append l.1.line (10 ∷ l.0), rest)

-- ---- lines

pub line_made : (text line behind : Text) (a : Answer) → IsFirstSplit 10 text line behind → IsAnswer a line → IsLineAt text a behind
line_made text line behind a s h = record { line = line; feed = s; is_answer = h }

-- the answer of a line at the front
pub answer_in : (text line behind : Text) → IsFirstSplit 10 text line behind → (y : Answer × Text) → IsLineAt text y.0 y.1 → IsAnswer y.0 line
answer_in text line behind s y h =
    subst (λ (l : Text). IsAnswer y.0 l) (ap (λ (z : Text × Text). z.0) (first_only 10 text line behind s (h.line, y.1) h.feed)) h.is_answer

pub line_only : (text line behind : Text) (a : Answer) → IsFirstSplit 10 text line behind → IsOfNoOther (λ (b : Answer). IsAnswer b line) a → (y : Answer × Text) → IsLineAt text y.0 y.1 → y ≡ (a, behind)
line_only text line behind a s one y h =
    pair_is a y.0 behind y.1 (one y.0 (answer_in text line behind s y h)) (ap (λ (z : Text × Text). z.1) (first_only 10 text line behind s (h.line, y.1) h.feed))

pub worded_made : (line keyword words : Text) (a : Answer) → IsFirstSplit 32 line keyword words → IsWordedAnswer a keyword words → IsAnswer a line
worded_made line keyword words a s h = inr (record { keyword = keyword; words = words; blank = s; is_answer = h })

bare_whole : (a : Answer) (line : Text) → IsBareAnswer a line → (line ≡ codes "null") ⊎ (line ≡ codes "void")
bare_whole (answer.Int n) line h = absurd h
bare_whole (answer.Long n) line h = absurd h
bare_whole answer.Null line h = inl h
bare_whole (answer.Text units) line h = absurd h
bare_whole answer.Void line h = inr h
bare_whole (answer.Throw class message) line h = absurd h

-- a line of one word has no blank
bare_unsplit : (a : Answer) (line keyword words : Text) → IsFirstSplit 32 line keyword words → ¬ (IsBareAnswer a line)
bare_unsplit a line keyword words s h = elim (bare_whole a line h) [
  | inl e ↦ first_none 32 (codes "null") refl (keyword, words) (subst (λ (l : Text). IsFirstSplit 32 l keyword words) e s)
  | inr e ↦ first_none 32 (codes "void") refl (keyword, words) (subst (λ (l : Text). IsFirstSplit 32 l keyword words) e s)
]

worded_in : (line keyword words : Text) (a : Answer) → IsFirstSplit 32 line keyword words → IsWordedLine a line → IsWordedAnswer a keyword words
worded_in line keyword words a s w =
    let same = first_only 32 line keyword words s (w.keyword, w.words) w.blank in
    subst (λ (k : Text). IsWordedAnswer a k words) (ap (λ (y : Text × Text). y.0) same) (subst (λ (r : Text). IsWordedAnswer a w.keyword r) (ap (λ (y : Text × Text). y.1) same) w.is_answer)

pub worded : (line keyword words : Text) (a : Answer) → IsFirstSplit 32 line keyword words → IsAnswer a line → IsWordedAnswer a keyword words
worded line keyword words a s (inl h) = absurd (bare_unsplit a line keyword words s h)
worded line keyword words a s (inr w) = worded_in line keyword words a s w

pub bare : (line : Text) (a : Answer) → ((y : Text × Text) → ¬ (IsFirstSplit 32 line y.0 y.1)) → IsAnswer a line → IsBareAnswer a line
bare line a none (inl h) = h
bare line a none (inr w) = absurd (none (w.keyword, w.words) w.blank)

-- ---- throws

pub record IsThrowIn (name quoted class message : Text) : Type 0 where
  pub is_class : IsDottedClass class name
  pub is_message : IsText message quoted

pub throw_in : (words name quoted class message : Text) → IsFirstSplit 32 words name quoted → IsThrow class message words → IsThrowIn name quoted class message
throw_in words name quoted class message s t =
    let same = first_only 32 words name quoted s (t.name, t.quoted) t.blank in
    record {
      is_class = subst (λ (n : Text). IsDottedClass class n) (ap (λ (y : Text × Text). y.0) same) t.is_class;
      is_message = subst (λ (q : Text). IsText message q) (ap (λ (y : Text × Text). y.1) same) t.is_message;
    }

pub throw_made : (words name quoted class message : Text) → IsFirstSplit 32 words name quoted → IsDottedClass class name → IsText message quoted → IsThrow class message words
throw_made words name quoted class message s c m = record { name = name; quoted = quoted; blank = s; is_class = c; is_message = m }

-- a thrown answer
pub record IsThrowOf (a : Answer) (words : Text) : Type 0 where
  pub class : Text
  pub message : List ℕ
  pub are : a ≡ answer.Throw class message
  pub thrown : IsThrow class message words

pub thrown_of : (a : Answer) (words : Text) → IsThrown a words → IsThrowOf a words
thrown_of (answer.Int n) words h = absurd h
thrown_of (answer.Long n) words h = absurd h
thrown_of answer.Null words h = absurd h
thrown_of (answer.Text units) words h = absurd h
thrown_of answer.Void words h = absurd h
thrown_of (answer.Throw class message) words h = record { class = class; message = message; are = refl; thrown = h }

-- ---- keywords

pub at_int : (a : Answer) (words : Text) → IsWordedAnswer a (codes "int") words → (n : ℤ) × (a ≡ answer.Int n) × IsInt n words
at_int (answer.Int n) words h = (n, refl, h.1)
at_int (answer.Long n) words h = let n : ◌≡◌ {A = ℕ} 105 108 = ap (λ (l : Text). get_or l 0 0) h.0 in absurd (omega (arith, n))
at_int answer.Null words h = absurd h
at_int (answer.Text units) words h = let n : ◌≡◌ {A = ℕ} 105 116 = ap (λ (l : Text). get_or l 0 0) h.0 in absurd (omega (arith, n))
at_int answer.Void words h = absurd h
at_int (answer.Throw class message) words h = let n : ◌≡◌ {A = ℕ} 105 116 = ap (λ (l : Text). get_or l 0 0) h.0 in absurd (omega (arith, n))

pub at_long : (a : Answer) (words : Text) → IsWordedAnswer a (codes "long") words → (n : ℤ) × (a ≡ answer.Long n) × IsLong n words
at_long (answer.Int n) words h = let n : ◌≡◌ {A = ℕ} 108 105 = ap (λ (l : Text). get_or l 0 0) h.0 in absurd (omega (arith, n))
at_long (answer.Long n) words h = (n, refl, h.1)
at_long answer.Null words h = absurd h
at_long (answer.Text units) words h = let n : ◌≡◌ {A = ℕ} 108 116 = ap (λ (l : Text). get_or l 0 0) h.0 in absurd (omega (arith, n))
at_long answer.Void words h = absurd h
at_long (answer.Throw class message) words h = let n : ◌≡◌ {A = ℕ} 108 116 = ap (λ (l : Text). get_or l 0 0) h.0 in absurd (omega (arith, n))

pub at_text : (a : Answer) (words : Text) → IsWordedAnswer a (codes "text") words → (units : List ℕ) × (a ≡ answer.Text units) × IsText units words
at_text (answer.Int n) words h = let n : ◌≡◌ {A = ℕ} 116 105 = ap (λ (l : Text). get_or l 0 0) h.0 in absurd (omega (arith, n))
at_text (answer.Long n) words h = let n : ◌≡◌ {A = ℕ} 116 108 = ap (λ (l : Text). get_or l 0 0) h.0 in absurd (omega (arith, n))
at_text answer.Null words h = absurd h
at_text (answer.Text units) words h = (units, refl, h.1)
at_text answer.Void words h = absurd h
at_text (answer.Throw class message) words h = let n : ◌≡◌ {A = ℕ} 101 104 = ap (λ (l : Text). get_or l 1 0) h.0 in absurd (omega (arith, n))

pub at_throw : (a : Answer) (words : Text) → IsWordedAnswer a (codes "throw") words → IsThrown a words
at_throw (answer.Int n) words h = let n : ◌≡◌ {A = ℕ} 116 105 = ap (λ (l : Text). get_or l 0 0) h.0 in absurd (omega (arith, n))
at_throw (answer.Long n) words h = let n : ◌≡◌ {A = ℕ} 116 108 = ap (λ (l : Text). get_or l 0 0) h.0 in absurd (omega (arith, n))
at_throw answer.Null words h = absurd h
at_throw (answer.Text units) words h = let n : ◌≡◌ {A = ℕ} 104 101 = ap (λ (l : Text). get_or l 1 0) h.0 in absurd (omega (arith, n))
at_throw answer.Void words h = absurd h
at_throw (answer.Throw class message) words h = h.1

pub throw_worded : (a : Answer) (words : Text) → IsThrown a words → IsWordedAnswer a (codes "throw") words
throw_worded (answer.Int n) words h = absurd h
throw_worded (answer.Long n) words h = absurd h
throw_worded answer.Null words h = absurd h
throw_worded (answer.Text units) words h = absurd h
throw_worded answer.Void words h = absurd h
throw_worded (answer.Throw class message) words h = (refl, h)

-- each keyword is one of the four
pub no_keyword : (a : Answer) (keyword words : Text) → ¬ (keyword ≡ codes "int") → ¬ (keyword ≡ codes "long") → ¬ (keyword ≡ codes "text") → ¬ (keyword ≡ codes "throw") → ¬ (IsWordedAnswer a keyword words)
no_keyword (answer.Int n) keyword words i l t w h = i h.0
no_keyword (answer.Long n) keyword words i l t w h = l h.0
no_keyword answer.Null keyword words i l t w h = h
no_keyword (answer.Text units) keyword words i l t w h = t h.0
no_keyword answer.Void keyword words i l t w h = h
no_keyword (answer.Throw class message) keyword words i l t w h = w h.0

pub text_from : (a : Answer) (keyword words : Text) → keyword ≡ codes "text" → IsWordedAnswer a keyword words → (units : List ℕ) × (a ≡ answer.Text units) × IsText units words
text_from a keyword words e h = at_text a words (subst (λ (k : Text). IsWordedAnswer a k words) e h)

pub throw_from : (a : Answer) (keyword words : Text) → keyword ≡ codes "throw" → IsWordedAnswer a keyword words → IsThrown a words
throw_from a keyword words e h = at_throw a words (subst (λ (k : Text). IsWordedAnswer a k words) e h)

pub throw_to : (a : Answer) (keyword words : Text) → keyword ≡ codes "throw" → IsThrown a words → IsWordedAnswer a keyword words
throw_to a keyword words e h = subst (λ (k : Text). IsWordedAnswer a k words) (sym e) (throw_worded a words h)
