-- What the file of a script is read as, and that it is read as nothing else.
use Rattle.std.proofs.Common.{◌≡◌, ◌≢◌, ℕ, ◌<◌, ◌≤◌, Bool, true, false, List, [], ◌∷◌, ◌++◌, length, take, drop, Option, Some, None, Ok, Err, refl, ap, sym, ◌∙◌, subst, arith, length-append}
use Rattle.std.specs.Prelude.{IfSome, MatchBool, MatchOption, ◌==◌, ◌||◌}
use Rattle.std.specs.Option.{option_map}
use Rattle.std.proofs.lemmas.Bool.{false≢true, eq-eqb, ltb-false, le-ltb}
use Rattle.std.proofs.lemmas.List.{take_all}
use Rattle.std.proofs.lemmas.Option.{none-some, same_Some}
use Rattle.aj_outside.specs.Files.{Files, file_at}
use Rattle.jp_model.specs.Input.{is_big}
use Rattle.machine_steps.specs.Runs.{answers_left}
use Rattle.machine_values.specs.declared.script.Answer.{Answer}
use Rattle.machine_values.specs.declared.script.Script.{Script}
use Rattle.run_lines.specs.declared.fault.ScriptFault.TheVariants as faults
use Rattle.run_lines.specs.ScriptLines as lines
use Rattle.run_lines.specs.ScriptLines.{IsLineAt, LinesTo, BeginsNoLine}
use Rattle.run_lines.specs.Splits.{has}
use Rattle.weave_plan.specs.declared.planning.NamedFile.{NamedFile}
use Rattle.ajweave.specs.declared.script.ScriptFile.{ScriptFile}
use Rattle.ajweave.specs.declared.script.ScriptFile.TheVariants as scripts
use Rattle.ajweave.specs.declared.status.Refusal.{Refusal}
use Rattle.ajweave.specs.declared.status.Refusal.TheVariants as refusals
use Rattle.ajweave.specs.Runs.{ScriptRead, NotTaken, Answers, ReadsLines, ReadsFile, ReadsScript}
use Rattle.ajweave.specs.Steps.{most_bytes, Settles, IsScriptFile, ReadsScriptFile}
use Rattle.ajweave.proofs.Cut.{big_same}

-- ---- a text ends in one way

or_left : (x y : Bool) → (x || y) ≡ false → x ≡ false
or_left true y h = h
or_left false y h = refl

or_right : (x y : Bool) → (x || y) ≡ false → y ≡ false
or_right true y h = absurd (false≢true (sym h))
or_right false y h = h

never_has : (byte b : ℕ) (text : List ℕ) → b ≡ byte → has byte (b ∷ text) ≡ false → ⊥
never_has byte b text same h = false≢true (sym (or_left (b == byte) (has byte text) h) ∙ eq-eqb b byte same)

behind_same : (byte : ℕ) (a c b d : List ℕ) → has byte a ≡ false → has byte c ≡ false → a ++ byte ∷ b ≡ c ++ byte ∷ d → b ≡ d
behind_same byte [] [] b d na nc e = cc
behind_same byte [] (z ∷ c) b d na nc e = let same : z ≡ byte = cc in absurd (never_has byte z c same nc)
behind_same byte (z ∷ a) [] b d na nc e = let same : z ≡ byte = cc in absurd (never_has byte z a same na)
behind_same byte (z ∷ a) (w ∷ c) b d na nc e =
    let tail : a ++ byte ∷ b ≡ c ++ byte ∷ d = cc in
    behind_same byte a c b d (or_right (z == byte) (has byte a) na) (or_right (w == byte) (has byte c) nc) tail

line_same : (text b d : List ℕ) (x y : Answer) → IsLineAt text x b → IsLineAt text y d → b ≡ d
line_same text b d x y g h = behind_same 10 g.line h.line b d g.feed.first h.feed.first (sym g.feed.whole ∙ h.feed.whole)

no_line : (text b : List ℕ) (x : Answer) → text ≡ [] → IsLineAt text x b → ⊥
no_line text b x empty h =
    let e : length (h.line ++ 10 ∷ b) ≡ 0 = ap length (sym h.feed.whole ∙ empty) in
    omega (arith, e, length-append h.line (10 ∷ b))

-- lines to the end, and no lines that end before
ends_once : (text rest : List ℕ) (answers others : List Answer) → LinesTo answers text [] → LinesTo others text rest → BeginsNoLine rest → rest ≢ [] → ⊥
ends_once text rest [] [] h l none some = some (sym l ∙ h)
ends_once text rest (a ∷ answers) [] h l none some = none a h.0 (subst (λ (t : List ℕ). IsLineAt t a h.0) l h.1)
ends_once text rest [] (b ∷ others) h l none some = no_line text l.0 b h l.1
ends_once text rest (a ∷ answers) (b ∷ others) h l none some =
    ends_once l.0 rest answers others (subst (λ (t : List ℕ). LinesTo answers t []) (line_same text h.0 l.0 a b h.1 l.1) h.2) l.2 none some

-- ---- a file that is not too long

-- what a file is read as, by whether it is too long
abbrev reads_by : List ℕ → Bool → List ℕ → ScriptRead → Type 0
reads_by name long bytes read = MatchBool long (read ≡ NotTaken (refusals.BigFile name)) (ReadsLines name bytes read)

by_lines : (name bytes : List ℕ) (read : ScriptRead) → length bytes ≤ 16777216 → Settles (ReadsLines name bytes) read → Settles (ReadsFile name bytes) read
by_lines name bytes read few h = subst (λ (b : Bool). Settles (reads_by name b bytes) read) (sym (le-ltb 16777216 (length bytes) few)) h

abbrev taken : List Answer → ScriptRead
taken answers = Answers answers

abbrev not_taken : Refusal → ScriptRead
not_taken refusal = NotTaken refusal

abbrev at_line : List ℕ → ℕ → Refusal
at_line name line = refusals.Script name line

-- a script of these answers that nothing was taken from
abbrev unread : List Answer → Script
unread answers = record { answers = answers; next = 0 }

is_script : (answers : List Answer) (bytes : List ℕ) → LinesTo answers bytes [] → lines.IsScript (unread answers) bytes
is_script answers bytes h = record { unread = refl; lines = h }

answers_whole : (script : Script) → script.next ≡ 0 → answers_left script ≡ script.answers
answers_whole script none = ap (λ (n : ℕ). drop n script.answers) none

taken_only : (name bytes : List ℕ) (script : Script) → lines.ReadsScript bytes (Ok script) → (other : ScriptRead) → ReadsLines name bytes other → other ≡ taken (answers_left script)
taken_only name bytes script h (NotTaken refusal) p = absurd (ends_once bytes p.1.rest script.answers p.1.answers h.0.lines p.1.lines p.1.other p.1.some)
taken_only name bytes script h (Answers answers) p =
    ap taken (ap (λ (s : Script). s.answers) (h.1 (unread answers) (is_script answers bytes p)) ∙ sym (answers_whole script h.0.unread))

-- the answers were read
pub lines_taken : (name bytes : List ℕ) (script : Script) → length bytes ≤ 16777216 → lines.ReadsScript bytes (Ok script) → Settles (ReadsFile name bytes) (Answers (answers_left script))
lines_taken name bytes script few h = by_lines name bytes (taken (answers_left script)) few (record {
  holds = subst (λ (xs : List Answer). LinesTo xs bytes []) (sym (answers_whole script h.0.unread)) h.0.lines;
  only = taken_only name bytes script h;
})

refused_only : (name bytes : List ℕ) (line : ℕ) → lines.ReadsScript bytes (Err (faults.Line line)) → (other : ScriptRead) → ReadsLines name bytes other → other ≡ not_taken (at_line name line)
refused_only name bytes line h (NotTaken refusal) p = ap not_taken (p.2 ∙ ap (at_line name) (h.1 p.0 p.1))
refused_only name bytes line h (Answers answers) p = absurd (h.2 (unread answers) (is_script answers bytes p))

-- a line is none of the form
pub line_refused : (name bytes : List ℕ) (line : ℕ) → length bytes ≤ 16777216 → lines.ReadsScript bytes (Err (faults.Line line)) → Settles (ReadsFile name bytes) (NotTaken (refusals.Script name line))
line_refused name bytes line few h = by_lines name bytes (not_taken (at_line name line)) few (record {
  holds = (line, h.0, refl);
  only = refused_only name bytes line h;
})

-- ---- the first bytes of a file

big : 16777216 < most_bytes
big = omega arith

-- the first bytes of a file are read as all of it
reads_cut : (name x y : List ℕ) (read : ScriptRead) → is_big (name, x) ≡ is_big (name, y) → (is_big (name, y) ≡ false → x ≡ y) → Settles (ReadsFile name x) read → Settles (ReadsFile name y) read
reads_cut name x y read same whole = by (is_big (name, y)) refl
  where
    by : (b : Bool) → is_big (name, y) ≡ b → Settles (ReadsFile name x) read → Settles (ReadsFile name y) read
    by true e h =
        let short : Settles (reads_by name true x) read = subst (λ (b : Bool). Settles (reads_by name b x) read) (same ∙ e) h in
        subst (λ (b : Bool). Settles (reads_by name b y) read) (sym e) short
    by false e h = subst (λ (bytes : List ℕ). Settles (ReadsFile name bytes) read) (whole e) h

few_bytes : (bytes : List ℕ) → length bytes ≤ 16777216 → length bytes ≤ most_bytes
few_bytes bytes h = omega arith

reads_found : (name short whole : List ℕ) (read : ScriptRead) → short ≡ take most_bytes whole → Settles (ReadsFile name short) read → Settles (ReadsFile name whole) read
reads_found name short whole read same h =
    reads_cut name (take most_bytes whole) whole read (big_same most_bytes whole big)
    (λ e. take_all most_bytes whole (few_bytes whole (ltb-false 16777216 (length whole) e)))
    (subst (λ (bytes : List ℕ). Settles (ReadsFile name bytes) read) same h)

-- what the file of a name is read as, by whether there is one
abbrev reads_at : List ℕ → Option (List ℕ) → ScriptRead → Type 0
reads_at name file read = MatchOption file (read ≡ NotTaken (refusals.NoScript name)) (λ bytes. ReadsFile name bytes read)

-- what was found of the script is read as the script
pub reads_script : (script : Option (List ℕ)) (files : Files) (file : ScriptFile) (read : ScriptRead) → IsScriptFile script files file → Settles (ReadsScriptFile file) read → Settles (ReadsScript script files) read
reads_script script files scripts.Unnamed read is h = subst (λ (s : Option (List ℕ)). Settles (ReadsScript s files) read) (sym is) h
reads_script script files (scripts.Missing name) read is h =
    let at : Settles (reads_at name (file_at files name)) read = subst (λ (o : Option (List ℕ)). Settles (reads_at name o) read) (sym is.1) h in
    subst (λ (s : Option (List ℕ)). Settles (ReadsScript s files) read) (sym is.0) at
reads_script script files (scripts.Found file) read is h =
    let found : Settles (ReadsFile file.name is.1.0) read = reads_found file.name file.bytes.items is.1.0 read is.1.2 h in
    let at : Settles (reads_at file.name (file_at files file.name)) read = subst (λ (o : Option (List ℕ)). Settles (reads_at file.name o) read) (sym is.1.1) found in
    subst (λ (s : Option (List ℕ)). Settles (ReadsScript s files) read) (sym is.0) at

-- ---- what was found

abbrev some_name : List ℕ → Option (List ℕ)
some_name name = Some name

whole_bytes : (n : ℕ) (file : Option (List ℕ)) (bytes : List ℕ) → option_map (take n) file ≡ Some bytes → (whole : List ℕ) × (file ≡ Some whole) × (bytes ≡ take n whole)
whole_bytes n None bytes h = absurd (none-some bytes h)
whole_bytes n (Some whole) bytes h = (whole, refl, sym (same_Some (take n whole) bytes h))

-- the first bytes of the file of the name were read
pub script_found : (held : Option Files) (word : List ℕ) (file : NamedFile) → file.name ≡ word → IfSome held (λ files. option_map (take most_bytes) (file_at files file.name) ≡ Some file.bytes.items) → IfSome held (λ files. IsScriptFile (Some word) files (scripts.Found file))
script_found None word file same given = tt
script_found (Some files) word file same given = (ap some_name (sym same), whole_bytes most_bytes (file_at files file.name) file.bytes.items given)
