-- A token that is read stands in the text, and one that stands there is read.
use Rattle.std.proofs.Common.{◌≡◌, ℕ, Bool, true, false, not, ◌&&◌, List, [], ◌∷◌, ◌++◌, length, Option, Some, None, refl, sym, ap, subst, ◌∙◌, append_assoc, arith}
use Rattle.std.specs.Prelude.{◌==◌, ◌||◌, nat_le, if◌then◌else◌}
use Rattle.std.specs.List.{list_all}
use Rattle.std.specs.Str.{bytes_eq}
use Rattle.std.proofs.lemmas.Bool.{and_parts, and_from, or_left, not-true, not_from_false, false≢true, eqb-true, eq-eqb}
use Rattle.std.proofs.lemmas.Bool.Decides.{nat_tests}
use Rattle.std.proofs.lemmas.Option.{same_Some, none-some}
use Rattle.std.proofs.lemmas.Slice.Eq.{bytes_eq-Decides}
use Rattle.class_file.specs.FirstForm.{is_letter, is_letter_or_digit, begins_with_letter, is_printable}
use Rattle.jp_model.specs.AspectText.{Token, IsText, token_text, may_follow, begins_outside, is_word_character, is_space, is_unescaped, is_short_identifier, is_literal, quoted}
use Rattle.jp_model.specs.AspectText.Token.{Word, Sign}
use Rattle.aspect_form.specs.Reading.{◌>>=◌, run_of, behind_run, stripped, token_at, tokens_at, identifier_at, quoted_at, is_quotable, is_name, is_taken}

-- ---- steps

-- what the steps of one that found something found
pub bind_some : {A B : Type 0} (r : Option A) (f : A → Option B) (y : B) → (r >>= f) ≡ Some y → (x : A) × (r ≡ Some x) × (f x ≡ Some y)
bind_some None f y e = absurd (none-some y e)
bind_some (Some x) f y e = (x, refl, e)

-- a test that passed
pub when_some : {A : Type 0} (t : Bool) (x y : A) → (if t then Some x else None) ≡ Some y → (t ≡ true) × (x ≡ y)
when_some true x y e = (refl, same_Some x y e)
when_some false x y e = absurd (none-some y e)

when : {A : Type 0} (t : Bool) (o : Option A) (y : A) → (if t then o else None) ≡ Some y → (t ≡ true) × (o ≡ Some y)
when true o y e = (refl, e)
when false o y e = absurd (none-some y e)

-- ---- runs

-- no byte stands there, or one that fails
abbrev pub stops : (ℕ → Bool) → List ℕ → Bool
stops test [] = true
stops test (b ∷ rest) = not (test b)

splits_step : (t : Bool) (b : ℕ) (rest run behind : List ℕ) → rest ≡ run ++ behind → b ∷ rest ≡ (if t then b ∷ run else []) ++ (if t then behind else b ∷ rest)
splits_step true b rest run behind e = ap (λ (r : List ℕ). b ∷ r) e
splits_step false b rest run behind e = refl

pub run_splits : (test : ℕ → Bool) (xs : List ℕ) → xs ≡ run_of test xs ++ behind_run test xs
run_splits test [] = refl
run_splits test (b ∷ rest) = splits_step (test b) b rest (run_of test rest) (behind_run test rest) (run_splits test rest)

pub run_passes : (test : ℕ → Bool) (xs : List ℕ) → list_all test (run_of test xs) ≡ true
run_passes test [] = refl
run_passes test (b ∷ rest) =
    elim (test b) as (λ t. test b ≡ t → list_all test (if t then b ∷ run_of test rest else []) ≡ true) [
      | true ↦ λ e. and_from (test b) (list_all test (run_of test rest)) e (run_passes test rest)
      | false ↦ λ e. refl
    ] refl

pub behind_stops : (test : ℕ → Bool) (xs : List ℕ) → stops test (behind_run test xs) ≡ true
behind_stops test [] = refl
behind_stops test (b ∷ rest) =
    elim (test b) as (λ t. test b ≡ t → stops test (if t then behind_run test rest else b ∷ rest) ≡ true) [
      | true ↦ λ e. behind_stops test rest
      | false ↦ λ e. not_from_false (test b) e
    ] refl

pub run_again : (test : ℕ → Bool) (front rest : List ℕ) → list_all test front ≡ true → stops test rest ≡ true → run_of test (front ++ rest) ≡ front
run_again test [] [] h s = refl
run_again test [] (b ∷ rest) h s = let e : test b ≡ false = not-true (test b) s in rw e refl
run_again test (b ∷ front) rest h s =
    let p = and_parts (test b) (list_all test front) h in
    let e : test b ≡ true = p.0 in
    rw e (ap (λ (r : List ℕ). b ∷ r) (run_again test front rest p.1 s))

pub behind_again : (test : ℕ → Bool) (front rest : List ℕ) → list_all test front ≡ true → stops test rest ≡ true → behind_run test (front ++ rest) ≡ rest
behind_again test [] [] h s = refl
behind_again test [] (b ∷ rest) h s = let e : test b ≡ false = not-true (test b) s in rw e refl
behind_again test (b ∷ front) rest h s =
    let p = and_parts (test b) (list_all test front) h in
    let e : test b ≡ true = p.0 in
    rw e (behind_again test front rest p.1 s)

-- ---- fixed bytes

pub stripped_takes : (text xs rest : List ℕ) → stripped text xs ≡ Some rest → xs ≡ text ++ rest
stripped_takes [] xs rest e = same_Some xs rest e
stripped_takes (s ∷ text) [] rest e = absurd (none-some rest e)
stripped_takes (s ∷ text) (b ∷ xs) rest e =
    let g = when (b == s) (stripped text xs) rest e in
    let h : b ≡ s = eqb-true b s g.0 in
    let i : xs ≡ text ++ rest = stripped_takes text xs rest g.1 in
    cc

pub stripped_again : (text rest : List ℕ) → stripped text (text ++ rest) ≡ Some rest
stripped_again [] rest = refl
stripped_again (s ∷ text) rest = let e : (s == s) ≡ true = eq-eqb s s refl in rw e (stripped_again text rest)

-- ---- one token

-- begins with no blank
abbrev pub leads : List ℕ → Bool
leads [] = false
leads (b ∷ rest) = not (is_space b)

-- a token that blanks do not take a part of
abbrev pub is_solid : Token → Bool
is_solid (Word text) = leads text && list_all is_word_character text
is_solid (Sign text) = leads text

leads_stops : (text rest : List ℕ) → leads text ≡ true → stops is_space (text ++ rest) ≡ true
leads_stops [] rest h = absurd (false≢true h)
leads_stops (b ∷ text) rest h = h

outside_from_stops : (rest : List ℕ) → stops is_word_character rest ≡ true → begins_outside rest ≡ true
outside_from_stops [] h = refl
outside_from_stops (b ∷ rest) h = h

stops_from_outside : (rest : List ℕ) → begins_outside rest ≡ true → stops is_word_character rest ≡ true
stops_from_outside [] h = refl
stops_from_outside (b ∷ rest) h = h

pub token_takes : (t : Token) (tokens : List Token) (bytes rest : List ℕ) → token_at t bytes ≡ Some rest → IsText tokens rest → IsText (t ∷ tokens) bytes
unfolding token_at
token_takes (Word text) tokens bytes rest e more =
    let after = behind_run is_space bytes in
    let g = when_some (bytes_eq (run_of is_word_character after) text) (behind_run is_word_character after) rest e in
    let same : run_of is_word_character after ≡ text = (bytes_eq-Decides (run_of is_word_character after) text).0 g.0 in
    let parts : after ≡ text ++ rest =
    run_splits is_word_character after ∙ ap (λ (r : List ℕ). r ++ behind_run is_word_character after) same ∙ ap (λ (r : List ℕ). text ++ r) g.1 in
    let outside = subst (λ (r : List ℕ). begins_outside r ≡ true) g.1 (outside_from_stops (behind_run is_word_character after) (behind_stops is_word_character after)) in
    (run_of is_space bytes, rest, run_passes is_space bytes, run_splits is_space bytes ∙ ap (λ (r : List ℕ). run_of is_space bytes ++ r) parts, outside, more)
token_takes (Sign text) tokens bytes rest e more =
    (run_of is_space bytes, rest, run_passes is_space bytes, run_splits is_space bytes ∙ ap (λ (r : List ℕ). run_of is_space bytes ++ r) (stripped_takes text (behind_run is_space bytes) rest e), refl, more)

pub token_again : (t : Token) (bytes gap rest : List ℕ) → is_solid t ≡ true → list_all is_space gap ≡ true → bytes ≡ gap ++ (token_text t ++ rest) → may_follow t rest ≡ true → token_at t bytes ≡ Some rest
unfolding token_at
token_again (Word text) bytes gap rest solid h e follow =
    let p = and_parts (leads text) (list_all is_word_character text) solid in
    let after : behind_run is_space bytes ≡ text ++ rest = ap (behind_run is_space) e ∙ behind_again is_space gap (text ++ rest) h (leads_stops text rest p.0) in
    let run : run_of is_word_character (text ++ rest) ≡ text = run_again is_word_character text rest p.1 (stops_from_outside rest follow) in
    let behind : behind_run is_word_character (text ++ rest) ≡ rest = behind_again is_word_character text rest p.1 (stops_from_outside rest follow) in
    let same : bytes_eq text text ≡ true = (bytes_eq-Decides text text).1 refl in
    rw (after, run, behind, same) refl
token_again (Sign text) bytes gap rest solid h e follow =
    let after : behind_run is_space bytes ≡ text ++ rest = ap (behind_run is_space) e ∙ behind_again is_space gap (text ++ rest) h (leads_stops text rest solid) in
    rw after (stripped_again text rest)

-- ---- a list of tokens

pub tokens_take : (ts : List Token) (bytes rest : List ℕ) → tokens_at ts bytes ≡ Some rest → list_all is_space rest ≡ true → IsText ts bytes
tokens_take [] bytes rest e h = subst (λ (r : List ℕ). list_all is_space r ≡ true) (sym (same_Some bytes rest e)) h
tokens_take (t ∷ ts) bytes rest e h =
    let b = bind_some (token_at t bytes) (tokens_at ts) rest e in
    token_takes t ts bytes b.0 b.1 (tokens_take ts b.0 rest b.2 h)

pub tokens_again : (ts : List Token) (bytes : List ℕ) → list_all is_solid ts ≡ true → IsText ts bytes → (rest : List ℕ) × (tokens_at ts bytes ≡ Some rest) × (list_all is_space rest ≡ true)
tokens_again [] bytes solid h = (bytes, refl, h)
tokens_again (t ∷ ts) bytes solid h =
    let p = and_parts (is_solid t) (list_all is_solid ts) solid in
    let one : token_at t bytes ≡ Some h.1 = token_again t bytes h.0 h.1 p.0 h.2 h.3 h.4 in
    let more = tokens_again ts h.1 p.1 h.5 in
    (more.0, rw one more.1, more.2)

-- some tokens, and others behind them
pub tokens_join : (xs ys : List Token) (a b : List ℕ) → tokens_at xs a ≡ Some b → tokens_at (xs ++ ys) a ≡ tokens_at ys b
tokens_join [] ys a b e = ap (tokens_at ys) (same_Some a b e)
tokens_join (t ∷ xs) ys a b e =
    let m = bind_some (token_at t a) (tokens_at xs) b e in
    let one : token_at t a ≡ Some m.0 = m.1 in
    rw one (tokens_join xs ys m.0 b m.2)

pub tokens_split : (xs ys : List Token) (a c : List ℕ) → tokens_at (xs ++ ys) a ≡ Some c → (b : List ℕ) × (tokens_at xs a ≡ Some b) × (tokens_at ys b ≡ Some c)
tokens_split [] ys a c e = (a, refl, e)
tokens_split (t ∷ xs) ys a c e =
    let m = bind_some (token_at t a) (tokens_at (xs ++ ys)) c e in
    let r = tokens_split xs ys m.0 c m.2 in
    (r.0, ap (λ (o : Option (List ℕ)). o >>= tokens_at xs) m.1 ∙ r.1, r.2)

-- ---- identifiers

name_is : (text : List ℕ) → is_name text ≡ is_short_identifier text
unfolding is_name is_taken
name_is text = refl

pub identifier_takes : (bytes name rest : List ℕ) → identifier_at bytes ≡ Some (name, rest) → (token_at (Word name) bytes ≡ Some rest) × (is_short_identifier name ≡ true)
unfolding identifier_at token_at
identifier_takes bytes name rest e =
    let run = run_of is_word_character (behind_run is_space bytes) in
    let behind = behind_run is_word_character (behind_run is_space bytes) in
    let g = when_some (is_name run) (run, behind) (name, rest) e in
    let n : run ≡ name = ap (λ (p : List ℕ × List ℕ). p.0) g.1 in
    let r : behind ≡ rest = ap (λ (p : List ℕ × List ℕ). p.1) g.1 in
    let same : bytes_eq run name ≡ true = (bytes_eq-Decides run name).1 n in
    (rw same (ap (λ (x : List ℕ). Some x) r), sym (name_is name) ∙ ap is_name (sym n) ∙ g.0)

pub identifier_again : (bytes name rest : List ℕ) → token_at (Word name) bytes ≡ Some rest → is_short_identifier name ≡ true → identifier_at bytes ≡ Some (name, rest)
unfolding identifier_at token_at
identifier_again bytes name rest e h =
    let run = run_of is_word_character (behind_run is_space bytes) in
    let behind = behind_run is_word_character (behind_run is_space bytes) in
    let g = when_some (bytes_eq run name) behind rest e in
    let n : run ≡ name = (bytes_eq-Decides run name).0 g.0 in
    let ok : is_name run ≡ true = ap is_name n ∙ name_is name ∙ h in
    rw ok (ap (λ (x : List ℕ). Some (x, behind)) n ∙ ap (λ (x : List ℕ). Some (name, x)) g.1)

letter_leads : (b : ℕ) → is_letter b ≡ true → not (is_space b) ≡ true
letter_leads b h = grind (arith, nat_tests)

identifier_leads : (name : List ℕ) → begins_with_letter name ≡ true → leads name ≡ true
identifier_leads [] h = absurd (false≢true h)
identifier_leads (b ∷ rest) h = letter_leads b h

word_characters : (name : List ℕ) → list_all is_letter_or_digit name ≡ true → list_all is_word_character name ≡ true
word_characters [] h = refl
word_characters (b ∷ rest) h =
    let p = and_parts (is_letter_or_digit b) (list_all is_letter_or_digit rest) h in
    and_from (is_word_character b) (list_all is_word_character rest) (or_left (is_letter_or_digit b) (b == 95 || (b == 36)) p.0) (word_characters rest p.1)

pub identifier_is_solid : (name : List ℕ) → is_short_identifier name ≡ true → is_solid (Word name) ≡ true
unfolding is_name
identifier_is_solid name h =
    let g : is_name name ≡ true = name_is name ∙ h in
    let p = and_parts (begins_with_letter name && (list_all is_letter_or_digit name && not (is_taken name))) (nat_le (length name) 1000) g in
    let q = and_parts (begins_with_letter name) (list_all is_letter_or_digit name && not (is_taken name)) p.0 in
    let r = and_parts (list_all is_letter_or_digit name) (not (is_taken name)) q.1 in
    and_from (leads name) (list_all is_word_character name) (identifier_leads name q.0) (word_characters name r.0)

-- ---- texts in quotes

quotable_parts : (text : List ℕ) → list_all is_quotable text ≡ true → (list_all is_printable text ≡ true) × (list_all is_unescaped text ≡ true)
quotable_parts [] h = (refl, refl)
quotable_parts (b ∷ rest) h =
    let p = and_parts (is_quotable b) (list_all is_quotable rest) h in
    let q = and_parts (is_printable b) (is_unescaped b) p.0 in
    let r = quotable_parts rest p.1 in
    (and_from (is_printable b) (list_all is_printable rest) q.0 r.0, and_from (is_unescaped b) (list_all is_unescaped rest) q.1 r.1)

quotable_from : (text : List ℕ) → list_all is_printable text ≡ true → list_all is_unescaped text ≡ true → list_all is_quotable text ≡ true
quotable_from [] h i = refl
quotable_from (b ∷ rest) h i =
    let p = and_parts (is_printable b) (list_all is_printable rest) h in
    let q = and_parts (is_unescaped b) (list_all is_unescaped rest) i in
    and_from (is_quotable b) (list_all is_quotable rest) (and_from (is_printable b) (is_unescaped b) p.0 q.0) (quotable_from rest p.1 q.1)

pub quoted_takes : (bytes text rest : List ℕ) → quoted_at bytes ≡ Some (text, rest) → (token_at (Sign (quoted text)) bytes ≡ Some rest) × (is_literal text ≡ true)
unfolding quoted_at token_at
quoted_takes bytes text rest e =
    let after = behind_run is_space bytes in
    let o = bind_some (stripped (34 ∷ []) after) (λ inside. stripped (34 ∷ []) (behind_run is_quotable inside) >>= (λ r. if nat_le (length (run_of is_quotable inside)) 65535 then Some (run_of is_quotable inside, r) else None)) (text, rest) e in
    let inside = o.0 in
    let c = bind_some (stripped (34 ∷ []) (behind_run is_quotable inside)) (λ r. if nat_le (length (run_of is_quotable inside)) 65535 then Some (run_of is_quotable inside, r) else None) (text, rest) o.2 in
    let g = when_some (nat_le (length (run_of is_quotable inside)) 65535) (run_of is_quotable inside, c.0) (text, rest) c.2 in
    let n : run_of is_quotable inside ≡ text = ap (λ (p : List ℕ × List ℕ). p.0) g.1 in
    let r : c.0 ≡ rest = ap (λ (p : List ℕ × List ℕ). p.1) g.1 in
    let closing : behind_run is_quotable inside ≡ 34 ∷ rest = stripped_takes (34 ∷ []) (behind_run is_quotable inside) c.0 c.1 ∙ ap (λ (x : List ℕ). 34 ∷ x) r in
    let parts : inside ≡ text ++ 34 ∷ rest = run_splits is_quotable inside ∙ ap (λ (x : List ℕ). x ++ behind_run is_quotable inside) n ∙ ap (λ (x : List ℕ). text ++ x) closing in
    let whole : after ≡ quoted text ++ rest =
    stripped_takes (34 ∷ []) after inside o.1 ∙ ap (λ (x : List ℕ). 34 ∷ x) (parts ∙ sym (append_assoc text (34 ∷ []) rest)) in
    let passes : list_all is_quotable text ≡ true = subst (λ (x : List ℕ). list_all is_quotable x ≡ true) n (run_passes is_quotable inside) in
    let bound : nat_le (length text) 65535 ≡ true = subst (λ (x : List ℕ). nat_le (length x) 65535 ≡ true) n g.0 in
    let q = quotable_parts text passes in
    (rw whole (stripped_again (quoted text) rest), and_from (list_all is_printable text) (list_all is_unescaped text && nat_le (length text) 65535) q.0 (and_from (list_all is_unescaped text) (nat_le (length text) 65535) q.1 bound))

pub quoted_again : (bytes text rest : List ℕ) → token_at (Sign (quoted text)) bytes ≡ Some rest → is_literal text ≡ true → quoted_at bytes ≡ Some (text, rest)
unfolding quoted_at token_at
quoted_again bytes text rest e h =
    let after = behind_run is_space bytes in
    let whole : after ≡ 34 ∷ (text ++ 34 ∷ rest) = stripped_takes (quoted text) after rest e ∙ ap (λ (x : List ℕ). 34 ∷ x) (append_assoc text (34 ∷ []) rest) in
    let p = and_parts (list_all is_printable text) (list_all is_unescaped text && nat_le (length text) 65535) h in
    let q = and_parts (list_all is_unescaped text) (nat_le (length text) 65535) p.1 in
    let passes = quotable_from text p.0 q.0 in
    let run : run_of is_quotable (text ++ 34 ∷ rest) ≡ text = run_again is_quotable text (34 ∷ rest) passes refl in
    let behind : behind_run is_quotable (text ++ 34 ∷ rest) ≡ 34 ∷ rest = behind_again is_quotable text (34 ∷ rest) passes refl in
    let bound : nat_le (length text) 65535 ≡ true = q.1 in
    rw (whole, run, behind, bound) refl
