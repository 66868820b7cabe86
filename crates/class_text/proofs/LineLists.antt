-- A text's first line, and the lines behind it.
use Rattle.std.proofs.Common.{◌≡◌, ◌≢◌, ℕ, suc, ◌+◌, ◌≤◌, ◌<◌, true, false, not, List, [], ◌∷◌, ◌++◌, length, drop, Option, Some, None, refl, sym, ap, subst, ◌∙◌, arith, append_assoc}
use Rattle.std.specs.Prelude.{if◌then◌else◌, ◌==◌}
use Rattle.std.specs.List.{cons_option}
use Rattle.std.proofs.lemmas.List.{append-nil}
use Rattle.class_lines.specs.Fields.{run_of, behind_run}
use Rattle.class_lines.specs.Words.{Text}
use Rattle.class_text.specs.declared.numbered.Numbered.{Numbered}
use Rattle.class_text.specs.Texts.{is_in_line, put_front, lines, line_numbered, numbered}

-- the lines of a text, by its first run without a line feed
abbrev front_and : List ℕ → List Text
front_and text = run_of is_in_line text ∷ lines (drop 1 (behind_run is_in_line text))

line_split : (b : ℕ) (rest : List ℕ) → lines (b ∷ rest) ≡ front_and (b ∷ rest)
line_split b [] =
    elim (b == 10) as (λ t. (if t then [] ∷ lines [] else put_front b (lines [])) ≡ (if not t then b ∷ run_of is_in_line [] else []) ∷ lines (drop 1 (if not t then behind_run is_in_line [] else b ∷ []))) [
      | true ↦ refl
      | false ↦ refl
    ]
line_split b (c ∷ rest) =
    elim (b == 10) as (λ t. (if t then [] ∷ lines (c ∷ rest) else put_front b (lines (c ∷ rest))) ≡ (if not t then b ∷ run_of is_in_line (c ∷ rest) else []) ∷ lines (drop 1 (if not t then behind_run is_in_line (c ∷ rest) else b ∷ c ∷ rest))) [
      | true ↦ refl
      | false ↦ ap (put_front b) (line_split c rest)
    ]

pub lines_split : (text : List ℕ) → text ≢ [] → lines text ≡ run_of is_in_line text ∷ lines (drop 1 (behind_run is_in_line text))
lines_split [] some = absurd (some refl)
lines_split (b ∷ rest) some = line_split b rest

-- what stands behind a line is shorter
behind_shorter : (text : List ℕ) → length (behind_run is_in_line text) ≤ length text
behind_shorter [] = omega arith
behind_shorter (b ∷ rest) =
    elim (not (b == 10)) as (λ t. length (if t then behind_run is_in_line rest else b ∷ rest) ≤ suc (length rest)) [
      | true ↦ let le = behind_shorter rest in omega arith
      | false ↦ omega arith
    ]

drop_shorter : (text : List ℕ) → length (drop 1 text) ≤ length text
drop_shorter [] = omega arith
drop_shorter (b ∷ rest) = omega arith

pub rest_shorter : (b : ℕ) (rest : List ℕ) → suc (length (drop 1 (behind_run is_in_line (b ∷ rest)))) ≤ suc (length rest)
rest_shorter b rest =
    elim (not (b == 10)) as (λ t. suc (length (drop 1 (if t then behind_run is_in_line rest else b ∷ rest))) ≤ suc (length rest)) [
      | true ↦ let le = drop_shorter (behind_run is_in_line rest) in let less = behind_shorter rest in omega arith
      | false ↦ omega arith
    ]

pub rest_is_shorter : (text : List ℕ) → text ≢ [] → suc (length (drop 1 (behind_run is_in_line text))) ≤ length text
rest_is_shorter [] some = absurd (some refl)
rest_is_shorter (b ∷ rest) some = rest_shorter b rest

-- one more line, which is said or passed over
pub one_more : (found more : List Numbered) (n : ℕ) (text : Text) (texts : List Text) (said : Option Numbered) → line_numbered n text ≡ said → more ≡ found ++ cons_option said []
    → found ++ numbered n (text ∷ texts) ≡ more ++ numbered (n + 1) texts
one_more found more n text texts None is e = ap (λ (o : Option Numbered). found ++ cons_option o (numbered (n + 1) texts)) is ∙ sym (ap (λ (l : List Numbered). l ++ numbered (n + 1) texts) (e ∙ append-nil found))
one_more found more n text texts (Some line) is e =
    ap (λ (o : Option Numbered). found ++ cons_option o (numbered (n + 1) texts)) is
    ∙ sym (append_assoc found (line ∷ []) (numbered (n + 1) texts)) ∙ sym (ap (λ (l : List Numbered). l ++ numbered (n + 1) texts) e)

-- the lines that were read, from number 1 to before this one, and the rest of the text
pub record Listed (text : List ℕ) (number : ℕ) (found : List Numbered) (rest : List ℕ) : Type 0 where
  pub listed : numbered 1 (lines text) ≡ found ++ numbered number (lines rest)
  pub counted : length (lines text) + 1 ≡ length (lines rest) + number
  pub within : number + length rest ≤ length text + 1

pub listing_goes_on : (text : List ℕ) (number : ℕ) (found more : List Numbered) (rest line behind : List ℕ) (said : Option Numbered)
    → Listed text number found rest → rest ≢ [] → line ≡ run_of is_in_line rest → behind ≡ drop 1 (behind_run is_in_line rest) → line_numbered number line ≡ said → more ≡ found ++ cons_option said []
    → Listed text (number + 1) more behind
listing_goes_on text number found more rest line behind said so_far some front back is put =
    let split : lines rest ≡ line ∷ lines behind = lines_split rest some ∙ ap (λ (l : List ℕ). l ∷ lines (drop 1 (behind_run is_in_line rest))) (sym front) ∙ ap (λ (l : List ℕ). line ∷ lines l) (sym back) in
    let shorter : suc (length behind) ≤ length rest = subst (λ (l : List ℕ). suc (length l) ≤ length rest) (sym back) (rest_is_shorter rest some) in
    let counted : length (lines text) + 1 ≡ length (lines rest) + number = so_far.counted in
    let within : number + length rest ≤ length text + 1 = so_far.within in
    let lengths : length (lines rest) ≡ suc (length (lines behind)) = ap length split in
    record {
      listed = so_far.listed ∙ ap (λ (l : List Text). found ++ numbered number l) split ∙ one_more found more number line (lines behind) said is put;
      counted = omega (arith, counted, lengths);
      within = omega (arith, within, shorter);
    }

pub shorter_behind : (rest behind : List ℕ) → rest ≢ [] → behind ≡ drop 1 (behind_run is_in_line rest) → length behind < length rest
shorter_behind rest behind some back =
    let shorter : suc (length behind) ≤ length rest = subst (λ (l : List ℕ). suc (length l) ≤ length rest) (sym back) (rest_is_shorter rest some) in
    omega (arith, shorter)
