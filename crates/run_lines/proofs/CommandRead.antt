-- The words of the command, part by part.
use Rattle.std.specs.Prelude.{◌≡◌, ℕ, ◌<◌, ◌≤◌, true, false, List, [], ◌∷◌, map, codes, length, slice_index_or, Option, Some, None, String, refl}
use Rattle.std.specs.List.{list_all}
use Rattle.std.specs.String.{string_bytes}
use Rattle.std.specs.declared.alloc.Global.{Global}
use Rattle.std.proofs.lemmas.Bool.{false≢true}
use Rattle.std.proofs.lemmas.List.Folds.{list_all-map}
use Rattle.std.proofs.Common.{sym, ◌∙◌, ap, subst, arith}
use Rattle.run_lines.specs.declared.entry.EntryWords.{EntryWords}
use Rattle.run_lines.specs.Splits.{Text}
use Rattle.run_lines.specs.Numbers.{IsSteps}
use Rattle.run_lines.specs.EntryWord.{IsEntryWord}
use Rattle.run_lines.specs.CommandWords.{is_plain, RunCommand, IsRunOf, SayRun, AreRunWords}
use Rattle.run_lines.specs.Reading.{Finds}

run_is : (a b : RunCommand) → a.input ≡ b.input → a.word ≡ b.word → a.entry ≡ b.entry → a.steps ≡ b.steps → a.script ≡ b.script → a ≡ b
run_is a b p w q r s = λ i. record { input = p i; word = w i; entry = q i; steps = r i; script = s i }

-- of the words that are read there is one run
pub one_run : (run : RunCommand) (steps : Text) → ((e : EntryWords) → IsEntryWord e run.word → e ≡ run.entry) → ((n : ℕ) → IsSteps n steps → n ≡ run.steps)
    → (y : RunCommand) → IsRunOf y run.input run.word steps run.script → y ≡ run
one_run run steps entries numbers y is = run_is y run is.folder is.same_word (entries y.entry is.is_entry) (numbers y.steps is.are_steps) is.file

-- the same form, said in another way
pub finds_same : {X Y : Type 0} (view : X → Y) (R S : Y → Type 0) → ((y : Y) → R y → S y) → ((y : Y) → S y → R y) → (o : Option X) → Finds view R o → Finds view S o
finds_same view R S to from None h = λ y s. h y (from y s)
finds_same view R S to from (Some x) h = (to (view x) h.0, λ y s. h.1 y (from y s))

-- ---- lists of words

pub four : {X : Type 0} (xs : List X) (a b c d : X) → 4 ≤ length xs → length xs < 5
    → a ≡ slice_index_or xs 0 a → b ≡ slice_index_or xs 1 b → c ≡ slice_index_or xs 2 c → d ≡ slice_index_or xs 3 d → xs ≡ a ∷ b ∷ c ∷ d ∷ []
four [] a b c d least most p q r s = absurd (omega arith)
four (w ∷ []) a b c d least most p q r s = absurd (omega arith)
four (w ∷ x ∷ []) a b c d least most p q r s = absurd (omega arith)
four (w ∷ x ∷ y ∷ []) a b c d least most p q r s = absurd (omega arith)
four (w ∷ x ∷ y ∷ z ∷ []) a b c d least most p q r s = let e : a ≡ w = p in let f : b ≡ x = q in let g : c ≡ y = r in let h : d ≡ z = s in cc
four (w ∷ x ∷ y ∷ z ∷ v ∷ more) a b c d least most p q r s = absurd (omega arith)

pub five : {X : Type 0} (xs : List X) (a b c d e : X) → 5 ≤ length xs → length xs < 6
    → a ≡ slice_index_or xs 0 a → b ≡ slice_index_or xs 1 b → c ≡ slice_index_or xs 2 c → d ≡ slice_index_or xs 3 d → e ≡ slice_index_or xs 4 e → xs ≡ a ∷ b ∷ c ∷ d ∷ e ∷ []
five [] a b c d e least most p q r s t = absurd (omega arith)
five (w ∷ []) a b c d e least most p q r s t = absurd (omega arith)
five (w ∷ x ∷ []) a b c d e least most p q r s t = absurd (omega arith)
five (w ∷ x ∷ y ∷ []) a b c d e least most p q r s t = absurd (omega arith)
five (w ∷ x ∷ y ∷ z ∷ []) a b c d e least most p q r s t = absurd (omega arith)
five (w ∷ x ∷ y ∷ z ∷ v ∷ []) a b c d e least most p q r s t =
    let f : a ≡ w = p in let g : b ≡ x = q in let h : c ≡ y = r in let i : d ≡ z = s in let j : e ≡ v = t in cc
five (w ∷ x ∷ y ∷ z ∷ v ∷ u ∷ more) a b c d e least most p q r s t = absurd (omega arith)

-- ---- the whole line

moved : (run : RunCommand) (input entry steps input' entry' steps' : Text) (script script' : Option Text) → input ≡ input' → entry ≡ entry' → steps ≡ steps' → script ≡ script'
    → IsRunOf run input entry steps script → IsRunOf run input' entry' steps' script'
moved run input entry steps input' entry' steps' script script' p q r s is = record {
  folder = is.folder ∙ p;
  same_word = is.same_word ∙ q;
  is_entry = subst (IsEntryWord run.entry) q is.is_entry;
  are_steps = subst (IsSteps run.steps) r is.are_steps;
  file = is.file ∙ s;
}

abbrev Plain : List (String Global) → Type 0
Plain words = list_all (λ word. is_plain (string_bytes word)) words ≡ true

-- a word that isn't plain stands in no command
pub not_plain : (words : List (String Global)) → list_all (λ word. is_plain (string_bytes word)) words ≡ false → (run : RunCommand) → AreRunWords (map string_bytes words) run → ⊥
not_plain words not run say = false≢true (sym (list_all-map is_plain string_bytes words ∙ not) ∙ say.0)

all_plain : (words : List (String Global)) → Plain words → (texts : List Text) → map string_bytes words ≡ texts → list_all is_plain texts ≡ true
all_plain words plain texts same = ap (list_all is_plain) (sym same) ∙ list_all-map is_plain string_bytes words ∙ plain

-- the words are those of the run in the texts
said : (words : List (String Global)) → Plain words → (texts : List Text) (R : RunCommand → Type 0) → map string_bytes words ≡ texts → ((run : RunCommand) → R run → SayRun texts run) → ((run : RunCommand) → SayRun texts run → R run)
    → {X : Type 0} (view : X → RunCommand) (o : Option X) → Finds view R o → Finds view (AreRunWords (map string_bytes words)) o
said words plain texts R same to from view o h =
    subst (λ (ts : List Text). Finds view (AreRunWords ts) o) (sym same)
    (finds_same view R (AreRunWords texts) (λ run r. (all_plain words plain texts same, to run r)) (λ run s. from run s.1) o h)

module _ (words : List (String Global)) (plain : Plain words) (name a b c : String Global) (run_word : string_bytes name ≡ codes "run")
    (input entry steps : Text) (p : input ≡ string_bytes a) (q : entry ≡ string_bytes b) (r : steps ≡ string_bytes c) where
  pub said_four : words ≡ name ∷ a ∷ b ∷ c ∷ [] → {X : Type 0} (view : X → RunCommand) (o : Option X) → Finds view (λ run. IsRunOf run input entry steps None) o
      → Finds view (AreRunWords (map string_bytes words)) o
  said_four are = said words plain (map string_bytes (name ∷ a ∷ b ∷ c ∷ [])) (λ run. IsRunOf run input entry steps None) (ap (map string_bytes) are)
      (λ run is. (run_word, moved run input entry steps (string_bytes a) (string_bytes b) (string_bytes c) None None p q r refl is))
      (λ run say. moved run (string_bytes a) (string_bytes b) (string_bytes c) input entry steps None None (sym p) (sym q) (sym r) refl say.1)

  pub said_five : (d : String Global) (script : Text) → script ≡ string_bytes d → words ≡ name ∷ a ∷ b ∷ c ∷ d ∷ [] → {X : Type 0} (view : X → RunCommand) (o : Option X)
      → Finds view (λ run. IsRunOf run input entry steps (Some script)) o → Finds view (AreRunWords (map string_bytes words)) o
  said_five d script s are = said words plain (map string_bytes (name ∷ a ∷ b ∷ c ∷ d ∷ [])) (λ run. IsRunOf run input entry steps (Some script)) (ap (map string_bytes) are)
      (λ run is. (run_word, moved run input entry steps (string_bytes a) (string_bytes b) (string_bytes c) (Some script) (Some (string_bytes d)) p q r (ap (λ (t : Text). Some t) s) is))
      (λ run say. moved run (string_bytes a) (string_bytes b) (string_bytes c) input entry steps (Some (string_bytes d)) (Some script) (sym p) (sym q) (sym r) (ap (λ (t : Text). Some t) (sym s)) say.1)
