-- The cases of a lookupswitch, and the opcode of a mnemonic, one by one.
use Rattle.std.proofs.Common.{◌≡◌, ℕ, zero, suc, ◌<◌, ◌≤◌, Bool, true, false, Bor, List, [], ◌∷◌, ◌++◌, length, drop, get_or, Option, Some, None, refl, sym, ap, subst, ◌∙◌, arith, inl, inr, append_assoc}
use Rattle.std.specs.Prelude.{if◌then◌else◌, option_map, ℤ, int_lt}
use Rattle.std.specs.Option.{option_or}
use Rattle.std.specs.Str.{bytes_eq}
use Rattle.std.proofs.lemmas.List.{append-nil}
use Rattle.std.proofs.lemmas.Bool.{cases_eq}
use Rattle.opcode_table.specs.Table.{mnemonic_of}
use Rattle.class_lines.specs.declared.line.Case.{Case}
use Rattle.class_lines.specs.Words.{◌>>=◌, Text, texts}
use Rattle.class_lines.specs.Operations.{op_below, op_named, case_of, cases_above}
use Rattle.class_lines.proofs.WordLists.{before, texts_at, no_texts}

-- ---- opcodes

op_stays : (n m op : ℕ) (word : Text) → n ≤ m → op_below n word ≡ Some op → op_below m word ≡ Some op
op_stays n zero op word le h = let e : n ≡ zero = omega arith in subst (λ (k : ℕ). op_below k word ≡ Some op) e h
op_stays n (suc m) op word le h =
    elim (cases_eq n (suc m)) [
      | inl e ↦ subst (λ (k : ℕ). op_below k word ≡ Some op) e h
      | inr ne ↦ ap (λ (o : Option ℕ). option_or o (if bytes_eq (mnemonic_of m) word then Some m else None)) (op_stays n m op word (omega (arith, ne)) h)
    ]

-- the first that has the mnemonic
pub op_found : (op : ℕ) (word : Text) → op < 202 → op_below op word ≡ None → bytes_eq (mnemonic_of op) word ≡ true → op_named word ≡ Some op
unfolding op_named
op_found op word lt none same =
    let here : op_below (suc op) word ≡ Some op =
    ap (λ (o : Option ℕ). option_or o (if bytes_eq (mnemonic_of op) word then Some op else None)) none ∙ ap (λ (t : Bool). if t then Some op else None) same in
    op_stays (suc op) 202 op word (omega arith) here

-- none has it
pub op_none : (op : ℕ) (word : Text) → 202 ≤ op → op ≤ 202 → op_below op word ≡ None → op_named word ≡ None
unfolding op_named
op_none op word ge le none = let e : op ≡ 202 = omega arith in subst (λ (k : ℕ). op_below k word ≡ None) e none

-- another one
pub op_other : (op : ℕ) (word : Text) → op_below op word ≡ None → bytes_eq (mnemonic_of op) word ≡ false → op_below (suc op) word ≡ None
op_other op word none other =
    ap (λ (o : Option ℕ). option_or o (if bytes_eq (mnemonic_of op) word then Some op else None)) none ∙ ap (λ (t : Bool). if t then Some op else None) other

-- ---- cases

abbrev pub rising : List Case → Case → Text → List Text → Bool → Option (List Case)
rising found c w words t = before found (if t then option_map (λ more. c ∷ more) (cases_above c.key words) else None)

put : (found : List Case) (c : Case) (more : Option (List Case)) → before found (option_map (λ more. c ∷ more) more) ≡ before (found ++ c ∷ []) more
put found c None = refl
put found c (Some more) = ap Some (sym (append_assoc found (c ∷ []) more))

pub case_more : (words : List (Bor (List ℕ))) (found : List Case) (c : Case) (last : ℤ) (i : ℕ) (d : Bor (List ℕ)) (all : Option (List Case)) → i < length words → all ≡ before found (cases_above last (texts (drop i words))) → case_of (get_or words i d).now ≡ Some c → int_lt last c.key ≡ true
    → all ≡ before (found ++ c ∷ []) (cases_above c.key (texts (drop (suc i) words)))
case_more words found c last i d all lt same is above =
    same ∙ ap (λ (l : List Text). before found (cases_above last l)) (texts_at words i d lt)
    ∙ ap (λ (o : Option Case). before found (o >>= (λ c. if int_lt last c.key then option_map (λ more. c ∷ more) (cases_above c.key (texts (drop (suc i) words))) else None))) is
    ∙ ap (λ (t : Bool). before found (if t then option_map (λ more. c ∷ more) (cases_above c.key (texts (drop (suc i) words))) else None)) above
    ∙ put found c (cases_above c.key (texts (drop (suc i) words)))

pub case_fails : (words : List (Bor (List ℕ))) (found : List Case) (last : ℤ) (i : ℕ) (d : Bor (List ℕ)) (all : Option (List Case)) → i < length words → all ≡ before found (cases_above last (texts (drop i words))) → case_of (get_or words i d).now ≡ None → all ≡ None
case_fails words found last i d all lt same is =
    same ∙ ap (λ (l : List Text). before found (cases_above last l)) (texts_at words i d lt)
    ∙ ap (λ (o : Option Case). before found (o >>= (λ c. if int_lt last c.key then option_map (λ more. c ∷ more) (cases_above c.key (texts (drop (suc i) words))) else None))) is

pub case_falls : (words : List (Bor (List ℕ))) (found : List Case) (c : Case) (last : ℤ) (i : ℕ) (d : Bor (List ℕ)) (all : Option (List Case)) → i < length words → all ≡ before found (cases_above last (texts (drop i words))) → case_of (get_or words i d).now ≡ Some c → int_lt last c.key ≡ false → all ≡ None
case_falls words found c last i d all lt same is below =
    same ∙ ap (λ (l : List Text). before found (cases_above last l)) (texts_at words i d lt)
    ∙ ap (λ (o : Option Case). before found (o >>= (λ c. if int_lt last c.key then option_map (λ more. c ∷ more) (cases_above c.key (texts (drop (suc i) words))) else None))) is
    ∙ ap (λ (t : Bool). before found (if t then option_map (λ more. c ∷ more) (cases_above c.key (texts (drop (suc i) words))) else None)) below

pub cases_end : (words : List (Bor (List ℕ))) (found : List Case) (last : ℤ) (i : ℕ) (all : Option (List Case)) → length words ≤ i → all ≡ before found (cases_above last (texts (drop i words))) → all ≡ Some found
cases_end words found last i all le same =
    same ∙ ap (λ (l : List Text). before found (cases_above last l)) (no_texts words i le) ∙ ap Some (append-nil found)
