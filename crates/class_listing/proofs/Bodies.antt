-- The code of a class that came from lines is written as those lines, with the labels of places.
use Rattle.std.proofs.Common.{◌≡◌, ℕ, zero, suc, ◌+◌, ◌≤◌, Bool, true, false, not, ◌&&◌, List, [], ◌∷◌, ◌++◌, map, Option, Some, None, refl, sym, ap, subst, ◌∙◌, arith, append_assoc, ℤ, pos, ◌+ℤ◌}
use Rattle.std.specs.Prelude.{if◌then◌else◌, ◌||◌, codes}
use Rattle.std.specs.List.{AllByRecursion, AllZip, flat_map, list_any}
use Rattle.std.specs.Str.{bytes_eq}
use Rattle.std.proofs.lemmas.Bool.{and_parts, and_from, not-true, or_left, or_right, eq-eqb}
use Rattle.class_file.specs.declared.pool.PoolEntry.{PoolEntry}
use Rattle.class_file.specs.declared.types.CodeAttr.{CodeAttr}
use Rattle.class_file.specs.declared.types.ExceptionEntry.{ExceptionEntry}
use Rattle.class_file.specs.Code.{Placed, offsets}
use Rattle.class_lines.specs.declared.line.Line.{Line}
use Rattle.class_lines.specs.declared.line.Operation.{Operation}
use Rattle.class_lines.specs.Words.{Text, fits}
use Rattle.class_lines.specs.Lines.{is_operation, is_label_or_none, is_caught, is_line, are_characters, has_text_targets, has_text_labels}
use Rattle.class_lines.proofs.WordKinds.{type_kind, label_kind}
use Rattle.class_text.proofs.NumberedLines.{NumberedLine as Numbered}
use Rattle.class_text.specs.Labels.{size_at, place_of, distance}
use Rattle.class_text.specs.Meaning.{labels_of, Labelled, steps_in, Guard, guards_in, StandsIn, IsStep, IsCaught, IsGuard, AreInRow, IsCode}
use Rattle.class_text.proofs.Numbers.{back}
use Rattle.class_text.proofs.Steps.{OfForm, AreOfForm}
use Rattle.class_text.proofs.Relabelled.{label_at as label_where, renamed, AreMarked, RenamesGuard}
use Rattle.class_text.proofs.SameClass.{RenamedFrom, Body}
use Rattle.class_listing.specs.Names.{caught_name, caught, label, shown}
use Rattle.class_listing.specs.Steps.{operation_of, leads_to, bounds_of, named_places, is_at, label_at, step, catch_line, lines_of}
use Rattle.class_listing.proofs.Labels.{label_of, label_is, apart, label_fits, label_shown, label_characters}
use Rattle.class_listing.proofs.Shown.{class_is}
use Rattle.class_listing.proofs.Instructions.{relabelled, place_label, operation_is, form_again, targets_again}

-- ---- numbers of lines

-- the lines with their numbers, from this one on
abbrev pub from_number : ℕ → List Line → List Numbered
from_number n [] = []
from_number n (x ∷ xs) = record { number = n; line = Some x } ∷ from_number (n + 1) xs

-- the number behind the lines
abbrev pub behind : ℕ → List Line → ℕ
behind n [] = n
behind n (x ∷ xs) = behind (n + 1) xs

pub numbers_append : (n : ℕ) (xs ys : List Line) → from_number n (xs ++ ys) ≡ from_number n xs ++ from_number (behind n xs) ys
numbers_append n [] ys = refl
numbers_append n (x ∷ xs) ys = ap (λ (l : List Numbered). let k : Numbered = record { number = n; line = Some x } in k ∷ l) (numbers_append (n + 1) xs ys)

-- a line of the form whose labels are of characters
pub record IsGood (l : Line) : Type 0 where
  pub form : is_line l ≡ true
  pub labels : has_text_labels l ≡ true

abbrev pub AreGood : List Line → Type 0
AreGood lines = AllByRecursion IsGood lines

pub good_append : (xs ys : List Line) → AreGood xs → AreGood ys → AreGood (xs ++ ys)
good_append [] ys gx gy = gy
good_append (x ∷ xs) ys gx gy = (gx.0, good_append xs ys gx.1 gy)

-- ---- the lines of a method

abbrev FormedSteps : List Labelled → Type 0
FormedSteps steps = AllByRecursion (λ (s : Labelled). is_operation s.operation ≡ true) steps

abbrev FormedGuards : List Guard → Type 0
FormedGuards guards = AllByRecursion (λ (g : Guard). is_caught g.class ≡ true) guards

steps_formed : (lines : List Numbered) → AreOfForm lines → FormedSteps (steps_in lines)
steps_formed [] form = tt
steps_formed (l ∷ lines) form = by l.line form.0 (steps_formed lines form.1)
  where
    by : (o : Option Line) → OfForm o → FormedSteps (steps_in lines) → FormedSteps (steps_in (record { number = l.number; line = o } ∷ lines))
    by (Some (Line.Step label o)) h rest = ((and_parts (is_label_or_none label) (is_operation o) h).1, rest)
    by (Some (Line.Catch from to handler class)) h rest = rest
    by (Some Line.End) h rest = tt
    by (Some (Line.Class name super v flags interfaces)) h rest = rest
    by (Some (Line.Field head)) h rest = rest
    by (Some (Line.Method head stack locals)) h rest = rest
    by (Some (Line.Bare head)) h rest = rest
    by None h rest = rest

guards_formed : (lines : List Numbered) → AreOfForm lines → FormedGuards (guards_in lines)
guards_formed [] form = tt
guards_formed (l ∷ lines) form = by l.line form.0 (guards_formed lines form.1)
  where
    by : (o : Option Line) → OfForm o → FormedGuards (guards_in lines) → FormedGuards (guards_in (record { number = l.number; line = o } ∷ lines))
    by (Some (Line.Catch from to handler class)) h rest =
        let p = and_parts (fits label_kind from) (fits label_kind to && (fits label_kind handler && is_caught class)) h in
        let q = and_parts (fits label_kind to) (fits label_kind handler && is_caught class) p.1 in
        ((and_parts (fits label_kind handler) (is_caught class) q.1).1, rest)
    by (Some (Line.Step label o)) h rest = rest
    by (Some Line.End) h rest = tt
    by (Some (Line.Class name super v flags interfaces)) h rest = rest
    by (Some (Line.Field head)) h rest = rest
    by (Some (Line.Method head stack locals)) h rest = rest
    by (Some (Line.Bare head)) h rest = rest
    by None h rest = rest

-- ---- places that are named

-- each place of the one list stands in the other
abbrev Included : List ℤ → List ℤ → Type 0
Included xs ys = (q : ℕ) → list_any (is_at q) xs ≡ true → list_any (is_at q) ys ≡ true

any_left : (q : ℕ) (xs ys : List ℤ) → list_any (is_at q) xs ≡ true → list_any (is_at q) (xs ++ ys) ≡ true
any_left q [] ys h = absurd cc
any_left q (x ∷ xs) ys h = by (is_at q x) h (any_left q xs ys)
  where
    by : (t : Bool) → (t || list_any (is_at q) xs) ≡ true → (list_any (is_at q) xs ≡ true → list_any (is_at q) (xs ++ ys) ≡ true) → (t || list_any (is_at q) (xs ++ ys)) ≡ true
    by true h next = refl
    by false h next = next h

any_right : (q : ℕ) (xs ys : List ℤ) → list_any (is_at q) ys ≡ true → list_any (is_at q) (xs ++ ys) ≡ true
any_right q [] ys h = h
any_right q (x ∷ xs) ys h = or_right (is_at q x) (list_any (is_at q) (xs ++ ys)) (any_right q xs ys h)

each_included : {X : Type 0} (f : X → List ℤ) (xs : List X) (ys : List ℤ) → Included (flat_map f xs) ys → AllByRecursion (λ (x : X). Included (f x) ys) xs
each_included f [] ys h = tt
each_included f (x ∷ xs) ys h =
    (λ q here. h q (any_left q (f x) (flat_map f xs) here), each_included f xs ys (λ q later. h q (any_right q (f x) (flat_map f xs) later)))

here_at : (q : ℕ) (z : ℤ) (zs : List ℤ) → z ≡ pos q → list_any (is_at q) (z ∷ zs) ≡ true
here_at q z zs e = or_left (is_at q z) (list_any (is_at q) zs) (ap (is_at q) e ∙ eq-eqb q q refl)

-- ---- the code

module _ (pool : List PoolEntry) (code : List ℕ) (entries : List ExceptionEntry) (insns : List Placed) (body : List Numbered) where
  abbrev marks : ℕ → Bool
  marks q = list_any (is_at q) (named_places code insns entries)

  -- the labels that an instruction names are marked
  labels_marked : (pc : ℕ) (names : List Text) → AllByRecursion (StandsIn body) names → Included (map (λ (offset : ℤ). pos pc +ℤ offset) (map (λ name. distance pc (place_of name 0 body)) names)) (named_places code insns entries) → AreMarked label_of apart marks body names
  labels_marked pc [] there inc = tt
  labels_marked pc (name ∷ names) there inc =
      let q : ℕ = there.0.0 in
      let more : List ℤ = map (λ (offset : ℤ). pos pc +ℤ offset) (map (λ name. distance pc (place_of name 0 body)) names) in
      let at : pos pc +ℤ distance pc (place_of name 0 body) ≡ pos q = ap (λ (o : Option ℕ). pos pc +ℤ distance pc o) there.0.1 ∙ back pc q in (
        (q, there.0.1, inc q (here_at q (pos pc +ℤ distance pc (place_of name 0 body)) more at)),
        labels_marked pc names there.1 (λ r h. inc r (or_right (is_at r (pos pc +ℤ distance pc (place_of name 0 body))) (list_any (is_at r) more) h)),
      )

  -- ---- the lines of instructions

  own_label : (pc : ℕ) (p : Placed) → p.pc ≡ pc → pc ≤ 65535 → label_at (named_places code insns entries) p.pc ≡ label_where label_of apart marks body pc
  own_label pc p e le =
      ap (label_at (named_places code insns entries)) e ∙ ap (λ (t : Text). if marks pc then Some t else None) (sym (label_is pc le))

  one_operation : (p : Placed) (s : Labelled) → is_operation s.operation ≡ true → IsStep pool code body p s → operation_of pool code p.pc p.insn ≡ relabelled marks body s.operation
  one_operation p s form i =
      ap (operation_of pool code p.pc) i.insn
      ∙ operation_is marks body pool code p.pc i.index s.operation form i.names i.there (ap (offsets code) (sym i.insn) ∙ i.leads) i.keys

  pub steps_renamed : (n pc : ℕ) (some : List Placed) (steps : List Labelled) → FormedSteps steps → AllZip (IsStep pool code body) some steps → AreInRow pc some steps
      → RenamedFrom label_of apart marks body pc steps (from_number n (map (step pool code (named_places code insns entries)) some))
  steps_renamed n pc [] [] form each row = tt
  steps_renamed n pc [] (s ∷ steps) form each row = absurd each
  steps_renamed n pc (p ∷ some) [] form each row = absurd each
  steps_renamed n pc (p ∷ some) (s ∷ steps) form each row =
      let room = row.1 in (
        ap (λ (l : Option Text). Some (Line.Step l (operation_of pool code p.pc p.insn))) (own_label pc p row.0 (omega arith))
            ∙ ap (λ (o : Operation). Some (Line.Step (label_where label_of apart marks body pc) o)) (one_operation p s form.0 each.0),
        steps_renamed (n + 1) (pc + size_at pc s.operation) some steps form.1 each.1 row.2,
      )

  pub steps_marked : (some : List Placed) (steps : List Labelled) → AllZip (IsStep pool code body) some steps → AllByRecursion (λ (p : Placed). Included (leads_to code p) (named_places code insns entries)) some
      → AllByRecursion (λ (s : Labelled). AreMarked label_of apart marks body (labels_of s.operation)) steps
  steps_marked [] [] each inc = tt
  steps_marked [] (s ∷ steps) each inc = absurd each
  steps_marked (p ∷ some) [] each inc = absurd each
  steps_marked (p ∷ some) (s ∷ steps) each inc =
      let i = each.0 in
      (labels_marked p.pc (labels_of s.operation) i.there (subst (λ (l : List ℤ). Included (map (λ (offset : ℤ). pos p.pc +ℤ offset) l) (named_places code insns entries)) i.leads inc.0), steps_marked some steps each.1 inc.1)

  pub steps_good : (pc : ℕ) (some : List Placed) (steps : List Labelled) → FormedSteps steps → AllZip (IsStep pool code body) some steps → AreInRow pc some steps → AreGood (map (step pool code (named_places code insns entries)) some)
  steps_good pc [] [] form each row = tt
  steps_good pc [] (s ∷ steps) form each row = absurd each
  steps_good pc (p ∷ some) [] form each row = absurd each
  steps_good pc (p ∷ some) (s ∷ steps) form each row =
      let room = row.1 in
      let at : p.pc ≤ 65535 = let e = row.0 in omega arith in
      let o : Operation = operation_of pool code p.pc p.insn in
      let is = one_operation p s form.0 each.0 in
      let fine : is_operation o ≡ true = ap is_operation is ∙ form_again marks body s.operation form.0 each.0.there in
      let texts : has_text_targets o ≡ true = ap has_text_targets is ∙ targets_again marks body s.operation each.0.there in
      (record { form = shown_at (marks p.pc) p.pc o at fine; labels = texts_at (marks p.pc) p.pc o at texts }, steps_good (pc + size_at pc s.operation) some steps form.1 each.1 row.2)
    where
      shown_at : (t : Bool) (q : ℕ) (o : Operation) → q ≤ 65535 → is_operation o ≡ true → is_line (Line.Step (if t then Some (label (pos q)) else None) o) ≡ true
      shown_at true q o le h = and_from (is_label_or_none (Some (label (pos q)))) (is_operation o) (label_shown q le) h
      shown_at false q o le h = h

      texts_at : (t : Bool) (q : ℕ) (o : Operation) → q ≤ 65535 → has_text_targets o ≡ true → has_text_labels (Line.Step (if t then Some (label (pos q)) else None) o) ≡ true
      texts_at true q o le h = and_from (are_characters (label (pos q))) (has_text_targets o) (label_characters q le) h
      texts_at false q o le h = h

  -- ---- the exception table

  caught_is : (index : ℕ) (class : Option Text) → is_caught class ≡ true → IsCaught pool index class → caught pool index ≡ class
  caught_is index None form h = ap (caught pool) h
  caught_is zero (Some class) form h = absurd cc
  caught_is (suc place) (Some class) form h =
      let p = and_parts (fits type_kind class) (not (bytes_eq class (codes "any"))) form in
      ap (λ (t : Text). Some (caught_name t)) (class_is type_kind pool (suc place) class p.0 h)
      ∙ ap (λ (t : Bool). Some (if t then shown None else class)) (not-true (bytes_eq class (codes "any")) p.1)

  pub table_renamed : (n : ℕ) (some : List ExceptionEntry) (guards : List Guard) → FormedGuards guards → AllZip (IsGuard pool body) some guards → AllZip (RenamesGuard label_of apart marks body) guards (from_number n (map (catch_line pool) some))
  table_renamed n [] [] form each = tt
  table_renamed n [] (g ∷ guards) form each = absurd each
  table_renamed n (e ∷ some) [] form each = absurd each
  table_renamed n (e ∷ some) (g ∷ guards) form each =
      let i = each.0 in
      let s = place_label marks body g.from e.start i.start i.near.0 in
      let t = place_label marks body g.to e.end i.end i.near.1 in
      let h = place_label marks body g.handler e.handler i.handler i.near.2 in (
        record {
          is =
              ap (λ (x : Text). Some (Line.Catch x (label (pos e.end)) (label (pos e.handler)) (caught pool e.catch_type))) (sym s)
              ∙ ap (λ (x : Text). Some (Line.Catch (renamed label_of apart marks body g.from) x (label (pos e.handler)) (caught pool e.catch_type))) (sym t)
              ∙ ap (λ (x : Text). Some (Line.Catch (renamed label_of apart marks body g.from) (renamed label_of apart marks body g.to) x (caught pool e.catch_type))) (sym h)
              ∙ ap (λ (x : Option Text). Some (Line.Catch (renamed label_of apart marks body g.from) (renamed label_of apart marks body g.to) (renamed label_of apart marks body g.handler) x)) (caught_is e.catch_type g.class form.0 i.caught);
        },
        table_renamed (n + 1) some guards form.1 each.1,
      )

  pub bounds_marked : (some : List ExceptionEntry) (guards : List Guard) → AllZip (IsGuard pool body) some guards → AllByRecursion (λ (e : ExceptionEntry). Included (bounds_of e) (named_places code insns entries)) some
      → AllByRecursion (λ (g : Guard). AreMarked label_of apart marks body (g.from ∷ g.to ∷ g.handler ∷ [])) guards
  bounds_marked [] [] each inc = tt
  bounds_marked [] (g ∷ guards) each inc = absurd each
  bounds_marked (e ∷ some) [] each inc = absurd each
  bounds_marked (e ∷ some) (g ∷ guards) each inc =
      let i = each.0 in (
        (
          (e.start, i.start, inc.0 e.start (here_at e.start (pos e.start) (pos e.end ∷ pos e.handler ∷ []) refl)),
          (
            (e.end, i.end, inc.0 e.end (or_right (is_at e.end (pos e.start)) (list_any (is_at e.end) (pos e.end ∷ pos e.handler ∷ [])) (here_at e.end (pos e.end) (pos e.handler ∷ []) refl))),
            ((e.handler, i.handler, inc.0 e.handler (or_right (is_at e.handler (pos e.start)) (list_any (is_at e.handler) (pos e.end ∷ pos e.handler ∷ [])) (or_right (is_at e.handler (pos e.end)) (list_any (is_at e.handler) (pos e.handler ∷ [])) (here_at e.handler (pos e.handler) [] refl)))), tt),
          ),
        ),
        bounds_marked some guards each.1 inc.1,
      )

  pub table_good : (some : List ExceptionEntry) (guards : List Guard) → FormedGuards guards → AllZip (IsGuard pool body) some guards → AreGood (map (catch_line pool) some)
  table_good [] [] form each = tt
  table_good [] (g ∷ guards) form each = absurd each
  table_good (e ∷ some) [] form each = absurd each
  table_good (e ∷ some) (g ∷ guards) form each =
      let i = each.0 in
      let near = i.near in
      let from : Text = label (pos e.start) in let to : Text = label (pos e.end) in let handler : Text = label (pos e.handler) in
      let class : is_caught (caught pool e.catch_type) ≡ true = ap is_caught (caught_is e.catch_type g.class form.0 i.caught) ∙ form.0 in (
        record {
          form =
              and_from (fits label_kind from) (fits label_kind to && (fits label_kind handler && is_caught (caught pool e.catch_type))) (label_fits e.start near.0)
              (and_from (fits label_kind to) (fits label_kind handler && is_caught (caught pool e.catch_type)) (label_fits e.end near.1)
              (and_from (fits label_kind handler) (is_caught (caught pool e.catch_type)) (label_fits e.handler near.2) class));
          labels =
              and_from (are_characters from) (are_characters to && are_characters handler) (label_characters e.start near.0)
              (and_from (are_characters to) (are_characters handler) (label_characters e.end near.1) (label_characters e.handler near.2));
        },
        table_good some guards form.1 each.1,
      )

-- ---- a method's body

-- the lines of code with its end
abbrev pub body_lines : List PoolEntry → CodeAttr → List Placed → List Line
body_lines pool c insns = lines_of pool c insns ++ Line.End ∷ []

pub body_is : (pool : List PoolEntry) (body : List Numbered) (stack locals : ℕ) (c : CodeAttr) → AreOfForm body → (i : IsCode pool body stack locals c) → (n : ℕ) (rest : List Numbered) → Body label_of apart body rest (from_number n (body_lines pool c i.insns) ++ rest)
body_is pool body stack locals c form i n rest =
    let insns : List Placed = i.insns in
    let places : List ℤ = named_places c.code insns c.entries in
    let steps : List Line = map (step pool c.code places) insns in
    let table : List Line = map (catch_line pool) c.entries in
    let last : Numbered = record { number = behind (behind n steps) table; line = Some Line.End } in
    let split : from_number n (body_lines pool c insns) ++ rest ≡ from_number n steps ++ (from_number (behind n steps) table ++ (last ∷ rest)) =
    ap (λ (l : List Numbered). l ++ rest) (ap (from_number n) (append_assoc steps table (Line.End ∷ [])) ∙ numbers_append n steps (table ++ Line.End ∷ []))
    ∙ append_assoc (from_number n steps) (from_number (behind n steps) (table ++ Line.End ∷ [])) rest
    ∙ ap (λ (l : List Numbered). from_number n steps ++ (l ++ rest)) (numbers_append (behind n steps) table (Line.End ∷ []))
    ∙ ap (λ (l : List Numbered). from_number n steps ++ l) (append_assoc (from_number (behind n steps) table) (last ∷ []) rest) in
    let whole : Included places places = λ q h. h in
    let leads = each_included (leads_to c.code) insns places (λ q h. whole q (any_left q (flat_map (leads_to c.code) insns) (flat_map bounds_of c.entries) h)) in
    let bounds = each_included bounds_of c.entries places (λ q h. whole q (any_right q (flat_map (leads_to c.code) insns) (flat_map bounds_of c.entries) h)) in
    record {
      marks = λ q. list_any (is_at q) places;
      steps = from_number n steps;
      table = from_number (behind n steps) table;
      last = last;
      is = split;
      renamed_steps = steps_renamed pool c.code c.entries insns body n 0 insns (steps_in body) (steps_formed body form) i.steps i.places;
      renamed_table = table_renamed pool c.code c.entries insns body (behind n steps) c.entries (guards_in body) (guards_formed body form) i.entries;
      ends = refl;
      marked = steps_marked pool c.code c.entries insns body insns (steps_in body) i.steps leads;
      bounds = bounds_marked pool c.code c.entries insns body c.entries (guards_in body) i.entries bounds;
    }

pub body_good : (pool : List PoolEntry) (body : List Numbered) (stack locals : ℕ) (c : CodeAttr) → AreOfForm body → (i : IsCode pool body stack locals c) → AreGood (body_lines pool c i.insns)
body_good pool body stack locals c form i =
    let insns : List Placed = i.insns in
    let places : List ℤ = named_places c.code insns c.entries in
    let steps : List Line = map (step pool c.code places) insns in
    let table : List Line = map (catch_line pool) c.entries in
    good_append (steps ++ table) (Line.End ∷ [])
    (good_append steps table (steps_good pool c.code c.entries insns body 0 insns (steps_in body) (steps_formed body form) i.steps i.places) (table_good pool c.code c.entries insns body c.entries (guards_in body) (guards_formed body form) i.entries))
    (record { form = refl; labels = refl }, tt)
