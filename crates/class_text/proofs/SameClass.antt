-- The lines of a class in the order of its file, with other labels: they make the same class.
use Rattle.std.proofs.Common.{◌≡◌, ℕ, ◌+◌, ◌<◌, ◌≤◌, Bool, true, ◌&&◌, List, [], ◌∷◌, ◌++◌, length, map, Option, Some, None, Ok, refl, sym, ap, subst, ◌∙◌, arith, append_assoc}
use Rattle.std.specs.Prelude.{◌==◌, nat_lt, codes}
use Rattle.std.specs.List.{AllByRecursion, AllZip}
use Rattle.std.proofs.lemmas.Bool.{or_left, or_right, eq-eqb, cond-true, lt-ltb}
use Rattle.class_file.specs.declared.pool.PoolEntry.{PoolEntry}
use Rattle.class_file.specs.declared.types.Member.{Member}
use Rattle.class_file.specs.declared.types.Attribute.{Attribute}
use Rattle.class_file.specs.declared.types.Content.TheVariants as content
use Rattle.class_file.specs.declared.types.ExceptionEntry.{ExceptionEntry}
use Rattle.class_file.specs.Code.{is_start}
use Rattle.class_lines.specs.declared.line.Line.{Line}
use Rattle.class_lines.specs.declared.line.MemberHead.{MemberHead}
use Rattle.class_lines.specs.declared.line.Operation.{Operation}
use Rattle.class_lines.specs.Words.{Text}
use Rattle.constant_pool.specs.Edit.{Placed, with_text}
use Rattle.class_text.specs.declared.numbered.Numbered.{Numbered}
use Rattle.class_text.specs.declared.order.Place.{Place}
use Rattle.class_text.specs.Gives.{◌>>=◌, Making}
use Rattle.class_text.specs.Order.{misplaced}
use Rattle.class_text.specs.Labels.{place_of, has_label, size_at, is_right, place_behind, mislabelled}
use Rattle.class_text.specs.Pool.{text_made}
use Rattle.class_text.specs.Making.{steps_made, entries_made, head_made, bare_made, code_made}
use Rattle.class_text.specs.Meaning.{labels_of, Labelled, steps_in, Guard, guards_in}
use Rattle.class_text.proofs.Made.{then_parts, made_text}
use Rattle.class_text.proofs.Steps.{Made, IsMade, Linked, bytes_of, size_some, if_none, placed_of, OfStep, AreOfForm, steps_are}
use Rattle.class_text.proofs.Relabelled.{short_again, relabel, label_at, Renames, AreMarked, same_places, all_same, steps_again, RenamesGuard, entries_of, SameBounds, entries_again, steps_pass, OwnPlaces, end_of, steps_right, guards_right, guards_pass, end_passes, end_enters, label_stands}

-- ---- heads

text_again : (line line' : ℕ) (text : Text) (pool : List PoolEntry) (made : Placed) → text_made line text pool ≡ Ok made → text_made line' text pool ≡ Ok made
text_again line line' text pool made h = short_again line line' text (with_text pool text) made h

pub head_again : (line line' : ℕ) (head : MemberHead) (pool : List PoolEntry) (made : List PoolEntry × (ℕ × ℕ)) → head_made line head pool ≡ Ok made → head_made line' head pool ≡ Ok made
head_again line line' head pool made h =
    let a = then_parts (text_made line head.name pool) _ made h in
    let b = then_parts (text_made line head.descriptor a.value.0) _ made a.after in
    let put : ℕ → Placed → Making (ℕ × ℕ) = λ n d. Ok (d.0, (n, d.1)) in
    ap (λ (r : Making ℕ). r >>= (λ (n : Placed). text_made line' head.descriptor n.0 >>= put n.1)) (text_again line line' head.name pool a.value a.first)
    ∙ ap (λ (r : Making ℕ). r >>= put a.value.1) (text_again line line' head.descriptor a.value.0 b.value b.first) ∙ b.after

pub bare_again : (line line' : ℕ) (head : MemberHead) (pool : List PoolEntry) (made : List PoolEntry × Member) → bare_made line head pool ≡ Ok made → bare_made line' head pool ≡ Ok made
bare_again line line' head pool made h =
    let a = then_parts (head_made line head pool) _ made h in
    let put : List PoolEntry × (ℕ × ℕ) → Making Member = λ n. Ok (n.0, record { flags = record { 0 = head.flags }; name = n.1.0; descriptor = n.1.1; attributes = [] }) in
    ap (λ (r : Making (ℕ × ℕ)). r >>= put) (head_again line line' head pool a.value a.first) ∙ a.after

-- ---- a method with code

module _ (label_of : ℕ → Text) (apart : (a b : ℕ) → label_of a ≡ label_of b → a ≡ b) where
  -- the lines of the instructions from a place on, each with the label of its place where that is marked
  abbrev pub RenamedFrom : (ℕ → Bool) → List Numbered → ℕ → List Labelled → List Numbered → Type 0
  RenamedFrom marks body pc [] [] = Unit {0}
  RenamedFrom marks body pc [] (l ∷ lines) = ⊥
  RenamedFrom marks body pc (s ∷ steps) [] = ⊥
  RenamedFrom marks body pc (s ∷ steps) (l ∷ lines) = (l.line ≡ Some (Line.Step (label_at label_of apart marks body pc) (relabel label_of apart marks body s.operation))) × RenamedFrom marks body (pc + size_at pc s.operation) steps lines

  -- the lines of a method with other labels: its instructions, its exception table and its end
  pub record Body (body rest lines : List Numbered) : Type 0 where
    pub marks : ℕ → Bool
    pub steps : List Numbered
    pub table : List Numbered
    pub last : Numbered
    pub is : lines ≡ steps ++ (table ++ (last ∷ rest))
    pub renamed_steps : RenamedFrom marks body 0 (steps_in body) steps
    pub renamed_table : AllZip (RenamesGuard label_of apart marks body) (guards_in body) table
    pub ends : last.line ≡ Some Line.End
    pub marked : AllByRecursion (λ (s : Labelled). AreMarked label_of apart marks body (labels_of s.operation)) (steps_in body)
    pub bounds : AllByRecursion (λ (g : Guard). AreMarked label_of apart marks body (g.from ∷ g.to ∷ g.handler ∷ [])) (guards_in body)

  module _ (version : ℕ) (body : List Numbered) (marks : ℕ → Bool) where
    -- the lines of what was made
    names_made : (pc : ℕ) (pool after : List PoolEntry) (ms : List Made) (steps : List Labelled) (lines : List Numbered) → Linked pc pool ms after → AllZip (OfStep body) ms steps → RenamedFrom marks body pc steps lines → AllZip (Renames label_of apart marks body) ms lines
    names_made pc pool after [] [] [] linked says names = tt
    names_made pc pool after [] [] (l ∷ lines) linked says names = absurd names
    names_made pc pool after [] (s ∷ steps) lines linked says names = absurd says
    names_made pc pool after (m ∷ ms) [] lines linked says names = absurd says
    names_made pc pool after (m ∷ ms) (s ∷ steps) [] linked says names = absurd names
    names_made pc pool after (m ∷ ms) (s ∷ steps) (l ∷ lines) linked says names =
        let o = says.0.operation in
        let line : l.line ≡ Some (Line.Step (label_at label_of apart marks body m.pc) (relabel label_of apart marks body m.operation)) =
        names.0 ∙ ap (λ (n : ℕ). Some (Line.Step (label_at label_of apart marks body n) (relabel label_of apart marks body s.operation))) (sym linked.0)
        ∙ ap (λ (x : Operation). Some (Line.Step (label_at label_of apart marks body m.pc) (relabel label_of apart marks body x))) (sym o) in
        (record { is = line }, names_made (pc + size_at pc m.operation) m.after after ms steps lines linked.2 says.1 (subst (λ (x : Operation). RenamedFrom marks body (pc + size_at pc x) steps lines) (sym o) names.1))

    marked_made : (ms : List Made) (steps : List Labelled) → AllZip (OfStep body) ms steps → AllByRecursion (λ (s : Labelled). AreMarked label_of apart marks body (labels_of s.operation)) steps → AllByRecursion (λ (m : Made). AreMarked label_of apart marks body (labels_of m.operation)) ms
    marked_made [] steps says marked = tt
    marked_made (m ∷ ms) [] says marked = absurd says
    marked_made (m ∷ ms) (s ∷ steps) says marked = (subst (λ (o : Operation). AreMarked label_of apart marks body (labels_of o)) (sym says.0.operation) marked.0, marked_made ms steps says.1 marked.1)

    -- each instruction begins where it stands
    starts_hold : (ms front : List Made) → AllByRecursion (λ (m : Made). is_start (map (placed_of body) (front ++ ms)) m.pc ≡ true) ms
    starts_hold [] front = tt
    starts_hold (m ∷ ms) front = (among front, subst (λ (l : List Made). AllByRecursion (λ (m : Made). is_start (map (placed_of body) l) m.pc ≡ true) ms) (append_assoc front (m ∷ []) ms) (starts_hold ms (front ++ m ∷ [])))
      where
        among : (front : List Made) → is_start (map (placed_of body) (front ++ m ∷ ms)) m.pc ≡ true
        among [] = or_left (m.pc == m.pc) (is_start (map (placed_of body) ms) m.pc) (eq-eqb m.pc m.pc refl)
        among (x ∷ front) = or_right (x.pc == m.pc) (is_start (map (placed_of body) (front ++ m ∷ ms)) m.pc) (among front)

  pub record CodeAgain (version stack locals : ℕ) (pool : List PoolEntry) (made : List PoolEntry × List Attribute) (rest lines : List Numbered) : Type 0 where
    pub code : (number : ℕ) → code_made version stack locals lines number pool ≡ Ok made
    pub right : ((other : List Numbered) (pc : ℕ) → mislabelled other pc rest ≡ None) → mislabelled lines 0 lines ≡ None

  module _ (version : ℕ) (body : List Numbered) (end : ℕ) (form : AreOfForm body) (placed : misplaced end Place.Inside body ≡ None) (right : mislabelled body 0 body ≡ None) where
    -- the guards' labels are there
    guards_there : (pc : ℕ) (lines : List Numbered) → misplaced end Place.Inside lines ≡ None → mislabelled body pc lines ≡ None → AllByRecursion (λ (g : Guard). (has_label body g.from && (has_label body g.to && has_label body g.handler)) ≡ true) (guards_in lines)
    guards_there pc [] p r = tt
    guards_there pc (line ∷ lines) p r = go line.number line.line (guards_there pc lines) (λ q. guards_there q lines) p r
      where
        go : (number : ℕ) (o : Option Line)
            → (misplaced end Place.Inside lines ≡ None → mislabelled body pc lines ≡ None → AllByRecursion (λ (g : Guard). (has_label body g.from && (has_label body g.to && has_label body g.handler)) ≡ true) (guards_in lines))
            → ((q : ℕ) → misplaced end Place.Inside lines ≡ None → mislabelled body q lines ≡ None → AllByRecursion (λ (g : Guard). (has_label body g.from && (has_label body g.to && has_label body g.handler)) ≡ true) (guards_in lines))
            → misplaced end Place.Inside (record { number = number; line = o } ∷ lines) ≡ None → mislabelled body pc (record { number = number; line = o } ∷ lines) ≡ None
            → AllByRecursion (λ (g : Guard). (has_label body g.from && (has_label body g.to && has_label body g.handler)) ≡ true) (guards_in (record { number = number; line = o } ∷ lines))
        go number (Some (Line.Step label o)) here next p r =
            next (place_behind pc (Some (Line.Step label o))) p (if_none (is_right body pc (Some (Line.Step label o))) (mislabelled body (place_behind pc (Some (Line.Step label o))) lines) number r).1
        go number (Some (Line.Catch from to handler class)) here next p r =
            let t = if_none (is_right body pc (Some (Line.Catch from to handler class))) (mislabelled body pc lines) number r in (t.0, here p t.1)
        go number (Some Line.End) here next p r = tt
        go number (Some (Line.Class name super v flags interfaces)) here next p r = absurd cc
        go number (Some (Line.Field head)) here next p r = absurd cc
        go number (Some (Line.Method head stack locals)) here next p r = absurd cc
        go number (Some (Line.Bare head)) here next p r = absurd cc
        go number None here next p r = absurd cc

    own_places : (marks : ℕ → Bool) (pool last : List PoolEntry) (all : List Made) (steps tail : List Numbered) → AllByRecursion (IsMade version body) all → Linked 0 pool all last → AllZip (Renames label_of apart marks body) all steps
        → (ms : List Made) → AllByRecursion (λ (m : Made). is_start (map (placed_of body) all) m.pc ≡ true) ms → OwnPlaces label_of apart marks body (steps ++ tail) ms
    own_places marks pool last all steps tail each linked names [] starts = tt
    own_places marks pool last all steps tail each linked names (m ∷ ms) starts =
        (λ marked. label_stands label_of apart marks body version 0 m.pc pool last all steps tail each linked names marked starts.0, own_places marks pool last all steps tail each linked names ms starts.1)

    -- the places are no less than where they begin
    ends_past : (pc : ℕ) (marks : ℕ → Bool) (other : List Numbered) (ms : List Made) → pc ≤ end_of label_of apart marks body other pc ms
    ends_past pc marks other [] = omega arith
    ends_past pc marks other (m ∷ ms) = let rest = ends_past (pc + size_at pc m.operation) marks other ms in omega arith

    -- the lines with other labels make the same code, and are right
    pub code_again : (stack locals number : ℕ) (pool : List PoolEntry) (made : List PoolEntry × List Attribute) (rest lines : List Numbered) → length pool ≤ 65534 → code_made version stack locals body number pool ≡ Ok made → Body body rest lines → CodeAgain version stack locals pool made rest lines
    code_again stack locals number pool made rest lines few h b =
        let a = then_parts (text_made number (codes "Code") pool) _ made h in
        let n = made_text number (codes "Code") pool a.value refl a.first in
        let t = then_parts (steps_made version body 0 body a.value.0) _ made a.after in
        let s = steps_are version body end body 0 a.value.0 t.value (omega arith) n.grown.few form placed right t.first in
        let e = then_parts (entries_made body 0 body t.value.0) _ made t.after in
        let tail : List Numbered = b.table ++ (b.last ∷ rest) in
        let other : List Numbered = b.steps ++ tail in
        let names = names_made version body b.marks 0 a.value.0 t.value.0 s.made (steps_in body) b.steps s.linked s.says b.renamed_steps in
        let same = all_same label_of apart b.marks body version a.value.0 t.value.0 s.made b.steps tail s.each s.linked names s.labels s.made (marked_made version body b.marks s.made (steps_in body) s.says b.marked) in
        let bounds = same_bounds b.marks a.value.0 t.value.0 s.made b.steps tail s.each s.linked names s.labels (guards_in body) b.bounds in
        let steps : steps_made version other 0 other a.value.0 ≡ Ok t.value =
        steps_again label_of apart b.marks body other version 0 a.value.0 t.value.0 s.made b.steps tail s.each s.linked names same
        (λ pc. guards_pass label_of apart b.marks body other version pc t.value.0 (guards_in body) b.table (b.last ∷ rest) b.renamed_table (end_passes label_of apart b.marks body other version pc t.value.0 b.last rest b.ends))
        ∙ ap (λ (l : List ℕ). let r : Making (List ℕ) = Ok (t.value.0, l) in r) (sym s.is) in
        let entries : entries_made other 0 other t.value.0 ≡ Ok e.value =
        steps_pass label_of apart b.marks body other 0 t.value.0 s.made b.steps tail names
        ∙ entries_again label_of apart b.marks body other 0 t.value.0 e.value (guards_in body) b.table (b.last ∷ rest) b.renamed_table bounds (entries_of body body 0 t.value.0 e.value e.first) (λ m p. end_enters label_of apart b.marks body other m p b.last rest b.ends) in
        let table : ℕ → List ℕ → List PoolEntry × List ExceptionEntry → Making (List Attribute) =
        λ name code x. Ok (x.0, record { name = name; content = content.Code (record { max_stack = stack; max_locals = locals; code = code; entries = x.1; attributes = [] }) } ∷ []) in
        let past : 0 < end_of label_of apart b.marks body other 0 s.made = ends_some b.marks other a.value.0 t.value.0 s.made s.each s.linked (subst (λ (l : List ℕ). 0 < 0 + length l) s.is s.some) in
        record {
          code = λ line.
              ap (λ (l : List Numbered). code_made version stack locals l line pool) b.is
              ∙ ap (λ (r : Making ℕ). r >>= (λ (x : Placed). steps_made version other 0 other x.0 >>= (λ (c : List PoolEntry × List ℕ). entries_made other 0 other c.0 >>= table x.1 c.1))) (text_again number line (codes "Code") pool a.value a.first)
              ∙ ap (λ (r : Making (List ℕ)). r >>= (λ (c : List PoolEntry × List ℕ). entries_made other 0 other c.0 >>= table a.value.1 c.1)) steps
              ∙ ap (λ (r : Making (List ExceptionEntry)). r >>= table a.value.1 t.value.1) entries
              ∙ e.after;
          right = λ behind.
              ap (λ (l : List Numbered). mislabelled l 0 l) b.is
              ∙ steps_right label_of apart b.marks body other version 0 a.value.0 t.value.0 s.made b.steps tail s.each s.linked names same
              (own_places b.marks a.value.0 t.value.0 s.made b.steps tail s.each s.linked names s.made (starts_hold version body b.marks s.made []))
              (guards_right label_of apart b.marks body other (end_of label_of apart b.marks body other 0 s.made) (guards_in body) b.table (b.last ∷ rest) b.renamed_table bounds (guards_there 0 body placed right)
              (last_right other (end_of label_of apart b.marks body other 0 s.made) b.last rest b.ends past (behind other)));
        }
      where
        same_bounds : (marks : ℕ → Bool) (pool last : List PoolEntry) (ms : List Made) (steps tail : List Numbered) → AllByRecursion (IsMade version body) ms → Linked 0 pool ms last → AllZip (Renames label_of apart marks body) ms steps
            → ((name : Text) (place : ℕ) → place_of name 0 body ≡ Some place → is_start (map (placed_of body) ms) place ≡ true)
            → (guards : List Guard) → AllByRecursion (λ (g : Guard). AreMarked label_of apart marks body (g.from ∷ g.to ∷ g.handler ∷ [])) guards → SameBounds label_of apart marks body (steps ++ tail) guards
        same_bounds marks pool last ms steps tail each linked names labels [] bounds = tt
        same_bounds marks pool last ms steps tail each linked names labels (g ∷ guards) bounds =
            (same_places label_of apart marks body version pool last ms steps tail each linked names labels (g.from ∷ g.to ∷ g.handler ∷ []) bounds.0, same_bounds marks pool last ms steps tail each linked names labels guards bounds.1)

        ends_some : (marks : ℕ → Bool) (other : List Numbered) (pool last : List PoolEntry) (ms : List Made) → AllByRecursion (IsMade version body) ms → Linked 0 pool ms last → 0 < 0 + length (bytes_of body ms) → 0 < end_of label_of apart marks body other 0 ms
        ends_some marks other pool last [] each linked some = absurd (omega arith)
        ends_some marks other pool last (m ∷ ms) each linked some =
            let past = ends_past (0 + size_at 0 m.operation) marks other ms in let first = size_some 0 m.operation in omega arith

        last_right : (other : List Numbered) (pc : ℕ) (l : Numbered) (rest : List Numbered) → l.line ≡ Some Line.End → 0 < pc → ((pc : ℕ) → mislabelled other pc rest ≡ None) → mislabelled other pc (l ∷ rest) ≡ None
        last_right other pc l rest is lt behind =
            ap (λ (o : Option Line). mislabelled other pc (record { number = l.number; line = o } ∷ rest)) is ∙ cond-true (nat_lt 0 pc) (mislabelled other pc rest) (Some l.number) (lt-ltb 0 pc lt) ∙ behind pc
