-- The lines of a class file in its order, with other labels, are the same class.
use Rattle.std.proofs.Common.{◌≡◌, ℕ, ◌+◌, ◌≤◌, Bool, List, [], ◌∷◌, ◌++◌, length, Option, Some, None, Ok, Err, refl, sym, ap, subst, ◌∙◌}
use Rattle.std.specs.Prelude.{nat_lt, nat_le, Result}
use Rattle.std.specs.List.{AllByRecursion, AllZip, cons_option}
use Rattle.std.proofs.lemmas.Bool.{cond-true}
use Rattle.class_file.specs.declared.pool.PoolEntry.{PoolEntry}
use Rattle.class_file.specs.declared.types.ClassFile.{ClassFile}
use Rattle.class_file.specs.declared.types.Member.{Member}
use Rattle.class_file.specs.declared.types.Attribute.{Attribute}
use Rattle.class_lines.specs.declared.line.Line.{Line}
use Rattle.class_lines.specs.declared.line.MemberHead.{MemberHead}
use Rattle.class_lines.specs.Words.{Text}
use Rattle.constant_pool.specs.Edit.{Placed, with_text, with_class}
use Rattle.class_text.specs.declared.numbered.Numbered.{Numbered}
use Rattle.class_text.specs.declared.order.Place.{Place}
use Rattle.class_text.specs.Gives.{◌>>=◌, Making}
use Rattle.class_text.specs.Order.{stands, place_after, misplaced}
use Rattle.class_text.specs.Labels.{size_at, mislabelled}
use Rattle.class_text.specs.Pool.{text_made, class_made}
use Rattle.class_text.specs.Making.{counted, count_with, head_made, bare_made, code_made, method_made, one_of, fields_made, methods_made, interfaces_made, all_interfaces_made, class_file_made, first_made}
use Rattle.class_text.specs.Meaning.{Labelled, Guard, guards_in, steps_in, Coded, MethodLines, fields_in, methods_in}
use Rattle.class_text.proofs.Made.{then_parts, if_made, same_ok, short_made}
use Rattle.class_text.proofs.Steps.{AreOfForm, if_none}
use Rattle.class_text.proofs.Relabelled.{short_again, RenamesGuard, none_added, added_none}
use Rattle.class_text.proofs.SameClass.{head_again, bare_again, RenamedFrom, Body, code_again}
use Rattle.class_text.specs.ClassOf.{first_of, first_wrong, judged}
use Rattle.class_text.proofs.WellFormed.{judged_parts, none_first}
use Rattle.class_text.proofs.SoundMembers.{right_behind, place_behind_method}

-- the pool of a head isn't too long
head_few : (number : ℕ) (head : MemberHead) (pool : List PoolEntry) (made : List PoolEntry × (ℕ × ℕ)) → head_made number head pool ≡ Ok made → length made.0 ≤ 65534
head_few number head pool made h =
    let a = then_parts (text_made number head.name pool) _ made h in
    let b = then_parts (text_made number head.descriptor a.value.0) _ made a.after in
    let few = (short_made number head.descriptor (with_text a.value.0 head.descriptor) b.value b.first).2 in
    subst (λ (m : List PoolEntry × (ℕ × ℕ)). length m.0 ≤ 65534) (same_ok (b.value.0, (a.value.1, b.value.1)) made b.after) few

-- a line inside of a method
abbrev IsInner : Option Line → Type 0
IsInner (Some (Line.Step label operation)) = Unit {0}
IsInner (Some (Line.Catch from to handler class)) = Unit {0}
IsInner (Some Line.End) = Unit {0}
IsInner _ = ⊥

one_field : (number count : ℕ) (o : Option Line) (lines : List Numbered) (pool : List PoolEntry) → IsInner o → fields_made count (record { number = number; line = o } ∷ lines) pool ≡ fields_made count lines pool
one_field number count (Some (Line.Step label operation)) lines pool h = added_none (fields_made count lines pool)
one_field number count (Some (Line.Catch from to handler class)) lines pool h = added_none (fields_made count lines pool)
one_field number count (Some Line.End) lines pool h = added_none (fields_made count lines pool)
one_field number count _ lines pool h = absurd h

one_method : (version number count : ℕ) (o : Option Line) (lines : List Numbered) (pool : List PoolEntry) → IsInner o → methods_made version count (record { number = number; line = o } ∷ lines) pool ≡ methods_made version count lines pool
one_method version number count (Some (Line.Step label operation)) lines pool h = added_none (methods_made version count lines pool)
one_method version number count (Some (Line.Catch from to handler class)) lines pool h = added_none (methods_made version count lines pool)
one_method version number count (Some Line.End) lines pool h = added_none (methods_made version count lines pool)
one_method version number count _ lines pool h = absurd h

inner_fields : (count : ℕ) (lines rest : List Numbered) (pool : List PoolEntry) → AllByRecursion (λ (l : Numbered). IsInner l.line) lines → fields_made count (lines ++ rest) pool ≡ fields_made count rest pool
inner_fields count [] rest pool h = refl
inner_fields count (l ∷ lines) rest pool h = one_field l.number count l.line (lines ++ rest) pool h.0 ∙ inner_fields count lines rest pool h.1

inner_methods : (version count : ℕ) (lines rest : List Numbered) (pool : List PoolEntry) → AllByRecursion (λ (l : Numbered). IsInner l.line) lines → methods_made version count (lines ++ rest) pool ≡ methods_made version count rest pool
inner_methods version count [] rest pool h = refl
inner_methods version count (l ∷ lines) rest pool h = one_method version l.number count l.line (lines ++ rest) pool h.0 ∙ inner_methods version count lines rest pool h.1

class_again : (line line' : ℕ) (name : Text) (pool : List PoolEntry) (made : Placed) → class_made line name pool ≡ Ok made → class_made line' name pool ≡ Ok made
class_again line line' name pool made h = short_again line line' name (with_class pool name) made h

interfaces_again : (line line' : ℕ) (names : List Text) (pool : List PoolEntry) (made : List PoolEntry × List ℕ) → interfaces_made line names pool ≡ Ok made → interfaces_made line' names pool ≡ Ok made
interfaces_again line line' [] pool made h = h
interfaces_again line line' (name ∷ names) pool made h =
    let a = then_parts (class_made line name pool) _ made h in
    let b = then_parts (interfaces_made line names a.value.0) _ made a.after in
    let put : ℕ → List PoolEntry × List ℕ → Making (List ℕ) = λ n m. Ok (m.0, n ∷ m.1) in
    ap (λ (r : Making ℕ). r >>= (λ (c : Placed). interfaces_made line' names c.0 >>= put c.1)) (class_again line line' name pool a.value a.first)
    ∙ ap (λ (r : Making (List ℕ)). r >>= put a.value.1) (interfaces_again line line' names a.value.0 b.value b.first) ∙ b.after

all_interfaces_again : (line line' : ℕ) (names : List Text) (pool : List PoolEntry) (made : List PoolEntry × List ℕ) → all_interfaces_made line names pool ≡ Ok made → all_interfaces_made line' names pool ≡ Ok made
all_interfaces_again line line' names pool made h =
    let p = if_made (nat_le (length names) 65535) (interfaces_made line names pool) line made h in
    cond-true (nat_le (length names) 65535) (interfaces_made line' names pool) (Err line') p.0 ∙ interfaces_again line line' names pool made p.1

-- one more member
one_again : {X : Type 0} (line line' count : ℕ) (one : X) (more more' : Making (List X)) (made : List PoolEntry × List X) → ((m : List PoolEntry × List X) → more ≡ Ok m → more' ≡ Ok m) → counted line count (Some one) more ≡ Ok made → counted line' count (Some one) more' ≡ Ok made
one_again line line' count one more more' made f h =
    let p = if_made (nat_lt count 65535) (more >>= (λ m. Ok (m.0, cons_option (Some one) m.1))) line made h in
    let t = then_parts more (λ m. Ok (m.0, cons_option (Some one) m.1)) made p.1 in
    let put : List PoolEntry × List _ → Making (List _) = λ m. Ok (m.0, one ∷ m.1) in
    cond-true (nat_lt count 65535) (more' >>= put) (Err line') p.0 ∙ ap (λ (r : Making (List _)). r >>= put) (f t.value t.first) ∙ t.after

module _ (label_of : ℕ → Text) (apart : (a b : ℕ) → label_of a ≡ label_of b → a ≡ b) where
  -- ---- the lines of a method

  steps_inner : (marks : ℕ → Bool) (body : List Numbered) (pc : ℕ) (steps : List Labelled) (lines : List Numbered) → RenamedFrom label_of apart marks body pc steps lines → AllByRecursion (λ (l : Numbered). IsInner l.line) lines
  steps_inner marks body pc [] [] h = tt
  steps_inner marks body pc [] (l ∷ lines) h = absurd h
  steps_inner marks body pc (s ∷ steps) [] h = absurd h
  steps_inner marks body pc (s ∷ steps) (l ∷ lines) h = (subst IsInner (sym h.0) tt, steps_inner marks body (pc + size_at pc s.operation) steps lines h.1)

  table_inner : (marks : ℕ → Bool) (body : List Numbered) (guards : List Guard) (lines : List Numbered) → AllZip (RenamesGuard label_of apart marks body) guards lines → AllByRecursion (λ (l : Numbered). IsInner l.line) lines
  table_inner marks body [] [] h = tt
  table_inner marks body [] (l ∷ lines) h = absurd h
  table_inner marks body (g ∷ guards) [] h = absurd h
  table_inner marks body (g ∷ guards) (l ∷ lines) h = (subst IsInner (sym h.0.is) tt, table_inner marks body guards lines h.1)

  steps_placed : (end : ℕ) (marks : ℕ → Bool) (body : List Numbered) (pc : ℕ) (steps : List Labelled) (lines rest : List Numbered) → RenamedFrom label_of apart marks body pc steps lines → misplaced end Place.Inside (lines ++ rest) ≡ misplaced end Place.Inside rest
  steps_placed end marks body pc [] [] rest h = refl
  steps_placed end marks body pc [] (l ∷ lines) rest h = absurd h
  steps_placed end marks body pc (s ∷ steps) [] rest h = absurd h
  steps_placed end marks body pc (s ∷ steps) (l ∷ lines) rest h =
      ap (λ (o : Option Line). misplaced end Place.Inside (record { number = l.number; line = o } ∷ (lines ++ rest))) h.0 ∙ steps_placed end marks body (pc + size_at pc s.operation) steps lines rest h.1

  table_placed : (end : ℕ) (marks : ℕ → Bool) (body : List Numbered) (guards : List Guard) (lines rest : List Numbered) → AllZip (RenamesGuard label_of apart marks body) guards lines → misplaced end Place.Inside (lines ++ rest) ≡ misplaced end Place.Inside rest
  table_placed end marks body [] [] rest h = refl
  table_placed end marks body [] (l ∷ lines) rest h = absurd h
  table_placed end marks body (g ∷ guards) [] rest h = absurd h
  table_placed end marks body (g ∷ guards) (l ∷ lines) rest h =
      ap (λ (o : Option Line). misplaced end Place.Inside (record { number = l.number; line = o } ∷ (lines ++ rest))) h.0.is ∙ table_placed end marks body guards lines rest h.1

  module _ (body rest lines : List Numbered) (b : Body label_of apart body rest lines) where
    body_placed : (end : ℕ) → misplaced end Place.Inside lines ≡ misplaced end Place.Outside rest
    body_placed end =
        ap (misplaced end Place.Inside) b.is
        ∙ steps_placed end b.marks body 0 (steps_in body) b.steps (b.table ++ (b.last ∷ rest)) b.renamed_steps
        ∙ table_placed end b.marks body (guards_in body) b.table (b.last ∷ rest) b.renamed_table
        ∙ ap (λ (o : Option Line). misplaced end Place.Inside (record { number = b.last.number; line = o } ∷ rest)) b.ends

    body_fields : (count : ℕ) (pool : List PoolEntry) → fields_made count lines pool ≡ fields_made count rest pool
    body_fields count pool =
        ap (λ (l : List Numbered). fields_made count l pool) b.is
        ∙ inner_fields count b.steps (b.table ++ (b.last ∷ rest)) pool (steps_inner b.marks body 0 (steps_in body) b.steps b.renamed_steps)
        ∙ inner_fields count b.table (b.last ∷ rest) pool (table_inner b.marks body (guards_in body) b.table b.renamed_table)
        ∙ one_field b.last.number count b.last.line rest pool (subst IsInner (sym b.ends) tt)

    body_methods : (version count : ℕ) (pool : List PoolEntry) → methods_made version count lines pool ≡ methods_made version count rest pool
    body_methods version count pool =
        ap (λ (l : List Numbered). methods_made version count l pool) b.is
        ∙ inner_methods version count b.steps (b.table ++ (b.last ∷ rest)) pool (steps_inner b.marks body 0 (steps_in body) b.steps b.renamed_steps)
        ∙ inner_methods version count b.table (b.last ∷ rest) pool (table_inner b.marks body (guards_in body) b.table b.renamed_table)
        ∙ one_method version b.last.number count b.last.line rest pool (subst IsInner (sym b.ends) tt)

  -- ---- the methods

  -- the lines of a method, and those behind it
  abbrev pub Block : MemberHead → Option Coded → List Numbered → List Numbered → Type 0
  Block head None rest all = (l : Numbered) × (all ≡ l ∷ rest) × (l.line ≡ Some (Line.Bare head))
  Block head (Some c) rest all = (l : Numbered) × (lines : List Numbered) × (all ≡ l ∷ lines) × (l.line ≡ Some (Line.Method head c.stack c.locals)) × Body label_of apart c.body rest lines

  abbrev pub Blocks : List MethodLines → List Numbered → Type 0
  Blocks [] all = all ≡ []
  Blocks (m ∷ methods) all = (rest : List Numbered) × Block m.head m.code rest all × Blocks methods rest

  blocks_fields : (methods : List MethodLines) (all : List Numbered) (count : ℕ) (pool : List PoolEntry) → Blocks methods all → fields_made count all pool ≡ Ok (pool, [])
  blocks_fields [] all count pool b = ap (λ (l : List Numbered). fields_made count l pool) b
  blocks_fields (m ∷ methods) all count pool b = go m.code b.1 ∙ blocks_fields methods b.0 count pool b.2
    where
      go : (code : Option Coded) → Block m.head code b.0 all → fields_made count all pool ≡ fields_made count b.0 pool
      go None x = ap (λ (l : List Numbered). fields_made count l pool) x.1 ∙ ap (λ (o : Option Line). fields_made count (record { number = x.0.number; line = o } ∷ b.0) pool) x.2 ∙ added_none (fields_made count b.0 pool)
      go (Some c) x =
          ap (λ (l : List Numbered). fields_made count l pool) x.2 ∙ ap (λ (o : Option Line). fields_made count (record { number = x.0.number; line = o } ∷ x.1) pool) x.3
          ∙ added_none (fields_made count x.1 pool) ∙ body_fields c.body b.0 x.1 x.4 count pool

  pub record Again (version end count : ℕ) (pool : List PoolEntry) (made : List PoolEntry × List Member) (all : List Numbered) : Type 0 where
    pub is : methods_made version count all pool ≡ Ok made
    pub right : (other : List Numbered) (pc : ℕ) → mislabelled other pc all ≡ None
    pub placed : misplaced end Place.Outside all ≡ None

  module _ (version end : ℕ) where
    -- the methods of lines, and of their lines with other labels
    abbrev MakesAgain : List Numbered → Type 0
    MakesAgain lines = (count : ℕ) (pool : List PoolEntry) (made : List PoolEntry × List Member) (all : List Numbered) → methods_made version count lines pool ≡ Ok made → Blocks (methods_in lines) all → Again version end count pool made all

    -- what is left behind one more method
    record Left (number count : ℕ) (one : Member) (lines : List Numbered) (pool : List PoolEntry) (made : List PoolEntry × List Member) : Type 0 where
      rest : List PoolEntry × List Member
      next : methods_made version (count + 1) lines pool ≡ Ok rest

    left_of : (number count : ℕ) (one : Member) (lines : List Numbered) (pool : List PoolEntry) (made : List PoolEntry × List Member) → counted number count (Some one) (methods_made version (count + 1) lines pool) ≡ Ok made → Left number count one lines pool made
    left_of number count one lines pool made h =
        let p = if_made (nat_lt count 65535) (methods_made version (count + 1) lines pool >>= (λ m. Ok (m.0, cons_option (Some one) m.1))) number made h in
        let t = then_parts (methods_made version (count + 1) lines pool) _ made p.1 in
        record { rest = t.value; next = t.first }

    bare_first : (number : ℕ) (head : MemberHead) (lines : List Numbered) → MakesAgain lines → MakesAgain (record { number = number; line = Some (Line.Bare head) } ∷ lines)
    bare_first number head lines next count pool made all h b =
        let t = then_parts (one_of (bare_made number head pool)) _ made h in
        let u = then_parts (bare_made number head pool) _ t.value t.first in
        let same : (u.value.0, Some u.value.1) ≡ t.value = same_ok (u.value.0, Some u.value.1) t.value u.after in
        let after : counted number count (Some u.value.1) (methods_made version (count + 1) lines u.value.0) ≡ Ok made =
        ap (λ (v : List PoolEntry × Option Member). counted number count v.1 (methods_made version (count_with count v.1) lines v.0)) same ∙ t.after in
        let rest : List Numbered = b.0 in
        let l : Numbered = b.1.0 in
        let again : (m : List PoolEntry × List Member) → methods_made version (count + 1) lines u.value.0 ≡ Ok m → Again version end (count + 1) u.value.0 m rest = λ m e. next (count + 1) u.value.0 m rest e b.2 in
        let left = left_of number count u.value.1 lines u.value.0 made after in
        let a = again left.rest left.next in
        let put : List PoolEntry × Option Member → Making (List Member) = λ v. counted l.number count v.1 (methods_made version (count_with count v.1) rest v.0) in
        record {
          is =
              ap (λ (x : List Numbered). methods_made version count x pool) b.1.1
              ∙ ap (λ (o : Option Line). methods_made version count (record { number = l.number; line = o } ∷ rest) pool) b.1.2
              ∙ ap (λ (r : Making Member). one_of r >>= put) (bare_again number l.number head pool u.value u.first)
              ∙ one_again number l.number count u.value.1 (methods_made version (count + 1) lines u.value.0) (methods_made version (count + 1) rest u.value.0) made (λ m e. (again m e).is) after;
          right = λ other pc. ap (mislabelled other pc) b.1.1 ∙ ap (λ (o : Option Line). mislabelled other pc (record { number = l.number; line = o } ∷ rest)) b.1.2 ∙ a.right other pc;
          placed = ap (misplaced end Place.Outside) b.1.1 ∙ ap (λ (o : Option Line). misplaced end Place.Outside (record { number = l.number; line = o } ∷ rest)) b.1.2 ∙ a.placed;
        }

    coded_first : (number : ℕ) (head : MemberHead) (stack locals : ℕ) (lines : List Numbered) → AreOfForm lines → misplaced end Place.Inside lines ≡ None → mislabelled lines 0 lines ≡ None → MakesAgain lines → MakesAgain (record { number = number; line = Some (Line.Method head stack locals) } ∷ lines)
    coded_first number head stack locals lines form placed right next count pool made all h b =
        let t = then_parts (one_of (method_made version lines number head stack locals pool)) _ made h in
        let u = then_parts (method_made version lines number head stack locals pool) _ t.value t.first in
        let same : (u.value.0, Some u.value.1) ≡ t.value = same_ok (u.value.0, Some u.value.1) t.value u.after in
        let after : counted number count (Some u.value.1) (methods_made version (count + 1) lines u.value.0) ≡ Ok made =
        ap (λ (v : List PoolEntry × Option Member). counted number count v.1 (methods_made version (count_with count v.1) lines v.0)) same ∙ t.after in
        let v = then_parts (head_made number head pool) _ u.value u.first in
        let w = then_parts (code_made version stack locals lines number v.value.0) _ u.value v.after in
        let rest : List Numbered = b.0 in
        let l : Numbered = b.1.0 in
        let inner : List Numbered = b.1.1 in
        let code = code_again label_of apart version lines end form placed right stack locals number v.value.0 w.value rest inner (head_few number head pool v.value v.first) w.first b.1.4 in
        let again : (m : List PoolEntry × List Member) → methods_made version (count + 1) lines u.value.0 ≡ Ok m → Again version end (count + 1) u.value.0 m rest = λ m e. next (count + 1) u.value.0 m rest e b.2 in
        let left = left_of number count u.value.1 lines u.value.0 made after in
        let a = again left.rest left.next in
        let with_code : ℕ × ℕ → List PoolEntry × List Attribute → Making Member = λ n x. Ok (x.0, record { flags = record { 0 = head.flags }; name = n.0; descriptor = n.1; attributes = x.1 }) in
        let method : method_made version inner l.number head stack locals pool ≡ Ok u.value =
        ap (λ (r : Making (ℕ × ℕ)). r >>= (λ (n : List PoolEntry × (ℕ × ℕ)). code_made version stack locals inner l.number n.0 >>= with_code n.1)) (head_again number l.number head pool v.value v.first)
        ∙ ap (λ (r : Making (List Attribute)). r >>= with_code v.value.1) (code.code l.number) ∙ w.after in
        let put : List PoolEntry × Option Member → Making (List Member) = λ x. counted l.number count x.1 (methods_made version (count_with count x.1) inner x.0) in
        record {
          is =
              ap (λ (x : List Numbered). methods_made version count x pool) b.1.2
              ∙ ap (λ (o : Option Line). methods_made version count (record { number = l.number; line = o } ∷ inner) pool) b.1.3
              ∙ ap (λ (r : Making Member). one_of r >>= put) method
              ∙ one_again number l.number count u.value.1 (methods_made version (count + 1) lines u.value.0) (methods_made version (count + 1) inner u.value.0) made
              (λ m e. body_methods lines rest inner b.1.4 version (count + 1) u.value.0 ∙ (again m e).is) after;
          right = λ other pc.
              ap (mislabelled other pc) b.1.2 ∙ ap (λ (o : Option Line). mislabelled other pc (record { number = l.number; line = o } ∷ inner)) b.1.3 ∙ code.right (λ x n. a.right x n);
          placed =
              ap (misplaced end Place.Outside) b.1.2 ∙ ap (λ (o : Option Line). misplaced end Place.Outside (record { number = l.number; line = o } ∷ inner)) b.1.3
              ∙ body_placed lines rest inner b.1.4 end ∙ a.placed;
        }

    any_first : (number : ℕ) (o : Option Line) (lines : List Numbered) → AreOfForm lines → ((head : MemberHead) (stack locals : ℕ) → o ≡ Some (Line.Method head stack locals) → (misplaced end Place.Inside lines ≡ None) × (mislabelled lines 0 lines ≡ None)) → MakesAgain lines → MakesAgain (record { number = number; line = o } ∷ lines)
    any_first number (Some (Line.Bare head)) lines form inside next count pool made all h b = bare_first number head lines next count pool made all h b
    any_first number (Some (Line.Method head stack locals)) lines form inside next count pool made all h b =
        let p = inside head stack locals refl in coded_first number head stack locals lines form p.0 p.1 next count pool made all h b
    any_first number (Some (Line.Class name super v flags interfaces)) lines form inside next count pool made all h b = next count pool made all (none_added (methods_made version count lines pool) made h) b
    any_first number (Some (Line.Field head)) lines form inside next count pool made all h b = next count pool made all (none_added (methods_made version count lines pool) made h) b
    any_first number (Some (Line.Step label o)) lines form inside next count pool made all h b = next count pool made all (none_added (methods_made version count lines pool) made h) b
    any_first number (Some (Line.Catch from to handler class)) lines form inside next count pool made all h b = next count pool made all (none_added (methods_made version count lines pool) made h) b
    any_first number (Some Line.End) lines form inside next count pool made all h b = next count pool made all (none_added (methods_made version count lines pool) made h) b
    any_first number None lines form inside next count pool made all h b = next count pool made all (none_added (methods_made version count lines pool) made h) b

    -- the methods of lines that are right are those of their lines with other labels
    pub methods_again : (place : Place) (body : List Numbered) (pc : ℕ) (lines : List Numbered) → AreOfForm lines → misplaced end place lines ≡ None → mislabelled body pc lines ≡ None → MakesAgain lines
    methods_again place body pc [] form placed right count pool made all h b =
        record {
          is = ap (λ (x : List Numbered). methods_made version count x pool) b ∙ h;
          right = λ other n. ap (mislabelled other n) b;
          placed = ap (misplaced end Place.Outside) b;
        }
    methods_again place body pc (line ∷ lines) form placed right count pool made all h b =
        let p = if_none (stands place line.line) (misplaced end (place_after place line.line) lines) line.number placed in
        let r = right_behind end body pc line.number line.line lines right in
        any_first line.number line.line lines form.1 (λ head stack locals is. (place_behind_method end line.number place line.line lines p.1 head stack locals is, r.1 head stack locals is))
        (methods_again (place_after place line.line) r.0.body r.0.pc lines form.1 p.1 r.0.right) count pool made all h b

-- ---- fields

-- a line of a field for each head
abbrev pub AreFields : List MemberHead → List Numbered → Type 0
AreFields heads lines = AllZip (λ (head : MemberHead) (l : Numbered). l.line ≡ Some (Line.Field head)) heads lines

module _ (tail : List Numbered) (none : (n : ℕ) (p : List PoolEntry) → fields_made n tail p ≡ Ok (p, [])) where
  abbrev FieldsAgain : List Numbered → Type 0
  FieldsAgain lines = (count : ℕ) (pool : List PoolEntry) (made : List PoolEntry × List Member) (fields : List Numbered) → fields_made count lines pool ≡ Ok made → AreFields (fields_in lines) fields → fields_made count (fields ++ tail) pool ≡ Ok made

  field_first : (number : ℕ) (head : MemberHead) (lines : List Numbered) → FieldsAgain lines → FieldsAgain (record { number = number; line = Some (Line.Field head) } ∷ lines)
  field_first number head lines next count pool made [] h b = absurd b
  field_first number head lines next count pool made (l ∷ fields) h b =
      let t = then_parts (one_of (bare_made number head pool)) _ made h in
      let u = then_parts (bare_made number head pool) _ t.value t.first in
      let same : (u.value.0, Some u.value.1) ≡ t.value = same_ok (u.value.0, Some u.value.1) t.value u.after in
      let after : counted number count (Some u.value.1) (fields_made (count + 1) lines u.value.0) ≡ Ok made =
      ap (λ (v : List PoolEntry × Option Member). counted number count v.1 (fields_made (count_with count v.1) lines v.0)) same ∙ t.after in
      let put : List PoolEntry × Option Member → Making (List Member) = λ v. counted l.number count v.1 (fields_made (count_with count v.1) (fields ++ tail) v.0) in
      ap (λ (o : Option Line). fields_made count (record { number = l.number; line = o } ∷ (fields ++ tail)) pool) b.0
      ∙ ap (λ (r : Making Member). one_of r >>= put) (bare_again number l.number head pool u.value u.first)
      ∙ one_again number l.number count u.value.1 (fields_made (count + 1) lines u.value.0) (fields_made (count + 1) (fields ++ tail) u.value.0) made (λ m e. next (count + 1) u.value.0 m fields e b.1) after

  any_field : (number : ℕ) (o : Option Line) (lines : List Numbered) → FieldsAgain lines → FieldsAgain (record { number = number; line = o } ∷ lines)
  any_field number (Some (Line.Field head)) lines next count pool made fields h b = field_first number head lines next count pool made fields h b
  any_field number (Some (Line.Bare head)) lines next count pool made fields h b = next count pool made fields (none_added (fields_made count lines pool) made h) b
  any_field number (Some (Line.Method head stack locals)) lines next count pool made fields h b = next count pool made fields (none_added (fields_made count lines pool) made h) b
  any_field number (Some (Line.Class name super v flags interfaces)) lines next count pool made fields h b = next count pool made fields (none_added (fields_made count lines pool) made h) b
  any_field number (Some (Line.Step label o)) lines next count pool made fields h b = next count pool made fields (none_added (fields_made count lines pool) made h) b
  any_field number (Some (Line.Catch from to handler class)) lines next count pool made fields h b = next count pool made fields (none_added (fields_made count lines pool) made h) b
  any_field number (Some Line.End) lines next count pool made fields h b = next count pool made fields (none_added (fields_made count lines pool) made h) b
  any_field number None lines next count pool made fields h b = next count pool made fields (none_added (fields_made count lines pool) made h) b

  -- the fields of lines are those of lines of their heads alone
  pub fields_again : (lines : List Numbered) → FieldsAgain lines
  fields_again [] count pool made [] h b = none count pool ∙ h
  fields_again [] count pool made (l ∷ fields) h b = absurd b
  fields_again (line ∷ lines) count pool made fields h b = any_field line.number line.line lines (fields_again lines) count pool made fields h b

-- lines of fields make no method, and are right
fields_pass : (version count : ℕ) (pool : List PoolEntry) (heads : List MemberHead) (fields tail : List Numbered) → AreFields heads fields → methods_made version count (fields ++ tail) pool ≡ methods_made version count tail pool
fields_pass version count pool [] [] tail b = refl
fields_pass version count pool [] (l ∷ fields) tail b = absurd b
fields_pass version count pool (head ∷ heads) [] tail b = absurd b
fields_pass version count pool (head ∷ heads) (l ∷ fields) tail b =
    ap (λ (o : Option Line). methods_made version count (record { number = l.number; line = o } ∷ (fields ++ tail)) pool) b.0 ∙ added_none (methods_made version count (fields ++ tail) pool) ∙ fields_pass version count pool heads fields tail b.1

fields_right : (other : List Numbered) (pc : ℕ) (heads : List MemberHead) (fields tail : List Numbered) → AreFields heads fields → mislabelled other pc tail ≡ None → mislabelled other pc (fields ++ tail) ≡ None
fields_right other pc [] [] tail b h = h
fields_right other pc [] (l ∷ fields) tail b h = absurd b
fields_right other pc (head ∷ heads) [] tail b h = absurd b
fields_right other pc (head ∷ heads) (l ∷ fields) tail b h = ap (λ (o : Option Line). mislabelled other pc (record { number = l.number; line = o } ∷ (fields ++ tail))) b.0 ∙ fields_right other pc heads fields tail b.1 h

fields_placed : (end : ℕ) (heads : List MemberHead) (fields tail : List Numbered) → AreFields heads fields → misplaced end Place.Outside tail ≡ None → misplaced end Place.Outside (fields ++ tail) ≡ None
fields_placed end [] [] tail b h = h
fields_placed end [] (l ∷ fields) tail b h = absurd b
fields_placed end (head ∷ heads) [] tail b h = absurd b
fields_placed end (head ∷ heads) (l ∷ fields) tail b h = ap (λ (o : Option Line). misplaced end Place.Outside (record { number = l.number; line = o } ∷ (fields ++ tail))) b.0 ∙ fields_placed end heads fields tail b.1 h

-- ---- the class

module _ (label_of : ℕ → Text) (apart : (a b : ℕ) → label_of a ≡ label_of b → a ≡ b) where
  -- the lines of a class file in its order, with other labels: its fields, and then its methods
  pub record Listing (lines all : List Numbered) : Type 0 where
    pub fields : List Numbered
    pub methods : List Numbered
    pub are : all ≡ fields ++ methods
    pub of_fields : AreFields (fields_in lines) fields
    pub of_methods : Blocks label_of apart (methods_in lines) methods

  pub record ClassAgain (end number : ℕ) (o : Option Line) (all : List Numbered) (c : ClassFile) : Type 0 where
    pub is : (fault line : ℕ) → first_made fault line o all ≡ Ok c
    pub right : (line : ℕ) → mislabelled [] 0 (record { number = line; line = o } ∷ all) ≡ None
    pub placed : (line : ℕ) → misplaced end Place.Start (record { number = line; line = o } ∷ all) ≡ None

  pub file_again : (end number : ℕ) (name super : Text) (version flags : ℕ) (names : List Text) (body : List Numbered) (pc : ℕ) (lines all : List Numbered) (c : ClassFile) → AreOfForm lines → misplaced end Place.Outside lines ≡ None → mislabelled body pc lines ≡ None
      → class_file_made number name super version flags names lines ≡ Ok c → Listing lines all → ClassAgain end number (Some (Line.Class name super version flags names)) all c
  file_again end number name super version flags names body pc lines all c form placed right h b =
      let t = then_parts (class_made number name []) _ c h in
      let u = then_parts (class_made number super t.value.0) _ c t.after in
      let i = then_parts (all_interfaces_made number names u.value.0) _ c u.after in
      let f = then_parts (fields_made 0 lines i.value.0) _ c i.after in
      let m = then_parts (methods_made version 0 lines f.value.0) _ c f.after in
      let new : List Numbered = b.fields ++ b.methods in
      let fields : fields_made 0 new i.value.0 ≡ Ok f.value = fields_again b.methods (λ n p. blocks_fields label_of apart (methods_in lines) b.methods n p b.of_methods) lines 0 i.value.0 f.value b.fields f.first b.of_fields in
      let a = methods_again label_of apart version end Place.Outside body pc lines form placed right 0 f.value.0 m.value b.methods m.first b.of_methods in
      let methods : methods_made version 0 new f.value.0 ≡ Ok m.value = fields_pass version 0 f.value.0 (fields_in lines) b.fields b.methods b.of_fields ∙ a.is in
      let file : ℕ → ℕ → List ℕ → List Member → List PoolEntry × List Member → Result ClassFile ℕ = λ this up interfaces fs ms.
      Ok (record { minor = 0; major = version; pool = ms.0; flags = record { 0 = flags }; this_class = this; super_class = up; interfaces = interfaces; fields = fs; methods = ms.1; attributes = [] }) in
      record {
        is = λ fault line.
            ap (λ (l : List Numbered). class_file_made line name super version flags names l) b.are
            ∙ ap (λ (r : Making ℕ). r >>= (λ (x : Placed). class_made line super x.0 >>= (λ (y : Placed). all_interfaces_made line names y.0 >>= (λ (z : List PoolEntry × List ℕ). fields_made 0 new z.0 >>= (λ (w : List PoolEntry × List Member). methods_made version 0 new w.0 >>= file x.1 y.1 z.1 w.1)))))
            (class_again number line name [] t.value t.first)
            ∙ ap (λ (r : Making ℕ). r >>= (λ (y : Placed). all_interfaces_made line names y.0 >>= (λ (z : List PoolEntry × List ℕ). fields_made 0 new z.0 >>= (λ (w : List PoolEntry × List Member). methods_made version 0 new w.0 >>= file t.value.1 y.1 z.1 w.1))))
            (class_again number line super t.value.0 u.value u.first)
            ∙ ap (λ (r : Making (List ℕ)). r >>= (λ (z : List PoolEntry × List ℕ). fields_made 0 new z.0 >>= (λ (w : List PoolEntry × List Member). methods_made version 0 new w.0 >>= file t.value.1 u.value.1 z.1 w.1)))
            (all_interfaces_again number line names u.value.0 i.value i.first)
            ∙ ap (λ (r : Making (List Member)). r >>= (λ (w : List PoolEntry × List Member). methods_made version 0 new w.0 >>= file t.value.1 u.value.1 i.value.1 w.1)) fields
            ∙ ap (λ (r : Making (List Member)). r >>= file t.value.1 u.value.1 i.value.1 f.value.1) methods
            ∙ m.after;
        right = λ line. ap (mislabelled [] 0) b.are ∙ fields_right [] 0 (fields_in lines) b.fields b.methods b.of_fields (a.right [] 0);
        placed = λ line. ap (misplaced end Place.Outside) b.are ∙ fields_placed end (fields_in lines) b.fields b.methods b.of_fields a.placed;
      }

-- a text that ends where it may does so whatever the number of the line behind its last is
placed_any : (end end' : ℕ) (place : Place) (lines : List Numbered) → misplaced end place lines ≡ None → misplaced end' place lines ≡ None
placed_any end end' Place.Outside [] h = refl
placed_any end end' Place.Start [] h = absurd cc
placed_any end end' Place.Inside [] h = absurd cc
placed_any end end' place (line ∷ lines) h =
    let p = if_none (stands place line.line) (misplaced end (place_after place line.line) lines) line.number h in
    cond-true (stands place line.line) (misplaced end' (place_after place line.line) lines) (Some line.number) p.0 ∙ placed_any end end' (place_after place line.line) lines p.1

module _ (label_of : ℕ → Text) (apart : (a b : ℕ) → label_of a ≡ label_of b → a ≡ b) where
  first_again : (end number : ℕ) (o : Option Line) (lines all : List Numbered) (c : ClassFile) → AreOfForm lines → misplaced end Place.Start (record { number = number; line = o } ∷ lines) ≡ None → mislabelled [] 0 (record { number = number; line = o } ∷ lines) ≡ None
      → first_made 1 number o lines ≡ Ok c → Listing label_of apart lines all → ClassAgain label_of apart end number o all c
  first_again end number (Some (Line.Class name super version flags names)) lines all c form placed right h b = file_again label_of apart end number name super version flags names [] 0 lines all c form placed right h b
  first_again end number (Some (Line.Field head)) lines all c form placed right h b = absurd cc
  first_again end number (Some (Line.Method head stack locals)) lines all c form placed right h b = absurd cc
  first_again end number (Some (Line.Bare head)) lines all c form placed right h b = absurd cc
  first_again end number (Some (Line.Step label o)) lines all c form placed right h b = absurd cc
  first_again end number (Some (Line.Catch from to handler class)) lines all c form placed right h b = absurd cc
  first_again end number (Some Line.End) lines all c form placed right h b = absurd cc
  first_again end number None lines all c form placed right h b = absurd cc

  -- Lines in the order of their class file, with other labels, are the same class.
  pub lines_again : (end end' : ℕ) (line : Numbered) (lines all : List Numbered) (number : ℕ) (c : ClassFile) → AreOfForm (line ∷ lines) → judged (line ∷ lines) (first_wrong end (line ∷ lines)) ≡ Ok c → Listing label_of apart lines all
      → judged (record { number = number; line = line.line } ∷ all) (first_wrong end' (record { number = number; line = line.line } ∷ all)) ≡ Ok c
  lines_again end end' line lines all number c form h b =
      let j = judged_parts (line ∷ lines) (first_wrong end (line ∷ lines)) c h in
      let n = none_first (misplaced end Place.Start (line ∷ lines)) (mislabelled [] 0 (line ∷ lines)) j.0 in
      let a = first_again end' line.number line.line lines all c form.1 (placed_any end end' Place.Start (line ∷ lines) n.0) n.1 j.1 b in
      let new : List Numbered = record { number = number; line = line.line } ∷ all in
      let right : first_wrong end' new ≡ None = ap (λ (o : Option ℕ). first_of o (mislabelled [] 0 new)) (a.placed number) ∙ ap (first_of None) (a.right number) in
      ap (judged new) right ∙ a.is 1 number
