-- Members that are made of lines are sound, and so is their code (JVMS 4.5 to 4.7.3).
use Rattle.std.proofs.Common.{◌≡◌, ℕ, ◌+◌, ◌≤◌, Bool, true, false, ◌&&◌, ◌||◌, List, [], ◌∷◌, length, Option, Some, None, Ok, refl, sym, ap, subst, ◌∙◌, arith}
use Rattle.std.specs.Prelude.{if◌then◌else◌, ◌==◌, nat_le, is_some}
use Rattle.std.specs.List.{AllZip, list_all, cons_option}
use Rattle.std.proofs.lemmas.Bool.{and_parts, and_from, or_left, or_right, leb-true, le-leb, ltb-true, lt-ltb}
use Rattle.class_file.specs.declared.pool.PoolEntry.{PoolEntry}
use Rattle.class_file.specs.declared.types.ExceptionEntry.{ExceptionEntry}
use Rattle.class_file.specs.Pool.{class_at}
use Rattle.class_file.specs.Range.{is_u2, exception_fits}
use Rattle.class_file.specs.Code.{Placed, is_start, or_else, unless, stray_in, first_stray}
use Rattle.class_file.specs.WellFormed.{is_class_or_none}
use Rattle.class_lines.specs.declared.line.Line.{Line}
use Rattle.class_lines.specs.declared.line.Operation.{Operation}
use Rattle.class_lines.specs.Words.{Text}
use Rattle.class_lines.specs.Lines.{is_line}
use Rattle.class_lines.proofs.LineForms.{caught_form}
use Rattle.constant_pool.specs.Edit.{Extends}
use Rattle.constant_pool.specs.Laws.{extends-further}
use Rattle.constant_pool.specs.Meaning.{class_stays}
use Rattle.class_text.specs.declared.numbered.Numbered.{Numbered}
use Rattle.class_text.specs.declared.order.Place.{Place}
use Rattle.class_text.specs.Gives.{◌>>=◌, Making}
use Rattle.class_text.specs.Order.{misplaced}
use Rattle.class_text.specs.Labels.{advance, place_of, has_label, is_right, mislabelled}
use Rattle.class_text.specs.Making.{place_index, caught_made, at_label, entry_made, has_room, counted, count_with, entries_made}
use Rattle.class_text.specs.Meaning.{Guard, guards_in, IsCaught, IsGuard}
use Rattle.class_text.proofs.Insns.{AreNear}
use Rattle.class_text.proofs.Pools.{class_there, index_fits, class_within}
use Rattle.class_text.proofs.Made.{then_parts, if_made, same_ok, Grown, grown_itself, made_class}
use Rattle.class_text.proofs.Steps.{AreOfForm, if_none, grown_further}

-- ---- lists that are made of lines

-- what is made with a pool is that of the lines' items in each pool that extends what is left
pub record Lists {X Y : Type 0} (Holds : List PoolEntry → X → Y → Type 0) (pool after : List PoolEntry) (count : ℕ) (xs : List X) (ys : List Y) : Type 0 where
  pub grown : Grown pool after
  pub each : (more : List PoolEntry) → Extends after more → AllZip (Holds more) xs ys
  pub room : count + length xs ≤ 65535

-- of a line nothing or one is made
pub record OneMade {X Y : Type 0} (Holds : List PoolEntry → X → Y → Type 0) (pool after : List PoolEntry) (one : Option X) (item : Option Y) : Type 0 where
  pub grown : Grown pool after
  pub holds : (more : List PoolEntry) → Extends after more → AllZip (Holds more) (cons_option one []) (cons_option item [])

pub nothing_made : {X Y : Type 0} (Holds : List PoolEntry → X → Y → Type 0) (pool : List PoolEntry) → length pool ≤ 65534 → OneMade Holds pool pool None None
nothing_made Holds pool few = record { grown = grown_itself pool few; holds = λ more h. tt }

pub none_left : {X Y : Type 0} (Holds : List PoolEntry → X → Y → Type 0) (pool : List PoolEntry) (count : ℕ) → length pool ≤ 65534 → count ≤ 65535 → Lists Holds pool pool count [] []
none_left Holds pool count few le = record { grown = grown_itself pool few; each = λ more h. tt; room = omega arith }

-- the list behind one
pub record Counted {X : Type 0} (one : Option X) (count : ℕ) (more : Making (List X)) (made : List PoolEntry × List X) : Type 0 where
  pub rest : List PoolEntry × List X
  pub next : more ≡ Ok rest
  pub is : (rest.0, cons_option one rest.1) ≡ made
  pub room : count_with count one ≤ 65535

count_room : {X : Type 0} (count : ℕ) (one : Option X) → count ≤ 65535 → has_room count one ≡ true → count_with count one ≤ 65535
count_room count None le h = le
count_room count (Some x) le h = let lt = ltb-true count 65535 h in omega arith

pub counted_parts : {X : Type 0} (number count : ℕ) (one : Option X) (more : Making (List X)) (made : List PoolEntry × List X) → count ≤ 65535 → counted number count one more ≡ Ok made → Counted one count more made
counted_parts number count one more made le h =
    let p = if_made (has_room count one) (more >>= (λ m. Ok (m.0, cons_option one m.1))) number made h in
    let t = then_parts more (λ m. Ok (m.0, cons_option one m.1)) made p.1 in
    record { rest = t.value; next = t.first; is = same_ok (t.value.0, cons_option one t.value.1) made t.after; room = count_room count one le p.0 }

one_more : {X Y : Type 0} (Holds : List PoolEntry → X → Y → Type 0) (more : List PoolEntry) (one : Option X) (item : Option Y) (xs : List X) (ys : List Y) → AllZip (Holds more) (cons_option one []) (cons_option item []) → AllZip (Holds more) xs ys → AllZip (Holds more) (cons_option one xs) (cons_option item ys)
one_more Holds more None None xs ys h k = k
one_more Holds more (Some x) (Some y) xs ys h k = (h.0, k)
one_more Holds more None (Some y) xs ys h k = absurd h
one_more Holds more (Some x) None xs ys h k = absurd h

count_more : {X : Type 0} (count : ℕ) (one : Option X) (xs : List X) → count_with count one + length xs ≤ 65535 → count + length (cons_option one xs) ≤ 65535
count_more count None xs h = h
count_more count (Some x) xs h = omega arith

pub with_one : {X Y : Type 0} (Holds : List PoolEntry → X → Y → Type 0) (pool between after : List PoolEntry) (count : ℕ) (one : Option X) (item : Option Y) (xs : List X) (ys : List Y) → OneMade Holds pool between one item → Lists Holds between after (count_with count one) xs ys → Lists Holds pool after count (cons_option one xs) (cons_option item ys)
with_one Holds pool between after count one item xs ys o l = record {
  grown = grown_further pool between after o.grown l.grown;
  each = λ more h. one_more Holds more one item xs ys (o.holds more (extends-further between after more l.grown.grows h)) (l.each more h);
  room = count_more count one xs l.room;
}

-- ---- exception tables

module _ (version : ℕ) (body : List Numbered) (near : AreNear body) (code : List ℕ) (insns : List Placed) (labels : (name : Text) (place : ℕ) → place_of name 0 body ≡ Some place → is_start insns place ≡ true) where
  pub record IsEntry (pool : List PoolEntry) (e : ExceptionEntry) (g : Guard) : Type 0 where
    pub guard : IsGuard pool body e g
    pub leads : stray_in code insns e ≡ None
    pub class : is_class_or_none pool e.catch_type ≡ true
    pub fits : exception_fits e ≡ true

  -- a label that is there has a place of two bytes, at which an instruction begins
  label_start : (o : Option ℕ) → ((place : ℕ) → o ≡ Some place → (place ≤ 65535) × (is_start insns place ≡ true)) → is_some o ≡ true → is_start insns (place_index o) ≡ true
  label_start None h k = absurd cc
  label_start (Some place) h k =
      let p = h place refl in
      ap (λ (t : Bool). is_start insns (if t then place else 0)) (le-leb place 65535 p.0) ∙ p.1

  at_start : (name : Text) → has_label body name ≡ true → is_start insns (at_label body name) ≡ true
  at_start name h = label_start (place_of name 0 body) (λ place is. (near.near name place is, labels name place is)) h

  label_place : (o : Option ℕ) → ((place : ℕ) → o ≡ Some place → place ≤ 65535) → is_some o ≡ true → o ≡ Some (place_index o)
  label_place None h k = absurd cc
  label_place (Some place) h k = ap (λ (t : Bool). Some (if t then place else 0)) (sym (le-leb place 65535 (h place refl)))

  at_place : (name : Text) → has_label body name ≡ true → place_of name 0 body ≡ Some (at_label body name)
  at_place name h = label_place (place_of name 0 body) (near.near name) h

  index_small : (o : Option ℕ) → is_u2 (place_index o) ≡ true
  index_small None = refl
  index_small (Some place) = go (nat_le place 65535) refl
    where
      go : (t : Bool) → nat_le place 65535 ≡ t → is_u2 (if t then place else 0) ≡ true
      go true is = let le = leb-true place 65535 is in lt-ltb place 65536 (omega arith)
      go false is = refl

  index_near : (o : Option ℕ) → place_index o ≤ 65535
  index_near o = let lt = ltb-true (place_index o) 65536 (index_small o) in omega arith

  none_stray : (e : ExceptionEntry) → is_start insns e.start ≡ true → is_start insns e.end ≡ true → is_start insns e.handler ≡ true → stray_in code insns e ≡ None
  none_stray e s n h =
      ap (λ (t : Bool). or_else (unless t e.start) (or_else (unless (is_start insns e.end || e.end == length code) e.end) (unless (is_start insns e.handler) e.handler))) s
      ∙ ap (λ (t : Bool). or_else (unless t e.end) (unless (is_start insns e.handler) e.handler)) (or_left (is_start insns e.end) (e.end == length code) n)
      ∙ ap (λ (t : Bool). unless t e.handler) h

  record Caught (pool after : List PoolEntry) (index : ℕ) (class : Option Text) : Type 0 where
    grown : Grown pool after
    is : (more : List PoolEntry) → Extends after more → IsCaught more index class
    named : (more : List PoolEntry) → Extends after more → is_class_or_none more index ≡ true
    small : is_u2 index ≡ true

  caught : (number : ℕ) (from to handler : Text) (class : Option Text) (pool : List PoolEntry) (made : List PoolEntry × ℕ) → length pool ≤ 65534 → is_line (Line.Catch from to handler class) ≡ true → caught_made number class pool ≡ Ok made → Caught pool made.0 made.1 class
  caught number from to handler None pool made few form h =
      let same : (pool, 0) ≡ made = same_ok (pool, 0) made h in
      subst (λ (m : List PoolEntry × ℕ). Caught pool m.0 m.1 None) same (record { grown = grown_itself pool few; is = λ more x. refl; named = λ more x. refl; small = refl })
  caught number from to handler (Some class) pool made few form h =
      let c = made_class number class pool made (caught_form from to handler class form) h in
      record {
        grown = c.grown;
        is = λ more x. class_stays made.0 more x made.1 class c.names;
        named = λ more x. or_right (made.1 == 0) (is_some (class_at more made.1)) (class_there made.0 more x made.1 (ap is_some c.names));
        small = index_fits made.0 c.grown.few made.1 (class_within made.0 made.1 class c.names);
      }

  catch_made : (number : ℕ) (from to handler : Text) (class : Option Text) (pool : List PoolEntry) (made : List PoolEntry × Option ExceptionEntry) → length pool ≤ 65534 → is_line (Line.Catch from to handler class) ≡ true
      → (has_label body from && (has_label body to && has_label body handler)) ≡ true → entry_made body number (Some (Line.Catch from to handler class)) pool ≡ Ok made → OneMade IsEntry pool made.0 made.1 (Some (record { from = from; to = to; handler = handler; class = class }))
  catch_made number from to handler class pool made few form there h =
      let p = and_parts (has_label body from) (has_label body to && has_label body handler) there in
      let q = and_parts (has_label body to) (has_label body handler) p.1 in
      let t = then_parts (caught_made number class pool) _ made h in
      let c = caught number from to handler class pool t.value few form t.first in
      let e : ExceptionEntry = record { start = at_label body from; end = at_label body to; handler = at_label body handler; catch_type = t.value.1 } in
      let same : (t.value.0, Some e) ≡ made = same_ok (t.value.0, Some e) made t.after in
      subst (λ (m : List PoolEntry × Option ExceptionEntry). OneMade IsEntry pool m.0 m.1 (Some (record { from = from; to = to; handler = handler; class = class }))) same (record {
        grown = c.grown;
        holds = λ more x. (
          record {
            guard = record { start = at_place from p.0; end = at_place to q.0; handler = at_place handler q.1; near = (index_near (place_of from 0 body), index_near (place_of to 0 body), index_near (place_of handler 0 body)); caught = c.is more x };
            leads = none_stray e (at_start from p.0) (at_start to q.0) (at_start handler q.1);
            class = c.named more x;
            fits = and_from (is_u2 e.start) (is_u2 e.end && (is_u2 e.handler && is_u2 e.catch_type)) (index_small (place_of from 0 body))
                (and_from (is_u2 e.end) (is_u2 e.handler && is_u2 e.catch_type) (index_small (place_of to 0 body))
                (and_from (is_u2 e.handler) (is_u2 e.catch_type) (index_small (place_of handler 0 body)) c.small));
          },
          tt,
        );
      })

  module _ (end : ℕ) where
    abbrev Enters : List Numbered → Type 0
    Enters lines = (pc count : ℕ) (pool : List PoolEntry) (made : List PoolEntry × List ExceptionEntry) → count ≤ 65535 → length pool ≤ 65534 → AreOfForm lines → misplaced end Place.Inside lines ≡ None → mislabelled body pc lines ≡ None
        → entries_made body count lines pool ≡ Ok made → Lists IsEntry pool made.0 count made.1 (guards_in lines)

    -- the line of an instruction
    step_entry : (number : ℕ) (label : Option Text) (o : Operation) (lines : List Numbered) → Enters lines → Enters (record { number = number; line = Some (Line.Step label o) } ∷ lines)
    step_entry number label o lines next pc count pool made le few form place right h =
        let r = if_none (is_right body pc (Some (Line.Step label o))) (mislabelled body (advance pc o) lines) number right in
        let c = counted_parts number count None (entries_made body count lines pool) made le h in
        let rest = next (advance pc o) count pool c.rest le few form.1 place r.1 c.next in
        subst (λ (m : List PoolEntry × List ExceptionEntry). Lists IsEntry pool m.0 count m.1 (guards_in lines)) c.is rest

    catch_entry : (number : ℕ) (from to handler : Text) (class : Option Text) (lines : List Numbered) → Enters lines → Enters (record { number = number; line = Some (Line.Catch from to handler class) } ∷ lines)
    catch_entry number from to handler class lines next pc count pool made le few form place right h =
        let r = if_none (is_right body pc (Some (Line.Catch from to handler class))) (mislabelled body pc lines) number right in
        let t = then_parts (entry_made body number (Some (Line.Catch from to handler class)) pool) _ made h in
        let o = catch_made number from to handler class pool t.value few form.0 r.0 t.first in
        let c = counted_parts number count t.value.1 (entries_made body (count_with count t.value.1) lines t.value.0) made le t.after in
        let rest = next pc (count_with count t.value.1) t.value.0 c.rest c.room o.grown.few form.1 place r.1 c.next in
        subst (λ (m : List PoolEntry × List ExceptionEntry). Lists IsEntry pool m.0 count m.1 (record { from = from; to = to; handler = handler; class = class } ∷ guards_in lines)) c.is
        (with_one IsEntry pool t.value.0 c.rest.0 count t.value.1 (Some (record { from = from; to = to; handler = handler; class = class })) c.rest.1 (guards_in lines) o rest)

    end_entry : (number : ℕ) (lines : List Numbered) → Enters (record { number = number; line = Some Line.End } ∷ lines)
    end_entry number lines pc count pool made le few form place right h =
        let same : (pool, []) ≡ made = same_ok (pool, []) made h in
        subst (λ (m : List PoolEntry × List ExceptionEntry). Lists IsEntry pool m.0 count m.1 []) same (none_left IsEntry pool count few le)

    line_entry : (number : ℕ) (o : Option Line) (lines : List Numbered) → Enters lines → Enters (record { number = number; line = o } ∷ lines)
    line_entry number (Some (Line.Step label o)) lines next pc count pool made le few form place right h = step_entry number label o lines next pc count pool made le few form place right h
    line_entry number (Some (Line.Catch from to handler class)) lines next pc count pool made le few form place right h = catch_entry number from to handler class lines next pc count pool made le few form place right h
    line_entry number (Some Line.End) lines next pc count pool made le few form place right h = end_entry number lines pc count pool made le few form place right h
    line_entry number (Some (Line.Class name super version flags interfaces)) lines next pc count pool made le few form place right h = absurd cc
    line_entry number (Some (Line.Field head)) lines next pc count pool made le few form place right h = absurd cc
    line_entry number (Some (Line.Method head stack locals)) lines next pc count pool made le few form place right h = absurd cc
    line_entry number (Some (Line.Bare head)) lines next pc count pool made le few form place right h = absurd cc
    line_entry number None lines next pc count pool made le few form place right h = absurd cc

    pub entries_are : (lines : List Numbered) → Enters lines
    entries_are [] pc count pool made le few form place right h = absurd cc
    entries_are (line ∷ lines) pc count pool made le few form place right h = line_entry line.number line.line lines (entries_are lines) pc count pool made le few form place right h

  -- no entry is astray
  pub none_astray : (pool : List PoolEntry) (entries : List ExceptionEntry) (guards : List Guard) → AllZip (IsEntry pool) entries guards → first_stray code insns entries ≡ None
  none_astray pool [] guards each = refl
  none_astray pool (e ∷ entries) [] each = absurd each
  none_astray pool (e ∷ entries) (g ∷ guards) each = ap (λ (o : Option ℕ). or_else o (first_stray code insns entries)) each.0.leads ∙ none_astray pool entries guards each.1

  pub all_caught : (pool : List PoolEntry) (entries : List ExceptionEntry) (guards : List Guard) → AllZip (IsEntry pool) entries guards → list_all (λ (e : ExceptionEntry). is_class_or_none pool e.catch_type) entries ≡ true
  all_caught pool [] guards each = refl
  all_caught pool (e ∷ entries) [] each = absurd each
  all_caught pool (e ∷ entries) (g ∷ guards) each = and_from (is_class_or_none pool e.catch_type) (list_all (λ (e : ExceptionEntry). is_class_or_none pool e.catch_type) entries) each.0.class (all_caught pool entries guards each.1)

  pub all_entries_fit : (pool : List PoolEntry) (entries : List ExceptionEntry) (guards : List Guard) → AllZip (IsEntry pool) entries guards → list_all exception_fits entries ≡ true
  all_entries_fit pool [] guards each = refl
  all_entries_fit pool (e ∷ entries) [] each = absurd each
  all_entries_fit pool (e ∷ entries) (g ∷ guards) each = and_from (exception_fits e) (list_all exception_fits entries) each.0.fits (all_entries_fit pool entries guards each.1)

  pub all_guards : (pool : List PoolEntry) (entries : List ExceptionEntry) (guards : List Guard) → AllZip (IsEntry pool) entries guards → AllZip (IsGuard pool body) entries guards
  all_guards pool [] [] each = tt
  all_guards pool [] (g ∷ guards) each = absurd each
  all_guards pool (e ∷ entries) [] each = absurd each
  all_guards pool (e ∷ entries) (g ∷ guards) each = (each.0.guard, all_guards pool entries guards each.1)
