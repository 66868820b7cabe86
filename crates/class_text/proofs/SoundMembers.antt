-- Fields and methods that are made of lines are sound (JVMS 4.5, 4.6).
use Rattle.std.proofs.Common.{◌≡◌, ℕ, ◌+◌, ◌*◌, ◌≤◌, Bool, true, ◌&&◌, List, [], ◌∷◌, ◌++◌, length, map, Option, Some, None, Ok, refl, sym, ap, subst, ◌∙◌, arith, ⊎_elim, length-append}
use Rattle.std.specs.Prelude.{◌==◌, nat_lt, nat_le, is_none, codes}
use Rattle.std.specs.List.{AllByRecursion, flat_map, list_all}
use Rattle.std.proofs.lemmas.Bool.{and_from, or_cases, eqb-true, le-leb, lt-ltb, cond-true}
use Rattle.class_file.specs.declared.pool.PoolEntry.{PoolEntry}
use Rattle.class_file.specs.declared.types.Member.{Member}
use Rattle.class_file.specs.declared.types.Attribute.{Attribute}
use Rattle.class_file.specs.declared.types.Content.TheVariants as content
use Rattle.class_file.specs.declared.types.CodeAttr.{CodeAttr}
use Rattle.class_file.specs.declared.types.ExceptionEntry.{ExceptionEntry}
use Rattle.class_file.specs.Text.{is_utf8, is_member_name, is_field_descriptor, is_method_descriptor_with}
use Rattle.class_file.specs.Pool.{text_at}
use Rattle.class_file.specs.Range.{is_u2, is_u4, are_bytes, counted_fits, exception_fits, code_attribute_fits, code_fits, attribute_fits, member_fits}
use Rattle.class_file.specs.Spelling.{counted as counted_bytes, spelled_exception, spelled_content}
use Rattle.class_file.specs.Sound.{is_some_that}
use Rattle.class_file.specs.Code.{Placed, instructions, is_start, leads_well as placed_leads_well, has_operand, or_else, first_failing, first_stray, fault_among, is_sized, code_fault}
use Rattle.class_file.specs.WellFormed.{kind_in_method, is_of_kind, kind_after, attributes_agree, is_class_or_none, code_attribute_is_sound, code_is_sound, content_is_sound, is_name_index, field_is_sound, receiver_slots, method_is_sound}
use Rattle.class_lines.specs.declared.line.Line.{Line}
use Rattle.class_lines.specs.declared.line.MemberHead.{MemberHead}
use Rattle.class_lines.specs.Heads.{takes_few}
use Rattle.class_lines.specs.Lines.{is_line}
use Rattle.class_lines.proofs.LineForms.{field_form, method_form, bare_form}
use Rattle.constant_pool.specs.Edit.{Extends}
use Rattle.constant_pool.specs.Laws.{extends-itself, extends-further}
use Rattle.constant_pool.specs.Meaning.{text_stays}
use Rattle.class_text.specs.declared.numbered.Numbered.{Numbered}
use Rattle.class_text.specs.declared.order.Place.{Place}
use Rattle.class_text.specs.Gives.{Making}
use Rattle.class_text.specs.Order.{stands, place_after, misplaced}
use Rattle.class_text.specs.Labels.{mislabelled, is_right, place_behind}
use Rattle.class_text.specs.Meaning.{steps_in, guards_in, Guard, Coded, MethodLines, field_in, fields_in, method_in, methods_in, IsNamed, IsField, HasCode, IsMethod}
use Rattle.class_text.specs.Pool.{text_made}
use Rattle.class_text.specs.Making.{steps_made, entries_made, count_with, head_made, bare_made, code_made, method_made, one_of, field_made, any_method_made, fields_made, methods_made}
use Rattle.class_text.proofs.Insns.{AreNear}
use Rattle.class_text.proofs.Pools.{index_fits, text_within}
use Rattle.class_text.proofs.Made.{then_parts, same_ok, Grown, made_text}
use Rattle.class_text.proofs.Steps.{Made, IsMade, placed_of, OfForm, AreOfForm, if_none, steps_are, grown_further, linked_grown, operands_are, instructions_are, leads_are, steps_mean, in_row}
use Rattle.class_text.proofs.CodeBytes.{code_bytes}
use Rattle.class_text.proofs.Methods.{Lists, OneMade, nothing_made, none_left, counted_parts, with_one, entries_are, none_astray, all_caught, all_entries_fit, all_guards}
use Rattle.class_text.proofs.Utf8.{member_utf8, field_utf8, method_utf8}

-- ---- code

entries_spelled : (entries : List ExceptionEntry) → length (flat_map spelled_exception entries) ≡ 8 * length entries
entries_spelled [] = refl
entries_spelled (e ∷ entries) = omega (arith, length-append (spelled_exception e) (flat_map spelled_exception entries), entries_spelled entries)

abbrev code_of : ℕ → ℕ → List ℕ → List ExceptionEntry → CodeAttr
code_of stack locals bytes entries = record { max_stack = stack; max_locals = locals; code = bytes; entries = entries; attributes = [] }

code_spelled : (stack locals : ℕ) (bytes : List ℕ) (entries : List ExceptionEntry) → length (spelled_content (content.Code (code_of stack locals bytes entries))) ≡ 12 + length bytes + 8 * length entries
code_spelled stack locals bytes entries = omega (arith, length-append bytes (counted_bytes spelled_exception entries ++ (0 ∷ 0 ∷ [])), length-append (flat_map spelled_exception entries) (0 ∷ 0 ∷ []), entries_spelled entries)

pub record CodeMade (version : ℕ) (pool after : List PoolEntry) (attributes : List Attribute) (lines : Coded) : Type 0 where
  pub is : (more : List PoolEntry) → Extends after more → HasCode more attributes lines
  pub grown : Grown pool after
  pub sound : (more : List PoolEntry) → Extends after more → attributes_agree kind_in_method (content_is_sound version more) more [] attributes ≡ true
  pub fits : counted_fits attribute_fits attributes ≡ true

-- the start of a method's instructions, by the labels of its lines
starts_near : (version : ℕ) (body : List Numbered) (ms : List Made) → AllByRecursion (IsMade version body) ms → (place : ℕ) → is_start (map (placed_of body) ms) place ≡ true → place ≤ 65535
starts_near version body [] each place h = absurd cc
starts_near version body (m ∷ ms) each place h =
    ⊎_elim (λ e. let room = each.0.room in let is = eqb-true m.pc place e in omega arith) (starts_near version body ms each.1 place) (or_cases (m.pc == place) (is_start (map (placed_of body) ms) place) h)

-- that an attribute named Code holds code
code_named : (code : CodeAttr) (name : List ℕ) → name ≡ codes "Code" → is_of_kind (kind_after kind_in_method [] name) (content.Code code) ≡ true
code_named code name is = ap (λ (n : List ℕ). is_of_kind (kind_after kind_in_method [] n) (content.Code code)) is

-- code whose instructions are those of lines has no fault
module _ (version : ℕ) (body : List Numbered) (end : ℕ) (form : AreOfForm body) (place : misplaced end Place.Inside body ≡ None) (right : mislabelled body 0 body ≡ None) where
  method_code : (stack locals number : ℕ) (pool : List PoolEntry) (made : List PoolEntry × List Attribute) → stack ≤ 65535 → locals ≤ 65535 → length pool ≤ 65534 → code_made version stack locals body number pool ≡ Ok made → CodeMade version pool made.0 made.1 (record { stack = stack; locals = locals; body = body })
  method_code stack locals number pool made le le' few h =
      let a = then_parts (text_made number (codes "Code") pool) _ made h in
      let n = made_text number (codes "Code") pool a.value refl a.first in
      let b = then_parts (steps_made version body 0 body a.value.0) _ made a.after in
      let s = steps_are version body end body 0 a.value.0 b.value (omega arith) n.grown.few form place right b.first in
      let c = then_parts (entries_made body 0 body b.value.0) _ made b.after in
      let insns : List Placed = map (placed_of body) s.made in
      let near : AreNear body = record { near = λ name to found. starts_near version body s.made s.each to (s.labels name to found) } in
      let grown = linked_grown version body 0 a.value.0 b.value.0 s.made n.grown.few s.each s.linked in
      let code : List ℕ = b.value.1 in
      let l = entries_are version body near code insns s.labels end body 0 0 b.value.0 c.value (omega arith) grown.few form place right c.first in
      let entries : List ExceptionEntry = c.value.1 in
      let guards : List Guard = guards_in body in
      let attr : CodeAttr = code_of stack locals code entries in
      let some = s.some in
      let room = s.room in
      let short : length code ≤ 65535 = omega arith in
      let few_entries : length entries ≤ 65535 = (let r = l.room in omega arith) in
      let sized : is_sized code ≡ true = and_from (nat_le 1 (length code)) (nat_lt (length code) 65536) (le-leb 1 (length code) (omega arith)) (lt-ltb (length code) 65536 (omega arith)) in
      let are : instructions code ≡ Ok insns = instructions_are version body near code (length code) 0 a.value.0 b.value.0 s.made s.each s.linked s.is (omega arith) (omega arith) in
      let leads : first_failing (placed_leads_well code insns) insns ≡ None = leads_are version body near code insns s.labels 0 a.value.0 b.value.0 s.made s.each s.linked s.is in
      let fault : (more : List PoolEntry) → Extends c.value.0 more → code_fault version more attr ≡ None = λ more x.
      let operands : first_failing (λ p. has_operand version more p.insn) insns ≡ None = operands_are version body 0 a.value.0 b.value.0 more s.made s.each s.linked (extends-further b.value.0 c.value.0 more l.grown.grows x) in
      cond-true (is_sized code) (fault_among version more attr (instructions code)) (Some 0) sized
      ∙ ap (fault_among version more attr) are
      ∙ ap (λ (o : Option ℕ). or_else o (or_else (first_failing (placed_leads_well code insns) insns) (first_stray code insns entries))) operands
      ∙ ap (λ (o : Option ℕ). or_else o (first_stray code insns entries)) leads
      ∙ none_astray version body near code insns s.labels more entries guards (l.each more x) in
      let attribute : Attribute = record { name = a.value.1; content = content.Code attr } in
      let same : (c.value.0, attribute ∷ []) ≡ made = same_ok (c.value.0, attribute ∷ []) made c.after in
      let to_after = extends-further a.value.0 b.value.0 c.value.0 grown.grows l.grown.grows in
      subst (λ (m : List PoolEntry × List Attribute). CodeMade version pool m.0 m.1 (record { stack = stack; locals = locals; body = body })) same (record {
        is = λ more x. record {
          name = a.value.1;
          code = attr;
          are = refl;
          named = text_stays a.value.0 more (extends-further a.value.0 c.value.0 more to_after x) a.value.1 (codes "Code") n.names;
          is = record {
            insns = insns;
            decoded = are;
            steps = steps_mean version body near code 0 a.value.0 b.value.0 more s.made (steps_in body) s.each s.linked (extends-further b.value.0 c.value.0 more l.grown.grows x) s.is s.says;
            places = in_row version body 0 a.value.0 b.value.0 s.made (steps_in body) s.each s.linked s.says;
            short = short;
            entries = all_guards version body near code insns s.labels more entries guards (l.each more x);
            most_stack = refl;
            most_locals = refl;
            attributes = refl;
          };
        };
        grown = grown_further pool a.value.0 c.value.0 n.grown (grown_further a.value.0 b.value.0 c.value.0 grown l.grown);
        sound = λ more x. agrees more a.value.1 attr (text_stays a.value.0 more (extends-further a.value.0 c.value.0 more to_after x) a.value.1 (codes "Code") n.names)
            (all_caught version body near code insns s.labels more entries guards (l.each more x)) (fault more x) refl;
        fits = fit a.value.1 attr (index_fits a.value.0 n.grown.few a.value.1 (text_within a.value.0 a.value.1 (codes "Code") n.names))
            (whole stack locals code entries le le' short (ap are_bytes s.is ∙ code_bytes version body s.made near s.each) few_entries (all_entries_fit version body near code insns s.labels c.value.0 entries guards (l.each c.value.0 (extends-itself c.value.0))));
      })
    where
      agrees : (more : List PoolEntry) (name : ℕ) (c : CodeAttr) → text_at more name ≡ Some (codes "Code") → list_all (λ (e : ExceptionEntry). is_class_or_none more e.catch_type) c.entries ≡ true → code_fault version more c ≡ None
          → c.attributes ≡ [] → attributes_agree kind_in_method (content_is_sound version more) more [] (record { name = name; content = content.Code c } ∷ []) ≡ true
      agrees more name c named caught fault none =
          and_from (is_some_that (λ n. is_of_kind (kind_after kind_in_method [] n) (content.Code c)) (text_at more name)) (code_is_sound version more c && true)
          (ap (is_some_that (λ n. is_of_kind (kind_after kind_in_method [] n) (content.Code c))) named)
          (and_from (code_is_sound version more c) true
          (and_from (list_all (λ (e : ExceptionEntry). is_class_or_none more e.catch_type) c.entries) (list_all (code_attribute_is_sound more) c.attributes && is_none (code_fault version more c)) caught
          (and_from (list_all (code_attribute_is_sound more) c.attributes) (is_none (code_fault version more c)) (ap (list_all (code_attribute_is_sound more)) none) (ap is_none fault))) refl)

      whole : (stack locals : ℕ) (bytes : List ℕ) (entries : List ExceptionEntry) → stack ≤ 65535 → locals ≤ 65535 → length bytes ≤ 65535 → are_bytes bytes ≡ true → length entries ≤ 65535 → list_all exception_fits entries ≡ true
          → (is_u4 (length (spelled_content (content.Code (code_of stack locals bytes entries)))) && code_fits (code_of stack locals bytes entries)) ≡ true
      whole stack locals bytes entries s l b are few each =
          let size = code_spelled stack locals bytes entries in
          let c : CodeAttr = code_of stack locals bytes entries in
          let table : Bool = counted_fits exception_fits entries && counted_fits code_attribute_fits [] in
          and_from (is_u4 (length (spelled_content (content.Code c)))) (code_fits c) (lt-ltb (length (spelled_content (content.Code c))) 4294967296 (omega arith))
          (and_from (is_u2 stack) (is_u2 locals && (is_u4 (length bytes) && (are_bytes bytes && table))) (lt-ltb stack 65536 (omega arith))
          (and_from (is_u2 locals) (is_u4 (length bytes) && (are_bytes bytes && table)) (lt-ltb locals 65536 (omega arith))
          (and_from (is_u4 (length bytes)) (are_bytes bytes && table) (lt-ltb (length bytes) 4294967296 (omega arith))
          (and_from (are_bytes bytes) table are
          (and_from (counted_fits exception_fits entries) true (and_from (is_u2 (length entries)) (list_all exception_fits entries) (lt-ltb (length entries) 65536 (omega arith)) each) refl)))))

      fit : (name : ℕ) (c : CodeAttr) → is_u2 name ≡ true → (is_u4 (length (spelled_content (content.Code c))) && code_fits c) ≡ true → counted_fits attribute_fits (record { name = name; content = content.Code c } ∷ []) ≡ true
      fit name c n w = and_from (attribute_fits (record { name = name; content = content.Code c })) true (and_from (is_u2 name) (is_u4 (length (spelled_content (content.Code c))) && code_fits c) n w) refl

-- ---- heads

pub record MadeHead (pool after : List PoolEntry) (name descriptor : ℕ) (head : MemberHead) : Type 0 where
  pub grown : Grown pool after
  pub name_is : text_at after name ≡ Some head.name
  pub descriptor_is : text_at after descriptor ≡ Some head.descriptor

made_head : (number : ℕ) (head : MemberHead) (pool : List PoolEntry) (made : List PoolEntry × (ℕ × ℕ)) → is_utf8 head.name ≡ true → is_utf8 head.descriptor ≡ true → head_made number head pool ≡ Ok made → MadeHead pool made.0 made.1.0 made.1.1 head
made_head number head pool made u v h =
    let a = then_parts (text_made number head.name pool) _ made h in
    let n = made_text number head.name pool a.value u a.first in
    let b = then_parts (text_made number head.descriptor a.value.0) _ made a.after in
    let d = made_text number head.descriptor a.value.0 b.value v b.first in
    let same : (b.value.0, (a.value.1, b.value.1)) ≡ made = same_ok (b.value.0, (a.value.1, b.value.1)) made b.after in
    subst (λ (m : List PoolEntry × (ℕ × ℕ)). MadeHead pool m.0 m.1.0 m.1.1 head) same (record {
      grown = grown_further pool a.value.0 b.value.0 n.grown d.grown;
      name_is = text_stays a.value.0 b.value.0 d.grown.grows a.value.1 head.name n.names;
      descriptor_is = d.names;
    })

-- the member of a head, with what follows it
abbrev member_of : MemberHead → ℕ → ℕ → List Attribute → Member
member_of head name descriptor attributes = record { flags = record { 0 = head.flags }; name = name; descriptor = descriptor; attributes = attributes }

head_fits : (pool : List PoolEntry) (head : MemberHead) (name descriptor : ℕ) (attributes : List Attribute) → length pool ≤ 65534 → head.flags ≤ 65535 → text_at pool name ≡ Some head.name → text_at pool descriptor ≡ Some head.descriptor
    → counted_fits attribute_fits attributes ≡ true → member_fits (member_of head name descriptor attributes) ≡ true
head_fits pool head name descriptor attributes few flags n d a =
    and_from (is_u2 head.flags) (is_u2 name && (is_u2 descriptor && counted_fits attribute_fits attributes)) (lt-ltb head.flags 65536 (omega arith))
    (and_from (is_u2 name) (is_u2 descriptor && counted_fits attribute_fits attributes) (index_fits pool few name (text_within pool name head.name n))
    (and_from (is_u2 descriptor) (counted_fits attribute_fits attributes) (index_fits pool few descriptor (text_within pool descriptor head.descriptor d)) a))

-- ---- members

-- a field is sound in a pool, and is that of its line; and so is a method
pub record FieldIn (version : ℕ) (pool : List PoolEntry) (m : Member) (head : MemberHead) : Type 0 where
  pub sound : field_is_sound version pool m ≡ true
  pub fits : member_fits m ≡ true
  pub is : IsField pool m head

pub record MethodIn (version : ℕ) (pool : List PoolEntry) (m : Member) (lines : MethodLines) : Type 0 where
  pub sound : method_is_sound version pool m ≡ true
  pub fits : member_fits m ≡ true
  pub is : IsMethod pool m lines

few_slots : (head : MemberHead) → takes_few head ≡ true → is_method_descriptor_with (receiver_slots head.flags) head.descriptor ≡ true
unfolding takes_few
few_slots head h = h

named_index : (more : List PoolEntry) (name : ℕ) (text : List ℕ) → text_at more name ≡ Some text → is_member_name text ≡ true → is_name_index more name ≡ true
named_index more name text is h = ap (is_some_that is_member_name) is ∙ h

named_of : {pool : List PoolEntry} (after more : List PoolEntry) → Extends after more → (head : MemberHead) (name descriptor : ℕ) (attributes : List Attribute) → MadeHead pool after name descriptor head → IsNamed more (member_of head name descriptor attributes) head
named_of after more x head name descriptor attributes k = record { name = text_stays after more x name head.name k.name_is; descriptor = text_stays after more x descriptor head.descriptor k.descriptor_is; flags = refl }

module _ (version : ℕ) where
  one_made : {X Y : Type 0} (Holds : List PoolEntry → X → Y → Type 0) (pool : List PoolEntry) (made : Making X) (item : Y) (result : List PoolEntry × Option X) → ((m : List PoolEntry × X) → made ≡ Ok m → Grown pool m.0 × ((more : List PoolEntry) → Extends m.0 more → Holds more m.1 item))
      → one_of made ≡ Ok result → OneMade Holds pool result.0 result.1 (Some item)
  one_made Holds pool made item result f h =
      let t = then_parts made (λ x. Ok (x.0, Some x.1)) result h in
      let k = f t.value t.first in
      let same : (t.value.0, Some t.value.1) ≡ result = same_ok (t.value.0, Some t.value.1) result t.after in
      subst (λ (m : List PoolEntry × Option _). OneMade Holds pool m.0 m.1 (Some item)) same (record { grown = k.0; holds = λ more x. (k.1 more x, tt) })

  field_of : (number : ℕ) (head : MemberHead) (pool : List PoolEntry) (made : List PoolEntry × Member) → is_line (Line.Field head) ≡ true → bare_made number head pool ≡ Ok made → Grown pool made.0 × ((more : List PoolEntry) → Extends made.0 more → FieldIn version more made.1 head)
  field_of number head pool made form h =
      let f = field_form head form in
      let t = then_parts (head_made number head pool) _ made h in
      let k = made_head number head pool t.value (member_utf8 head.name f.name) (field_utf8 head.descriptor f.descriptor) t.first in
      let m : Member = member_of head t.value.1.0 t.value.1.1 [] in
      let same : (t.value.0, m) ≡ made = same_ok (t.value.0, m) made t.after in
      subst (λ (x : List PoolEntry × Member). Grown pool x.0 × ((more : List PoolEntry) → Extends x.0 more → FieldIn version more x.1 head)) same (
        k.grown,
        λ more x. record {
          is = record { named = named_of t.value.0 more x head t.value.1.0 t.value.1.1 [] k; attributes = refl };
          sound = and_from (is_name_index more m.name) (is_some_that is_field_descriptor (text_at more m.descriptor) && true) (named_index more m.name head.name (text_stays t.value.0 more x m.name head.name k.name_is) f.name)
              (and_from (is_some_that is_field_descriptor (text_at more m.descriptor)) true (ap (is_some_that is_field_descriptor) (text_stays t.value.0 more x m.descriptor head.descriptor k.descriptor_is) ∙ f.descriptor) refl);
          fits = head_fits t.value.0 head m.name m.descriptor [] k.grown.few f.flags k.name_is k.descriptor_is refl;
        },
      )

  method_sound_of : (more : List PoolEntry) (head : MemberHead) (name descriptor : ℕ) (attributes : List Attribute) → text_at more name ≡ Some head.name → text_at more descriptor ≡ Some head.descriptor → is_member_name head.name ≡ true → takes_few head ≡ true
      → attributes_agree kind_in_method (content_is_sound version more) more [] attributes ≡ true → method_is_sound version more (member_of head name descriptor attributes) ≡ true
  method_sound_of more head name descriptor attributes n d m few a =
      let describes : List ℕ → Bool = is_method_descriptor_with (receiver_slots head.flags) in
      and_from (is_name_index more name) (is_some_that describes (text_at more descriptor) && attributes_agree kind_in_method (content_is_sound version more) more [] attributes) (named_index more name head.name n m)
      (and_from (is_some_that describes (text_at more descriptor)) (attributes_agree kind_in_method (content_is_sound version more) more [] attributes) (ap (is_some_that describes) d ∙ few_slots head few) a)

  bare_of : (number : ℕ) (head : MemberHead) (pool : List PoolEntry) (made : List PoolEntry × Member) → is_line (Line.Bare head) ≡ true → bare_made number head pool ≡ Ok made → Grown pool made.0 × ((more : List PoolEntry) → Extends made.0 more → MethodIn version more made.1 (record { head = head; code = None }))
  bare_of number head pool made form h =
      let g = bare_form head form in
      let f = g.0 in
      let t = then_parts (head_made number head pool) _ made h in
      let k = made_head number head pool t.value (member_utf8 head.name f.name) (method_utf8 0 head.descriptor f.descriptor) t.first in
      let m : Member = member_of head t.value.1.0 t.value.1.1 [] in
      let same : (t.value.0, m) ≡ made = same_ok (t.value.0, m) made t.after in
      subst (λ (x : List PoolEntry × Member). Grown pool x.0 × ((more : List PoolEntry) → Extends x.0 more → MethodIn version more x.1 (record { head = head; code = None }))) same (
        k.grown,
        λ more x. record {
          is = record { named = named_of t.value.0 more x head t.value.1.0 t.value.1.1 [] k; body = refl };
          sound = method_sound_of more head m.name m.descriptor [] (text_stays t.value.0 more x m.name head.name k.name_is) (text_stays t.value.0 more x m.descriptor head.descriptor k.descriptor_is) f.name g.1 refl;
          fits = head_fits t.value.0 head m.name m.descriptor [] k.grown.few f.flags k.name_is k.descriptor_is refl;
        },
      )

  method_of : (body : List Numbered) (end number : ℕ) (head : MemberHead) (stack locals : ℕ) (pool : List PoolEntry) (made : List PoolEntry × Member) → AreOfForm body → misplaced end Place.Inside body ≡ None → mislabelled body 0 body ≡ None
      → is_line (Line.Method head stack locals) ≡ true → method_made version body number head stack locals pool ≡ Ok made → Grown pool made.0 × ((more : List PoolEntry) → Extends made.0 more → MethodIn version more made.1 (record { head = head; code = Some (record { stack = stack; locals = locals; body = body }) }))
  method_of body end number head stack locals pool made are place right form h =
      let g = method_form head stack locals form in
      let f = g.0 in
      let t = then_parts (head_made number head pool) _ made h in
      let k = made_head number head pool t.value (member_utf8 head.name f.name) (method_utf8 0 head.descriptor f.descriptor) t.first in
      let u = then_parts (code_made version stack locals body number t.value.0) _ made t.after in
      let c = method_code version body end are place right stack locals number t.value.0 u.value g.2 g.3 k.grown.few u.first in
      let m : Member = member_of head t.value.1.0 t.value.1.1 u.value.1 in
      let same : (u.value.0, m) ≡ made = same_ok (u.value.0, m) made u.after in
      subst (λ (x : List PoolEntry × Member). Grown pool x.0 × ((more : List PoolEntry) → Extends x.0 more → MethodIn version more x.1 (record { head = head; code = Some (record { stack = stack; locals = locals; body = body }) }))) same (
        grown_further pool t.value.0 u.value.0 k.grown c.grown,
        λ more x.
            let on = extends-further t.value.0 u.value.0 more c.grown.grows x in
            record {
              is = record { named = named_of t.value.0 more on head t.value.1.0 t.value.1.1 u.value.1 k; body = c.is more x };
              sound = method_sound_of more head m.name m.descriptor u.value.1 (text_stays t.value.0 more on m.name head.name k.name_is) (text_stays t.value.0 more on m.descriptor head.descriptor k.descriptor_is) f.name g.1 (c.sound more x);
              fits = head_fits t.value.0 head m.name m.descriptor u.value.1 k.grown.few f.flags k.name_is k.descriptor_is c.fits;
            },
      )

-- ---- the lines of a class

abbrev none_of : {X : Type 0} → List PoolEntry → Making (Option X)
none_of pool = Ok (pool, None)

nothing_of : {X Y : Type 0} (Holds : List PoolEntry → X → Y → Type 0) (pool : List PoolEntry) (made : List PoolEntry × Option X) → length pool ≤ 65534 → none_of pool ≡ Ok made → OneMade Holds pool made.0 made.1 None
nothing_of Holds pool made few h = subst (λ (m : List PoolEntry × Option _). OneMade Holds pool m.0 m.1 None) (same_ok (pool, None) made h) (nothing_made Holds pool few)

line_field : (version number : ℕ) (o : Option Line) (pool : List PoolEntry) (made : List PoolEntry × Option Member) → OfForm o → length pool ≤ 65534 → field_made number o pool ≡ Ok made → OneMade (FieldIn version) pool made.0 made.1 (field_in o)
line_field version number (Some (Line.Field head)) pool made form few h = one_made version (FieldIn version) pool (bare_made number head pool) head made (λ m e. field_of version number head pool m form e) h
line_field version number (Some (Line.Class name super v flags interfaces)) pool made form few h = nothing_of (FieldIn version) pool made few h
line_field version number (Some (Line.Method head stack locals)) pool made form few h = nothing_of (FieldIn version) pool made few h
line_field version number (Some (Line.Bare head)) pool made form few h = nothing_of (FieldIn version) pool made few h
line_field version number (Some (Line.Step label o)) pool made form few h = nothing_of (FieldIn version) pool made few h
line_field version number (Some (Line.Catch from to handler class)) pool made form few h = nothing_of (FieldIn version) pool made few h
line_field version number (Some Line.End) pool made form few h = nothing_of (FieldIn version) pool made few h
line_field version number None pool made form few h = nothing_of (FieldIn version) pool made few h

-- the fields of the lines
pub fields_are : (version count : ℕ) (lines : List Numbered) (pool : List PoolEntry) (made : List PoolEntry × List Member) → count ≤ 65535 → length pool ≤ 65534 → AreOfForm lines → fields_made count lines pool ≡ Ok made → Lists (FieldIn version) pool made.0 count made.1 (fields_in lines)
fields_are version count [] pool made le few form h =
    let same : (pool, []) ≡ made = same_ok (pool, []) made h in
    subst (λ (m : List PoolEntry × List Member). Lists (FieldIn version) pool m.0 count m.1 []) same (none_left (FieldIn version) pool count few le)
fields_are version count (line ∷ lines) pool made le few form h =
    let t = then_parts (field_made line.number line.line pool) _ made h in
    let o = line_field version line.number line.line pool t.value form.0 few t.first in
    let c = counted_parts line.number count t.value.1 (fields_made (count_with count t.value.1) lines t.value.0) made le t.after in
    let rest = fields_are version (count_with count t.value.1) lines t.value.0 c.rest c.room o.grown.few form.1 c.next in
    subst (λ (m : List PoolEntry × List Member). Lists (FieldIn version) pool m.0 count m.1 (fields_in (line ∷ lines))) c.is (with_one (FieldIn version) pool t.value.0 c.rest.0 count t.value.1 (field_in line.line) c.rest.1 (fields_in lines) o rest)

line_method : (version : ℕ) (body : List Numbered) (end number : ℕ) (o : Option Line) (pool : List PoolEntry) (made : List PoolEntry × Option Member) → OfForm o → AreOfForm body → length pool ≤ 65534
    → ((head : MemberHead) (stack locals : ℕ) → o ≡ Some (Line.Method head stack locals) → (misplaced end Place.Inside body ≡ None) × (mislabelled body 0 body ≡ None))
    → any_method_made version body number o pool ≡ Ok made → OneMade (MethodIn version) pool made.0 made.1 (method_in o body)
line_method version body end number (Some (Line.Method head stack locals)) pool made form are few inside h =
    let p = inside head stack locals refl in
    one_made version (MethodIn version) pool (method_made version body number head stack locals pool) (record { head = head; code = Some (record { stack = stack; locals = locals; body = body }) }) made (λ m e. method_of version body end number head stack locals pool m are p.0 p.1 form e) h
line_method version body end number (Some (Line.Bare head)) pool made form are few inside h = one_made version (MethodIn version) pool (bare_made number head pool) (record { head = head; code = None }) made (λ m e. bare_of version number head pool m form e) h
line_method version body end number (Some (Line.Class name super v flags interfaces)) pool made form are few inside h = nothing_of (MethodIn version) pool made few h
line_method version body end number (Some (Line.Field head)) pool made form are few inside h = nothing_of (MethodIn version) pool made few h
line_method version body end number (Some (Line.Step label o)) pool made form are few inside h = nothing_of (MethodIn version) pool made few h
line_method version body end number (Some (Line.Catch from to handler class)) pool made form are few inside h = nothing_of (MethodIn version) pool made few h
line_method version body end number (Some Line.End) pool made form are few inside h = nothing_of (MethodIn version) pool made few h
line_method version body end number None pool made form are few inside h = nothing_of (MethodIn version) pool made few h

-- the lines behind one have their own places and labels, which are right
pub record Behind (end : ℕ) (lines : List Numbered) : Type 0 where
  pub body : List Numbered
  pub pc : ℕ
  pub right : mislabelled body pc lines ≡ None

pub right_behind : (end : ℕ) (body : List Numbered) (pc number : ℕ) (o : Option Line) (lines : List Numbered) → mislabelled body pc (record { number = number; line = o } ∷ lines) ≡ None
    → Behind end lines × ((head : MemberHead) (stack locals : ℕ) → o ≡ Some (Line.Method head stack locals) → mislabelled lines 0 lines ≡ None)
right_behind end body pc number (Some (Line.Method head stack locals)) lines h = (record { body = lines; pc = 0; right = h }, λ head stack locals e. h)
right_behind end body pc number (Some (Line.Class name super v flags interfaces)) lines h = (record { body = body; pc = pc; right = h }, λ head stack locals e. absurd cc)
right_behind end body pc number (Some (Line.Field head)) lines h = (record { body = body; pc = pc; right = h }, λ head stack locals e. absurd cc)
right_behind end body pc number (Some (Line.Bare head)) lines h = (record { body = body; pc = pc; right = h }, λ head stack locals e. absurd cc)
right_behind end body pc number (Some (Line.Step label o)) lines h =
    let r = if_none (is_right body pc (Some (Line.Step label o))) (mislabelled body (place_behind pc (Some (Line.Step label o))) lines) number h in
    (record { body = body; pc = place_behind pc (Some (Line.Step label o)); right = r.1 }, λ head stack locals e. absurd cc)
right_behind end body pc number (Some (Line.Catch from to handler class)) lines h =
    let r = if_none (is_right body pc (Some (Line.Catch from to handler class))) (mislabelled body pc lines) number h in
    (record { body = body; pc = pc; right = r.1 }, λ head stack locals e. absurd cc)
right_behind end body pc number (Some Line.End) lines h =
    let r = if_none (is_right body pc (Some Line.End)) (mislabelled body pc lines) number h in
    (record { body = body; pc = pc; right = r.1 }, λ head stack locals e. absurd cc)
right_behind end body pc number None lines h = (record { body = body; pc = pc; right = h }, λ head stack locals e. absurd cc)

pub place_behind_method : (end number : ℕ) (place : Place) (o : Option Line) (lines : List Numbered) → misplaced end (place_after place o) lines ≡ None → (head : MemberHead) (stack locals : ℕ) → o ≡ Some (Line.Method head stack locals) → misplaced end Place.Inside lines ≡ None
place_behind_method end number place o lines h head stack locals is = ap (λ (o : Option Line). misplaced end (place_after place o) lines) (sym is) ∙ h

-- the methods of the lines
pub methods_are : (version end : ℕ) (place : Place) (body : List Numbered) (pc count : ℕ) (lines : List Numbered) (pool : List PoolEntry) (made : List PoolEntry × List Member) → count ≤ 65535 → length pool ≤ 65534 → AreOfForm lines
    → misplaced end place lines ≡ None → mislabelled body pc lines ≡ None → methods_made version count lines pool ≡ Ok made → Lists (MethodIn version) pool made.0 count made.1 (methods_in lines)
methods_are version end place body pc count [] pool made le few form placed right h =
    let same : (pool, []) ≡ made = same_ok (pool, []) made h in
    subst (λ (m : List PoolEntry × List Member). Lists (MethodIn version) pool m.0 count m.1 []) same (none_left (MethodIn version) pool count few le)
methods_are version end place body pc count (line ∷ lines) pool made le few form placed right h =
    let p = if_none (stands place line.line) (misplaced end (place_after place line.line) lines) line.number placed in
    let r = right_behind end body pc line.number line.line lines right in
    let t = then_parts (any_method_made version lines line.number line.line pool) _ made h in
    let o = line_method version lines end line.number line.line pool t.value form.0 form.1 few (λ head stack locals is. (place_behind_method end line.number place line.line lines p.1 head stack locals is, r.1 head stack locals is)) t.first in
    let c = counted_parts line.number count t.value.1 (methods_made version (count_with count t.value.1) lines t.value.0) made le t.after in
    let rest = methods_are version end (place_after place line.line) r.0.body r.0.pc (count_with count t.value.1) lines t.value.0 c.rest c.room o.grown.few form.1 p.1 r.0.right c.next in
    subst (λ (m : List PoolEntry × List Member). Lists (MethodIn version) pool m.0 count m.1 (methods_in (line ∷ lines))) c.is (with_one (MethodIn version) pool t.value.0 c.rest.0 count t.value.1 (method_in line.line lines) c.rest.1 (methods_in lines) o rest)
