-- The members of a class that came from lines are written as those lines were, with the labels of places.
use Rattle.std.proofs.Common.{◌≡◌, ℕ, ◌+◌, ◌≤◌, Bool, true, ◌&&◌, List, [], ◌∷◌, ◌++◌, length, map, Option, Some, None, Ok, refl, sym, ap, subst, ◌∙◌, arith}
use Rattle.std.specs.Prelude.{if◌then◌else◌, nat_le}
use Rattle.std.specs.List.{AllByRecursion, AllZip, flat_map}
use Rattle.std.proofs.lemmas.Bool.{and_parts, lt-ltb}
use Rattle.std.proofs.lemmas.List.{append-nil, map-append}
use Rattle.class_file.specs.declared.pool.PoolEntry.{PoolEntry}
use Rattle.class_file.specs.declared.types.CodeAttr.{CodeAttr}
use Rattle.class_file.specs.declared.types.CodeAttribute.{CodeAttribute}
use Rattle.class_file.specs.declared.types.Member.{Member}
use Rattle.class_file.specs.declared.types.Attribute.{Attribute}
use Rattle.class_file.specs.declared.types.Content.TheVariants as content
use Rattle.class_file.specs.Code.{Placed, instructions}
use Rattle.class_lines.specs.declared.line.Line.{Line}
use Rattle.class_lines.specs.declared.line.MemberHead.{MemberHead}
use Rattle.class_lines.specs.Words.{Text, fits}
use Rattle.class_lines.specs.Heads.{takes_few}
use Rattle.class_lines.specs.Lines.{is_head, is_line}
use Rattle.class_lines.proofs.WordKinds.{Kind, member_kind, field_kind, method_kind}
use Rattle.class_text.proofs.NumberedLines.{NumberedLine as Numbered}
use Rattle.class_text.specs.Meaning.{Coded, MethodLines, fields_in, methods_in, IsNamed, IsField, HasCode, HasBody, IsMethod}
use Rattle.class_text.proofs.Steps.{OfForm, AreOfForm}
use Rattle.class_text.proofs.SameFile.{AreFields, Block, Blocks}
use Rattle.class_listing.specs.declared.listed.Listed.{Listed}
use Rattle.class_listing.specs.Names.{text_shown}
use Rattle.class_listing.specs.Steps.{lines_of, found, insns_of}
use Rattle.class_listing.specs.Listing.{attribute, code_attribute, body, method_attribute, head, field, code_of, method_line, method}
use Rattle.class_listing.proofs.Labels.{label_of, apart}
use Rattle.class_listing.proofs.Shown.{text_is}
use Rattle.class_listing.proofs.Bodies.{from_number, behind, numbers_append, AreGood, good_append, body_lines, body_is, body_good}

-- ---- heads

abbrev HeadIs : Kind → MemberHead → Type 0
HeadIs kind h = is_head kind h ≡ true

head_is : (kind : Kind) (pool : List PoolEntry) (m : Member) (h : MemberHead) → HeadIs kind h → IsNamed pool m h → head pool m ≡ h
head_is kind pool m h form n =
    let p = and_parts (fits member_kind h.name) (fits kind h.descriptor && nat_le h.flags 65535) form in
    let q = and_parts (fits kind h.descriptor) (nat_le h.flags 65535) p.1 in
    ap (λ (x : Text). let k : MemberHead = record { name = x; descriptor = text_shown pool m.descriptor; flags = m.flags.0 } in k) (text_is member_kind pool m.name h.name p.0 n.name)
    ∙ ap (λ (x : Text). let k : MemberHead = record { name = h.name; descriptor = x; flags = m.flags.0 } in k) (text_is kind pool m.descriptor h.descriptor q.0 n.descriptor)
    ∙ ap (λ (x : ℕ). let k : MemberHead = record { name = h.name; descriptor = h.descriptor; flags = x } in k) n.flags

-- ---- what the lines of members are like

abbrev FieldForms : List MemberHead → Type 0
FieldForms heads = AllByRecursion (λ (h : MemberHead). is_line (Line.Field h) ≡ true) heads

fields_formed : (lines : List Numbered) → AreOfForm lines → FieldForms (fields_in lines)
fields_formed [] form = tt
fields_formed (l ∷ lines) form = by l.line form.0 (fields_formed lines form.1)
  where
    by : (o : Option Line) → OfForm o → FieldForms (fields_in lines) → FieldForms (fields_in (record { number = l.number; line = o } ∷ lines))
    by (Some (Line.Field head)) h rest = (h, rest)
    by (Some (Line.Step label o)) h rest = rest
    by (Some (Line.Catch from to handler class)) h rest = rest
    by (Some Line.End) h rest = rest
    by (Some (Line.Class name super v flags interfaces)) h rest = rest
    by (Some (Line.Method head stack locals)) h rest = rest
    by (Some (Line.Bare head)) h rest = rest
    by None h rest = rest

abbrev MethodForm : MemberHead → Option Coded → Type 0
MethodForm h None = is_line (Line.Bare h) ≡ true
MethodForm h (Some c) = (is_line (Line.Method h c.stack c.locals) ≡ true) × AreOfForm c.body

abbrev MethodForms : List MethodLines → Type 0
MethodForms items = AllByRecursion (λ (m : MethodLines). MethodForm m.head m.code) items

methods_formed : (lines : List Numbered) → AreOfForm lines → MethodForms (methods_in lines)
methods_formed [] form = tt
methods_formed (l ∷ lines) form = by l.line form.0 (methods_formed lines form.1)
  where
    by : (o : Option Line) → OfForm o → MethodForms (methods_in lines) → MethodForms (methods_in (record { number = l.number; line = o } ∷ lines))
    by (Some (Line.Method head stack locals)) h rest = ((h, form.1), rest)
    by (Some (Line.Bare head)) h rest = (h, rest)
    by (Some (Line.Field head)) h rest = rest
    by (Some (Line.Step label o)) h rest = rest
    by (Some (Line.Catch from to handler class)) h rest = rest
    by (Some Line.End) h rest = rest
    by (Some (Line.Class name super v flags interfaces)) h rest = rest
    by None h rest = rest

-- ---- fields

pub record FieldLines (pool : List PoolEntry) (fields : List Member) (heads : List MemberHead) : Type 0 where
  pub lines : List Line
  pub are : flat_map (field pool) fields ≡ map Listed.Line lines
  pub good : AreGood lines
  pub of_heads : (n : ℕ) → AreFields heads (from_number n lines)

fields_with : (pool : List PoolEntry) (fields : List Member) (heads : List MemberHead) → FieldForms heads → AllZip (IsField pool) fields heads → FieldLines pool fields heads
fields_with pool [] [] form each = record { lines = []; are = refl; good = tt; of_heads = λ n. tt }
fields_with pool [] (h ∷ heads) form each = absurd each
fields_with pool (m ∷ fields) [] form each = absurd each
fields_with pool (m ∷ fields) (h ∷ heads) form each =
    let rest = fields_with pool fields heads form.1 each.1 in
    let one : field pool m ≡ Listed.Line (Line.Field h) ∷ [] =
    ap (λ (l : List Attribute). Listed.Line (Line.Field (head pool m)) ∷ map (attribute pool) l) each.0.attributes
    ∙ ap (λ (x : MemberHead). Listed.Line (Line.Field x) ∷ []) (head_is field_kind pool m h form.0 each.0.named) in
    record {
      lines = Line.Field h ∷ rest.lines;
      are = ap (λ (l : List Listed). l ++ flat_map (field pool) fields) one ∙ ap (λ (l : List Listed). Listed.Line (Line.Field h) ∷ l) rest.are;
      good = (record { form = form.0; labels = refl }, rest.good);
      of_heads = λ n. (refl, rest.of_heads (n + 1));
    }

pub fields_listed : (pool : List PoolEntry) (fields : List Member) (lines : List Numbered) → AreOfForm lines → AllZip (IsField pool) fields (fields_in lines) → FieldLines pool fields (fields_in lines)
fields_listed pool fields lines form each = fields_with pool fields (fields_in lines) (fields_formed lines form) each

-- ---- methods

record OneMethod (pool : List PoolEntry) (m : Member) (item : MethodLines) : Type 0 where
  lines : List Line
  are : method pool m ≡ map Listed.Line lines
  good : AreGood lines
  block : (n : ℕ) (rest : List Numbered) → Block label_of apart item.head item.code rest (from_number n lines ++ rest)

bare_head : (h : MemberHead) → is_line (Line.Bare h) ≡ true → HeadIs method_kind h
bare_head h form = (and_parts (is_head method_kind h) (takes_few h) form).0

coded_head : (h : MemberHead) (stack locals : ℕ) → is_line (Line.Method h stack locals) ≡ true → HeadIs method_kind h
coded_head h stack locals form = (and_parts (is_head method_kind h) (takes_few h && (nat_le stack 65535 && nat_le locals 65535)) form).0

bare_method : (pool : List PoolEntry) (m : Member) (h : MemberHead) → is_line (Line.Bare h) ≡ true → IsNamed pool m h → m.attributes ≡ [] → OneMethod pool m (record { head = h; code = None })
bare_method pool m h form n none = record {
  lines = Line.Bare h ∷ [];
  are =
      ap (λ (l : List Attribute). Listed.Line (method_line (head pool m) (code_of l)) ∷ flat_map (λ (a : Attribute). method_attribute pool a a.content) l) none
      ∙ ap (λ (x : MemberHead). Listed.Line (Line.Bare x) ∷ []) (head_is method_kind pool m h (bare_head h form) n);
  good = (record { form = form; labels = refl }, tt);
  block = λ number rest. (record { number = number; line = Some (Line.Bare h) }, refl, refl);
}

insns_are : (code : List ℕ) (insns : List Placed) → length code ≤ 65535 → instructions code ≡ Ok insns → insns_of code ≡ Some insns
insns_are code insns short is = ap (λ (t : Bool). if t then found (instructions code) else None) (lt-ltb (length code) 0x10000 (omega arith)) ∙ ap found is

-- the lines of a Code attribute without attributes of its own
code_listed : (pool : List PoolEntry) (a : Attribute) (c : CodeAttr) (insns : List Placed) → insns_of c.code ≡ Some insns → c.attributes ≡ [] → method_attribute pool a (content.Code c) ≡ map Listed.Line (body_lines pool c insns)
code_listed pool a c insns is none =
    ap (λ (o : Option (List Placed)). body pool a c o ++ Listed.Line Line.End ∷ []) is
    ∙ ap (λ (l : List CodeAttribute). (map Listed.Line (lines_of pool c insns) ++ map (code_attribute pool) l) ++ Listed.Line Line.End ∷ []) none
    ∙ ap (λ (l : List Listed). l ++ Listed.Line Line.End ∷ []) (append-nil (map Listed.Line (lines_of pool c insns)))
    ∙ sym (map-append Listed.Line (lines_of pool c insns) (Line.End ∷ []))

coded_method : (pool : List PoolEntry) (m : Member) (h : MemberHead) (k : Coded) → is_line (Line.Method h k.stack k.locals) ≡ true → AreOfForm k.body → IsNamed pool m h → HasCode pool m.attributes k → OneMethod pool m (record { head = h; code = Some k })
coded_method pool m h k form inner n b =
    let c : CodeAttr = b.code in
    let i = b.is in
    let a : Attribute = record { name = b.name; content = content.Code c } in
    let first : Line = Line.Method h k.stack k.locals in
    let rest : List Line = body_lines pool c i.insns in
    let line : Line.Method (head pool m) c.max_stack c.max_locals ≡ first =
    ap (λ (x : MemberHead). Line.Method x c.max_stack c.max_locals) (head_is method_kind pool m h (coded_head h k.stack k.locals form) n)
    ∙ ap (λ (x : ℕ). Line.Method h x c.max_locals) i.most_stack ∙ ap (Line.Method h k.stack) i.most_locals in
    record {
      lines = first ∷ rest;
      are =
          ap (λ (l : List Attribute). Listed.Line (method_line (head pool m) (code_of l)) ∷ flat_map (λ (a : Attribute). method_attribute pool a a.content) l) b.are
          ∙ ap (λ (x : Line). Listed.Line x ∷ (method_attribute pool a (content.Code c) ++ [])) line
          ∙ ap (λ (l : List Listed). Listed.Line first ∷ l) (append-nil (method_attribute pool a (content.Code c)) ∙ code_listed pool a c i.insns (insns_are c.code i.insns i.short i.decoded) i.attributes);
      good = (record { form = form; labels = refl }, body_good pool k.body k.stack k.locals c inner i);
      block = λ number after. (record { number = number; line = Some first }, from_number (number + 1) rest ++ after, refl, refl, body_is pool k.body k.stack k.locals c inner i (number + 1) after);
    }

one_method : (pool : List PoolEntry) (m : Member) (h : MemberHead) (code : Option Coded) → MethodForm h code → IsNamed pool m h → HasBody pool m.attributes code → OneMethod pool m (record { head = h; code = code })
one_method pool m h None form n b = bare_method pool m h form n b
one_method pool m h (Some k) form n b = coded_method pool m h k form.0 form.1 n b

pub record MethodsListed (pool : List PoolEntry) (methods : List Member) (items : List MethodLines) : Type 0 where
  pub lines : List Line
  pub are : flat_map (method pool) methods ≡ map Listed.Line lines
  pub good : AreGood lines
  pub blocks : (n : ℕ) → Blocks label_of apart items (from_number n lines)

methods_with : (pool : List PoolEntry) (methods : List Member) (items : List MethodLines) → MethodForms items → AllZip (IsMethod pool) methods items → MethodsListed pool methods items
methods_with pool [] [] form each = record { lines = []; are = refl; good = tt; blocks = λ n. refl }
methods_with pool [] (i ∷ items) form each = absurd each
methods_with pool (m ∷ methods) [] form each = absurd each
methods_with pool (m ∷ methods) (i ∷ items) form each =
    let one = one_method pool m i.head i.code form.0 each.0.named each.0.body in
    let rest = methods_with pool methods items form.1 each.1 in
    record {
      lines = one.lines ++ rest.lines;
      are = ap (λ (l : List Listed). l ++ flat_map (method pool) methods) one.are ∙ ap (λ (l : List Listed). map Listed.Line one.lines ++ l) rest.are ∙ sym (map-append Listed.Line one.lines rest.lines);
      good = good_append one.lines rest.lines one.good rest.good;
      blocks = λ n.
          let after : List Numbered = from_number (behind n one.lines) rest.lines in
          (after, subst (λ (l : List Numbered). Block label_of apart i.head i.code after l) (sym (numbers_append n one.lines rest.lines)) (one.block n after), rest.blocks (behind n one.lines));
    }

pub methods_listed : (pool : List PoolEntry) (methods : List Member) (lines : List Numbered) → AreOfForm lines → AllZip (IsMethod pool) methods (methods_in lines) → MethodsListed pool methods (methods_in lines)
methods_listed pool methods lines form each = methods_with pool methods (methods_in lines) (methods_formed lines form) each
