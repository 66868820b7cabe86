-- A class that is made of lines is well-formed (JVMS 4.1).
use Rattle.std.proofs.Common.{◌≡◌, ℕ, suc, ◌+◌, ◌≤◌, Bool, true, ◌&&◌, List, [], ◌∷◌, length, Option, Some, None, Ok, Err, refl, ap, subst, ◌∙◌, arith}
use Rattle.std.specs.Prelude.{nat_lt, nat_le, is_some, Result, IfOk}
use Rattle.std.specs.List.{AllZip, list_all, cons_option}
use Rattle.std.proofs.lemmas.Bool.{and_parts, and_from, or_left, leb-true, ltb-true, lt-ltb}
use Rattle.class_file.specs.declared.pool.PoolEntry.{PoolEntry}
use Rattle.class_file.specs.declared.types.ClassFile.{ClassFile}
use Rattle.class_file.specs.declared.types.Member.{Member}
use Rattle.class_file.specs.Text.{within, is_class_name, is_array_descriptor}
use Rattle.class_file.specs.Pool.{class_at, this_name, super_name}
use Rattle.class_file.specs.Range.{is_u2, pool_fits, counted_fits, attribute_fits, member_fits, is_writable}
use Rattle.class_file.specs.Sound.{is_some_that, pool_is_sound}
use Rattle.class_file.specs.WellFormed.{kind_in_class, attributes_agree, content_is_sound, is_class_index, field_is_sound, method_is_sound, has_known_version, has_sound_names, has_sound_parts, is_well_formed}
use Rattle.class_lines.specs.declared.line.Line.{Line}
use Rattle.class_lines.specs.declared.line.MemberHead.{MemberHead}
use Rattle.class_lines.specs.Words.{◌>>=◌, Text}
use Rattle.class_lines.specs.Recoding.{modified}
use Rattle.class_lines.specs.Heard.{heard}
use Rattle.class_lines.specs.Reading.{read_as}
use Rattle.class_lines.specs.Lines.{is_line}
use Rattle.class_lines.proofs.FormRead.{found_form}
use Rattle.class_lines.proofs.LineForms.{ClassForm, class_line_form, are_names}
use Rattle.constant_pool.specs.Edit.{Extends}
use Rattle.constant_pool.specs.Laws.{extends-itself, extends-further}
use Rattle.constant_pool.specs.Meaning.{class_stays}
use Rattle.class_text.specs.declared.numbered.Numbered.{Numbered}
use Rattle.class_text.specs.declared.order.Place.{Place}
use Rattle.class_text.specs.declared.fault.TextFault.{TextFault}
use Rattle.class_text.specs.Gives.{Gives}
use Rattle.class_text.specs.Order.{misplaced}
use Rattle.class_text.specs.Labels.{mislabelled}
use Rattle.class_text.specs.Pool.{class_made}
use Rattle.class_text.specs.Making.{interfaces_made, all_interfaces_made, fields_made, methods_made, class_file_made, first_made, class_made_of}
use Rattle.class_text.specs.Meaning.{MethodLines, fields_in, methods_in, IsField, IsMethod, Means}
use Rattle.class_text.specs.Texts.{lines, said, line_numbered, numbered}
use Rattle.class_text.specs.ClassOf.{first_of, first_wrong, refused, judged, class_of}
use Rattle.class_text.proofs.Pools.{Sound, sound_empty, sound_pool, pool_fits_from, class_there, index_fits, class_within}
use Rattle.class_text.proofs.Made.{then_parts, if_made, same_ok, Grown, grown_itself, made_class}
use Rattle.class_text.proofs.Steps.{OfForm, AreOfForm, grown_further}
use Rattle.class_text.proofs.SoundMembers.{FieldIn, MethodIn, fields_are, methods_are}

-- ---- interfaces

record Interfaces (pool after : List PoolEntry) (names : List Text) (indices : List ℕ) : Type 0 where
  grown : Grown pool after
  there : (more : List PoolEntry) → Extends after more → list_all (is_class_index more) indices ≡ true
  named : (more : List PoolEntry) → Extends after more → AllZip (λ index name. class_at more index ≡ Some name) indices names
  fit : list_all is_u2 indices ≡ true
  count : length indices ≡ length names

interfaces_are : (number : ℕ) (names : List Text) (pool : List PoolEntry) (made : List PoolEntry × List ℕ) → length pool ≤ 65534 → are_names names ≡ true → interfaces_made number names pool ≡ Ok made → Interfaces pool made.0 names made.1
interfaces_are number [] pool made few form h =
    let same : (pool, []) ≡ made = same_ok (pool, []) made h in
    subst (λ (m : List PoolEntry × List ℕ). Interfaces pool m.0 [] m.1) same (record { grown = grown_itself pool few; there = λ more x. refl; named = λ more x. tt; fit = refl; count = refl })
interfaces_are number (name ∷ names) pool made few form h =
    let f = and_parts (is_class_name name) (are_names names) form in
    let a = then_parts (class_made number name pool) _ made h in
    let c = made_class number name pool a.value (or_left (is_class_name name) (is_array_descriptor name) f.0) a.first in
    let b = then_parts (interfaces_made number names a.value.0) _ made a.after in
    let i = interfaces_are number names a.value.0 b.value c.grown.few f.1 b.first in
    let same : (b.value.0, a.value.1 ∷ b.value.1) ≡ made = same_ok (b.value.0, a.value.1 ∷ b.value.1) made b.after in
    subst (λ (m : List PoolEntry × List ℕ). Interfaces pool m.0 (name ∷ names) m.1) same (record {
      grown = grown_further pool a.value.0 b.value.0 c.grown i.grown;
      there = λ more x. and_from (is_class_index more a.value.1) (list_all (is_class_index more) b.value.1) (class_there a.value.0 more (extends-further a.value.0 b.value.0 more i.grown.grows x) a.value.1 (ap is_some c.names)) (i.there more x);
      named = λ more x. (class_stays a.value.0 more (extends-further a.value.0 b.value.0 more i.grown.grows x) a.value.1 name c.names, i.named more x);
      fit = and_from (is_u2 a.value.1) (list_all is_u2 b.value.1) (index_fits a.value.0 c.grown.few a.value.1 (class_within a.value.0 a.value.1 name c.names)) i.fit;
      count = ap suc i.count;
    })

-- ---- members

record Fields (version : ℕ) (pool : List PoolEntry) (fields : List Member) (heads : List MemberHead) : Type 0 where
  sound : list_all (field_is_sound version pool) fields ≡ true
  fit : list_all member_fits fields ≡ true
  are : AllZip (IsField pool) fields heads

all_fields : (version : ℕ) (pool : List PoolEntry) (fields : List Member) (heads : List MemberHead) → AllZip (FieldIn version pool) fields heads → Fields version pool fields heads
all_fields version pool [] [] each = record { sound = refl; fit = refl; are = tt }
all_fields version pool [] (h ∷ heads) each = absurd each
all_fields version pool (m ∷ fields) [] each = absurd each
all_fields version pool (m ∷ fields) (h ∷ heads) each =
    let rest = all_fields version pool fields heads each.1 in
    record {
      sound = and_from (field_is_sound version pool m) (list_all (field_is_sound version pool) fields) each.0.sound rest.sound;
      fit = and_from (member_fits m) (list_all member_fits fields) each.0.fits rest.fit;
      are = (each.0.is, rest.are);
    }

record AllMethods (version : ℕ) (pool : List PoolEntry) (methods : List Member) (items : List MethodLines) : Type 0 where
  sound : list_all (method_is_sound version pool) methods ≡ true
  fit : list_all member_fits methods ≡ true
  are : AllZip (IsMethod pool) methods items

all_methods : (version : ℕ) (pool : List PoolEntry) (methods : List Member) (items : List MethodLines) → AllZip (MethodIn version pool) methods items → AllMethods version pool methods items
all_methods version pool [] [] each = record { sound = refl; fit = refl; are = tt }
all_methods version pool [] (i ∷ items) each = absurd each
all_methods version pool (m ∷ methods) [] each = absurd each
all_methods version pool (m ∷ methods) (i ∷ items) each =
    let rest = all_methods version pool methods items each.1 in
    record {
      sound = and_from (method_is_sound version pool m) (list_all (method_is_sound version pool) methods) each.0.sound rest.sound;
      fit = and_from (member_fits m) (list_all member_fits methods) each.0.fits rest.fit;
      are = (each.0.is, rest.are);
    }

counted_from : {X : Type 0} (test : X → Bool) (xs : List X) → length xs ≤ 65535 → list_all test xs ≡ true → counted_fits test xs ≡ true
counted_from test xs le h = and_from (is_u2 (length xs)) (list_all test xs) (lt-ltb (length xs) 65536 (omega arith)) h

-- ---- the class

-- what makes a class well-formed
record Parts (c : ClassFile) : Type 0 where
  minor : is_u2 c.minor ≡ true
  version : within 46 50 c.major ≡ true
  few : length c.pool ≤ 65534
  sound : Sound c.pool
  flags : is_u2 c.flags.0 ≡ true
  this : is_u2 c.this_class ≡ true
  super : is_u2 c.super_class ≡ true
  interfaces : counted_fits is_u2 c.interfaces ≡ true
  fields : counted_fits member_fits c.fields ≡ true
  methods : counted_fits member_fits c.methods ≡ true
  attributes : counted_fits attribute_fits c.attributes ≡ true
  named : is_some_that is_class_name (this_name c) ≡ true
  extends : is_some (super_name c) ≡ true
  there : list_all (is_class_index c.pool) c.interfaces ≡ true
  fields_sound : list_all (field_is_sound c.major c.pool) c.fields ≡ true
  methods_sound : list_all (method_is_sound c.major c.pool) c.methods ≡ true
  attributes_agree : attributes_agree kind_in_class (content_is_sound c.major c.pool) c.pool [] c.attributes ≡ true

from_parts : (c : ClassFile) → Parts c → is_well_formed c ≡ true
from_parts c x =
    let v = and_parts (nat_le 46 c.major) (nat_lt c.major 50) x.version in
    let below = ltb-true c.major 50 v.1 in
    let i : Bool = counted_fits is_u2 c.interfaces && (counted_fits member_fits c.fields && (counted_fits member_fits c.methods && counted_fits attribute_fits c.attributes)) in
    let writable : is_writable c ≡ true =
    and_from (is_u2 c.minor) (is_u2 c.major && (pool_fits c.pool && (is_u2 c.flags.0 && (is_u2 c.this_class && (is_u2 c.super_class && i))))) x.minor
    (and_from (is_u2 c.major) (pool_fits c.pool && (is_u2 c.flags.0 && (is_u2 c.this_class && (is_u2 c.super_class && i)))) (lt-ltb c.major 65536 (omega arith))
    (and_from (pool_fits c.pool) (is_u2 c.flags.0 && (is_u2 c.this_class && (is_u2 c.super_class && i))) (pool_fits_from c.pool x.few x.sound)
    (and_from (is_u2 c.flags.0) (is_u2 c.this_class && (is_u2 c.super_class && i)) x.flags
    (and_from (is_u2 c.this_class) (is_u2 c.super_class && i) x.this
    (and_from (is_u2 c.super_class) i x.super
    (and_from (counted_fits is_u2 c.interfaces) (counted_fits member_fits c.fields && (counted_fits member_fits c.methods && counted_fits attribute_fits c.attributes)) x.interfaces
    (and_from (counted_fits member_fits c.fields) (counted_fits member_fits c.methods && counted_fits attribute_fits c.attributes) x.fields
    (and_from (counted_fits member_fits c.methods) (counted_fits attribute_fits c.attributes) x.methods x.attributes)))))))) in
    let names : has_sound_names c ≡ true =
    and_from (is_some_that is_class_name (this_name c)) (is_some (super_name c) && list_all (is_class_index c.pool) c.interfaces) x.named
    (and_from (is_some (super_name c)) (list_all (is_class_index c.pool) c.interfaces) x.extends x.there) in
    let parts : has_sound_parts c ≡ true =
    and_from (list_all (field_is_sound c.major c.pool) c.fields) (list_all (method_is_sound c.major c.pool) c.methods && attributes_agree kind_in_class (content_is_sound c.major c.pool) c.pool [] c.attributes) x.fields_sound
    (and_from (list_all (method_is_sound c.major c.pool) c.methods) (attributes_agree kind_in_class (content_is_sound c.major c.pool) c.pool [] c.attributes) x.methods_sound x.attributes_agree) in
    and_from (is_writable c) (has_known_version c && (pool_is_sound c.pool && (has_sound_names c && has_sound_parts c))) writable
    (and_from (has_known_version c) (pool_is_sound c.pool && (has_sound_names c && has_sound_parts c)) x.version
    (and_from (pool_is_sound c.pool) (has_sound_names c && has_sound_parts c) (sound_pool c.pool x.few x.sound)
    (and_from (has_sound_names c) (has_sound_parts c) names parts)))

-- the class is well-formed, and means what the lines say
pub record Good (lines : List Numbered) (c : ClassFile) : Type 0 where
  pub formed : is_well_formed c ≡ true
  pub means : Means lines c

made_file : (number : ℕ) (name super : Text) (version flags : ℕ) (names : List Text) (body lines : List Numbered) (pc end : ℕ) (c : ClassFile) → ClassForm name super version flags names → AreOfForm lines → misplaced end Place.Outside lines ≡ None → mislabelled body pc lines ≡ None
    → class_file_made number name super version flags names lines ≡ Ok c → Good (record { number = number; line = Some (Line.Class name super version flags names) } ∷ lines) c
made_file number name super version flags names body lines pc end c form are place right h =
    let t = then_parts (class_made number name []) _ c h in
    let this = made_class number name [] t.value (or_left (is_class_name name) (is_array_descriptor name) form.name_is) t.first in
    let u = then_parts (class_made number super t.value.0) _ c t.after in
    let up = made_class number super t.value.0 u.value (or_left (is_class_name super) (is_array_descriptor super) form.super_is) u.first in
    let i = then_parts (all_interfaces_made number names u.value.0) _ c u.after in
    let few = if_made (nat_le (length names) 65535) (interfaces_made number names u.value.0) number i.value i.first in
    let interfaces = interfaces_are number names u.value.0 i.value up.grown.few form.interfaces_are few.1 in
    let f = then_parts (fields_made 0 lines i.value.0) _ c i.after in
    let fields = fields_are version 0 lines i.value.0 f.value (omega arith) interfaces.grown.few are f.first in
    let m = then_parts (methods_made version 0 lines f.value.0) _ c f.after in
    let methods = methods_are version end Place.Outside body pc 0 lines f.value.0 m.value (omega arith) fields.grown.few are place right m.first in
    let last : List PoolEntry = m.value.0 in
    let file : ClassFile = record { minor = 0; major = version; pool = last; flags = record { 0 = flags }; this_class = t.value.1; super_class = u.value.1; interfaces = i.value.1; fields = f.value.1; methods = m.value.1; attributes = [] } in
    let same : file ≡ c = same_ok file c m.after in
    let from_f = methods.grown.grows in
    let from_i = extends-further i.value.0 f.value.0 last fields.grown.grows from_f in
    let from_u = extends-further u.value.0 i.value.0 last interfaces.grown.grows from_i in
    let from_t = extends-further t.value.0 u.value.0 last up.grown.grows from_u in
    let af = all_fields version last f.value.1 (fields_in lines) (fields.each last from_f) in
    let am = all_methods version last m.value.1 (methods_in lines) (methods.each last (extends-itself last)) in
    let flags_are = form.flags_are in
    let count = interfaces.count in
    let most = leb-true (length names) 65535 few.0 in
    let field_room = fields.room in
    let method_room = methods.room in
    subst (λ (x : ClassFile). Good (record { number = number; line = Some (Line.Class name super version flags names) } ∷ lines) x) same (record {
      means = record {
        minor = refl;
        major = refl;
        access = refl;
        this = class_stays t.value.0 last from_t t.value.1 name this.names;
        super_class = class_stays u.value.0 last from_u u.value.1 super up.names;
        implements = interfaces.named last from_i;
        fields = af.are;
        methods = am.are;
        attributes = refl;
      };
      formed = from_parts file (record {
        minor = refl;
        version = form.version_is;
        few = methods.grown.few;
        sound = methods.grown.sound (fields.grown.sound (interfaces.grown.sound (up.grown.sound (this.grown.sound sound_empty))));
        flags = lt-ltb flags 65536 (omega arith);
        this = index_fits t.value.0 this.grown.few t.value.1 (class_within t.value.0 t.value.1 name this.names);
        super = index_fits u.value.0 up.grown.few u.value.1 (class_within u.value.0 u.value.1 super up.names);
        interfaces = counted_from is_u2 i.value.1 (omega arith) interfaces.fit;
        fields = counted_from member_fits f.value.1 (omega arith) af.fit;
        methods = counted_from member_fits m.value.1 (omega arith) am.fit;
        attributes = refl;
        named = ap (is_some_that is_class_name) (class_stays t.value.0 last from_t t.value.1 name this.names) ∙ form.name_is;
        extends = class_there u.value.0 last from_u u.value.1 (ap is_some up.names);
        there = interfaces.there last from_i;
        fields_sound = af.sound;
        methods_sound = am.sound;
        attributes_agree = refl;
      });
    })

-- the first line is the class's own
first_line : (fault end number : ℕ) (o : Option Line) (lines : List Numbered) (c : ClassFile) → OfForm o → AreOfForm lines → misplaced end Place.Start (record { number = number; line = o } ∷ lines) ≡ None → mislabelled [] 0 (record { number = number; line = o } ∷ lines) ≡ None
    → first_made fault number o lines ≡ Ok c → Good (record { number = number; line = o } ∷ lines) c
first_line fault end number (Some (Line.Class name super version flags interfaces)) lines c form are place right h = made_file number name super version flags interfaces [] lines 0 end c (class_line_form name super version flags interfaces form) are place right h
first_line fault end number (Some (Line.Field head)) lines c form are place right h = absurd cc
first_line fault end number (Some (Line.Method head stack locals)) lines c form are place right h = absurd cc
first_line fault end number (Some (Line.Bare head)) lines c form are place right h = absurd cc
first_line fault end number (Some (Line.Step label o)) lines c form are place right h = absurd cc
first_line fault end number (Some (Line.Catch from to handler class)) lines c form are place right h = absurd cc
first_line fault end number (Some Line.End) lines c form are place right h = absurd cc
first_line fault end number None lines c form are place right h = absurd cc

made_of_lines : (fault end : ℕ) (all : List Numbered) (c : ClassFile) → AreOfForm all → misplaced end Place.Start all ≡ None → mislabelled [] 0 all ≡ None → class_made_of fault all ≡ Ok c → Good all c
made_of_lines fault end [] c are place right h = absurd cc
made_of_lines fault end (line ∷ lines) c are place right h = first_line fault end line.number line.line lines c are.0 are.1 place right h

-- ---- texts

pub none_first : (a b : Option ℕ) → first_of a b ≡ None → (a ≡ None) × (b ≡ None)
none_first None b h = (refl, h)
none_first (Some a) None h = absurd cc
none_first (Some a) (Some b) h = absurd cc

not_refused : (number : ℕ) (made : Result ClassFile ℕ) (c : ClassFile) → refused number made ≡ Ok c → ⊥
not_refused number (Ok class) c h = cc
not_refused number (Err earlier) c h = cc

pub judged_parts : (all : List Numbered) (o : Option ℕ) (c : ClassFile) → judged all o ≡ Ok c → (o ≡ None) × (class_made_of 1 all ≡ Ok c)
judged_parts all None c h = (refl, h)
judged_parts all (Some number) c h = absurd (not_refused number _ c h)

said_form : (number : ℕ) (o : Option (Option Line)) → ((line : Line) → o ≡ Some (Some line) → is_line line ≡ true) → AreOfForm (cons_option (said number o) [])
said_form number (Some None) f = tt
said_form number (Some (Some line)) f = (f line refl, tt)
said_form number None f = (tt, tt)

with_said : (o : Option Numbered) (lines : List Numbered) → AreOfForm (cons_option o []) → AreOfForm lines → AreOfForm (cons_option o lines)
with_said None lines h k = k
with_said (Some line) lines h k = (h.0, k)

heard_from : (o : Option Text) (line : Line) → (o >>= read_as) ≡ Some (Some line) → is_line line ≡ true
heard_from None line h = absurd cc
heard_from (Some text) line h = found_form text line h

-- what a line in UTF-8 says is of the form
heard_form : (text : Text) (line : Line) → heard text ≡ Some (Some line) → is_line line ≡ true
unfolding heard
heard_form text line h = heard_from (modified text) line h

-- lines that are read are of the form
pub numbered_form : (number : ℕ) (texts : List Text) → AreOfForm (numbered number texts)
numbered_form number [] = tt
numbered_form number (text ∷ texts) = with_said (line_numbered number text) (numbered (number + 1) texts) (said_form number (heard text) (heard_form text)) (numbered_form (number + 1) texts)

-- A class that a text is is well-formed, and means what the text's lines say.
pub text_is_good : (text : List ℕ) (c : ClassFile) → class_of text ≡ Ok c → Good (numbered 1 (lines text)) c
text_is_good text c h =
    let texts : List Text = lines text in
    let all : List Numbered = numbered 1 texts in
    let j = judged_parts all (first_wrong (length texts + 1) all) c h in
    let n = none_first (misplaced (length texts + 1) Place.Start all) (mislabelled [] 0 all) j.0 in
    made_of_lines 1 (length texts + 1) all c (numbered_form 1 texts) n.0 n.1 j.1

pub given_well_formed : (result : Result ClassFile TextFault) (text : List ℕ) → Gives result (class_of text) → IfOk result (λ c. is_well_formed c ≡ true)
given_well_formed (Ok c) text h = (text_is_good text c h).formed
given_well_formed (Err fault) text h = tt

pub given_means : (result : Result ClassFile TextFault) (text : List ℕ) → Gives result (class_of text) → IfOk result (λ c. Means (numbered 1 (lines text)) c)
given_means (Ok c) text h = (text_is_good text c h).means
given_means (Err fault) text h = tt
