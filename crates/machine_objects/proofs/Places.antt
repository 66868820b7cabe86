-- Fields of the objects of a heap.
use Rattle.std.specs.Prelude.{◌≡◌, ℕ, suc, ◌<◌, ◌≤◌, ◌^◌, Bool, true, false, if◌then◌else◌, List, [], ◌∷◌, length, slice_get, Option, Some, None, unwrap_or, refl}
use Rattle.std.proofs.Common.{sym, ap, ◌∙◌, subst, arith}
use Rattle.std.specs.Option.{option_map}
use Rattle.std.proofs.lemmas.Bool.{ltb-true}
use Rattle.std.proofs.lemmas.Option.{none-some, same_Some}
use Rattle.aj_names.specs.declared.types.MemberName.{MemberName}
use Rattle.class_file.specs.Pool.{Reference}
use Rattle.class_heads.specs.declared.types.FieldHead.{FieldHead}
use Rattle.class_heads.specs.declared.types.ClassHead.{ClassHead}
use Rattle.class_heads.specs.Hierarchy.{name_at, place_of}
use Rattle.class_heads.specs.PlaceLaws.{place-named}
use Rattle.class_world.specs.Tables.{Known}
use Rattle.class_machine.specs.declared.kinds.Element.{Element}
use Rattle.class_machine.specs.declared.kinds.Fault.{Fault}
use Rattle.class_machine.specs.Answers as answers
use Rattle.class_machine.specs.Answers.{answer, declared, declared_name}
use Rattle.class_machine.specs.Classes.{same_member}
use Rattle.class_machine.specs.Declarations.{declared_in}
use Rattle.class_machine.specs.Descriptors.{element_of, narrowed}
use Rattle.class_machine.specs.Effect.{GetField, PutField}
use Rattle.class_machine.specs.Values as machine
use Rattle.class_machine.specs.Values.{class_of}
use Rattle.class_machine.specs.World.{World, read_field, write_field}
use Rattle.machine_values.specs.declared.values.Ref.{Ref}
use Rattle.machine_values.specs.declared.values.Value.{Value}
use Rattle.machine_values.specs.declared.values.Value.TheVariants.{Null}
use Rattle.machine_values.specs.declared.names.Maker.TheVariants.{Class, Array}
use Rattle.machine_values.specs.declared.names.Name.{Name}
use Rattle.machine_values.specs.declared.names.Name.TheVariants.{Made, Literal, ClassObject}
use Rattle.machine_values.specs.declared.content.Content.{Content}
use Rattle.machine_values.specs.declared.content.Content.TheVariants.{Values, Text, Fixed}
use Rattle.machine_values.specs.Standing.{name_in, name_of, held}
use Rattle.machine_values.specs.Things.{Things, values_of, values_at}
use Rattle.machine_requests.specs.declared.reply.Reply.{Reply}
use Rattle.machine_requests.specs.declared.reply.Reply.TheVariants.{Gives, Done, Faults, Refuses}
use Rattle.machine_requests.specs.Objects.{fields_in, fields_at, field_place, HasField, HoldsSuch, IsBelow, AreFilled}
use Rattle.machine_requests.specs.Replies.{Replies, IsAnswerWhere}
use Rattle.machine_requests.specs.Replies as replies
use Rattle.machine_requests.specs.Shares.{Setting, Others, Shares}
use Rattle.machine_requests.specs.Telling.{AreDistinct, AreFit}
use Rattle.machine_requests.specs.TellingLaws.{named_at, fit_at}
use Rattle.machine_requests.proofs.Reading.{read_none}
use Rattle.machine_fields.specs.Positions.{IsPlace, fields_of_class}
use Rattle.machine_fields.specs.Settings.{world_setting}
use Rattle.machine_steps.specs.Programs.{Machine, IsMachine}
use Rattle.machine_invocations.specs.Standards.{machine_of, by_machine}
use Rattle.machine_objects.specs.Fields.{IsInstanceField, HasPlace, LacksField, Reads, IsWriting, Writes}
use Rattle.machine_objects.proofs.Lacking.{writes_nothing}

-- ---- places

few_fields : (name : Option Name) (c : Option Content) → length (fields_in name c) ≤ length (values_of c)
few_fields None c = omega arith
few_fields (Some (Made (Class class) k)) None = omega arith
few_fields (Some (Made (Class class) k)) (Some (Values vs)) = omega arith
few_fields (Some (Made (Class class) k)) (Some (Text units)) = omega arith
few_fields (Some (Made (Class class) k)) (Some Fixed) = omega arith
few_fields (Some (Made (Array type) k)) c = omega arith
few_fields (Some (Literal units)) c = omega arith
few_fields (Some (ClassObject type)) c = omega arith

place_below : (fs : List Reference) (r : Reference) (p : ℕ) → field_place fs r ≡ Some p → p < length fs
place_below [] r p at = absurd (none-some p at)
place_below (f ∷ fs) r p at = by (same_member f r) refl (λ q e. place_below fs r q e) where
  later : (o : Option ℕ) → option_map suc o ≡ Some p → ((q : ℕ) → o ≡ Some q → q < length fs) → p < suc (length fs)
  later None e rest = absurd (none-some p e)
  later (Some q) e rest = let same = same_Some (suc q) p e in let below = rest q refl in omega arith

  by : (b : Bool) → same_member f r ≡ b → ((q : ℕ) → field_place fs r ≡ Some q → q < length fs) → p < suc (length fs)
  by true e rest = let same = same_Some 0 p (ap (λ (hit : Bool). if hit then Some 0 else option_map suc (field_place fs r)) (sym e) ∙ at) in omega arith
  by false e rest = later (field_place fs r) (ap (λ (hit : Bool). if hit then Some 0 else option_map suc (field_place fs r)) (sym e) ∙ at) rest

module _ (k : Known) (things : Things) (at : Ref) (known : at.0 < length things.names) (class position : ℕ) where
  -- of an object of a class of the world
  pub class_place : (own : ℕ) (place : Option ℕ)
      → (AreDistinct k.heads → AreFit (length k.heads) things.names → Some own ≡ place_of k.heads (class_of (name_of k.heads things.names at)))
      → (AreDistinct k.heads → (head : ClassHead) (field : FieldHead) → slice_get k.heads class ≡ Some head → slice_get head.fields position ≡ Some field → IsPlace (fields_of_class k own) (declared_in head.name field.name) place)
      → HasPlace k things at class position place
  class_place own place of placed m others w head field is shares filled there stands =
      by_machine k (λ x. Shares x.setting things others w → IsPlace (x.setting.classes.fields (class_of (name_of x.setting.heads things.names at))) (declared_in head.name field.name) place) m
      (λ fields methods is' shares'.
      let named : name_at k.heads own ≡ class_of (name_of k.heads things.names at) = place-named k.heads (class_of (name_of k.heads things.names at)) own (sym (of is'.distinct shares'.fit)) in
      subst (λ name. IsPlace ((world_setting k).classes.fields name) (declared_in head.name field.name) place) named (placed is'.distinct head field there stands)) is shares

  -- of another one, which has no fields
  bare : (n : Name) → slice_get things.names at.0 ≡ Some n → AreDistinct k.heads → AreFit (length k.heads) things.names → None ≡ place_of k.heads (class_of (name_in k.heads (Some n)))
      → fields_in (Some n) (slice_get things.contents at.0) ≡ []
  bare (Made (Class own) j) there distinct fit none =
      absurd (none-some own.0 (none ∙ distinct.different own.0 (ltb-true own.0 (length k.heads) (fit_at k.heads distinct things.names at.0 (Made (Class own) j) fit there))))
  bare (Made (Array type) j) there distinct fit none = no_array (slice_get things.contents at.0) where
    no_array : (c : Option Content) → fields_in (Some (Made (Array type) j)) c ≡ []
    no_array c = refl
  bare (Literal units) there distinct fit none = refl
  bare (ClassObject type) there distinct fit none = refl

  pub no_place : (AreDistinct k.heads → AreFit (length k.heads) things.names → None ≡ place_of k.heads (class_of (name_of k.heads things.names at))) → HasPlace k things at class position None
  no_place of m others w head field is shares filled there stands =
      by_machine k (λ x. Shares x.setting things others w → AreFilled things x.setting → IsPlace (x.setting.classes.fields (class_of (name_of x.setting.heads things.names at))) (declared_in head.name field.name) None) m
      (λ fields methods is' shares' filled' p e.
      let n = named_at things.names at.0 known in
      let none = bare n.0 n.1 is'.distinct shares'.fit (of is'.distinct shares'.fit ∙ ap (λ (o : Option Name). place_of k.heads (class_of (name_in k.heads o))) n.1) in
      let empty : length (fields_at things at.0) ≡ 0 = ap (λ (o : Option Name). length (fields_in o (slice_get things.contents at.0))) n.1 ∙ ap (λ (vs : List Value). length vs) none in
      let each = filled'.each at.0 known in
      let below = place_below ((machine_of k fields methods).setting.classes.fields (class_of (name_of k.heads things.names at))) (declared_in head.name field.name) p e in
      absurd (omega arith)) is shares filled

-- ---- replies

module _ (k : Known) (r : Reference) (class position : ℕ) (field : IsInstanceField k r class position) (fields methods : ℕ → Reference) where
  abbrev setting : Setting
  setting = (machine_of k fields methods).setting

  abbrev own : Reference
  own = declared_in field.head.name field.field.name

  declared_is : declared setting.classes r ≡ own
  declared_is = ap (declared_name r) field.is

  class_is : name_at k.heads class ≡ field.head.name
  class_is = ap (λ (o : Option ClassHead). unwrap_or (option_map (λ (c : ClassHead). c.name) o) []) field.at

  pub has_field : (things : Things) (others : Others) (w : World) (at : Ref) (name : List ℕ) (instance : Bool) (index : ℕ) → name ≡ name_at k.heads class → IsBelow things (Some at) name instance (world_setting k)
      → HasPlace k things at class position (Some index) → IsMachine k (machine_of k fields methods) → Shares setting things others w → AreFilled things setting → HasField things (Some at) r instance index setting
  has_field things others w at name instance index named below place is shares filled = record {
    is = λ a e. ap (λ (c : Reference). setting.classes.is_subtype (class_of (name_of k.heads things.names a)) c.class) declared_is ∙ ap (setting.classes.is_subtype (class_of (name_of k.heads things.names a))) (sym class_is ∙ sym named) ∙ below.is a e;
    place = λ a e yes.
        let same : at ≡ a = same_Some at a e in
        subst (λ (b : Ref). field_place (setting.classes.fields (class_of (name_of k.heads things.names b))) (declared setting.classes r) ≡ Some index) same
        (ap (field_place (setting.classes.fields (class_of (name_of k.heads things.names at)))) declared_is ∙ place (machine_of k fields methods) others w field.head field.field is shares filled field.at field.stands);
  }

  pub holds_such : (descriptor : List ℕ) (e : Element) → r.member.descriptor ≡ descriptor → e ≡ element_of descriptor → HoldsSuch r e setting
  holds_such descriptor e same is = record {
    element = ap (λ (c : Reference). element_of c.member.descriptor) declared_is ∙ ap (λ (n : MemberName). element_of n.descriptor) field.named ∙ ap element_of same ∙ sym is;
  }

  -- where the object's class lacks the field
  lacks_place : (things : Things) (others : Others) (w : World) (at : Ref) → at.0 < length things.names → length (values_at things at.0) < 2 ^ 32 → HasPlace k things at class position None → IsMachine k (machine_of k fields methods)
      → Shares setting things others w → AreFilled things setting → field_place (setting.classes.fields (class_of (name_of k.heads things.names at))) own ≡ None
  lacks_place things others w at known few place is shares filled = none (field_place (setting.classes.fields (class_of (name_of k.heads things.names at))) own) refl where
    none : (o : Option ℕ) → field_place (setting.classes.fields (class_of (name_of k.heads things.names at))) own ≡ o → o ≡ None
    none None e = refl
    none (Some p) e =
        let past : 2 ^ 32 ≤ p = place (machine_of k fields methods) others w field.head field.field is shares filled field.at field.stands p e in
        let below = place_below (setting.classes.fields (class_of (name_of k.heads things.names at))) own p e in
        let each = filled.each at.0 known in
        let most = few_fields (slice_get things.names at.0) (slice_get things.contents at.0) in
        absurd (omega arith)

  -- it reads as null
  pub lacking : (things : Things) (others : Others) (w : World) (at : Ref) (name : List ℕ) (instance : Bool) (reply : Reply) → at.0 < length things.names → name ≡ name_at k.heads class → IsBelow things (Some at) name instance (world_setting k)
      → HasPlace k things at class position None → LacksField things at.0 instance reply → IsMachine k (machine_of k fields methods) → Shares setting things others w → AreFilled things setting
      → Replies setting things others w reply (answer setting.classes w (GetField r (Some (name_of k.heads things.names at))))
  lacking things others w at name instance reply known named below place lacks is shares filled =
      let a = name_of k.heads things.names at in
      let is_below : setting.classes.is_subtype (class_of a) own.class ≡ instance = ap (setting.classes.is_subtype (class_of a)) (sym class_is ∙ sym named) ∙ below.is at refl in
      let null : read_field w a own ≡ machine.Null = read_none setting things others w at.0 own is.distinct shares known (lacks_place things others w at known lacks.few place is shares filled) in
      subst (λ (x : Reply). Replies setting things others w x (answers.get_field setting.classes w (declared setting.classes r) a)) (sym lacks.is)
      (subst (λ (q : Reference). Replies setting things others w (if instance then Gives Null else Refuses) (answers.get_field setting.classes w q a)) (sym declared_is)
      (subst (λ (b : Bool). Replies setting things others w (if instance then Gives Null else Refuses) (if b then answers.Gives (read_field w a own) w else answers.Refuses)) (sym is_below)
      (by instance null))) where
        by : (b : Bool) → read_field w (name_of k.heads things.names at) own ≡ machine.Null
            → Replies setting things others w (if b then Gives Null else Refuses) (if b then answers.Gives (read_field w (name_of k.heads things.names at) own) w else answers.Refuses)
        by true e = (sym e, refl, shares)
        by false e = tt

  -- it is written nowhere
  pub unwritten : (things : Things) (others : Others) (w : World) (at : Ref) (v : Value) (name : List ℕ) → at.0 < length things.names → name ≡ name_at k.heads class → IsBelow things (Some at) name true (world_setting k)
      → HasPlace k things at class position None → length (values_at things at.0) < 2 ^ 32 → IsMachine k (machine_of k fields methods) → Shares setting things others w → AreFilled things setting
      → Replies setting things others w Done (answer setting.classes w (PutField r (Some (name_of k.heads things.names at)) (held k.heads things.names v)))
  unwritten things others w at v name known named below place few is shares filled =
      let a = name_of k.heads things.names at in
      let h = held k.heads things.names v in
      let put = narrowed (element_of own.member.descriptor) h in
      let is_below : setting.classes.is_subtype (class_of a) own.class ≡ true = ap (setting.classes.is_subtype (class_of a)) (sym class_is ∙ sym named) ∙ below.is at refl in
      let same : write_field w a own put ≡ w = writes_nothing setting things others w is.distinct shares at.0 own put (lacks_place things others w at known few place is shares filled) known in
      subst (λ (q : Reference). Replies setting things others w Done (answers.put_field setting.classes w q a h)) (sym declared_is)
      (subst (λ (b : Bool). Replies setting things others w Done (if b then answers.Done (write_field w a own put) else answers.Refuses)) (sym is_below)
      (subst (Shares setting things others) (sym same) shares))

-- ---- reading

pub reads_null : (k : Known) (things : Things) (class position : ℕ) (object : Option Ref) → object ≡ None → Reads k things class position object (Faults Fault.NullPointer)
reads_null k things class position object none m others w r is field shares filled =
    subst (λ (o : Option Ref). Replies m.setting things others w (Faults Fault.NullPointer) (answer m.setting.classes w (GetField r (option_map (name_of m.setting.heads things.names) o)))) (sym none) (refl, shares)

module _ (k : Known) (things : Things) (class position : ℕ) (object : Option Ref) (at : Ref) (is_at : object ≡ Some at) (known : at.0 < length things.names) (name : List ℕ) (named : name ≡ name_at k.heads class) (instance : Bool)
    (below : AreDistinct k.heads → AreFit (length k.heads) things.names → IsBelow things (Some at) name instance (world_setting k)) where
  abbrev Answered : Machine → Others → World → Reference → Option Ref → Reply → Type 0
  Answered m others w r o reply = Replies m.setting things others w reply (answer m.setting.classes w (GetField r (option_map (name_of m.setting.heads things.names) o)))

  pub reads_there : (index : ℕ) (reply : Reply) → HasPlace k things at class position (Some index)
      → ((others : Others) (r : Reference) → IsAnswerWhere (HasField things object r instance index) things others (λ s names. GetField r (replies.object s names object)) things others reply) → Reads k things class position object reply
  reads_there index reply place answered m others w r is field shares filled =
      by_machine k (λ x. Shares x.setting things others w → AreFilled things x.setting → Answered x others w r object reply) m
      (λ fields methods is' shares' filled'.
      answered others r (machine_of k fields methods).setting w
      (subst (λ (o : Option Ref). HasField things o r instance index (machine_of k fields methods).setting) (sym is_at)
      (has_field k r class position field fields methods things others w at name instance index named (below is'.distinct shares'.fit) place is' shares' filled')) is'.distinct shares') is shares filled

  pub reads_lacking : (reply : Reply) → HasPlace k things at class position None → LacksField things at.0 instance reply → Reads k things class position object reply
  reads_lacking reply place lacks m others w r is field shares filled =
      by_machine k (λ x. Shares x.setting things others w → AreFilled things x.setting → Answered x others w r object reply) m
      (λ fields methods is' shares' filled'.
      subst (λ (o : Option Ref). Answered (machine_of k fields methods) others w r o reply) (sym is_at)
      (lacking k r class position field fields methods things others w at name instance reply known named (below is'.distinct shares'.fit) place lacks is' shares' filled')) is shares filled

-- ---- writing

module _ (k : Known) (before after : Things) (class position : ℕ) (descriptor : List ℕ) (at : Ref) (v : Value) (name : List ℕ) (named : name ≡ name_at k.heads class) where
  module _ (below : AreDistinct k.heads → AreFit (length k.heads) before.names → IsBelow before (Some at) name false (world_setting k)) where
    pub writes_refused : after ≡ before → Writes k before after class position descriptor at v Refuses
    writes_refused same m others w r is field typed shares filled =
        by_machine k (λ x. Shares x.setting before others w → AreFilled before x.setting → IsWriting x before after others w r at v Refuses) m
        (λ fields methods is' shares' filled'.
        let s = (machine_of k fields methods).setting in
        let a = name_of k.heads before.names at in
        let q = declared_in field.head.name field.field.name in
        let not_below : s.classes.is_subtype (class_of a) q.class ≡ false = ap (s.classes.is_subtype (class_of a)) (sym (class_is k r class position field fields methods) ∙ sym named) ∙ (below is'.distinct shares'.fit).is at refl in
        record {
          replies = subst (λ (c : Reference). Replies s after others w Refuses (answers.put_field s.classes w c a (held k.heads before.names v))) (sym (declared_is k r class position field fields methods))
              (subst (λ (b : Bool). Replies s after others w Refuses (if b then answers.Done (write_field w a q (narrowed (element_of q.member.descriptor) (held k.heads before.names v))) else answers.Refuses)) (sym not_below) tt);
          filled = subst (λ (x : Things). AreFilled x s) (sym same) filled';
        }) is shares filled

  -- where the object's class lacks the field
  pub writes_lacking : (AreDistinct k.heads → AreFit (length k.heads) before.names → IsBelow before (Some at) name true (world_setting k)) → at.0 < length before.names → HasPlace k before at class position None → length (values_at before at.0) < 2 ^ 32
      → after ≡ before → Writes k before after class position descriptor at v Done
  writes_lacking below known place few same m others w r is field typed shares filled =
      by_machine k (λ x. Shares x.setting before others w → AreFilled before x.setting → IsWriting x before after others w r at v Done) m
      (λ fields methods is' shares' filled'.
      let s = (machine_of k fields methods).setting in
      record {
        replies = subst (λ (x : Things). Replies s x others w Done (answer s.classes w (PutField r (Some (name_of k.heads before.names at)) (held k.heads before.names v)))) (sym same)
            (unwritten k r class position field fields methods before others w at v name known named (below is'.distinct shares'.fit) place few is' shares' filled');
        filled = subst (λ (x : Things). AreFilled x s) (sym same) filled';
      }) is shares filled

  -- neither a value nor an exception is the machine's answer
  pub done_or_refused : (s : Setting) (others : Others) (w : World) (reply : Reply) (b : Bool) (done : World) → Replies s after others w reply (if b then answers.Done done else answers.Refuses) → (reply ≡ Done → ⊥) → Replies s after others w Refuses (if b then answers.Done done else answers.Refuses)
  done_or_refused s others w Done b done h other = absurd (other refl)
  done_or_refused s others w (Gives x) true done h other = absurd h
  done_or_refused s others w (Gives x) false done h other = absurd h
  done_or_refused s others w (Faults f) true done h other = absurd h
  done_or_refused s others w (Faults f) false done h other = absurd h
  done_or_refused s others w Refuses b done h other = h

  module _ (below : AreDistinct k.heads → AreFit (length k.heads) before.names → IsBelow before (Some at) name true (world_setting k)) (index : ℕ) (place : HasPlace k before at class position (Some index)) (e : Element) (is_element : e ≡ element_of descriptor)
      (reply : Reply) (answered : (others : Others) (r : Reference) → IsAnswerWhere (λ s. HasField before (Some at) r true index s × HoldsSuch r e s × AreFilled before s) before others (λ s names. PutField r (replies.object s names (Some at)) (held s.heads names v)) after others reply)
      (fills : (s : Setting) → AreFilled before s → AreFilled after s) where
    pub writes_there : Writes k before after class position descriptor at v reply
    writes_there m others w r is field typed shares filled =
        by_machine k (λ x. Shares x.setting before others w → AreFilled before x.setting → IsWriting x before after others w r at v reply) m
        (λ fields methods is' shares' filled'. record {
          replies = answered others r (machine_of k fields methods).setting w
              (has_field k r class position field fields methods before others w at name true index named (below is'.distinct shares'.fit) place is' shares' filled', holds_such k r class position field fields methods descriptor e typed is_element, filled') is'.distinct shares';
          filled = fills (machine_of k fields methods).setting filled';
        }) is shares filled

    pub writes_else : (reply ≡ Done → ⊥) → Writes k before after class position descriptor at v Refuses
    writes_else other m others w r is field typed shares filled =
        let a = name_of m.setting.heads before.names at in
        let q = declared m.setting.classes r in
        let one = writes_there m others w r is field typed shares filled in
        record {
          replies = done_or_refused m.setting others w reply (m.setting.classes.is_subtype (class_of a) q.class) (write_field w a q (narrowed (element_of q.member.descriptor) (held m.setting.heads before.names v))) one.replies other;
          filled = one.filled;
        }
