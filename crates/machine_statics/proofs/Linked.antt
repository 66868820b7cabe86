-- What the three instructions need initialised, and their effects.
use Rattle.std.specs.Prelude.{◌≡◌, ℕ, Bool, true, false, if◌then◌else◌, is_some, List, [], ◌∷◌, Some, None, refl}
use Rattle.std.proofs.Common.{sym, ap, ◌∙◌}
use Rattle.std.proofs.lemmas.Bool.{false≢true}
use Rattle.class_file.specs.declared.types.ClassFile.{ClassFile}
use Rattle.class_file.specs.Pool.{Reference}
use Rattle.class_world.specs.Tables.{Known}
use Rattle.class_machine.specs.declared.kinds.Access.TheVariants as access
use Rattle.class_machine.specs.declared.kinds.Kind.{Kind}
use Rattle.class_machine.specs.Answers as answers
use Rattle.class_machine.specs.Answers.{declared, answer}
use Rattle.class_machine.specs.Classes.{Classes, dotted}
use Rattle.class_machine.specs.ClassFiles.{Place, class_code}
use Rattle.class_machine.specs.Descriptors.{kind_in}
use Rattle.class_machine.specs.Effect as definition
use Rattle.class_machine.specs.Effect.{Effect, Ask, Announce, is_broken}
use Rattle.class_machine.specs.Events as events
use Rattle.class_machine.specs.Operations.{FieldAccess, New}
use Rattle.class_machine.specs.Turn.{Frame, Turn, Stays, Refused, Needs, Link, stops, stays, replied, taken, link, static_field}
use Rattle.class_machine.specs.Values.{Held, Plain, Token, ReturnAddress, Value, Content, content, has_room, is_held, kind_width, width, held_width, pushed_on, fresh}
use Rattle.class_machine.specs.World.{World}
use Rattle.machine_steps.specs.Programs.{Machine, IsMachine}
use Rattle.machine_invocations.specs.Methods.{classes_in}
use Rattle.machine_statics.specs.StaticFields.{search_of}
use Rattle.machine_statics.specs.Triggers.{effect_of}
use Rattle.machine_statics.proofs.Triggered.{is_quiet, quiet_if}

module _ (m : Machine) (f : Frame Place) where
  abbrev links : Effect Place → Link
  links e = link (class_code m.files) m.setting.classes f e

  abbrev needed : Reference → Link
  needed r = static_field (class_code m.files) m.setting.classes r (m.setting.classes.field r)

  -- ---- reads

  abbrev if_room : Reference → Bool → Effect Place
  if_room r b = if b then Ask (definition.GetStatic r) f.content else definition.Broken

  get_links : (r : Reference) (b : Bool) → is_broken (if_room r b) ≡ false → links (if_room r b) ≡ needed r
  get_links r true h = refl
  get_links r false h = absurd (false≢true (sym h))

  -- ---- stores

  abbrev put_of : Reference → Kind → List (Value Place) → Effect Place
  put_of r k ops = definition.access_field f.room access.PutStatic r k ops f.content.locals

  abbrev if_held : Reference → Held → List (Value Place) → Bool → Effect Place
  if_held r h rest b = if b then Ask (definition.PutStatic r h) (content rest f.content.locals) else definition.Broken

  held_links : (r : Reference) (h : Held) (rest : List (Value Place)) (b : Bool) → is_broken (if_held r h rest b) ≡ false → links (if_held r h rest b) ≡ needed r
  held_links r h rest true sound = refl
  held_links r h rest false sound = absurd (false≢true (sym sound))

  put_links : (r : Reference) (k : Kind) (ops : List (Value Place)) → is_broken (put_of r k ops) ≡ false → links (put_of r k ops) ≡ needed r
  put_links r k [] sound = absurd (false≢true (sym sound))
  put_links r k (Plain h ∷ ops) sound = held_links r h ops (is_held k h) sound
  put_links r k (Token class number ∷ ops) sound = absurd (false≢true (sym sound))
  put_links r k (ReturnAddress place ∷ ops) sound = absurd (false≢true (sym sound))

  -- ---- announcements

  abbrev token : List ℕ → Value Place
  token class = Token class (fresh f.content.operands f.content.locals)

  abbrev with_token : List ℕ → Bool → Effect Place
  with_token class b = definition.given (if b then Some (token class ∷ f.content.operands) else None) (λ all. Announce class (content all f.content.locals))

  new_links : (class : List ℕ) (b : Bool) (l : Link) → (if m.setting.classes.has_objects class then Needs class else Refused (events.Unresolved (dotted class))) ≡ l → is_broken (with_token class b) ≡ false → links (with_token class b) ≡ l
  new_links class true l is h = is
  new_links class false l is h = absurd (false≢true (sym h))

  -- ---- they say nothing as the run ends

  module _ (w : World) where
    quiet_stays : (place : Place) (c : Content Place) (u : World) → is_quiet (stays (class_code m.files) m.setting.classes place c u) ≡ true
    quiet_stays place c u = quiet_if (is_some ((class_code m.files).line place)) (Stays place c u) (stops events.Broken) refl refl

    quiet_reply : (c : Content Place) (reply : answers.Reply) → is_quiet (replied (class_code m.files) m.setting.classes f c w reply) ≡ true
    quiet_reply c (answers.Gives v u) = quiet_if (has_room f.room (held_width v) c.operands) (stays (class_code m.files) m.setting.classes ((class_code m.files).next f.place) (pushed_on (Plain v) c) u) (stops events.Broken) (quiet_stays _ _ u) refl
    quiet_reply c (answers.Done u) = quiet_stays _ _ u
    quiet_reply c (answers.Faults fault) = refl
    quiet_reply c answers.Refuses = refl

    abbrev takes_it : Effect Place → Turn Place
    takes_it e = taken (class_code m.files) m.setting.classes f w e

    quiet_room : (r : Reference) (b : Bool) → is_quiet (takes_it (if_room r b)) ≡ true
    quiet_room r true = quiet_reply f.content (answer m.setting.classes w (definition.GetStatic r))
    quiet_room r false = refl

    quiet_held : (r : Reference) (h : Held) (rest : List (Value Place)) (b : Bool) → is_quiet (takes_it (if_held r h rest b)) ≡ true
    quiet_held r h rest true = quiet_reply (content rest f.content.locals) (answer m.setting.classes w (definition.PutStatic r h))
    quiet_held r h rest false = refl

    quiet_pop : (r : Reference) (k : Kind) (ops : List (Value Place)) → is_quiet (takes_it (put_of r k ops)) ≡ true
    quiet_pop r k [] = refl
    quiet_pop r k (Plain h ∷ ops) = quiet_held r h ops (is_held k h)
    quiet_pop r k (Token class number ∷ ops) = refl
    quiet_pop r k (ReturnAddress place ∷ ops) = refl

    quiet_token : (class : List ℕ) (b : Bool) → is_quiet (takes_it (with_token class b)) ≡ true
    quiet_token class true = quiet_stays _ _ w
    quiet_token class false = refl

    pub quiet_get : (r : Reference) → is_quiet (takes_it (effect_of (FieldAccess access.GetStatic r) m f)) ≡ true
    quiet_get r = quiet_room r (has_room f.room (kind_width (kind_in r.member.descriptor)) f.content.operands)

    pub quiet_put : (r : Reference) → is_quiet (takes_it (effect_of (FieldAccess access.PutStatic r) m f)) ≡ true
    quiet_put r = quiet_pop r (kind_in r.member.descriptor) f.content.operands

    pub quiet_new : (class : List ℕ) → is_quiet (takes_it (effect_of (New class) m f)) ≡ true
    quiet_new class = quiet_token class (has_room f.room (width (token class)) f.content.operands)

  -- ---- in a machine of the world

  module _ (k : Known) (is : IsMachine k m) where
    static_same : (r : Reference) (l : Link) → search_of k r ≡ l → needed r ≡ l
    static_same r l e =
        ap (λ (cs : Classes). static_field (class_code m.files) cs r (cs.field r)) is.classes ∙ ap (λ (files : List ClassFile). static_field (class_code files) (classes_in k) r ((classes_in k).field r)) is.files ∙ e

    pub get_needs : (r : Reference) (l : Link) → search_of k r ≡ l → is_broken (effect_of (FieldAccess access.GetStatic r) m f) ≡ false → links (effect_of (FieldAccess access.GetStatic r) m f) ≡ l
    get_needs r l e sound = get_links r (has_room f.room (kind_width (kind_in r.member.descriptor)) f.content.operands) sound ∙ static_same r l e

    pub put_needs : (r : Reference) (l : Link) → search_of k r ≡ l → is_broken (effect_of (FieldAccess access.PutStatic r) m f) ≡ false → links (effect_of (FieldAccess access.PutStatic r) m f) ≡ l
    put_needs r l e sound = put_links r (kind_in r.member.descriptor) f.content.operands sound ∙ static_same r l e

    abbrev needs_new : List ℕ → Bool → Link
    needs_new class b = if b then Needs class else Refused (events.Unresolved (dotted class))

    pub new_needs : (class : List ℕ) (b : Bool) → (classes_in k).has_objects class ≡ b → is_broken (effect_of (New class) m f) ≡ false → links (effect_of (New class) m f) ≡ needs_new class b
    new_needs class b e sound =
        new_links class (has_room f.room (width (token class)) f.content.operands) (needs_new class b) (ap (λ (cs : Classes). needs_new class (cs.has_objects class)) is.classes ∙ ap (needs_new class) e) sound
