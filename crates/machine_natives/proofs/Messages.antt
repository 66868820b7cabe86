-- The messages of new exceptions.
use Rattle.std.specs.Prelude.{◌≡◌, ℕ, zero, suc, ◌<◌, ◌≤◌, ◌^◌, Bool, true, false, if◌then◌else◌, is_some, List, [], ◌∷◌, ◌++◌, map, take, length, slice_get, slice_set, Option, Some, None, refl}
use Rattle.std.specs.List.{AllByRecursion, zip}
use Rattle.std.specs.Option.{option_map}
use Rattle.std.proofs.Common.{sym, ap, ◌∙◌, subst, arith, append_assoc}
use Rattle.std.proofs.Math.Seq.{take-append_seam}
use Rattle.std.proofs.lemmas.Bool.{lt-ltb}
use Rattle.std.proofs.lemmas.Option.{none-some, same_Some}
use Rattle.aj_names.specs.declared.ids.ClassId.{ClassId}
use Rattle.class_file.specs.Pool.{Reference}
use Rattle.class_heads.specs.declared.types.ClassHead.{ClassHead}
use Rattle.class_heads.specs.Hierarchy.{name_at, place_of}
use Rattle.class_world.specs.Tables.{Known}
use Rattle.class_machine.specs.declared.kinds.Element.{Element}
use Rattle.class_machine.specs.Classes.{Classes, same_member}
use Rattle.class_machine.specs.Natives as natives
use Rattle.class_machine.specs.Natives.{with_message}
use Rattle.class_machine.specs.Values as machine
use Rattle.class_machine.specs.Values.{Held, class_of}
use Rattle.class_machine.specs.World as worlds
use Rattle.class_machine.specs.World.{World, object_at, message_field, with_field, with_changed, stored, written, write_field, add_text, make}
use Rattle.machine_values.specs.declared.content.Content.{Content}
use Rattle.machine_values.specs.declared.content.Content.TheVariants.{Values, Text, Fixed}
use Rattle.machine_values.specs.declared.names.Maker.{Maker}
use Rattle.machine_values.specs.declared.names.Maker.TheVariants.{Class, Array}
use Rattle.machine_values.specs.declared.names.Name.{Name}
use Rattle.machine_values.specs.declared.names.Name.TheVariants.{Made, Literal, ClassObject}
use Rattle.machine_values.specs.declared.values.Ref.{Ref}
use Rattle.machine_values.specs.declared.values.Value.TheVariants.{Reference as Pointer}
use Rattle.machine_values.specs.Standing.{name_of, name_in, machine_name, held, object_of, IsSettledContent}
use Rattle.machine_values.specs.StandingLaws.{length-push}
use Rattle.machine_values.specs.Things.{Things, changed, made, next_name, values_of, values_at}
use Rattle.machine_requests.specs.Growing.{store_shares}
use Rattle.machine_requests.specs.Growth.{name_stays}
use Rattle.machine_requests.specs.Objects.{field_place, fields_in, fields_at}
use Rattle.machine_requests.specs.Shares.{Setting, Others, Shares}
use Rattle.machine_requests.specs.Telling.{AreDistinct}
use Rattle.machine_requests.proofs.ArrayLaws.{content_at}
use Rattle.machine_requests.proofs.Fills.{stored_filled}
use Rattle.machine_requests.proofs.Found.{made_found}
use Rattle.machine_requests.proofs.Writing.{place_below, write_shares}
use Rattle.machine_fields.specs.Positions.{IsPlace, fields_of_class}
use Rattle.machine_steps.specs.Programs.{IsRunnable, Machine, IsMachine}
use Rattle.machine_invocations.specs.Methods.{classes_in}
use Rattle.machine_natives.specs.declared.response.Response.TheVariants.{Throws}
use Rattle.machine_natives.specs.Responses.{Grows, Comes}
use Rattle.machine_natives.specs.Throwables.{Holds, Makes, MakesString, KeepsMessage}
use Rattle.machine_natives.proofs.Strings.{distinct_in}

few_fields : (name : Option Name) (c : Option Content) → length (fields_in name c) ≤ length (values_of c)
few_fields None c = omega arith
few_fields (Some (Made (Class class) k)) None = omega arith
few_fields (Some (Made (Class class) k)) (Some (Values vs)) = omega arith
few_fields (Some (Made (Class class) k)) (Some (Text units)) = omega arith
few_fields (Some (Made (Class class) k)) (Some Fixed) = omega arith
few_fields (Some (Made (Array type) k)) c = omega arith
few_fields (Some (Literal units)) c = omega arith
few_fields (Some (ClassObject type)) c = omega arith

take_set : (cs : List Content) (at count : ℕ) (c : Content) → count ≤ at → take count (slice_set cs at c) ≡ take count cs
take_set cs at zero c h = refl
take_set [] at (suc count) c h = refl
take_set (d ∷ cs) zero (suc count) c h = absurd (omega arith)
take_set (d ∷ cs) (suc at) (suc count) c h = ap (λ l. d ∷ l) (take_set cs at count c (omega arith))

-- ---- a field that an object lacks

unmapped : (o : Option ℕ) → option_map suc o ≡ None → o ≡ None
unmapped None same = refl
unmapped (Some p) same = absurd cc

lacked : (fs : List Reference) (hs : List Held) (r : Reference) (h : Held) → field_place fs r ≡ None → with_field (zip fs hs) r h ≡ zip fs hs
lacked [] hs r h none = refl
lacked (f ∷ fs) [] r h none = refl
lacked (f ∷ fs) (g ∷ hs) r h none = by (same_member f r) none (lacked fs hs r h) where
  by : (hit : Bool) → (if hit then Some 0 else option_map suc (field_place fs r)) ≡ None → (field_place fs r ≡ None → with_field (zip fs hs) r h ≡ zip fs hs) → (if hit then (r, h) ∷ zip fs hs else (f, g) ∷ with_field (zip fs hs) r h) ≡ (f, g) ∷ zip fs hs
  by true e rest = absurd cc
  by false e rest = ap (λ l. (f, g) ∷ l) (rest (unmapped (field_place fs r) e))

same_content : (cs : List Content) (at : ℕ) (c : Content) → slice_get cs at ≡ Some c → slice_set cs at c ≡ cs
same_content [] at c e = refl
same_content (d ∷ cs) zero c e = ap (λ x. x ∷ cs) (sym (same_Some d c e))
same_content (d ∷ cs) (suc at) c e = ap (λ l. d ∷ l) (same_content cs at c e)

settled_content : (n : ℕ) (cs : List Content) (at : ℕ) (c : Content) → slice_get cs at ≡ Some c → AllByRecursion (IsSettledContent n) cs → IsSettledContent n c
settled_content n [] at c e all = absurd (none-some c e)
settled_content n (d ∷ cs) zero c e all = subst (IsSettledContent n) (same_Some d c e) all.0
settled_content n (d ∷ cs) (suc at) c e all = settled_content n cs at c e all.1

-- a write to it does nothing to an object that was made
module _ (s : Setting) (things : Things) (others : Others) (w : World) (distinct : AreDistinct s.heads) (shares : Shares s things others w) (at class number : ℕ) (r : Reference) (h : Held)
    (made_so : slice_get things.names at ≡ Some (Made (Class (record { 0 = class })) number)) (none : field_place (s.classes.fields (name_at s.heads class)) r ≡ None) where
  abbrev maker : Maker
  maker = Class (record { 0 = class })

  abbrev object : Content → worlds.Object
  object c = object_of s.heads s.classes.fields things.names maker c

  stays_so : (c : Content) → stored (object c) r h ≡ object c
  stays_so (Values vs) = ap worlds.Instance (lacked (s.classes.fields (name_at s.heads class)) (map (held s.heads things.names) vs) r h none)
  stays_so (Text units) = refl
  stays_so Fixed = refl

  written_there : (c : Content) → slice_get things.contents at ≡ Some c → Shares s things others (write_field w (name_in s.heads (slice_get things.names at)) r h)
  written_there c there =
      let name = machine_name s.heads (Made maker number) in
      subst (λ (a : machine.Name). Shares s things others (write_field w a r h)) (sym (ap (name_in s.heads) made_so))
      (subst (λ (o : Option worlds.Object). Shares s things others (written w name r h o)) (sym (made_found s things others w at maker number c distinct shares made_so there))
      (subst (λ (o : worlds.Object). Shares s things others (record w { heap = with_changed w.heap name o })) (sym (stays_so c))
      (subst (λ (cs : List Content). Shares s (record things { contents = cs }) others (record w { heap = with_changed w.heap name (object c) })) (same_content things.contents at c there)
      (store_shares s things others w at maker number c distinct shares made_so (settled_content (length things.names) things.contents at c there shares.heap.objects.settled)))))

  lacking_shares : at < length things.names → Shares s things others (write_field w (name_in s.heads (slice_get things.names at)) r h)
  lacking_shares known =
      let whole = shares.heap.objects.whole in
      let content = content_at things.contents at (omega arith) in
      written_there content.0 content.1

-- the same answers are left
written_answers : (w : World) (a : machine.Name) (r : Reference) (h : Held) (o : Option worlds.Object) → (written w a r h o).answers ≡ w.answers
written_answers w a r h None = refl
written_answers w a r h (Some object) = refl

-- ---- an exception that is there

module _ (k : Known) (class : ClassId) (before : Things) (x text : Ref) (known : x.0 < length before.names) (there : text.0 < length before.names) where
  module _ (m : Machine) (others : Others) (w : World) (number : ℕ) (is : IsMachine k m) (made_so : slice_get before.names x.0 ≡ Some (Made (Class class) number)) (holds : Holds m before others w) where
    heads : name_at m.setting.heads class.0 ≡ name_at k.heads class.0
    heads = ap (λ (hs : List ClassHead). name_at hs class.0) is.heads

    fields : m.setting.classes.fields (name_at m.setting.heads class.0) ≡ fields_of_class k class.0
    fields = ap (λ (cs : Classes). cs.fields (name_at m.setting.heads class.0)) is.classes ∙ ap (classes_in k).fields heads

    of_class : class_of (name_of m.setting.heads before.names x) ≡ name_at m.setting.heads class.0
    of_class = ap (λ (o : Option Name). class_of (name_in m.setting.heads o)) made_so

    -- the object has so many fields
    enough : (p : ℕ) → field_place (fields_of_class k class.0) message_field ≡ Some p → p < length (fields_at before x.0)
    enough p at =
        let filled = holds.filled.each x.0 known in
        let below = place_below (fields_of_class k class.0) message_field p at in
        let all : length (m.setting.classes.fields (class_of (name_of m.setting.heads before.names x))) ≡ length (fields_of_class k class.0) = ap (λ n. length (m.setting.classes.fields n)) of_class ∙ ap (length {A = Reference}) fields in
        omega arith

  abbrev Kept : Things → Type 0
  Kept after = KeepsMessage k class before after x text

  abbrev HoldsAfter : Machine → Others → World → Type 0
  HoldsAfter m others w = Holds m before others (write_field w (name_of m.setting.heads before.names x) message_field (machine.Reference (name_of m.setting.heads before.names text)))

  -- the message has no place
  pub never_far : (count : ℕ) → count ≡ length (values_at before x.0) → count < 2 ^ 32 → (AreDistinct k.heads → IsPlace (fields_of_class k class.0) message_field None) → Kept before
  never_far count same few far = record {
    names = refl;
    contents = λ n h. refl;
    holds = λ m others w number is made_so holds. by m others w number is made_so holds (field_place (fields_of_class k class.0) message_field) refl;
  } where
    by : (m : Machine) (others : Others) (w : World) (number : ℕ) → IsMachine k m → slice_get before.names x.0 ≡ Some (Made (Class class) number) → Holds m before others w → (o : Option ℕ) → field_place (fields_of_class k class.0) message_field ≡ o
        → HoldsAfter m others w
    by m others w number is made_so holds (Some p) at =
        let past : 2 ^ 32 ≤ p = far is.distinct p at in
        let below = enough m others w number is made_so holds p at in
        let most = few_fields (slice_get before.names x.0) (slice_get before.contents x.0) in
        absurd (omega arith)
    by m others w number is made_so holds None at = record {
      shares = lacking_shares m.setting before others w (distinct_in k m is) holds.shares x.0 class.0 number message_field (machine.Reference (name_of m.setting.heads before.names text)) made_so
          (ap (λ (fs : List Reference). field_place fs message_field) (fields m others w number is made_so holds) ∙ at) known;
      filled = holds.filled;
    }

  module _ (index : ℕ) (is_place : AreDistinct k.heads → IsPlace (fields_of_class k class.0) message_field (Some index)) where
    -- the object has it
    pub never_short : (count : ℕ) → count ≡ length (values_at before x.0) → count ≤ index → Kept before
    never_short count same short = record {
      names = refl;
      contents = λ n h. refl;
      holds = λ m others w number is made_so holds.
          let below = enough m others w number is made_so holds index (is_place is.distinct) in
          let most = few_fields (slice_get before.names x.0) (slice_get before.contents x.0) in
          absurd (omega arith);
    }

    abbrev after : Things
    after = changed before x.0 (Values (slice_set (values_at before x.0) index (Pointer text)))

    pub message_kept : index < length (values_at before x.0) → Kept after
    message_kept within = record {
      names = refl;
      contents = λ n h. take_set before.contents x.0 n (Values (slice_set (values_at before x.0) index (Pointer text))) h;
      holds = λ m others w number is made_so holds.
          let at : field_place (m.setting.classes.fields (class_of (name_of m.setting.heads before.names x))) message_field ≡ Some index =
          ap (λ n. field_place (m.setting.classes.fields n) message_field) (of_class m others w number is made_so holds) ∙ ap (λ (fs : List Reference). field_place fs message_field) (fields m others w number is made_so holds) ∙ is_place is.distinct in
          record {
            shares = write_shares m.setting before others w (distinct_in k m is) holds.shares x.0 index message_field Element.Reference (Pointer text) at refl (lt-ltb text.0 (length before.names) there) known
                (enough m others w number is made_so holds index (is_place is.distinct));
            filled = stored_filled before x.0 index (Pointer text) within m.setting holds.filled;
          };
    }

-- ---- the exception with its message

module _ (k : Known) (runnable : IsRunnable k) (before one two after : Things) (class : ClassId) (units : List ℕ) (x text : Ref) (within : class.0 < length k.heads) (whole : length before.contents ≡ length before.names)
    (makes : Makes k class before one x) (string : MakesString k one units two text) (keeps : KeepsMessage k class two after x text) where
  abbrev first : Name
  first = next_name before.names (Class class)

  abbrev second : Name
  second = next_name one.names (Class string.class)

  at_end : x.0 ≡ length before.names
  at_end = ap (λ (p : ℕ × Things). p.0) makes.added

  names_one : one.names ≡ before.names ++ first ∷ []
  names_one = ap (λ (p : ℕ × Things). p.1.names) makes.added

  names_two : two.names ≡ one.names ++ second ∷ []
  names_two = ap (λ (p : ℕ × Things). p.1.names) string.added

  contents_one : one.contents ≡ before.contents ++ makes.content ∷ []
  contents_one = ap (λ (p : ℕ × Things). p.1.contents) makes.added

  contents_two : two.contents ≡ one.contents ++ Text units ∷ []
  contents_two = ap (λ (p : ℕ × Things). p.1.contents) string.added

  known_one : x.0 < length one.names
  known_one = let more = length-push before.names first in omega (arith, at_end, ap length names_one)

  pub exception_known : x.0 < length two.names
  exception_known = let more = length-push one.names second in omega (arith, known_one, ap length names_two)

  pub all_names : after.names ≡ before.names ++ (first ∷ second ∷ [])
  all_names = keeps.names ∙ names_two ∙ ap (λ (l : List Name). l ++ second ∷ []) names_one ∙ append_assoc before.names (first ∷ []) (second ∷ [])

  all_contents : take (length before.contents) after.contents ≡ before.contents
  all_contents =
      keeps.contents (length before.contents) (omega (arith, at_end, whole))
      ∙ ap (take (length before.contents)) (contents_two ∙ ap (λ (l : List Content). l ++ Text units ∷ []) contents_one ∙ append_assoc before.contents (makes.content ∷ []) (Text units ∷ []))
      ∙ take-append_seam before.contents (makes.content ∷ Text units ∷ [])

  grown : Grows before after
  grown = record { more = first ∷ second ∷ []; names = all_names; contents = all_contents }

  here : slice_get after.names x.0 ≡ Some (Made (Class class) (suc (made before.names (Class class))))
  here = ap (λ (l : List Name). slice_get l x.0) all_names ∙ ap (slice_get (before.names ++ (first ∷ second ∷ []))) at_end ∙ seam before.names first (second ∷ []) where
    seam : (xs : List Name) (y : Name) (ys : List Name) → slice_get (xs ++ y ∷ ys) (length xs) ≡ Some y
    seam [] y ys = refl
    seam (z ∷ xs) y ys = seam xs y ys

  class_there : is_some (place_of k.heads (class_of (name_of k.heads after.names x))) ≡ true
  class_there =
      ap (λ (o : Option Name). is_some (place_of k.heads (class_of (name_in k.heads o)))) here
      ∙ ap is_some (runnable.program.different class.0 within)

  pub thrown_comes : Comes k before (λ cs w. with_message units (make cs w (name_at k.heads class.0))) after (Throws x)
  thrown_comes = record {
    there = λ m others w is holds.
        let cs = m.setting.classes in
        let name = name_at k.heads class.0 in
        let heads = m.setting.heads in
        let new = makes.new m others w is holds in
        let w1 = (make cs w name).1 in
        let held : Holds m one others w1 = record { shares = new.shares; filled = makes.filled m others w is holds } in
        let string_new = string.new m others w1 is held in
        let a = (make cs w name).0 in
        let b = (add_text w1 units).0 in
        let w2 = (add_text w1 units).1 in
        let stays : name_of heads two.names x ≡ a = ap (λ (l : List Name). name_of heads l x) names_two ∙ name_stays heads one.names (second ∷ []) x (lt-ltb x.0 (length one.names) known_one) ∙ new.name in
        let kept = keeps.holds m others w2 (suc (made before.names (Class class))) is (ap (λ (l : List Name). slice_get l x.0) (sym keeps.names) ∙ here) string_new.holds in
        let at_x : name_of heads after.names x ≡ a = ap (λ (l : List Name). name_of heads l x) keeps.names ∙ stays in
        record {
          world = write_field w2 a message_field (machine.Reference b);
          same = ap (λ n. natives.Throws n (write_field w2 a message_field (machine.Reference b))) (sym at_x);
          holds = subst (λ n. Holds m after others (write_field w2 a message_field (machine.Reference n))) string_new.name
              (subst (λ n. Holds m after others (write_field w2 n message_field (machine.Reference (name_of heads two.names text)))) stays kept);
          kept = written_answers w2 a message_field (machine.Reference b) (object_at w2 a);
        };
    known = (let more = exception_known in omega (arith, more, ap length keeps.names), class_there);
    grows = grown;
  }
