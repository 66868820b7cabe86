-- What the machine reads as the message of an exception.
use Rattle.std.specs.Prelude.{◌≡◌, ℕ, zero, suc, ◌+◌, ◌<◌, ◌≤◌, ◌^◌, Bool, true, false, if◌then◌else◌, nat_lt, List, [], ◌∷◌, length, slice_get, Option, Some, None, option_map, unwrap_or, refl}
use Rattle.std.specs.List.{AllByRecursion}
use Rattle.std.proofs.Common.{sym, ◌∙◌, ap, subst, arith}
use Rattle.std.proofs.lemmas.Bool.{ltb-true}
use Rattle.std.proofs.lemmas.Option.{none-some, same_Some}
use Rattle.class_file.specs.Pool.{Reference}
use Rattle.class_heads.specs.Hierarchy.{name_at}
use Rattle.class_world.specs.Tables.{Known}
use Rattle.class_machine.specs.Values as machine
use Rattle.class_machine.specs.Values.{class_of}
use Rattle.class_machine.specs.Classes.{same_member, Classes}
use Rattle.class_machine.specs.World as worlds
use Rattle.class_machine.specs.World.{World, text_of, read_field, units_at, message_field, message_of}
use Rattle.class_machine.specs.Machine.{State}
use Rattle.class_machine.specs.ClassFiles.{Place, field_constant}
use Rattle.class_machine.specs.Declarations.{classes_of}
use Rattle.machine_values.specs.declared.values.Ref.{Ref}
use Rattle.machine_values.specs.declared.values.Value.{Value}
use Rattle.machine_values.specs.declared.values.Value.TheVariants as value
use Rattle.machine_values.specs.declared.names.Maker.TheVariants.{Class, Array}
use Rattle.machine_values.specs.declared.names.Name.{Name}
use Rattle.machine_values.specs.declared.names.Name.TheVariants.{Made, Literal, ClassObject}
use Rattle.machine_values.specs.declared.content.Content.{Content}
use Rattle.machine_values.specs.declared.content.Content.TheVariants.{Values, Text, Fixed}
use Rattle.machine_values.specs.declared.script.Answer.{Answer}
use Rattle.machine_values.specs.declared.state.MachineState.{MachineState}
use Rattle.machine_values.specs.Things.{Things, values_of, values_at}
use Rattle.machine_values.specs.Standing.{name_in, name_of, held, Settled, IsSettledContent}
use Rattle.machine_requests.specs.Telling.{AreDistinct}
use Rattle.machine_requests.specs.Objects.{fields_in, fields_at, field_place}
use Rattle.machine_requests.specs.Shares.{Setting, Others, Shares, others_of}
use Rattle.machine_requests.specs.Texts.{text_seen}
use Rattle.machine_fields.specs.Positions.{IsPlace, fields_of_class}
use Rattle.machine_steps.specs.Programs.{Machine, IsMachine}
use Rattle.machine_steps.specs.Runs.{Runs}
use Rattle.machine_steps.specs.Messages.{IsOf, HasMessage, text_in, field_value}

-- ---- values of fields

settled_at : (n : ℕ) (vs : List Value) (i : ℕ) → AllByRecursion (Settled n) vs → Settled n (unwrap_or (slice_get vs i) value.Null)
settled_at n [] i h = refl
settled_at n (v ∷ vs) zero h = h.0
settled_at n (v ∷ vs) (suc i) h = settled_at n vs i h.1

content_settled : (n : ℕ) (cs : List Content) (at : ℕ) (name : Option Name) → AllByRecursion (IsSettledContent n) cs → AllByRecursion (Settled n) (fields_in name (slice_get cs at))
content_settled n [] at None h = tt
content_settled n [] at (Some name) h = none_held name where
  none_held : (name : Name) → AllByRecursion (Settled n) (fields_in (Some name) None)
  none_held (Made (Class class) k) = tt
  none_held (Made (Array type) k) = tt
  none_held (Literal units) = tt
  none_held (ClassObject type) = tt
content_settled n (c ∷ cs) zero name h = held_by name c h.0 where
  held_by : (name : Option Name) (c : Content) → IsSettledContent n c → AllByRecursion (Settled n) (fields_in name (Some c))
  held_by None c h = tt
  held_by (Some (Made (Class class) k)) (Values vs) h = h
  held_by (Some (Made (Class class) k)) (Text units) h = tt
  held_by (Some (Made (Class class) k)) Fixed h = tt
  held_by (Some (Made (Array type) k)) c h = tt
  held_by (Some (Literal units)) c h = tt
  held_by (Some (ClassObject type)) c h = tt
content_settled n (c ∷ cs) (suc at) name h = content_settled n cs at name h.1

few_fields : (name : Option Name) (c : Option Content) → length (fields_in name c) ≤ length (values_of c)
few_fields None c = omega arith
few_fields (Some (Made (Class class) k)) None = omega arith
few_fields (Some (Made (Class class) k)) (Some (Values vs)) = omega arith
few_fields (Some (Made (Class class) k)) (Some (Text units)) = omega arith
few_fields (Some (Made (Class class) k)) (Some Fixed) = omega arith
few_fields (Some (Made (Array type) k)) c = omega arith
few_fields (Some (Literal units)) c = omega arith
few_fields (Some (ClassObject type)) c = omega arith

place_below : (fs : List Reference) (r : Reference) (p : ℕ) → field_place fs r ≡ Some p → p < length fs
place_below [] r p at = absurd (none-some p at)
place_below (f ∷ fs) r p at = by (same_member f r) refl (λ q e. place_below fs r q e) where
  later : (o : Option ℕ) → option_map suc o ≡ Some p → ((q : ℕ) → o ≡ Some q → q < length fs) → p < suc (length fs)
  later None e rest = absurd (none-some p e)
  later (Some q) e rest = let same = same_Some (suc q) p e in let below = rest q refl in omega arith

  by : (b : Bool) → same_member f r ≡ b → ((q : ℕ) → field_place fs r ≡ Some q → q < length fs) → p < suc (length fs)
  by true e rest = let same = same_Some 0 p (ap (λ (hit : Bool). if hit then Some 0 else option_map suc (field_place fs r)) (sym e) ∙ at) in omega arith
  by false e rest = later (field_place fs r) (ap (λ (hit : Bool). if hit then Some 0 else option_map suc (field_place fs r)) (sym e) ∙ at) rest

-- ---- the message

module _ (k : Known) (state : MachineState) (x : Ref) (class : ℕ) (known : x.0 < length state.heap.names) (of : IsOf k state x class) (m : Machine) (answers : List Answer) (t : State Place) (is : IsMachine k m) (runs : Runs m state answers t) where
  abbrev name : machine.Name
  name = name_of m.setting.heads state.heap.names x

  distinct : AreDistinct m.setting.heads
  distinct = subst AreDistinct (sym is.heads) is.distinct

  fields : m.setting.classes.fields (class_of name) ≡ fields_of_class k class
  fields = ap (λ (cs : Classes). cs.fields (class_of name)) is.classes ∙ ap (classes_of k.heads (length k.files) (field_constant k.files)).fields (of m answers t is runs)

  -- where the field has no place among those of the class
  pub no_message : ((s : Setting) (things : Things) (others : Others) (w : World) (at : ℕ) (r : Reference) → AreDistinct s.heads → Shares s things others w → at < length things.names
      → field_place (s.classes.fields (class_of (name_in s.heads (slice_get things.names at)))) r ≡ None → read_field w (name_in s.heads (slice_get things.names at)) r ≡ machine.Null)
      → IsPlace (fields_of_class k class) message_field None → length (values_at state.heap x.0) < 2 ^ 32 → message_of t.world name ≡ None
  no_message law far few =
      ap (text_of t.world) (law m.setting state.heap (others_of state) t.world x.0 message_field distinct runs.shares known (by (field_place (m.setting.classes.fields (class_of name)) message_field) refl)) where
        by : (o : Option ℕ) → field_place (m.setting.classes.fields (class_of name)) message_field ≡ o → o ≡ None
        by None at = refl
        by (Some p) at =
            let past : 2 ^ 32 ≤ p = far p (ap (λ (fs : List Reference). field_place fs message_field) (sym fields) ∙ at) in
            let below = place_below (m.setting.classes.fields (class_of name)) message_field p at in
            let filled = runs.filled.each x.0 known in
            let most = few_fields (slice_get state.heap.names x.0) (slice_get state.heap.contents x.0) in
            absurd (omega arith)

  text_held : (v : Value) → Settled (length state.heap.names) v
      → ((at : ℕ) → at < length state.heap.names → units_at t.world (name_in m.setting.heads (slice_get state.heap.names at)) ≡ text_seen (slice_get state.heap.names at) (slice_get state.heap.contents at))
      → text_of t.world (held m.setting.heads state.heap.names v) ≡ text_in state.heap v
  text_held (value.Reference at) settled read = read at.0 (ltb-true at.0 (length state.heap.names) settled)
  text_held (value.Int n) settled read = refl
  text_held (value.Long n) settled read = refl
  text_held (value.Float bits) settled read = refl
  text_held (value.Double bits) settled read = refl
  text_held value.Null settled read = refl
  text_held (value.Token class number) settled read = refl
  text_held (value.ReturnAddress pc) settled read = refl

  pub some_message : (index : ℕ)
      → ((s : Setting) (things : Things) (others : Others) (w : World) (at p : ℕ) (r : Reference) → AreDistinct s.heads → Shares s things others w → at < length things.names
      → field_place (s.classes.fields (class_of (name_in s.heads (slice_get things.names at)))) r ≡ Some p → read_field w (name_in s.heads (slice_get things.names at)) r ≡ held s.heads things.names (unwrap_or (slice_get (fields_at things at) p) value.Null))
      → ((s : Setting) (things : Things) (others : Others) (w : World) (at : ℕ) → AreDistinct s.heads → Shares s things others w → at < length things.names
      → units_at w (name_in s.heads (slice_get things.names at)) ≡ text_seen (slice_get things.names at) (slice_get things.contents at))
      → IsPlace (fields_of_class k class) message_field (Some index) → message_of t.world name ≡ text_in state.heap (field_value state.heap x.0 index)
  some_message index reads texts place =
      let v = field_value state.heap x.0 index in
      let here = ap (λ (fs : List Reference). field_place fs message_field) fields ∙ place in
      ap (text_of t.world) (reads m.setting state.heap (others_of state) t.world x.0 index message_field distinct runs.shares known here)
      ∙ text_held v (settled_at (length state.heap.names) (fields_at state.heap x.0) index (content_settled (length state.heap.names) state.heap.contents x.0 (slice_get state.heap.names x.0) runs.shares.heap.objects.settled))
      (λ at below. texts m.setting state.heap (others_of state) t.world at distinct runs.shares below)
