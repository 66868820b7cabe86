-- What a call on null, on an object or on a token comes to.
use Rattle.std.specs.Prelude.{◌≡◌, ℕ, ◌<◌, Bool, true, false, if◌then◌else◌, nat_lt, List, map, length, Option, Some, None, refl}
use Rattle.std.specs.List.{AllByRecursion, list_all}
use Rattle.std.proofs.Common.{sym, ◌∙◌, ap}
use Rattle.aj_names.specs.declared.ids.ClassId.{ClassId}
use Rattle.aj_names.specs.declared.ids.MethodId.{MethodId}
use Rattle.class_file.specs.Pool.{Reference}
use Rattle.class_heads.specs.Hierarchy.{name_at}
use Rattle.class_world.specs.Tables.{Known}
use Rattle.class_machine.specs.ClassFiles.{Place, class_code}
use Rattle.class_machine.specs.Classes.{Method, is_among, is_constructor}
use Rattle.class_machine.specs.Effect as definition
use Rattle.class_machine.specs.Events as events
use Rattle.class_machine.specs.Turn as turns
use Rattle.class_machine.specs.Turn.{Turn, Link, Free, missing_member, resolved, linked, with_method, build, build_made, stops}
use Rattle.class_machine.specs.Values.{Held, Token as machine_token}
use Rattle.class_machine.specs.World.{World, make}
use Rattle.machine_values.specs.declared.frames.Frame.{Frame}
use Rattle.machine_values.specs.declared.names.Name.{Name}
use Rattle.machine_values.specs.declared.values.Ref.{Ref}
use Rattle.machine_values.specs.declared.values.Value.{Value}
use Rattle.machine_values.specs.Standing.{held, is_settled, Settled}
use Rattle.machine_values.specs.Things.{Things}
use Rattle.machine_frames.specs.declared.calls.Receiver.{Receiver}
use Rattle.machine_frames.specs.declared.calls.Receiver.TheVariants.{Object, Announced}
use Rattle.machine_invocations.specs.Methods.{classes_in}
use Rattle.machine_invokes.specs.declared.callees.Callee.TheVariants.{Missing, Breaks, Null}
use Rattle.machine_invokes.specs.declared.choosing.Choice.TheVariants as choice
use Rattle.machine_invokes.specs.Callees.{CalleeIs, RunsOn, Builds}
use Rattle.machine_invokes.proofs.Started.{all_hold}
use Rattle.machine_invokes.specs.Choosing.{FindsOne, FindsInstance, ChoosesNull, ChoosesOn, seen_as}

module _ (k : Known) (g : Frame) (names : List Name) (special : Bool) (r : Reference) (given : List Value) where
  abbrev given_held : List Held
  given_held = map (held k.heads names) given

  -- ---- null

  pub null_missing : ChoosesNull k g r choice.Missing → CalleeIs k g names special r (Object None) given Missing
  null_missing chooses fields methods there w = chooses fields methods names w special given_held

  pub null_breaks : ChoosesNull k g r choice.Breaks → CalleeIs k g names special r (Object None) given Breaks
  null_breaks chooses fields methods there w = chooses fields methods names w special given_held

  pub null_fails : (method : MethodId) → ChoosesNull k g r (choice.Runs method) → CalleeIs k g names special r (Object None) given Null
  null_fails method chooses fields methods there w = chooses fields methods names w special given_held

module _ (k : Known) (g : Frame) (heap : Things) (special : Bool) (r : Reference) (at : Ref) (given : List Value) where
  abbrev held_there : List Held
  held_there = map (held k.heads heap.names) given

  -- ---- an object

  pub unknown_object : nat_lt at.0 (length heap.names) ≡ false → CalleeIs k g heap.names special r (Object (Some at)) given Breaks
  unknown_object isnt fields methods there w = absurd (let e : true ≡ false = sym there.known ∙ isnt in cc)

  pub object_missing : ChoosesOn k g heap special at r choice.Missing → CalleeIs k g heap.names special r (Object (Some at)) given Missing
  object_missing chooses fields methods there w = chooses fields methods there.machine there.fit there.known w held_there

  pub object_breaks : ChoosesOn k g heap special at r choice.Breaks → CalleeIs k g heap.names special r (Object (Some at)) given Breaks
  object_breaks chooses fields methods there w = chooses fields methods there.machine there.fit there.known w held_there

  pub object_runs : (method : MethodId) → ChoosesOn k g heap special at r (choice.Runs method) → nat_lt at.0 (length heap.names) ≡ true → AllByRecursion (Settled (length heap.names)) given
      → RunsOn k g heap.names special r (Object (Some at)) given method.0 at
  object_runs method chooses known fine = record {
    receiver_is = refl;
    known = known;
    fine = fine;
    there = λ fields methods there.
        let chosen = chooses fields methods there.machine there.fit there.known in
        record { method = chosen.method; sees = chosen.sees; turn = λ w. chosen.turn w held_there; roomy = chosen.roomy };
  }

-- ---- a token

module _ (k : Known) (g : Frame) (names : List Name) (r : Reference) (class : ClassId) (number : ℕ) (given : List Value) where
  abbrev seen : (ℕ → Reference) → (ℕ → Reference) → turns.Frame Place
  seen fields methods = seen_as k g fields methods names

  abbrev token_held : List Held
  token_held = map (held k.heads names) given

  pub unspecial_breaks : (special : Bool) → special ≡ false → CalleeIs k g names special r (Announced class number) given Breaks
  unspecial_breaks true isnt fields methods there w = absurd (let e : true ≡ false = isnt in cc)
  unspecial_breaks false isnt fields methods there w = refl

  abbrev if_constructor : (ℕ → Reference) → (ℕ → Reference) → Bool → definition.Effect Place
  if_constructor fields methods b = if b then definition.Build r (name_at k.heads class.0) number token_held (seen fields methods).content else definition.Broken

  pub other_breaks : (special : Bool) → special ≡ true → is_constructor r ≡ false → CalleeIs k g names special r (Announced class number) given Breaks
  other_breaks false holds isnt fields methods there w = absurd (let e : false ≡ true = holds in cc)
  other_breaks true holds isnt fields methods there w = ap (λ (b : Bool). resolved (class_code k.files) (classes_in k) (seen fields methods) w (if_constructor fields methods b)) isnt

  abbrev building : (ℕ → Reference) → (ℕ → Reference) → World → Link → Turn Place
  building fields methods w link =
      linked (class_code k.files) (classes_in k) (seen fields methods) w (definition.Build r (name_at k.heads class.0) number token_held (seen fields methods).content) link

  abbrev found_link : Option Method → Link
  found_link o = turns.instance_method (class_code k.files) (classes_in k) r o

  pub token_missing : (special : Bool) → special ≡ true → is_constructor r ≡ true → FindsInstance k r None → CalleeIs k g names special r (Announced class number) given Missing
  token_missing false holds is none fields methods there w = absurd (let e : false ≡ true = holds in cc)
  token_missing true holds is none fields methods there w =
      ap (λ (b : Bool). resolved (class_code k.files) (classes_in k) (seen fields methods) w (if_constructor fields methods b)) is ∙ ap (building fields methods w) none

  abbrev if_upward : (ℕ → Reference) → (ℕ → Reference) → World → Method → Bool → Turn Place
  if_upward fields methods w m b =
      if b then build_made (class_code k.files) (classes_in k) (seen fields methods) (seen fields methods).content r number m token_held (make (classes_in k) w (name_at k.heads class.0)) else stops events.Broken

  found_builds : (found : ℕ) (one : FindsOne k r found) (upward : Bool) (fields methods : ℕ → Reference) (w : World) → is_among ((classes_in k).superclasses (name_at k.heads class.0)) one.method.name.class ≡ upward
      → building fields methods w (found_link ((classes_in k).method r)) ≡ if_upward fields methods w one.method upward
  found_builds found one upward fields methods w is =
      ap (building fields methods w) (ap found_link one.found ∙ ap (λ (b : Bool). if b then missing_member r else Free) one.instance)
      ∙ ap (λ (o : Option Method). with_method (class_code k.files) (classes_in k) o (λ m. build (class_code k.files) (classes_in k) (seen fields methods) (seen fields methods).content w r (name_at k.heads class.0) number m token_held)) one.found
      ∙ ap (if_upward fields methods w one.method) is

  module _ (special : Bool) (found : ℕ) (one : FindsOne k r found) (upward : Bool) (holds : special ≡ true) (is : is_constructor r ≡ true)
      (reaches : is_among ((classes_in k).superclasses (name_at k.heads class.0)) one.method.name.class ≡ upward) where
    token_turn : (x : Bool) → x ≡ true → (fields methods : ℕ → Reference) (w : World)
        → resolved (class_code k.files) (classes_in k) (seen fields methods) w (definition.received x r (machine_token (name_at k.heads class.0) number) token_held (seen fields methods).content) ≡ if_upward fields methods w one.method upward
    token_turn false e fields methods w = absurd (let bad : false ≡ true = e in cc)
    token_turn true e fields methods w =
        ap (λ (b : Bool). resolved (class_code k.files) (classes_in k) (seen fields methods) w (if_constructor fields methods b)) is ∙ found_builds found one upward fields methods w reaches

    pub token_breaks : upward ≡ false → CalleeIs k g names special r (Announced class number) given Breaks
    token_breaks isnt fields methods there w = token_turn special holds fields methods w ∙ ap (if_upward fields methods w one.method) isnt

    pub token_builds : upward ≡ true → class.0 < length k.heads → AllByRecursion (Settled (length names)) given → Builds k g names special r (Announced class number) given found class number
    token_builds does within fine = record {
      receiver_is = refl;
      within = within;
      fine = fine;
      there = λ fields methods there. record {
        method = one.method;
        sees = one.sees;
        turn = λ w. token_turn special holds fields methods w ∙ ap (if_upward fields methods w one.method) does;
      };
    }

-- ---- arguments that aren't fine

pub unfine_breaks : (k : Known) (g : Frame) (names : List Name) (special : Bool) (r : Reference) (receiver : Receiver) (given : List Value) → list_all (is_settled (length names)) given ≡ false → CalleeIs k g names special r receiver given Breaks
unfine_breaks k g names special r receiver given isnt fields methods there w = absurd (let e : true ≡ false = sym (all_hold (is_settled (length names)) given there.fine) ∙ isnt in cc)
