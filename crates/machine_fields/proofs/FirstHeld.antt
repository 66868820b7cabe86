-- What the machine has a static field hold from the start.
use Rattle.std.specs.Prelude.{◌≡◌, ℕ, zero, suc, ◌≤◌, Bool, true, false, if◌then◌else◌, List, [], ◌∷◌, ◌++◌, length, slice_get, Option, Some, None, option_and_then, refl}
use Rattle.std.specs.Option.{option_map, unwrap_or}
use Rattle.std.proofs.Common.{sym, ◌∙◌, ap, subst, arith}
use Rattle.std.proofs.lemmas.Bool.{lt-ltb, le-ltb}
use Rattle.std.proofs.lemmas.Option.{none-some, slice_get_within}
use Rattle.class_file.specs.declared.types.ClassFile.{ClassFile}
use Rattle.class_file.specs.Pool.{Reference}
use Rattle.class_heads.specs.declared.types.FieldHead.{FieldHead}
use Rattle.class_heads.specs.declared.types.ClassHead.{ClassHead}
use Rattle.class_heads.specs.Hierarchy.{name_at, place_of}
use Rattle.class_machine.specs.Values as machine
use Rattle.class_machine.specs.Classes.{same_member}
use Rattle.class_machine.specs.ClassFiles.{constant_declared, field_constant}
use Rattle.class_machine.specs.Declarations.{declared_in, output_field, library_constant, initial_at}
use Rattle.class_machine.specs.Descriptors.{blank, element_of}
use Rattle.class_machine.specs.Start.{output}
use Rattle.class_machine.specs.World.{World}
use Rattle.class_world.specs.Tables.{Known}
use Rattle.machine_values.specs.declared.values.Ref.{Ref}
use Rattle.machine_values.specs.declared.values.Value.{Value}
use Rattle.machine_values.specs.declared.values.Value.TheVariants.{Reference as Pointer}
use Rattle.machine_values.specs.declared.names.Name.{Name}
use Rattle.machine_values.specs.Standing.{held, is_settled}
use Rattle.machine_values.specs.Things.{Things}
use Rattle.machine_requests.specs.Objects.{IsThere}
use Rattle.machine_requests.specs.Replies.{IsLonger}
use Rattle.machine_requests.specs.Shares.{Setting, Others, Shares}
use Rattle.machine_requests.specs.Telling.{AreDistinct}
use Rattle.machine_fields.specs.Constants.{named_type, IsHeld, IsDeclared}
use Rattle.machine_fields.specs.Settings.{world_setting}

-- ---- values

pub plain_held : (s : Setting) (h : machine.Held) (things : Things) (others : Others) (w : World) (v : Value) → ((heads : List ClassHead) (names : List Name) → held heads names v ≡ h) → ((count : ℕ) → is_settled count v ≡ true) → Shares s things others w
    → IsHeld s h things others w v
plain_held s h things others w v is settled shares = record { same = is s.heads things.names; settled = settled (length things.names); shares = shares }

pub there_held : (s : Setting) (name : machine.Name) (things : Things) (others : Others) (w : World) (at : Ref) → IsThere s name things others w at → IsHeld s (machine.Reference name) things others w (Pointer at)
there_held s name things others w at h = record { same = ap machine.Reference h.named; settled = h.within; shares = h.shares }

pub another : (s : Setting) (h k : machine.Held) (things : Things) (others : Others) (w : World) (v : Value) → h ≡ k → IsHeld s h things others w v → IsHeld s k things others w v
another s h k things others w v e is = subst (λ (x : machine.Held). IsHeld s x things others w v) e is

pub same_longer : (things : Things) → IsLonger things things
same_longer things = ([], sym (append-nil things.names)) where
  append-nil : (xs : List Name) → xs ++ [] ≡ xs
  append-nil [] = refl
  append-nil (x ∷ xs) = ap (λ l. x ∷ l) (append-nil xs)

-- ---- what the machine has

past : {X : Type 0} (xs : List X) (i : ℕ) → slice_get xs i ≡ None → length xs ≤ i
past [] i e = omega arith
past (x ∷ xs) zero e = absurd (none-some x (sym e))
past (x ∷ xs) (suc i) e = let rest = past xs i e in omega arith

abbrev by_place : Known → Reference → Option ℕ → machine.Held
by_place known r o = unwrap_or (option_and_then (initial_at known.heads (length known.files) (field_constant known.files) r) o) (blank (element_of r.member.descriptor))

module _ (known : Known) (place position : ℕ) (head : ClassHead) (field : FieldHead) (distinct : AreDistinct known.heads) (is : IsDeclared known place position head field) where
  abbrev r : Reference
  r = declared_in head.name field.name

  placed : place_of known.heads head.name ≡ Some place
  placed =
      let named : name_at known.heads place ≡ head.name = ap (λ (o : Option ClassHead). unwrap_or (option_map (λ (c : ClassHead). c.name) o) []) is.class in
      ap (place_of known.heads) (sym named) ∙ distinct.different place (slice_get_within known.heads place head is.class)

  -- of a given class
  pub given_initial : (file : ClassFile) (o : Option machine.Held) → slice_get known.files place ≡ Some file → o ≡ constant_declared (named_type field.name.name field.name.descriptor) file
      → unwrap_or o (blank (element_of field.name.descriptor)) ≡ (world_setting known).classes.initial r
  given_initial file o at e =
      let within = slice_get_within known.files place file at in
      let given : initial_at known.heads (length known.files) (field_constant known.files) r place ≡ o =
      ap (λ (b : Bool). if b then field_constant known.files r else library_constant r) (lt-ltb place (length known.files) within)
      ∙ ap (option_and_then (constant_declared r.member)) (is.file ∙ at) ∙ sym e in
      sym (ap (by_place known r) placed ∙ ap (λ (x : Option machine.Held). unwrap_or x (blank (element_of field.name.descriptor))) given)

  -- of a class of the library
  pub library_initial : (b : Bool) → slice_get known.files place ≡ None → same_member r output_field ≡ b → (if b then machine.Reference output else blank (element_of field.name.descriptor)) ≡ (world_setting known).classes.initial r
  library_initial b none e =
      let beyond = past known.files place none in
      let library : initial_at known.heads (length known.files) (field_constant known.files) r place ≡ (if b then Some (machine.Reference output) else None) =
      ap (λ (x : Bool). if x then field_constant known.files r else library_constant r) (le-ltb place (length known.files) beyond)
      ∙ ap (λ (x : Bool). if x then Some (machine.Reference output) else None) e in
      sym (ap (by_place known r) placed ∙ ap (λ (x : Option machine.Held). unwrap_or x (blank (element_of field.name.descriptor))) library ∙ chosen b) where
        chosen : (x : Bool) → unwrap_or (if x then Some (machine.Reference output) else None) (blank (element_of field.name.descriptor)) ≡ (if x then machine.Reference output else blank (element_of field.name.descriptor))
        chosen true = refl
        chosen false = refl
