-- What objects are shown as.
use Rattle.std.specs.Prelude.{◌≡◌, ℕ, Bool, true, false, if◌then◌else◌, List, [], length, slice_get, Option, Some, unwrap_or, refl}
use Rattle.std.proofs.Common.{sym, ap, ◌∙◌, subst}
use Rattle.std.specs.Str.{bytes_eq}
use Rattle.std.proofs.lemmas.Bool.{ltb-true}
use Rattle.aj_names.specs.declared.ids.ClassId.{ClassId}
use Rattle.aj_names.specs.declared.types.FieldType.{FieldType}
use Rattle.class_heads.specs.declared.types.ClassHead.{ClassHead}
use Rattle.class_heads.specs.Hierarchy.{is_array, name_at}
use Rattle.class_world.specs.Tables.{Known}
use Rattle.class_machine.specs.Events as events
use Rattle.class_machine.specs.Values as machine
use Rattle.class_machine.specs.Values.{string_class}
use Rattle.class_machine.specs.World as worlds
use Rattle.class_machine.specs.World.{World, units_at, shown, shown_object}
use Rattle.machine_values.specs.declared.content.Content.{Content}
use Rattle.machine_values.specs.declared.content.Content.TheVariants.{Values, Text, Fixed}
use Rattle.machine_values.specs.declared.names.Maker.TheVariants.{Class, Array}
use Rattle.machine_values.specs.declared.names.Name.{Name}
use Rattle.machine_values.specs.declared.names.Name.TheVariants.{Made, Literal, ClassObject}
use Rattle.machine_values.specs.declared.observed.Shown.{Shown}
use Rattle.machine_values.specs.declared.observed.Shown.TheVariants as seen
use Rattle.machine_values.specs.declared.values.Ref.{Ref}
use Rattle.machine_values.specs.declared.values.Value.TheVariants.{Reference as Pointer}
use Rattle.machine_values.specs.Observed.{machine_shown}
use Rattle.machine_values.specs.Standing.{name_in, machine_name, object_of}
use Rattle.machine_values.specs.Things.{Things}
use Rattle.machine_values.specs.Types.{type_name}
use Rattle.machine_requests.specs.Shares.{Setting, Others, Shares}
use Rattle.machine_requests.specs.Telling.{is_plain_base, AreDistinct}
use Rattle.machine_requests.specs.TellingLaws.{plain_no_array, array_is_array, fit_at}
use Rattle.machine_requests.proofs.Found.{made_found}
use Rattle.std.proofs.lemmas.Bool.{and_parts}
use Rattle.std.specs.Prelude.{nat_lt}
use Rattle.machine_steps.specs.Programs.{Machine, IsMachine}
use Rattle.machine_invocations.specs.Showing.{Shows, units_in}

text_of : (s : Setting) (names : List Name) (class : ClassId) (c : Content) → unwrap_or (worlds.text_in (Some (object_of s.heads s.classes.fields names (Class class) c))) [] ≡ units_in c
text_of s names class (Values values) = refl
text_of s names class (Text units) = refl
text_of s names class Fixed = refl

module _ (k : Known) (things : Things) (at : Ref) where
  -- by the name that stands there
  by_name : (result : Shown) (name : Name) → slice_get things.names at.0 ≡ Some name
      → ((m : Machine) (others : Others) (w : World) → IsMachine k m → Shares m.setting things others w → machine_shown result ≡ shown_object w (machine_name m.setting.heads name)) → Shows k things (Pointer at) result
  by_name result name there shows m others w is shares = shows m others w is shares ∙ sym (ap (λ (o : Option Name). shown_object w (name_in m.setting.heads o)) there)

  pub shows_literal : (units : List ℕ) (text : List ℕ) → slice_get things.names at.0 ≡ Some (Literal units) → text ≡ units → Shows k things (Pointer at) (seen.Text text)
  shows_literal units text there same = by_name (seen.Text text) (Literal units) there (λ m others w is shares. ap events.Text same)

  pub shows_class : (type shown_type : FieldType) → slice_get things.names at.0 ≡ Some (ClassObject type) → shown_type ≡ type → Shows k things (Pointer at) (seen.ClassObject shown_type)
  shows_class type shown_type there same = by_name (seen.ClassObject shown_type) (ClassObject type) there (λ m others w is shares. ap (λ (t : FieldType). events.ClassObject (type_name t)) same)

  array_shown : (w : World) (type : List ℕ) (n : ℕ) → is_array type ≡ true → events.Array type n ≡ shown_object w (machine.Made type n)
  array_shown w type n array = sym (ap (λ (b : Bool). if b then events.Array type n else (if bytes_eq type string_class then events.Text (unwrap_or (units_at w (machine.Made type n)) []) else events.Object type n)) array)

  pub shows_array : (type shown_type : FieldType) (n : ℕ) → slice_get things.names at.0 ≡ Some (Made (Array type) n) → shown_type ≡ type → Shows k things (Pointer at) (seen.Array shown_type n)
  shows_array type shown_type n there same = by_name (seen.Array shown_type n) (Made (Array type) n) there (λ m others w is shares.
      let fit = fit_at m.setting.heads (subst AreDistinct (sym is.heads) is.distinct) things.names at.0 (Made (Array type) n) shares.fit there in
      ap (λ (t : FieldType). events.Array (type_name t) n) same ∙ array_shown w (type_name type) n (array_is_array type (and_parts (is_plain_base type.base) (nat_lt 0 type.dims) fit).1))

  module _ (class : ClassId) (n : ℕ) (there : slice_get things.names at.0 ≡ Some (Made (Class class) n)) where
    by_class : (w : World) (name : List ℕ) → is_array name ≡ false → (if bytes_eq name string_class then events.Text (unwrap_or (units_at w (machine.Made name n)) []) else events.Object name n) ≡ shown_object w (machine.Made name n)
    by_class w name plain = sym (ap (λ (b : Bool). if b then events.Array name n else (if bytes_eq name string_class then events.Text (unwrap_or (units_at w (machine.Made name n)) []) else events.Object name n)) plain)

    plain_name : (heads : List ClassHead) → AreDistinct heads → nat_lt class.0 (length heads) ≡ true → is_array (name_at heads class.0) ≡ false
    plain_name heads distinct fit = plain_no_array (name_at heads class.0) (distinct.plain class.0 (ltb-true class.0 (length heads) fit))

    pub shows_text : (text : List ℕ) (c : Content) → slice_get things.contents at.0 ≡ Some c → bytes_eq (name_at k.heads class.0) string_class ≡ true → text ≡ units_in c → Shows k things (Pointer at) (seen.Text text)
    shows_text text c holds string same = by_name (seen.Text text) (Made (Class class) n) there (λ m others w is shares.
        let s = m.setting in
        let distinct = subst AreDistinct (sym is.heads) is.distinct in
        let fit = fit_at s.heads distinct things.names at.0 (Made (Class class) n) shares.fit there in
        let name = name_at s.heads class.0 in
        let found = made_found s things others w at.0 (Class class) n c distinct shares there holds in
        ap events.Text (same ∙ sym (ap (λ o. unwrap_or (worlds.text_in o) []) found ∙ text_of s things.names class c))
        ∙ sym (ap (λ (b : Bool). if b then events.Text (unwrap_or (units_at w (machine.Made name n)) []) else events.Object name n) (ap (λ (heads : List ClassHead). bytes_eq (name_at heads class.0) string_class) is.heads ∙ string))
        ∙ by_class w name (plain_name s.heads distinct fit))

    pub shows_object : (shown_name : List ℕ) → bytes_eq (name_at k.heads class.0) string_class ≡ false → shown_name ≡ name_at k.heads class.0 → Shows k things (Pointer at) (seen.Object shown_name n)
    shows_object shown_name other same = by_name (seen.Object shown_name n) (Made (Class class) n) there (λ m others w is shares.
        let s = m.setting in
        let distinct = subst AreDistinct (sym is.heads) is.distinct in
        let fit = fit_at s.heads distinct things.names at.0 (Made (Class class) n) shares.fit there in
        let name = name_at s.heads class.0 in
        ap (λ (x : List ℕ). events.Object x n) (same ∙ sym (ap (λ (heads : List ClassHead). name_at heads class.0) is.heads))
        ∙ sym (ap (λ (b : Bool). if b then events.Text (unwrap_or (units_at w (machine.Made name n)) []) else events.Object name n) (ap (λ (heads : List ClassHead). bytes_eq (name_at heads class.0) string_class) is.heads ∙ other))
        ∙ by_class w name (plain_name s.heads distinct fit))
