-- New exceptions, without their messages.
use Rattle.std.specs.Prelude.{◌≡◌, ℕ, ◌<◌, Bool, true, false, List, [], length, Result, Ok, Err, IfOk}
use Rattle.std.specs.List.{flat_map}
use Rattle.std.proofs.Common.{sym, ap, ◌∙◌, subst}
use Rattle.aj_names.specs.declared.ids.ClassId.{ClassId}
use Rattle.aj_names.specs.declared.types.FieldType.{FieldType}
use Rattle.class_file.specs.Pool.{Reference}
use Rattle.class_heads.specs.declared.types.ClassHead.{ClassHead}
use Rattle.class_heads.specs.Hierarchy.{name_at, superclasses}
use Rattle.class_world.specs.Tables.{Known}
use Rattle.class_machine.specs.Classes.{Classes}
use Rattle.class_machine.specs.World.{World, is_text_class}
use Rattle.machine_values.specs.declared.content.Content.TheVariants.{Text}
use Rattle.machine_values.specs.declared.names.Maker.TheVariants.{Class}
use Rattle.machine_values.specs.declared.values.Ref.{Ref}
use Rattle.machine_values.specs.Things.{Things, next_name, with_made}
use Rattle.machine_requests.specs.Objects as requests
use Rattle.machine_requests.specs.Objects.{new_content, AreFilled}
use Rattle.machine_requests.specs.Shares.{Others}
use Rattle.machine_requests.proofs.Fills.{grown_filled}
use Rattle.machine_fields.specs.NewObjects.{held_by, asked_by}
use Rattle.machine_fields.specs.Positions.{in_place}
use Rattle.machine_fields.proofs.NewOnes.{makes_of, keeps_filled}
use Rattle.machine_steps.specs.Programs.{IsRunnable, Machine, IsMachine}
use Rattle.machine_steps.proofs.Settings.{setting_of}
use Rattle.machine_invocations.specs.Methods.{classes_in}
use Rattle.machine_natives.specs.Throwables.{Holds, Makes}
use Rattle.machine_natives.proofs.Library.{text_fields}

pub both_ok : {X E : Type 0} (r : Result X E) (P Q R : X → Type 0) → ((x : X) → P x → Q x → R x) → IfOk r P → IfOk r Q → IfOk r R
both_ok (Ok x) P Q R from p q = from x p q
both_ok (Err e) P Q R from p q = tt

module _ (k : Known) (runnable : IsRunnable k) (class : ClassId) (types : List FieldType) (before : Things) (within : class.0 < length k.heads) (of_types : held_by types ≡ asked_by (flat_map (in_place k.heads) (superclasses k.heads class.0))) where
  -- each object has a value for each field of its class still
  still_filled : (text : Bool) (after : Things) (at : Ref) → text ≡ is_text_class (name_at k.heads class.0) → (at.0, after) ≡ with_made before (Class class) (new_content text types)
      → (m : Machine) (others : Others) (w : World) → IsMachine k m → Holds m before others w → AreFilled after m.setting
  still_filled true after at of_text put m others w is holds =
      let name : name_at m.setting.heads class.0 ≡ name_at k.heads class.0 = ap (λ (heads : List ClassHead). name_at heads class.0) is.heads in
      let fields : m.setting.classes.fields (name_at m.setting.heads class.0) ≡ [] =
      ap (λ (cs : Classes). cs.fields (name_at m.setting.heads class.0)) is.classes ∙ ap (classes_in k).fields name ∙ text_fields k runnable (name_at k.heads class.0) (sym of_text) in
      subst (λ (p : ℕ × Things). AreFilled p.1 m.setting) (sym put)
      (grown_filled before (next_name before.names (Class class)) (Text []) m.setting holds.shares.heap.objects.whole holds.filled (sym (ap (length {A = Reference}) fields)))
  still_filled false after at of_text put m others w is holds = keeps_filled k class types false before after at.0 within of_text of_types put m.setting others w (setting_of k m is) (sym of_text) holds.shares holds.filled

  pub exception_made : (text : Bool) (seen : List FieldType) (after : Things) (at : Ref) → text ≡ is_text_class (name_at k.heads class.0) → seen ≡ types → (at.0, after) ≡ with_made before (Class class) (new_content text seen)
      → ((others : Others) → requests.Makes class.0 text seen before others after at) → Makes k class before after at
  exception_made text seen after at of_text same added makes =
      let made : (others : Others) → requests.Makes class.0 text types before others after at = λ others. subst (λ (ts : List FieldType). requests.Makes class.0 text ts before others after at) same (makes others) in
      let new = makes_of k class.0 text types before after at within of_text of_types made in
      let put : (at.0, after) ≡ with_made before (Class class) (new_content text types) = added ∙ ap (λ (ts : List FieldType). with_made before (Class class) (new_content text ts)) same in
      record {
        content = new_content text types;
        added = put;
        new = λ m others w is holds. new m.setting others w (setting_of k m is) holds.shares;
        filled = still_filled text after at of_text put;
      }
