-- New objects of classes, with texts or with fields.
use Rattle.std.specs.Prelude.{◌≡◌, ℕ, ◌<◌, Bool, List, nat_lt, length, Result, Ok, Err, IfOk}
use Rattle.std.specs.List.{flat_map}
use Rattle.std.proofs.Common.{sym, ap, ◌∙◌}
use Rattle.std.proofs.lemmas.Bool.{lt-ltb}
use Rattle.aj_names.specs.declared.ids.ClassId.{ClassId}
use Rattle.aj_names.specs.declared.types.FieldType.{FieldType}
use Rattle.class_heads.specs.declared.types.ClassHead.{ClassHead}
use Rattle.class_heads.specs.Hierarchy.{name_at, superclasses}
use Rattle.class_world.specs.Tables.{Known}
use Rattle.class_machine.specs.Classes.{Classes}
use Rattle.class_machine.specs.ClassFiles.{field_constant}
use Rattle.class_machine.specs.World.{is_text_class}
use Rattle.machine_values.specs.declared.names.Maker.TheVariants.{Class}
use Rattle.machine_values.specs.declared.values.Ref.{Ref}
use Rattle.machine_values.specs.declared.content.Content.{Content}
use Rattle.machine_values.specs.Things.{Things, next_name, with_made}
use Rattle.machine_requests.specs.Objects.{IsClass, Makes, StaysFilled}
use Rattle.machine_requests.specs.Shares.{Setting, Others}
use Rattle.machine_fields.specs.NewObjects.{held_by, asked_by, IsSettingOf}
use Rattle.machine_fields.specs.Positions.{in_place}
use Rattle.machine_fields.proofs.NewOnes.{makes_of}
use Rattle.machine_fields.proofs.Walks.{fields_upward}
use Rattle.machine_steps.specs.Programs.{IsRunnable}
use Rattle.machine_steps.proofs.Settings.{setting_of}
use Rattle.machine_invokes.specs.Building.{IsAdded, IsMade}
use Rattle.machine_invokes.proofs.Bare.{bare_types}

pub both_ok : {X E : Type 0} (r : Result X E) (P Q S : X → Type 0) → ((x : X) → P x → Q x → S x) → IfOk r P → IfOk r Q → IfOk r S
both_ok (Ok x) P Q S from p q = from x p q
both_ok (Err e) P Q S from p q = tt

module _ (k : Known) (class : ClassId) (text : Bool) (types : List FieldType) (within : class.0 < length k.heads) (of_text : text ≡ is_text_class (name_at k.heads class.0))
    (of_types : held_by types ≡ asked_by (flat_map (in_place k.heads) (superclasses k.heads class.0))) where
  is_class : (s : Setting) → IsSettingOf k s → IsClass class.0 text types s
  is_class s is =
      let fields : s.classes.fields (name_at k.heads class.0) ≡ flat_map (in_place k.heads) (superclasses k.heads class.0) =
      ap (λ (cs : Classes). cs.fields (name_at k.heads class.0)) is.classes ∙ fields_upward k.heads (length k.files) (field_constant k.files) is.distinct class.0 within in
      record {
        within = ap (λ (heads : List ClassHead). nat_lt class.0 (length heads)) is.heads ∙ lt-ltb class.0 (length k.heads) within;
        of_text = ap (λ (heads : List ClassHead). is_text_class (name_at heads class.0)) is.heads ∙ sym of_text;
        of_types = ap (λ (heads : List ClassHead). asked_by (s.classes.fields (name_at heads class.0))) is.heads ∙ ap asked_by fields ∙ sym of_types;
      }

  pub is_made : (before after : Things) (at : Ref) → IsRunnable k → ((others : Others) → Makes class.0 text types before others after at) → ((s : Setting) → IsClass class.0 text types s → StaysFilled before after s) → IsMade k class.0 before after at
  is_made before after at runnable makes filled = record {
    there = λ m others w is shares. makes_of k class.0 text types before after at within of_text of_types makes m.setting others w (setting_of k m is) shares;
    filled = λ m others w is shares full.
        filled m.setting (is_class m.setting (setting_of k m is)) (bare_types k runnable m is) shares.heap.objects.whole full;
  }

pub is_added : (class : ClassId) (content : Content) (before after : Things) (at : Ref) → (at.0, after) ≡ with_made before (Class class) content → IsAdded before after at
is_added class content before after at added = record {
  place = ap (λ (p : ℕ × Things). p.0) added;
  name = next_name before.names (Class class);
  content = content;
  names = ap (λ (p : ℕ × Things). p.1.names) added;
  contents = ap (λ (p : ℕ × Things). p.1.contents) added;
}
