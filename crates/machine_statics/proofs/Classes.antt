-- Classes whose objects are announced, and static fields that are stored to, in the machine.
use Rattle.std.specs.Prelude.{◌≡◌, ℕ, ◌<◌, true, false, List, length, slice_get, Some, None}
use Rattle.std.specs.List.{sum}
use Rattle.std.specs.Option.{option_and_then}
use Rattle.std.proofs.Common.{sym, ap, ◌∙◌, subst}
use Rattle.class_file.specs.Pool.{Reference}
use Rattle.aj_names.specs.declared.types.MemberName.{MemberName}
use Rattle.class_heads.specs.declared.types.ClassHead.{ClassHead}
use Rattle.class_heads.specs.Faults.{is_class_that}
use Rattle.class_heads.specs.Hierarchy.{place_of}
use Rattle.class_heads.specs.Numbers.{field_counts}
use Rattle.class_heads.specs.PlaceLaws.{class_named-place, place-named}
use Rattle.class_world.specs.Tables.{Known}
use Rattle.class_machine.specs.declared.kinds.Element.{Element}
use Rattle.class_machine.specs.declared.kinds.Kind.{Kind}
use Rattle.class_machine.specs.Answers.{declared}
use Rattle.class_machine.specs.Classes.{Classes}
use Rattle.class_machine.specs.ClassFiles.{Place}
use Rattle.class_machine.specs.Declarations.{has_objects}
use Rattle.class_machine.specs.Descriptors.{element_of, kind_in}
use Rattle.class_machine.specs.Turn.{Frame}
use Rattle.machine_requests.specs.Statics.{IsField, AreApart}
use Rattle.machine_steps.specs.Programs.{Machine, IsMachine}
use Rattle.machine_invocations.specs.Methods.{classes_in}
use Rattle.machine_statics.specs.declared.fields.StaticField.{StaticField}
use Rattle.machine_statics.specs.Announcing.{HasObjects}
use Rattle.machine_statics.specs.StaticFields.{IsStatic, Stores}

module _ (k : Known) (name : List ℕ) where
  pub class_missing : place_of k.heads name ≡ None → (classes_in k).has_objects name ≡ false
  class_missing e = ap (is_class_that has_objects) (class_named-place k.heads name ∙ ap (option_and_then (slice_get k.heads)) e)

  pub class_is : (class : ℕ) (head : ClassHead) → place_of k.heads name ≡ Some class → slice_get k.heads class ≡ Some head → (classes_in k).has_objects name ≡ has_objects head
  class_is class head e at = ap (is_class_that has_objects) (class_named-place k.heads name ∙ ap (option_and_then (slice_get k.heads)) e ∙ at)

  pub class_has : (class : ℕ) (head : ClassHead) → place_of k.heads name ≡ Some class → slice_get k.heads class ≡ Some head → has_objects head ≡ true → class < length k.heads → HasObjects k name class
  class_has class head e at has within = record { has = class_is class head e at ∙ has; named = place-named k.heads name class e; within = within }

module _ (k : Known) (r : Reference) (s : StaticField) (is : IsStatic k r s) (m : Machine) (machine : IsMachine k m) (e : Element) (same : e ≡ element_of r.member.descriptor) where
  pub is_field : IsField r s.id.0 e m.setting
  is_field = record {
    declared = ap (λ (cs : Classes). declared cs r) machine.classes ∙ is.declares ∙ sym (is.named m machine);
    element = ap (λ (q : Reference). element_of q.member.descriptor) (is.named m machine) ∙ ap (λ (n : MemberName). element_of n.descriptor) is.member ∙ sym same;
  }

  pub stores_hold : (kind : Kind) (count : ℕ) (f : Frame Place) → kind ≡ kind_in r.member.descriptor → count ≡ sum (field_counts k.heads) → Stores r s.id.0 e kind count m f
  stores_hold kind count f fits many = record { fits = sym fits; field = is_field; apart = subst (λ n. AreApart n m.setting) (sym many) machine.apart }
