-- Monitors of calls.
use Rattle.std.specs.Prelude.{◌≡◌, ℕ, ◌<◌, ◌&&◌, Bool, true, false, nat_lt, List, length, Option, Some, None, refl}
use Rattle.std.proofs.Common.{sym, ap, ◌∙◌, subst}
use Rattle.std.specs.Option.{option_map}
use Rattle.aj_names.specs.declared.types.Base.TheVariants as base
use Rattle.aj_names.specs.declared.types.FieldType.{FieldType}
use Rattle.class_heads.specs.declared.types.ClassHead.{ClassHead}
use Rattle.class_heads.specs.declared.types.MethodHead.{MethodHead}
use Rattle.class_world.specs.Tables.{Known}
use Rattle.class_machine.specs.Answers as answers
use Rattle.class_machine.specs.Classes.{Method, Classes}
use Rattle.class_machine.specs.ClassFiles.{field_constant}
use Rattle.class_machine.specs.Turn.{lock_of, entering}
use Rattle.class_machine.specs.Values as machine
use Rattle.class_machine.specs.World.{World, enter_monitor}
use Rattle.machine_code.specs.CodeLaws.{method_seen, method_is}
use Rattle.machine_values.specs.declared.names.Name.TheVariants.{ClassObject}
use Rattle.machine_values.specs.declared.values.Ref.{Ref}
use Rattle.machine_values.specs.Standing.{name_of}
use Rattle.machine_values.specs.Things.{Things, Placed, with_constant}
use Rattle.machine_requests.specs.declared.reply.Reply.{Reply}
use Rattle.machine_requests.specs.declared.reply.Reply.TheVariants.{Gives, Done, Faults, Refuses}
use Rattle.machine_requests.specs.Monitors.{with_monitors}
use Rattle.machine_requests.specs.Objects.{AreFilled}
use Rattle.machine_requests.specs.Replies.{Replies}
use Rattle.machine_requests.specs.Shares.{Setting, Others, Shares}
use Rattle.machine_requests.specs.Telling.{is_plain, is_class_type, AreDistinct}
use Rattle.machine_requests.proofs.NewArrays.{class_given}
use Rattle.machine_steps.specs.Programs.{IsRunnable, Machine, IsMachine}
use Rattle.machine_steps.specs.Runs.{IsMethod}
use Rattle.machine_invocations.specs.Methods.{declared_as, Sees, StandsIn}
use Rattle.machine_invocations.specs.Entering.{Locks, FindsLock}
use Rattle.machine_invocations.proofs.Fieldless.{class_fields, with_class_object}
use Rattle.machine_invocations.proofs.Seen.{class_named}

lock_receiver : (callee : Method) (a : machine.Name) → callee.is_synchronized ≡ true → lock_of callee (Some a) ≡ Some a
lock_receiver callee a e = rw e refl

lock_class : (callee : Method) → callee.is_synchronized ≡ true → lock_of callee None ≡ Some (machine.ClassObject callee.name.class)
lock_class callee e = rw e refl

lock_none : (callee : Method) (receiver : Option machine.Name) → callee.is_synchronized ≡ false → lock_of callee receiver ≡ None
lock_none callee receiver e = rw e refl

reference_name : (a b : machine.Name) → machine.Reference a ≡ machine.Reference b → a ≡ b
reference_name a b e = cc

-- what the machine has once it entered a monitor
pub entered_shares : (s : Setting) (things : Things) (others : Others) (before after : World) (reply : Reply) → Replies s things others before reply (answers.Done after) → Shares s things others after
entered_shares s things others before after (Gives v) h = absurd h
entered_shares s things others before after Done h = h
entered_shares s things others before after (Faults f) h = absurd h
entered_shares s things others before after Refuses h = absurd h

module _ (k : Known) where
  pub seen_there : (number : ℕ) (is : IsMethod k number) → Sees k number (method_seen k.heads (length k.files) (field_constant k.files) is.place is.first)
  seen_there number is = record { place = is.place; first = is.first; numbered = is.numbered; seen = method_is k.heads (length k.files) (field_constant k.files) is.place is.first }

  pub distinct_in : (m : Machine) → IsMachine k m → AreDistinct m.setting.heads
  distinct_in m is = subst AreDistinct (sym is.heads) is.distinct

  pub finds_receiver : (heap : Things) (callee : Method) (receiver : Option Ref) (at : Ref) → receiver ≡ Some at → FindsLock k heap heap callee receiver at
  finds_receiver heap callee receiver at e m others w is shares = record {
    shares = shares;
    filled = λ filled. filled;
    named = λ sync. ap (λ (o : Option Ref). lock_of callee (option_map (name_of m.setting.heads heap.names) o)) e ∙ lock_receiver callee (name_of m.setting.heads heap.names at) sync;
  }

  abbrev class_type : List ℕ → FieldType
  class_type name = record { base = base.Class name; dims = 0 }

  plain_head : (number place : ℕ) (class : ClassHead) (method : MethodHead) (m : Method) → StandsIn k number place class method → m ≡ declared_as k place class method → place < length k.heads → AreDistinct k.heads → is_plain class.name ≡ true
  plain_head number place class method m stands seen within distinct =
      subst (λ (name : List ℕ). is_plain name ≡ true) (class_named k number place class method m stands seen ∙ ap (λ (x : Method). x.name.class) seen) (distinct.plain place within)

  pub finds_class : IsRunnable k → (heap heap' : Things) (number place : ℕ) (class : ClassHead) (method : MethodHead) (callee : Method) (receiver : Option Ref) (at : Ref) (name : List ℕ) → StandsIn k number place class method → callee ≡ declared_as k place class method
      → place < length k.heads → receiver ≡ None → name ≡ class.name → (at.0, heap') ≡ with_constant heap (ClassObject (class_type name)) → FindsLock k heap heap' callee receiver at
  finds_class runnable heap heap' number place class method callee receiver at name stands seen within none same e m others w is shares =
      let plain : is_plain name ≡ true = ap is_plain same ∙ plain_head number place class method callee stands seen within is.distinct in
      let given = class_given heap others (class_type name) (fits plain) m.setting w (distinct_in m is) shares in
      record {
        shares = subst (λ (p : Placed). Shares m.setting p.1 others w) (sym e) given.2;
        filled = λ filled.
            subst (λ (p : Placed). AreFilled p.1 m.setting) (sym e)
            (with_class_object m.setting (ap (λ (cs : Classes). cs.fields machine.class_class) is.classes ∙ class_fields k runnable) heap shares.heap.objects.whole filled (class_type name));
        named = λ sync.
            ap (λ (o : Option Ref). lock_of callee (option_map (name_of m.setting.heads heap.names) o)) none ∙ lock_class callee sync
            ∙ ap (λ (n : List ℕ). Some (machine.ClassObject n)) (ap (λ (x : Method). x.name.class) seen ∙ sym same)
            ∙ ap Some (sym (subst (λ (p : Placed). name_of m.setting.heads p.1.names (record { 0 = p.0 }) ≡ machine.ClassObject name) (sym e)
            (reference_name (name_of m.setting.heads (with_constant heap (ClassObject (class_type name))).1.names (record { 0 = (with_constant heap (ClassObject (class_type name))).0 })) (machine.ClassObject name) given.0)));
      } where
        fits : is_plain name ≡ true → is_class_type (class_type name) ≡ true
        fits plain = ap (λ (b : Bool). b && true) plain

  pub unlocked : (heap : Things) (monitors : List ℕ) (callee : Method) (receiver : Option Ref) → callee.is_synchronized ≡ false → Locks k heap monitors heap monitors callee receiver None
  unlocked heap monitors callee receiver e = record {
    known = refl;
    there = λ m others w is same shares.
        let none = lock_none callee (option_map (name_of m.setting.heads heap.names) receiver) e in
        record {
          shares = subst (λ (l : Option machine.Name). Shares m.setting heap (with_monitors others monitors) (entering l w)) (sym none) (subst (λ (ms : List ℕ). Shares m.setting heap (with_monitors others ms) w) same shares);
          named = sym none;
          filled = λ filled. filled;
        };
  }

  pub locked : (heap heap' : Things) (monitors monitors' : List ℕ) (callee : Method) (receiver : Option Ref) (at : Ref) → callee.is_synchronized ≡ true → nat_lt at.0 (length heap'.names) ≡ true → FindsLock k heap heap' callee receiver at
      → ((m : Machine) (others : Others) (w : World) → IsMachine k m → others.monitors ≡ monitors → Shares m.setting heap' others w → Shares m.setting heap' (with_monitors others monitors') (enter_monitor w (name_of m.setting.heads heap'.names at)))
      → Locks k heap monitors heap' monitors' callee receiver (Some at)
  locked heap heap' monitors monitors' callee receiver at sync within finds enters = record {
    known = within;
    there = λ m others w is same shares.
        let has = finds m others w is shares in
        record {
          shares = subst (λ (l : Option machine.Name). Shares m.setting heap' (with_monitors others monitors') (entering l w)) (sym (has.named sync)) (enters m others w is same has.shares);
          named = sym (has.named sync);
          filled = has.filled;
        };
  }
