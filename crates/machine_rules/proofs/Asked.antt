-- Texts that objects give within a call.
use Rattle.std.specs.Prelude.{◌≡◌, ℕ, ◌<◌, true, List, length, Option, Some, None, refl, codes}
use Rattle.std.proofs.Common.{sym, ◌∙◌, ap, subst}
use Rattle.std.proofs.lemmas.Bool.{lt-ltb}
use Rattle.aj_names.specs.declared.ids.MethodId.{MethodId}
use Rattle.boot_library.specs.declared.rule.LibraryRule.{LibraryRule}
use Rattle.boot_library.specs.declared.rule.LibraryRule.TheVariants as rule
use Rattle.boot_library.specs.declared.rule.Primitive.{Primitive}
use Rattle.class_world.specs.Tables.{Known}
use Rattle.class_machine.specs.Classes.{Method}
use Rattle.class_machine.specs.LibraryCalls as calls
use Rattle.class_machine.specs.LibraryCalls.{no_parameters}
use Rattle.class_machine.specs.Values.{Held, class_of}
use Rattle.class_machine.specs.World.{read_field, message_field, value_field}
use Rattle.machine_values.specs.declared.frames.Destination.{Destination}
use Rattle.machine_values.specs.declared.frames.Wait.{Wait}
use Rattle.machine_values.specs.declared.values.Ref.{Ref}
use Rattle.machine_values.specs.declared.values.Value.{Value}
use Rattle.machine_values.specs.Standing.{name_of, held}
use Rattle.machine_values.specs.States.{is_known_destination}
use Rattle.machine_values.specs.Things.{Things}
use Rattle.machine_rules.specs.declared.work.Work.{Work}
use Rattle.machine_rules.specs.declared.work.Work.TheVariants.{Calls}
use Rattle.machine_rules.specs.Asking.{MakesText}
use Rattle.machine_rules.specs.Finishing.{destination_of}
use Rattle.machine_rules.specs.Reading.{Reads}
use Rattle.machine_rules.specs.Selecting.{selected_of, IsBare}
use Rattle.machine_rules.specs.Texts.{text_at}
use Rattle.machine_rules.specs.Waiting.{wait_of}
use Rattle.machine_rules.specs.WaitingLaws.{wait_waits}
use Rattle.machine_rules.specs.Works.{setting_of, Does}
use Rattle.machine_rules.proofs.Giving.{done_same}
use Rattle.machine_rules.proofs.Standing.{text_same}
use Rattle.machine_requests.specs.Telling.{AreDistinct}

-- ---- waits

abbrev pub waiting : Option Ref → Destination → Wait
waiting describes to = record { describes = describes; destination = to }

-- ---- a method outside the library is to be run

module _ (k : Known) (things : Things) (x : Ref) (to : Destination) (class : List ℕ) (is : class ≡ class_of (name_of k.heads things.names x)) where
  chosen : (member : List ℕ) (o : Option Method) → selected_of k class (no_parameters member) ≡ o → selected_of k (class_of (name_of k.heads things.names x)) (no_parameters member) ≡ o
  chosen member o e = ap (λ (c : List ℕ). selected_of k c (no_parameters member)) (sym is) ∙ e

  pub bare_message : (method : MethodId) → (AreDistinct k.heads → IsBare k class (no_parameters (codes "getMessage")) method.0) → x.0 < length things.names → is_known_destination (length things.names) to ≡ true
      → Does k things (λ s ns w. calls.ask_message s.classes w (name_of s.heads ns x) (destination_of s ns to)) things (Calls method x (waiting (Some x) to))
  bare_message method bare within known names others w distinct holds =
      let s = setting_of k names in
      let rest = destination_of s things.names to in
      let a = name_of k.heads things.names x in
      let found = bare distinct in
      let m = found.method in
      record {
        world = w;
        method = m;
        waits = calls.Describes a rest;
        same = ap (calls.message_of_method w a rest) (chosen (codes "getMessage") (Some m) found.selected) ∙ ap (λ (o : Option LibraryRule). calls.message_by w a rest o m) found.called.bare;
        called = found.called;
        within = within;
        waiting = wait_waits s things.names (waiting (Some x) to);
        known = record { exception = lt-ltb x.0 (length things.names) within; destination = known };
        holds = holds;
      }

  pub bare_text : (method : MethodId) → (AreDistinct k.heads → IsBare k class (no_parameters (codes "toString")) method.0) → x.0 < length things.names → is_known_destination (length things.names) to ≡ true
      → Does k things (λ s ns w. calls.ask_text s.classes w (name_of s.heads ns x) (destination_of s ns to)) things (Calls method x (waiting None to))
  bare_text method bare within known names others w distinct holds =
      let s = setting_of k names in
      let rest = destination_of s things.names to in
      let a = name_of k.heads things.names x in
      let found = bare distinct in
      let m = found.method in
      record {
        world = w;
        method = m;
        waits = rest;
        same = ap (calls.text_of_method s.classes w a rest) (chosen (codes "toString") (Some m) found.selected) ∙ ap (λ (o : Option LibraryRule). calls.text_by s.classes w a rest o m) found.called.bare;
        called = found.called;
        within = within;
        waiting = wait_waits s things.names (waiting None to);
        known = record { exception = refl; destination = known };
        holds = holds;
      }

-- ---- messages of the library

pub message_resumed : (k : Known) (things : Things) (x : Ref) (to : Destination) (v : Value) (r : LibraryRule) (after : Things) (work : Work) → r ≡ rule.Message → Reads k things x message_field v
    → Does k things (λ s ns w. calls.resume (wait_of s ns (waiting (Some x) to)) (held s.heads ns v) w) after work
    → (m : Method) → Does k things (λ s ns w. calls.message_by w (name_of s.heads ns x) (destination_of s ns to) (Some r) m) after work
message_resumed k things x to v r after work is reads done m =
    subst (λ (r : LibraryRule). Does k things (λ s ns w. calls.message_by w (name_of s.heads ns x) (destination_of s ns to) (Some r) m) after work) (sym is)
    (done_same k things (λ s ns w. calls.resume (wait_of s ns (waiting (Some x) to)) (held s.heads ns v) w) (λ s ns w. calls.resume (calls.Describes (name_of s.heads ns x) (destination_of s ns to)) (read_field w (name_of s.heads ns x) message_field) w) after work
    (λ names others w distinct holds. ap (λ (h : Held). calls.resume (calls.Describes (name_of k.heads things.names x) (destination_of (setting_of k names) things.names to)) h w) (reads names others w distinct holds)) done)

-- ---- texts that methods of the library make

pub copy_makes : (k : Known) (things : Things) (at : Ref) (r : LibraryRule) (text : Option (List ℕ)) → r ≡ rule.Copy → at.0 < length things.names → text ≡ text_at things at.0 → MakesText k things (λ s ns w. calls.made_text w r (name_of s.heads ns at)) text
copy_makes k things at r text is known same names others w distinct holds =
    ap (λ (r : LibraryRule). calls.made_text w r (name_of k.heads things.names at)) is ∙ text_same (setting_of k names) things others w at.0 distinct holds.shares known ∙ sym same

pub box_makes : (k : Known) (things : Things) (at : Ref) (r : LibraryRule) (type : Primitive) (units : List ℕ) → r ≡ rule.DescribeBox type
    → MakesText k things (λ s ns w. Some (calls.box_text type (read_field w (name_of s.heads ns at) (value_field type)))) (Some units) → MakesText k things (λ s ns w. calls.made_text w r (name_of s.heads ns at)) (Some units)
box_makes k things at r type units is makes names others w distinct holds = ap (λ (r : LibraryRule). calls.made_text w r (name_of k.heads things.names at)) is ∙ makes names others w distinct holds

pub box_read : (k : Known) (things : Things) (at : Ref) (type : Primitive) (v : Value) (units : List ℕ) → Reads k things at (value_field type) v → units ≡ calls.box_text type (held k.heads things.names v)
    → MakesText k things (λ s ns w. Some (calls.box_text type (read_field w (name_of s.heads ns at) (value_field type)))) (Some units)
box_read k things at type v units reads same names others w distinct holds = ap (λ (h : Held). Some (calls.box_text type h)) (reads names others w distinct holds) ∙ ap Some (sym same)

pub made_done : (k : Known) (things : Things) (at : Ref) (r : LibraryRule) (to : Destination) (text : Option (List ℕ)) (after : Things) (work : Work) → MakesText k things (λ s ns w. calls.made_text w r (name_of s.heads ns at)) text
    → Does k things (λ s ns w. calls.finish_made (destination_of s ns to) w text) after work
    → Does k things (λ s ns w. calls.finish_made (destination_of s ns to) w (calls.made_text w r (name_of s.heads ns at))) after work
made_done k things at r to text after work makes done =
    done_same k things (λ s ns w. calls.finish_made (destination_of s ns to) w text) (λ s ns w. calls.finish_made (destination_of s ns to) w (calls.made_text w r (name_of s.heads ns at))) after work
    (λ names others w distinct holds. ap (calls.finish_made (destination_of (setting_of k names) things.names to) w) (makes names others w distinct holds)) done

-- ---- texts by rules

pub itself_done : (k : Known) (things : Things) (at : Ref) (r : LibraryRule) (to : Destination) (after : Things) (work : Work) → r ≡ rule.Itself → at.0 < length things.names
    → Does k things (λ s ns w. calls.finish_text (destination_of s ns to) (Some (name_of s.heads ns at)) (text_at things at.0) w) after work
    → (m : Method) → Does k things (λ s ns w. calls.text_by s.classes w (name_of s.heads ns at) (destination_of s ns to) (Some r) m) after work
itself_done k things at r to after work is known done m =
    subst (λ (r : LibraryRule). Does k things (λ s ns w. calls.text_by s.classes w (name_of s.heads ns at) (destination_of s ns to) (Some r) m) after work) (sym is)
    (done_same k things (λ s ns w. calls.finish_text (destination_of s ns to) (Some (name_of s.heads ns at)) (text_at things at.0) w) (λ s ns w. calls.text_by s.classes w (name_of s.heads ns at) (destination_of s ns to) (Some rule.Itself) m) after work
    (λ names others w distinct holds. ap (λ (o : Option (List ℕ)). calls.finish_text (destination_of (setting_of k names) things.names to) (Some (name_of k.heads things.names at)) o w) (text_same (setting_of k names) things others w at.0 distinct holds.shares known)) done)

pub throwable_done : (k : Known) (things : Things) (at : Ref) (r : LibraryRule) (to : Destination) (after : Things) (work : Work) → r ≡ rule.DescribeThrowable
    → Does k things (λ s ns w. calls.ask_message s.classes w (name_of s.heads ns at) (destination_of s ns to)) after work
    → (m : Method) → Does k things (λ s ns w. calls.text_by s.classes w (name_of s.heads ns at) (destination_of s ns to) (Some r) m) after work
throwable_done k things at r to after work is done m =
    subst (λ (r : LibraryRule). Does k things (λ s ns w. calls.text_by s.classes w (name_of s.heads ns at) (destination_of s ns to) (Some r) m) after work) (sym is) done
