-- What becomes of a call of the library, by its work.
use Rattle.std.specs.Prelude.{◌≡◌, ℕ, ◌<◌, Bool, true, false, if◌then◌else◌, List, [], ◌∷◌, map, length, Option, Some, refl}
use Rattle.std.specs.Option.{option_map}
use Rattle.std.proofs.Common.{sym, ap, ◌∙◌, subst}
use Rattle.aj_names.specs.declared.types.FieldType.{FieldType}
use Rattle.boot_library.specs.declared.rule.LibraryRule.{LibraryRule}
use Rattle.class_file.specs.Pool.{Reference}
use Rattle.class_heads.specs.Hierarchy.{is_array}
use Rattle.class_world.specs.Tables.{Known}
use Rattle.class_machine.specs.Classes.{Method}
use Rattle.class_machine.specs.ClassFiles.{Place, class_code}
use Rattle.class_machine.specs.LibraryCalls as calls
use Rattle.class_machine.specs.Machine.{State, moved}
use Rattle.class_machine.specs.Turn as turns
use Rattle.class_machine.specs.Turn.{Turn, Begins, gives_class, loads, pending, worked}
use Rattle.class_machine.specs.Values.{Content}
use Rattle.class_machine.specs.World.{World, begin}
use Rattle.machine_values.specs.declared.observed.Event.{Event}
use Rattle.machine_values.specs.declared.script.Answer.{Answer}
use Rattle.machine_values.specs.declared.state.MachineState.{MachineState}
use Rattle.machine_values.specs.declared.values.Ref.{Ref}
use Rattle.machine_values.specs.declared.values.Value.{Value}
use Rattle.machine_values.specs.Standing.{name_of, held}
use Rattle.machine_values.specs.Things.{Things}
use Rattle.machine_values.specs.Types.{type_name}
use Rattle.machine_requests.specs.Replies.{IsLonger}
use Rattle.machine_requests.specs.Telling.{is_class_type}
use Rattle.machine_rules.specs.declared.work.Work.{Work}
use Rattle.machine_rules.specs.declared.work.Work.TheVariants as work
use Rattle.machine_rules.specs.Fields.{StaysWhole}
use Rattle.machine_rules.specs.Ruling as rules
use Rattle.machine_rules.specs.Works.{Works, DoesWhole, ChangesBy}
use Rattle.machine_steps.specs.declared.step.Step.{Step}
use Rattle.machine_steps.specs.Moves.{Moves, MovesWithLocals, raises}
use Rattle.machine_steps.specs.Programs.{Machine, IsMachine}
use Rattle.machine_steps.specs.Runs.{Runs, Stepped}
use Rattle.machine_invocations.specs.Initialising.{has_frame}
use Rattle.machine_works.specs.Finishing.{ends_call, GoesToClass, BeginsClass, IsSound, IsAtWork, StandsAtWork, Finishes}
use Rattle.machine_works.proofs.Finished.{finishes_results, finishes_throws, finishes_loads}
use Rattle.machine_invokes.specs.declared.invocation.Invocation.{Invocation}
use Rattle.machine_invokes.specs.Preparing.{runs_call, is_own}
use Rattle.machine_calling.specs.declared.ran.Ran.{Ran}
use Rattle.machine_calling.specs.declared.ran.Ran.TheVariants as ran
use Rattle.machine_calling.specs.Ran.{constructs, HasRoom, Goes, BeginsFirst, RanBy}
use Rattle.machine_calling.specs.Working.{loads_one, FinishesOwn, BeginsWork, RanWith}
use Rattle.machine_calling.proofs.Owned.{is_load, worked_own, loads_own}
use Rattle.machine_calling.proofs.Turns.{rule_turn}
use Rattle.machine_calling.proofs.AtWork.{asked, at_work}

-- ---- each work

pub loads_none : (w : Work) → ((class : FieldType) → w ≡ work.Loads class → ⊥) → loads_one w ≡ false
loads_none (work.Results said v) none = refl
loads_none (work.Throws x) none = refl
loads_none (work.Faults fault) none = refl
loads_none (work.Calls method object wait) none = refl
loads_none (work.Loads class) none = absurd (none class refl)
loads_none (work.Exits status) none = refl
loads_none work.Misuses none = refl

-- the machine's work is of that kind
plain_work : (k : Known) (m : Machine) (old : MachineState) (left : List Answer) (t : State Place) (w : Work) (other : calls.Work) → loads_one w ≡ false → IsAtWork k m old left t w other → is_load other ≡ false
plain_work k m old left t (work.Results said v) other plain at = ap is_load at.works.same
plain_work k m old left t (work.Throws x) other plain at = ap is_load at.works.same
plain_work k m old left t (work.Faults fault) other plain at = ap is_load at.works.same
plain_work k m old left t (work.Calls method object wait) other plain at = ap is_load at.works.same
plain_work k m old left t (work.Loads class) other plain at = absurd cc
plain_work k m old left t (work.Exits status) other plain at = ap is_load at.works.same
plain_work k m old left t work.Misuses other plain at = ap is_load at.works.same

module _ (k : Known) (old new : MachineState) (super : Bool) (step : Step) where
  pub finishes_own : (w : Work) → loads_one w ≡ false → Finishes k old new step super w → FinishesOwn k old new super w step
  finishes_own w plain finishes = record {
    finishes = finishes;
    own = λ m left t f other at. worked_own m f t.world super other (plain_work k m old left t w other plain at);
  }

  pub results_own : (said : Option Event) (v : Option Value) → Moves k old new step (ends_call said super v old) → FinishesOwn k old new super (work.Results said v) step
  results_own said v moves = finishes_own (work.Results said v) refl (finishes_results k old new step super said v moves)

  pub throws_own : (x : Ref) → MovesWithLocals k old new step (raises (λ m. name_of m.setting.heads old.heap.names x)) → FinishesOwn k old new super (work.Throws x) step
  throws_own x moves = finishes_own (work.Throws x) refl (finishes_throws k old new step super x moves)

  pub loads_own_turn : (class : FieldType) → GoesToClass k old new step class → FinishesOwn k old new super (work.Loads class) step
  loads_own_turn class goes = record {
    finishes = finishes_loads k old new step super class goes.moves;
    own = λ m left t f other at.
        let one = at.works in
        let knows : IsSound m.setting.classes t.world (calls.Loads (type_name class)) = subst (IsSound m.setting.classes t.world) one.same at.sound in
        let runs : Runs m old left t = record { shares = one.holds.shares; frames = at.frames; answers = at.answers; filled = at.filled } in
        ap (λ (x : calls.Work). is_own (worked (class_code m.files) m.setting.classes f f.content t.world super x)) one.same ∙ loads_own m f t.world super class (goes.none m left t at.is runs knows);
  }

-- ---- the call

same_heap : (before after : Things) (w : Work) (class : FieldType) → w ≡ work.Loads class → ChangesBy before after w → after ≡ before
same_heap before after w class is changes = subst (ChangesBy before after) is changes

begins_turn : (m : Machine) (f : turns.Frame Place) (w : World) (class : List ℕ) (p : List (turns.Frame Place)) → has_frame p ≡ true → loads (class_code m.files) m.setting.classes f f.content w class p ≡ Begins p (begin m.setting.classes w class)
begins_turn m f w class [] some = absurd cc
begins_turn m f w class (g ∷ p) some = refl

module _ (k : Known) (old new : MachineState) (heap : Things) (rule : LibraryRule) (call : Invocation) (w : Work) (longer : IsLonger old.heap heap)
    (does : DoesWhole k old.heap (λ s names u. rules.ruled s.classes u rule (option_map (name_of s.heads names) call.receiver) (map (held s.heads names) call.arguments.items)) heap w) (whole : StaysWhole k old.heap heap) (changes : ChangesBy old.heap heap w)
    (left : List Answer) (callee : Method) (r : Reference) (plain : callee.is_native ≡ false) (has : callee.rule ≡ Some rule) (room : HasRoom k old left callee) where
  abbrev mid : MachineState
  mid = record old { heap = heap }

  abbrev super : Bool
  super = constructs call.purpose

  abbrev rule_says : Machine → State Place → calls.Work
  rule_says = asked k old heap rule call.receiver call.arguments.items w longer does whole

  says : (m : Machine) (t : State Place) (f : turns.Frame Place) (below : List (turns.Frame Place)) → IsMachine k m → Runs m old left t → t.frames ≡ f ∷ below
      → runs_call r callee call old m t f ≡ worked (class_code m.files) m.setting.classes f f.content t.world super (rule_says m t)
  says m t f below is runs top = rule_turn old r callee call m t f rule (room m t f below is runs top) plain has

  goes : (step : Step) → FinishesOwn k mid new super w step → Goes k old new left left step (runs_call r callee call old)
  goes step one = record {
    moves = λ m t f below is runs top.
        subst (λ (x : Turn Place). Stepped m new left step (moved (class_code m.files) m.setting.classes t.due x t.world f below)) (sym (says m t f below is runs top))
        (one.finishes m left t f below (rule_says m t) (at_work k old heap rule call.receiver call.arguments.items w longer does whole m left t is runs) top);
    own = λ m t f below is runs top.
        ap is_own (says m t f below is runs top) ∙ one.own m left t f (rule_says m t) (at_work k old heap rule call.receiver call.arguments.items w longer does whole m left t is runs);
  }

  first : (class : FieldType) → w ≡ work.Loads class → BeginsClass k old new class → BeginsFirst k old new left left (runs_call r callee call old)
  first class is begins = record {
    own = begins.own;
    frames = begins.frames;
    same = begins.same;
    names = begins.names;
    answers = refl;
    there = λ m t f below is_machine runs top.
        let name = type_name class in
        let comes = begins.there m left t is_machine runs in
        let p = pending (class_code m.files) m.setting.classes t.world name in
        let at = subst (λ (x : Work). IsAtWork k m mid left t x (rule_says m t)) is (at_work k old heap rule call.receiver call.arguments.items w longer does whole m left t is_machine runs) in
        let asks : rule_says m t ≡ calls.Loads name = at.works.same in
        record {
          frames = p;
          world = begin m.setting.classes t.world name;
          same = says m t f below is_machine runs top ∙ ap (worked (class_code m.files) m.setting.classes f f.content t.world super) asks
              ∙ ap (λ (b : Bool). if b then gives_class (class_code m.files) m.setting.classes f f.content t.world name else loads (class_code m.files) m.setting.classes f f.content t.world name p) comes.flat
              ∙ begins_turn m f t.world name p comes.begins.pushed;
          runs = comes.begins.runs;
        };
  }

  pub rule_ran : (x : Ran) → RanWith k mid new super w x → RanBy k old new left left (runs_call r callee call old) x
  rule_ran (ran.Done step) one = goes step one
  rule_ran ran.Begins one =
      first one.class one.is (subst (λ (h : Things). BeginsClass k (record old { heap = h }) new one.class) (same_heap old.heap heap w one.class one.is changes) one.begins)
  rule_ran (ran.Lacks event) one = absurd one

-- ---- what is known of the work

pub thrown_known : (k : Known) (old : MachineState) (w : Work) (x : Ref) → w ≡ work.Throws x → StandsAtWork k old w → x.0 < length old.heap.names
thrown_known k old w x is stands = (subst (λ (y : Work). IsAtWork k stands.machine old stands.left stands.there y stands.other) is stands.at).works.within

pub loaded_type : (k : Known) (old : MachineState) (w : Work) (class : FieldType) → w ≡ work.Loads class → StandsAtWork k old w → is_class_type class ≡ true
loaded_type k old w class is stands = (subst (λ (y : Work). IsAtWork k stands.machine old stands.left stands.there y stands.other) is stands.at).works.class
