use Rattle.std.proofs.Common.{◌≡◌, sym, ap, ◌∙◌, subst, arith}
use Rattle.std.specs.Prelude.{ℕ, List, Bool, if◌then◌else◌, nat_lt, true, false}
use Rattle.std.proofs.lemmas.Bool.{lt-ltb}
use Rattle.std.proofs.lemmas.Bool.Decides.{nat_tests}
use Rattle.class_heads.specs.PlaceLaws.{place-named}
use Rattle.class_machine.specs.ClassFiles.{Place, class_code}
use Rattle.class_machine.specs.Machine.{State}
use Rattle.class_machine.specs.Turn.{pending}
use Rattle.machine_values.specs.declared.names.Name.TheVariants.{ClassObject}
use Rattle.machine_values.specs.declared.script.Answer.{Answer}
use Rattle.machine_values.specs.declared.state.MachineState.{MachineState}
use Rattle.machine_values.specs.Things.{Placed}
use Rattle.machine_values.specs.Types.{type_name}
use Rattle.machine_requests.specs.Replies.{IsLonger}
use Rattle.machine_requests.specs.TellingLaws.{array_is_array}
use Rattle.machine_requests.proofs.NewArrays.{longer_constant}
use Rattle.machine_steps.specs.Programs.{Machine, IsMachine}
use Rattle.machine_steps.specs.Runs.{Runs}
use Rattle.machine_invocations.specs.Initialising.{AddsFrames, Begins, has_frame}
use Rattle.machine_invocations.specs.Keeping.{keeps_runs, same_keeps}
use Rattle.machine_works.proofs.Kept.{forgets_object}
use Rattle.machine_works.proofs.Loaded.{flat_name, flat_no_array, keeps_object, gives_array, begun_gives, begins_class}
use Rattle.machine_works.proofs.finishing.load.Goals as goal

pub returns-then-class-gt0-clause-loads : goal.returns-then-class-gt0-clause-loads
returns-then-class-gt0-clause-loads c =
    let old = c.args.state.now in
    let type = c.args.class.now in
    let longer = subst (λ (p : Placed). IsLonger old.heap p.1) (sym c.in_ok-at.ensures.ok) (longer_constant old.heap (ClassObject type)) in
    let more = lt-ltb 0 type.dims c.if-class-gt0.true in
    record {
      moves = λ m left t f below is runs top knows.
          gives_array c.args.world.now old type c.class_object.new.self c.in_ok-at.at c.requires.class c.in_ok-at.ensures.ok c.take_back-step.new.state c.take_back-step.result m left t f below c.requires.runnable longer is runs top more
          c.take_back-step.ensures.taken;
      none = λ m left t is runs knows. ap (λ (b : Bool). if b then false else has_frame (pending (class_code m.files) m.setting.classes t.world (type_name type))) (array_is_array type more);
    }

pub returns-in-Err-clause-err : goal.returns-in-Err-clause-err
returns-in-Err-clause-err c =
    let old = c.args.state.now in
    let mid = c.begin.new.state in
    same_keeps c.args.world.now old (record mid { heap = c.truncate.new.self })
    (forgets_object c.args.state.now c.begin.new.state c.class_object.new.self c.truncate.new.self (ClassObject c.args.class.now) c.in_ok-at.at.0 c.count-count.result c.in_ok-at.ensures.ok c.in-Err.ensures.same c.count-count.ensures.count c.count-count.ensures.contents c.truncate.ensures.names c.truncate.ensures.contents)

pub returns-in-Err-clause-same : goal.returns-in-Err-clause-same
returns-in-Err-clause-same c = forgets_object c.args.state.now c.begin.new.state c.class_object.new.self c.truncate.new.self (ClassObject c.args.class.now) c.in_ok-at.at.0 c.count-count.result c.in_ok-at.ensures.ok c.in-Err.ensures.same c.count-count.ensures.count c.count-count.ensures.contents c.truncate.ensures.names c.truncate.ensures.contents

pub returns-then-some-clause-loads : goal.returns-then-some-clause-loads
returns-then-some-clause-loads c =
    let k = c.args.world.now in
    let old = c.args.state.now in
    let type = c.args.class.now in
    let mid : MachineState = record old { heap = c.class_object.new.self } in
    let longer = subst (λ (p : Placed). IsLonger old.heap p.1) (sym c.in_ok-at.ensures.ok) (longer_constant old.heap (ClassObject type)) in
    let gt = c.if-class-gt0.false in
    let flat : nat_lt 0 type.dims ≡ false = grind (arith, nat_tests) in
    let name = flat_name type c.in-Class.name c.in-Class.is flat in
    let place = place-named k.heads c.in-Class.name c.in-Some.place.0 (sym c.in-Some.ensures.place) in
    begins_class k old c.begin.new.state type c.class_object.new.self longer (subst (AddsFrames mid c.begin.new.state) c.if-some.true c.in-Ok.ensures.added)
    (λ m left t is runs.
    let kept = keeps_runs k old mid (keeps_object k old type c.class_object.new.self c.in_ok-at.at c.requires.class c.in_ok-at.ensures.ok c.requires.runnable longer) m left t is runs in
    let begins = c.in-Ok.ensures.begun m left t is kept in
    record {
      flat = flat_no_array type c.in-Class.name c.in-Class.is flat c.requires.class;
      begins = subst (λ (b : Bool). Begins m c.begin.new.state left t (type_name type) b) c.if-some.true (subst (λ (n : List ℕ). Begins m c.begin.new.state left t n c.in-Ok.some) (place ∙ sym name) begins);
    })

pub returns-clause-loads : goal.returns-clause-loads
returns-clause-loads c =
    let k = c.args.world.now in
    let old = c.args.state.now in
    let type = c.args.class.now in
    let mid : MachineState = record old { heap = c.class_object.new.self } in
    let longer = subst (λ (p : Placed). IsLonger old.heap p.1) (sym c.in_ok-at.ensures.ok) (longer_constant old.heap (ClassObject type)) in
    let gt = c.if-class-gt0.false in
    let flat : nat_lt 0 type.dims ≡ false = grind (arith, nat_tests) in
    let name = flat_name type c.in-Class.name c.in-Class.is flat in
    let place = place-named k.heads c.in-Class.name c.in-Some.place.0 (sym c.in-Some.ensures.place) in
    let single = flat_no_array type c.in-Class.name c.in-Class.is flat c.requires.class in
    let keeps = keeps_object k old type c.class_object.new.self c.in_ok-at.at c.requires.class c.in_ok-at.ensures.ok c.requires.runnable longer in
    let begins : (m : Machine) (left : List Answer) (t : State Place) → IsMachine k m → Runs m old left t → Begins m c.begin.new.state left t (type_name type) false = λ m left t is runs.
    subst (λ (b : Bool). Begins m c.begin.new.state left t (type_name type) b) c.if-some.false
    (subst (λ (n : List ℕ). Begins m c.begin.new.state left t n c.in-Ok.some) (place ∙ sym name) (c.in-Ok.ensures.begun m left t is (keeps_runs k old mid keeps m left t is runs))) in
    record {
      moves = λ m left t f below is runs top knows.
          begun_gives k old type c.class_object.new.self c.in_ok-at.at c.requires.class c.in_ok-at.ensures.ok c.take_back-step-2.new.state c.take_back-step-2.result m left t f below single
          c.begin.new.state (ap (λ (s : MachineState). s.heap) c.in-Ok.ensures.rest) is runs.shares (begins m left t is runs) top c.take_back-step-2.ensures.taken;
      none = λ m left t is runs knows.
          ap (λ (b : Bool). if b then false else has_frame (pending (class_code m.files) m.setting.classes t.world (type_name type))) single ∙ (begins m left t is runs).pushed;
    }
