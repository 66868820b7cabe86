-- Without aspects each chain is empty, and the join point machine steps as the class machine does.
use Rattle.std.proofs.Common.{◌≡◌, List, [], ◌∷◌, map, Option, Some, None, refl, sym, ap, ◌∙◌}
use Rattle.std.proofs.lemmas.List.{map-append}
use Rattle.event_machine.specs.Outcome.{Went, Said, Ended, outcome_map}
use Rattle.event_machine.specs.Laws.{equivalent_observed, observed-image}
use Rattle.class_file.specs.declared.types.ClassFile.{ClassFile}
use Rattle.class_file.specs.Pool.{Reference}
use Rattle.class_machine.specs.Values.{Name, Held}
use Rattle.class_machine.specs.Events.{Event, Returned, Uncaught, InitFailed, Exit, Unmodelled, Unresolved, ScriptEnds, Broken, is_broken}
use Rattle.class_machine.specs.Classes.{Classes}
use Rattle.class_machine.specs.World.{World}
use Rattle.class_machine.specs.Operations.{Operation}
use Rattle.class_machine.specs.Turn.{Handler, Code, Purpose, Ordinary, Constructs, Initialises, Within, Frame, frame_at, Turn, Stays, Completes, Enters, Leaves, Begins, Raises, Finishes, turn}
use Rattle.class_machine.specs.Machine.{Due, Step, State as ClassState, taking, handler_of, catching, leaving}
use Rattle.class_machine.specs.Machine as machine
use Rattle.class_machine.specs.ClassFiles.{class_code}
use Rattle.class_machine.specs.Run.{class_table, class_step, class_start}
use Rattle.jp_model.specs.Aspects.{Advice}
use Rattle.jp_model.specs.JoinPoints.{call_at, chain_for, chain_of}
use Rattle.jp_model.specs.JoinPointMachine.{Activation, Runs, State as JoinState, as_activations, aspect_step}
use Rattle.jp_model.specs.JoinPointMachine as join
use Rattle.jp_model.specs.Headline.{Behaves}

no_advice : (o : Option Reference) → chain_for [] o ≡ []
no_advice None = refl
no_advice (Some method) = refl

no_chain : (o : Option Operation) → chain_of [] o ≡ []
no_chain None = refl
no_chain (Some operation) = no_advice (call_at operation)

module _ {P : Type 0} (code : Code P) (cs : Classes) where
  -- the class machine's step, as one of the join point machine
  abbrev seen : Step (ClassState P) → Step (JoinState P)
  seen o = outcome_map as_activations o

  told_same : (event : Event) (w : World) (o : Step (ClassState P)) → join.telling (Some event) w (seen o) ≡ seen (machine.telling (Some event) w o)
  told_same event w (Went s) = refl
  told_same event w (Said other s) = refl
  told_same event w (Ended (Returned v)) = refl
  told_same event w (Ended (Uncaught class message)) = refl
  told_same event w (Ended (InitFailed class)) = refl
  told_same event w (Ended (Exit status)) = refl
  told_same event w (Ended (Unmodelled op)) = refl
  told_same event w (Ended (Unresolved name)) = refl
  told_same event w (Ended ScriptEnds) = refl
  told_same event w (Ended Broken) = refl

  telling_same : (said : Option Event) (w : World) (o : Step (ClassState P)) → join.telling said w (seen o) ≡ seen (machine.telling said w o)
  telling_same None w o = refl
  telling_same (Some event) w o = told_same event w o

  module _ (due : Due) where
    back_same : (f : Frame P) (t : Turn P) (below : List (Frame P)) → join.back_in code cs due f t (map Runs below) ≡ seen (machine.back_in code cs due f t below)
    back_same f (Stays place c w) below = refl
    back_same f (Completes said super place c w) below = telling_same said w (machine.went code cs due w (machine.completed code cs due f super place c ∷ below))
    back_same f (Finishes said ending) below = refl
    back_same f (Enters callee c w) below = refl
    back_same f (Leaves v w) below = refl
    back_same f (Begins frames w) below = refl
    back_same f (Raises said x c w) below = refl

    returned_same : (purpose : Purpose) (v : Option Held) (w : World) (below : List (Frame P)) → join.returned code cs due purpose v w (map Runs below) ≡ seen (machine.returned code cs due purpose v w below)
    returned_same (Initialises class) v w below = refl
    returned_same Ordinary v w [] = refl
    returned_same Constructs v w [] = refl
    returned_same (Within wait) v w [] = refl
    returned_same Ordinary v w (f ∷ below) = back_same f (taking code cs Ordinary v w f) below
    returned_same Constructs v w (f ∷ below) = back_same f (taking code cs Constructs v w f) below
    returned_same (Within wait) v w (f ∷ below) = back_same f (taking code cs (Within wait) v w f) below

    handled_same : (o : Option (Handler P)) (x : Name) (w : World) (f : Frame P) (below : List (Frame P)) (r : Step (JoinState P)) (r' : Step (ClassState P)) → r ≡ seen r'
        → join.handled code cs due o x w f (map Runs below) r ≡ seen (machine.handled code cs due o x w f below r')
    handled_same None x w f below r r' same = same
    handled_same (Some h) x w f below r r' same = back_same f (catching code cs x h.place w f) below

    out_same : (purpose : Purpose) (r : Step (JoinState P)) (r' : Step (ClassState P)) → r ≡ seen r' → join.out_of code cs due purpose r ≡ seen (machine.out_of code cs due purpose r')
    out_same (Initialises class) r r' same = refl
    out_same Ordinary r r' same = same
    out_same Constructs r r' same = same
    out_same (Within wait) r r' same = same

    unwound_same : (x : Name) (w : World) (below : List (Frame P)) → join.unwound code cs due x w (map Runs below) ≡ seen (machine.unwound code cs due x w below)
    unwound_same x w [] = refl
    unwound_same x w (f ∷ below) =
        handled_same (handler_of code cs x f) x w f below (join.out_of code cs due f.purpose (join.unwound code cs due x (leaving f.monitor w) (map Runs below))) (machine.out_of code cs due f.purpose (machine.unwound code cs due x (leaving f.monitor w) below))
        (out_same f.purpose _ _ (unwound_same x (leaving f.monitor w) below))

    moved_same : (t : Turn P) (w : World) (f : Frame P) (below : List (Frame P)) → join.moved code cs due t w (Runs f) f (map Runs below) ≡ seen (machine.moved code cs due t w f below)
    moved_same (Stays place c w') w f below = refl
    moved_same (Completes said super place c w') w f below = telling_same said w' (machine.went code cs due w' (machine.completed code cs due f super place c ∷ below))
    moved_same (Enters callee c w') w f below = refl
    moved_same (Leaves v w') w f below = returned_same f.purpose v (leaving f.monitor w') below
    moved_same (Begins frames w') w f below = ap (join.went code cs due w') (sym (map-append Runs frames (f ∷ below)))
    moved_same (Raises said x c w') w f below =
        ap (join.telling said w') (unwound_same x w' (frame_at f f.place c ∷ below)) ∙ telling_same said w' (machine.unwound code cs due x w' (frame_at f f.place c ∷ below))
    moved_same (Finishes said ending) w f below = telling_same said w (Ended ending)

  stepped_same : (due : Due) (w : World) (frames : List (Frame P)) → join.stepped code cs [] due w (map Runs frames) ≡ seen (machine.stepped code cs due w frames)
  stepped_same due w [] = refl
  stepped_same due w (f ∷ below) =
      ap (λ (chain : List Advice). join.arrives code cs due chain f w (map Runs below)) (no_chain (code.line f.place)) ∙ moved_same due (turn code cs f w) w f below

  step_same : (s : ClassState P) → join.step code cs [] (as_activations s) ≡ seen (machine.step code cs s)
  step_same s = stepped_same s.due s.world s.frames

-- Without aspects the join point machine is the class machine, whatever the classes are.
pub no_aspect_behaves : (classes : List ClassFile) → Behaves classes [] classes
no_aspect_behaves classes class name words m entry = record {
  method = m;
  found = entry.found;
  same = λ answers. equivalent_observed is_broken (aspect_step classes []) (class_step classes) (as_activations (class_start classes answers m words)) (class_start classes answers m words)
      (λ n. observed-image (class_step classes) (aspect_step classes []) as_activations (step_same (class_code classes) (class_table classes)) n (class_start classes answers m words) []);
}
