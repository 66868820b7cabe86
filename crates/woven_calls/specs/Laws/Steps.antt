-- A code that carries out the advice of another runs as the join point machine does on that one.
use Rattle.std.proofs.Common.{◌≡◌, ℕ, Bool, true, false, is_some, if◌then◌else◌, List, [], ◌∷◌, ◌++◌, map, Option, Some, None, refl, ap, ap₂, ◌∙◌, arith, inl, inr, IsTrue, subst}
use Rattle.std.specs.Option.{option_map}
use Rattle.event_machine.specs.Outcome.{Went, Said, Ended}
use Rattle.event_machine.specs.Follows.{Follows, Leads, no_waits}
use Rattle.event_machine.specs.Equivalent.{Equivalent}
use Rattle.event_machine.specs.Alike.{Alike}
use Rattle.event_machine.specs.Laws.{simulated, went, said, comes, comes_on, leads_on, locked, breaks, follows_on}
use Rattle.class_file.specs.Pool.{Reference}
use Rattle.class_machine.specs.declared.kinds.Kind.{Kind}
use Rattle.class_machine.specs.Values.{system_class, Local, Content, content, pushed_on, has_room}
use Rattle.class_machine.specs.Descriptors.{kind_in, result_in}
use Rattle.class_machine.specs.Events.{Event, Print, Broken, is_broken}
use Rattle.class_machine.specs.Classes.{Classes}
use Rattle.class_machine.specs.World.{World, begin}
use Rattle.class_machine.specs.Operations.{Operation}
use Rattle.class_machine.specs.Effect as effects
use Rattle.class_machine.specs.Turn.{Entry, Code, Ordinary, Frame, frame_at, Turn, Stays, Completes, Leaves, stops, filled, stays, completes, effect_at, executed, turn}
use Rattle.class_machine.specs.Machine.{Due, Nothing as NothingDue, Step, State as ClassState, taking}
use Rattle.class_machine.specs.Machine as machine
use Rattle.jp_model.specs.Aspects.{PrintLine as PrintsLine, Advice, Aspect}
use Rattle.jp_model.specs.JoinPoints.{chain_of}
use Rattle.jp_model.specs.JoinPointMachine.{Activation, Runs, Joins, Speaks as SpeaksBody, State as JoinState}
use Rattle.jp_model.specs.JoinPointMachine as join
use Rattle.woven_calls.specs.Laws.Tables.{Knows}
use Rattle.woven_calls.specs.Laws.Turns.{Form, Nothing, Text, Output, Prints, Calls, Back, meaning, Known, TheOutput, AText, operand, holding, frame, nothing_turn, text_turn, output_turn, print_turn, print_nothing, print_alone, call_turn, entered_turn, printed_turn, left_turn, back_turn}
use Rattle.woven_calls.specs.Laws.Carries.{SameEntry, CallsSame, Speaks, Carries}

no_line : {X : Type 0} → IsTrue false → X
no_line e = let apart : false ≡ true = e in absurd cc

module _ {P : Type 0} (At : P → P → Type 0) (old new : Code P) (cs cs' : Classes) (knows : Knows cs) (knows' : Knows cs') (aspects : List Aspect) (advice : Reference) (text : List ℕ) where
  -- ---- states that stand for each other

  -- a frame of the old code and one of the new, at places that a relation has, with equal contents
  record Pair (Places : P → P → Type 0) : Type 0 where
    method : Reference
    left : P
    right : P
    names : List Known
    locals : List (Local P)
    room : ℕ
    at : Places left right

  -- frames that wait at their calls
  abbrev Waits : P → P → Type 0
  Waits p q = At (old.next p) (new.next q)

  abbrev left_of : Pair Waits → Activation P
  left_of x = Runs (frame x.method x.left (holding x.names x.locals) x.room)

  abbrev right_of : Pair Waits → Frame P
  right_of x = frame x.method x.right (holding x.names x.locals) x.room

  -- the running frames and those below; System.out is as it was
  record Both : Type 0 where
    runs : Pair At
    below : List (Pair Waits)
    w : World
    w' : World
    untold : w.statics ≡ []
    untold' : w'.statics ≡ []

  abbrev s_at : List (Activation P) → World → JoinState P
  s_at activations w = record { activations = activations; world = w; due = NothingDue }

  abbrev t_at : List (Frame P) → World → ClassState P
  t_at frames w = record { frames = frames; world = w; due = NothingDue }

  abbrev left_state : Both → JoinState P
  left_state b = s_at (Runs (frame b.runs.method b.runs.left (holding b.runs.names b.runs.locals) b.runs.room) ∷ map left_of b.below) b.w

  abbrev right_state : Both → ClassState P
  right_state b = t_at (frame b.runs.method b.runs.right (holding b.runs.names b.runs.locals) b.runs.room ∷ map right_of b.below) b.w'

  abbrev Related : JoinState P → ClassState P → Type 0
  Related s t = (b : Both) × (left_state b ≡ s) × (right_state b ≡ t)

  abbrev J : JoinState P → Step (JoinState P)
  J = join.step old cs aspects

  abbrev W : ClassState P → Step (ClassState P)
  W = machine.step new cs'

  abbrev Go : Step (JoinState P) → Step (ClassState P) → Type 0
  Go o o' = Alike is_broken Related o o'

  abbrev Goes : JoinState P → ClassState P → List Event → Type 0
  Goes = Follows is_broken J W Related no_waits

  -- where an instruction stands in the old code, one stands in the new one
  abbrev Stands : P → P → Type 0
  Stands p q = (op : Operation) → old.line p ≡ Some op → IsTrue (is_some (new.line q))

  stands : Carries At old new cs cs' aspects advice text → (p q : P) → At p q → Stands p q
  stands h p q at op e = go (chain_of aspects (Some op)) refl
    where
      go : (chain : List Advice) → chain_of aspects (Some op) ≡ chain → IsTrue (is_some (new.line q))
      go [] c = ap is_some (h.kept p q op at e c).line
      go (b ∷ rest) c = ap is_some (h.advised p q op b rest at e c).call

  -- ---- one step of both, in frames at places of the same instruction

  module _ (h : Carries At old new cs cs' aspects advice text) (m : Reference) (p q : P) (names : List Known) (ls : List (Local P)) (n : ℕ) (below : List (Pair Waits)) (w w' : World) (none : w.statics ≡ []) (none' : w'.statics ≡ []) (standing : Activation P) (at : At (old.next p) (new.next q)) where
    abbrev c : Content P
    c = holding names ls

    abbrev f : Frame P
    f = frame m p c n

    abbrev g : Frame P
    g = frame m q c n

    abbrev JM : Turn P → Step (JoinState P)
    JM t = join.moved old cs NothingDue t w standing f (map left_of below)

    abbrev WM : Turn P → Step (ClassState P)
    WM t = machine.moved new cs' NothingDue t w' g (map right_of below)

    -- on at places that stand for each other
    stays_go : (u u' : World) → u.statics ≡ [] → u'.statics ≡ [] → (xs : List Known) → Go (JM (stays old cs (old.next p) (holding xs ls) u)) (WM (stays new cs' (new.next q) (holding xs ls) u'))
    stays_go u u' k k' xs = go (old.line (old.next p)) (new.line (new.next q)) (stands h (old.next p) (new.next q) at)
      where
        go : (o o' : Option Operation) → ((op : Operation) → o ≡ Some op → IsTrue (is_some o')) → Go (JM (if is_some o then Stays (old.next p) (holding xs ls) u else stops Broken)) (WM (if is_some o' then Stays (new.next q) (holding xs ls) u' else stops Broken))
        go None o' both = inl refl
        go (Some op) None both = no_line (both op refl)
        go (Some op) (Some op') both =
            (record { runs = record { method = m; left = old.next p; right = new.next q; names = xs; locals = ls; room = n; at = at }; below = below; w = u; w' = u'; untold = k; untold' = k' }, refl, refl)

    tells_go : (event : Event) (xs : List Known) → Go (JM (completes old cs (Some event) false (old.next p) (holding xs ls) w)) (WM (completes new cs' (Some event) false (new.next q) (holding xs ls) w'))
    tells_go event xs = go (old.line (old.next p)) (new.line (new.next q)) (stands h (old.next p) (new.next q) at)
      where
        go : (o o' : Option Operation) → ((op : Operation) → o ≡ Some op → IsTrue (is_some o')) →
            Go (JM (if is_some o then Completes (Some event) false (old.next p) (holding xs ls) w else stops Broken)) (WM (if is_some o' then Completes (Some event) false (new.next q) (holding xs ls) w' else stops Broken))
        go None o' both = inl refl
        go (Some op) None both = no_line (both op refl)
        go (Some op) (Some op') both =
            (refl, (record { runs = record { method = m; left = old.next p; right = new.next q; names = xs; locals = ls; room = n; at = at }; below = below; w = w; w' = w'; untold = none; untold' = none' }, refl, refl))

    pushes_go : (x : Known) (b : Bool) (u u' : World) → u.statics ≡ [] → u'.statics ≡ [] →
        Go (JM (if b then stays old cs (old.next p) (pushed_on (operand x) c) u else stops Broken)) (WM (if b then stays new cs' (new.next q) (pushed_on (operand x) c) u' else stops Broken))
    pushes_go x true u u' k k' = stays_go u u' k k' (x ∷ names)
    pushes_go x false u u' k k' = inl refl

    prints_go : (x y : Known) (xs : List Known) → Go (JM (printed_turn old cs knows m p n w y x (holding xs ls))) (WM (printed_turn new cs' knows' m q n w' y x (holding xs ls)))
    prints_go (AText units) TheOutput xs = tells_go (Print (units ++ 10 ∷ [])) xs
    prints_go TheOutput TheOutput xs = inl refl
    prints_go x (AText units) xs = inl refl

    enters_go : (r : Reference) (o o' : Option (Entry P)) → SameEntry At o o' → Go (JM (entered_turn old cs knows m p n w r c o)) (WM (entered_turn new cs' knows' m q n w' r c o'))
    enters_go r None None same = inr refl
    enters_go r None (Some d) same = absurd same
    enters_go r (Some e) None same = absurd same
    enters_go r (Some e) (Some d) same =
        let wait : Pair Waits = record { method = m; left = p; right = q; names = names; locals = ls; room = n; at = at } in (
          record { runs = record { method = r; left = e.start; right = d.start; names = []; locals = filled e.locals []; room = e.room; at = same.0 }; below = wait ∷ below; w = begin cs w r.class; w' = begin cs' w' r.class; untold = none; untold' = none' },
          refl,
          ap₂ (λ (room locals : ℕ). t_at (frame r d.start (content [] (filled locals [])) room ∷ g ∷ map right_of below) (begin cs' w' r.class)) same.1 same.2,
        )

    -- a result goes to the frame below
    leaves_go : Go (JM (Leaves None w)) (WM (Leaves None w'))
    leaves_go = go below
      where
        back : (x : Pair Waits) (rest : List (Pair Waits)) (o o' : Option Operation) → ((op : Operation) → o ≡ Some op → IsTrue (is_some o')) →
            Go (join.back_in old cs NothingDue (frame x.method x.left (holding x.names x.locals) x.room) (if is_some o then Stays (old.next x.left) (holding x.names x.locals) w else stops Broken) (map left_of rest))
            (machine.back_in new cs' NothingDue (right_of x) (if is_some o' then Stays (new.next x.right) (holding x.names x.locals) w' else stops Broken) (map right_of rest))
        back x rest None o' both = inl refl
        back x rest (Some op) None both = no_line (both op refl)
        back x rest (Some op) (Some op') both =
            (record { runs = record { method = x.method; left = old.next x.left; right = new.next x.right; names = x.names; locals = x.locals; room = x.room; at = x.at }; below = rest; w = w; w' = w'; untold = none; untold' = none' }, refl, refl)

        go : (below : List (Pair Waits)) → Go (join.returned old cs NothingDue Ordinary None w (map left_of below)) (machine.returned new cs' NothingDue Ordinary None w' (map right_of below))
        go [] = inr refl
        go (x ∷ rest) = back x rest (old.line (old.next x.left)) (new.line (new.next x.right)) (stands h (old.next x.left) (new.next x.right) x.at)

    left_go : (o : Option Kind) → Go (JM (left_turn old cs knows m p n w o)) (WM (left_turn new cs' knows' m q n w' o))
    left_go None = leaves_go
    left_go (Some k) = inl refl

  module _ (h : Carries At old new cs cs' aspects advice text) (m : Reference) (p q : P) (ls : List (Local P)) (n : ℕ) (below : List (Pair Waits)) (w w' : World) (none : w.statics ≡ []) (none' : w'.statics ≡ []) (standing : Activation P) (at : At (old.next p) (new.next q)) where
    -- the turns of both frames
    abbrev BothTurn : List Known → Type 0
    BothTurn names =
        Go (join.moved old cs NothingDue (turn old cs (frame m p (holding names ls) n) w) w standing (frame m p (holding names ls) n) (map left_of below))
        (machine.moved new cs' NothingDue (turn new cs' (frame m q (holding names ls) n) w') w' (frame m q (holding names ls) n) (map right_of below))

    prints_names : (names : List Known) → old.line p ≡ Some (meaning Prints) → new.line q ≡ Some (meaning Prints) → BothTurn names
    prints_names [] e e' = rw (print_nothing old cs knows m p n w ls e, print_nothing new cs' knows' m q n w' ls e') (inl refl)
    prints_names (x ∷ []) e e' = rw (print_alone old cs knows m p n w x ls e, print_alone new cs' knows' m q n w' x ls e') (inl refl)
    prints_names (x ∷ y ∷ xs) e e' =
        rw (print_turn old cs knows m p n w x y xs ls e, print_turn new cs' knows' m q n w' x y xs ls e')
        (prints_go h m p q (x ∷ y ∷ xs) ls n below w w' none none' standing at x y xs)

    turns_go : (names : List Known) (form : Form) → CallsSame At old new cs cs' form → old.line p ≡ Some (meaning form) → new.line q ≡ Some (meaning form) → BothTurn names
    turns_go names Nothing calls e e' =
        rw (nothing_turn old cs knows m p n w (holding names ls) e, nothing_turn new cs' knows' m q n w' (holding names ls) e')
        (stays_go h m p q names ls n below w w' none none' standing at w w' none none' names)
    turns_go names (Text units) calls e e' =
        rw (text_turn old cs knows m p n w units (holding names ls) e, text_turn new cs' knows' m q n w' units (holding names ls) e')
        (pushes_go h m p q names ls n below w w' none none' standing at (AText units) (has_room n 1 (map operand names)) w w' none none')
    turns_go names Output calls e e' =
        rw (output_turn old cs knows m p n w (holding names ls) none e, output_turn new cs' knows' m q n w' (holding names ls) none' e')
        (pushes_go h m p q names ls n below w w' none none' standing at TheOutput (has_room n 1 (map operand names)) (begin cs w system_class) (begin cs' w' system_class) none none')
    turns_go names Prints calls e e' = prints_names names e e'
    turns_go names (Calls r) calls e e' =
        rw (call_turn old cs knows m p n w r (holding names ls) calls.private (old.method r) calls.parameters calls.here refl e, call_turn new cs' knows' m q n w' r (holding names ls) calls.private (new.method r) calls.parameters calls.there refl e')
        (enters_go h m p q names ls n below w w' none none' standing at r (old.method r) (new.method r) calls.entry)
    turns_go names Back calls e e' =
        rw (back_turn old cs knows m p n w (holding names ls) e, back_turn new cs' knows' m q n w' (holding names ls) e')
        (left_go h m p q names ls n below w w' none none' standing at (option_map kind_in (result_in m.member.descriptor)))

  -- ---- the advice

  -- a frame of the advice's method
  abbrev talk : P → List Known → Frame P
  talk place names = frame advice place (holding names []) 2

  W_turn : (f : Frame P) (fs : List (Frame P)) (u : World) (t : Turn P) → turn new cs' f u ≡ t → W (t_at (f ∷ fs) u) ≡ machine.moved new cs' NothingDue t u f fs
  W_turn f fs u t e = ap (λ t. machine.moved new cs' NothingDue t u f fs) e

  -- going to a place where an instruction stands
  goes_to : (place : P) (c : Content P) (u w' : World) (f : Frame P) (fs : List (Frame P)) (op : Operation) → new.line place ≡ Some op → machine.moved new cs' NothingDue (stays new cs' place c u) w' f fs ≡ Went (t_at (frame_at f place c ∷ fs) u)
  goes_to place c u w' f fs op e = ap (λ o. machine.moved new cs' NothingDue (if is_some o then Stays place c u else stops Broken) w' f fs) e

  tells_to : (event : Event) (place : P) (c : Content P) (u : World) (m : Reference) (from : P) (d : Content P) (n : ℕ) (fs : List (Frame P)) (op : Operation) → new.line place ≡ Some op
      → machine.moved new cs' NothingDue (completes new cs' (Some event) false place c u) u (frame m from d n) fs ≡ Said event (t_at (frame m place c n ∷ fs) u)
  tells_to event place c u m from d n fs op e = ap (λ o. machine.moved new cs' NothingDue (if is_some o then Completes (Some event) false place c u else stops Broken) u (frame m from d n) fs) e

  -- from its call the advice's method prints and comes back
  speaks : Speaks At old new cs cs' advice text → (m : Reference) (q : P) (names : List Known) (ls : List (Local P)) (n : ℕ) (under : List (Frame P)) (w' : World) (out : List Event) (op : Operation) → w'.statics ≡ []
      → new.line q ≡ Some (meaning (Calls advice)) → new.line (new.next q) ≡ Some op
      → Leads W (t_at (frame m q (holding names ls) n ∷ under) w') out (t_at (frame m (new.next q) (holding names ls) n ∷ under) (begin cs' (begin cs' w' advice.class) system_class)) (out ++ Print (text ++ 10 ∷ []) ∷ [])
  speaks h m q names ls n under w' out op none call line =
      let c = holding names ls in
      let g = frame m q c n in
      let w1 = begin cs' w' advice.class in
      let w2 = begin cs' w1 system_class in
      let p0 = h.start in
      let p1 = new.next p0 in
      let p2 = new.next p1 in
      let p3 = new.next p2 in
      let out' = out ++ Print (text ++ 10 ∷ []) ∷ [] in
      let e0 : W (t_at (g ∷ under) w') ≡ Went (t_at (talk p0 [] ∷ g ∷ under) w1) =
      W_turn g under w' _ (call_turn new cs' knows' m q n w' advice c false (Some (record { start = p0; room = 2; locals = 0 })) h.parameters h.found h.entry call) in
      let e1 : W (t_at (talk p0 [] ∷ g ∷ under) w1) ≡ Went (t_at (talk p1 (TheOutput ∷ []) ∷ g ∷ under) w2) =
      W_turn (talk p0 []) (g ∷ under) w1 _ (output_turn new cs' knows' advice p0 2 w1 (holding [] []) none h.out)
      ∙ goes_to p1 (holding (TheOutput ∷ []) []) w2 w1 (talk p0 []) (g ∷ under) _ h.constant in
      let e2 : W (t_at (talk p1 (TheOutput ∷ []) ∷ g ∷ under) w2) ≡ Went (t_at (talk p2 (AText text ∷ TheOutput ∷ []) ∷ g ∷ under) w2) =
      W_turn (talk p1 (TheOutput ∷ [])) (g ∷ under) w2 _ (text_turn new cs' knows' advice p1 2 w2 text (holding (TheOutput ∷ []) []) h.constant)
      ∙ goes_to p2 (holding (AText text ∷ TheOutput ∷ []) []) w2 w2 (talk p1 (TheOutput ∷ [])) (g ∷ under) _ h.print in
      let e3 : W (t_at (talk p2 (AText text ∷ TheOutput ∷ []) ∷ g ∷ under) w2) ≡ Said (Print (text ++ 10 ∷ [])) (t_at (talk p3 [] ∷ g ∷ under) w2) =
      W_turn (talk p2 (AText text ∷ TheOutput ∷ [])) (g ∷ under) w2 _ (print_turn new cs' knows' advice p2 2 w2 (AText text) TheOutput [] [] h.print)
      ∙ tells_to (Print (text ++ 10 ∷ [])) p3 (holding [] []) w2 advice p2 (holding (AText text ∷ TheOutput ∷ []) []) 2 (g ∷ under) _ h.back in
      let e4 : W (t_at (talk p3 [] ∷ g ∷ under) w2) ≡ Went (t_at (frame m (new.next q) c n ∷ under) w2) =
      W_turn (talk p3 []) (g ∷ under) w2 _ (back_turn new cs' knows' advice p3 2 w2 (holding [] []) h.back ∙ ap (λ o. left_turn new cs' knows' advice p3 2 w2 (option_map kind_in o)) h.result)
      ∙ ap (λ o. machine.back_in new cs' NothingDue g (if is_some o then Stays (new.next q) c w2 else stops Broken) under) line in
      leads_on W _ _ _ out out out' (went W _ _ out e0)
      (comes_on W _ _ _ out out out' (comes W _ _ out out (went W _ _ out e1))
      (comes_on W _ _ _ out out out' (comes W _ _ out out (went W _ _ out e2))
      (comes_on W _ _ _ out out' out' (comes W _ _ out out' (said W _ _ (Print (text ++ 10 ∷ [])) out e3))
      (comes W _ _ out' out' (went W _ _ out' e4)))))

  -- the join point machine runs the advice
  advises : (b : Advice) (f : Frame P) (below : List (Activation P)) (w : World) (out : List Event)
      → b.body ≡ PrintsLine text ∷ [] → J (s_at (Runs f ∷ below) w) ≡ Went (s_at (Joins f (b ∷ []) ∷ below) w)
      → Leads J (s_at (Runs f ∷ below) w) out (s_at (Joins f [] ∷ below) w) (out ++ Print (text ++ 10 ∷ []) ∷ [])
  advises b f below w out body begins =
      let waits = Joins f [] ∷ below in
      let out' = out ++ Print (text ++ 10 ∷ []) ∷ [] in
      let e1 : J (s_at (Joins f (b ∷ []) ∷ below) w) ≡ Went (s_at (SpeaksBody (PrintsLine text ∷ []) ∷ waits) w) =
      ap (λ statements. join.went old cs NothingDue w (SpeaksBody statements ∷ waits)) body in
      leads_on J _ _ _ out out out' (went J _ _ out begins)
      (comes_on J _ _ _ out out out' (comes J _ _ out out (went J _ _ out e1))
      (comes_on J _ _ _ out out' out' (comes J _ _ out out' (said J (s_at (SpeaksBody (PrintsLine text ∷ []) ∷ waits) w) (s_at (SpeaksBody [] ∷ waits) w) (Print (text ++ 10 ∷ [])) out refl))
      (comes J _ _ out' out' (went J (s_at (SpeaksBody [] ∷ waits) w) (s_at waits w) out' refl))))

  -- ---- a step

  module _ (h : Carries At old new cs cs' aspects advice text) (b : Both) (out : List Event) where
    abbrev p : P
    p = b.runs.left

    abbrev q : P
    q = b.runs.right

    abbrev left_frame : Frame P
    left_frame = frame b.runs.method p (holding b.runs.names b.runs.locals) b.runs.room

    abbrev right_frame : P → Frame P
    right_frame q = frame b.runs.method q (holding b.runs.names b.runs.locals) b.runs.room

    abbrev Here : Type 0
    Here = Goes (left_state b) (right_state b) out

    -- at a place without a chain
    kept_goes : (op : Operation) → old.line p ≡ Some op → chain_of aspects (Some op) ≡ [] → Here
    kept_goes op e none =
        let x = h.forms p q op b.runs.at e in
        let k = h.kept p q op b.runs.at e none in
        let left : J (left_state b) ≡ join.moved old cs NothingDue (turn old cs left_frame b.w) b.w (Runs left_frame) left_frame (map left_of b.below) =
        ap (λ (chain : List Advice). join.arrives old cs NothingDue chain left_frame b.w (map left_of b.below)) (ap (chain_of aspects) e ∙ none) in
        locked is_broken J W Related no_waits (left_state b) (right_state b) out
        (rw left (turns_go h b.runs.method p q b.runs.locals b.runs.room b.below b.w b.w' b.untold b.untold' (Runs left_frame) k.next b.runs.names x.form x.calls (e ∙ ap Some x.means) (k.line ∙ ap Some x.means)))

    -- at a place with a chain
    joins_goes : (op : Operation) (a : Advice) (rest : List Advice) → old.line p ≡ Some op → chain_of aspects (Some op) ≡ a ∷ rest → J (left_state b) ≡ Went (s_at (Joins left_frame (a ∷ []) ∷ map left_of b.below) b.w) → Here
    joins_goes op a rest e some begins =
        let x = h.forms p q op b.runs.at e in
        let k = h.advised p q op a rest b.runs.at e some in
        let out' = out ++ Print (text ++ 10 ∷ []) ∷ [] in
        let w1 = begin cs' (begin cs' b.w' advice.class) system_class in
        follows_on is_broken J W Related no_waits (left_state b) (s_at (Joins left_frame [] ∷ map left_of b.below) b.w) (right_state b) (t_at (right_frame (new.next q) ∷ map right_of b.below) w1) out out' (omega arith)
        (comes J _ _ _ _ (advises a left_frame (map left_of b.below) b.w out k.body begins))
        (comes W _ _ _ _ (speaks h.speaks b.runs.method q b.runs.names b.runs.locals b.runs.room (map right_of b.below) b.w' out op b.untold' k.call k.line))
        (locked is_broken J W Related no_waits (s_at (Joins left_frame [] ∷ map left_of b.below) b.w) (t_at (right_frame (new.next q) ∷ map right_of b.below) w1) out'
        (turns_go h b.runs.method p (new.next q) b.runs.locals b.runs.room b.below b.w w1 b.untold b.untold' (Joins left_frame []) k.next b.runs.names x.form x.calls (e ∙ ap Some x.means) (k.line ∙ ap Some x.means)))

    advised_goes : (op : Operation) (a : Advice) (rest : List Advice) → old.line p ≡ Some op → chain_of aspects (Some op) ≡ a ∷ rest → Here
    advised_goes op a rest e some = go (effects.is_broken (effect_at old cs left_frame op)) refl
      where
        chained : (broken : Bool) → effects.is_broken (effect_at old cs left_frame op) ≡ broken
            → J (left_state b) ≡ (if broken then Ended Broken else Went (s_at (Joins left_frame (a ∷ []) ∷ map left_of b.below) b.w))
        chained broken is =
            ap (λ (chain : List Advice). join.arrives old cs NothingDue chain left_frame b.w (map left_of b.below)) (ap (chain_of aspects) e ∙ some ∙ ap (λ (l : List Advice). a ∷ l) (h.advised p q op a rest b.runs.at e some).single)
            ∙ ap (λ o. join.begins old cs NothingDue o (a ∷ []) left_frame b.w (map left_of b.below)) e
            ∙ ap (λ (broken : Bool). if broken then Ended Broken else join.went old cs NothingDue b.w (Joins left_frame (a ∷ []) ∷ map left_of b.below)) is

        go : (broken : Bool) → effects.is_broken (effect_at old cs left_frame op) ≡ broken → Here
        go true is = breaks is_broken J W Related no_waits (left_state b) (right_state b) out Broken refl (chained true is)
        go false is = joins_goes op a rest e some (chained false is)

    line_goes : (o : Option Operation) → old.line p ≡ o → Here
    line_goes None e =
        let none : J (left_state b) ≡ Ended Broken =
        ap (λ (o : Option Operation). join.arrives old cs NothingDue (chain_of aspects o) left_frame b.w (map left_of b.below)) e
        ∙ ap (λ o. join.moved old cs NothingDue (executed old cs left_frame b.w o) b.w (Runs left_frame) left_frame (map left_of b.below)) e in
        breaks is_broken J W Related no_waits (left_state b) (right_state b) out Broken refl none
    line_goes (Some op) e = go (chain_of aspects (Some op)) refl
      where
        go : (chain : List Advice) → chain_of aspects (Some op) ≡ chain → Here
        go [] none = kept_goes op e none
        go (a ∷ rest) some = advised_goes op a rest e some

  goes : Carries At old new cs cs' aspects advice text → (s : JoinState P) (t : ClassState P) (out : List Event) → Related s t → Goes s t out
  goes h s t out r =
      subst (λ (s' : JoinState P). Goes s' t out) r.1
      (subst (λ (t' : ClassState P). Goes (left_state r.0) t' out) r.2 (line_goes h r.0 out (old.line r.0.runs.left) refl))

  -- From places that stand for each other, with no operand yet, the two machines are equivalent.
  pub carried : Carries At old new cs cs' aspects advice text → (m : Reference) (p q : P) (ls : List (Local P)) (n : ℕ) (w w' : World) → w.statics ≡ [] → w'.statics ≡ [] → At p q
      → Equivalent is_broken J (s_at (Runs (frame m p (content [] ls) n) ∷ []) w) W (t_at (frame m q (content [] ls) n ∷ []) w')
  carried h m p q ls n w w' none none' at =
      let b : Both = record { runs = record { method = m; left = p; right = q; names = []; locals = ls; room = n; at = at }; below = []; w = w; w' = w'; untold = none; untold' = none' } in
      simulated is_broken J W Related no_waits (goes h) (left_state b) (right_state b) (b, refl, refl)
