-- What the instructions of the form make of their frames, in any code and under any classes that know the library and
-- have no initialiser.
use Rattle.std.proofs.Common.{◌≡◌, ℕ, Bool, true, false, nat_le, ◌||◌, if◌then◌else◌, List, [], ◌∷◌, ◌++◌, map, reverse, Option, Some, None, refl, ap, ap₂, ◌∙◌, arith}
use Rattle.std.specs.Option.{option_map, unwrap_or}
use Rattle.std.proofs.lemmas.Bool.{le-leb}
use Rattle.class_file.specs.Pool.{Reference}
use Rattle.class_machine.specs.declared.kinds.Access.{Access}
use Rattle.class_machine.specs.declared.kinds.Kind.{Kind}
use Rattle.class_machine.specs.declared.kinds.Mode.{Mode}
use Rattle.class_machine.specs.declared.meaning.Basic.{Basic}
use Rattle.class_machine.specs.Values.{Name, Literal, print_stream_class, string_class, system_class, Reference as Pointer, Held, Value, Plain, Local, Content, content, pushed_on, has_room}
use Rattle.class_machine.specs.Descriptors.{kind_in, parameters_in, result_in}
use Rattle.class_machine.specs.Events.{Print, Unresolved, Broken}
use Rattle.class_machine.specs.Classes.{member_text, Field, Method, Classes, is_among}
use Rattle.class_machine.specs.World.{World, find_field, begin}
use Rattle.class_machine.specs.Operations.{Operation, Do, Refer, FieldAccess, Invoke}
use Rattle.class_machine.specs.Effect.{Effect, Ask, GetStatic, CallStatic, Leave}
use Rattle.class_machine.specs.Effect as effects
use Rattle.class_machine.specs.Answers.{of_type, declared_name, get_static}
use Rattle.class_machine.specs.Declarations.{output_field}
use Rattle.class_machine.specs.Start.{output}
use Rattle.class_machine.specs.Turn.{Entry, Code, Ordinary, Frame, Turn, Enters, Leaves, stops, Needs, Refused, filled, own_initialiser, initialisers, pending, stays, completes, replied, initialised, linked, resolved, effect_at, executed, turn, static_field, static_method, entry_fits, taken, with_method, runs, enters, call_on, runs_selected, instance_method}
use Rattle.woven_calls.specs.Laws.Tables.{println, println_method, own_found, Knows}

-- ---- the instructions of the form

pub data Form : Type 0 where
  Nothing : Form
  Text : (units : List ℕ) → Form
  Output : Form
  Prints : Form
  Calls : (r : Reference) → Form
  Back : Form

abbrev pub meaning : Form → Operation
meaning Nothing = Do Basic.Nothing
meaning (Text units) = Refer (Literal units)
meaning Output = FieldAccess Access.GetStatic output_field
meaning Prints = Invoke Mode.Virtual println
meaning (Calls r) = Invoke Mode.Static r
meaning Back = Do (Basic.Return None)

-- ---- the operands of the form

pub data Known : Type 0 where
  TheOutput : Known
  AText : (units : List ℕ) → Known

abbrev pub named : Known → Name
named TheOutput = output
named (AText units) = Literal units

abbrev pub operand : {P : Type 0} → Known → Value P
operand x = Plain (Pointer (named x))

abbrev pub holding : {P : Type 0} → List Known → List (Local P) → Content P
holding xs ls = content (map operand xs) ls

-- an ordinary frame
abbrev pub frame : {P : Type 0} → Reference → P → Content P → ℕ → Frame P
frame method place c n = record { method = method; place = place; content = c; room = n; monitor = None; constructed = false; purpose = Ordinary }

none_either : {X : Type 0} (b : Bool) → (if b then [] else []) ≡ (let none : List X = [] in none)
none_either true = refl
none_either false = refl

pub least : (n : ℕ) → nat_le 0 n ≡ true
least n = le-leb 0 n (omega arith)

module _ {P : Type 0} (code : Code P) (cs : Classes) (knows : Knows cs) where
  -- no initialiser is pending
  none_pending : (begun classes : List (List ℕ)) → initialisers code cs begun classes ≡ []
  none_pending begun [] = refl
  none_pending begun (class ∷ above) =
      ap₂ (λ (fs : List (Frame P)) (o : Option Method). fs ++ (if is_among begun class then [] else own_initialiser code cs class o)) (none_pending begun above) (knows.initialiser class)
      ∙ none_either (is_among begun class)

  pub pending_none : (w : World) (class : List ℕ) → pending code cs w class ≡ []
  pending_none w class = none_pending w.begun (cs.superclasses class)

  module _ (m : Reference) (p : P) (n : ℕ) (w : World) where
    abbrev at : Content P → Frame P
    at c = frame m p c n

    -- the turn at an instruction
    turn_at : (c : Content P) (form : Form) → code.line p ≡ Some (meaning form) → turn code cs (at c) w ≡ resolved code cs (at c) w (effect_at code cs (at c) (meaning form))
    turn_at c form e = ap (executed code cs (at c) w) e

    pub nothing_turn : (c : Content P) → code.line p ≡ Some (meaning Nothing) → turn code cs (at c) w ≡ stays code cs (code.next p) c w
    nothing_turn c e = turn_at c Nothing e

    pub text_turn : (units : List ℕ) (c : Content P) → code.line p ≡ Some (meaning (Text units)) →
        turn code cs (at c) w ≡ (if has_room n 1 c.operands then stays code cs (code.next p) (pushed_on (operand (AText units)) c) w else stops Broken)
    text_turn units c e = turn_at c (Text units) e ∙ go (has_room n 1 c.operands)
      where
        go : (b : Bool) → resolved code cs (at c) w (effects.given (if b then Some (operand (AText units) ∷ c.operands) else None) (λ all. effects.on all c.locals)) ≡ (if b then stays code cs (code.next p) (pushed_on (operand (AText units)) c) w else stops Broken)
        go true = refl
        go false = refl

    asked : (c : Content P) → w.statics ≡ [] → has_room n 1 c.operands ≡ true → resolved code cs (at c) w (Ask (GetStatic output_field) c) ≡ stays code cs (code.next p) (pushed_on (operand TheOutput) c) (begin cs w system_class)
    asked c none room =
        let e : Effect P = Ask (GetStatic output_field) c in
        let w1 = begin cs w system_class in
        ap (λ (o : Option Field). linked code cs (at c) w e (static_field code cs output_field o)) knows.field
        ∙ ap (initialised code cs (at c) w e system_class) (pending_none w system_class)
        ∙ ap (λ (o : Option Field). replied code cs (at c) c w1 (get_static cs w1 (declared_name output_field o))) knows.field
        ∙ ap₂ (λ statics held. replied code cs (at c) c w1 (of_type output_field.member.descriptor (unwrap_or (find_field statics output_field) held) w1)) none knows.initial
        ∙ ap (λ (b : Bool). if b then stays code cs (code.next p) (pushed_on (operand TheOutput) c) w1 else stops Broken) room

    pub output_turn : (c : Content P) → w.statics ≡ [] → code.line p ≡ Some (meaning Output) →
        turn code cs (at c) w ≡ (if has_room n 1 c.operands then stays code cs (code.next p) (pushed_on (operand TheOutput) c) (begin cs w system_class) else stops Broken)
    output_turn c none e = turn_at c Output e ∙ go (has_room n 1 c.operands) refl
      where
        go : (b : Bool) → has_room n 1 c.operands ≡ b → resolved code cs (at c) w (if b then Ask (GetStatic output_field) c else effects.Broken) ≡ (if b then stays code cs (code.next p) (pushed_on (operand TheOutput) c) (begin cs w system_class) else stops Broken)
        go true room = asked c none room
        go false room = refl

    -- what println of a text makes of an object and an argument
    abbrev pub printed_turn : Known → Known → Content P → Turn P
    printed_turn TheOutput (AText units) c = completes code cs (Some (Print (units ++ 10 ∷ []))) false (code.next p) c w
    printed_turn _ _ c = stops Broken

    found_stream : (x : Known) (f : Frame P) (c : Content P) → taken code cs f w (effects.CallOn false println (Some output) (Pointer (named x) ∷ []) c) ≡ runs code cs Ordinary f c w println println_method (Some output) (Pointer (named x) ∷ [])
    found_stream x f c =
        let given : List Held = Pointer (named x) ∷ [] in
        ap (λ (o : Option Method). with_method code cs o (λ m. call_on code cs f c w false println m given (Some output))) knows.method
        ∙ ap (λ (b : Bool). if b || cs.is_subtype print_stream_class print_stream_class then runs_selected code cs Ordinary f c w println output given (cs.selected print_stream_class println.member) else stops Broken) knows.interface
        ∙ ap (λ (b : Bool). if b then runs_selected code cs Ordinary f c w println output given (cs.selected print_stream_class println.member) else stops Broken) knows.stream
        ∙ ap (runs_selected code cs Ordinary f c w println output given) knows.selected

    found_text : (units : List ℕ) (given : List Held) (f : Frame P) (c : Content P) → taken code cs f w (effects.CallOn false println (Some (Literal units)) given c) ≡ stops Broken
    found_text units given f c =
        ap (λ (o : Option Method). with_method code cs o (λ m. call_on code cs f c w false println m given (Some (Literal units)))) knows.method
        ∙ ap (λ (b : Bool). if b || cs.is_subtype string_class print_stream_class then runs_selected code cs Ordinary f c w println (Literal units) given (cs.selected string_class println.member) else stops Broken) knows.interface
        ∙ ap (λ (b : Bool). if b then runs_selected code cs Ordinary f c w println (Literal units) given (cs.selected string_class println.member) else stops Broken) knows.text

    printed_found : (f : Frame P) (x y : Known) (c : Content P) → f.place ≡ p → taken code cs f w (effects.CallOn false println (Some (named y)) (Pointer (named x) ∷ []) c) ≡ printed_turn y x c
    printed_found f x (AText units) c here = found_text units (Pointer (named x) ∷ []) f c
    printed_found f (AText units) TheOutput c here = found_stream (AText units) f c ∙ ap (λ q. completes code cs (Some (Print (units ++ 10 ∷ []))) false (code.next q) c w) here
    printed_found f TheOutput TheOutput c here = found_stream TheOutput f c

    pub print_turn : (x y : Known) (ops : List Known) (ls : List (Local P)) → code.line p ≡ Some (meaning Prints) → turn code cs (at (holding (x ∷ y ∷ ops) ls)) w ≡ printed_turn y x (holding ops ls)
    print_turn x y ops ls e =
        let f = at (holding (x ∷ y ∷ ops) ls) in
        let called : Effect P = effects.CallOn false println (Some (named y)) (Pointer (named x) ∷ []) (holding ops ls) in
        turn_at (holding (x ∷ y ∷ ops) ls) Prints e
        ∙ ap (λ (o : Option Method). linked code cs f w called (instance_method code cs println o)) knows.method
        ∙ printed_found f x y (holding ops ls) refl

    pub print_nothing : (ls : List (Local P)) → code.line p ≡ Some (meaning Prints) → turn code cs (at (holding [] ls)) w ≡ stops Broken
    print_nothing ls e = turn_at (holding [] ls) Prints e

    pub print_alone : (x : Known) (ls : List (Local P)) → code.line p ≡ Some (meaning Prints) → turn code cs (at (holding (x ∷ []) ls)) w ≡ stops Broken
    print_alone x ls e = turn_at (holding (x ∷ []) ls) Prints e

    -- into a method with code, or the run ends as one is missing
    abbrev pub entered_turn : Reference → Content P → Option (Entry P) → Turn P
    entered_turn r c None = stops (Unresolved (member_text r))
    entered_turn r c (Some e) = Enters (frame r e.start (content [] (filled e.locals [])) e.room) c (begin cs w r.class)

    called_with : (r : Reference) (c : Content P) (b : Bool) (o : Option (Entry P)) → cs.method r ≡ Some (own_found r b) → code.method r ≡ o → resolved code cs (at c) w (CallStatic r [] c) ≡ entered_turn r c o
    called_with r c b None found none =
        ap (λ (o : Option Method). linked code cs (at c) w (CallStatic r [] c) (static_method code cs (at c) c r [] o)) found
        ∙ ap (λ (o : Option (Entry P)). linked code cs (at c) w (CallStatic r [] c) (entry_fits code cs r [] (Needs r.class) o)) none
    called_with r c b (Some e) found some =
        let w1 = begin cs w r.class in
        ap (λ (o : Option Method). linked code cs (at c) w (CallStatic r [] c) (static_method code cs (at c) c r [] o)) found
        ∙ ap (λ (o : Option (Entry P)). linked code cs (at c) w (CallStatic r [] c) (entry_fits code cs r [] (Needs r.class) o)) some
        ∙ ap (λ (b : Bool). linked code cs (at c) w (CallStatic r [] c) (if b then Needs r.class else Refused Broken)) (least e.locals)
        ∙ ap (initialised code cs (at c) w (CallStatic r [] c) r.class) (pending_none w r.class)
        ∙ ap (λ (o : Option Method). with_method code cs o (λ m. runs code cs Ordinary (at c) c w1 r m None [])) found
        ∙ ap (enters code cs Ordinary c w1 r (own_found r b) None []) some
        ∙ ap (λ (b : Bool). if b then Enters (frame r e.start (content [] (filled e.locals [])) e.room) c w1 else stops Broken) (least e.locals)

    pub call_turn : (r : Reference) (c : Content P) (b : Bool) (o : Option (Entry P)) → parameters_in r.member.descriptor ≡ [] → cs.method r ≡ Some (own_found r b) → code.method r ≡ o → code.line p ≡ Some (meaning (Calls r)) → turn code cs (at c) w ≡ entered_turn r c o
    call_turn r c b o none found is e =
        turn_at c (Calls r) e
        ∙ ap (λ (types : List (List ℕ)). resolved code cs (at c) w (effects.pop_arguments (reverse types) [] c.operands (λ args rest. CallStatic r args (content rest c.locals)))) none
        ∙ called_with r c b o found is

    -- a method without result is left
    abbrev pub left_turn : Option Kind → Turn P
    left_turn None = Leaves None w
    left_turn (Some k) = stops Broken

    pub back_turn : (c : Content P) → code.line p ≡ Some (meaning Back) → turn code cs (at c) w ≡ left_turn (option_map kind_in (result_in m.member.descriptor))
    back_turn c e = turn_at c Back e ∙ go (option_map kind_in (result_in m.member.descriptor))
      where
        go : (o : Option Kind) → resolved code cs (at c) w (effects.leave None o c.operands) ≡ left_turn o
        go None = refl
        go (Some k) = refl
