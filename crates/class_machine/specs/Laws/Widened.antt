-- A test that became the opposite test over a jump goes on where it went, in one step or in two.
use Rattle.std.proofs.Common.{◌≡◌, zero, suc, Bool, true, false, List, [], ◌∷◌, Option, Some, None, inl, inr, refl, sym, ap, ◌∙◌, subst}
use Rattle.std.specs.Prelude.{ℤ, pos, not, if◌then◌else◌, is_some, int_lt}
use Rattle.class_machine.specs.declared.kinds.Test.{Test}
use Rattle.class_machine.specs.declared.kinds.Test.TheVariants.{Equal, NotEqual, Less, AtLeast, Greater, AtMost}
use Rattle.class_machine.specs.declared.meaning.Basic.{Basic}
use Rattle.class_machine.specs.Values.{Name, Int, Null, Reference as Pointer, Value, Plain, Token, ReturnAddress, Local, Content}
use Rattle.class_machine.specs.Numbers.{passes, opposite, same_int}
use Rattle.class_machine.specs.Events as events
use Rattle.class_machine.specs.Classes.{Classes}
use Rattle.class_machine.specs.World.{World}
use Rattle.class_machine.specs.Effect
use Rattle.class_machine.specs.Effect.{Setting, Effect, On, Jump, Enter, Back, Ask, Announce, CallStatic, CallOn, Build, Leave, Fail, Throw, Unmodelled, Broken, agrees, basic_effect}
use Rattle.class_machine.specs.Turn
use Rattle.class_machine.specs.Turn.{Code, Frame, frame_at, Turn, Stays, stops}
use Rattle.class_machine.specs.Renaming.{grown, Kept, roomier}
use Rattle.class_machine.specs.Standing.{Growth, Arrives, grown_frame}
use Rattle.class_machine.specs.Widening.{opposed, Widens, WidelyKept}
use Rattle.class_machine.specs.Laws.EffectKept.{basic_kept}

not_not : (b : Bool) → not (not b) ≡ b
not_not true = refl
not_not false = refl

passes-opposite : (t : Test) (x y : ℤ) → passes (opposite t) x y ≡ not (passes t x y)
passes-opposite Equal x y = refl
passes-opposite NotEqual x y = sym (not_not (same_int x y))
passes-opposite Less x y = refl
passes-opposite AtLeast x y = sym (not_not (int_lt x y))
passes-opposite Greater x y = refl
passes-opposite AtMost x y = sym (not_not (int_lt y x))

agrees-not : (same b : Bool) → agrees (not same) b ≡ not (agrees same b)
agrees-not true b = refl
agrees-not false b = sym (not_not b)

module _ {P : Type 0} where
  -- one goes on just where the other jumps
  abbrev Opposes : Effect P → Effect P → Type 0
  Opposes (On c) e = e ≡ Jump 0 c
  Opposes (Jump zero c) e = e ≡ On c
  Opposes Broken e = Unit {0}
  Opposes _ e = ⊥

  pop_opposes : (ops : List (Value P)) (go go' : Value P → List (Value P) → Effect P) → ((v : Value P) (rest : List (Value P)) → Opposes (go v rest) (go' v rest)) → Opposes (Effect.pop ops go) (Effect.pop ops go')
  pop_opposes [] go go' h = tt
  pop_opposes (v ∷ ops) go go' h = h v ops

  int_opposes : (v : Value P) (go go' : ℤ → Effect P) → ((n : ℤ) → Opposes (go n) (go' n)) → Opposes (Effect.int_in v go) (Effect.int_in v go')
  int_opposes (Plain (Int n)) go go' h = h n
  int_opposes (Plain _) go go' h = tt
  int_opposes (Token class number) go go' h = tt
  int_opposes (ReturnAddress p) go go' h = tt

  reference_opposes : (v : Value P) (go go' : Option Name → Effect P) → ((a : Option Name) → Opposes (go a) (go' a)) → Opposes (Effect.reference_in v go) (Effect.reference_in v go')
  reference_opposes (Plain Null) go go' h = h None
  reference_opposes (Plain (Pointer a)) go go' h = h (Some a)
  reference_opposes (Plain _) go go' h = tt
  reference_opposes (Token class number) go go' h = tt
  reference_opposes (ReturnAddress p) go go' h = tt

  branch_opposes : (b c : Bool) (ops : List (Value P)) (ls : List (Local P)) → c ≡ not b → Opposes (Effect.branch b ops ls) (Effect.branch c ops ls)
  branch_opposes true c ops ls e = rw e refl
  branch_opposes false c ops ls e = rw e refl

  effect_opposes : (s s' : Setting) (i j : Basic) (ops : List (Value P)) (ls : List (Local P)) → opposed i ≡ Some j → Opposes (basic_effect s i ops ls) (basic_effect s' j ops ls)
  effect_opposes s s' (Basic.IfInt t) j ops ls e =
      let same : j ≡ Basic.IfInt (opposite t) = cc in
      rw same (pop_opposes ops _ _ (λ v rest. int_opposes v _ _ (λ x. branch_opposes (passes t x (pos 0)) _ rest ls (passes-opposite t x (pos 0)))))
  effect_opposes s s' (Basic.IfInts t) j ops ls e =
      let same : j ≡ Basic.IfInts (opposite t) = cc in
      rw same (pop_opposes ops _ _ (λ v rest. int_opposes v _ _ (λ y. pop_opposes rest _ _ (λ u rest'. int_opposes u _ _ (λ x. branch_opposes (passes t x y) _ rest' ls (passes-opposite t x y))))))
  effect_opposes s s' (Basic.IfReferences b) j ops ls e =
      let same : j ≡ Basic.IfReferences (not b) = cc in
      rw same (pop_opposes ops _ _ (λ v rest. reference_opposes v _ _ (λ y. pop_opposes rest _ _ (λ u rest'. reference_opposes u _ _ (λ x. branch_opposes (agrees b _) _ rest' ls (agrees-not b _))))))
  effect_opposes s s' (Basic.IfNull b) j ops ls e =
      let same : j ≡ Basic.IfNull (not b) = cc in
      rw same (pop_opposes ops _ _ (λ v rest. reference_opposes v _ _ (λ x. branch_opposes (agrees b _) _ rest ls (agrees-not b _))))
  effect_opposes s s' _ j ops ls e = absurd cc

module _ {P Q : Type 0} (f at : P → Q) (code : Code P) (code' : Code Q) (cs cs' : Classes) (Alike : World → World → Type 0) (arrives : Arrives f at code code') where
  abbrev WK : Growth Q → Frame Q → World → Turn P → Type 0
  WK = WidelyKept f Alike (Turn.turn code' cs')

  arrived : (p : P) (c : Content Q) (w : World) → is_some (code.line p) ≡ true → Turn.stays code' cs' (f p) c w ≡ Stays (f p) c w
  arrived p c w e = rw (arrives.lands p e) refl

  -- not taken: one step
  over_kept : (g : Growth Q) (y : Frame Q) (p : P) (c : Content P) (w w' : World) → Alike w w' → (b : Bool) → is_some (code.line p) ≡ b →
      Turn.turn code' cs' y w' ≡ Turn.stays code' cs' (f p) (grown f g.locals c) w' → WK g y w' (if b then Stays p c w else stops events.Broken)
  over_kept g y p c w w' a true e t = (a, inl (t ∙ arrived p (grown f g.locals c) w' e))
  over_kept g y p c w w' a false e t = tt

  -- taken: to the jump, and from there
  through_kept : (g : Growth Q) (y : Frame Q) (p : P) (c : Content P) (w w' : World) → Alike w w' → (b : Bool) → is_some (code.line p) ≡ b →
      (mid : Q) → Turn.turn code' cs' y w' ≡ Stays mid (grown f g.locals c) w' →
      Turn.turn code' cs' (frame_at y mid (grown f g.locals c)) w' ≡ Turn.stays code' cs' (f p) (grown f g.locals c) w' → WK g y w' (if b then Stays p c w else stops events.Broken)
  through_kept g y p c w w' a true e mid t u = (a, inr (mid, t, u ∙ arrived p (grown f g.locals c) w' e))
  through_kept g y p c w w' a false e mid t u = tt

  module _ (g : Growth Q) (x : Frame P) (b b' : Basic) (widens : Widens f at code code' x.place b b') where
    abbrev y : Frame Q
    y = grown_frame f at g x

    abbrev mid : Q
    mid = code'.next (at x.place)

    new_turn : (w' : World) → Turn.turn code' cs' y w' ≡ Turn.resolved code' cs' y w' (basic_effect (Turn.setting code' cs' y) b' y.content.operands y.content.locals)
    new_turn w' = rw widens.new refl

    jump_turn : (c : Content Q) (w' : World) → Turn.turn code' cs' (frame_at y mid c) w' ≡ Turn.stays code' cs' (f (code.target x.place 0)) c w'
    jump_turn c w' = rw (widens.jump, widens.to) refl

    on_mid : (c : Content Q) (w' : World) → Turn.stays code' cs' mid c w' ≡ Stays mid c w'
    on_mid c w' = rw widens.jump refl

    on_over : (c : Content Q) (w' : World) → Turn.stays code' cs' (code'.target (at x.place) 0) c w' ≡ Turn.stays code' cs' (f (code.next x.place)) c w'
    on_over c w' = rw widens.over refl

    -- the old effect e, the same in the new frame d, and the effect of the opposite test e'
    cases : (w w' : World) → Alike w w' → (e : Effect P) (d e' : Effect Q) → Kept f g.locals e d → Opposes d e' → Turn.turn code' cs' y w' ≡ Turn.resolved code' cs' y w' e' → WK g y w' (Turn.resolved code cs x w e)
    cases w w' a (On c) d e' k o t =
        let e : e' ≡ Jump 0 (grown f g.locals c) = subst (λ z. Opposes z e') (k.keeps (λ e. cc)) o in
        over_kept g y (code.next x.place) c w w' a (is_some (code.line (code.next x.place))) refl (t ∙ ap (Turn.resolved code' cs' y w') e ∙ on_over (grown f g.locals c) w')
    cases w w' a (Jump zero c) d e' k o t =
        let e : e' ≡ On (grown f g.locals c) = subst (λ z. Opposes z e') (k.keeps (λ e. cc)) o in
        through_kept g y (code.target x.place 0) c w w' a (is_some (code.line (code.target x.place 0))) refl mid
        (t ∙ ap (Turn.resolved code' cs' y w') e ∙ on_mid (grown f g.locals c) w') (jump_turn (grown f g.locals c) w')
    cases w w' a (Jump (suc i) c) d e' k o t = absurd (subst (λ z. Opposes z e') (k.keeps (λ e. cc)) o)
    cases w w' a (Enter i c) d e' k o t = absurd (subst (λ z. Opposes z e') (k.keeps (λ e. cc)) o)
    cases w w' a (Back p c) d e' k o t = absurd (subst (λ z. Opposes z e') (k.keeps (λ e. cc)) o)
    cases w w' a (Ask q c) d e' k o t = absurd (subst (λ z. Opposes z e') (k.keeps (λ e. cc)) o)
    cases w w' a (Announce class c) d e' k o t = absurd (subst (λ z. Opposes z e') (k.keeps (λ e. cc)) o)
    cases w w' a (CallStatic r given c) d e' k o t = absurd (subst (λ z. Opposes z e') (k.keeps (λ e. cc)) o)
    cases w w' a (CallOn special r n given c) d e' k o t = absurd (subst (λ z. Opposes z e') (k.keeps (λ e. cc)) o)
    cases w w' a (Build r class number given c) d e' k o t = absurd (subst (λ z. Opposes z e') (k.keeps (λ e. cc)) o)
    cases w w' a (Leave v) d e' k o t = absurd (subst (λ z. Opposes z e') (k.keeps (λ e. cc)) o)
    cases w w' a (Fail fault) d e' k o t = absurd (subst (λ z. Opposes z e') (k.keeps (λ e. cc)) o)
    cases w w' a (Throw n) d e' k o t = absurd (subst (λ z. Opposes z e') (k.keeps (λ e. cc)) o)
    cases w w' a (Unmodelled op) d e' k o t = absurd (subst (λ z. Opposes z e') (k.keeps (λ e. cc)) o)
    cases w w' a Broken d e' k o t = tt

    -- the test's turn
    pub widened_kept : (w w' : World) → Alike w w' → WK g y w' (Turn.turn code cs x w)
    widened_kept w w' a =
        rw widens.old (cases w w' a (basic_effect (Turn.setting code cs x) b x.content.operands x.content.locals)
        (basic_effect (roomier g.room (Turn.setting code cs x)) b y.content.operands y.content.locals) (basic_effect (Turn.setting code' cs' y) b' y.content.operands y.content.locals)
        (basic_kept f g.locals (Turn.setting code cs x) g.room b x.content.operands x.content.locals)
        (effect_opposes (roomier g.room (Turn.setting code cs x)) (Turn.setting code' cs' y) b b' y.content.operands y.content.locals widens.opposite)
        (new_turn w'))
