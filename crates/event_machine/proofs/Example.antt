-- Worked examples: observations that compute from the definitions alone, a forward simulation, and machines that are
-- told apart or are not.
use Rattle.std.proofs.Common.{◌≡◌, ℕ, zero, suc, Bool, true, false, List, [], ◌∷◌, ◌++◌, Some, None, refl, arith, inl, inr, sym, ap, ◌∙◌}
use Rattle.event_machine.specs.Outcome.{Outcome, Went, Said, Ended}
use Rattle.event_machine.specs.Observation.{observed, IsPrefix}
use Rattle.event_machine.specs.Equivalent.{Equivalent}
use Rattle.event_machine.specs.Follows.{Follows, Both, Waits, End, no_waits}
use Rattle.event_machine.specs.Laws.{simulated, went, said, ended, stays, comes, breaks}

-- the endings of these machines
data Stop : Type 0 where
  Done : Stop
  Broken : Stop

abbrev is_broken : Stop → Bool
is_broken Done = false
is_broken Broken = true

-- a bell that rings in two steps: the number 7 is its sound
data Bell : Type 0 where
  Drawn : Bell
  Loose : Bell
  Still : Bell

abbrev ring : Bell → Outcome ℕ Stop Bell
ring Drawn = Went Loose
ring Loose = Said 7 Still
ring Still = Ended Done

-- at first nothing is observed
starts : observed ring 0 Drawn ≡ record { events = []; ending = None }
starts = refl

-- a silent step shows nothing
silent : observed ring 1 Drawn ≡ record { events = []; ending = None }
silent = refl

-- then the event, and the run goes on
says : observed ring 2 Drawn ≡ record { events = 7 ∷ []; ending = None }
says = refl

-- then it ends
ends : observed ring 3 Drawn ≡ record { events = 7 ∷ []; ending = Some Done }
ends = refl

-- and stays as it is
rests : observed ring 9 Drawn ≡ record { events = 7 ∷ []; ending = Some Done }
rests = refl

-- a bell that rings at once
data Gong : Type 0 where
  Ready : Gong
  Struck : Gong

abbrev strike : Gong → Outcome ℕ Stop Gong
strike Ready = Said 7 Struck
strike Struck = Ended Done

-- which states of the two stand for each other
abbrev Rings : Bell → Gong → Type 0
Rings Drawn Ready = Unit {0}
Rings Loose Ready = Unit {0}
Rings Still Struck = Unit {0}
Rings Drawn Struck = ⊥
Rings Loose Struck = ⊥
Rings Still Ready = ⊥

-- how many steps the bell takes while the gong stands still
abbrev silent_steps : Bell → Gong → ℕ
silent_steps Drawn g = 1
silent_steps Loose g = 0
silent_steps Still g = 0

-- what both do from states that stand for each other: at Drawn only the bell moves, then both ring, then both end
ring_follows : (s : Bell) (t : Gong) (before : List ℕ) → Rings s t
    → Follows is_broken ring strike Rings silent_steps s t before
ring_follows Drawn Ready before r =
    Waits Loose Ready before (omega arith) (comes ring Drawn Loose before before (went ring Drawn Loose before refl)) (stays strike Ready before) tt
ring_follows Loose Ready before r =
    Both Still Struck (before ++ 7 ∷ []) (said ring Loose Still 7 before refl) (said strike Ready Struck 7 before refl) tt
ring_follows Still Struck before r =
    End Done before (ended ring Still Done before refl) (ended strike Struck Done before refl)
ring_follows Drawn Struck before r = absurd r
ring_follows Loose Struck before r = absurd r
ring_follows Still Ready before r = absurd r

-- so nobody who hears them can tell them apart
rings_alike : Equivalent is_broken ring Drawn strike Ready
rings_alike = simulated is_broken ring strike Rings silent_steps ring_follows Drawn Ready tt

-- a bell without a clapper ends at once and says nothing
data Mute : Type 0 where
  Hung : Mute

abbrev hush : Mute → Outcome ℕ Stop Mute
hush Hung = Ended Done

never_said : (m : ℕ) → IsPrefix (7 ∷ []) (observed hush m Hung).events → ⊥
never_said zero begins = let e = begins.whole in cc
never_said (suc m) begins = let e = begins.whole in cc

-- a machine that drops an event is told apart
drops_event : Equivalent is_broken ring Drawn hush Hung → ⊥
drops_event p = let m = p.forth 2 in let w = m.1 in never_said m.0 w.events

-- a bell that swings for ever
data Swing : Type 0 where
  Swinging : Swing

abbrev sway : Swing → Outcome ℕ Stop Swing
sway Swinging = Went Swinging

never_over : (n : ℕ) → observed sway n Swinging ≡ record { events = []; ending = None }
never_over zero = refl
never_over (suc n) = never_over n

-- a machine that goes on in silence where the first ends is told apart
never_ends : Equivalent is_broken ring Still sway Swinging → ⊥
never_ends p =
    let m = p.forth 1 in
    let w = m.1 in
    let over = ap (λ o. o.ending) (w.ending Done refl refl) in
    let going = ap (λ o. o.ending) (never_over m.0) in
    let e : None ≡ Some Done = sym going ∙ over in
    cc

-- and so is one that ends where the first goes on in silence
ends_early : Equivalent is_broken sway Swinging ring Still → ⊥
ends_early p =
    let m = p.back 1 in
    let going = ap (λ o. o.ending) (never_over m.0) in
    elim m.1 [
      | inl c ↦ let over = ap (λ o. o.ending) (c.ending Done refl) in let e : None ≡ Some Done = sym going ∙ over in cc
      | inr x ↦ let over = x.broken.reached in let e : None ≡ Some x.broken.end = sym going ∙ over in cc
    ]

-- where the first is broken, nothing is asked of the second
abbrev crack : Mute → Outcome ℕ Stop Mute
crack Hung = Ended Broken

abbrev Any : Mute → Bell → Type 0
Any s t = Unit {0}

crack_follows : (s : Mute) (t : Bell) (before : List ℕ) → Any s t → Follows is_broken crack ring Any no_waits s t before
crack_follows Hung t before r = breaks is_broken crack ring Any no_waits Hung t before Broken refl refl

cracked : Equivalent is_broken crack Hung ring Drawn
cracked = simulated is_broken crack ring Any no_waits crack_follows Hung Drawn tt
