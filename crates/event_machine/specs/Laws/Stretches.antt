-- Stretches of a run, and how they are put together.
use Rattle.std.proofs.Common.{◌≡◌, ℕ, suc, ◌≤◌, Bool, IsTrue, inl, inr, List, [], ◌∷◌, ◌++◌, refl, sym, ap, ◌∙◌, arith}
use Rattle.event_machine.specs.Outcome.{Outcome, Went, Said, Ended}
use Rattle.event_machine.specs.Observation.{observed_after, observed_from}
use Rattle.event_machine.specs.Follows.{Comes, Leads, Ends, Follows, Both, Waits, End, Breaks}
use Rattle.event_machine.specs.Alike.{Alike}
use Rattle.event_machine.specs.Laws.Growth.{keeps}

module _ {Event Ending State : Type 0} (step : State → Outcome Event Ending State) where
  -- a silent step
  pub went : (s s' : State) (said : List Event) → step s ≡ Went s' → Leads step s said s' said
  went s s' said e =
      record { by = λ k. (suc k, omega arith, ap (λ o. observed_after o (observed_from step k) said) e) }

  -- a step with an event
  pub said : (s s' : State) (event : Event) (before : List Event) → step s ≡ Said event s'
      → Leads step s before s' (before ++ event ∷ [])
  said s s' event before e =
      record { by = λ k. (suc k, omega arith, ap (λ o. observed_after o (observed_from step k) before) e) }

  -- the last step
  pub ended : (s : State) (end : Ending) (said : List Event) → step s ≡ Ended end → Ends step s said end said
  ended s end said e =
      record { steps = 1; observation = ap (λ o. observed_after o (observed_from step 0) said) e }

  -- no step
  pub stays : (s : State) (said : List Event) → Comes step s said s said
  stays s said = record { by = λ k. (k, omega arith, refl) }

  -- a stretch of one step or more is a stretch
  pub comes : (s s' : State) (said said' : List Event) → Leads step s said s' said'
      → Comes step s said s' said'
  comes s s' said said' p = record { by = λ k. let a = p.by k in (a.0, omega (arith, a.1), a.2) }

  -- one stretch after another
  pub comes_on : (s s' s'' : State) (said said' said'' : List Event) → Comes step s said s' said'
      → Comes step s' said' s'' said'' → Comes step s said s'' said''
  comes_on s s' s'' said said' said'' p q =
      record { by = λ k. let b = q.by k in let a = p.by b.0 in (a.0, omega (arith, a.1, b.1), a.2 ∙ b.2) }

  -- a stretch after one of one step or more
  pub leads_on : (s s' s'' : State) (said said' said'' : List Event) → Leads step s said s' said'
      → Comes step s' said' s'' said'' → Leads step s said s'' said''
  leads_on s s' s'' said said' said'' p q =
      record { by = λ k. let b = q.by k in let a = p.by b.0 in (a.0, omega (arith, a.1, b.1), a.2 ∙ b.2) }

  -- a stretch of one step or more after a stretch
  pub leads_after : (s s' s'' : State) (said said' said'' : List Event) → Comes step s said s' said'
      → Leads step s' said' s'' said'' → Leads step s said s'' said''
  leads_after s s' s'' said said' said'' p q =
      record { by = λ k. let b = q.by k in let a = p.by b.0 in (a.0, omega (arith, a.1, b.1), a.2 ∙ b.2) }

  -- an ending after a stretch
  pub ends_on : (s s' : State) (said said' said'' : List Event) (end : Ending) → Comes step s said s' said'
      → Ends step s' said' end said'' → Ends step s said end said''
  ends_on s s' said said' said'' end p q =
      let a = p.by q.steps in record { steps = a.0; observation = a.2 ∙ q.observation }

module _ {Event Ending S T : Type 0} (is_broken : Ending → Bool) (first : S → Outcome Event Ending S)
    (second : T → Outcome Event Ending T) (Related : S → T → Type 0) (rank : S → T → ℕ) where
  locked_at : (s : S) (t : T) (before : List Event) (o : Outcome Event Ending S) (p : Outcome Event Ending T)
      → first s ≡ o → second t ≡ p → Alike is_broken Related o p
      → Follows is_broken first second Related rank s t before
  locked_at s t before (Went s') (Went t') e f r =
      Both s' t' before (went first s s' before e) (went second t t' before f) r
  locked_at s t before (Said x s') (Said y t') e f r =
      let same = f ∙ ap (λ z. Said z t') (sym r.0) in
      Both s' t' (before ++ x ∷ []) (said first s s' x before e) (said second t t' x before same) r.1
  locked_at s t before (Ended end) p e f (inl b) =
      Breaks end b before 0 (ended first s end before e) (keeps second 0 t before)
  locked_at s t before (Ended end) p e f (inr same) =
      End end before (ended first s end before e) (ended second t end before (f ∙ same))
  locked_at s t before (Went s') (Said y t') e f r = absurd r
  locked_at s t before (Went s') (Ended end) e f r = absurd r
  locked_at s t before (Said x s') (Went t') e f r = absurd r
  locked_at s t before (Said x s') (Ended end) e f r = absurd r

  -- where one step of the first and one step of the second go alike, the second follows the first
  pub locked : (s : S) (t : T) (said : List Event) → Alike is_broken Related (first s) (second t)
      → Follows is_broken first second Related rank s t said
  locked s t said r = locked_at s t said (first s) (second t) refl refl r

  -- where the first breaks at once, nothing is asked of the second
  pub breaks : (s : S) (t : T) (said : List Event) (end : Ending) → IsTrue (is_broken end)
      → first s ≡ Ended end → Follows is_broken first second Related rank s t said
  breaks s t said end b e = Breaks end b said 0 (ended first s end said e) (keeps second 0 t said)

  -- Where both come to states from which the second follows the first, and the rank is no less now, it follows now.
  pub follows_on : (s s' : S) (t t' : T) (said said' : List Event) → rank s' t' ≤ rank s t
      → Comes first s said s' said' → Comes second t said t' said'
      → Follows is_broken first second Related rank s' t' said'
      → Follows is_broken first second Related rank s t said
  follows_on s s' t t' said said' le p q (Both s'' t'' said'' p' q' r) =
      Both s'' t'' said''
      (leads_after first s s' s'' said said' said'' p p')
      (leads_after second t t' t'' said said' said'' q q') r
  follows_on s s' t t' said said' le p q (Waits s'' t'' said'' falls p' q' r) =
      Waits s'' t'' said'' (omega (arith, le, falls))
      (comes_on first s s' s'' said said' said'' p p')
      (comes_on second t t' t'' said said' said'' q q') r
  follows_on s s' t t' said said' le p q (End end said'' p' q') =
      End end said'' (ends_on first s s' said said' said'' end p p') (ends_on second t t' said said' said'' end q q')
  follows_on s s' t t' said said' le p q (Breaks end b said'' m p' begins) =
      let a = q.by m in Breaks end b said'' a.0 (ends_on first s s' said said' said'' end p p') (rw a.2 begins)
