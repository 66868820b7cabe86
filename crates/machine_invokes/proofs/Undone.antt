-- A frame is as it was before an invocation.
use Rattle.std.specs.Prelude.{◌≡◌, ℕ, suc, ◌+◌, ◌≤◌, List, [], ◌∷◌, ◌++◌, length, refl}
use Rattle.std.proofs.Common.{sym, ◌∙◌, ap, subst, arith, append_assoc, length-append}
use Rattle.machine_values.specs.declared.frames.Frame.{Frame}
use Rattle.machine_values.specs.declared.state.MachineState.{MachineState}
use Rattle.machine_values.specs.declared.values.Value.{Value}
use Rattle.machine_values.specs.Stacks.{weight}
use Rattle.machine_frames.specs.Undoing.{IsTaken}
use Rattle.machine_invocations.proofs.Filled.{weight_parts}
use Rattle.machine_steps.specs.Giving.{with_values}
use Rattle.machine_invokes.specs.Taking.{Takes, PutsBack}

-- ---- what was taken below the arguments

module _ (f g : Frame) (vs : List Value) (v : Value) (taken : IsTaken f (vs ++ v ∷ []) g) where
  -- with the value below, and without those above it
  abbrev pub between : Frame
  between = record f { operands = record { room = f.operands.room; values = v ∷ g.operands.values } }

  items : f.operands.values ≡ vs ++ v ∷ g.operands.values
  items = taken.taken.values ∙ append_assoc vs (v ∷ []) g.operands.values

  fits_whole : weight f.operands.values ≤ f.operands.room
  fits_whole = taken.taken.fits (let e = length-append vs (v ∷ []) in let one : length (v ∷ []) ≡ 1 = refl in omega (arith, e, one))

  -- what is left has room
  pub fits_left : weight g.operands.values ≤ g.operands.room
  fits_left =
      let all = ap weight taken.taken.values ∙ weight_parts (vs ++ v ∷ []) g.operands.values in
      let whole = fits_whole in
      let room = taken.taken.room in
      omega (arith, all, room)

  pub above_taken : IsTaken f vs between
  above_taken = record { rest = refl; taken = record { room = refl; values = items; fits = λ some. fits_whole } }

  pub below_taken : IsTaken between (v ∷ []) g
  below_taken = record {
    rest = taken.rest;
    taken = record {
      room = taken.taken.room;
      values = refl;
      fits = λ some.
          let all = ap weight items ∙ weight_parts vs (v ∷ g.operands.values) in
          let whole = fits_whole in
          omega (arith, all);
    };
  }

-- ---- in the state

module _ (old mid : MachineState) (vs : List Value) (takes : Takes old mid vs) where
  abbrev now : Frame
  now = with_values takes.before takes.left

  -- the frames, where others were put on top
  pub under : (own : List Frame) (state : MachineState) → state.frames.items ≡ mid.frames.items ++ own → state.frames.items ≡ takes.rest ++ now ∷ own
  under own state items = items ∙ ap (λ (fs : List Frame). fs ++ own) takes.turned.after ∙ append_assoc takes.rest (now ∷ []) own

  pub place : (index : ℕ) → length mid.frames.items ≡ suc index → length takes.rest ≡ index
  place index len =
      let e = ap length takes.turned.after ∙ length-append takes.rest (now ∷ []) in
      let s : suc index ≡ index + 1 = omega arith in
      omega (arith, e, len, s)

  back : (own : List Frame) → takes.rest ++ takes.before ∷ own ≡ old.frames.items ++ own
  back own = sym (ap (λ (fs : List Frame). fs ++ own) takes.turned.before ∙ append_assoc takes.rest (takes.before ∷ []) own)

  module _ (index : ℕ) (own : List Frame) (state final : MachineState) (items : state.frames.items ≡ mid.frames.items ++ own) (len : length mid.frames.items ≡ suc index) where
    pub all_back : PutsBack index vs state final → final.frames.items ≡ old.frames.items ++ own
    all_back puts = puts.frames takes.rest own takes.before now (place index len) (under own state items) takes.taken ∙ back own

    -- the value below first, and then those above it
    pub two_back : (us : List Value) (v : Value) → vs ≡ us ++ v ∷ [] → (between_state : MachineState) → PutsBack index (v ∷ []) state between_state → PutsBack index us between_state final → final.frames.items ≡ old.frames.items ++ own
    two_back us v same between_state first then_all =
        let taken : IsTaken takes.before (us ++ v ∷ []) now = subst (λ (ws : List Value). IsTaken takes.before ws now) same takes.taken in
        let h = between takes.before now us v taken in
        let one = first.frames takes.rest own h now (place index len) (under own state items) (below_taken takes.before now us v taken) in
        then_all.frames takes.rest own takes.before h (place index len) one (above_taken takes.before now us v taken) ∙ back own
