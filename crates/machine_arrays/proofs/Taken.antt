-- Sizes that were taken from the running frame, and are put back.
use Rattle.std.specs.Prelude.{◌≡◌, ℕ, zero, suc, ◌+◌, ◌-◌, ◌<◌, ◌⊎◌, List, [], ◌∷◌, ◌++◌, take, length, slice_get, slice_set, ℤ, Some, refl}
use Rattle.std.specs.Vec.{with_item}
use Rattle.std.specs.Global.{Vec}
use Rattle.std.proofs.Common.{sym, ◌∙◌, ap, subst, inl, inr, arith}
use Rattle.std.proofs.Math.Nat.{ℕ_set}
use Rattle.class_world.specs.Tables.{Known}
use Rattle.class_machine.specs.ClassFiles.{Place}
use Rattle.class_machine.specs.Classes.{reference}
use Rattle.class_machine.specs.Effect as definition
use Rattle.class_machine.specs.Values as machine
use Rattle.machine_values.specs.declared.frames.Frame.{Frame}
use Rattle.machine_values.specs.declared.state.MachineState.{MachineState}
use Rattle.machine_frames.specs.Naming.{Naming}
use Rattle.machine_frames.specs.Effects.{operands_of, locals_of}
use Rattle.machine_frames.specs.Sizes.{Sizes}
use Rattle.machine_steps.specs.Going.{formed_turned}
use Rattle.machine_steps.specs.Running.{Turned, turned_at}
use Rattle.machine_steps.specs.Runs.{IsFormed}
use Rattle.machine_arrays.specs.Stepping.{TakesSizes}

-- ---- a vector whose items are the same

module _ (v : Vec Frame) where
  with_list : (xs : List Frame) → v.len ≡ length xs → Vec Frame
  with_list xs e = record { ptr = v.ptr; len = v.len; cap = v.cap; alloc = v.alloc; items = xs; ok = (e, v.ok.1); small = v.small }

  itself : (xs : List Frame) → xs ≡ v.items → (e : v.len ≡ length xs) → with_list xs e ≡ v
  unfolding with_list
  itself xs same = subst (λ (ys : List Frame). (e : v.len ≡ length ys) → with_list ys e ≡ v) (sym same) (λ e. ap (with_list v.items) (ℕ_set v.len (length v.items) e v.ok.0))

set_same : {X : Type 0} (xs : List X) (i : ℕ) (x : X) → slice_get xs i ≡ Some x → slice_set xs i x ≡ xs
set_same [] i x h = refl
set_same (y ∷ xs) zero x h = ap (λ z. z ∷ xs) (let e : Some y ≡ Some x = h in cc)
set_same (y ∷ xs) (suc i) x h = ap (λ l. y ∷ l) (set_same xs i x h)

set_twice : {X : Type 0} (xs : List X) (i : ℕ) (x y : X) → slice_set (slice_set xs i x) i y ≡ slice_set xs i y
set_twice [] i x y = refl
set_twice (z ∷ xs) zero x y = refl
set_twice (z ∷ xs) (suc i) x y = ap (λ l. z ∷ l) (set_twice xs i x y)

same_length : {X : Type 0} (xs : List X) (i : ℕ) (x : X) → length (slice_set xs i x) ≡ length xs
same_length [] i x = refl
same_length (y ∷ xs) zero x = refl
same_length (y ∷ xs) (suc i) x = ap suc (same_length xs i x)

set_there : {X : Type 0} (xs : List X) (i : ℕ) (x : X) → i < length xs → slice_get (slice_set xs i x) i ≡ Some x
set_there [] i x h = absurd (omega arith)
set_there (y ∷ xs) zero x h = refl
set_there (y ∷ xs) (suc i) x h = set_there xs i x (omega arith)

pub last_or_none : {X : Type 0} (xs : List X) → (xs ≡ []) ⊎ ((rest : List X) × (x : X) × (xs ≡ rest ++ x ∷ []))
last_or_none [] = inl refl
last_or_none {X = X} (x ∷ xs) = by (last_or_none xs) where
  by : (xs ≡ []) ⊎ ((rest : List X) × (y : X) × (xs ≡ rest ++ y ∷ [])) → ((x ∷ xs) ≡ []) ⊎ ((rest : List X) × (y : X) × ((x ∷ xs) ≡ rest ++ y ∷ []))
  by (inl none) = inr ([], x, ap (λ l. x ∷ l) none)
  by (inr (rest, y, e)) = inr (x ∷ rest, y, ap (λ l. x ∷ l) e)

-- an item that is written as it was
pub written_same : (v : Vec Frame) (i : ℕ) (f : Frame) → slice_get v.items i ≡ Some f → with_item v i f ≡ v
unfolding with_list
written_same v i f there = itself v (slice_set v.items i f) (set_same v.items i f there) _

pub written_back : (v : Vec Frame) (i : ℕ) (f g : Frame) → slice_get v.items i ≡ Some f → with_item (with_item v i g) i f ≡ v
unfolding with_list
written_back v i f g there = itself v (slice_set (slice_set v.items i g) i f) (set_twice v.items i g f ∙ set_same v.items i f there) _

-- ---- how many sizes

abbrev Ops : Type 0
Ops = List (machine.Value Place)

module _ (ls : List (machine.Local Place)) where
  abbrev asking : List ℕ → List ℤ → Ops → definition.Effect Place
  asking type sizes rest = definition.Ask (definition.MakeArray (Some type) type sizes) (machine.content rest ls)

  sizes_many : (n : ℕ) (taken : List ℤ) (ops : Ops) (type : List ℕ) (xs : List ℤ) (c : machine.Content Place)
      → definition.pop_sizes n taken ops (asking type) ≡ definition.Ask (definition.MakeArray (Some type) type xs) c → length xs ≡ n + length taken
  sizes_many zero taken ops type xs c h = let e : taken ≡ xs = cc in let m = ap length e in omega arith
  sizes_many (suc n) taken [] type xs c h = absurd cc
  sizes_many (suc n) taken (machine.Plain (machine.Int x) ∷ ops) type xs c h = let m = sizes_many n (x ∷ taken) ops type xs c h in omega arith
  sizes_many (suc n) taken (machine.Plain (machine.Long x) ∷ ops) type xs c h = absurd cc
  sizes_many (suc n) taken (machine.Plain (machine.Float x) ∷ ops) type xs c h = absurd cc
  sizes_many (suc n) taken (machine.Plain (machine.Double x) ∷ ops) type xs c h = absurd cc
  sizes_many (suc n) taken (machine.Plain machine.Null ∷ ops) type xs c h = absurd cc
  sizes_many (suc n) taken (machine.Plain (machine.Reference a) ∷ ops) type xs c h = absurd cc
  sizes_many (suc n) taken (machine.Token class number ∷ ops) type xs c h = absurd cc
  sizes_many (suc n) taken (machine.ReturnAddress place ∷ ops) type xs c h = absurd cc

no_names : Naming
no_names = record { heads = []; methods = λ n. reference [] [] []; names = [] }

pub many_sizes : (dims : ℕ) (f g : Frame) (xs : List ℤ) → Sizes dims f xs g → length xs ≡ dims
many_sizes dims f g xs sizes =
    let m = sizes_many (locals_of no_names f) dims [] (operands_of no_names f) [] xs _ (sizes no_names (Some []) []) in omega arith

-- ---- of the state

module _ (dims : ℕ) (old : MachineState) (xs : List ℤ) (new : MachineState) (h : TakesSizes dims old xs new) where
  abbrev below : List Frame
  below = take h.at old.frames.items

  pub taken_turned : Turned old new below h.before h.after
  taken_turned = turned_at old new h.at h.before h.after h.last h.there (h.changed ∙ ap (λ (s : MachineState). record old { frames = s.frames }) (sym h.changed)) (ap (λ (s : MachineState). s.frames.items) h.changed)

  pub taken_many : length xs ≡ dims
  taken_many = many_sizes dims h.before h.after xs h.sizes

  pub taken_formed : (k : Known) → IsFormed k old → IsFormed k new
  taken_formed k formed = formed_turned k old new below h.before h.after taken_turned (ap (λ (f : Frame). f.method) h.taken.rest) formed

  -- what was taken is put back
  pub taken_back : (back : MachineState) (top : ℕ) (f : Frame) → top ≡ length new.frames.items - 1 → f ≡ h.before → back ≡ record new { frames = with_item new.frames top f } → back ≡ old
  taken_back back top f last same is =
      let len : length new.frames.items ≡ length old.frames.items = ap (λ (s : MachineState). length s.frames.items) h.changed ∙ same_length old.frames.items h.at h.after in
      let end : top ≡ h.at = (let l = h.last in omega arith) in
      is ∙ ap (λ (n : ℕ). record new { frames = with_item new.frames n f }) end ∙ ap (λ (g : Frame). record new { frames = with_item new.frames h.at g }) same
      ∙ ap (λ (s : MachineState). record s { frames = with_item s.frames h.at h.before }) h.changed
      ∙ ap (λ (fs : Vec Frame). record old { frames = fs }) (written_back old.frames h.at h.before h.after h.there)

  -- the frame at the end is the one that they were taken from
  pub taken_last : (top : ℕ) (g : Frame) → top ≡ length new.frames.items - 1 → slice_get new.frames.items top ≡ Some g → g ≡ h.after
  taken_last top g last there =
      let len : length new.frames.items ≡ length old.frames.items = ap (λ (s : MachineState). length s.frames.items) h.changed ∙ same_length old.frames.items h.at h.after in
      let end : top ≡ h.at = (let l = h.last in omega arith) in
      let got : slice_get (slice_set old.frames.items h.at h.after) h.at ≡ Some g =
      ap (λ (s : MachineState). slice_get s.frames.items h.at) (sym h.changed) ∙ ap (slice_get new.frames.items) (sym end) ∙ there in
      let is : Some h.after ≡ Some g = sym (set_there old.frames.items h.at h.after (let l = h.last in omega arith)) ∙ got in
      cc
