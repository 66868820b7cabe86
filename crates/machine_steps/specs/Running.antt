-- The running frame of a state, and what stands at the places of its method.
use Rattle.std.specs.Prelude.{◌≡◌, ℕ, suc, zero, ◌+◌, Bool, is_some, List, [], ◌∷◌, ◌++◌, map, take, reverse, length, slice_get, slice_set, Option, Some, refl}
use Rattle.std.specs.List.{AllByRecursion}
use Rattle.std.specs.Option.{option_map}
use Rattle.std.proofs.Common.{sym, ◌∙◌, ap, subst, arith}
use Rattle.std.proofs.lemmas.List.{reverse-append}
use Rattle.class_world.specs.Tables.{Known}
use Rattle.class_machine.specs.Turn as turns
use Rattle.class_machine.specs.Machine.{State}
use Rattle.class_machine.specs.ClassFiles.{Place, place_in, method_code, class_code}
use Rattle.machine_code.specs.declared.method_code.MethodCode as lent
use Rattle.machine_code.specs.Views.{code_seen}
use Rattle.machine_values.specs.declared.names.Name.{Name}
use Rattle.machine_values.specs.declared.frames.Frame.{Frame}
use Rattle.machine_values.specs.declared.script.Answer.{Answer}
use Rattle.machine_values.specs.declared.state.MachineState.{MachineState}
use Rattle.machine_values.specs.States.{machine_frame, IsFrameWithin}
use Rattle.machine_requests.specs.Replies.{IsLonger}
use Rattle.machine_steps.specs.declared.step.Step.{Step}
use Rattle.machine_steps.specs.Programs.{Machine, IsMachine}
use Rattle.machine_steps.specs.Runs.{Runs, Stepped}
use Rattle.machine_steps.specs.Moves.{Turning, moved_by, Moves}

-- the machine's frame that a frame is, with objects of these names
abbrev pub seen_by : Machine → List Name → Frame → turns.Frame Place
seen_by m names = machine_frame m.setting.heads m.methods names

-- of frames, the oldest first, the last one runs
abbrev pub waiting : Machine → List Name → List Frame → List (turns.Frame Place)
waiting m names rest = map (seen_by m names) (reverse rest)

-- the code is that which the class files have for the method of that number
abbrev pub HasCode : Known → ℕ → Option lent.MethodCode → Type 0
HasCode k method code = (m : Machine) → IsMachine k m → option_map code_seen code ≡ method_code m.files (m.methods method)

-- whatever state of the machine with a running frame the state stands for, the code is that of the frame's method
abbrev pub HasRunningCode : Known → MachineState → Option lent.MethodCode → Type 0
HasRunningCode k state code =
    (m : Machine) (answers : List Answer) (t : State Place) (f : turns.Frame Place) (below : List (turns.Frame Place)) → IsMachine k m → Runs m state answers t → t.frames ≡ f ∷ below
    → option_map code_seen code ≡ method_code m.files f.method

-- whether an instruction stands at the place of the running frame's method
abbrev pub TellsPlace : Known → MachineState → ℕ → Bool → Type 0
TellsPlace k state pc stands =
    (m : Machine) (answers : List Answer) (t : State Place) (f : turns.Frame Place) (below : List (turns.Frame Place)) → IsMachine k m → Runs m state answers t → t.frames ≡ f ∷ below
    → is_some ((class_code m.files).line (place_in f.method pc)) ≡ stands

-- ---- the last of a list

pub first_same : {A : Type 0} (x y : A) (xs ys : List A) → x ∷ xs ≡ y ∷ ys → x ≡ y
first_same x y xs ys e = cc

pub others_same : {A : Type 0} (x y : A) (xs ys : List A) → x ∷ xs ≡ y ∷ ys → xs ≡ ys
others_same x y xs ys e = cc

pub top_first : {A B : Type 0} (f : A → B) (xs : List A) (x : A) → map f (reverse (xs ++ x ∷ [])) ≡ f x ∷ map f (reverse xs)
top_first f xs x = ap (map f) (reverse-append xs (x ∷ []))

pub all_front : {A : Type 0} (P : A → Type 0) (xs : List A) (x : A) → AllByRecursion P (xs ++ x ∷ []) → AllByRecursion P xs
all_front P [] x h = tt
all_front P (y ∷ xs) x h = (h.0, all_front P xs x h.1)

pub all_last : {A : Type 0} (P : A → Type 0) (xs : List A) (x : A) → AllByRecursion P (xs ++ x ∷ []) → P x
all_last P [] x h = h.0
all_last P (y ∷ xs) x h = all_last P xs x h.1

pub all_pushed : {A : Type 0} (P : A → Type 0) (xs : List A) (x : A) → AllByRecursion P xs → P x → AllByRecursion P (xs ++ x ∷ [])
all_pushed P [] x h p = (p, tt)
all_pushed P (y ∷ xs) x h p = (h.0, all_pushed P xs x h.1 p)

pub split_last : {A : Type 0} (xs : List A) (i : ℕ) (x : A) → i + 1 ≡ length xs → slice_get xs i ≡ Some x → xs ≡ take i xs ++ x ∷ []
split_last [] i x h at = absurd (omega arith)
split_last (y ∷ []) zero x h at = ap (λ z. z ∷ []) (let e : Some y ≡ Some x = at in cc)
split_last (y ∷ z ∷ xs) zero x h at = absurd (omega arith)
split_last (y ∷ xs) (suc i) x h at = ap (λ zs. y ∷ zs) (split_last xs i x (omega arith) at)

pub set_last : {A : Type 0} (xs : List A) (i : ℕ) (x : A) → i + 1 ≡ length xs → slice_set xs i x ≡ take i xs ++ x ∷ []
set_last [] i x h = absurd (omega arith)
set_last (y ∷ []) zero x h = refl
set_last (y ∷ z ∷ xs) zero x h = absurd (omega arith)
set_last (y ∷ xs) (suc i) x h = ap (λ zs. y ∷ zs) (set_last xs i x (omega arith))

-- ---- the running frame

-- the machine's frames, where that one runs above the rest
pub frames_are : (m : Machine) (state : MachineState) (answers : List Answer) (t : State Place) (rest : List Frame) (g : Frame)
    → Runs m state answers t → state.frames.items ≡ rest ++ g ∷ [] → t.frames ≡ seen_by m state.heap.names g ∷ waiting m state.heap.names rest
frames_are m state answers t rest g runs top =
    runs.frames.frames ∙ ap (λ fs. map (seen_by m state.heap.names) (reverse fs)) top ∙ top_first (seen_by m state.heap.names) rest g

-- what moves that frame moves whatever frame the machine has
pub moves_at : (k : Known) (old new : MachineState) (step : Step) (turning : Turning) (rest : List Frame) (g : Frame) → old.frames.items ≡ rest ++ g ∷ []
    → ((m : Machine) (answers : List Answer) (t : State Place) → IsMachine k m → Runs m old answers t
    → Stepped m new answers step (moved_by turning m t (seen_by m old.heap.names g) (waiting m old.heap.names rest)))
    → Moves k old new step turning
moves_at k old new step turning rest g top by m answers t f below is runs same =
    let all : seen_by m old.heap.names g ∷ waiting m old.heap.names rest ≡ f ∷ below = sym (frames_are m old answers t rest g runs top) ∙ same in
    subst (λ (x : turns.Frame Place). Stepped m new answers step (moved_by turning m t x below)) (first_same _ _ _ _ all)
    (subst (λ (xs : List (turns.Frame Place)). Stepped m new answers step (moved_by turning m t (seen_by m old.heap.names g) xs)) (others_same _ _ _ _ all)
    (by m answers t is runs))

-- The running frame is that one, and the frames below it are the same; the heap has the objects that it had, and others.
pub record GoesOn (old new : MachineState) (rest : List Frame) (g : Frame) : Type 0 where
  pub frames : new.frames.items ≡ rest ++ g ∷ []
  pub longer : IsLonger old.heap new.heap
  pub due : new.due ≡ old.due
  pub within : IsFrameWithin (length new.heap.names) g

-- The frame f, which runs above the rest, becomes g; nothing else changes.
pub record Turned (old new : MachineState) (rest : List Frame) (f g : Frame) : Type 0 where
  pub before : old.frames.items ≡ rest ++ f ∷ []
  pub after : new.frames.items ≡ rest ++ g ∷ []
  pub same : new ≡ record old { frames = new.frames }

pub turned_at : (old new : MachineState) (i : ℕ) (f g : Frame) → i + 1 ≡ length old.frames.items → slice_get old.frames.items i ≡ Some f
    → new ≡ record old { frames = new.frames } → new.frames.items ≡ slice_set old.frames.items i g → Turned old new (take i old.frames.items) f g
turned_at old new i f g last there same set = record {
  before = split_last old.frames.items i f last there;
  after = set ∙ set_last old.frames.items i g last;
  same = same;
}
