-- What the machine answers to an instruction that names nothing leaves the answers of the script.
use Rattle.std.specs.Prelude.{◌≡◌, ℕ, zero, suc, Bool, true, false, if◌then◌else◌, List, [], ◌∷◌, Option, Some, None, ℤ, pos, negsuc, length, slice_get, slice_set, refl}
use Rattle.std.specs.List.{list_any}
use Rattle.std.proofs.Common.{◌∙◌}
use Rattle.class_machine.specs.Classes.{Classes}
use Rattle.class_machine.specs.Values.{Name, Held, class_of}
use Rattle.class_machine.specs.Numbers.{count_int}
use Rattle.class_machine.specs.Descriptors.{elements_of, held_in, narrowed, primitive}
use Rattle.class_machine.specs.World.{World, Object, Instance, Array, Text, object_at, set_object, with_object, next_name, count_in, enter_monitor}
use Rattle.class_machine.specs.declared.kinds.Fault.{Fault}
use Rattle.class_machine.specs.Answers
use Rattle.class_machine.specs.Answers.{Reply, Gives, Done, Faults, Refuses, answer, serves, may_hold, in_turn, make_arrays, size_of, is_negative}
use Rattle.class_machine.specs.declared.kinds.Element.{Element}
use Rattle.machine_frames.specs.declared.effect.Request.{Request}
use Rattle.machine_frames.specs.declared.effect.Request.TheVariants.{MakeArray, ArrayLoad, ArrayStore, ArrayLength, EnterMonitor, LeaveMonitor}
use Rattle.machine_frames.specs.Effects.{request_in}
use Rattle.machine_frames.specs.Naming.{Naming, reference, held}

-- the answers that are left stay
abbrev pub Plainly : World → Reply → Type 0
Plainly w (Gives h v) = v.answers ≡ w.answers
Plainly w (Done v) = v.answers ≡ w.answers
Plainly w (Faults fault) = Unit {0}
Plainly w Refuses = Unit {0}

unless_null_plain : (w : World) (a : Option Name) (go : Name → Reply) → ((x : Name) → Plainly w (go x)) → Plainly w (Answers.unless_null a go)
unless_null_plain w None go h = tt
unless_null_plain w (Some x) go h = h x

elements_plain : (w : World) (o : Option Object) (go : List Held → Reply) → ((elements : List Held) → Plainly w (go elements)) → Plainly w (Answers.elements_in o go)
elements_plain w (Some (Array elements)) go h = h elements
elements_plain w (Some (Instance fields)) go h = tt
elements_plain w (Some (Text units)) go h = tt
elements_plain w None go h = tt

if_plain : (w : World) (b : Bool) (r : Reply) → Plainly w r → Plainly w (if b then r else Refuses)
if_plain w true r h = h
if_plain w false r h = tt

element_plain : (w : World) (o : Option Held) (go : Held → Reply) → ((v : Held) → Plainly w (go v)) → Plainly w (Answers.element_or_fault o go)
element_plain w None go h = tt
element_plain w (Some v) go h = h v

index_plain : (w : World) (i : ℤ) (elements : List Held) (go : ℕ → Held → Reply) → ((k : ℕ) (v : Held) → Plainly w (go k v)) → Plainly w (Answers.at_index i elements go)
index_plain w (pos i) elements go h = element_plain w (slice_get elements i) (go i) (h i)
index_plain w (negsuc i) elements go h = tt

array_plain : (w : World) (e : Element) (a : Name) (go : List Held → Reply) → ((elements : List Held) → Plainly w (go elements)) → Plainly w (Answers.array_at w e a go)
array_plain w e a go h =
    elements_plain w (object_at w a) (λ elements. if serves e (held_in (class_of a)) then go elements else Refuses) (λ elements. if_plain w (serves e (held_in (class_of a))) (go elements) (h elements))

-- ---- new arrays

turn_answers : (one : World → Held × World) (n : ℕ) (w : World) → ((v : World) → (one v).1.answers ≡ v.answers) → (in_turn one n w).1.answers ≡ w.answers
turn_answers one zero w h = refl
turn_answers one (suc n) w h = turn_answers one n (one w).1 h ∙ h w

array_answers : (type : List ℕ) (size : ℤ) (w : World) → (make_arrays type (size ∷ []) w).1.answers ≡ w.answers
array_answers type size w = turn_answers (make_arrays (elements_of type) []) (size_of size) (with_object w (next_name w type) (Array [])) (λ v. refl)

made_plain : (w : World) (b : Bool) (made : Held × World) → made.1.answers ≡ w.answers → Plainly w (if b then Faults Fault.NegativeArraySize else Gives made.0 made.1)
made_plain w true made kept = tt
made_plain w false made kept = kept

left_plain : (w : World) (a : Name) (n : ℕ) → Plainly w (Answers.left w a n)
left_plain w a zero = tt
left_plain w a (suc n) = refl

stored_plain : (w : World) (b : Bool) (v : World) → v.answers ≡ w.answers → Plainly w (if b then Done v else Faults Fault.ArrayStore)
stored_plain w true v h = h
stored_plain w false v h = tt

pub answers_plainly : (cs : Classes) (w : World) (n : Naming) (r : Request) → Plainly w (answer cs w (request_in n r))
answers_plainly cs w n (MakeArray e size) = made_plain w (list_any is_negative (size ∷ [])) (make_arrays (91 ∷ primitive e) (size ∷ []) w) (array_answers (91 ∷ primitive e) size w)
answers_plainly cs w n (ArrayLoad e a i) =
    unless_null_plain w (reference n a) (λ x. Answers.array_load w e x i)
    (λ x. array_plain w e x (λ elements. Answers.at_index i elements (λ k v. Gives v w)) (λ elements. index_plain w i elements (λ k v. Gives v w) (λ k v. refl)))
answers_plainly cs w n (ArrayStore e a i v) =
    unless_null_plain w (reference n a) (λ x. Answers.array_store cs w e x i (held n v))
    (λ x. array_plain w e x (λ elements. Answers.at_index i elements (λ k old.
    if may_hold cs (class_of x) (held n v) then Done (set_object w x (Array (slice_set elements k (narrowed (held_in (class_of x)) (held n v))))) else Faults Fault.ArrayStore))
    (λ elements. index_plain w i elements (λ k old.
    if may_hold cs (class_of x) (held n v) then Done (set_object w x (Array (slice_set elements k (narrowed (held_in (class_of x)) (held n v))))) else Faults Fault.ArrayStore)
    (λ k old. stored_plain w (may_hold cs (class_of x) (held n v)) (set_object w x (Array (slice_set elements k (narrowed (held_in (class_of x)) (held n v))))) refl)))
answers_plainly cs w n (ArrayLength a) =
    unless_null_plain w (reference n a) (λ x. Answers.array_length w x)
    (λ x. elements_plain w (object_at w x) (λ elements. Gives (Held.Int (count_int (length elements))) w) (λ elements. refl))
answers_plainly cs w n (EnterMonitor a) = unless_null_plain w (reference n a) (λ x. Done (enter_monitor w x)) (λ x. refl)
answers_plainly cs w n (LeaveMonitor a) = unless_null_plain w (reference n a) (λ x. Answers.left w x (count_in w.monitors x)) (λ x. left_plain w x (count_in w.monitors x))
