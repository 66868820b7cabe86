-- What was taken from the operands and is put back.
use Rattle.std.specs.Prelude.{◌≡◌, ℕ, zero, suc, ◌+◌, ◌<◌, ◌≤◌, Bool, true, false, List, [], ◌∷◌, ◌++◌, drop, length, map, reverse, Option, Some, None, IfSome, IfOk, Result, Ok, Err, MatchOption, refl, ℤ}
use Rattle.std.specs.Bool.{MatchBool}
use Rattle.std.proofs.Common.{get_or, sym, ◌∙◌, ap, subst, arith, append_assoc, append-nil, drop-cons, add-one}
use Rattle.std.proofs.lemmas.List.{reverse-append, drop_all}
use Rattle.machine_values.specs.declared.values.Ref.{Ref}
use Rattle.machine_values.specs.declared.values.Value.{Value}
use Rattle.machine_values.specs.declared.values.Value.TheVariants as value
use Rattle.machine_values.specs.declared.frames.Frame.{Frame}
use Rattle.machine_values.specs.Stacks as stacks
use Rattle.machine_values.specs.Stacks.{Stack, width, weight}
use Rattle.class_machine.specs.declared.kinds.Element.{Element}
use Rattle.class_machine.specs.declared.kinds.Fault.{Fault}
use Rattle.machine_frames.specs.declared.effect.Request.{Request}
use Rattle.machine_frames.specs.declared.effect.Request.TheVariants.{MakeArray, ArrayLoad, ArrayStore, ArrayLength, EnterMonitor, LeaveMonitor}
use Rattle.machine_frames.specs.declared.effect.Effect.{Effect}
use Rattle.machine_frames.specs.declared.effect.Effect.TheVariants.{On, Jump, Enter, Back, Ask, Leave, Fail, Throw, Unmodelled, Broken}
use Rattle.machine_frames.specs.Operands.{StaysKnown}
use Rattle.machine_frames.specs.Effects.{AreKnown}
use Rattle.machine_frames.specs.Undoing.{reference_value, taken_by, TakesAll, UndoneOn, UndoesOn, is_plain, IsTaken, UndoneBy, Undoes}

-- ---- pops

taken_one : (s t : Stack) (v : Value) → t.room ≡ s.room → s.values ≡ v ∷ t.values → weight s.values ≤ s.room → TakesAll s (v ∷ []) t
taken_one s t v room values fits = record { room = room; values = values; fits = λ some. fits }

pub taken_some : (o : Option Value) (s t : Stack) → t.room ≡ s.room → MatchOption o ((s.values ≡ []) × (t.values ≡ [])) (λ v. s.values ≡ v ∷ t.values) → weight s.values ≤ s.room → IfSome o (λ v. TakesAll s (v ∷ []) t)
taken_some None s t room popped fits = tt
taken_some (Some v) s t room popped fits = taken_one s t v room popped fits

pub takes_more : (s t u : Stack) (vs us : List Value) → TakesAll s vs t → TakesAll t us u → TakesAll s (vs ++ us) u
takes_more s t u [] us h k = record {
  room = k.room ∙ h.room;
  values = h.values ∙ k.values;
  fits = λ some. (let fits = k.fits some in let same = ap weight h.values in let room = h.room in omega arith);
}
takes_more s t u (v ∷ vs) us h k = record {
  room = k.room ∙ h.room;
  values = h.values ∙ ap (λ l. (v ∷ vs) ++ l) k.values ∙ sym (append_assoc (v ∷ vs) us u.values);
  fits = λ some. h.fits (omega arith);
}

pub takes_none : (s : Stack) → TakesAll s [] s
takes_none s = record { room = refl; values = refl; fits = λ some. absurd (omega arith) }

-- ---- requests

pub asks : (s t : Stack) (r : Request) → TakesAll s (taken_by r) t → UndoesOn s t (Ask r)
asks s t r h = record { undoes = h }

pub breaks : (s t : Stack) → UndoesOn s t Broken
breaks s t = record { undoes = tt }

pub fails : (s t : Stack) (fault : Fault) → t ≡ s → UndoesOn s t (Fail fault)
fails s t fault h = record { undoes = h }

pub throws : (s t : Stack) (a : Ref) → t ≡ s → UndoesOn s t (Throw a)
throws s t a h = record { undoes = h }

pub plain_on : (s t : Stack) (e : Effect) → is_plain e ≡ true → UndoesOn s t e
plain_on s t On h = record { undoes = tt }
plain_on s t (Jump i) h = record { undoes = tt }
plain_on s t (Enter i) h = record { undoes = tt }
plain_on s t (Back pc) h = record { undoes = tt }
plain_on s t (Ask r) h = absurd cc
plain_on s t (Leave v) h = record { undoes = tt }
plain_on s t (Fail fault) h = absurd cc
plain_on s t (Throw a) h = absurd cc
plain_on s t (Unmodelled op) h = record { undoes = tt }
plain_on s t Broken h = record { undoes = tt }

-- ---- frames

pub plain_undone : (f g : Frame) (e : Effect) → is_plain e ≡ true → Undoes f g e
plain_undone f g On h = record { undoes = tt }
plain_undone f g (Jump i) h = record { undoes = tt }
plain_undone f g (Enter i) h = record { undoes = tt }
plain_undone f g (Back pc) h = record { undoes = tt }
plain_undone f g (Ask r) h = absurd cc
plain_undone f g (Leave v) h = record { undoes = tt }
plain_undone f g (Fail fault) h = absurd cc
plain_undone f g (Throw a) h = absurd cc
plain_undone f g (Unmodelled op) h = record { undoes = tt }
plain_undone f g Broken h = record { undoes = tt }

pub frame_undone : (f : Frame) (t : Stack) (e : Effect) → UndoesOn f.operands t e → Undoes f (record f { operands = t }) e
frame_undone f t On h = record { undoes = tt }
frame_undone f t (Jump i) h = record { undoes = tt }
frame_undone f t (Enter i) h = record { undoes = tt }
frame_undone f t (Back pc) h = record { undoes = tt }
frame_undone f t (Ask r) h = record { undoes = record { rest = refl; taken = h.undoes } }
frame_undone f t (Leave v) h = record { undoes = tt }
frame_undone f t (Fail fault) h = record { undoes = ap (λ (s : Stack). record f { operands = s }) h.undoes }
frame_undone f t (Throw a) h = record { undoes = ap (λ (s : Stack). record f { operands = s }) h.undoes }
frame_undone f t (Unmodelled op) h = record { undoes = tt }
frame_undone f t Broken h = record { undoes = tt }

pub frame_taken : (f : Frame) (t : Stack) (vs : List Value) → TakesAll f.operands vs t → IsTaken f vs (record f { operands = t })
frame_taken f t vs h = record { rest = refl; taken = h }

pub frame_taken_some : {X : Type 0} (f : Frame) (t : Stack) (g : X → List Value) (o : Option X) → IfSome o (λ x. TakesAll f.operands (g x) t) → IfSome o (λ x. IsTaken f (g x) (record f { operands = t }))
frame_taken_some f t g None h = tt
frame_taken_some f t g (Some x) h = frame_taken f t (g x) h

-- ---- put back

stack_same : (s t : Stack) → t.room ≡ s.room → t.values ≡ s.values → t ≡ s
stack_same s t room values = ap (λ (r : ℕ). same r t.values) room ∙ ap (same s.room) values where
  same : ℕ → List Value → Stack
  same r vs = record { room = r; values = vs }

pub whole_again : (s t : Stack) → TakesAll s [] t → t ≡ s
whole_again s t h = stack_same s t h.room (sym h.values)

pub same_known : (s t : Stack) → t ≡ s → StaysKnown s t
same_known s t e = record { stays = λ count all. subst (λ (u : Stack). AreKnown count u.values) (sym e) all }

weight_both : (us vs : List Value) → weight (us ++ vs) ≡ weight us + weight vs
weight_both [] vs = omega arith
weight_both (u ∷ us) vs = let rest = weight_both us vs in omega arith

some_last : (us : List Value) (v : Value) → 0 < length (us ++ v ∷ [])
some_last [] v = omega arith
some_last (u ∷ us) v = omega arith

-- one of them, the lowest
pub put_one : (s t u : Stack) (us : List Value) (v : Value) (b : Bool) → TakesAll s (us ++ v ∷ []) t → u.room ≡ t.room → MatchBool b (stacks.Pushes t v u) (stacks.Overflows t v u) → TakesAll s us u
put_one s t u us v true h room pushed = record {
  room = room ∙ h.room;
  values = h.values ∙ append_assoc us (v ∷ []) t.values ∙ ap (λ l. us ++ l) (sym pushed.pushed);
  fits = λ some. h.fits (some_last us v);
}
put_one s t u us v false h room full =
    let fits = h.fits (some_last us v) in
    let whole : weight s.values ≡ weight us + (width v + weight t.values) = ap weight (h.values ∙ append_assoc us (v ∷ []) t.values) ∙ weight_both us (v ∷ t.values) in
    let less = full.full in
    let same = h.room in
    absurd (omega arith)

pub reverse_first : {X : Type 0} (x : X) (xs : List X) → reverse (x ∷ xs) ≡ reverse xs ++ x ∷ []
reverse_first x xs = reverse-append (x ∷ []) xs

pub rest_first : (vs : List Value) (i : ℕ) (d : Value) → i < length vs → reverse (drop i vs) ≡ reverse (drop (i + 1) vs) ++ get_or vs i d ∷ []
rest_first vs i d h =
    let more : suc i ≡ i + 1 = omega arith in
    ap reverse (drop-cons vs i d h) ∙ reverse_first (get_or vs i d) (drop (suc i) vs) ∙ ap (λ j. reverse (drop j vs) ++ get_or vs i d ∷ []) more

-- the one pushed is the next of those that are to be put back
pub put_next : (s t u : Stack) (vs : List Value) (i : ℕ) (d : Value) (b : Bool) → i < length vs → TakesAll s (reverse (drop i vs)) t → u.room ≡ t.room
    → MatchBool b (stacks.Pushes t (get_or vs i d) u) (stacks.Overflows t (get_or vs i d) u) → TakesAll s (reverse (drop (i + 1) vs)) u
put_next s t u vs i d b within h room pushed =
    put_one s t u (reverse (drop (i + 1) vs)) (get_or vs i d) b (subst (λ (l : List Value). TakesAll s l t) (rest_first vs i d within) h) room pushed

pub put_last : (s t : Stack) (vs : List Value) (i : ℕ) → length vs ≤ i → TakesAll s (reverse (drop i vs)) t → t ≡ s
put_last s t vs i past h = whole_again s t (subst (λ (l : List Value). TakesAll s (reverse l) t) (drop_all i vs past) h)

-- ---- frames again

pub frame_back : (old now : Frame) (vs : List Value) (ops : Stack) → IsTaken old vs now → ops ≡ old.operands → record now { operands = ops } ≡ old
frame_back old now vs ops h e = ap (λ (f : Frame). record f { operands = ops }) h.rest ∙ ap (λ (s : Stack). record old { operands = s }) e

-- ---- two values

pub two_back : (s t u v : Stack) (y x : Value) → TakesAll s (y ∷ []) t → TakesAll t (x ∷ []) u → ((w : Stack) → TakesAll w (reverse (x ∷ y ∷ [])) u → v ≡ w) → v ≡ s
two_back s t u v y x h k back = back s (takes_more s t u (y ∷ []) (x ∷ []) h k)

pub one_back : (s t u : Stack) (x : Value) → TakesAll s (x ∷ []) t → ((w : Stack) → TakesAll w (reverse (x ∷ [])) t → u ≡ w) → u ≡ s
one_back s t u x h back = back s h

pub took_two : (s t u : Stack) (y x : Value) → TakesAll s (y ∷ []) t → TakesAll t (x ∷ []) u → TakesAll s (y ∷ x ∷ []) u
took_two s t u y x h k = takes_more s t u (y ∷ []) (x ∷ []) h k

pub took_three : (s t u v : Stack) (z y x : Value) → TakesAll s (z ∷ []) t → TakesAll t (y ∷ []) u → TakesAll u (x ∷ []) v → TakesAll s (z ∷ y ∷ x ∷ []) v
took_three s t u v z y x h k j = takes_more s t v (z ∷ []) (y ∷ x ∷ []) h (took_two t u v y x k j)

-- ---- where there was memory

pub frame_taken_ok : {X E : Type 0} (f : Frame) (t : Stack) (g : X → List Value) (r : Result (Option X) E) → IfOk r (λ o. IfSome o (λ x. TakesAll f.operands (g x) t)) → IfOk r (λ o. IfSome o (λ x. IsTaken f (g x) (record f { operands = t })))
frame_taken_ok f t g (Ok o) h = frame_taken_some f t g o h
frame_taken_ok f t g (Err e) h = tt

-- a call is put back: first its receiver, then its arguments
pub call_back : (s t u v : Stack) (arguments : List Value) (receiver : Value) → TakesAll s (reverse arguments ++ receiver ∷ []) t
    → ((w : Stack) → TakesAll w (reverse (receiver ∷ [])) t → u ≡ w) → ((w : Stack) → TakesAll w (reverse arguments) u → v ≡ w) → v ≡ s
call_back s t u v arguments receiver h first then =
    let mid : Stack = record { room = t.room; values = receiver ∷ t.values } in
    let fits = h.fits (some_last (reverse arguments) receiver) in
    let size : weight s.values ≡ weight (reverse arguments) + weight (receiver ∷ t.values) = ap weight (h.values ∙ append_assoc (reverse arguments) (receiver ∷ []) t.values) ∙ weight_both (reverse arguments) (receiver ∷ t.values) in
    let room = h.room in
    let less : weight (receiver ∷ t.values) ≤ t.room = omega arith in
    let here : u ≡ mid = first mid (record { room = refl; values = refl; fits = λ some. less }) in
    then s (subst (λ (w : Stack). TakesAll s (reverse arguments) w) (sym here)
    (record { room = h.room; values = h.values ∙ append_assoc (reverse arguments) (receiver ∷ []) t.values; fits = λ some. fits }))

-- ---- ints

ints_first : (xs : List ℤ) (i : ℕ) (d : ℤ) → i < length xs → reverse (map value.Int (drop i xs)) ≡ reverse (map value.Int (drop (i + 1) xs)) ++ value.Int (get_or xs i d) ∷ []
ints_first xs i d h =
    let more : suc i ≡ i + 1 = omega arith in
    ap (λ (l : List ℤ). reverse (map value.Int l)) (drop-cons xs i d h) ∙ reverse_first (value.Int (get_or xs i d)) (map value.Int (drop (suc i) xs))
    ∙ ap (λ j. reverse (map value.Int (drop j xs)) ++ value.Int (get_or xs i d) ∷ []) more

pub int_next : (s t u : Stack) (xs : List ℤ) (i : ℕ) (d k : ℤ) (b : Bool) → i < length xs → TakesAll s (reverse (map value.Int (drop i xs))) t → u.room ≡ t.room
    → MatchBool b (stacks.Pushes t (value.Int k) u) (stacks.Overflows t (value.Int k) u) → k ≡ get_or xs i d → TakesAll s (reverse (map value.Int (drop (i + 1) xs))) u
int_next s t u xs i d k b within h room pushed same =
    put_one s t u (reverse (map value.Int (drop (i + 1) xs))) (value.Int k) b
    (subst (λ (l : List Value). TakesAll s l t) (ints_first xs i d within ∙ ap (λ x. reverse (map value.Int (drop (i + 1) xs)) ++ value.Int x ∷ []) (sym same)) h) room pushed

pub int_last : (s t : Stack) (xs : List ℤ) (i : ℕ) → length xs ≤ i → TakesAll s (reverse (map value.Int (drop i xs))) t → t ≡ s
int_last s t xs i past h = whole_again s t (subst (λ (l : List ℤ). TakesAll s (reverse (map value.Int l)) t) (drop_all i xs past) h)
