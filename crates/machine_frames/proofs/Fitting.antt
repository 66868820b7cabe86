-- A run isn't Broken by what fits.
use Rattle.std.proofs.Common.{◌≡◌, ℕ, ◌+◌, ◌<◌, ◌≤◌, Bool, true, false, not, ◌&&◌, List, [], ◌∷◌, ◌-◌, length, reverse, take, get_or, refl, sym, ◌∙◌, ap, arith}
use Rattle.std.proofs.lemmas.List.{length-reverse, reverse-append, take_more, take_all}
use Rattle.std.proofs.Math.Nat.{le_refl}
use Rattle.class_machine.specs.declared.kinds.Kind.{Kind}
use Rattle.class_machine.specs.Values as machine
use Rattle.class_machine.specs.ClassFiles.{Place}
use Rattle.class_machine.specs.Descriptors.{parameters_in}
use Rattle.class_machine.specs.Effect as definition
use Rattle.class_machine.specs.Effect.{is_broken}
use Rattle.machine_values.specs.declared.values.Value.{Value}
use Rattle.machine_values.specs.declared.frames.Frame.{Frame}
use Rattle.machine_frames.specs.Naming.{Naming, held, value, values}
use Rattle.machine_frames.specs.Kinds.{is_of}
use Rattle.machine_frames.specs.Operands.{Onward}
use Rattle.machine_frames.specs.Effects.{operands_of, locals_of}
use Rattle.machine_frames.specs.Calls.{fits}
use Rattle.machine_frames.specs.Peeks.{TellsPut, TellsCall}
use Rattle.machine_frames.proofs.Kinded.{takes, refuses}
use Rattle.machine_frames.proofs.Arguments.{pop_kinds, in_reverse}

reversed_front : {X : Type 0} (xs : List X) (i : ℕ) (d : X) → i < length xs → reverse (take (i + 1) xs) ≡ get_or xs i d ∷ reverse (take i xs)
reversed_front xs i d h = ap reverse (take_more xs i d h) ∙ reverse-append (take i xs) (get_or xs i d ∷ [])

one_less : (ks : List Kind) (vs : List Value) (i j : ℕ) (k : Kind) (v : Value) → i < length ks → j < length vs
    → fits (reverse (take (i + 1) ks)) (reverse (take (j + 1) vs)) ≡ (is_of (get_or ks i k) (get_or vs j v) && fits (reverse (take i ks)) (reverse (take j vs)))
one_less ks vs i j k v h h' = ap (λ rs. fits rs (reverse (take (j + 1) vs))) (reversed_front ks i k h) ∙ ap (fits (get_or ks i k ∷ reverse (take i ks))) (reversed_front vs j v h')

-- the kinds from that one on fit
pub record Fitting (ks : List Kind) (vs : List Value) (below left : ℕ) : Type 0 where
  pub within : left ≤ length ks
  pub level : below + length ks ≡ length vs
  pub rest : fits (reverse (take left ks)) (reverse (take (below + left) vs)) ≡ fits (reverse ks) (reverse vs)

pub fitting_start : (ks : List Kind) (vs : List Value) → length ks ≤ length vs → Fitting ks vs (length vs - length ks) (length ks)
fitting_start ks vs h = record {
  within = le_refl (length ks);
  level = omega arith;
  rest = ap (λ rs. fits (reverse rs) (reverse (take (length vs - length ks + length ks) vs))) (take_all (length ks) ks (le_refl (length ks))) ∙ ap (λ us. fits (reverse ks) (reverse us)) (take_all (length vs - length ks + length ks) vs (omega arith));
}

fitting_by : (ks : List Kind) (vs : List Value) (below left : ℕ) (k : Kind) (v : Value) → 0 < left → Fitting ks vs below left
    → (is_of (get_or ks (left - 1) k) (get_or vs (below + (left - 1)) v) && fits (reverse (take (left - 1) ks)) (reverse (take (below + (left - 1)) vs))) ≡ fits (reverse ks) (reverse vs)
fitting_by ks vs below left k v h f =
    let within = f.within in
    let level = f.level in
    sym (one_less ks vs (left - 1) (below + (left - 1)) k v (omega arith) (omega arith))
    ∙ ap (λ i. fits (reverse (take i ks)) (reverse (take (below + (left - 1) + 1) vs))) before
    ∙ ap (λ j. fits (reverse (take left ks)) (reverse (take j vs))) behind
    ∙ f.rest where
      before : left - 1 + 1 ≡ left
      before = omega arith

      behind : below + (left - 1) + 1 ≡ below + left
      behind = omega arith

pub fitting_next : (ks : List Kind) (vs : List Value) (below left : ℕ) (k : Kind) (v : Value) (does : Bool) → 0 < left → Fitting ks vs below left → does ≡ is_of (get_or ks (left - 1) k) (get_or vs (below + (left - 1)) v) → does ≡ true
    → Fitting ks vs below (left - 1)
fitting_next ks vs below left k v does h f e t = record {
  within = let within = f.within in omega arith;
  level = f.level;
  rest = ap (λ b. b && fits (reverse (take (left - 1) ks)) (reverse (take (below + (left - 1)) vs))) (sym t ∙ e) ∙ fitting_by ks vs below left k v h f;
}

pub fitting_not : (ks : List Kind) (vs : List Value) (below left : ℕ) (k : Kind) (v : Value) (does : Bool) → 0 < left → Fitting ks vs below left → does ≡ is_of (get_or ks (left - 1) k) (get_or vs (below + (left - 1)) v) → does ≡ false
    → false ≡ fits (reverse ks) (reverse vs)
fitting_not ks vs below left k v does h f e t = ap (λ b. b && fits (reverse (take (left - 1) ks)) (reverse (take (below + (left - 1)) vs))) (sym t ∙ e) ∙ fitting_by ks vs below left k v h f

pub fitting_done : (ks : List Kind) (vs : List Value) (below left : ℕ) → left ≤ 0 → Fitting ks vs below left → true ≡ fits (reverse ks) (reverse vs)
fitting_done ks vs below left h f = sym (ap (λ i. fits (reverse (take i ks)) (reverse (take (below + left) vs))) none) ∙ f.rest where
  none : left ≡ 0
  none = omega arith

too_short : (ks : List Kind) (vs : List Value) → length vs < length ks → fits ks vs ≡ false
too_short [] vs h = absurd (omega arith)
too_short (k ∷ ks) [] h = refl
too_short (k ∷ ks) (v ∷ vs) h = ap (λ b. is_of k v && b) (too_short ks vs (omega arith)) ∙ and_false (is_of k v) where
  and_false : (b : Bool) → (b && false) ≡ false
  and_false true = refl
  and_false false = refl

pub fits_short : (ks : List Kind) (vs : List Value) → length vs < length ks → false ≡ fits (reverse ks) (reverse vs)
fits_short ks vs h = let a = length-reverse ks in let b = length-reverse vs in sym (too_short (reverse ks) (reverse vs) (omega arith))

-- ---- what fits is taken

abbrev Go : Type 0
Go = Onward (List machine.Held)

abbrev NeverBroken : Go → Type 0
NeverBroken go = (hs : List machine.Held) (rest : List (machine.Value Place)) → is_broken (go hs rest) ≡ false

taken_one : (n : Naming) (method : ℕ) (ks : List Kind) (k : Kind) (v : Value) (vs : List Value) (taken : List machine.Held) (go : Go) (b : Bool) → is_of k v ≡ b
    → is_broken (pop_kinds ks (held n v ∷ taken) (values n method vs) go) ≡ not (fits ks vs)
    → is_broken (definition.held_in k (value n method v) (λ h. pop_kinds ks (h ∷ taken) (values n method vs) go)) ≡ not (b && fits ks vs)
taken_one n method ks k v vs taken go true e rest = ap is_broken (takes n method k v (λ h. pop_kinds ks (h ∷ taken) (values n method vs) go) e) ∙ rest
taken_one n method ks k v vs taken go false e rest = ap is_broken (refuses n method k v (λ h. pop_kinds ks (h ∷ taken) (values n method vs) go) e)

broken-pop_kinds : (n : Naming) (method : ℕ) (ks : List Kind) (vs : List Value) (taken : List machine.Held) (go : Go) → NeverBroken go → is_broken (pop_kinds ks taken (values n method vs) go) ≡ not (fits ks vs)
broken-pop_kinds n method [] vs taken go never = never taken (values n method vs)
broken-pop_kinds n method (k ∷ ks) [] taken go never = refl
broken-pop_kinds n method (k ∷ ks) (v ∷ vs) taken go never =
    taken_one n method ks k v vs taken go (is_of k v) refl (broken-pop_kinds n method ks vs (held n v ∷ taken) go never)

pub tells_call : (kinds : List Kind) (f : Frame) (can : Bool) → can ≡ fits (reverse kinds) f.operands.values → TellsCall kinds f can
tells_call kinds f can e = λ n r same.
    let go : Go = λ hs rest. definition.CallStatic r hs (machine.content rest (locals_of n f)) in
    ap is_broken (in_reverse (parameters_in r.member.descriptor) kinds (operands_of n f) go same)
    ∙ broken-pop_kinds n f.method.0 (reverse kinds) f.operands.values [] go (λ hs rest. refl)
    ∙ ap not (sym e)

abbrev first : List machine.Held → machine.Held
first [] = machine.Null
first (h ∷ hs) = h

pub tells_put : (kind : Kind) (f : Frame) (can : Bool) → can ≡ fits (kind ∷ []) f.operands.values → TellsPut kind f can
tells_put kind f can e = λ n r.
    let go : Go = λ hs rest. definition.Ask (definition.PutStatic r (first hs)) (machine.content rest (locals_of n f)) in
    broken-pop_kinds n f.method.0 (kind ∷ []) f.operands.values [] go (λ hs rest. refl) ∙ ap not (sym e)
