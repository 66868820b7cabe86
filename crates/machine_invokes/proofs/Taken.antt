-- The running frame without what was taken, and with it again.
use Rattle.std.specs.Prelude.{◌≡◌, ℕ, suc, ◌+◌, ◌-◌, ◌<◌, ◌≤◌, List, [], ◌∷◌, ◌++◌, reverse, take, map, length, slice_get, slice_set, Option, Some, None, refl}
use Rattle.std.specs.Option.{option_map}
use Rattle.std.proofs.Common.{inl, inr, sym, ◌∙◌, ap, subst, arith, length-append}
use Rattle.std.proofs.lemmas.List.{map-append, take_more, take_all, length-set}
use Rattle.std.proofs.lemmas.Option.{slice_get_cases, slice_get_within, get_or_from_slice_get}
use Rattle.class_machine.specs.Descriptors.{kind_in}
use Rattle.std.specs.Vec.{with_item}
use Rattle.class_machine.specs.declared.kinds.Kind.{Kind}
use Rattle.machine_values.specs.declared.frames.Frame.{Frame}
use Rattle.machine_values.specs.declared.state.MachineState.{MachineState}
use Rattle.machine_values.specs.declared.values.Value.{Value}
use Rattle.machine_values.specs.States.{IsFrameWithin}
use Rattle.machine_frames.specs.declared.calls.Receiver.{Receiver}
use Rattle.machine_frames.specs.Calls.{CallsStatic, StaticCallBreaks, CallsOn, CallBreaks, AreSettledIn, IsKnownReceiver}
use Rattle.machine_frames.specs.Undoing.{receiver_value, IsTaken}
use Rattle.machine_steps.specs.Giving.{with_values, rest_is}
use Rattle.machine_steps.specs.Running.{Turned, turned_at, split_last, set_last}
use Rattle.machine_invokes.specs.Taking.{IsPutBack, Takes, TakesStatic, TakesOn, StaticTakeBreaks, TakeBreaks, PutsBack}

-- ---- the last of a list

pub there_is : {A : Type 0} (xs : List A) (i : ℕ) → i < length xs → (x : A) × (slice_get xs i ≡ Some x)
there_is xs i h = elim (slice_get_cases xs i).1 [
  | inl there ↦ (there.0, there.2)
  | inr gone ↦ absurd (let ge = gone.0 in omega arith)
]

pub last_stands : {A : Type 0} (xs : List A) (x : A) → Some x ≡ slice_get xs (length xs - 1) → xs ≡ take (length xs - 1) xs ++ x ∷ []
last_stands [] x at = absurd (let e : Some x ≡ None = at in cc)
last_stands (y ∷ xs) x at = split_last (y ∷ xs) (length (y ∷ xs) - 1) x (let e : length (y ∷ xs) ≡ suc (length xs) = refl in omega (arith, e)) (sym at)

pub none_stand : {A : Type 0} (xs : List A) → None ≡ slice_get xs (length xs - 1) → xs ≡ []
none_stand [] at = refl
none_stand (y ∷ xs) at =
    let there = there_is (y ∷ xs) (length (y ∷ xs) - 1) (let e : length (y ∷ xs) ≡ suc (length xs) = refl in omega (arith, e)) in
    absurd (let e : None ≡ Some there.0 = at ∙ there.1 in cc)

-- ---- in the middle of a list

pub at_middle : {A : Type 0} (below above : List A) (x : A) → slice_get (below ++ x ∷ above) (length below) ≡ Some x
at_middle [] above x = refl
at_middle (y ∷ below) above x = at_middle below above x

pub set_middle : {A : Type 0} (below above : List A) (x y : A) → slice_set (below ++ x ∷ above) (length below) y ≡ below ++ y ∷ above
set_middle [] above x y = refl
set_middle (z ∷ below) above x y = ap (λ xs. z ∷ xs) (set_middle below above x y)

pub same_last : {A : Type 0} (xs rest : List A) (top : ℕ) (f g : A) → top + 1 ≡ length xs → slice_get xs top ≡ Some f → xs ≡ rest ++ g ∷ [] → f ≡ g
same_last xs rest top f g last there at =
    let len : length xs ≡ length rest + 1 = ap length at ∙ length-append rest (g ∷ []) in
    let place : top ≡ length rest = omega arith in
    let e : Some f ≡ Some g = sym there ∙ ap (λ ys. slice_get ys top) at ∙ ap (slice_get (rest ++ g ∷ [])) place ∙ at_middle rest [] g in
    cc

-- ---- what is taken

module _ (old : MachineState) (top : ℕ) (f p : Frame) (last : top + 1 ≡ length old.frames.items) (there : slice_get old.frames.items top ≡ Some f) where
  abbrev after : MachineState
  after = record old { frames = with_item old.frames top p }

  pub unchanged : p ≡ f → IsPutBack old after
  unchanged same = record {
    same = refl;
    items = ap (λ (q : Frame). slice_set old.frames.items top q) same ∙ set_last old.frames.items top f last ∙ sym (split_last old.frames.items top f last there);
  }

  module _ (rest : p ≡ record f { operands = p.operands }) where
    abbrev vs : List Value
    vs = p.operands.values

    broken_turned : Turned old after (take top old.frames.items) f p
    broken_turned = turned_at old after top f p last there refl refl

    method_same : p.method ≡ f.method
    method_same = ap (λ (q : Frame). q.method) rest

    pub static_fails : (kinds : List Kind) → StaticCallBreaks kinds f → StaticTakeBreaks kinds old after
    static_fails kinds breaks = record { rest = take top old.frames.items; before = f; after = p; turned = broken_turned; method = method_same; breaks = breaks }

    pub call_fails : (kinds : List Kind) → CallBreaks kinds f → TakeBreaks kinds old after
    call_fails kinds breaks = record { rest = take top old.frames.items; before = f; after = p; turned = broken_turned; method = method_same; breaks = breaks }

    module _ (room : p.operands.room ≡ f.operands.room) (within : (count : ℕ) → IsFrameWithin count f → IsFrameWithin count p) where
      is_left : p ≡ with_values f vs
      is_left = rest_is f p rest room

      abbrev takes : (taken : List Value) → IsTaken f taken p → Takes old after taken
      takes taken is = record {
        rest = take top old.frames.items;
        before = f;
        left = vs;
        turned = turned_at old after top f (with_values f vs) last there refl (ap (λ (q : Frame). slice_set old.frames.items top q) is_left);
        taken = subst (IsTaken f taken) is_left is;
        within = λ count w. subst (IsFrameWithin count) is_left (within count w);
      }

      pub takes_static : (kinds : List Kind) (given : List Value) → CallsStatic kinds f given p → AreSettledIn f.operands given → IsTaken f (reverse given) p → TakesStatic kinds old given after
      takes_static kinds given calls settled taken = record {
        takes = takes (reverse given) taken;
        calls = subst (CallsStatic kinds f given) is_left calls;
        settled = settled;
      }

      pub takes_on : (kinds : List Kind) (receiver : Receiver) (given : List Value) → CallsOn kinds f receiver given p → AreSettledIn f.operands given → IsKnownReceiver f.operands receiver → IsTaken f (reverse given ++ receiver_value receiver ∷ []) p → TakesOn kinds old receiver given after
      takes_on kinds receiver given calls settled known taken = record {
        takes = takes (reverse given ++ receiver_value receiver ∷ []) taken;
        calls = subst (CallsOn kinds f receiver given) is_left calls;
        settled = settled;
        known = known;
      }

-- ---- back

pub puts_back : (old : MachineState) (index : ℕ) (vs : List Value) (h p : Frame) → slice_get old.frames.items index ≡ Some h → ((f : Frame) → IsTaken f vs h → p ≡ f) → PutsBack index vs old (record old { frames = with_item old.frames index p })
puts_back old index vs h p at back = record {
  same = refl;
  count = length-set old.frames.items index p;
  frames = λ below above f g len items taken.
      let is : h ≡ g = let e : Some h ≡ Some g = sym at ∙ ap (λ (xs : List Frame). slice_get xs index) items ∙ ap (slice_get (below ++ g ∷ above)) (sym len) ∙ at_middle below above g in cc in
      ap (λ (xs : List Frame). slice_set xs index p) items ∙ ap (λ (n : ℕ). slice_set (below ++ g ∷ above) n p) (sym len) ∙ set_middle below above g p
      ∙ ap (λ (q : Frame). below ++ q ∷ above) (back f (subst (IsTaken f vs) (sym is) taken));
}

-- ---- the kinds of parameters

pub record Gathers (types : List (List ℕ)) (kinds : List Kind) : Type 0 where
  pub within : length kinds ≤ length types
  pub same : kinds ≡ map kind_in (take (length kinds) types)

pub gathers_none : (types : List (List ℕ)) → Gathers types []
gathers_none types = record { within = omega arith; same = refl }

one_more : (types : List (List ℕ)) (kinds : List Kind) (k : Kind) (o : Option (List ℕ)) → slice_get types (length kinds) ≡ o → Some k ≡ option_map kind_in o → Gathers types kinds → Gathers types (kinds ++ k ∷ [])
one_more types kinds k None at is g = absurd (let e : Some k ≡ None = is in cc)
one_more types kinds k (Some t) at is g =
    let len : length (kinds ++ k ∷ []) ≡ length kinds + 1 = length-append kinds (k ∷ []) in
    let less = slice_get_within types (length kinds) t at in
    let kind : k ≡ kind_in t = let e : Some k ≡ Some (kind_in t) = is in cc in
    record {
      within = omega (arith, len, less);
      same =
          ap (λ ks. ks ++ k ∷ []) g.same ∙ ap (λ (x : Kind). map kind_in (take (length kinds) types) ++ x ∷ []) kind
          ∙ sym (map-append kind_in (take (length kinds) types) (t ∷ []))
          ∙ ap (λ (u : List ℕ). map kind_in (take (length kinds) types ++ u ∷ [])) (sym (get_or_from_slice_get types (length kinds) t t at))
          ∙ ap (map kind_in) (sym (take_more types (length kinds) t less))
          ∙ ap (λ n. map kind_in (take n types)) (sym len);
    }

pub gathers_more : (types : List (List ℕ)) (kinds : List Kind) (k : Kind) → Some k ≡ option_map kind_in (slice_get types (length kinds)) → Gathers types kinds → Gathers types (kinds ++ k ∷ [])
gathers_more types kinds k is g = one_more types kinds k (slice_get types (length kinds)) refl is g

less_by : (types : List (List ℕ)) (i : ℕ) (k : Kind) (o : Option (List ℕ)) → slice_get types i ≡ o → Some k ≡ option_map kind_in o → i < length types
less_by types i k None at is = absurd (let e : Some k ≡ None = is in cc)
less_by types i k (Some t) at is = slice_get_within types i t at

pub one_less : (types : List (List ℕ)) (kinds more : List Kind) (k : Kind) → Some k ≡ option_map kind_in (slice_get types (length kinds)) → more ≡ kinds ++ k ∷ [] → length types - length more < length types - length kinds
one_less types kinds more k is e =
    let less = less_by types (length kinds) k (slice_get types (length kinds)) refl is in
    let len : length more ≡ length kinds + 1 = ap length e ∙ length-append kinds (k ∷ []) in
    omega (arith, less, len)

pub gathers_all : (types : List (List ℕ)) (kinds : List Kind) → None ≡ option_map kind_in (slice_get types (length kinds)) → Gathers types kinds → kinds ≡ map kind_in types
gathers_all types kinds none g = elim (slice_get_cases types (length kinds)).1 [
  | inl there ↦ absurd (let e : None ≡ Some (kind_in there.0) = none ∙ ap (option_map kind_in) there.2 in cc)
  | inr gone ↦ g.same ∙ ap (map kind_in) (take_all (length kinds) types gone.0)
]
