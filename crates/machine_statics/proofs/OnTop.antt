-- The value on top, and the kind of what a method returns.
use Rattle.std.specs.Prelude.{◌≡◌, ℕ, ◌-◌, Bool, true, false, if◌then◌else◌, List, [], ◌∷◌, reverse, take, length, slice_get, Option, Some, None, refl}
use Rattle.std.specs.List.{AllByRecursion}
use Rattle.std.specs.Option.{option_map}
use Rattle.std.proofs.Common.{sym, ap, ◌∙◌, subst, arith}
use Rattle.std.proofs.lemmas.List.{reverse-append}
use Rattle.std.proofs.lemmas.Option.{none-some}
use Rattle.class_heads.specs.declared.types.ClassHead.{ClassHead}
use Rattle.class_heads.specs.declared.types.MethodHead.{MethodHead}
use Rattle.class_file.specs.Pool.{Reference}
use Rattle.class_world.specs.Tables.{Known}
use Rattle.class_machine.specs.declared.kinds.Kind.{Kind}
use Rattle.class_machine.specs.Classes.{Method}
use Rattle.class_machine.specs.ClassFiles.{Place}
use Rattle.class_machine.specs.Descriptors.{kind_in, result_in}
use Rattle.class_machine.specs.Effect as definition
use Rattle.class_machine.specs.Values.{Held, same_kind}
use Rattle.machine_values.specs.declared.frames.Frame.{Frame}
use Rattle.machine_values.specs.declared.values.Value.{Value}
use Rattle.machine_values.specs.States.{is_known}
use Rattle.machine_frames.specs.Kinds.{is_of}
use Rattle.machine_frames.specs.Naming.{held, values}
use Rattle.machine_frames.proofs.Kinded.{takes, refuses, settles}
use Rattle.machine_steps.specs.Running.{split_last}
use Rattle.machine_steps.specs.Runs.{IsMethod}
use Rattle.machine_invocations.specs.Methods.{Sees, declared_as}
use Rattle.machine_invocations.specs.Standards.{by_machine}
use Rattle.machine_invocations.proofs.Initialised.{called_so}
use Rattle.machine_invocations.proofs.Locked.{seen_there}
use Rattle.machine_statics.specs.Returns.{HasOnTop, LacksOnTop, Results, BreaksReturn, TellsKind}

-- ---- the last of a list

get_last : {X : Type 0} (x : X) (xs : List X) → slice_get (x ∷ xs) (length xs) ≡ None → ⊥
get_last x [] e = none-some x (sym e)
get_last x (y ∷ ys) e = get_last y ys e

reversed : (items : List Value) (v : Value) → Some v ≡ slice_get items (length items - 1) → reverse items ≡ v ∷ reverse (take (length items - 1) items)
reversed [] v e = absurd (none-some v (sym e))
reversed (x ∷ xs) v e =
    ap reverse (split_last (x ∷ xs) (length (x ∷ xs) - 1) v (omega arith) (sym e)) ∙ reverse-append (take (length (x ∷ xs) - 1) (x ∷ xs)) (v ∷ [])

none_there : (items : List Value) → None ≡ slice_get items (length items - 1) → items ≡ []
none_there [] e = refl
none_there (x ∷ xs) e = absurd (get_last x xs (ap (slice_get (x ∷ xs)) (let n : length xs ≡ length (x ∷ xs) - 1 = omega arith in n) ∙ sym e))

-- ---- on top of the operands

module _ (f : Frame) (items : List Value) (kind : Kind) (same : f.operands.values ≡ reverse items) where
  pub lacks_any : None ≡ slice_get items (length items - 1) → LacksOnTop f kind
  lacks_any none n go = ap (λ vs. definition.pop_held kind (values n f.method.0 vs) (λ h rest. go h)) (same ∙ ap reverse (none_there items none))

  module _ (v : Value) (last : Some v ≡ slice_get items (length items - 1)) where
    abbrev front : List Value
    front = take (length items - 1) items

    on_top : f.operands.values ≡ v ∷ reverse front
    on_top = same ∙ reversed items v last

    pub has_on_top : is_of kind v ≡ true → HasOnTop f kind v
    has_on_top is = record {
      pops = λ n go. ap (λ vs. definition.pop_held kind (values n f.method.0 vs) (λ h rest. go h)) on_top ∙ takes n f.method.0 kind v go is;
      known = λ count within. settles count kind v is (subst (AllByRecursion (λ u. is_known count u ≡ true)) on_top within.operands).0;
    }

    pub lacks_on_top : is_of kind v ≡ false → LacksOnTop f kind
    lacks_on_top is n go = ap (λ vs. definition.pop_held kind (values n f.method.0 vs) (λ h rest. go h)) on_top ∙ refuses n f.method.0 kind v go is

-- ---- what a return gives

module _ (f : Frame) where
  module _ (k r : Kind) where
    abbrev go : Bool → Held → definition.Effect Place
    go b h = if b then definition.Leave (Some h) else definition.Broken

    pub gives_result : same_kind k r ≡ true → (v : Value) → HasOnTop f k v → Results f (Some k) (Some r) (Some v)
    gives_result same v has = record {
      leaves = λ n. has.pops n (go (same_kind k r)) ∙ ap (λ b. go b (held n v)) same;
      known = has.known;
    }

    pub lacks_result : LacksOnTop f k → BreaksReturn f (Some k) (Some r)
    lacks_result lacks n = lacks n (go (same_kind k r))

-- ---- the kind of what a method returns

pub told_kind : (k : Known) (number : ℕ) → IsMethod k number → (place : ℕ) (class : ClassHead) (method : MethodHead) → ((m : Method) → Sees k number m → m ≡ declared_as k place class method)
    → (o : Option (List ℕ)) → o ≡ result_in method.name.descriptor → TellsKind k number (option_map kind_in o)
told_kind k number is place class method seen o same m machine =
    ap (option_map kind_in) same ∙ sym (by_machine k (λ x. option_map kind_in (result_in (x.methods number).member.descriptor) ≡ option_map kind_in (result_in method.name.descriptor)) m
    (λ fields methods there.
    let sees = seen_there k number is in
    ap (λ (q : Reference). option_map kind_in (result_in q.member.descriptor)) (called_so k fields methods number _ there sees)
    ∙ ap (λ (x : Method). option_map kind_in (result_in x.name.member.descriptor)) (seen _ sees)) machine)
