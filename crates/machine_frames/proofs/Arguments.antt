-- Arguments are popped one after the other, by their kinds.
use Rattle.std.proofs.Common.{◌≡◌, ℕ, ◌+◌, ◌-◌, ◌<◌, ◌≤◌, if◌then◌else◌, List, [], ◌∷◌, ◌++◌, length, map, reverse, take, drop, get_or, set, refl, sym, ◌∙◌, ap, subst, arith}
use Rattle.std.proofs.lemmas.List.{reverse-append, map-append, drop-set, drop_all, take_all, take_more}
use Rattle.std.proofs.Math.Nat.{le_refl}
use Rattle.class_machine.specs.declared.kinds.Kind.{Kind}
use Rattle.class_machine.specs.Values as machine
use Rattle.class_machine.specs.ClassFiles.{Place}
use Rattle.class_machine.specs.Descriptors.{kind_in, parameters_in}
use Rattle.class_machine.specs.Effect as definition
use Rattle.machine_values.specs.declared.values.Value.{Value}
use Rattle.machine_values.specs.declared.frames.Frame.{Frame}
use Rattle.machine_values.specs.Stacks.{Stack}
use Rattle.machine_frames.specs.declared.calls.Receiver.{Receiver}
use Rattle.machine_frames.specs.Naming.{Naming, held, values}
use Rattle.std.proofs.lemmas.List.{length-set}
use Rattle.machine_frames.specs.Effects.{AreKnown, locals_of}
use Rattle.machine_frames.specs.Operands.{Onward, PopsKind, LacksKind, StaysKnown, IsSettledValue}
use Rattle.machine_frames.specs.Calls.{kinds_of, PopsArguments, LacksArguments, AreSettled, AreSettledIn, PopsReceiver, LacksReceiver, CallsOn, CallBreaks, IsKnownReceiver}
use Rattle.machine_frames.specs.Undoing.{TakesAll}
use Rattle.machine_frames.proofs.Known.{still_known}
use Rattle.machine_frames.proofs.Undone.{takes_none, takes_more, reverse_first}

abbrev Ops : Type 0
Ops = List (machine.Value Place)

-- values of these kinds, the first kind's topmost, in front of those that are taken
abbrev pub pop_kinds : List Kind → List machine.Held → Ops → Onward (List machine.Held) → definition.Effect Place
pop_kinds [] taken ops go = go taken ops
pop_kinds (k ∷ ks) taken ops go = definition.pop_held k ops (λ h rest. pop_kinds ks (h ∷ taken) rest go)

pop_held_along : (k : Kind) (ops : Ops) (f g : Onward machine.Held) → ((h : machine.Held) (rest : Ops) → f h rest ≡ g h rest) → definition.pop_held k ops f ≡ definition.pop_held k ops g
pop_held_along k [] f g e = refl
pop_held_along k (machine.Plain h ∷ rest) f g e = ap (λ x. if machine.is_held k h then x else definition.Broken) (e h rest)
pop_held_along k (machine.Token class number ∷ rest) f g e = refl
pop_held_along k (machine.ReturnAddress place ∷ rest) f g e = refl

by_kinds : (types : List (List ℕ)) (taken : List machine.Held) (ops : Ops) (go : Onward (List machine.Held)) → definition.pop_arguments types taken ops go ≡ pop_kinds (kinds_of types) taken ops go
by_kinds [] taken ops go = refl
by_kinds (type ∷ types) taken ops go = pop_held_along (kind_in type) ops (λ h rest. definition.pop_arguments types (h ∷ taken) rest go) (λ h rest. pop_kinds (kinds_of types) (h ∷ taken) rest go) (λ h rest. by_kinds types (h ∷ taken) rest go)

kinds_of-reverse : (types : List (List ℕ)) → kinds_of (reverse types) ≡ reverse (kinds_of types)
kinds_of-reverse [] = refl
kinds_of-reverse (type ∷ types) =
    ap kinds_of (reverse-append (type ∷ []) types) ∙ map-append kind_in (reverse types) (type ∷ []) ∙ ap (λ ks. ks ++ kind_in type ∷ []) (kinds_of-reverse types)
    ∙ sym (reverse-append (kind_in type ∷ []) (kinds_of types))

pub in_reverse : (types : List (List ℕ)) (kinds : List Kind) (ops : Ops) (go : Onward (List machine.Held)) → kinds_of types ≡ kinds → definition.pop_arguments (reverse types) [] ops go ≡ pop_kinds (reverse kinds) [] ops go
in_reverse types kinds ops go e = by_kinds (reverse types) [] ops go ∙ ap (λ ks. pop_kinds ks [] ops go) (kinds_of-reverse types ∙ ap reverse e)

-- the arguments from that one on are taken
pub record Popping (kinds : List Kind) (s : Stack) (left : ℕ) (vs : List Value) (t : Stack) : Type 0 where
  pub popping : (n : Naming) (method : ℕ) (go : Onward (List machine.Held)) → pop_kinds (reverse kinds) [] (values n method s.values) go ≡ pop_kinds (reverse (take left kinds)) (map (held n) (drop left vs)) (values n method t.values) go

pub popping_start : (kinds : List Kind) (s : Stack) (vs : List Value) → length vs ≡ length kinds → Popping kinds s (length kinds) vs s
popping_start kinds s vs e = record {
  popping = λ n method go.
      ap (λ ks. pop_kinds (reverse ks) [] (values n method s.values) go) (sym (take_all (length kinds) kinds (le_refl (length kinds))))
      ∙ ap (λ us. pop_kinds (reverse (take (length kinds) kinds)) (map (held n) us) (values n method s.values) go) (sym (drop_all (length kinds) vs (omega arith)));
}

taken_last : (kinds : List Kind) (i : ℕ) (d : Kind) → i < length kinds → reverse (take (i + 1) kinds) ≡ get_or kinds i d ∷ reverse (take i kinds)
taken_last kinds i d h = ap reverse (take_more kinds i d h) ∙ reverse-append (take i kinds) (get_or kinds i d ∷ [])

pub popping_step : (kinds : List Kind) (s t u : Stack) (vs : List Value) (i : ℕ) (d : Kind) (v : Value) → i < length kinds → length vs ≡ length kinds
    → Popping kinds s (i + 1) vs t → PopsKind (get_or kinds i d) t v u → Popping kinds s i (set vs i v) u
popping_step kinds s t u vs i d v h l p q = record {
  popping = λ n method go.
      let before = map (held n) (drop (i + 1) vs) in
      p.popping n method go
      ∙ ap (λ ks. pop_kinds ks before (values n method t.values) go) (taken_last kinds i d h)
      ∙ q n method (λ x rest. pop_kinds (reverse (take i kinds)) (x ∷ before) rest go)
      ∙ ap (λ us. pop_kinds (reverse (take i kinds)) (map (held n) us) (values n method u.values) go) (sym (drop-set vs i v (omega arith)));
}

pub popping_lacks : (kinds : List Kind) (s t : Stack) (vs : List Value) (i : ℕ) (d : Kind) → i < length kinds
    → Popping kinds s (i + 1) vs t → LacksKind (get_or kinds i d) t → LacksArguments kinds s
popping_lacks kinds s t vs i d h p q = λ n method types go f.
    let before = map (held n) (drop (i + 1) vs) in
    in_reverse types kinds (values n method s.values) go f
    ∙ p.popping n method go
    ∙ ap (λ ks. pop_kinds ks before (values n method t.values) go) (taken_last kinds i d h)
    ∙ q n method (λ x rest. pop_kinds (reverse (take i kinds)) (x ∷ before) rest go)

pub popping_done : (kinds : List Kind) (s t : Stack) (vs : List Value) → Popping kinds s 0 vs t → PopsArguments kinds s vs t
popping_done kinds s t vs p = λ n method types go f. in_reverse types kinds (values n method s.values) go f ∙ p.popping n method go

-- ---- what the loop keeps

pub record Taking (kinds : List Kind) (s : Stack) (left : ℕ) (vs : List Value) (t : Stack) : Type 0 where
  pub within : left ≤ length kinds
  pub whole : length vs ≡ length kinds
  pub room : t.room ≡ s.room
  pub popped : Popping kinds s left vs t
  pub stays : StaysKnown s t
  pub settled : (count : ℕ) → AreKnown count s.values → AreSettled count (drop left vs)
  pub taken : TakesAll s (reverse (drop left vs)) t

pub taking_start : (kinds : List Kind) (s : Stack) (vs : List Value) → length vs ≡ length kinds → Taking kinds s (length kinds) vs s
taking_start kinds s vs e = record {
  within = le_refl (length kinds);
  whole = e;
  room = refl;
  popped = popping_start kinds s vs e;
  stays = record { stays = λ count all. all };
  settled = λ count all. subst (AreSettled count) (sym (drop_all (length kinds) vs (omega arith))) tt;
  taken = subst (λ (us : List Value). TakesAll s (reverse us) s) (sym (drop_all (length kinds) vs (omega arith))) (takes_none s);
}

pub taking_next : (kinds : List Kind) (s t u : Stack) (vs : List Value) (left : ℕ) (d : Kind) (v : Value) → 0 < left → Taking kinds s left vs t
    → u.room ≡ t.room → PopsKind (get_or kinds (left - 1) d) t v u → StaysKnown t u → IsSettledValue t v → TakesAll t (v ∷ []) u → Taking kinds s (left - 1) (set vs (left - 1) v) u
taking_next kinds s t u vs left d v h p room q stays settles took = record {
  within = let w = p.within in omega arith;
  whole = length-set vs (left - 1) v ∙ p.whole;
  room = room ∙ p.room;
  popped = popping_step kinds s t u vs (left - 1) d v (let w = p.within in omega arith) p.whole (one_before p.popped) q;
  stays = still_known s t u p.stays stays;
  settled = λ count all.
      subst (AreSettled count) (sym (drop-set vs (left - 1) v (let whole = p.whole in let w = p.within in omega arith)))
      (settles.settled count (p.stays.stays count all), subst (λ i. AreSettled count (drop i vs)) before (p.settled count all));
  taken =
      subst (λ (us : List Value). TakesAll s (reverse us) u) (sym (drop-set vs (left - 1) v (let whole = p.whole in let w = p.within in omega arith)))
      (subst (λ (us : List Value). TakesAll s us u) (sym (reverse_first v (drop (left - 1 + 1) vs)))
      (takes_more s t u (reverse (drop (left - 1 + 1) vs)) (v ∷ []) (subst (λ i. TakesAll s (reverse (drop i vs)) t) before p.taken) took));
} where
  before : left ≡ left - 1 + 1
  before = omega arith

  one_before : Popping kinds s left vs t → Popping kinds s (left - 1 + 1) vs t
  one_before w = subst (λ i. Popping kinds s i vs t) before w

pub taking_lacks : (kinds : List Kind) (s t : Stack) (vs : List Value) (left : ℕ) (d : Kind) → 0 < left → Taking kinds s left vs t → LacksKind (get_or kinds (left - 1) d) t → LacksArguments kinds s
taking_lacks kinds s t vs left d h p q = popping_lacks kinds s t vs (left - 1) d (let w = p.within in omega arith) (subst (λ i. Popping kinds s i vs t) before p.popped) q where
  before : left ≡ left - 1 + 1
  before = omega arith

pub taking_done : (kinds : List Kind) (s t : Stack) (vs : List Value) (left : ℕ) → left ≤ 0 → Taking kinds s left vs t → PopsArguments kinds s vs t
taking_done kinds s t vs left h p = popping_done kinds s t vs (subst (λ i. Popping kinds s i vs t) none p.popped) where
  none : left ≡ 0
  none = omega arith

pub taking_settled : (kinds : List Kind) (s t : Stack) (vs : List Value) (left : ℕ) → left ≤ 0 → Taking kinds s left vs t → AreSettledIn s vs
taking_settled kinds s t vs left h p = record { settled = λ count all. subst (λ i. AreSettled count (drop i vs)) none (p.settled count all) } where
  none : left ≡ 0
  none = omega arith

pub taking_taken : (kinds : List Kind) (s t : Stack) (vs : List Value) (left : ℕ) → left ≤ 0 → Taking kinds s left vs t → TakesAll s (reverse vs) t
taking_taken kinds s t vs left h p = subst (λ i. TakesAll s (reverse (drop i vs)) t) none p.taken where
  none : left ≡ 0
  none = omega arith

-- ---- with a receiver

pub calls_on : (kinds : List Kind) (f : Frame) (vs : List Value) (t u : Stack) (receiver : Receiver) → PopsArguments kinds f.operands vs t → PopsReceiver t receiver u → CallsOn kinds f receiver vs (record f { operands = u })
calls_on kinds f vs t u receiver p q = λ n special r e.
    p n f.method.0 (parameters_in r.member.descriptor) (λ args rest. definition.pop rest (λ v under. definition.received special r v args (machine.content under (locals_of n f)))) e
    ∙ q n f.method.0 special r (map (held n) vs) (locals_of n f)

pub call_breaks : (kinds : List Kind) (f : Frame) (vs : List Value) (t : Stack) → PopsArguments kinds f.operands vs t → LacksReceiver t → CallBreaks kinds f
call_breaks kinds f vs t p q = λ n special r e.
    p n f.method.0 (parameters_in r.member.descriptor) (λ args rest. definition.pop rest (λ v under. definition.received special r v args (machine.content under (locals_of n f)))) e
    ∙ q n f.method.0 special r (map (held n) vs) (locals_of n f)

pub receiver_before : (s t : Stack) (receiver : Receiver) → StaysKnown s t → IsKnownReceiver t receiver → IsKnownReceiver s receiver
receiver_before s t receiver h k = record { known = λ count all. k.known count (h.stays count all) }
