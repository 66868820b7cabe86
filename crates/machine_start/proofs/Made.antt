-- The values of arguments, one after the other.
use Rattle.std.specs.Prelude.{◌≡◌, ℕ, ◌+◌, ◌<◌, ◌≤◌, List, [], ◌∷◌, ◌++◌, map, take, length, get_or, refl}
use Rattle.std.specs.List.{AllByRecursion}
use Rattle.std.proofs.Common.{sym, ◌∙◌, ap, subst, arith, length-append, append_assoc, append-nil}
use Rattle.std.proofs.lemmas.Bool.{lt-ltb}
use Rattle.std.proofs.lemmas.List.{map-append, map_more}
use Rattle.class_world.specs.Tables.{Known}
use Rattle.class_machine.specs.Start.{EntryArgument, Text, argument, arguments}
use Rattle.class_machine.specs.Values as machine
use Rattle.class_machine.specs.Values.{Held}
use Rattle.class_machine.specs.World.{World}
use Rattle.machine_values.specs.declared.names.Maker.TheVariants.{Class}
use Rattle.machine_values.specs.declared.names.Name.{Name}
use Rattle.machine_values.specs.declared.values.Ref.{Ref}
use Rattle.machine_values.specs.declared.values.Value.{Value}
use Rattle.machine_values.specs.declared.values.Value.TheVariants as value
use Rattle.machine_values.specs.declared.content.Content.{Content}
use Rattle.machine_values.specs.declared.content.Content.TheVariants as content
use Rattle.machine_values.specs.Standing.{held, Settled}
use Rattle.machine_values.specs.Things.{Things, Placed}
use Rattle.machine_requests.specs.Growth.{all_held_stay}
use Rattle.machine_requests.specs.Replies.{IsLonger}
use Rattle.machine_requests.proofs.NewArrays.{longer_made, longer_same}
use Rattle.machine_steps.specs.Programs.{Machine}
use Rattle.machine_steps.specs.Within.{settled_more}
use Rattle.machine_natives.specs.Throwables.{MakesString}
use Rattle.machine_start.specs.Arguments.{KeepsContents, IsValue, MakesValue, AreValues, MakesValues}

-- ---- what was there keeps its place

pub many_more : (before after : Things) → IsLonger before after → length before.names ≤ length after.names
many_more before after longer = let e = ap length longer.1 in let n = length-append before.names longer.0 in omega arith

pub longer_both : (a b c : Things) → IsLonger a b → IsLonger b c → IsLonger a c
longer_both a b c h k = (h.0 ++ k.0, k.1 ∙ ap (λ (l : List Name). l ++ k.0) h.1 ∙ append_assoc a.names h.0 k.0)

settled_all : (n k : ℕ) → n ≤ k → (vs : List Value) → AllByRecursion (Settled n) vs → AllByRecursion (Settled k) vs
settled_all n k more [] h = tt
settled_all n k more (v ∷ vs) h = (settled_more n k more v h.0, settled_all n k more vs h.1)

settled_push : (n : ℕ) (vs : List Value) (v : Value) → AllByRecursion (Settled n) vs → Settled n v → AllByRecursion (Settled n) (vs ++ v ∷ [])
settled_push n [] v h s = (s, tt)
settled_push n (w ∷ vs) v h s = (h.0, settled_push n vs v h.1 s)

-- ---- what was there holds what it held

pub kept_none : (things : Things) → KeepsContents things things
kept_none things = ([], sym (append-nil things.contents))

pub kept_both : (a b c : Things) → KeepsContents a b → KeepsContents b c → KeepsContents a c
kept_both a b c h k = (h.0 ++ k.0, k.1 ∙ ap (λ (l : List Content). l ++ k.0) h.1 ∙ append_assoc a.contents h.0 k.0)

pub text_kept : (k : Known) (before : Things) (units : List ℕ) (after : Things) (at : Ref) → MakesString k before units after at → KeepsContents before after
text_kept k before units after at made = subst (λ (p : Placed). KeepsContents before p.1) (sym made.added) (content.Text units ∷ [], refl)

-- ---- one value

-- of a number or null nothing is made
pub plain_made : (k : Known) (things : Things) (x : EntryArgument) (v : Value) → Settled (length things.names) v
    → ((m : Machine) (w : World) → argument x w ≡ (held m.setting.heads things.names v, w)) → MakesValue k things x things v
plain_made k things x v settled is = record {
  there = λ m others w machine holds. subst (IsValue m things others v) (sym (is m w)) (record { value = refl; holds = holds });
  settled = settled;
  longer = longer_same things;
}

pub text_made : (k : Known) (before : Things) (units : List ℕ) (after : Things) (at : Ref) → at.0 < length after.names → MakesString k before units after at
    → MakesValue k before (Text units) after (value.Reference at)
text_made k before units after at within made = record {
  there = λ m others w is holds. let s = made.new m others w is holds in record { value = ap machine.Reference s.name; holds = s.holds };
  settled = lt-ltb at.0 (length after.names) within;
  longer = subst (λ (p : Placed). IsLonger before p.1) (sym made.added) (longer_made before (Class made.class) (content.Text units));
}

-- ---- one more value

arguments_push : (xs : List EntryArgument) (x : EntryArgument) (w : World)
    → arguments (xs ++ x ∷ []) w ≡ ((arguments xs w).0 ++ (argument x (arguments xs w).1).0 ∷ [], (argument x (arguments xs w).1).1)
arguments_push [] x w = refl
arguments_push (y ∷ xs) x w = ap (λ (p : List Held × World). ((argument y w).0 ∷ p.0, p.1)) (arguments_push xs x (argument y w).1)

pub none_made : (k : Known) (things : Things) → MakesValues k things [] things []
none_made k things = record { there = λ m others w is holds. record { values = refl; holds = holds }; settled = tt; longer = longer_same things }

pub one_more : (k : Known) (a b c : Things) (xs : List EntryArgument) (x : EntryArgument) (vs : List Value) (v : Value) → MakesValues k a xs b vs → MakesValue k b x c v → MakesValues k a (xs ++ x ∷ []) c (vs ++ v ∷ [])
one_more k a b c xs x vs v first next = record {
  there = λ m others w is holds.
      let so_far = first.there m others w is holds in
      let last = next.there m others (arguments xs w).1 is so_far.holds in
      subst (AreValues m c others (vs ++ v ∷ [])) (sym (arguments_push xs x w)) (record {
        values = map-append (held m.setting.heads c.names) vs (v ∷ [])
            ∙ ap (λ (l : List Held). l ++ held m.setting.heads c.names v ∷ []) (stays m ∙ so_far.values)
            ∙ ap (λ (h : Held). (arguments xs w).0 ++ h ∷ []) last.value;
        holds = last.holds;
      });
  settled = settled_push (length c.names) vs v (settled_all (length b.names) (length c.names) (many_more b c next.longer) vs first.settled) next.settled;
  longer = longer_both a b c first.longer next.longer;
} where
  stays : (m : Machine) → map (held m.setting.heads c.names) vs ≡ map (held m.setting.heads b.names) vs
  stays m =
      ap (λ (names : List Name). map (held m.setting.heads names) vs) next.longer.1
      ∙ all_held_stay m.setting.heads b.names next.longer.0 vs first.settled

-- of arguments that are read off a list
pub next_made : {X : Type 0} (k : Known) (a b c : Things) (f : X → EntryArgument) (xs : List X) (i : ℕ) (d x : X) (vs : List Value) (v : Value) → i < length xs → x ≡ get_or xs i d
    → MakesValues k a (map f (take i xs)) b vs → MakesValue k b (f x) c v → MakesValues k a (map f (take (i + 1) xs)) c (vs ++ v ∷ [])
next_made k a b c f xs i d x vs v within here first next =
    subst (λ l. MakesValues k a l c (vs ++ v ∷ [])) (ap (λ y. map f (take i xs) ++ f y ∷ []) here ∙ sym (map_more f xs i d within)) (one_more k a b c (map f (take i xs)) (f x) vs v first next)
