-- A heap that stands for one of the class machine still does once an object was added.
use Rattle.std.specs.Prelude.{◌≡◌, ℕ, suc, ◌+◌, ◌<◌, ◌≤◌, Bool, true, false, nat_lt, List, [], ◌∷◌, ◌++◌, map, reverse, length, slice_get, Option, Some, None, refl}
use Rattle.std.specs.List.{AllByRecursion, zip}
use Rattle.std.proofs.Common.{sym, ◌∙◌, ap, arith, append-nil, append_assoc, length-append}
use Rattle.std.proofs.lemmas.Bool.{ltb-true, lt-ltb}
use Rattle.std.proofs.lemmas.List.{get_or_append_left, reverse-append}
use Rattle.std.proofs.lemmas.Option.{slice_get-get_or}
use Rattle.aj_names.specs.declared.types.FieldType.{FieldType}
use Rattle.class_file.specs.Pool.{Reference}
use Rattle.class_heads.specs.declared.types.ClassHead.{ClassHead}
use Rattle.class_heads.specs.Hierarchy.{name_at}
use Rattle.class_machine.specs.Values as machine
use Rattle.class_machine.specs.World as worlds
use Rattle.machine_values.specs.declared.values.Value.{Value}
use Rattle.machine_values.specs.declared.values.Value.TheVariants.{Int, Long, Float, Double, Null, Reference as Pointer, Token, ReturnAddress}
use Rattle.machine_values.specs.declared.names.Maker.{Maker}
use Rattle.machine_values.specs.declared.names.Maker.TheVariants.{Class, Array}
use Rattle.machine_values.specs.declared.names.Name.{Name}
use Rattle.machine_values.specs.declared.names.Name.TheVariants.{Made, Literal, ClassObject}
use Rattle.machine_values.specs.declared.content.Content.{Content}
use Rattle.machine_values.specs.declared.content.Content.TheVariants.{Values, Text, Fixed}
use Rattle.machine_values.specs.Things.{Things, with_thing}
use Rattle.machine_values.specs.Standing.{machine_name, name_in, held, Settled, IsSettledContent, object_of, listed_one, listed, IsHeapOf}

-- ---- lists

both_cons : {X : Type 0} (x y : X) (xs ys : List X) → x ≡ y → xs ≡ ys → x ∷ xs ≡ y ∷ ys
both_cons x y xs ys p q = ap (λ z. z ∷ xs) p ∙ ap (λ zs. y ∷ zs) q

both_append : {X : Type 0} (ws xs ys zs : List X) → ws ≡ xs → ys ≡ zs → ws ++ ys ≡ xs ++ zs
both_append ws xs ys zs p q = ap (λ l. l ++ ys) p ∙ ap (λ l. xs ++ l) q

pub length-push : {X : Type 0} (xs : List X) (x : X) → length (xs ++ x ∷ []) ≡ suc (length xs)
length-push xs x = omega (arith, length-append xs (x ∷ []))

pub slice_get-push : {X : Type 0} (xs : List X) (x : X) (i : ℕ) → i < length xs → slice_get (xs ++ x ∷ []) i ≡ slice_get xs i
slice_get-push xs x i h =
    let longer = length-push xs x in
    slice_get-get_or (xs ++ x ∷ []) i x (omega arith) ∙ ap Some (get_or_append_left xs (x ∷ []) x i h) ∙ sym (slice_get-get_or xs i x h)

-- ---- values that are settled stay so, and are the same

pub settled_push : (n : ℕ) (v : Value) → Settled n v → Settled (suc n) v
settled_push n (Pointer at) h = let below = ltb-true at.0 n h in lt-ltb at.0 (suc n) (omega arith)
settled_push n (Int k) h = refl
settled_push n (Long k) h = refl
settled_push n (Float bits) h = refl
settled_push n (Double bits) h = refl
settled_push n Null h = refl
settled_push n (Token class number) h = h
settled_push n (ReturnAddress pc) h = h

all_settled_push : (n : ℕ) (vs : List Value) → AllByRecursion (Settled n) vs → AllByRecursion (Settled (suc n)) vs
all_settled_push n [] h = tt
all_settled_push n (v ∷ vs) h = (settled_push n v h.0, all_settled_push n vs h.1)

content_push : (n : ℕ) (c : Content) → IsSettledContent n c → IsSettledContent (suc n) c
content_push n (Values vs) h = all_settled_push n vs h
content_push n (Text units) h = tt
content_push n Fixed h = tt

contents_push : (n : ℕ) (cs : List Content) (c : Content) → AllByRecursion (IsSettledContent n) cs → IsSettledContent n c → AllByRecursion (IsSettledContent (suc n)) (cs ++ c ∷ [])
contents_push n [] c h k = (content_push n c k, tt)
contents_push n (d ∷ cs) c h k = (content_push n d h.0, contents_push n cs c h.1 k)

module _ (heads : List ClassHead) (fields : List ℕ → List Reference) (names : List Name) (x : Name) where
  pub held-push : (v : Value) → Settled (length names) v → held heads (names ++ x ∷ []) v ≡ held heads names v
  held-push (Pointer at) h = ap (λ o. machine.Reference (name_in heads o)) (slice_get-push names x at.0 (ltb-true at.0 (length names) h))
  held-push (Int k) h = refl
  held-push (Long k) h = refl
  held-push (Float bits) h = refl
  held-push (Double bits) h = refl
  held-push Null h = refl
  held-push (Token class number) h = refl
  held-push (ReturnAddress pc) h = refl

  pub map_held-push : (vs : List Value) → AllByRecursion (Settled (length names)) vs → map (held heads (names ++ x ∷ [])) vs ≡ map (held heads names) vs
  map_held-push [] h = refl
  map_held-push (v ∷ vs) h = both_cons _ _ _ _ (held-push v h.0) (map_held-push vs h.1)

  object_of-push : (maker : Maker) (c : Content) → IsSettledContent (length names) c → object_of heads fields (names ++ x ∷ []) maker c ≡ object_of heads fields names maker c
  object_of-push (Class class) (Values vs) h = ap (λ hs. worlds.Instance (zip (fields (name_at heads class.0)) hs)) (map_held-push vs h)
  object_of-push (Array type) (Values vs) h = ap worlds.Array (map_held-push vs h)
  object_of-push (Class class) (Text units) h = refl
  object_of-push (Array type) (Text units) h = refl
  object_of-push (Class class) Fixed h = refl
  object_of-push (Array type) Fixed h = refl

  listed_one-push : (name : Name) (c : Content) → IsSettledContent (length names) c → listed_one heads fields (names ++ x ∷ []) name c ≡ listed_one heads fields names name c
  listed_one-push (Made maker k) c h = ap (λ o. (machine_name heads (Made maker k), o) ∷ []) (object_of-push maker c h)
  listed_one-push (Literal units) c h = refl
  listed_one-push (ClassObject type) c h = refl

  listed-push : (ns : List Name) (cs : List Content) → AllByRecursion (IsSettledContent (length names)) cs → listed heads fields (names ++ x ∷ []) ns cs ≡ listed heads fields names ns cs
  listed-push [] cs h = refl
  listed-push (n ∷ ns) [] h = refl
  listed-push (n ∷ ns) (c ∷ cs) h = both_append _ _ _ _ (listed_one-push n c h.0) (listed-push ns cs h.1)

-- ---- one more object

listed-append : (heads : List ClassHead) (fields : List ℕ → List Reference) (names ns : List Name) (cs : List Content) (x : Name) (c : Content) → length cs ≡ length ns
    → listed heads fields names (ns ++ x ∷ []) (cs ++ c ∷ []) ≡ listed heads fields names ns cs ++ listed_one heads fields names x c
listed-append heads fields names [] [] x c h = append-nil (listed_one heads fields names x c)
listed-append heads fields names [] (d ∷ cs) x c h = absurd (omega arith)
listed-append heads fields names (n ∷ ns) [] x c h = absurd (omega arith)
listed-append heads fields names (n ∷ ns) (d ∷ cs) x c h =
    ap (λ l. listed_one heads fields names n d ++ l) (listed-append heads fields names ns cs x c (omega arith))
    ∙ sym (append_assoc (listed_one heads fields names n d) (listed heads fields names ns cs) (listed_one heads fields names x c))

-- the newest object stands first
reversed-append : {X : Type 0} (xs ys : List X) (x : X) → ys ≡ x ∷ [] → reverse (xs ++ ys) ≡ x ∷ reverse xs
reversed-append xs ys x h = ap (λ l. reverse (xs ++ l)) h ∙ reverse-append xs (x ∷ [])

same-push : (heads : List ClassHead) (fields : List ℕ → List Reference) (things : Things) (heap : List (machine.Name × worlds.Object)) (x : Name) (c : Content)
    → IsHeapOf heads fields things heap → IsSettledContent (length things.names) c
    → listed heads fields (things.names ++ x ∷ []) (things.names ++ x ∷ []) (things.contents ++ c ∷ []) ≡ listed heads fields things.names things.names things.contents ++ listed_one heads fields things.names x c
same-push heads fields things heap x c h k =
    listed-append heads fields (things.names ++ x ∷ []) things.names things.contents x c h.whole
    ∙ both_append _ _ _ _ (listed-push heads fields things.names x things.names things.contents h.settled) (listed_one-push heads fields things.names x x c k)

-- an object that is made is listed, with what it holds
pub made_stands : (heads : List ClassHead) (fields : List ℕ → List Reference) (things : Things) (heap : List (machine.Name × worlds.Object)) (maker : Maker) (k : ℕ) (c : Content)
    → IsHeapOf heads fields things heap → IsSettledContent (length things.names) c
    → IsHeapOf heads fields (with_thing things (Made maker k) c) ((machine_name heads (Made maker k), object_of heads fields things.names maker c) ∷ heap)
made_stands heads fields things heap maker k c h settled = record {
  whole = let a = length-push things.names (Made maker k) in let b = length-push things.contents c in let e = h.whole in omega arith;
  settled = rw (length-push things.names (Made maker k)) (contents_push (length things.names) things.contents c h.settled settled);
  same = ap (λ l. (machine_name heads (Made maker k), object_of heads fields things.names maker c) ∷ l) h.same
      ∙ sym (reversed-append (listed heads fields things.names things.names things.contents) _ _ refl) ∙ ap reverse (sym (same-push heads fields things heap (Made maker k) c h settled));
}

-- an object that stands for a literal isn't listed
pub literal_stands : (heads : List ClassHead) (fields : List ℕ → List Reference) (things : Things) (heap : List (machine.Name × worlds.Object)) (units : List ℕ)
    → IsHeapOf heads fields things heap → IsHeapOf heads fields (with_thing things (Literal units) Fixed) heap
literal_stands heads fields things heap units h = record {
  whole = let a = length-push things.names (Literal units) in let b = length-push things.contents Fixed in let e = h.whole in omega arith;
  settled = rw (length-push things.names (Literal units)) (contents_push (length things.names) things.contents Fixed h.settled tt);
  same = h.same ∙ ap reverse (sym (same-push heads fields things heap (Literal units) Fixed h tt ∙ append-nil (listed heads fields things.names things.names things.contents)));
}

-- nor is one that stands for a class
pub class_object_stands : (heads : List ClassHead) (fields : List ℕ → List Reference) (things : Things) (heap : List (machine.Name × worlds.Object)) (type : FieldType)
    → IsHeapOf heads fields things heap → IsHeapOf heads fields (with_thing things (ClassObject type) Fixed) heap
class_object_stands heads fields things heap type h = record {
  whole = let a = length-push things.names (ClassObject type) in let b = length-push things.contents Fixed in let e = h.whole in omega arith;
  settled = rw (length-push things.names (ClassObject type)) (contents_push (length things.names) things.contents Fixed h.settled tt);
  same = h.same ∙ ap reverse (sym (same-push heads fields things heap (ClassObject type) Fixed h tt ∙ append-nil (listed heads fields things.names things.names things.contents)));
}
