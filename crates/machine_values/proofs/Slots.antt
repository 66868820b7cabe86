-- Each value takes a slot at least.
use Rattle.std.proofs.Common.{◌≡◌, ℕ, ◌+◌, ◌≤◌, ◌<◌, ◌==◌, Bool, true, false, if◌then◌else◌, List, [], ◌∷◌, ◌++◌, map, length, get_or, set, take, drop, reverse, arith, sym, ap, ◌∙◌, refl}
use Rattle.std.specs.List.{refill}
use Rattle.std.proofs.lemmas.List.{length-reverse, length-map, take_at, get_or_default}
use Rattle.std.proofs.lemmas.List.Edits.{map_over_more}
use Rattle.std.proofs.lemmas.List.{reverse-append}
use Rattle.aj_names.specs.declared.ids.ClassId.{ClassId}
use Rattle.machine_values.specs.declared.values.Ref.{Ref}
use Rattle.machine_values.specs.declared.values.Value.{Value}
use Rattle.machine_values.specs.declared.values.Value.TheVariants.{Int, Long, Float, Double, Null, Reference, Token, ReturnAddress}
use Rattle.machine_values.specs.Stacks.{is_wide, width, weight, slots_of, filled_in}

slots_pos : (b : Bool) → 1 ≤ slots_of b
slots_pos true = omega arith
slots_pos false = omega arith

pub width_pos : (v : Value) → 1 ≤ width v
width_pos v = slots_pos (is_wide v)

length_weight : (vs : List Value) → length vs ≤ weight vs
length_weight [] = omega arith
length_weight (v ∷ vs) = let a = width_pos v in let b = length_weight vs in omega arith

pub length_reversed : (vs : List Value) → length vs ≤ weight (reverse vs)
length_reversed vs = let a = length_weight (reverse vs) in let b = length-reverse vs in omega arith

-- ---- tokens that become an object

one_slot : (b : Bool) (object : Ref) (class : ClassId) (n : ℕ) → width (if b then Reference object else Token class n) ≡ 1
one_slot true object class n = refl
one_slot false object class n = refl

filled_width : (number : ℕ) (object : Ref) (v : Value) → width (filled_in number object v) ≡ width v
filled_width number object (Token class n) = one_slot (n == number) object class n
filled_width number object (Int n) = refl
filled_width number object (Long n) = refl
filled_width number object (Float bits) = refl
filled_width number object (Double bits) = refl
filled_width number object Null = refl
filled_width number object (Reference at) = refl
filled_width number object (ReturnAddress pc) = refl

filled_alike : (number : ℕ) (object : Ref) (vs : List Value) → weight (map (filled_in number object) vs) ≡ weight vs
filled_alike number object [] = refl
filled_alike number object (v ∷ vs) = let a = filled_width number object v in let b = filled_alike number object vs in omega arith

map_both : (f : Value → Value) (xs ys : List Value) → map f (xs ++ ys) ≡ map f xs ++ map f ys
map_both f [] ys = refl
map_both f (x ∷ xs) ys = ap (λ l. f x ∷ l) (map_both f xs ys)

map_reversed : (f : Value → Value) (vs : List Value) → reverse (map f vs) ≡ map f (reverse vs)
map_reversed f [] = refl
map_reversed f (v ∷ vs) =
    reverse-append (f v ∷ []) (map f vs) ∙ ap (λ l. l ++ f v ∷ []) (map_reversed f vs)
    ∙ sym (ap (map f) (reverse-append (v ∷ []) vs) ∙ map_both f (reverse vs) (v ∷ []))

-- each value is written over
pub written_over : {X : Type 0} (f : X → X) (xs ys : List X) (i : ℕ) (d y : X) → i < length xs → length ys ≡ length xs → ys ≡ map f (take i xs) ++ drop i xs → y ≡ f (get_or ys i d)
    → set ys i y ≡ map f (take (i + 1) xs) ++ drop (i + 1) xs
written_over f xs ys i d y within same so_far is =
    let x = get_or ys i d in
    ap (set ys i) is ∙ map_over_more f xs ys i x within so_far (get_or_default ys i d x (omega arith))

refilled : {X : Type 0} (xs ws : List X) → length ws ≡ length xs → refill (length xs) xs ws ≡ ws
refilled xs ws same = take_at ws (drop (length ws) xs) (length xs) same

-- what is lent for the change is given back whole
pub refilled_with : (number : ℕ) (object : Ref) (xs ws : List Value) → ws ≡ map (filled_in number object) xs → refill (length xs) xs ws ≡ map (filled_in number object) xs
refilled_with number object xs ws is = refilled xs ws (ap length is ∙ length-map xs (filled_in number object)) ∙ is

pub filled_reversed : (number : ℕ) (object : Ref) (vs : List Value) → reverse (map (filled_in number object) vs) ≡ map (filled_in number object) (reverse vs)
filled_reversed number object vs = map_reversed (filled_in number object) vs

pub filled_weight : (number : ℕ) (object : Ref) (vs : List Value) → weight (reverse (map (filled_in number object) vs)) ≡ weight (reverse vs)
filled_weight number object vs = ap weight (filled_reversed number object vs) ∙ filled_alike number object (reverse vs)
