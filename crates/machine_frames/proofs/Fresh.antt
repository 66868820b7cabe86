-- The highest number of a token is the same in the definition.
use Rattle.std.proofs.Common.{◌≡◌, ℕ, ◌+◌, ◌<◌, ◌≤◌, ◌^◌, max, Bool, true, false, List, [], ◌∷◌, ◌++◌, length, reverse, take, get_or, refl, sym, ◌∙◌, ap, arith}
use Rattle.std.specs.Bool.{MatchBool}
use Rattle.std.proofs.lemmas.List.{reverse-append, take_more}
use Rattle.class_heads.specs.Hierarchy.{name_at}
use Rattle.aj_names.specs.declared.ids.ClassId.{ClassId}
use Rattle.class_machine.specs.Values as machine
use Rattle.class_machine.specs.Effect as definition
use Rattle.machine_values.specs.declared.values.Value.{Value}
use Rattle.machine_values.specs.declared.values.Value.TheVariants.{Int, Long, Float, Double, Null, Reference, Token, ReturnAddress}
use Rattle.machine_values.specs.declared.values.Local.{Local}
use Rattle.machine_values.specs.declared.values.Local.TheVariants.{Unset, Holds, Second}
use Rattle.machine_values.specs.declared.frames.Frame.{Frame}
use Rattle.machine_values.specs.Stacks.{Stack}
use Rattle.machine_frames.specs.Naming.{Naming, value, local, values, locals}
use Rattle.machine_frames.specs.Operands.{Pushes, Overflows}
use Rattle.machine_frames.specs.Tokens.{number_of, number_in, highest, highest_in, Announces, AnnounceBreaks, IsSpent}

token_number-value : (n : Naming) (method : ℕ) (v : Value) → machine.token_number (value n method v) ≡ number_of v
token_number-value n method (Int k) = refl
token_number-value n method (Long k) = refl
token_number-value n method (Float bits) = refl
token_number-value n method (Double bits) = refl
token_number-value n method Null = refl
token_number-value n method (Reference at) = refl
token_number-value n method (Token class number) = refl
token_number-value n method (ReturnAddress pc) = refl

local_number-local : (n : Naming) (method : ℕ) (l : Local) → machine.local_number (local n method l) ≡ number_in l
local_number-local n method Unset = refl
local_number-local n method (Holds v) = token_number-value n method v
local_number-local n method Second = refl

pub highest-values : (n : Naming) (method : ℕ) (vs : List Value) → machine.highest (values n method vs) ≡ highest vs
highest-values n method [] = refl
highest-values n method (v ∷ vs) = let a = token_number-value n method v in let b = highest-values n method vs in cc

pub highest_local-locals : (n : Naming) (method : ℕ) (ls : List Local) → machine.highest_local (locals n method ls) ≡ highest_in ls
highest_local-locals n method [] = refl
highest_local-locals n method (l ∷ ls) = let a = local_number-local n method l in let b = highest_local-locals n method ls in cc

pub highest-append : (us vs : List Value) → highest (us ++ vs) ≡ max (highest us) (highest vs)
highest-append [] vs = omega arith
highest-append (u ∷ us) vs = let e = highest-append us vs in omega arith

pub highest_reverse : (vs : List Value) → highest (reverse vs) ≡ highest vs
highest_reverse [] = refl
highest_reverse (v ∷ vs) =
    let e = ap highest (reverse-append (v ∷ []) vs) in
    let f = highest-append (reverse vs) (v ∷ []) in
    let g = highest_reverse vs in
    omega arith

pub highest_in-append : (ks ls : List Local) → highest_in (ks ++ ls) ≡ max (highest_in ks) (highest_in ls)
highest_in-append [] ls = omega arith
highest_in-append (k ∷ ks) ls = let e = highest_in-append ks ls in omega arith

pub highest_more : (vs : List Value) (i : ℕ) (d : Value) → i < length vs → highest (take (i + 1) vs) ≡ max (highest (take i vs)) (number_of (get_or vs i d))
highest_more vs i d h =
    ap highest (take_more vs i d h) ∙ highest-append (take i vs) (get_or vs i d ∷ []) ∙ ap (max (highest (take i vs))) (omega arith)

pub highest_in_more : (ls : List Local) (i : ℕ) (d : Local) → i < length ls → highest_in (take (i + 1) ls) ≡ max (highest_in (take i ls)) (number_in (get_or ls i d))
highest_in_more ls i d h =
    ap highest_in (take_more ls i d h) ∙ highest_in-append (take i ls) (get_or ls i d ∷ []) ∙ ap (max (highest_in (take i ls))) (omega arith)

pub highest_next : (vs : List Value) (i : ℕ) (d : Value) (most n m : ℕ) → i < length vs → most ≡ highest (take i vs) → n ≡ number_of (get_or vs i d) → m ≡ max most n → m ≡ highest (take (i + 1) vs)
highest_next vs i d most n m h e f g = let step = highest_more vs i d h in cc

pub highest_in_next : (ls : List Local) (i : ℕ) (d : Local) (most n m : ℕ) → i < length ls → most ≡ highest_in (take i ls) → n ≡ number_in (get_or ls i d) → m ≡ max most n → m ≡ highest_in (take (i + 1) ls)
highest_in_next ls i d most n m h e f g = let step = highest_in_more ls i d h in cc

-- the number of the next token
pub fresh-values : (n : Naming) (method : ℕ) (vs : List Value) (ls : List Local) → machine.fresh (values n method vs) (locals n method ls) ≡ 1 + max (highest vs) (highest_in ls)
fresh-values n method vs ls = let a = highest-values n method vs in let b = highest_local-locals n method ls in cc

pub announces : (f : Frame) (t : Stack) (class : ClassId) (number : ℕ) → number ≡ 1 + max (highest f.operands.values) (highest_in f.locals) → Pushes f.operands (Token class number) t → Announces f class (record f { operands = t })
announces f t class number e p = λ n.
    let method = f.method.0 in
    ap (λ k. definition.given (definition.pushed f.operands.room (machine.Token (name_at n.heads class.0) k) (values n method f.operands.values)) (λ all. definition.Announce (name_at n.heads class.0) (machine.content all (locals n method f.locals))))
    (fresh-values n method f.operands.values f.locals ∙ sym e)
    ∙ ap (λ o. definition.given o (λ all. definition.Announce (name_at n.heads class.0) (machine.content all (locals n method f.locals)))) (p n method)

pub announce_breaks : (f : Frame) (class : ClassId) (number : ℕ) → number ≡ 1 + max (highest f.operands.values) (highest_in f.locals) → Overflows f.operands (Token class number) → AnnounceBreaks f class
announce_breaks f class number e p = λ n.
    let method = f.method.0 in
    ap (λ k. definition.given (definition.pushed f.operands.room (machine.Token (name_at n.heads class.0) k) (values n method f.operands.values)) (λ all. definition.Announce (name_at n.heads class.0) (machine.content all (locals n method f.locals))))
    (fresh-values n method f.operands.values f.locals ∙ sym e)
    ∙ ap (λ o. definition.given o (λ all. definition.Announce (name_at n.heads class.0) (machine.content all (locals n method f.locals)))) (p n method)

pub spent : (f : Frame) → 2 ^ 64 ≤ 1 + max (highest f.operands.values) (highest_in f.locals) → IsSpent f
spent f h = λ n. rw (fresh-values n f.method.0 f.operands.values f.locals) h

pub announced : (f : Frame) (t : Stack) (class : ClassId) (number : ℕ) (b : Bool) → number ≡ 1 + max (highest f.operands.values) (highest_in f.locals)
    → MatchBool b (Pushes f.operands (Token class number) t) (Overflows f.operands (Token class number)) → MatchBool b (Announces f class (record f { operands = t })) (AnnounceBreaks f class)
announced f t class number true e p = announces f t class number e p
announced f t class number false e p = announce_breaks f class number e p
