-- What holds of each effect in which an instruction may end, and of Broken, holds of the instruction: once over all forms.
use Rattle.std.specs.Prelude.{ℕ, zero, suc, ◌+◌, nat_le, length, Bool, true, false, if◌then◌else◌, List, [], ◌∷◌, Option, Some, None, ℤ, slice_get}
use Rattle.class_machine.specs.declared.kinds.Kind.{Kind}
use Rattle.class_machine.specs.declared.kinds.Slots.{Slots}
use Rattle.class_machine.specs.declared.kinds.Slots.TheVariants.{Zero, One, Two}
use Rattle.class_machine.specs.Values.{Name, Held, Value, Plain, Token, ReturnAddress, Local, Unset, Holds, Second, width, is_wide, has_room, kind_width, is_held}
use Rattle.class_machine.specs.Effect
use Rattle.class_machine.specs.Effect.{Effect, Broken}

module _ {P : Type 0} (Q : Effect P → Type 0) (broken : Q Broken) where
  pub if_form : (b : Bool) (e : Effect P) → (Q e) → Q (if b then e else Broken)
  if_form true e h = h
  if_form false e h = broken

  pub wide_form : (b : Bool) (e : Effect P) → Q e → Q (if b then Broken else e)
  wide_form true e h = broken
  wide_form false e h = h

  pub choice_form : (b : Bool) (e d : Effect P) → Q e → Q d → Q (if b then e else d)
  choice_form true e d h k = h
  choice_form false e d h k = k

  given_form : (b : Bool) (A : Type 0) (x : A) (go : A → Effect P) → Q (go x) → Q (Effect.given (if b then Some x else None) go)
  given_form true A x go h = h
  given_form false A x go h = broken

  -- ---- operands

  pub push_form : (room : ℕ) (v : Value P) (ops : List (Value P)) (go : List (Value P) → Effect P) → ((all : List (Value P)) → Q (go all)) → Q (Effect.push room v ops go)
  push_form room v ops go h = given_form (has_room room (width v) ops) (List (Value P)) (v ∷ ops) go (h (v ∷ ops))

  pub put_form : (room : ℕ) (vs : List (Value P)) (ops : List (Value P)) (go : List (Value P) → Effect P) → ((all : List (Value P)) → Q (go all)) → Q (Effect.put room vs ops go)
  put_form room [] ops go h = h ops
  put_form room (v ∷ vs) ops go h = put_form room vs ops (λ all. Effect.push room v all go) (λ all. push_form room v all go h)

  pub room_form : (room : ℕ) (k : Kind) (ops : List (Value P)) (e : Effect P) → Q e → Q (Effect.room_for room k ops e)
  room_form room k ops e h = if_form (has_room room (kind_width k) ops) e h

  pub pop_form : (ops : List (Value P)) (go : Value P → List (Value P) → Effect P) → ((v : Value P) (rest : List (Value P)) → Q (go v rest)) → Q (Effect.pop ops go)
  pop_form [] go h = broken
  pop_form (v ∷ ops) go h = h v ops

  pub int_form : (v : Value P) (go : ℤ → Effect P) → ((n : ℤ) → Q (go n)) → Q (Effect.int_in v go)
  int_form (Plain (Held.Int n)) go h = h n
  int_form (Plain _) go h = broken
  int_form (Token class number) go h = broken
  int_form (ReturnAddress p) go h = broken

  pub long_form : (v : Value P) (go : ℤ → Effect P) → ((n : ℤ) → Q (go n)) → Q (Effect.long_in v go)
  long_form (Plain (Held.Long n)) go h = h n
  long_form (Plain _) go h = broken
  long_form (Token class number) go h = broken
  long_form (ReturnAddress p) go h = broken

  pub held_form : (k : Kind) (v : Value P) (go : Held → Effect P) → ((x : Held) → Q (go x)) → Q (Effect.held_in k v go)
  held_form k (Plain x) go h = if_form (is_held k x) (go x) (h x)
  held_form k (Token class number) go h = broken
  held_form k (ReturnAddress p) go h = broken

  pub reference_form : (v : Value P) (go : Option Name → Effect P) → ((a : Option Name) → Q (go a)) → Q (Effect.reference_in v go)
  reference_form (Plain Held.Null) go h = h None
  reference_form (Plain (Held.Reference a)) go h = h (Some a)
  reference_form (Plain _) go h = broken
  reference_form (Token class number) go h = broken
  reference_form (ReturnAddress p) go h = broken

  pub address_form : (v : Value P) (go : P → Effect P) → ((p : P) → Q (go p)) → Q (Effect.address_in v go)
  address_form (Plain x) go h = broken
  address_form (Token class number) go h = broken
  address_form (ReturnAddress p) go h = h p

  pub pop_int_form : (ops : List (Value P)) (go : ℤ → List (Value P) → Effect P) → ((n : ℤ) (rest : List (Value P)) → Q (go n rest)) → Q (Effect.pop_int ops go)
  pop_int_form ops go h = pop_form ops (λ v rest. Effect.int_in v (λ n. go n rest)) (λ v rest. int_form v (λ n. go n rest) (λ n. h n rest))

  pub pop_long_form : (ops : List (Value P)) (go : ℤ → List (Value P) → Effect P) → ((n : ℤ) (rest : List (Value P)) → Q (go n rest)) → Q (Effect.pop_long ops go)
  pop_long_form ops go h = pop_form ops (λ v rest. Effect.long_in v (λ n. go n rest)) (λ v rest. long_form v (λ n. go n rest) (λ n. h n rest))

  pub pop_held_form : (k : Kind) (ops : List (Value P)) (go : Held → List (Value P) → Effect P) → ((x : Held) (rest : List (Value P)) → Q (go x rest)) → Q (Effect.pop_held k ops go)
  pop_held_form k ops go h = pop_form ops (λ v rest. Effect.held_in k v (λ x. go x rest)) (λ v rest. held_form k v (λ x. go x rest) (λ x. h x rest))

  pub pop_reference_form : (ops : List (Value P)) (go : Option Name → List (Value P) → Effect P) → ((a : Option Name) (rest : List (Value P)) → Q (go a rest)) → Q (Effect.pop_reference ops go)
  pop_reference_form ops go h = pop_form ops (λ v rest. Effect.reference_in v (λ a. go a rest)) (λ v rest. reference_form v (λ a. go a rest) (λ a. h a rest))

  pub pop_sizes_form : (n : ℕ) (taken : List ℤ) (ops : List (Value P)) (go : List ℤ → List (Value P) → Effect P) → ((xs : List ℤ) (rest : List (Value P)) → Q (go xs rest)) → Q (Effect.pop_sizes n taken ops go)
  pop_sizes_form zero taken ops go h = h taken ops
  pop_sizes_form (suc n) taken ops go h = pop_int_form ops (λ x rest. Effect.pop_sizes n (x ∷ taken) rest go) (λ x rest. pop_sizes_form n (x ∷ taken) rest go h)

  pub pop_narrow_form : (ops : List (Value P)) (go : Value P → List (Value P) → Effect P) → ((v : Value P) (rest : List (Value P)) → Q (go v rest)) → Q (Effect.pop_narrow ops go)
  pop_narrow_form ops go h = pop_form ops (λ v rest. if is_wide v then Broken else go v rest) (λ v rest. wide_form (is_wide v) (go v rest) (h v rest))

  pub pop_slots_form : (n : Slots) (ops : List (Value P)) (go : List (Value P) → List (Value P) → Effect P) → ((vs rest : List (Value P)) → Q (go vs rest)) → Q (Effect.pop_slots n ops go)
  pop_slots_form Zero ops go h = h [] ops
  pop_slots_form One ops go h = pop_narrow_form ops (λ v rest. go (v ∷ []) rest) (λ v rest. h (v ∷ []) rest)
  pop_slots_form Two ops go h =
      pop_form ops (λ v rest. if is_wide v then go (v ∷ []) rest else Effect.pop_narrow rest (λ u under. go (v ∷ u ∷ []) under))
      (λ v rest. choice_form (is_wide v) (go (v ∷ []) rest) (Effect.pop_narrow rest (λ u under. go (v ∷ u ∷ []) under)) (h (v ∷ []) rest) (pop_narrow_form rest (λ u under. go (v ∷ u ∷ []) under) (λ u under. h (v ∷ u ∷ []) under)))

  -- ---- locals

  pub holds_form : (o : Option (Local P)) (go : Value P → Effect P) → ((v : Value P) → Q (go v)) → Q (Effect.holds o go)
  holds_form (Some (Holds v)) go h = h v
  holds_form (Some Unset) go h = broken
  holds_form (Some Second) go h = broken
  holds_form None go h = broken

  pub read_form : (n : ℕ) (ls : List (Local P)) (go : Value P → Effect P) → ((v : Value P) → Q (go v)) → Q (Effect.read_local n ls go)
  read_form n ls go h =
      holds_form (slice_get ls n) (λ v. if is_wide v then (if Effect.is_second (slice_get ls (n + 1)) then go v else Broken) else go v)
      (λ v. choice_form (is_wide v) (if Effect.is_second (slice_get ls (n + 1)) then go v else Broken) (go v) (if_form (Effect.is_second (slice_get ls (n + 1))) (go v) (h v)) (h v))

  pub write_form : (n : ℕ) (v : Value P) (ls : List (Local P)) (go : List (Local P) → Effect P) → ((set : List (Local P)) → Q (go set)) → Q (Effect.write_local n v ls go)
  write_form n v ls go h = given_form (nat_le (n + width v) (length ls)) (List (Local P)) (Effect.with_local n v ls) go (h (Effect.with_local n v ls))
