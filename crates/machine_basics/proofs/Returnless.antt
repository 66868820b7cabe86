-- Of an instruction that is no return no result comes, and where it enters a subroutine there is room for the return address.
-- The kind of the method's result plays no part in it.
use Rattle.std.specs.Prelude.{◌≡◌, ℕ, Bool, true, false, if◌then◌else◌, List, [], ◌∷◌, Option, Some, None, ℤ, pos, refl}
use Rattle.std.specs.Int.{w8, w16, w32, w64, int_wrapping_add, int_wrapping_neg}
use Rattle.std.proofs.lemmas.Bool.{false≢true}
use Rattle.std.proofs.Common.{sym}
use Rattle.class_machine.specs.declared.kinds.Kind.{Kind}
use Rattle.class_machine.specs.declared.kinds.Conversion.{Conversion}
use Rattle.class_machine.specs.declared.kinds.Conversion.TheVariants.{IntToLong, LongToInt, IntToByte, IntToChar, IntToShort}
use Rattle.class_machine.specs.declared.meaning.Basic.{Basic}
use Rattle.class_machine.specs.Values.{Name, Held, Value, Plain, Local, content, has_room, loads, stores, same_object, is_null}
use Rattle.class_machine.specs.Numbers.{divide, binary, shift, compare, same_int, passes, low_signed, low_unsigned}
use Rattle.class_machine.specs.Descriptors.{element_kind, primitive}
use Rattle.class_machine.specs.Effect
use Rattle.class_machine.specs.Effect.{Request, Setting, Effect, On, Jump, Enter, Back, Ask, Leave, Fail, Throw, Unmodelled, Broken, held_constant, agrees, basic_effect}
use Rattle.machine_basics.specs.Performed.{is_return}
use Rattle.machine_basics.proofs.Forms.{if_form, choice_form, push_form, put_form, room_form, pop_form, int_form, address_form, pop_int_form, pop_long_form, pop_held_form, pop_reference_form, pop_sizes_form, pop_narrow_form, pop_slots_form, read_form, write_form}

module _ {P : Type 0} (room : ℕ) where
  -- no result comes of it, and there is room for a return address
  abbrev pub Stays : Effect P → Type 0
  Stays (Leave result) = ⊥
  Stays (Enter i c) = has_room room 1 c.operands ≡ true
  Stays e = Unit {0}

  push_on_stays : (v : Value P) (ops : List (Value P)) (ls : List (Local P)) → Stays (Effect.push_on room v ops ls)
  push_on_stays v ops ls = push_form Stays tt room v ops (λ all. Effect.on all ls) (λ all. tt)

  branch_stays : (b : Bool) (ops : List (Value P)) (ls : List (Local P)) → Stays (Effect.branch b ops ls)
  branch_stays true ops ls = tt
  branch_stays false ops ls = tt

  unless_null_stays : (a : Option Name) (rest : List (Value P)) → Stays (Effect.unless_null {P = P} a Throw)
  unless_null_stays None rest = tt
  unless_null_stays (Some x) rest = tt

  convert_stays : (c : Conversion) (ops : List (Value P)) (ls : List (Local P)) → Stays (Effect.convert room c ops ls)
  convert_stays IntToLong ops ls = pop_int_form Stays tt ops (λ x rest. Effect.push_on room (Plain (Held.Long x)) rest ls) (λ x rest. push_on_stays (Plain (Held.Long x)) rest ls)
  convert_stays LongToInt ops ls = pop_long_form Stays tt ops (λ x rest. Effect.push_on room (Plain (Held.Int (low_signed w64 w32 x))) rest ls) (λ x rest. push_on_stays (Plain (Held.Int (low_signed w64 w32 x))) rest ls)
  convert_stays IntToByte ops ls = pop_int_form Stays tt ops (λ x rest. Effect.push_on room (Plain (Held.Int (low_signed w32 w8 x))) rest ls) (λ x rest. push_on_stays (Plain (Held.Int (low_signed w32 w8 x))) rest ls)
  convert_stays IntToChar ops ls = pop_int_form Stays tt ops (λ x rest. Effect.push_on room (Plain (Held.Int (low_unsigned w16 x))) rest ls) (λ x rest. push_on_stays (Plain (Held.Int (low_unsigned w16 x))) rest ls)
  convert_stays IntToShort ops ls = pop_int_form Stays tt ops (λ x rest. Effect.push_on room (Plain (Held.Int (low_signed w32 w16 x))) rest ls) (λ x rest. push_on_stays (Plain (Held.Int (low_signed w32 w16 x))) rest ls)

  unmodelled_stays : (op : ℕ) (from : Kind) (both : Bool) (to : Kind) (ops : List (Value P)) → Stays (Effect.unmodelled room op from both to ops)
  unmodelled_stays op from true to ops =
      pop_held_form Stays tt from ops (λ y rest. Effect.pop_held from rest (λ x rest'. Effect.room_for room to rest' (Unmodelled op)))
      (λ y rest. pop_held_form Stays tt from rest (λ x rest'. Effect.room_for room to rest' (Unmodelled op)) (λ x rest'. room_form Stays tt room to rest' (Unmodelled op) tt))
  unmodelled_stays op from false to ops = pop_held_form Stays tt from ops (λ x rest. Effect.room_for room to rest (Unmodelled op)) (λ x rest. room_form Stays tt room to rest (Unmodelled op) tt)

  enter_by : (b : Bool) (ops : List (Value P)) (ls : List (Local P)) → has_room room 1 ops ≡ b → Stays (if b then Enter 0 (content ops ls) else Broken)
  enter_by true ops ls e = e
  enter_by false ops ls e = tt

  two_ints : (ops : List (Value P)) (go : ℤ → ℤ → List (Value P) → Effect P) → ((y x : ℤ) (rest : List (Value P)) → Stays (go y x rest)) → Stays (Effect.pop_int ops (λ y rest. Effect.pop_int rest (λ x rest'. go y x rest')))
  two_ints ops go h = pop_int_form Stays tt ops (λ y rest. Effect.pop_int rest (λ x rest'. go y x rest')) (λ y rest. pop_int_form Stays tt rest (λ x rest'. go y x rest') (λ x rest'. h y x rest'))

  two_longs : (ops : List (Value P)) (go : ℤ → ℤ → List (Value P) → Effect P) → ((y x : ℤ) (rest : List (Value P)) → Stays (go y x rest)) → Stays (Effect.pop_long ops (λ y rest. Effect.pop_long rest (λ x rest'. go y x rest')))
  two_longs ops go h = pop_long_form Stays tt ops (λ y rest. Effect.pop_long rest (λ x rest'. go y x rest')) (λ y rest. pop_long_form Stays tt rest (λ x rest'. go y x rest') (λ x rest'. h y x rest'))

  ask_stays : (request : Option Name → Request) (ops : List (Value P)) (ls : List (Local P)) → Stays (Effect.ask_of request ops ls)
  ask_stays request ops ls = pop_reference_form Stays tt ops (λ a rest. Ask (request a) (content rest ls)) (λ a rest. tt)

  unless_zero_stays : (y : ℤ) (e : Effect P) → Stays e → Stays (Effect.unless_zero y e)
  unless_zero_stays y e h = choice_form Stays tt (same_int y (pos 0)) (Fail _) e tt h

pub basic_stays : {P : Type 0} (s : Setting) (b : Basic) (ops : List (Value P)) (ls : List (Local P)) → is_return b ≡ false → Stays s.room (basic_effect s b ops ls)
basic_stays s Basic.Nothing ops ls h = tt
basic_stays s (Basic.Constant c) ops ls h = push_on_stays s.room (Plain (held_constant c)) ops ls
basic_stays s (Basic.Load k n) ops ls h =
    read_form (Stays s.room) tt n ls (λ v. if loads k v then Effect.push_on s.room v ops ls else Broken) (λ v. if_form (Stays s.room) tt (loads k v) (Effect.push_on s.room v ops ls) (push_on_stays s.room v ops ls))
basic_stays s (Basic.Store k n) ops ls h =
    pop_form (Stays s.room) tt ops (λ v rest. if stores k v then Effect.write_local n v ls (λ set. Effect.on rest set) else Broken)
    (λ v rest. if_form (Stays s.room) tt (stores k v) (Effect.write_local n v ls (λ set. Effect.on rest set)) (write_form (Stays s.room) tt n v ls (λ set. Effect.on rest set) (λ set. tt)))
basic_stays s (Basic.Pop n) ops ls h = pop_slots_form (Stays s.room) tt n ops (λ vs rest. Effect.on rest ls) (λ vs rest. tt)
basic_stays s (Basic.Duplicate n under) ops ls h =
    pop_slots_form (Stays s.room) tt n ops (λ a rest. Effect.pop_slots under rest (λ b rest'. Effect.put s.room a rest' (λ x. Effect.put s.room b x (λ y. Effect.put s.room a y (λ all. Effect.on all ls)))))
    (λ a rest. pop_slots_form (Stays s.room) tt under rest (λ b rest'. Effect.put s.room a rest' (λ x. Effect.put s.room b x (λ y. Effect.put s.room a y (λ all. Effect.on all ls))))
    (λ b rest'. put_form (Stays s.room) tt s.room a rest' (λ x. Effect.put s.room b x (λ y. Effect.put s.room a y (λ all. Effect.on all ls)))
    (λ x. put_form (Stays s.room) tt s.room b x (λ y. Effect.put s.room a y (λ all. Effect.on all ls)) (λ y. put_form (Stays s.room) tt s.room a y (λ all. Effect.on all ls) (λ all. tt)))))
basic_stays s Basic.Swap ops ls h =
    pop_narrow_form (Stays s.room) tt ops (λ b rest. Effect.pop_narrow rest (λ a rest'. Effect.push s.room b rest' (λ x. Effect.push_on s.room a x ls)))
    (λ b rest. pop_narrow_form (Stays s.room) tt rest (λ a rest'. Effect.push s.room b rest' (λ x. Effect.push_on s.room a x ls))
    (λ a rest'. push_form (Stays s.room) tt s.room b rest' (λ x. Effect.push_on s.room a x ls) (λ x. push_on_stays s.room a x ls)))
basic_stays s (Basic.IntBinary op) ops ls h = two_ints s.room ops (λ y x rest. Effect.push_on s.room (Plain (Held.Int (binary w32 op x y))) rest ls) (λ y x rest. push_on_stays s.room (Plain (Held.Int (binary w32 op x y))) rest ls)
basic_stays s (Basic.LongBinary op) ops ls h = two_longs s.room ops (λ y x rest. Effect.push_on s.room (Plain (Held.Long (binary w64 op x y))) rest ls) (λ y x rest. push_on_stays s.room (Plain (Held.Long (binary w64 op x y))) rest ls)
basic_stays s (Basic.IntDivide op) ops ls h =
    two_ints s.room ops (λ y x rest. Effect.unless_zero y (Effect.push_on s.room (Plain (Held.Int (divide w32 op x y))) rest ls))
    (λ y x rest. unless_zero_stays s.room y (Effect.push_on s.room (Plain (Held.Int (divide w32 op x y))) rest ls) (push_on_stays s.room (Plain (Held.Int (divide w32 op x y))) rest ls))
basic_stays s (Basic.LongDivide op) ops ls h =
    two_longs s.room ops (λ y x rest. Effect.unless_zero y (Effect.push_on s.room (Plain (Held.Long (divide w64 op x y))) rest ls))
    (λ y x rest. unless_zero_stays s.room y (Effect.push_on s.room (Plain (Held.Long (divide w64 op x y))) rest ls) (push_on_stays s.room (Plain (Held.Long (divide w64 op x y))) rest ls))
basic_stays s Basic.IntNegate ops ls h = pop_int_form (Stays s.room) tt ops (λ x rest. Effect.push_on s.room (Plain (Held.Int (int_wrapping_neg w32 x))) rest ls) (λ x rest. push_on_stays s.room (Plain (Held.Int (int_wrapping_neg w32 x))) rest ls)
basic_stays s Basic.LongNegate ops ls h = pop_long_form (Stays s.room) tt ops (λ x rest. Effect.push_on s.room (Plain (Held.Long (int_wrapping_neg w64 x))) rest ls) (λ x rest. push_on_stays s.room (Plain (Held.Long (int_wrapping_neg w64 x))) rest ls)
basic_stays s (Basic.IntShift op) ops ls h = two_ints s.room ops (λ y x rest. Effect.push_on s.room (Plain (Held.Int (shift w32 op x y))) rest ls) (λ y x rest. push_on_stays s.room (Plain (Held.Int (shift w32 op x y))) rest ls)
basic_stays s (Basic.LongShift op) ops ls h =
    pop_int_form (Stays s.room) tt ops (λ y rest. Effect.pop_long rest (λ x rest'. Effect.push_on s.room (Plain (Held.Long (shift w64 op x y))) rest' ls))
    (λ y rest. pop_long_form (Stays s.room) tt rest (λ x rest'. Effect.push_on s.room (Plain (Held.Long (shift w64 op x y))) rest' ls) (λ x rest'. push_on_stays s.room (Plain (Held.Long (shift w64 op x y))) rest' ls))
basic_stays s (Basic.Increment n by) ops ls h =
    read_form (Stays s.room) tt n ls (λ v. Effect.int_in v (λ x. Effect.write_local n (Plain (Held.Int (int_wrapping_add w32 x by))) ls (λ set. Effect.on ops set)))
    (λ v. int_form (Stays s.room) tt v (λ x. Effect.write_local n (Plain (Held.Int (int_wrapping_add w32 x by))) ls (λ set. Effect.on ops set))
    (λ x. write_form (Stays s.room) tt n (Plain (Held.Int (int_wrapping_add w32 x by))) ls (λ set. Effect.on ops set) (λ set. tt)))
basic_stays s (Basic.Convert c) ops ls h = convert_stays s.room c ops ls
basic_stays s Basic.CompareLong ops ls h = two_longs s.room ops (λ y x rest. Effect.push_on s.room (Plain (Held.Int (compare x y))) rest ls) (λ y x rest. push_on_stays s.room (Plain (Held.Int (compare x y))) rest ls)
basic_stays s (Basic.Unmodelled op from both to) ops ls h = unmodelled_stays s.room op from both to ops
basic_stays s (Basic.IfInt t) ops ls h = pop_int_form (Stays s.room) tt ops (λ x rest. Effect.branch (passes t x (pos 0)) rest ls) (λ x rest. branch_stays s.room (passes t x (pos 0)) rest ls)
basic_stays s (Basic.IfInts t) ops ls h = two_ints s.room ops (λ y x rest. Effect.branch (passes t x y) rest ls) (λ y x rest. branch_stays s.room (passes t x y) rest ls)
basic_stays s (Basic.IfReferences same) ops ls h =
    pop_reference_form (Stays s.room) tt ops (λ b rest. Effect.pop_reference rest (λ a rest'. Effect.branch (agrees same (same_object a b)) rest' ls))
    (λ b rest. pop_reference_form (Stays s.room) tt rest (λ a rest'. Effect.branch (agrees same (same_object a b)) rest' ls) (λ a rest'. branch_stays s.room (agrees same (same_object a b)) rest' ls))
basic_stays s (Basic.IfNull null) ops ls h = pop_reference_form (Stays s.room) tt ops (λ a rest. Effect.branch (agrees null (is_null a)) rest ls) (λ a rest. branch_stays s.room (agrees null (is_null a)) rest ls)
basic_stays s Basic.Goto ops ls h = tt
basic_stays s Basic.Jsr ops ls h = enter_by s.room (has_room s.room 1 ops) ops ls refl
basic_stays s (Basic.Ret n) ops ls h =
    read_form (Stays s.room) tt n ls (λ v. Effect.address_in v (λ p. Back p (content ops ls))) (λ v. address_form (Stays s.room) tt v (λ p. Back p (content ops ls)) (λ p. tt))
basic_stays s (Basic.Return k) ops ls h = absurd (false≢true (sym h))
basic_stays s Basic.Throw ops ls h = pop_reference_form (Stays s.room) tt ops (λ a rest. Effect.unless_null a Throw) (λ a rest. unless_null_stays s.room a rest)
basic_stays s (Basic.NewArray e) ops ls h = pop_sizes_form (Stays s.room) tt 1 [] ops (λ sizes rest. Ask (Effect.MakeArray None (91 ∷ primitive e) sizes) (content rest ls)) (λ sizes rest. tt)
basic_stays s (Basic.ArrayLoad e) ops ls h =
    pop_int_form (Stays s.room) tt ops (λ i rest. Effect.pop_reference rest (λ a rest'. Effect.room_for s.room (element_kind e) rest' (Ask (Effect.ArrayLoad e a i) (content rest' ls))))
    (λ i rest. pop_reference_form (Stays s.room) tt rest (λ a rest'. Effect.room_for s.room (element_kind e) rest' (Ask (Effect.ArrayLoad e a i) (content rest' ls)))
    (λ a rest'. room_form (Stays s.room) tt s.room (element_kind e) rest' (Ask (Effect.ArrayLoad e a i) (content rest' ls)) tt))
basic_stays s (Basic.ArrayStore e) ops ls h =
    pop_held_form (Stays s.room) tt (element_kind e) ops (λ v rest. Effect.pop_int rest (λ i rest'. Effect.pop_reference rest' (λ a rest''. Ask (Effect.ArrayStore e a i v) (content rest'' ls))))
    (λ v rest. pop_int_form (Stays s.room) tt rest (λ i rest'. Effect.pop_reference rest' (λ a rest''. Ask (Effect.ArrayStore e a i v) (content rest'' ls)))
    (λ i rest'. pop_reference_form (Stays s.room) tt rest' (λ a rest''. Ask (Effect.ArrayStore e a i v) (content rest'' ls)) (λ a rest''. tt)))
basic_stays s Basic.ArrayLength ops ls h = ask_stays s.room Effect.ArrayLength ops ls
basic_stays s Basic.EnterMonitor ops ls h = ask_stays s.room Effect.EnterMonitor ops ls
basic_stays s Basic.LeaveMonitor ops ls h = ask_stays s.room Effect.LeaveMonitor ops ls

-- the kind of the method's result plays no part but in a return
pub unconcerned : {P : Type 0} (room : ℕ) (one other : Option Kind) (b : Basic) (ops : List (Value P)) (ls : List (Local P)) → is_return b ≡ false
    → basic_effect (record { room = room; result = one }) b ops ls ≡ basic_effect (record { room = room; result = other }) b ops ls
unconcerned room one other (Basic.Return k) ops ls h = absurd (false≢true (sym h))
unconcerned room one other Basic.Nothing ops ls h = refl
unconcerned room one other (Basic.Constant c) ops ls h = refl
unconcerned room one other (Basic.Load k n) ops ls h = refl
unconcerned room one other (Basic.Store k n) ops ls h = refl
unconcerned room one other (Basic.Pop n) ops ls h = refl
unconcerned room one other (Basic.Duplicate n under) ops ls h = refl
unconcerned room one other Basic.Swap ops ls h = refl
unconcerned room one other (Basic.IntBinary op) ops ls h = refl
unconcerned room one other (Basic.LongBinary op) ops ls h = refl
unconcerned room one other (Basic.IntDivide op) ops ls h = refl
unconcerned room one other (Basic.LongDivide op) ops ls h = refl
unconcerned room one other Basic.IntNegate ops ls h = refl
unconcerned room one other Basic.LongNegate ops ls h = refl
unconcerned room one other (Basic.IntShift op) ops ls h = refl
unconcerned room one other (Basic.LongShift op) ops ls h = refl
unconcerned room one other (Basic.Increment n by) ops ls h = refl
unconcerned room one other (Basic.Convert c) ops ls h = refl
unconcerned room one other Basic.CompareLong ops ls h = refl
unconcerned room one other (Basic.Unmodelled op from both to) ops ls h = refl
unconcerned room one other (Basic.IfInt t) ops ls h = refl
unconcerned room one other (Basic.IfInts t) ops ls h = refl
unconcerned room one other (Basic.IfReferences same) ops ls h = refl
unconcerned room one other (Basic.IfNull null) ops ls h = refl
unconcerned room one other Basic.Goto ops ls h = refl
unconcerned room one other Basic.Jsr ops ls h = refl
unconcerned room one other (Basic.Ret n) ops ls h = refl
unconcerned room one other Basic.Throw ops ls h = refl
unconcerned room one other (Basic.NewArray e) ops ls h = refl
unconcerned room one other (Basic.ArrayLoad e) ops ls h = refl
unconcerned room one other (Basic.ArrayStore e) ops ls h = refl
unconcerned room one other Basic.ArrayLength ops ls h = refl
unconcerned room one other Basic.EnterMonitor ops ls h = refl
unconcerned room one other Basic.LeaveMonitor ops ls h = refl
