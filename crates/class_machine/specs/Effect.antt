-- What an instruction does to what its frame holds (JVMS 6). It knows no place, no code, no class and no heap. Here a run
-- is Broken by a pop from no operand, a push past the room, a local that is unset, half a wide value or past the last, a
-- value of the wrong kind, a wide value that is split, and an array of no dimensions or of more than its type has.
use Rattle.std.specs.Prelude.{ℕ, zero, suc, ◌+◌, Bool, true, false, not, if◌then◌else◌, List, [], ◌∷◌, Option, Some, None, ℤ, pos, nat_le, length, reverse, slice_get, slice_set}
use Rattle.std.specs.Int.{w8, w16, w32, w64, int_wrapping_neg, int_wrapping_add}
use Rattle.class_file.specs.Pool.{Reference}
use Rattle.class_file.specs.Code.{has_dimensions}
use Rattle.class_machine.specs.declared.kinds.Kind.{Kind}
use Rattle.class_machine.specs.declared.kinds.Element.{Element}
use Rattle.class_machine.specs.declared.kinds.Binary.{Binary}
use Rattle.class_machine.specs.declared.kinds.Division.{Division}
use Rattle.class_machine.specs.declared.kinds.Shift.{Shift}
use Rattle.class_machine.specs.declared.kinds.Conversion.{Conversion}
use Rattle.class_machine.specs.declared.kinds.Conversion.TheVariants.{IntToLong, LongToInt, IntToByte, IntToChar, IntToShort}
use Rattle.class_machine.specs.declared.kinds.Test.{Test}
use Rattle.class_machine.specs.declared.kinds.Slots.{Slots}
use Rattle.class_machine.specs.declared.kinds.Slots.TheVariants.{Zero, One, Two}
use Rattle.class_machine.specs.declared.kinds.Constant.{Constant}
use Rattle.class_machine.specs.declared.kinds.Access.{Access}
use Rattle.class_machine.specs.declared.kinds.Mode.{Mode}
use Rattle.class_machine.specs.declared.kinds.Fault.{Fault}
use Rattle.class_machine.specs.declared.meaning.Basic.{Basic}
use Rattle.class_machine.specs.Values.{Name, Held, Int, Long, Float, Double, Null, Value, Plain, Token, ReturnAddress, Local, Holds, Second, Content, content, same_kind, kind_width, is_held, is_wide, width, weight, has_room, loads, stores, same_object, is_null, fresh}
use Rattle.class_machine.specs.Values as values
use Rattle.class_machine.specs.Numbers.{binary, divide, shift, low_signed, low_unsigned, same_int, compare, passes}
use Rattle.class_machine.specs.Descriptors.{element_kind, kind_in, parameters_in, primitive, array_of}
use Rattle.class_machine.specs.Classes.{is_constructor}
use Rattle.class_machine.specs.Operations.{Operation, Do, Switch, Refer, ReferClass, FieldAccess, Invoke, New, NewReferenceArray, NewArrays, CheckCast, InstanceOf}

-- what an instruction asks of the static fields, the heap and the monitors; a reference may be null
pub data Request : Type 0 where
  GetStatic : (field : Reference) → Request
  PutStatic : (field : Reference) (v : Held) → Request
  GetField : (field : Reference) (a : Option Name) → Request
  PutField : (field : Reference) (a : Option Name) (v : Held) → Request
  -- an array of the type, and arrays in it, of these sizes; the class or array type that the instruction names
  MakeArray : (named : Option (List ℕ)) (type : List ℕ) (sizes : List ℤ) → Request
  ArrayLoad : (e : Element) (a : Option Name) (i : ℤ) → Request
  ArrayStore : (e : Element) (a : Option Name) (i : ℤ) (v : Held) → Request
  ArrayLength : (a : Option Name) → Request
  Cast : (class : List ℕ) (a : Option Name) → Request
  IsInstance : (class : List ℕ) (a : Option Name) → Request
  -- the object that stands for the class
  LoadClass : (class : List ℕ) → Request
  EnterMonitor : (a : Option Name) → Request
  LeaveMonitor : (a : Option Name) → Request

pub data Effect (P : Type 0) : Type 0 where
  -- on at the next place
  On : (c : Content P) → Effect P
  -- on at the target of this number
  Jump : (i : ℕ) (c : Content P) → Effect P
  -- on at the target, with the next place as a return address on top; there is room for it
  Enter : (i : ℕ) (c : Content P) → Effect P
  -- on at a return address
  Back : (place : P) (c : Content P) → Effect P
  -- on at the next place, with what the answer gives on top
  Ask : (request : Request) (c : Content P) → Effect P
  -- on at the next place, with a token of the class on top already
  Announce : (class : List ℕ) (c : Content P) → Effect P
  -- into a static method
  CallStatic : (method : Reference) (given : List Held) (c : Content P) → Effect P
  -- into a method of an object, by `invokespecial` or by selection
  CallOn : (special : Bool) (method : Reference) (receiver : Option Name) (given : List Held) (c : Content P) → Effect P
  -- into a constructor, with the object that the token of this class and number becomes
  Build : (method : Reference) (class : List ℕ) (number : ℕ) (given : List Held) (c : Content P) → Effect P
  -- out of the method, with its result
  Leave : (result : Option Held) → Effect P
  -- an exception that the machine makes, and one that is thrown
  Fail : (fault : Fault) → Effect P
  Throw : (a : Name) → Effect P
  -- the end
  Unmodelled : (op : ℕ) → Effect P
  Broken : Effect P

abbrev pub is_broken : {P : Type 0} → Effect P → Bool
is_broken Broken = true
is_broken _ = false

-- what a frame has that doesn't change: the most slots of its operands, and what its method returns
pub record Setting : Type 0 where
  pub room : ℕ
  pub result : Option Kind

-- the number of the key's target: 0 is the default's
abbrev pub key_target : List ℤ → ℤ → ℕ → ℕ
key_target [] x i = 0
key_target (k ∷ ks) x i = if same_int k x then i else key_target ks x (suc i)

abbrev pub held_constant : Constant → Held
held_constant Constant.Null = Null
held_constant (Constant.Int n) = Int n
held_constant (Constant.Long n) = Long n
held_constant (Constant.Float bits) = Float bits
held_constant (Constant.Double bits) = Double bits

abbrev pub agrees : Bool → Bool → Bool
agrees true b = b
agrees false b = not b

module _ {P : Type 0} where
  -- ---- operands

  -- goes on with what there is, or is Broken
  abbrev pub given : {A : Type 0} → Option A → (A → Effect P) → Effect P
  given None go = Broken
  given (Some x) go = go x

  -- the operands with the value on top, if there is room
  abbrev pub pushed : ℕ → Value P → List (Value P) → Option (List (Value P))
  pushed room v ops = if has_room room (width v) ops then Some (v ∷ ops) else None

  abbrev pub push : ℕ → Value P → List (Value P) → (List (Value P) → Effect P) → Effect P
  push room v ops go = given (pushed room v ops) go

  -- pushes values, of which the first comes topmost
  abbrev pub put : ℕ → List (Value P) → List (Value P) → (List (Value P) → Effect P) → Effect P
  put room [] ops go = go ops
  put room (v ∷ vs) ops go = put room vs ops (λ all. push room v all go)

  -- goes on if the operands have room for a value of the kind
  abbrev pub room_for : ℕ → Kind → List (Value P) → Effect P → Effect P
  room_for room k ops go = if has_room room (kind_width k) ops then go else Broken

  abbrev pub pop : List (Value P) → (Value P → List (Value P) → Effect P) → Effect P
  pop [] go = Broken
  pop (v ∷ ops) go = go v ops

  abbrev pub int_in : Value P → (ℤ → Effect P) → Effect P
  int_in (Plain (Int n)) go = go n
  int_in _ go = Broken

  abbrev pub long_in : Value P → (ℤ → Effect P) → Effect P
  long_in (Plain (Long n)) go = go n
  long_in _ go = Broken

  abbrev pub held_in : Kind → Value P → (Held → Effect P) → Effect P
  held_in k (Plain h) go = if is_held k h then go h else Broken
  held_in k (Token class number) go = Broken
  held_in k (ReturnAddress place) go = Broken

  -- a reference that may be null
  abbrev pub reference_in : Value P → (Option Name → Effect P) → Effect P
  reference_in (Plain Null) go = go None
  reference_in (Plain (values.Reference a)) go = go (Some a)
  reference_in _ go = Broken

  abbrev pub pop_int : List (Value P) → (ℤ → List (Value P) → Effect P) → Effect P
  pop_int ops go = pop ops (λ v rest. int_in v (λ n. go n rest))

  abbrev pub pop_long : List (Value P) → (ℤ → List (Value P) → Effect P) → Effect P
  pop_long ops go = pop ops (λ v rest. long_in v (λ n. go n rest))

  abbrev pub pop_held : Kind → List (Value P) → (Held → List (Value P) → Effect P) → Effect P
  pop_held k ops go = pop ops (λ v rest. held_in k v (λ h. go h rest))

  abbrev pub pop_reference : List (Value P) → (Option Name → List (Value P) → Effect P) → Effect P
  pop_reference ops go = pop ops (λ v rest. reference_in v (λ a. go a rest))

  -- arguments of these types, the last parameter's first
  abbrev pub pop_arguments : List (List ℕ) → List Held → List (Value P) → (List Held → List (Value P) → Effect P) → Effect P
  pop_arguments [] taken ops go = go taken ops
  pop_arguments (type ∷ types) taken ops go = pop_held (kind_in type) ops (λ h rest. pop_arguments types (h ∷ taken) rest go)

  -- so many ints, of which the last is the topmost
  abbrev pub pop_sizes : ℕ → List ℤ → List (Value P) → (List ℤ → List (Value P) → Effect P) → Effect P
  pop_sizes zero taken ops go = go taken ops
  pop_sizes (suc n) taken ops go = pop_int ops (λ x rest. pop_sizes n (x ∷ taken) rest go)

  -- one slot: a wide value isn't split
  abbrev pub pop_narrow : List (Value P) → (Value P → List (Value P) → Effect P) → Effect P
  pop_narrow ops go = pop ops (λ v rest. if is_wide v then Broken else go v rest)

  -- the values in so many slots, the topmost first
  abbrev pub pop_slots : Slots → List (Value P) → (List (Value P) → List (Value P) → Effect P) → Effect P
  pop_slots Zero ops go = go [] ops
  pop_slots One ops go = pop_narrow ops (λ v rest. go (v ∷ []) rest)
  pop_slots Two ops go = pop ops (λ v rest. if is_wide v then go (v ∷ []) rest else pop_narrow rest (λ u under. go (v ∷ u ∷ []) under))

  -- ---- locals

  abbrev pub holds : Option (Local P) → (Value P → Effect P) → Effect P
  holds (Some (Holds v)) go = go v
  holds _ go = Broken

  abbrev pub is_second : Option (Local P) → Bool
  is_second (Some Second) = true
  is_second _ = false

  abbrev pub read_local : ℕ → List (Local P) → (Value P → Effect P) → Effect P
  read_local n ls go = holds (slice_get ls n) (λ v. if is_wide v then (if is_second (slice_get ls (n + 1)) then go v else Broken) else go v)

  abbrev pub with_local : ℕ → Value P → List (Local P) → List (Local P)
  with_local n v ls = if is_wide v then slice_set (slice_set ls n (Holds v)) (n + 1) Second else slice_set ls n (Holds v)

  -- the locals where that one holds the value, if there are enough
  abbrev pub written : ℕ → Value P → List (Local P) → Option (List (Local P))
  written n v ls = if nat_le (n + width v) (length ls) then Some (with_local n v ls) else None

  abbrev pub write_local : ℕ → Value P → List (Local P) → (List (Local P) → Effect P) → Effect P
  write_local n v ls go = given (written n v ls) go

  -- ---- constants, locals and stack moves (JVMS 3.11.2, 3.11.6)

  abbrev pub on : List (Value P) → List (Local P) → Effect P
  on ops ls = On (content ops ls)

  abbrev pub push_on : ℕ → Value P → List (Value P) → List (Local P) → Effect P
  push_on room v ops ls = push room v ops (λ all. on all ls)

  abbrev pub constant : ℕ → Held → List (Value P) → List (Local P) → Effect P
  constant room h ops ls = push_on room (Plain h) ops ls

  abbrev pub load : ℕ → Kind → ℕ → List (Value P) → List (Local P) → Effect P
  load room k n ops ls = read_local n ls (λ v. if loads k v then push_on room v ops ls else Broken)

  abbrev pub store : Kind → ℕ → List (Value P) → List (Local P) → Effect P
  store k n ops ls = pop ops (λ v rest. if stores k v then write_local n v ls (λ set. on rest set) else Broken)

  abbrev pub drop_slots : Slots → List (Value P) → List (Local P) → Effect P
  drop_slots n ops ls = pop_slots n ops (λ vs rest. on rest ls)

  abbrev pub duplicate : ℕ → Slots → Slots → List (Value P) → List (Local P) → Effect P
  duplicate room n under ops ls = pop_slots n ops (λ a rest. pop_slots under rest (λ b rest'. put room a rest' (λ s. put room b s (λ t. put room a t (λ all. on all ls)))))

  abbrev pub exchange : ℕ → List (Value P) → List (Local P) → Effect P
  exchange room ops ls = pop_narrow ops (λ b rest. pop_narrow rest (λ a rest'. push room b rest' (λ s. push_on room a s ls)))

  -- ---- arithmetic (JVMS 3.11.3, 3.11.4)

  abbrev pub int_binary : ℕ → Binary → List (Value P) → List (Local P) → Effect P
  int_binary room op ops ls = pop_int ops (λ y rest. pop_int rest (λ x rest'. push_on room (Plain (Int (binary w32 op x y))) rest' ls))

  abbrev pub long_binary : ℕ → Binary → List (Value P) → List (Local P) → Effect P
  long_binary room op ops ls = pop_long ops (λ y rest. pop_long rest (λ x rest'. push_on room (Plain (Long (binary w64 op x y))) rest' ls))

  abbrev pub unless_zero : ℤ → Effect P → Effect P
  unless_zero y go = if same_int y (pos 0) then Fail Fault.Arithmetic else go

  abbrev pub int_divide : ℕ → Division → List (Value P) → List (Local P) → Effect P
  int_divide room op ops ls = pop_int ops (λ y rest. pop_int rest (λ x rest'. unless_zero y (push_on room (Plain (Int (divide w32 op x y))) rest' ls)))

  abbrev pub long_divide : ℕ → Division → List (Value P) → List (Local P) → Effect P
  long_divide room op ops ls = pop_long ops (λ y rest. pop_long rest (λ x rest'. unless_zero y (push_on room (Plain (Long (divide w64 op x y))) rest' ls)))

  abbrev pub int_negate : ℕ → List (Value P) → List (Local P) → Effect P
  int_negate room ops ls = pop_int ops (λ x rest. push_on room (Plain (Int (int_wrapping_neg w32 x))) rest ls)

  abbrev pub long_negate : ℕ → List (Value P) → List (Local P) → Effect P
  long_negate room ops ls = pop_long ops (λ x rest. push_on room (Plain (Long (int_wrapping_neg w64 x))) rest ls)

  abbrev pub int_shift : ℕ → Shift → List (Value P) → List (Local P) → Effect P
  int_shift room op ops ls = pop_int ops (λ count rest. pop_int rest (λ x rest'. push_on room (Plain (Int (shift w32 op x count))) rest' ls))

  abbrev pub long_shift : ℕ → Shift → List (Value P) → List (Local P) → Effect P
  long_shift room op ops ls = pop_int ops (λ count rest. pop_long rest (λ x rest'. push_on room (Plain (Long (shift w64 op x count))) rest' ls))

  abbrev pub increment : ℕ → ℤ → List (Value P) → List (Local P) → Effect P
  increment n by ops ls = read_local n ls (λ v. int_in v (λ x. write_local n (Plain (Int (int_wrapping_add w32 x by))) ls (λ set. on ops set)))

  abbrev pub convert : ℕ → Conversion → List (Value P) → List (Local P) → Effect P
  convert room IntToLong ops ls = pop_int ops (λ x rest. push_on room (Plain (Long x)) rest ls)
  convert room LongToInt ops ls = pop_long ops (λ x rest. push_on room (Plain (Int (low_signed w64 w32 x))) rest ls)
  convert room IntToByte ops ls = pop_int ops (λ x rest. push_on room (Plain (Int (low_signed w32 w8 x))) rest ls)
  convert room IntToChar ops ls = pop_int ops (λ x rest. push_on room (Plain (Int (low_unsigned w16 x))) rest ls)
  convert room IntToShort ops ls = pop_int ops (λ x rest. push_on room (Plain (Int (low_signed w32 w16 x))) rest ls)

  abbrev pub compare_long : ℕ → List (Value P) → List (Local P) → Effect P
  compare_long room ops ls = pop_long ops (λ y rest. pop_long rest (λ x rest'. push_on room (Plain (Int (compare x y))) rest' ls))

  -- floating-point numbers are moved, but not computed with
  abbrev pub unmodelled : ℕ → ℕ → Kind → Bool → Kind → List (Value P) → Effect P
  unmodelled room op from true to ops = pop_held from ops (λ y rest. pop_held from rest (λ x rest'. room_for room to rest' (Unmodelled op)))
  unmodelled room op from false to ops = pop_held from ops (λ x rest. room_for room to rest (Unmodelled op))

  -- ---- control transfer (JVMS 3.11.7)

  -- to the first target, or on
  abbrev pub branch : Bool → List (Value P) → List (Local P) → Effect P
  branch b ops ls = if b then Jump 0 (content ops ls) else on ops ls

  abbrev pub if_int : Test → List (Value P) → List (Local P) → Effect P
  if_int t ops ls = pop_int ops (λ x rest. branch (passes t x (pos 0)) rest ls)

  abbrev pub if_ints : Test → List (Value P) → List (Local P) → Effect P
  if_ints t ops ls = pop_int ops (λ y rest. pop_int rest (λ x rest'. branch (passes t x y) rest' ls))

  abbrev pub if_references : Bool → List (Value P) → List (Local P) → Effect P
  if_references same ops ls = pop_reference ops (λ b rest. pop_reference rest (λ a rest'. branch (agrees same (same_object a b)) rest' ls))

  abbrev pub if_null : Bool → List (Value P) → List (Local P) → Effect P
  if_null null ops ls = pop_reference ops (λ a rest. branch (agrees null (is_null a)) rest ls)

  -- a return address takes one slot
  abbrev pub enter : ℕ → List (Value P) → List (Local P) → Effect P
  enter room ops ls = if has_room room 1 ops then Enter 0 (content ops ls) else Broken

  abbrev pub address_in : Value P → (P → Effect P) → Effect P
  address_in (ReturnAddress place) go = go place
  address_in _ go = Broken

  abbrev pub go_back : ℕ → List (Value P) → List (Local P) → Effect P
  go_back n ops ls = read_local n ls (λ v. address_in v (λ place. Back place (content ops ls)))

  abbrev pub switch : List ℤ → List (Value P) → List (Local P) → Effect P
  switch keys ops ls = pop_int ops (λ x rest. Jump (key_target keys x 1) (content rest ls))

  -- the kind is the descriptor's
  abbrev pub leave : Option Kind → Option Kind → List (Value P) → Effect P
  leave (Some k) (Some r) ops = pop_held k ops (λ h rest. if same_kind k r then Leave (Some h) else Broken)
  leave None None ops = Leave None
  leave _ _ ops = Broken

  abbrev pub unless_null : Option Name → (Name → Effect P) → Effect P
  unless_null None go = Fail Fault.NullPointer
  unless_null (Some a) go = go a

  abbrev pub throw : List (Value P) → Effect P
  throw ops = pop_reference ops (λ a rest. unless_null a Throw)

  -- ---- fields (JVMS 6, getfield to putstatic)

  abbrev pub access_field : ℕ → Access → Reference → Kind → List (Value P) → List (Local P) → Effect P
  access_field room Access.GetStatic r k ops ls = room_for room k ops (Ask (GetStatic r) (content ops ls))
  access_field room Access.PutStatic r k ops ls = pop_held k ops (λ v rest. Ask (PutStatic r v) (content rest ls))
  access_field room Access.GetField r k ops ls = pop_reference ops (λ a rest. room_for room k rest (Ask (GetField r a) (content rest ls)))
  access_field room Access.PutField r k ops ls = pop_held k ops (λ v rest. pop_reference rest (λ a rest'. Ask (PutField r a v) (content rest' ls)))

  -- ---- methods (JVMS 3.11.8)

  -- a token is a receiver of constructors alone
  abbrev pub received : Bool → Reference → Value P → List Held → Content P → Effect P
  received special r (Plain h) args c = reference_in (Plain h) (λ a. CallOn special r a args c)
  received true r (Token class number) args c = if is_constructor r then Build r class number args c else Broken
  received false r (Token class number) args c = Broken
  received special r (ReturnAddress place) args c = Broken

  abbrev pub invoke_on : Bool → Reference → List (Value P) → List (Local P) → Effect P
  invoke_on special r ops ls = pop_arguments (reverse (parameters_in r.member.descriptor)) [] ops (λ args rest. pop rest (λ v rest'. received special r v args (content rest' ls)))

  abbrev pub invoke : Mode → Reference → List (Value P) → List (Local P) → Effect P
  invoke Mode.Static r ops ls = pop_arguments (reverse (parameters_in r.member.descriptor)) [] ops (λ args rest. CallStatic r args (content rest ls))
  invoke Mode.Special r ops ls = invoke_on true r ops ls
  invoke Mode.Virtual r ops ls = invoke_on false r ops ls
  invoke Mode.Interface r ops ls = invoke_on false r ops ls

  -- ---- objects and arrays (JVMS 3.11.5)

  -- each `new` pushes a token unlike all others in the frame
  abbrev pub announce : ℕ → List ℕ → List (Value P) → List (Local P) → Effect P
  announce room class ops ls = push room (Token class (fresh ops ls)) ops (λ all. Announce class (content all ls))

  abbrev pub new_array : Option (List ℕ) → List ℕ → ℕ → List (Value P) → List (Local P) → Effect P
  new_array named type dims ops ls = pop_sizes dims [] ops (λ sizes rest. Ask (MakeArray named type sizes) (content rest ls))

  abbrev pub array_load : ℕ → Element → List (Value P) → List (Local P) → Effect P
  array_load room e ops ls = pop_int ops (λ i rest. pop_reference rest (λ a rest'. room_for room (element_kind e) rest' (Ask (ArrayLoad e a i) (content rest' ls))))

  abbrev pub array_store : Element → List (Value P) → List (Local P) → Effect P
  array_store e ops ls = pop_held (element_kind e) ops (λ v rest. pop_int rest (λ i rest'. pop_reference rest' (λ a rest''. Ask (ArrayStore e a i v) (content rest'' ls))))

  -- a question about the reference on top
  abbrev pub ask_of : (Option Name → Request) → List (Value P) → List (Local P) → Effect P
  ask_of request ops ls = pop_reference ops (λ a rest. Ask (request a) (content rest ls))

  -- ---- all forms

  abbrev pub basic_effect : Setting → Basic → List (Value P) → List (Local P) → Effect P
  basic_effect s Basic.Nothing ops ls = on ops ls
  basic_effect s (Basic.Constant c) ops ls = constant s.room (held_constant c) ops ls
  basic_effect s (Basic.Load k n) ops ls = load s.room k n ops ls
  basic_effect s (Basic.Store k n) ops ls = store k n ops ls
  basic_effect s (Basic.Pop n) ops ls = drop_slots n ops ls
  basic_effect s (Basic.Duplicate n under) ops ls = duplicate s.room n under ops ls
  basic_effect s Basic.Swap ops ls = exchange s.room ops ls
  basic_effect s (Basic.IntBinary op) ops ls = int_binary s.room op ops ls
  basic_effect s (Basic.LongBinary op) ops ls = long_binary s.room op ops ls
  basic_effect s (Basic.IntDivide op) ops ls = int_divide s.room op ops ls
  basic_effect s (Basic.LongDivide op) ops ls = long_divide s.room op ops ls
  basic_effect s Basic.IntNegate ops ls = int_negate s.room ops ls
  basic_effect s Basic.LongNegate ops ls = long_negate s.room ops ls
  basic_effect s (Basic.IntShift op) ops ls = int_shift s.room op ops ls
  basic_effect s (Basic.LongShift op) ops ls = long_shift s.room op ops ls
  basic_effect s (Basic.Increment n by) ops ls = increment n by ops ls
  basic_effect s (Basic.Convert c) ops ls = convert s.room c ops ls
  basic_effect s Basic.CompareLong ops ls = compare_long s.room ops ls
  basic_effect s (Basic.Unmodelled op from both to) ops ls = unmodelled s.room op from both to ops
  basic_effect s (Basic.IfInt t) ops ls = if_int t ops ls
  basic_effect s (Basic.IfInts t) ops ls = if_ints t ops ls
  basic_effect s (Basic.IfReferences same) ops ls = if_references same ops ls
  basic_effect s (Basic.IfNull null) ops ls = if_null null ops ls
  basic_effect s Basic.Goto ops ls = Jump 0 (content ops ls)
  basic_effect s Basic.Jsr ops ls = enter s.room ops ls
  basic_effect s (Basic.Ret n) ops ls = go_back n ops ls
  basic_effect s (Basic.Return k) ops ls = leave k s.result ops
  basic_effect s Basic.Throw ops ls = throw ops
  basic_effect s (Basic.NewArray e) ops ls = new_array None (91 ∷ primitive e) 1 ops ls
  basic_effect s (Basic.ArrayLoad e) ops ls = array_load s.room e ops ls
  basic_effect s (Basic.ArrayStore e) ops ls = array_store e ops ls
  basic_effect s Basic.ArrayLength ops ls = ask_of ArrayLength ops ls
  basic_effect s Basic.EnterMonitor ops ls = ask_of EnterMonitor ops ls
  basic_effect s Basic.LeaveMonitor ops ls = ask_of LeaveMonitor ops ls

  abbrev pub effect : Setting → Operation → List (Value P) → List (Local P) → Effect P
  effect s (Do basic) ops ls = basic_effect s basic ops ls
  effect s (Switch keys) ops ls = switch keys ops ls
  effect s (Refer a) ops ls = constant s.room (values.Reference a) ops ls
  effect s (ReferClass class) ops ls = room_for s.room Kind.Reference ops (Ask (LoadClass class) (content ops ls))
  effect s (FieldAccess access r) ops ls = access_field s.room access r (kind_in r.member.descriptor) ops ls
  effect s (Invoke mode r) ops ls = invoke mode r ops ls
  effect s (New class) ops ls = announce s.room class ops ls
  effect s (NewReferenceArray class) ops ls = new_array (Some class) (array_of class) 1 ops ls
  effect s (NewArrays type dims) ops ls = if has_dimensions dims type then new_array (Some type) type dims ops ls else Broken
  effect s (CheckCast class) ops ls = ask_of (Cast class) ops ls
  effect s (InstanceOf class) ops ls = ask_of (IsInstance class) ops ls
