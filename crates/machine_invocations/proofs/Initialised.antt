-- The initialisers of a world's classes, and their frames.
use Rattle.std.specs.Prelude.{◌≡◌, ℕ, zero, suc, ◌+◌, ◌-◌, ◌<◌, ◌≤◌, Bool, true, false, if◌then◌else◌, List, [], ◌∷◌, ◌++◌, map, reverse, replicate, codes, length, slice_index_or, Option, Some, None, refl}
use Rattle.std.proofs.Common.{sym, ap, ◌∙◌, subst, arith}
use Rattle.std.specs.List.{AllByRecursion}
use Rattle.std.specs.Option.{option_map, option_and_then}
use Rattle.std.proofs.lemmas.List.{append-nil, append_assoc, map-append, reverse-append}
use Rattle.std.proofs.lemmas.Option.{same_Some}
use Rattle.aj_names.specs.declared.ids.ClassId.{ClassId}
use Rattle.aj_names.specs.declared.ids.MethodId.{MethodId}
use Rattle.aj_names.specs.declared.types.MemberName.{MemberName}
use Rattle.class_file.specs.Pool.{Reference}
use Rattle.class_heads.specs.Graph.{walk}
use Rattle.class_heads.specs.Hierarchy.{name_at, place_of, superclass_at}
use Rattle.class_heads.specs.Numbers.{number_of, method_counts}
use Rattle.class_heads.specs.Searches as search
use Rattle.class_heads.specs.Searches.{MemberPlace, in_class}
use Rattle.class_world.specs.Tables.{Known}
use Rattle.class_machine.specs.Values as machine
use Rattle.class_machine.specs.Classes.{Method}
use Rattle.class_machine.specs.ClassFiles.{Place, place_in, MethodCode, method_code, entry_of, field_constant, class_code}
use Rattle.class_machine.specs.Declarations as run
use Rattle.class_machine.specs.Turn as turns
use Rattle.class_machine.specs.Turn.{initialiser_at, own_initialiser, initialisers}
use Rattle.machine_code.specs.declared.method_code.MethodCode as lent
use Rattle.machine_code.specs.CodeLaws.{method_seen, method_is, name_is}
use Rattle.machine_code.specs.FirstLaws.{declared_is_first}
use Rattle.machine_code.specs.Programs.{method_name}
use Rattle.machine_code.specs.Views.{code_seen}
use Rattle.machine_values.specs.declared.frames.Frame.{Frame}
use Rattle.machine_values.specs.declared.frames.Purpose.TheVariants as purpose
use Rattle.machine_values.specs.declared.names.Name.{Name}
use Rattle.machine_values.specs.declared.values.Local.{Local}
use Rattle.machine_values.specs.declared.values.Local.TheVariants.{Unset}
use Rattle.machine_values.specs.Stacks.{Stack}
use Rattle.machine_values.specs.States.{machine_frame, local_in, is_known_local, IsFrameWithin}
use Rattle.machine_steps.specs.Programs.{IsMachine}
use Rattle.machine_steps.specs.Runs.{IsMethod}
use Rattle.machine_invocations.specs.Methods.{classes_in, method_in, Sees}
use Rattle.machine_invocations.specs.Selections.{member_named}
use Rattle.machine_invocations.specs.Standards.{machine_of}
use Rattle.machine_invocations.specs.Initialising.{AreBare, HasInitialiser, LacksInitialiser, AreOwn, IsPendingAt, AddsPending, HasBegun, names_upward, ArePending}
use Rattle.machine_invocations.proofs.Upward.{walk_up, walk_top, found_position, none_found}

module _ (k : Known) where
  -- ---- the initialiser of a class

  abbrev clinit_name : MemberName
  clinit_name = member_named (codes "<clinit>") (codes "()V")

  abbrev declared_at : ℕ → Option ℕ → Option Method
  declared_at class position = option_and_then (run.if_static k.heads (length k.files) (field_constant k.files)) (option_and_then (λ p. method_in k (in_class class p)) position)

  initialiser_is : (class : ℕ) → place_of k.heads (name_at k.heads class) ≡ Some class → (classes_in k).initialiser (name_at k.heads class) ≡ declared_at class (search.method_in k.heads clinit_name class)
  initialiser_is class at =
      ap (λ (o : Option ℕ). option_and_then (run.if_static k.heads (length k.files) (field_constant k.files)) (option_and_then (λ place. option_and_then (λ p. method_in k (in_class place p)) (search.method_in k.heads clinit_name place)) o)) at

  abbrev numbered_in : ℕ → ℕ → ℕ
  numbered_in class position = number_of (method_counts k.heads) (in_class class position)

  lacking : (class : ℕ) → (classes_in k).initialiser (name_at k.heads class) ≡ None → LacksInitialiser k class
  lacking class none = ap (own_initialiser (class_code k.files) (classes_in k) (name_at k.heads class)) none

  pub undeclared : (class : ℕ) → place_of k.heads (name_at k.heads class) ≡ Some class → None ≡ option_map (numbered_in class) (search.method_in k.heads clinit_name class) → LacksInitialiser k class
  undeclared class at none =
      lacking class (initialiser_is class at ∙ ap (declared_at class) (none_found (numbered_in class) (search.method_in k.heads clinit_name class) none))

  -- of what the class declares
  pub record IsClinit (class number : ℕ) : Type 0 where
    pub method : Method
    pub sees : Sees k number method
    pub is : (classes_in k).initialiser (name_at k.heads class) ≡ (if method.is_static then Some method else None)

  pub clinit : (class number : ℕ) → place_of k.heads (name_at k.heads class) ≡ Some class → Some number ≡ option_map (numbered_in class) (search.method_in k.heads clinit_name class) → IsClinit class number
  clinit class number at some =
      let found = found_position (numbered_in class) number (search.method_in k.heads clinit_name class) some in
      let first = declared_is_first k.heads clinit_name class found.0 found.1 in
      let seen = method_is k.heads (length k.files) (field_constant k.files) (in_class class found.0) first in
      let m = method_seen k.heads (length k.files) (field_constant k.files) (in_class class found.0) first in
      record {
        method = m;
        sees = record { place = in_class class found.0; first = first; numbered = found.2; seen = seen };
        is = initialiser_is class at ∙ ap (declared_at class) found.1 ∙ ap (option_and_then (run.if_static k.heads (length k.files) (field_constant k.files))) seen;
      }

  pub instance_lacks : (class number : ℕ) (is : IsClinit class number) → is.method.is_static ≡ false → LacksInitialiser k class
  instance_lacks class number is instance = lacking class (is.is ∙ ap (λ (b : Bool). if b then Some is.method else None) instance)

  static_is : (class number : ℕ) (is : IsClinit class number) → is.method.is_static ≡ true → (classes_in k).initialiser (name_at k.heads class) ≡ Some is.method
  static_is class number is static = is.is ∙ ap (λ (b : Bool). if b then Some is.method else None) static

  -- ---- names and code of methods

  pub seen_name : (number : ℕ) (m : Method) (sees : Sees k number m) → method_name k.heads sees.place ≡ m.name
  seen_name number m sees =
      name_is k.heads (length k.files) (field_constant k.files) sees.place sees.first
      ∙ ap (λ (x : Method). x.name) (same_Some (method_seen k.heads (length k.files) (field_constant k.files) sees.place sees.first) m (sym (method_is k.heads (length k.files) (field_constant k.files) sees.place sees.first) ∙ sees.seen))

  pub code_named : (number : ℕ) (m : Method) (sees : Sees k number m) (code : Option MethodCode) → code ≡ method_code k.files (method_name k.heads sees.place) → (class_code k.files).method m.name ≡ option_map (entry_of m.name) code
  code_named number m sees code e = ap (λ r. option_map (entry_of m.name) (method_code k.files r)) (sym (seen_name number m sees)) ∙ ap (option_map (entry_of m.name)) (sym e)

  pub called_so : (fields methods : ℕ → Reference) (number : ℕ) (m : Method) → IsMachine k (machine_of k fields methods) → Sees k number m → methods number ≡ m.name
  called_so fields methods number m is sees = ap methods sees.numbered ∙ is.methods sees.place sees.first ∙ seen_name number m sees

  pub codeless_lacks : (class number : ℕ) (is : IsClinit class number) (code : Option MethodCode) → is.method.is_static ≡ true → code ≡ method_code k.files (method_name k.heads is.sees.place) → code ≡ None → LacksInitialiser k class
  codeless_lacks class number is code static e none =
      ap (own_initialiser (class_code k.files) (classes_in k) (name_at k.heads class)) (static_is class number is static)
      ∙ ap (initialiser_at (class_code k.files) (classes_in k) (name_at k.heads class) is.method.name) (code_named number is.method is.sees code e ∙ ap (option_map (entry_of is.method.name)) none)

  pub has_initialiser : (class number : ℕ) (is : IsClinit class number) (code : lent.MethodCode) → is.method.is_static ≡ true → Some (code_seen code) ≡ method_code k.files (method_name k.heads is.sees.place) → HasInitialiser k class number code
  has_initialiser class number is code static e = record {
    method = is.method;
    sees = is.sees;
    is = static_is class number is static;
    code = code_named number is.method is.sees (Some (code_seen code)) e;
  }

  -- ---- its frame

  locals_unset : (methods : ℕ → Reference) (names : List Name) (number n : ℕ) → map (local_in k.heads methods names number) (replicate n Unset) ≡ replicate n machine.Unset
  locals_unset methods names number zero = refl
  locals_unset methods names number (suc n) = ap (λ ls. machine.Unset ∷ ls) (locals_unset methods names number n)

  known_unset : (count n : ℕ) → AllByRecursion (λ l. is_known_local count l ≡ true) (replicate n Unset)
  known_unset count zero = tt
  known_unset count (suc n) = (refl, known_unset count n)

  abbrev shape : List ℕ → Reference → ℕ → List (machine.Local Place) → turns.Frame Place
  shape class r room locals = record { method = r; place = place_in r 0; content = machine.content [] locals; room = room; monitor = None; constructed = false; purpose = turns.Initialises class }

  abbrev frame_of : MethodId → ClassId → Stack → List Local → Frame
  frame_of method class operands locals = record { method = method; pc = 0; operands = operands; locals = locals; monitor = None; constructed = false; purpose = purpose.Initialises class }

  abbrev empty : ℕ → Stack
  empty room = record { room = room; values = [] }

  pub own_frame : (class : ClassId) (method : MethodId) (code : lent.MethodCode) → HasInitialiser k class.0 method.0 code
      → AreOwn k class.0 (frame_of method class (empty (code_seen code).code.max_stack) (replicate (code_seen code).code.max_locals Unset) ∷ [])
  own_frame class method code has = record {
    same = λ fields methods names is.
        ap (λ r. shape (name_at k.heads class.0) r (code_seen code).code.max_stack (map (local_in k.heads methods names method.0) (replicate (code_seen code).code.max_locals Unset)) ∷ []) (called_so fields methods method.0 has.method is has.sees)
        ∙ ap (λ ls. shape (name_at k.heads class.0) has.method.name (code_seen code).code.max_stack ls ∷ []) (locals_unset methods names method.0 (code_seen code).code.max_locals)
        ∙ sym (ap (own_initialiser (class_code k.files) (classes_in k) (name_at k.heads class.0)) has.is
        ∙ ap (initialiser_at (class_code k.files) (classes_in k) (name_at k.heads class.0) has.method.name) has.code);
    bare = record {
      methods = (record { place = has.sees.place; first = has.sees.first; numbered = has.sees.numbered }, tt);
      within = λ count. (record { operands = tt; locals = known_unset count (code_seen code).code.max_locals; monitor = refl; purpose = refl }, tt);
    };
  }

  stack_is : (s : Stack) (room : ℕ) → s.room ≡ room → s.values ≡ [] → empty room ≡ s
  stack_is s room r v = sym (ap (λ n. record { room = n; values = s.values }) r ∙ ap (λ vs. record { room = room; values = vs }) v)

  pub new_frame : (class : ClassId) (method : MethodId) (code : lent.MethodCode) (operands : Stack) (locals : List Local) → HasInitialiser k class.0 method.0 code
      → operands.room ≡ (code_seen code).code.max_stack → operands.values ≡ [] → locals ≡ replicate (code_seen code).code.max_locals Unset → AreOwn k class.0 (frame_of method class operands locals ∷ [])
  new_frame class method code operands locals has room values same =
      subst (λ s. AreOwn k class.0 (frame_of method class s locals ∷ [])) (stack_is operands (code_seen code).code.max_stack room values)
      (subst (λ ls. AreOwn k class.0 (frame_of method class (empty (code_seen code).code.max_stack) ls ∷ [])) (sym same) (own_frame class method code has))

  pub no_frame : (class : ℕ) → LacksInitialiser k class → AreOwn k class []
  no_frame class lacks = record { same = λ fields methods names is. sym lacks; bare = record { methods = tt; within = λ count. tt } }

  -- ---- those of a class and its superclasses

  pub begun_pends : (begun : List Bool) (class : ℕ) → slice_index_or begun class false ≡ true → IsPendingAt k begun class []
  begun_pends begun class has = record {
    same = λ fields methods names is. sym (ap (λ (b : Bool). if b then [] else own_initialiser (class_code k.files) (classes_in k) (name_at k.heads class) ((classes_in k).initialiser (name_at k.heads class))) has);
    bare = record { methods = tt; within = λ count. tt };
  }

  unbegun : (begun : List Bool) (class : ℕ) → slice_index_or begun class false ≡ false
      → (if slice_index_or begun class false then [] else own_initialiser (class_code k.files) (classes_in k) (name_at k.heads class) ((classes_in k).initialiser (name_at k.heads class)))
      ≡ own_initialiser (class_code k.files) (classes_in k) (name_at k.heads class) ((classes_in k).initialiser (name_at k.heads class))
  unbegun begun class has = ap (λ (b : Bool). if b then [] else own_initialiser (class_code k.files) (classes_in k) (name_at k.heads class) ((classes_in k).initialiser (name_at k.heads class))) has

  pub one_pends : (begun : List Bool) (class : ℕ) (f : Frame) → slice_index_or begun class false ≡ false → AreOwn k class (f ∷ []) → IsPendingAt k begun class (f ∷ [])
  one_pends begun class f has own = record { same = λ fields methods names is. own.same fields methods names is ∙ sym (unbegun begun class has); bare = own.bare }

  pub none_pends : (begun : List Bool) (class : ℕ) → slice_index_or begun class false ≡ false → AreOwn k class [] → IsPendingAt k begun class []
  none_pends begun class has own = record { same = λ fields methods names is. own.same fields methods names is ∙ sym (unbegun begun class has); bare = own.bare }

  abbrev firsts : List (List ℕ) → List (List ℕ) → List (turns.Frame Place)
  firsts others classes = initialisers (class_code k.files) (classes_in k) others classes

  -- what is left of the way upward comes on top
  pub record Pends (begun : List Bool) (start turn at : ℕ) (frames : List Frame) : Type 0 where
    pub within : at < length k.heads
    pub bare : AreBare k frames
    pub same : (fields methods : ℕ → Reference) (names : List Name) (others : List (List ℕ)) → IsMachine k (machine_of k fields methods) → HasBegun k begun others
        → firsts others (map (name_at k.heads) (walk (superclass_at k.heads) (length k.heads - turn) at)) ++ map (machine_frame k.heads methods names) (reverse frames) ≡ firsts others (names_upward k start)

  pub pends_first : (begun : List Bool) (start : ℕ) → start < length k.heads → Pends begun start 0 start []
  pends_first begun start h = record {
    within = h;
    bare = record { methods = tt; within = λ count. tt };
    same = λ fields methods names others is has.
        append-nil (firsts others (map (name_at k.heads) (walk (superclass_at k.heads) (length k.heads - 0) start)))
        ∙ ap (λ n. firsts others (map (name_at k.heads) (walk (superclass_at k.heads) n start))) (let e : length k.heads - 0 ≡ length k.heads = omega arith in e);
  }

  all_append : {X : Type 0} (P : X → Type 0) (xs ys : List X) → AllByRecursion P xs → AllByRecursion P ys → AllByRecursion P (xs ++ ys)
  all_append P [] ys h g = g
  all_append P (x ∷ xs) ys h g = (h.0, all_append P xs ys h.1 g)

  bare_append : (xs ys : List Frame) → AreBare k xs → AreBare k ys → AreBare k (xs ++ ys)
  bare_append xs ys h g = record { methods = all_append (λ (f : Frame). IsMethod k f.method.0) xs ys h.methods g.methods; within = λ count. all_append (IsFrameWithin count) xs ys (h.within count) (g.within count) }

  module _ (begun : List Bool) (start turn at : ℕ) (old new : List Frame) (pends : Pends begun start turn at old) (adds : AddsPending k begun at old new) (more : turn < length k.heads) where
    bare_new : AreBare k new
    bare_new = subst (AreBare k) (sym adds.added) (bare_append old adds.own pends.bare adds.pending.bare)

    -- the next ones on top of the class's own and of those before
    step_up : (fields methods : ℕ → Reference) (names : List Name) (others above : List (List ℕ)) → IsMachine k (machine_of k fields methods) → HasBegun k begun others
        → firsts others (name_at k.heads at ∷ above) ++ map (machine_frame k.heads methods names) (reverse old) ≡ firsts others above ++ map (machine_frame k.heads methods names) (reverse new)
    step_up fields methods names others above is has =
        let mf = machine_frame k.heads methods names in
        let own = own_initialiser (class_code k.files) (classes_in k) (name_at k.heads at) ((classes_in k).initialiser (name_at k.heads at)) in
        ap (λ (b : Bool). (firsts others above ++ (if b then [] else own)) ++ map mf (reverse old)) (has at pends.within)
        ∙ ap (λ fs. (firsts others above ++ fs) ++ map mf (reverse old)) (sym (adds.pending.same fields methods names is))
        ∙ append_assoc (firsts others above) (map mf (reverse adds.own)) (map mf (reverse old))
        ∙ ap (λ fs. firsts others above ++ fs) (sym (map-append mf (reverse adds.own) (reverse old)) ∙ ap (map mf) (sym (reverse-append old adds.own)))
        ∙ ap (λ fs. firsts others above ++ map mf (reverse fs)) (sym adds.added)

    before : (fields methods : ℕ → Reference) (names : List Name) (others : List (List ℕ)) → IsMachine k (machine_of k fields methods) → HasBegun k begun others
        → firsts others (map (name_at k.heads) (walk (superclass_at k.heads) (suc (length k.heads - (turn + 1))) at)) ++ map (machine_frame k.heads methods names) (reverse old) ≡ firsts others (names_upward k start)
    before fields methods names others is has =
        subst (λ n. firsts others (map (name_at k.heads) (walk (superclass_at k.heads) n at)) ++ map (machine_frame k.heads methods names) (reverse old) ≡ firsts others (names_upward k start))
        (let e : length k.heads - turn ≡ suc (length k.heads - (turn + 1)) = omega arith in e) (pends.same fields methods names others is has)

    pub pends_next : (next : ℕ) → next < length k.heads → next ∷ [] ≡ superclass_at k.heads at → Pends begun start (turn + 1) next new
    pends_next next within up = record {
      within = within;
      bare = bare_new;
      same = λ fields methods names others is has.
          let left = length k.heads - (turn + 1) in
          sym (step_up fields methods names others (map (name_at k.heads) (walk (superclass_at k.heads) left next)) is has)
          ∙ ap (λ places. firsts others (map (name_at k.heads) places) ++ map (machine_frame k.heads methods names) (reverse old)) (sym (walk_up (superclass_at k.heads) left at next up))
          ∙ before fields methods names others is has;
    }

    pub pends_top : [] ≡ superclass_at k.heads at → ArePending k begun start new
    pends_top up = record {
      same = λ fields methods names others is has.
          let left = length k.heads - (turn + 1) in
          sym (step_up fields methods names others [] is has)
          ∙ ap (λ places. firsts others (map (name_at k.heads) places) ++ map (machine_frame k.heads methods names) (reverse old)) (sym (walk_top (superclass_at k.heads) left at up))
          ∙ before fields methods names others is has;
      bare = bare_new;
    }

  pub pends_end : (begun : List Bool) (start turn at : ℕ) (frames : List Frame) → Pends begun start turn at frames → length k.heads ≤ turn → ArePending k begun start frames
  pends_end begun start turn at frames pends h = record {
    same = λ fields methods names others is has.
        subst (λ n. firsts others (map (name_at k.heads) (walk (superclass_at k.heads) n at)) ++ map (machine_frame k.heads methods names) (reverse frames) ≡ firsts others (names_upward k start))
        (let e : length k.heads - turn ≡ 0 = omega arith in e) (pends.same fields methods names others is has);
    bare = pends.bare;
  }
