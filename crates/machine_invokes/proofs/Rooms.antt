-- Room for the results of methods without frames.
use Rattle.std.specs.Prelude.{◌≡◌, ℕ, ◌&&◌, not, Bool, true, false, nat_le, List, Option, Some, None}
use Rattle.std.specs.Option.{option_map}
use Rattle.std.proofs.Common.{sym, ◌∙◌, ap}
use Rattle.class_file.specs.Pool.{Reference}
use Rattle.class_heads.specs.declared.types.ClassHead.{ClassHead}
use Rattle.class_heads.specs.declared.types.MethodHead.{MethodHead}
use Rattle.class_world.specs.Tables.{Known}
use Rattle.class_machine.specs.declared.kinds.Kind.{Kind}
use Rattle.class_machine.specs.ClassFiles.{class_code, entry_of, method_code}
use Rattle.class_machine.specs.Classes.{Method}
use Rattle.class_machine.specs.Descriptors.{kind_in, result_in}
use Rattle.class_machine.specs.Turn.{is_frameless, room_for_result}
use Rattle.class_machine.specs.Values.{has_room, kind_width}
use Rattle.machine_code.specs.declared.method_code.MethodCode as lent
use Rattle.machine_code.specs.declared.method_code.MethodEntry.{MethodEntry}
use Rattle.machine_code.specs.Views.{code_seen, entry_seen}
use Rattle.machine_values.specs.declared.frames.Frame.{Frame}
use Rattle.machine_values.specs.declared.names.Name.{Name}
use Rattle.machine_values.specs.declared.values.Value.{Value}
use Rattle.machine_values.specs.Stacks.{weight}
use Rattle.machine_frames.specs.Effects.{operands_of}
use Rattle.machine_frames.specs.Naming.{Naming}
use Rattle.machine_steps.specs.Programs.{IsMachine}
use Rattle.machine_steps.specs.Running.{HasCode}
use Rattle.machine_invocations.specs.Methods.{classes_in, declared_as, Sees}
use Rattle.machine_invocations.specs.Standards.{machine_of}
use Rattle.machine_invocations.proofs.Filled.{weight_same}
use Rattle.machine_invocations.proofs.Initialised.{called_so}
use Rattle.machine_invokes.specs.Choosing.{HasRoom, LacksRoom, HasLocals, result_room, seen_as}

module _ (k : Known) (g : Frame) where
  room_by : (fields methods : ℕ → Reference) (names : List Name) (m : Method) (o : Option (List ℕ)) → result_in m.name.member.descriptor ≡ o
      → result_room k g fields methods names m ≡ room_for_result (class_code k.files) (classes_in k) (seen_as k g fields methods names) (seen_as k g fields methods names).content o
  room_by fields methods names m o e = ap (room_for_result (class_code k.files) (classes_in k) (seen_as k g fields methods names) (seen_as k g fields methods names).content) e

  module _ (number place : ℕ) (class : ClassHead) (method : MethodHead) (seen : (m : Method) → Sees k number m → m ≡ declared_as k place class method) where
    pub void_has_room : None ≡ result_in method.name.descriptor → HasRoom k g number true
    void_has_room none fields methods names m sees = room_by fields methods names m None (ap (λ (x : Method). result_in x.name.member.descriptor) (seen m sees) ∙ sym none)

    pub value_has_room : (type : List ℕ) (kind : Kind) (has : Bool) → Some type ≡ result_in method.name.descriptor → kind ≡ kind_in type → ((n : Naming) → has ≡ has_room g.operands.room (kind_width kind) (operands_of n g)) → HasRoom k g number has
    value_has_room type kind has some is room fields methods names m sees =
        let n : Naming = record { heads = k.heads; methods = methods; names = names } in
        room_by fields methods names m (Some type) (ap (λ (x : Method). result_in x.name.member.descriptor) (seen m sees) ∙ sym some)
        ∙ ap (λ (x : Kind). has_room g.operands.room (kind_width x) (operands_of n g)) (sym is) ∙ sym (room n)

  pub frameless_lacks : (number : ℕ) (frameless has : Bool) → frameless ≡ true → ((m : Method) → Sees k number m → frameless ≡ is_frameless m) → HasRoom k g number has → LacksRoom k g number (not has)
  frameless_lacks number frameless has holds is room fields methods names m sees =
      ap (λ (b : Bool). b && not (result_room k g fields methods names m)) (sym (is m sees) ∙ holds) ∙ ap not (room fields methods names m sees)

  pub framed_lacks : (number : ℕ) (frameless : Bool) → frameless ≡ false → ((m : Method) → Sees k number m → frameless ≡ is_frameless m) → LacksRoom k g number false
  framed_lacks number frameless isnt is fields methods names m sees = ap (λ (b : Bool). b && not (result_room k g fields methods names m)) (sym (is m sees) ∙ isnt)

-- ---- locals

module _ (k : Known) (number : ℕ) where
  code_there : (fields methods : ℕ → Reference) (m : Method) (code : Option lent.MethodCode) → IsMachine k (machine_of k fields methods) → Sees k number m → HasCode k number code
      → (class_code k.files).method m.name ≡ option_map (entry_of m.name) (option_map code_seen code)
  code_there fields methods m code is sees has =
      ap (λ n. option_map (entry_of m.name) (method_code k.files n)) (sym (called_so k fields methods number m is sees)) ∙ ap (option_map (entry_of m.name)) (sym (has (machine_of k fields methods) is))

  pub no_locals : (given : List Value) (code : Option lent.MethodCode) → HasCode k number code → code ≡ None → HasLocals k number given None
  no_locals given code has none fields methods m is sees = code_there fields methods m code is sees has ∙ ap (λ o. option_map (entry_of m.name) (option_map code_seen o)) none

  pub some_locals : (given : List Value) (code : lent.MethodCode) (entry : MethodEntry) (fit : Bool) → HasCode k number (Some code) → ((name : Reference) → entry_seen name entry ≡ entry_of name (code_seen code)) → fit ≡ nat_le (weight given) entry.locals
      → HasLocals k number given (Some fit)
  some_locals given code entry fit has seen fits fields methods names m is sees = record {
    entry = entry_seen m.name entry;
    code = code_there fields methods m (Some code) is sees has ∙ ap Some (sym (seen m.name));
    fits = ap (λ n. nat_le n entry.locals) (weight_same k.heads names given) ∙ sym fits;
  }
