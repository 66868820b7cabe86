-- What stands at the running frame's place.
use Rattle.std.specs.Prelude.{◌≡◌, ℕ, ◌<◌, List, [], ◌∷◌, ◌++◌, map, reverse, length, Option, Some, None, option_and_then, refl}
use Rattle.std.specs.Option.{option_map}
use Rattle.std.proofs.Common.{sym, ap, ◌∙◌, subst}
use Rattle.std.proofs.lemmas.Option.{same_Some}
use Rattle.class_file.specs.declared.pool.PoolEntry.{PoolEntry}
use Rattle.class_world.specs.Tables.{Known}
use Rattle.class_machine.specs.ClassFiles.{Place, MethodCode, line_at, method_code, class_code}
use Rattle.class_machine.specs.Machine.{State}
use Rattle.class_machine.specs.Operations.{Operation}
use Rattle.class_machine.specs.Turn.{Frame}
use Rattle.machine_code.specs.declared.method_code.MethodCode as lent
use Rattle.machine_code.specs.declared.operation.Operation as code
use Rattle.machine_code.specs.Operations.{seen}
use Rattle.machine_code.specs.Views.{code_seen}
use Rattle.machine_values.specs.declared.frames.Frame as frames
use Rattle.machine_values.specs.declared.names.Name.{Name}
use Rattle.machine_values.specs.declared.script.Answer.{Answer}
use Rattle.machine_values.specs.declared.state.MachineState.{MachineState}
use Rattle.machine_steps.specs.Programs.{Machine, IsMachine}
use Rattle.machine_steps.specs.Running.{HasRunningCode, seen_by, waiting, frames_are, first_same}
use Rattle.machine_steps.specs.Runs.{Runs}
use Rattle.machine_parts.specs.Lines.{HasLine, IsAt}

standing : (m : Machine) (names : List Name) (xs : List frames.Frame) (f : Frame Place) (below : List (Frame Place)) → map (seen_by m names) xs ≡ f ∷ below → f.place.method ≡ f.method
standing m names [] f below e = absurd cc
standing m names (x ∷ xs) f below e = subst (λ (y : Frame Place). y.place.method ≡ y.method) (first_same (seen_by m names x) f (map (seen_by m names) xs) below e) refl

-- the method has no code
pub no_code : (k : Known) (state : MachineState) → HasRunningCode k state None → HasLine k state None
no_code k state has m left t f below is runs same =
    let here = standing m state.heap.names (reverse state.frames.items) f below (sym runs.frames.frames ∙ same) in
    ap (λ r. option_and_then (line_at f.place.pc) (method_code m.files r)) here ∙ sym (ap (λ (o : Option MethodCode). option_and_then (line_at f.place.pc) o) (has m left t f below is runs same))

module _ (k : Known) (state : MachineState) (rest : List frames.Frame) (g : frames.Frame) (found : lent.MethodCode) (top : state.frames.items ≡ rest ++ g ∷ []) (has : HasRunningCode k state (Some found)) where
  -- what the machine finds there is what the method's code has there
  line_here : (m : Machine) (left : List Answer) (t : State Place) (f : Frame Place) (below : List (Frame Place)) → IsMachine k m → Runs m state left t → t.frames ≡ f ∷ below
      → (class_code m.files).line f.place ≡ line_at g.pc (code_seen found)
  line_here m left t f below is runs same =
      let seen_top : t.frames ≡ seen_by m state.heap.names g ∷ waiting m state.heap.names rest = frames_are m state left t rest g runs top in
      let is_top : seen_by m state.heap.names g ≡ f = first_same _ _ _ _ (sym seen_top ∙ same) in
      subst (λ (y : Frame Place). (class_code m.files).line y.place ≡ line_at g.pc (code_seen found)) is_top
      (sym (ap (λ (o : Option MethodCode). option_and_then (line_at g.pc) o) (has m left t (seen_by m state.heap.names g) (waiting m state.heap.names rest) is runs seen_top)))

  none_there : (x : Option Operation) → None ≡ option_map (λ (o : Operation). Some o) x → x ≡ None
  none_there None e = refl
  none_there (Some o) e = absurd cc

  -- no instruction begins at the place
  pub no_line : None ≡ option_map (λ (o : Operation). Some o) (line_at g.pc (code_seen found)) → HasLine k state None
  no_line none m left t f below is runs same = line_here m left t f below is runs same ∙ none_there (line_at g.pc (code_seen found)) none

  some_there : (pool : List PoolEntry) (form : code.Operation) (bytes : List ℕ) (x : Option Operation) → 0 < length state.frames.items → line_at g.pc (code_seen found) ≡ x
      → Some (seen pool bytes form) ≡ option_map (λ (o : Operation). Some o) x → IsAt k state pool form
  some_there pool form bytes None some is e = absurd cc
  some_there pool form bytes (Some operation) some is e = record {
    some = some;
    bytes = bytes;
    operation = operation;
    is = same_Some (seen pool bytes form) (Some operation) e;
    stands = λ m left t f below machine runs same. line_here m left t f below machine runs same ∙ is;
  }

  -- that instruction does
  pub line_there : (form : code.Operation) → 0 < length state.frames.items
      → Some (seen found.pool.now found.code.now.code form) ≡ option_map (λ (o : Operation). Some o) (line_at g.pc (code_seen found)) → IsAt k state found.pool.now form
  line_there form some e = some_there found.pool.now form found.code.now.code (line_at g.pc (code_seen found)) some refl e
