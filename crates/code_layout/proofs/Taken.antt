-- What is found is the code taken apart, or its fault.
use Rattle.std.proofs.Common.{◌≡◌, ℕ, List, [], ◌∷◌, Option, Some, None, Result, Ok, Err, length, refl, sym, ap, subst, ◌∙◌}
use Rattle.std.specs.Prelude.{map}
use Rattle.std.specs.List.{filter_map, AllZip}
use Rattle.std.proofs.lemmas.List.{length-map}
use Rattle.opcode_table.specs.declared.insn.Insn.{Insn}
use Rattle.opcode_table.specs.declared.fault.CodeFault.{CodeFault}
use Rattle.class_file.specs.declared.types.CodeAttr.{CodeAttr}
use Rattle.class_file.specs.declared.types.ExceptionEntry.{ExceptionEntry}
use Rattle.class_file.specs.declared.types.CodeAttribute.{CodeAttribute}
use Rattle.class_file.specs.Code.{Placed, instructions, or_else, leads_well, first_failing, first_stray}
use Rattle.code_layout.specs.declared.method_code.Jump.{Jump}
use Rattle.code_layout.specs.declared.method_code.CodeEntry.{CodeEntry}
use Rattle.code_layout.specs.declared.method_code.LineTable.{LineTable}
use Rattle.code_layout.specs.declared.method_code.VariableTable.{VariableTable}
use Rattle.code_layout.specs.declared.method_code.MethodCode.{MethodCode}
use Rattle.code_layout.specs.declared.fault.TakeApartFault.{TakeApartFault}
use Rattle.code_layout.specs.declared.fault.TakeApartFault.TheVariants as faults
use Rattle.code_layout.specs.declared.walk.Step.{Step}
use Rattle.code_layout.specs.Apart.{apart, apart_of, unless_astray, method_code, first_astray, jump_of, entry_of, lines_in, variables_in, Gives}
use Rattle.code_layout.specs.Numbers.{placed_of, AreSteps, FaultIs, IsJump, FirstAstray, FirstStray, entry_by, lines_by, variables_by}
use Rattle.code_layout.proofs.Parts.{jumps_found, first_astray_is, entries_found, first_stray_is, all_lines, all_variables}

module _ (c : CodeAttr) (steps : List Step) (numbers : List (Option ℕ)) (found : AreSteps c.code steps numbers) where
  apart_is : (a b : Option ℕ) → first_failing (leads_well c.code (map placed_of steps)) (map placed_of steps) ≡ a → first_stray c.code (map placed_of steps) c.entries ≡ b
      → apart c ≡ unless_astray (or_else a b) (method_code c (map placed_of steps))
  apart_is a b e f =
      ap (apart_of c) found.insns
      ∙ ap (λ (o : Option ℕ). unless_astray (or_else o (first_stray c.code (map placed_of steps) c.entries)) (method_code c (map placed_of steps))) e
      ∙ ap (λ (o : Option ℕ). unless_astray (or_else a o) (method_code c (map placed_of steps))) f

  pub astray_given : (fault : TakeApartFault) → FaultIs (λ _. ⊥) (FirstAstray c.code numbers steps) fault → Gives {X = MethodCode} (Err fault) (apart c)
  astray_given (faults.Code f) is = absurd is
  astray_given (faults.Target pc) is = apart_is (Some pc) _ (first_astray_is c.code (map placed_of steps) numbers found.table steps pc is) refl
  astray_given faults.Memory is = tt

  pub stray_given : (count : ℕ) (jumps : List (Jump ℕ)) (fault : TakeApartFault) → count ≡ length steps → AllZip (IsJump c.code numbers) steps jumps → FaultIs (λ _. ⊥) (FirstStray numbers count c.entries) fault → Gives {X = MethodCode} (Err fault) (apart c)
  stray_given count jumps (faults.Code f) n well is = absurd is
  stray_given count jumps (faults.Target pc) n well is =
      apart_is None (Some pc) (jumps_found c.code (map placed_of steps) numbers found.table steps jumps well).0
      (first_stray_is c.code (map placed_of steps) numbers found.table count c.entries pc (n ∙ sym (length-map steps placed_of)) is)
  stray_given count jumps faults.Memory n well is = tt

  insns_of : (steps : List Step) → map (λ (s : Step). s.insn) steps ≡ map (λ (p : Placed). p.insn) (map placed_of steps)
  insns_of [] = refl
  insns_of (s ∷ steps) = ap (λ (t : List Insn). s.insn ∷ t) (insns_of steps)

  pub whole_given : (m : MethodCode) (count : ℕ) → count ≡ length steps → m.insns ≡ map (λ (s : Step). s.insn) steps → AllZip (IsJump c.code numbers) steps m.targets
      → AllZip (λ (e : ExceptionEntry) x. entry_by numbers count e ≡ Ok x) c.entries m.entries
      → m.lines ≡ filter_map (λ (a : CodeAttribute). lines_by numbers a.name a.content) c.attributes
      → m.variables ≡ filter_map (λ (a : CodeAttribute). variables_by numbers count a.name a.content) c.attributes
      → m.max_stack ≡ c.max_stack → m.max_locals ≡ c.max_locals → Gives (Ok m) (apart c)
  whole_given m count n insns targets entries lines variables stack locals =
      let all = map placed_of steps in
      let count_is = n ∙ sym (length-map steps placed_of) in
      let jumps = jumps_found c.code all numbers found.table steps m.targets targets in
      let rows = entries_found c.code all numbers found.table count c.entries m.entries count_is entries in
      let whole : method_code c all ≡ m = sym (
      ap (λ (x : List Insn). let w : MethodCode = record m { insns = x } in w) (insns ∙ insns_of steps)
      ∙ ap (λ (x : List (Jump ℕ)). let w : MethodCode = record { insns = map (λ (p : Placed). p.insn) all; targets = x; entries = m.entries; lines = m.lines; variables = m.variables; max_stack = m.max_stack; max_locals = m.max_locals } in w) jumps.1
      ∙ ap (λ (x : List CodeEntry). let w : MethodCode = record { insns = map (λ (p : Placed). p.insn) all; targets = map (jump_of c.code all) all; entries = x; lines = m.lines; variables = m.variables; max_stack = m.max_stack; max_locals = m.max_locals } in w) rows.1
      ∙ ap (λ (x : List LineTable). let w : MethodCode = record { insns = map (λ (p : Placed). p.insn) all; targets = map (jump_of c.code all) all; entries = map (entry_of all) c.entries; lines = x; variables = m.variables; max_stack = m.max_stack; max_locals = m.max_locals } in w) (lines ∙ all_lines c.code all numbers found.table c.attributes)
      ∙ ap (λ (x : List VariableTable). let w : MethodCode = record (method_code c all) { variables = x; max_stack = m.max_stack; max_locals = m.max_locals } in w) (variables ∙ all_variables c.code all numbers found.table count c.attributes count_is)
      ∙ ap (λ (x : ℕ). let w : MethodCode = record (method_code c all) { max_stack = x; max_locals = m.max_locals } in w) stack
      ∙ ap (λ (x : ℕ). let w : MethodCode = record (method_code c all) { max_locals = x } in w) locals) in
      apart_is None None jumps.0 rows.0 ∙ ap (λ (w : MethodCode). let r : Result MethodCode TakeApartFault = Ok w in r) whole

pub astray_at : (c : CodeAttr) (bytes : List ℕ) (steps : List Step) (numbers : List (Option ℕ)) (fault : TakeApartFault) → bytes ≡ c.code → AreSteps c.code steps numbers
    → FaultIs (λ _. ⊥) (FirstAstray bytes numbers steps) fault → Gives {X = MethodCode} (Err fault) (apart c)
astray_at c bytes steps numbers fault is found given =
    let P : List ℕ → Type 0 = λ b. FaultIs (λ _. ⊥) (FirstAstray b numbers steps) fault in astray_given c steps numbers found fault (subst P is given)

pub stray_at : (c : CodeAttr) (bytes : List ℕ) (entries : List ExceptionEntry) (steps : List Step) (numbers : List (Option ℕ)) (count : ℕ) (jumps : List (Jump ℕ)) (fault : TakeApartFault) → bytes ≡ c.code → entries ≡ c.entries → AreSteps c.code steps numbers
    → count ≡ length steps → AllZip (IsJump bytes numbers) steps jumps → FaultIs (λ _. ⊥) (FirstStray numbers count entries) fault → Gives {X = MethodCode} (Err fault) (apart c)
stray_at c bytes entries steps numbers count jumps fault is es found n well given =
    let P : List ℕ → Type 0 = λ b. AllZip (IsJump b numbers) steps jumps in
    let Q : List ExceptionEntry → Type 0 = λ l. FaultIs (λ _. ⊥) (FirstStray numbers count l) fault in
    stray_given c steps numbers found count jumps fault n (subst P is well) (subst Q es given)

pub whole_at : (c : CodeAttr) (bytes : List ℕ) (entries : List ExceptionEntry) (attributes : List CodeAttribute) (steps : List Step) (numbers : List (Option ℕ)) (m : MethodCode) (count : ℕ) (targets : List (Jump ℕ)) (rows : List CodeEntry)
    → bytes ≡ c.code → entries ≡ c.entries → attributes ≡ c.attributes → AreSteps c.code steps numbers
    → count ≡ length steps → m.insns ≡ map (λ (s : Step). s.insn) steps → targets ≡ m.targets → AllZip (IsJump bytes numbers) steps targets
    → rows ≡ m.entries → AllZip (λ (e : ExceptionEntry) x. entry_by numbers count e ≡ Ok x) entries rows
    → m.lines ≡ filter_map (λ (a : CodeAttribute). lines_by numbers a.name a.content) attributes
    → m.variables ≡ filter_map (λ (a : CodeAttribute). variables_by numbers count a.name a.content) attributes
    → m.max_stack ≡ c.max_stack → m.max_locals ≡ c.max_locals → Gives (Ok m) (apart c)
whole_at c bytes entries attributes steps numbers m count targets rows is es as' found n insns ts jumps rs all lines variables stack locals =
    let P : List ℕ → Type 0 = λ b. AllZip (IsJump b numbers) steps targets in
    let P' : List (Jump ℕ) → Type 0 = λ t. AllZip (IsJump c.code numbers) steps t in
    let Q : List ExceptionEntry → Type 0 = λ l. AllZip (λ (e : ExceptionEntry) x. entry_by numbers count e ≡ Ok x) l rows in
    let Q' : List CodeEntry → Type 0 = λ l. AllZip (λ (e : ExceptionEntry) x. entry_by numbers count e ≡ Ok x) c.entries l in
    whole_given c steps numbers found m count n insns (subst P' ts (subst P is jumps)) (subst Q' rs (subst Q es all))
    (lines ∙ ap (filter_map (λ (a : CodeAttribute). lines_by numbers a.name a.content)) as')
    (variables ∙ ap (filter_map (λ (a : CodeAttribute). variables_by numbers count a.name a.content)) as') stack locals
