-- What the table of numbers finds is what the instructions say.
use Rattle.std.proofs.Common.{◌≡◌, ℕ, zero, suc, ◌+◌, ◌<◌, ◌≤◌, Bool, true, false, eqb, cond, ◌&&◌, ◌||◌, List, [], ◌∷◌, ◌++◌, length, get_or, Option, Some, None, Result, Ok, Err, refl, sym, ap, subst, ◌∙◌, arith, inl, inr, ℤ, pos, negsuc, ◌+ℤ◌}
use Rattle.std.specs.Prelude.{map, filter, unsigned_abs}
use Rattle.std.specs.Option.{option_map}
use Rattle.std.specs.List.{list_all, filter_map, cons_option, AllZip, Any}
use Rattle.std.proofs.lemmas.Bool.{cases_Bool, eqb-true, ne_eqb, and_left, and_right, or_right}
use Rattle.opcode_table.specs.declared.fault.CodeFault.{CodeFault}
use Rattle.class_file.specs.declared.types.CodeAttr.{CodeAttr}
use Rattle.class_file.specs.declared.types.ExceptionEntry.{ExceptionEntry}
use Rattle.class_file.specs.declared.types.LineRow.{LineRow}
use Rattle.class_file.specs.declared.types.VariableRow.{VariableRow}
use Rattle.class_file.specs.declared.types.CodeAttribute.{CodeAttribute}
use Rattle.class_file.specs.declared.types.CodeContent.{CodeContent}
use Rattle.class_file.specs.declared.types.CodeContent.TheVariants as content
use Rattle.class_file.specs.Code.{Placed, instructions, offsets, is_start, is_start_at, leads_well, or_else, unless, first_failing, first_stray, stray_in}
use Rattle.code_layout.specs.declared.method_code.Jump.{Jump}
use Rattle.code_layout.specs.declared.method_code.CodeEntry.{CodeEntry}
use Rattle.code_layout.specs.declared.method_code.Line.{Line}
use Rattle.code_layout.specs.declared.method_code.LineTable.{LineTable}
use Rattle.code_layout.specs.declared.method_code.Variable.{Variable}
use Rattle.code_layout.specs.declared.method_code.VariableTable.{VariableTable}
use Rattle.code_layout.specs.declared.method_code.MethodCode.{MethodCode}
use Rattle.code_layout.specs.declared.fault.TakeApartFault.{TakeApartFault}
use Rattle.code_layout.specs.declared.fault.TakeApartFault.TheVariants as faults
use Rattle.code_layout.specs.declared.walk.Step.{Step}
use Rattle.code_layout.specs.Apart.{number_of, target_of, keys_of, jump_of, entry_of, is_bound, keeps_line, line_of, keeps_variable, variable_of, lines_in, variables_in, lines_of, variables_of}
use Rattle.code_layout.specs.Numbers.{placed_of, start_number, start_by, AreNumbers, number_at, IsTarget, IsAstray, IsJump, LeadsAstray, FirstAstray, bound_by, or_target, and_then, entry_by, line_by, variable_from, variable_by, lines_by, variables_by, FirstStray}
use Rattle.code_layout.proofs.Table.{number_of_all}

-- a number where a test holds
abbrev where_it : Bool → ℕ → Option ℕ
where_it b n = cond b (Some n) None

some_where : (b : Bool) (n m : ℕ) → where_it b n ≡ Some m → (b ≡ true) × (m ≡ n)
some_where true n m e = (refl, cc)
some_where false n m e = absurd cc

none_where : (b : Bool) (n : ℕ) → where_it b n ≡ None → b ≡ false
none_where true n e = absurd cc
none_where false n e = refl

or_none : (b : Bool) → (b || false) ≡ b
or_none true = refl
or_none false = refl

all_fails : {X : Type 0} (test : X → Bool) (xs : List X) (k : ℕ) (x : X) → k < length xs → get_or xs k x ≡ x → test x ≡ false → list_all test xs ≡ false
all_fails test [] k x lt at fails = absurd (omega arith)
all_fails test (y ∷ xs) zero x lt at fails = and_left (test y) (list_all test xs) (ap test at ∙ fails)
all_fails test (y ∷ xs) (suc k) x lt at fails = and_right (test y) (list_all test xs) (all_fails test xs k x (omega arith) at fails)

jump_is : (j : Jump ℕ) (keys : List ℤ) (to : List ℕ) → j.keys ≡ keys → j.to ≡ to → j ≡ record { keys = keys; to = to }
jump_is j keys to k t = ap (λ (x : List ℤ). let m : Jump ℕ = record { keys = x; to = j.to } in m) k ∙ ap (λ (y : List ℕ). let m : Jump ℕ = record { keys = keys; to = y } in m) t

filter_cons : {X Y : Type 0} (b : Bool) (y : Y) (x : X) (f : X → Y) (ys : List Y) (xs : List X) → f x ≡ y → ys ≡ map f xs → cons_option (cond b (Some y) None) ys ≡ map f (cond b (x ∷ xs) xs)
filter_cons true y x f ys xs e r = ap (λ t. y ∷ t) r ∙ ap (λ z. z ∷ map f xs) (sym e)
filter_cons false y x f ys xs e r = r

filter_mapped : {X Y : Type 0} (h : X → Option Y) (keep : X → Bool) (f : X → Y) → ((x : X) → h x ≡ cond (keep x) (Some (f x)) None) → (xs : List X) → filter_map h xs ≡ map f (filter keep xs)
filter_mapped h keep f each [] = refl
filter_mapped h keep f each (x ∷ xs) = ap (λ o. cons_option o (filter_map h xs)) (each x) ∙ filter_cons (keep x) (f x) x f (filter_map h xs) (filter keep xs) refl (filter_mapped h keep f each xs)

-- an entry, or the fault at a place that it names
abbrev unless_stray : Option ℕ → CodeEntry → Result CodeEntry TakeApartFault
unless_stray None x = Ok x
unless_stray (Some pc) x = Err (faults.Target pc)

abbrev entry_from : ExceptionEntry → Option ℕ → Option ℕ → Option ℕ → Result CodeEntry TakeApartFault
entry_from e start end handler =
    and_then (or_target start e.start) (λ start. and_then (or_target end e.end) (λ end. and_then (or_target handler e.handler) (λ handler.
    Ok (record { start = start; end = end; handler = handler; catch_type = e.catch_type }))))

module _ (code : List ℕ) (insns : List Placed) (numbers : List (Option ℕ)) (table : AreNumbers insns code numbers) where
  -- ---- jumps

  found_at : (z : ℤ) (n : ℕ) → number_at numbers z ≡ Some n → (is_start_at insns z ≡ true) × (n ≡ number_of insns (unsigned_abs z))
  found_at (pos place) n e = some_where (is_start insns place) (number_of insns place) n (sym (table.each place) ∙ e)
  found_at (negsuc m) n e = absurd cc

  none_at : (z : ℤ) → number_at numbers z ≡ None → is_start_at insns z ≡ false
  none_at (pos place) e = none_where (is_start insns place) (number_of insns place) (sym (table.each place) ∙ e)
  none_at (negsuc m) e = refl

  targets_found : (pc : ℕ) (offs : List ℤ) (to : List ℕ) → AllZip (IsTarget numbers pc) offs to
      → (list_all (λ offset. is_start_at insns (pos pc +ℤ offset)) offs ≡ true) × (to ≡ map (λ offset. number_of insns (unsigned_abs (pos pc +ℤ offset))) offs)
  targets_found pc [] [] all = (refl, refl)
  targets_found pc [] (n ∷ to) all = absurd all
  targets_found pc (o ∷ offs) [] all = absurd all
  targets_found pc (o ∷ offs) (n ∷ to) all =
      let here = found_at (pos pc +ℤ o) n all.0 in
      let rest = targets_found pc offs to all.1 in
      (rw (here.0) rest.0, ap (λ (m : ℕ). m ∷ to) here.1 ∙ ap (λ (t : List ℕ). number_of insns (unsigned_abs (pos pc +ℤ o)) ∷ t) rest.1)

  leads_where_found : (s : Step) (j : Jump ℕ) → IsJump code numbers s j → (leads_well code insns (placed_of s) ≡ true) × (j ≡ jump_of code insns (placed_of s))
  leads_where_found s j is =
      let all = targets_found s.pc (offsets code s.insn) j.to is.to in
      (all.0, jump_is j _ _ is.keys all.1)

  astray_fails : (s : Step) → LeadsAstray code numbers s → leads_well code insns (placed_of s) ≡ false
  astray_fails s (k, o, lt, at, none) = all_fails (λ offset. is_start_at insns (pos s.pc +ℤ offset)) (offsets code s.insn) k o lt at (none_at (pos s.pc +ℤ o) none)

  pub jumps_found : (steps : List Step) (jumps : List (Jump ℕ)) → AllZip (IsJump code numbers) steps jumps
      → (first_failing (leads_well code insns) (map placed_of steps) ≡ None) × (jumps ≡ map (jump_of code insns) (map placed_of steps))
  jumps_found [] [] all = (refl, refl)
  jumps_found [] (j ∷ jumps) all = absurd all
  jumps_found (s ∷ steps) [] all = absurd all
  jumps_found (s ∷ steps) (j ∷ jumps) all =
      let here = leads_where_found s j all.0 in
      let rest = jumps_found steps jumps all.1 in
      (rw (here.0) rest.0, ap (λ (m : Jump ℕ). m ∷ jumps) here.1 ∙ ap (λ (t : List (Jump ℕ)). jump_of code insns (placed_of s) ∷ t) rest.1)

  failing_at : (before : List Step) (s : Step) (behind : List Step) (jumps : List (Jump ℕ)) → AllZip (IsJump code numbers) before jumps → LeadsAstray code numbers s
      → first_failing (leads_well code insns) (map placed_of (before ++ s ∷ behind)) ≡ Some s.pc
  failing_at [] s behind [] all astray = rw (astray_fails s astray) refl
  failing_at [] s behind (j ∷ jumps) all astray = absurd all
  failing_at (q ∷ before) s behind [] all astray = absurd all
  failing_at (q ∷ before) s behind (j ∷ jumps) all astray = rw ((leads_where_found q j all.0).0) (failing_at before s behind jumps all.1 astray)

  pub first_astray_is : (steps : List Step) (pc : ℕ) → FirstAstray code numbers steps pc → first_failing (leads_well code insns) (map placed_of steps) ≡ Some pc
  first_astray_is steps pc f =
      ap (λ (l : List Step). first_failing (leads_well code insns) (map placed_of l)) f.all
      ∙ failing_at f.before f.step f.behind f.jumps f.well f.astray ∙ ap Some (sym f.place)

  -- ---- entries

  bound_is : (count place : ℕ) (b : Bool) → eqb place (length code) ≡ b → count ≡ length insns
      → cond b (Some count) (start_by numbers place) ≡ where_it (is_start insns place || b) (number_of insns place)
  bound_is count place true e is =
      let end = eqb-true place (length code) e in
      let all : number_of insns place ≡ length insns = number_of_all insns (length code) place table.within (omega arith) in
      rw (or_right (is_start insns place) true refl) (ap Some (is ∙ sym all))
  bound_is count place false e is = table.each place ∙ ap (λ (b : Bool). where_it b (number_of insns place)) (sym (or_none (is_start insns place)))

  bound_where : (count place : ℕ) → count ≡ length insns → bound_by numbers count place ≡ where_it (is_bound code insns place) (number_of insns place)
  bound_where count place is =
      ap (λ (n : ℕ). cond (eqb place n) (Some count) (start_by numbers place)) table.rows
      ∙ bound_is count place (eqb place (length code)) refl is

  entry_where : (e : ExceptionEntry) (a b d : Bool) (n m k : ℕ)
      → and_then (or_target (where_it a n) e.start) (λ start. and_then (or_target (where_it b m) e.end) (λ end. and_then (or_target (where_it d k) e.handler) (λ handler.
      let r : Result CodeEntry TakeApartFault = Ok (record { start = start; end = end; handler = handler; catch_type = e.catch_type }) in r)))
      ≡ unless_stray (or_else (unless a e.start) (or_else (unless b e.end) (unless d e.handler))) (record { start = n; end = m; handler = k; catch_type = e.catch_type })
  entry_where e true true true n m k = refl
  entry_where e true true false n m k = refl
  entry_where e true false d n m k = refl
  entry_where e false b d n m k = refl

  entry_is : (count : ℕ) (e : ExceptionEntry) → count ≡ length insns → entry_by numbers count e ≡ unless_stray (stray_in code insns e) (entry_of insns e)
  entry_is count e is =
      let start = table.each e.start in let end = bound_where count e.end is in let handler = table.each e.handler in
      ap (λ (o : Option ℕ). entry_from e o (bound_by numbers count e.end) (start_by numbers e.handler)) start
      ∙ ap (λ (o : Option ℕ). entry_from e (start_number insns e.start) o (start_by numbers e.handler)) end
      ∙ ap (λ (o : Option ℕ). entry_from e (start_number insns e.start) (where_it (is_bound code insns e.end) (number_of insns e.end)) o) handler
      ∙ entry_where e (is_start insns e.start) (is_bound code insns e.end) (is_start insns e.handler) (number_of insns e.start) (number_of insns e.end) (number_of insns e.handler)

  stray_none : (o : Option ℕ) (x y : CodeEntry) → unless_stray o x ≡ Ok y → (o ≡ None) × (y ≡ x)
  stray_none None x y e = (refl, cc)
  stray_none (Some pc) x y e = absurd cc

  stray_some : (o : Option ℕ) (x : CodeEntry) (pc : ℕ) → unless_stray o x ≡ Err (faults.Target pc) → o ≡ Some pc
  stray_some None x pc e = absurd cc
  stray_some (Some pc') x pc e = cc

  pub entries_found : (count : ℕ) (entries : List ExceptionEntry) (found : List CodeEntry) → count ≡ length insns → AllZip (λ (e : ExceptionEntry) x. entry_by numbers count e ≡ Ok x) entries found
      → (first_stray code insns entries ≡ None) × (found ≡ map (entry_of insns) entries)
  entries_found count [] [] is all = (refl, refl)
  entries_found count [] (x ∷ found) is all = absurd all
  entries_found count (e ∷ entries) [] is all = absurd all
  entries_found count (e ∷ entries) (x ∷ found) is all =
      let here = stray_none (stray_in code insns e) (entry_of insns e) x (sym (entry_is count e is) ∙ all.0) in
      let rest = entries_found count entries found is all.1 in
      (ap (λ (o : Option ℕ). or_else o (first_stray code insns entries)) here.0 ∙ rest.0, ap (λ (y : CodeEntry). y ∷ found) here.1 ∙ ap (λ (t : List CodeEntry). entry_of insns e ∷ t) rest.1)

  stray_at : (count : ℕ) (before : List ExceptionEntry) (e : ExceptionEntry) (behind : List ExceptionEntry) (found : List CodeEntry) (place : ℕ) → count ≡ length insns
      → AllZip (λ (e : ExceptionEntry) x. entry_by numbers count e ≡ Ok x) before found → entry_by numbers count e ≡ Err (faults.Target place) → first_stray code insns (before ++ e ∷ behind) ≡ Some place
  stray_at count [] e behind [] place is all stray = ap (λ (o : Option ℕ). or_else o (first_stray code insns behind)) (stray_some (stray_in code insns e) (entry_of insns e) place (sym (entry_is count e is) ∙ stray))
  stray_at count [] e behind (x ∷ found) place is all stray = absurd all
  stray_at count (q ∷ before) e behind [] place is all stray = absurd all
  stray_at count (q ∷ before) e behind (x ∷ found) place is all stray =
      let here = stray_none (stray_in code insns q) (entry_of insns q) x (sym (entry_is count q is) ∙ all.0) in
      ap (λ (o : Option ℕ). or_else o (first_stray code insns (before ++ e ∷ behind))) here.0 ∙ stray_at count before e behind found place is all.1 stray

  pub first_stray_is : (count : ℕ) (entries : List ExceptionEntry) (place : ℕ) → count ≡ length insns → FirstStray numbers count entries place → first_stray code insns entries ≡ Some place
  first_stray_is count entries place is f =
      ap (first_stray code insns) f.all ∙ stray_at count f.before f.entry f.behind f.found place is f.well f.stray

  -- ---- lines and variables

  line_where : (row : LineRow) (b : Bool) (n : ℕ) → option_map (λ (start : ℕ). let line : Line = record { start = start; line = row.line } in line) (where_it b n) ≡ cond b (Some (record { start = n; line = row.line })) None
  line_where row true n = refl
  line_where row false n = refl

  line_is : (row : LineRow) → line_by numbers row ≡ cond (keeps_line insns row) (Some (line_of insns row)) None
  line_is row = ap (option_map (λ (start : ℕ). let line : Line = record { start = start; line = row.line } in line)) (table.each row.start) ∙ line_where row (is_start insns row.start) (number_of insns row.start)

  variable_where : (row : VariableRow) (a b : Bool) (n m : ℕ) → variable_from row (where_it a n) (where_it b m) ≡ cond (a && b) (Some (record { start = n; end = m; name = row.name; descriptor = row.descriptor; index = row.index })) None
  variable_where row true true n m = refl
  variable_where row true false n m = refl
  variable_where row false true n m = refl
  variable_where row false false n m = refl

  variable_is : (count : ℕ) (row : VariableRow) → count ≡ length insns → variable_by numbers count row ≡ cond (keeps_variable code insns row) (Some (variable_of insns row)) None
  variable_is count row is =
      ap (λ (o : Option ℕ). variable_from row o (bound_by numbers count (row.start + row.length))) (table.each row.start)
      ∙ ap (variable_from row (start_number insns row.start)) (bound_where count (row.start + row.length) is)
      ∙ variable_where row (is_start insns row.start) (is_bound code insns (row.start + row.length)) (number_of insns row.start) (number_of insns (row.start + row.length))

  lines_is : (name : ℕ) (a : CodeContent) → lines_by numbers name a ≡ lines_in insns name a
  lines_is name (content.LineNumberTable rows) = ap (λ (r : List Line). let o : Option LineTable = Some (record { name = name; rows = r }) in o) (filter_mapped (line_by numbers) (keeps_line insns) (line_of insns) line_is rows)
  lines_is name (content.LocalVariableTable rows) = refl
  lines_is name (content.LocalVariableTypeTable rows) = refl
  lines_is name (content.Other bytes) = refl

  variables_is : (count name : ℕ) (a : CodeContent) → count ≡ length insns → variables_by numbers count name a ≡ variables_in code insns name a
  variables_is count name (content.LineNumberTable rows) is = refl
  variables_is count name (content.LocalVariableTable rows) is = ap (λ (r : List Variable). let o : Option VariableTable = Some (record { name = name; generic = false; rows = r }) in o) (filter_mapped (variable_by numbers count) (keeps_variable code insns) (variable_of insns) (λ row. variable_is count row is) rows)
  variables_is count name (content.LocalVariableTypeTable rows) is = ap (λ (r : List Variable). let o : Option VariableTable = Some (record { name = name; generic = true; rows = r }) in o) (filter_mapped (variable_by numbers count) (keeps_variable code insns) (variable_of insns) (λ row. variable_is count row is) rows)
  variables_is count name (content.Other bytes) is = refl

  pub all_lines : (attributes : List CodeAttribute) → filter_map (λ (a : CodeAttribute). lines_by numbers a.name a.content) attributes ≡ filter_map (λ (a : CodeAttribute). lines_in insns a.name a.content) attributes
  all_lines [] = refl
  all_lines (a ∷ attributes) = ap (λ (o : Option LineTable). cons_option o (filter_map (λ (a : CodeAttribute). lines_by numbers a.name a.content) attributes)) (lines_is a.name a.content) ∙ ap (cons_option (lines_in insns a.name a.content)) (all_lines attributes)

  pub all_variables : (count : ℕ) (attributes : List CodeAttribute) → count ≡ length insns → filter_map (λ (a : CodeAttribute). variables_by numbers count a.name a.content) attributes ≡ filter_map (λ (a : CodeAttribute). variables_in code insns a.name a.content) attributes
  all_variables count [] is = refl
  all_variables count (a ∷ attributes) is =
      ap (λ (o : Option VariableTable). cons_option o (filter_map (λ (a : CodeAttribute). variables_by numbers count a.name a.content) attributes)) (variables_is count a.name a.content is)
      ∙ ap (cons_option (variables_in code insns a.name a.content)) (all_variables count attributes is)
