use Rattle.std.proofs.Common.{◌≡◌, ◌∙◌, ap, sym, subst, length, List, ℕ, Bool}
use Rattle.std.specs.List.{AllByRecursion}
use Rattle.code_layout.specs.declared.method_code.LineTable.{LineTable}
use Rattle.code_layout.specs.declared.method_code.VariableTable.{VariableTable}
use Rattle.code_layout.specs.declared.method_code.CodeEntry.{CodeEntry}
use Rattle.code_layout.specs.declared.row.Row.{Row}
use Rattle.code_layout.specs.Blocks.{IsLine, IsVariable}
use Rattle.code_layout.specs.Laid.{entries_of, attributes_of}
use Rattle.code_layout.specs.Spelled.{AreRows, ArePlaces, bytes_of, place_in}
use Rattle.code_layout.proofs.Layable.{are_rows}
use Rattle.code_layout.proofs.Whole.{small_places, is_laid_out, entries_length}
use Rattle.code_layout.proofs.layout.laid.Goals as goal

pub laid_bytes-requires-clause-are : goal.laid_bytes-requires-clause-are
laid_bytes-requires-clause-are c = subst AreRows (sym c.requires.rows) (are_rows c.args.blocks.now c.requires.layable.each)

pub laid_entries-requires-clause-places : goal.laid_entries-requires-clause-places
laid_entries-requires-clause-places c =
    rw c.as_slice-places.ensures.value (small_places c.args.blocks.now c.args.old.now c.args.all.now c.args.layout.now.wide.items c.args.layout.now.places.items c.requires.rows c.requires.layable c.requires.widened c.requires.places c.requires.fits)

pub laid_attributes-requires-clause-places : goal.laid_attributes-requires-clause-places
laid_attributes-requires-clause-places c =
    rw c.as_slice-places.ensures.value (small_places c.args.blocks.now c.args.old.now c.args.all.now c.args.layout.now.wide.items c.args.layout.now.places.items c.requires.rows c.requires.layable c.requires.widened c.requires.places c.requires.fits)

pub laid_attributes-requires-clause-lines : goal.laid_attributes-requires-clause-lines
laid_attributes-requires-clause-lines c =
    subst (λ (l : List LineTable). AllByRecursion (λ (t : LineTable). AllByRecursion (IsLine (length c.args.blocks.now)) t.rows) l) (sym c.as_slice-lines.ensures) c.requires.layable.lines

pub laid_attributes-requires-clause-variables : goal.laid_attributes-requires-clause-variables
laid_attributes-requires-clause-variables c =
    subst (λ (l : List VariableTable). AllByRecursion (λ (t : VariableTable). AllByRecursion (IsVariable (length c.args.blocks.now)) t.rows) l) (sym c.as_slice-variables.ensures) c.requires.layable.variables

pub returns-clause-laid : goal.returns-clause-laid
returns-clause-laid c =
    let wide = c.args.layout.now.wide.items in
    let places = c.args.layout.now.places.items in
    is_laid_out c.args.blocks.now c.args.old.now c.args.all.now wide places c.requires.rows c.requires.layable c.requires.widened c.requires.places c.requires.fits _ c.requires.keys
    (c.from_vec.ensures ∙ c.in_ok-code.ensures ∙ ap (λ (l : List Bool). bytes_of c.args.all.now l) c.as_slice.ensures.value)
    (c.from_vec-2.ensures ∙ c.in_ok-entries.ensures ∙ ap (λ (l : List ℕ). entries_of (place_in l) c.args.blocks.now c.as_slice-2.result.now) c.as_slice-places.ensures.value ∙ ap (λ (l : List CodeEntry). entries_of (place_in places) c.args.blocks.now l) c.as_slice-2.ensures)
    (c.from_vec-3.ensures ∙ c.in_ok-attributes.ensures ∙ ap (λ (l : List ℕ). attributes_of (place_in l) c.args.blocks.now c.as_slice-lines.result.now c.as_slice-variables.result.now) c.as_slice-places.ensures.value
    ∙ ap (λ (l : List LineTable). attributes_of (place_in places) c.args.blocks.now l c.as_slice-variables.result.now) c.as_slice-lines.ensures
    ∙ ap (λ (l : List VariableTable). attributes_of (place_in places) c.args.blocks.now c.args.old.now.lines l) c.as_slice-variables.ensures)
    c.greatest_stack.ensures c.greatest_locals.ensures c.requires.few

pub returns-clause-few : goal.returns-clause-few
returns-clause-few c =
    entries_length c.args.blocks.now c.args.old.now c.args.all.now c.args.layout.now.wide.items c.args.layout.now.places.items c.requires.rows c.requires.layable c.requires.widened c.requires.places c.requires.fits
    (record { max_stack = c.greatest_stack.result; max_locals = c.greatest_locals.result; code = c.from_vec.result; entries = c.from_vec-2.result; attributes = c.from_vec-3.result }) c.requires.keys
    (c.from_vec.ensures ∙ c.in_ok-code.ensures ∙ ap (λ (l : List Bool). bytes_of c.args.all.now l) c.as_slice.ensures.value)
    (c.from_vec-2.ensures ∙ c.in_ok-entries.ensures ∙ ap (λ (l : List ℕ). entries_of (place_in l) c.args.blocks.now c.as_slice-2.result.now) c.as_slice-places.ensures.value ∙ ap (λ (l : List CodeEntry). entries_of (place_in c.args.layout.now.places.items) c.args.blocks.now l) c.as_slice-2.ensures)
