use Rattle.class_file.specs.declared.pool.PoolEntry.{PoolEntry}
use Rattle.class_file.specs.declared.pool.PoolEntry.TheVariants as entry
use Rattle.std.proofs.Common.{◌≡◌, ℕ, List, ap, sym, ◌∙◌, subst}
use Rattle.aj_names.specs.ModifiedUtf8.{text_spelling}
use Rattle.constant_pool.specs.Edit.{Placed, with_entry, with_text, with_string, Extends}
use Rattle.constant_pool.specs.Laws.{entry_extends}
use Rattle.constant_pool.proofs.Steps.{full_error, gives_next, full_next, extends_given, kept_next}
use Rattle.constant_pool.proofs.edit.PoolEdit.string_entries.Goals as goal

abbrev next : Placed → Placed
next text = with_entry text.0 (entry.String text.1)

-- the text of the units is what is placed first
given : (old new : List PoolEntry) (bytes units : List ℕ) (index : ℕ) → bytes ≡ text_spelling units → (new, index) ≡ with_entry old (entry.Utf8 bytes) → (new, index) ≡ with_text old (text_spelling units)
given old new bytes units index e g = g ∙ ap (with_text old) e

pub returns-in_err-text-clause-full : goal.returns-in_err-text-clause-full
unfolding with_string
returns-in_err-text-clause-full c =
    let first = with_text c.args.self.now (text_spelling c.args.units.now) in
    full_error (with_text c.args.self.now c.in_ok-bytes.bytes.items) (with_string c.args.self.now c.args.units.now) c.in_err-text.field-0.0 c.from_residual-in_err-text.result
    (subst (λ (b : List ℕ). Extends (with_text c.args.self.now b).0 (next first).0) (sym c.in_ok-bytes.ensures) (entry_extends first.0 (entry.String first.1)))
    (rw c.from_vec.ensures at c.in_err-text.ensures.full) c.from_residual-in_err-text.ensures.1

pub returns-clause-found : goal.returns-clause-found
unfolding with_string
returns-clause-found c =
    gives_next (with_text c.args.self.now (text_spelling c.args.units.now)) next c.place-2.new.self c.place-2.result c.place.new.self c.in_ok-text.text
    (given c.args.self.now c.place.new.self c.from_vec.result c.args.units.now c.in_ok-text.text (c.from_vec.ensures ∙ c.in_ok-bytes.ensures) c.in_ok-text.ensures.found) c.place-2.ensures.found

pub returns-clause-full : goal.returns-clause-full
unfolding with_string
returns-clause-full c =
    full_next (with_text c.args.self.now (text_spelling c.args.units.now)) next c.place-2.result c.place.new.self c.in_ok-text.text
    (given c.args.self.now c.place.new.self c.from_vec.result c.args.units.now c.in_ok-text.text (c.from_vec.ensures ∙ c.in_ok-bytes.ensures) c.in_ok-text.ensures.found) c.place-2.ensures.full

pub returns-clause-kept : goal.returns-clause-kept
returns-clause-kept c =
    kept_next c.args.self.now c.place.new.self c.place-2.new.self c.place-2.result
    (extends_given c.args.self.now c.place.new.self c.in_ok-text.text (with_entry c.args.self.now (entry.Utf8 c.from_vec.result)) c.in_ok-text.ensures.found (entry_extends c.args.self.now (entry.Utf8 c.from_vec.result)))
    c.place-2.ensures.kept
