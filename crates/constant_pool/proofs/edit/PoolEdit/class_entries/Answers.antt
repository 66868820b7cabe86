use Rattle.class_file.specs.declared.pool.PoolEntry.TheVariants as entry
use Rattle.constant_pool.specs.Edit.{Placed, with_entry, with_text, with_class}
use Rattle.constant_pool.specs.Laws.{text_extends, entry_extends}
use Rattle.constant_pool.proofs.Steps.{full_error, gives_next, full_next, extends_given, kept_next}
use Rattle.constant_pool.proofs.edit.PoolEdit.class_entries.Goals as goal

abbrev next : Placed → Placed
next text = with_entry text.0 (entry.Class text.1)

pub returns-in_err-text-clause-full : goal.returns-in_err-text-clause-full
unfolding with_class
returns-in_err-text-clause-full c =
    let first = with_text c.args.self.now c.args.name.now in
    full_error first (with_class c.args.self.now c.args.name.now) c.in_err-text.field-0.0 c.from_residual.result (entry_extends first.0 (entry.Class first.1)) c.in_err-text.ensures.full c.from_residual.ensures.1

pub returns-clause-found : goal.returns-clause-found
unfolding with_class
returns-clause-found c = gives_next (with_text c.args.self.now c.args.name.now) next c.place.new.self c.place.result c.text.new.self c.in_ok-text.text c.in_ok-text.ensures.found c.place.ensures.found

pub returns-clause-full : goal.returns-clause-full
unfolding with_class
returns-clause-full c = full_next (with_text c.args.self.now c.args.name.now) next c.place.result c.text.new.self c.in_ok-text.text c.in_ok-text.ensures.found c.place.ensures.full

pub returns-clause-kept : goal.returns-clause-kept
returns-clause-kept c =
    kept_next c.args.self.now c.text.new.self c.place.new.self c.place.result
    (extends_given c.args.self.now c.text.new.self c.in_ok-text.text (with_text c.args.self.now c.args.name.now) c.in_ok-text.ensures.found (text_extends c.args.self.now c.args.name.now))
    c.place.ensures.kept
