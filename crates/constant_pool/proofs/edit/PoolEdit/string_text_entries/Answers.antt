use Rattle.class_file.specs.declared.pool.PoolEntry.TheVariants as entry
use Rattle.constant_pool.specs.Edit.{Placed, with_entry, with_text, with_string_text}
use Rattle.constant_pool.specs.Laws.{text_extends, entry_extends}
use Rattle.constant_pool.proofs.Steps.{full_error, gives_next, full_next, extends_given, kept_next}
use Rattle.constant_pool.proofs.edit.PoolEdit.string_text_entries.Goals as goal

abbrev next : Placed → Placed
next text = with_entry text.0 (entry.String text.1)

pub returns-in_err-spelled-clause-full : goal.returns-in_err-spelled-clause-full
unfolding with_string_text
returns-in_err-spelled-clause-full c =
    let first = with_text c.args.self.now c.args.text.now in
    full_error first (with_string_text c.args.self.now c.args.text.now) c.in_err-spelled.field-0.0 c.from_residual.result (entry_extends first.0 (entry.String first.1)) c.in_err-spelled.ensures.full c.from_residual.ensures.1

pub returns-clause-found : goal.returns-clause-found
unfolding with_string_text
returns-clause-found c = gives_next (with_text c.args.self.now c.args.text.now) next c.place.new.self c.place.result c.text.new.self c.in_ok-spelled.spelled c.in_ok-spelled.ensures.found c.place.ensures.found

pub returns-clause-full : goal.returns-clause-full
unfolding with_string_text
returns-clause-full c = full_next (with_text c.args.self.now c.args.text.now) next c.place.result c.text.new.self c.in_ok-spelled.spelled c.in_ok-spelled.ensures.found c.place.ensures.full

pub returns-clause-kept : goal.returns-clause-kept
returns-clause-kept c =
    kept_next c.args.self.now c.text.new.self c.place.new.self c.place.result
    (extends_given c.args.self.now c.text.new.self c.in_ok-spelled.spelled (with_text c.args.self.now c.args.text.now) c.in_ok-spelled.ensures.found (text_extends c.args.self.now c.args.text.now))
    c.place.ensures.kept
