use Rattle.std.proofs.Common.{sym, ◌∙◌}
use Rattle.class_file.specs.Pool.{entry_at}
use Rattle.constant_pool.specs.Edit.{with_entry}
use Rattle.constant_pool.specs.Laws.{with_entry-found, with_entry-narrow, with_entry-wide, entry_extends, extends-itself}
use Rattle.constant_pool.specs.Meaning.{entry_found, least_index-entry}
use Rattle.constant_pool.proofs.Steps.{given_read, given_extends}
use Rattle.constant_pool.proofs.edit.PoolEdit.place.Goals as goal

pub returns-in-Some-clause-found : goal.returns-in-Some-clause-found
returns-in-Some-clause-found c = sym (with_entry-found c.args.self.now c.args.entry c.in-Some.index (sym c.find.ensures.least ∙ c.in-Some.is))

pub returns-in-None-clause-found : goal.returns-in-None-clause-found
returns-in-None-clause-found c = rw (with_entry-wide c.args.self.now c.args.entry (sym c.find.ensures.least ∙ c.in-None.is) (sym c.if-takes_two.ensures)) c.append_wide.ensures.found

pub returns-in-None-clause-full : goal.returns-in-None-clause-full
returns-in-None-clause-full c = rw (with_entry-wide c.args.self.now c.args.entry (sym c.find.ensures.least ∙ c.in-None.is) (sym c.if-takes_two.ensures)) c.append_wide.ensures.full

pub returns-in-None-2-clause-found : goal.returns-in-None-2-clause-found
returns-in-None-2-clause-found c = rw (with_entry-narrow c.args.self.now c.args.entry (sym c.find.ensures.least ∙ c.in-None-2.is) (sym c.if-takes_two.ensures)) c.append_narrow.ensures.found

pub returns-in-None-2-clause-full : goal.returns-in-None-2-clause-full
returns-in-None-2-clause-full c = rw (with_entry-narrow c.args.self.now c.args.entry (sym c.find.ensures.least ∙ c.in-None-2.is) (sym c.if-takes_two.ensures)) c.append_narrow.ensures.full

pub returns-in-Some-clause-stands : goal.returns-in-Some-clause-stands
returns-in-Some-clause-stands c = least_index-entry c.args.self.now c.args.entry c.in-Some.index (sym c.find.ensures.least ∙ c.in-Some.is)

pub returns-in-Some-clause-stays : goal.returns-in-Some-clause-stays
returns-in-Some-clause-stays c = extends-itself c.args.self.now

pub returns-in-None-clause-stands : goal.returns-in-None-clause-stands
returns-in-None-clause-stands c =
    given_read entry_at (with_entry c.args.self.now c.args.entry) c.append_wide.new.self c.append_wide.result c.args.entry (returns-in-None-clause-found c) (entry_found c.args.self.now c.args.entry)

pub returns-in-None-clause-stays : goal.returns-in-None-clause-stays
returns-in-None-clause-stays c =
    given_extends c.args.self.now c.append_wide.new.self (with_entry c.args.self.now c.args.entry) c.append_wide.result (returns-in-None-clause-found c) c.append_wide.ensures.kept (entry_extends c.args.self.now c.args.entry)

pub returns-in-None-2-clause-stands : goal.returns-in-None-2-clause-stands
returns-in-None-2-clause-stands c =
    given_read entry_at (with_entry c.args.self.now c.args.entry) c.append_narrow.new.self c.append_narrow.result c.args.entry (returns-in-None-2-clause-found c) (entry_found c.args.self.now c.args.entry)

pub returns-in-None-2-clause-stays : goal.returns-in-None-2-clause-stays
returns-in-None-2-clause-stays c =
    given_extends c.args.self.now c.append_narrow.new.self (with_entry c.args.self.now c.args.entry) c.append_narrow.result (returns-in-None-2-clause-found c) c.append_narrow.ensures.kept (entry_extends c.args.self.now c.args.entry)
