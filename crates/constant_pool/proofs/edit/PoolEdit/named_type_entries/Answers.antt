use Rattle.class_file.specs.declared.pool.PoolEntry.{PoolEntry}
use Rattle.class_file.specs.declared.pool.PoolEntry.TheVariants as entry
use Rattle.std.proofs.Common.{List, sym, subst}
use Rattle.constant_pool.specs.Edit.{Placed, with_entry, with_text, with_named_type, Extends}
use Rattle.constant_pool.specs.Laws.{text_extends, entry_extends, extends-further, extends-itself}
use Rattle.constant_pool.proofs.Steps.{full_error, gives_next, full_next, extends_given, kept_next, kept_error}
use Rattle.constant_pool.proofs.edit.PoolEdit.named_type_entries.Goals as goal

-- the entry behind a name and a descriptor
abbrev last : Placed → Placed → Placed
last n d = with_entry d.0 (entry.NameAndType n.1 d.1)

pub returns-in_err-first-clause-full : goal.returns-in_err-first-clause-full
unfolding with_named_type
returns-in_err-first-clause-full c =
    let n = with_text c.args.self.now c.args.name.now in
    let d = with_text n.0 c.args.descriptor.now in
    full_error n (last n d) c.in_err-first.field-0.0 c.from_residual.result
    (extends-further n.0 d.0 (last n d).0 (text_extends n.0 c.args.descriptor.now) (entry_extends d.0 (entry.NameAndType n.1 d.1)))
    c.in_err-first.ensures.full c.from_residual.ensures.1

pub returns-in_err-second-clause-full : goal.returns-in_err-second-clause-full
unfolding with_named_type
returns-in_err-second-clause-full c =
    let n = with_text c.args.self.now c.args.name.now in
    let d = with_text n.0 c.args.descriptor.now in
    full_error (with_text c.text.new.self c.args.descriptor.now) (last n d) c.in_err-second.field-0.0 c.from_residual-in_err-second.result
    (subst (λ (p : Placed). Extends (with_text p.0 c.args.descriptor.now).0 (last n d).0) (sym c.in_ok-first.ensures.found) (entry_extends d.0 (entry.NameAndType n.1 d.1)))
    c.in_err-second.ensures.full c.from_residual-in_err-second.ensures.1

pub returns-in_err-second-clause-kept : goal.returns-in_err-second-clause-kept
returns-in_err-second-clause-kept c =
    kept_error c.args.self.now c.text.new.self c.text-2.new.self c.from_residual-in_err-second.result
    (extends_given c.args.self.now c.text.new.self c.in_ok-first.first (with_text c.args.self.now c.args.name.now) c.in_ok-first.ensures.found (text_extends c.args.self.now c.args.name.now))
    (subst (λ (p : List PoolEntry). Extends c.text.new.self p) (sym c.in_err-second.ensures.kept) (extends-itself c.text.new.self))

pub returns-clause-found : goal.returns-clause-found
unfolding with_named_type
returns-clause-found c =
    gives_next (with_text c.args.self.now c.args.name.now) (λ n. last n (with_text n.0 c.args.descriptor.now)) c.place.new.self c.place.result c.text.new.self c.in_ok-first.first c.in_ok-first.ensures.found
    (gives_next (with_text c.text.new.self c.args.descriptor.now) (λ d. with_entry d.0 (entry.NameAndType c.in_ok-first.first d.1)) c.place.new.self c.place.result c.text-2.new.self c.in_ok-second.second c.in_ok-second.ensures.found c.place.ensures.found)

pub returns-clause-full : goal.returns-clause-full
unfolding with_named_type
returns-clause-full c =
    full_next (with_text c.args.self.now c.args.name.now) (λ n. last n (with_text n.0 c.args.descriptor.now)) c.place.result c.text.new.self c.in_ok-first.first c.in_ok-first.ensures.found
    (full_next (with_text c.text.new.self c.args.descriptor.now) (λ d. with_entry d.0 (entry.NameAndType c.in_ok-first.first d.1)) c.place.result c.text-2.new.self c.in_ok-second.second c.in_ok-second.ensures.found c.place.ensures.full)

pub returns-clause-kept : goal.returns-clause-kept
returns-clause-kept c =
    kept_next c.args.self.now c.text-2.new.self c.place.new.self c.place.result
    (extends-further c.args.self.now c.text.new.self c.text-2.new.self
    (extends_given c.args.self.now c.text.new.self c.in_ok-first.first (with_text c.args.self.now c.args.name.now) c.in_ok-first.ensures.found (text_extends c.args.self.now c.args.name.now))
    (extends_given c.text.new.self c.text-2.new.self c.in_ok-second.second (with_text c.text.new.self c.args.descriptor.now) c.in_ok-second.ensures.found (text_extends c.text.new.self c.args.descriptor.now)))
    c.place.ensures.kept
