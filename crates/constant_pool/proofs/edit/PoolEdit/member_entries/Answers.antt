use Rattle.class_file.specs.declared.pool.PoolEntry.{PoolEntry}
use Rattle.std.proofs.Common.{sym, subst}
use Rattle.constant_pool.specs.Edit.{Placed, with_entry, with_class, with_named_type, with_member, member_entry, Extends}
use Rattle.constant_pool.specs.Laws.{entry_extends, class_extends, named_type_extends, extends-further}
use Rattle.constant_pool.proofs.Steps.{full_error, gives_next, full_next, extends_given, kept_next, kept_error}
use Rattle.constant_pool.specs.Answers.{Gives, IsFull}
use Rattle.constant_pool.specs.declared.calls.MemberKind.{MemberKind}
use Rattle.constant_pool.proofs.edit.PoolEdit.member_entries.Goals as goal

-- the entry behind a class and a name and type
abbrev last : MemberKind → Placed → Placed → Placed
last kind class member = with_entry member.0 (member_entry kind class.1 member.1)

pub returns-in_err-first-clause-full : goal.returns-in_err-first-clause-full
unfolding with_member
returns-in_err-first-clause-full c =
    let n = with_class c.args.self.now c.args.class.now in
    let m = with_named_type n.0 c.args.name.now c.args.descriptor.now in
    full_error n (last c.args.kind n m) c.in_err-first.field-0.0 c.from_residual.result
    (extends-further n.0 m.0 (last c.args.kind n m).0 (named_type_extends n.0 c.args.name.now c.args.descriptor.now) (entry_extends m.0 (member_entry c.args.kind n.1 m.1)))
    c.in_err-first.ensures.full c.from_residual.ensures.1

pub returns-in_err-second-clause-full : goal.returns-in_err-second-clause-full
unfolding with_member
returns-in_err-second-clause-full c =
    let n = with_class c.args.self.now c.args.class.now in
    let m = with_named_type n.0 c.args.name.now c.args.descriptor.now in
    full_error (with_named_type c.class_entries.new.self c.args.name.now c.args.descriptor.now) (last c.args.kind n m) c.in_err-second.field-0.0 c.from_residual-in_err-second.result
    (subst (λ (p : Placed). Extends (with_named_type p.0 c.args.name.now c.args.descriptor.now).0 (last c.args.kind n m).0) (sym c.in_ok-first.ensures.found) (entry_extends m.0 (member_entry c.args.kind n.1 m.1)))
    c.in_err-second.ensures.full c.from_residual-in_err-second.ensures.1

pub returns-in_err-second-clause-kept : goal.returns-in_err-second-clause-kept
returns-in_err-second-clause-kept c =
    kept_error c.args.self.now c.class_entries.new.self c.named_type_entries.new.self c.from_residual-in_err-second.result
    (extends_given c.args.self.now c.class_entries.new.self c.in_ok-first.first (with_class c.args.self.now c.args.class.now) c.in_ok-first.ensures.found (class_extends c.args.self.now c.args.class.now))
    c.in_err-second.ensures.kept

pub returns-clause-found : goal.returns-clause-found
unfolding with_member
returns-clause-found c =
    gives_next (with_class c.args.self.now c.args.class.now) (λ n. last c.args.kind n (with_named_type n.0 c.args.name.now c.args.descriptor.now)) c.place.new.self c.place.result c.class_entries.new.self c.in_ok-first.first c.in_ok-first.ensures.found
    (gives_next (with_named_type c.class_entries.new.self c.args.name.now c.args.descriptor.now) (λ m. with_entry m.0 (member_entry c.args.kind c.in_ok-first.first m.1)) c.place.new.self c.place.result c.named_type_entries.new.self c.in_ok-second.second c.in_ok-second.ensures.found
    (subst (λ (e : PoolEntry). Gives (with_entry c.named_type_entries.new.self e) c.place.new.self c.place.result) c.entry.ensures c.place.ensures.found))

pub returns-clause-full : goal.returns-clause-full
unfolding with_member
returns-clause-full c =
    full_next (with_class c.args.self.now c.args.class.now) (λ n. last c.args.kind n (with_named_type n.0 c.args.name.now c.args.descriptor.now)) c.place.result c.class_entries.new.self c.in_ok-first.first c.in_ok-first.ensures.found
    (full_next (with_named_type c.class_entries.new.self c.args.name.now c.args.descriptor.now) (λ m. with_entry m.0 (member_entry c.args.kind c.in_ok-first.first m.1)) c.place.result c.named_type_entries.new.self c.in_ok-second.second c.in_ok-second.ensures.found
    (subst (λ (e : PoolEntry). IsFull (with_entry c.named_type_entries.new.self e) c.place.result) c.entry.ensures c.place.ensures.full))

pub returns-clause-kept : goal.returns-clause-kept
returns-clause-kept c =
    kept_next c.args.self.now c.named_type_entries.new.self c.place.new.self c.place.result
    (extends-further c.args.self.now c.class_entries.new.self c.named_type_entries.new.self
    (extends_given c.args.self.now c.class_entries.new.self c.in_ok-first.first (with_class c.args.self.now c.args.class.now) c.in_ok-first.ensures.found (class_extends c.args.self.now c.args.class.now))
    (extends_given c.class_entries.new.self c.named_type_entries.new.self c.in_ok-second.second (with_named_type c.class_entries.new.self c.args.name.now c.args.descriptor.now) c.in_ok-second.ensures.found
    (named_type_extends c.class_entries.new.self c.args.name.now c.args.descriptor.now)))
    c.place.ensures.kept
