use Rattle.constant_pool.specs.Meaning.{reference}
use Rattle.constant_pool.proofs.Steps.{names_field}
use Rattle.constant_pool.proofs.edit.PoolEdit.field_ref.Goals as goal

pub returns-clause-stands : goal.returns-clause-stands
returns-clause-stands c =
    names_field c.member.new.self c.member.result (reference c.args.field.now.class c.args.field.now.name c.args.field.now.descriptor)
    (rw (c.as_slice.ensures, c.as_slice-2.ensures, c.as_slice-3.ensures) at c.member.ensures.stands)
