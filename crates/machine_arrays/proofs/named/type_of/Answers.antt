use Rattle.std.proofs.Common.{sym, ap, ◌∙◌, arith}
use Rattle.class_file.specs.Text.{dimensions}
use Rattle.machine_arrays.proofs.Descriptors.{parts, dims_behind}
use Rattle.machine_arrays.proofs.named.type_of.Goals as goal

pub base_named-requires : goal.base_named-requires
base_named-requires c = (parts c.args.descriptor.now c.brackets-count.result.0 c.brackets-count.result.1.now c.brackets-count.ensures.parts c.brackets-count.ensures.last c.requires).ended

pub overflow_cast-result : goal.overflow_cast-result
overflow_cast-result c =
    let few = (parts c.args.descriptor.now c.brackets-count.result.0 c.brackets-count.result.1.now c.brackets-count.ensures.parts c.brackets-count.ensures.last c.requires).few in omega arith

pub returns-clause-dims : goal.returns-clause-dims
returns-clause-dims c = sym (ap dimensions c.brackets-count.ensures.parts ∙ dims_behind c.brackets-count.result.0 c.brackets-count.result.1.now c.brackets-count.ensures.last)
