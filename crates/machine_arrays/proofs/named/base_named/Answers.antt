use Rattle.std.proofs.Common.{◌≡◌, get_or, arith}
use Rattle.machine_arrays.proofs.Descriptors.{class_spelled}
use Rattle.machine_arrays.proofs.named.base_named.Goals as goal

pub returns-in_ok-from_slice-in-76-clause-spelled : goal.returns-in_ok-from_slice-in-76-clause-spelled
returns-in_ok-from_slice-in-76-clause-spelled c =
    let first : get_or c.args.text.now 0 0 ≡ 76 = omega arith in
    (class_spelled c.args.text.now c.in_ok-from_slice-in-76.field-0 (omega (arith, c.in-76.len_at_least)) first c.requires c.in_ok-from_slice-in-76.ensures).0

pub returns-in_ok-from_slice-in-76-clause-plain : goal.returns-in_ok-from_slice-in-76-clause-plain
returns-in_ok-from_slice-in-76-clause-plain c =
    let first : get_or c.args.text.now 0 0 ≡ 76 = omega arith in
    (class_spelled c.args.text.now c.in_ok-from_slice-in-76.field-0 (omega (arith, c.in-76.len_at_least)) first c.requires c.in_ok-from_slice-in-76.ensures).1
