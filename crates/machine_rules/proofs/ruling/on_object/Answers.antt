use Rattle.machine_rules.proofs.RuledWork.{unchanged}
use Rattle.machine_rules.proofs.ruling.on_object.Goals as goal

pub returns-in-IdentityHash-clause-changes : goal.returns-in-IdentityHash-clause-changes
returns-in-IdentityHash-clause-changes c = unchanged c.args.heap.now c.identity_hash.result

pub returns-in-Length-clause-changes : goal.returns-in-Length-clause-changes
returns-in-Length-clause-changes c = unchanged c.args.heap.now c.text_length.result

pub returns-in-TextHash-clause-changes : goal.returns-in-TextHash-clause-changes
returns-in-TextHash-clause-changes c = unchanged c.args.heap.now c.hash_of_text.result

pub returns-in-Itself-clause-changes : goal.returns-in-Itself-clause-changes
returns-in-Itself-clause-changes c = unchanged c.args.heap.now c.itself.result

pub returns-in-Message-clause-changes : goal.returns-in-Message-clause-changes
returns-in-Message-clause-changes c = unchanged c.args.heap.now c.message.result

pub returns-in-Cause-clause-changes : goal.returns-in-Cause-clause-changes
returns-in-Cause-clause-changes c = unchanged c.args.heap.now c.cause.result

pub returns-in-Unbox-clause-changes : goal.returns-in-Unbox-clause-changes
returns-in-Unbox-clause-changes c = unchanged c.args.heap.now c.unbox.result

pub returns-in-BoxHash-clause-changes : goal.returns-in-BoxHash-clause-changes
returns-in-BoxHash-clause-changes c = unchanged c.args.heap.now c.box_hash.result
