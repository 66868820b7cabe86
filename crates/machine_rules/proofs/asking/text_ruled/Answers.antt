use Rattle.std.specs.Prelude.{Some}
use Rattle.std.proofs.lemmas.Result.{IfOk-weaker}
use Rattle.class_machine.specs.LibraryCalls as calls
use Rattle.machine_values.specs.Standing.{name_of}
use Rattle.machine_rules.specs.Finishing.{destination_of}
use Rattle.machine_rules.specs.Works.{setting_of}
use Rattle.machine_rules.proofs.Asked.{itself_done, throwable_done}
use Rattle.machine_rules.proofs.Giving.{done_same}
use Rattle.machine_rules.proofs.Rules.{made_text_by}
use Rattle.machine_rules.proofs.asking.text_ruled.Goals as goal

pub returns-in-Itself-clause-work : goal.returns-in-Itself-clause-work
returns-in-Itself-clause-work c =
    IfOk-weaker c.finish_text.result _ _ (λ work done.
    itself_done c.args.world.now c.args.heap.now c.args.at c.args.rule c.args.to c.finish_text.new.heap work c.in-Itself.is c.requires.at done)
    c.finish_text.ensures.work

pub returns-in-DescribeThrowable-clause-work : goal.returns-in-DescribeThrowable-clause-work
returns-in-DescribeThrowable-clause-work c =
    IfOk-weaker c.ask_message.result _ _ (λ work done.
    throwable_done c.args.world.now c.args.heap.now c.args.at c.args.rule c.args.to c.ask_message.new.heap work c.in-DescribeThrowable.is done)
    c.ask_message.ensures.work

pub returns-in_default : goal.returns-in_default
returns-in_default c =
    let k = c.args.world.now in
    let things = c.args.heap.now in
    record {
      work = IfOk-weaker c.finish_ruled.result _ _ (λ work done m.
          done_same k things (λ s ns w. calls.finish_made (destination_of s ns c.args.to) w (calls.made_text w c.args.rule (name_of s.heads ns c.args.at)))
          (λ s ns w. calls.text_by s.classes w (name_of s.heads ns c.args.at) (destination_of s ns c.args.to) (Some c.args.rule) m) c.finish_ruled.new.heap work
          (λ names others w distinct holds.
          let s = setting_of k names in
          made_text_by s.classes w (name_of k.heads things.names c.args.at) (destination_of s things.names c.args.to) m c.args.rule c.in_default.not-Itself c.in_default.not-DescribeThrowable) done)
          c.finish_ruled.ensures.work;
      names = c.finish_ruled.ensures.names;
      filled = c.finish_ruled.ensures.filled;
      changes = c.finish_ruled.ensures.changes;
      err = c.finish_ruled.ensures.err;
    }
