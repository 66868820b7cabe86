use Rattle.std.proofs.Common.{◌<◌, length, refl, sym, ◌∙◌, arith}
use Rattle.std.proofs.lemmas.List.{take_all}
use Rattle.machine_requests.proofs.Cut.{one_less, same_begin}
use Rattle.machine_requests.proofs.monitors.cut.Goals as goal

pub loop-extra-init : goal.loop-extra-init
loop-extra-init c = record { size = refl; begin = refl }

pub loop-extra-preserved : goal.loop-extra-preserved
loop-extra-preserved c =
    let more : c.args.count < length c.loop-extra.monitors = omega (arith, c.loop-extra.invariant.size, c.loop-extra-test.true) in
    record {
      size = omega (arith, c.loop-extra.invariant.size, one_less c.pop-count.result c.loop-extra.monitors c.pop-count.new.self c.args.count more c.pop-count.ensures);
      begin = same_begin c.pop-count.result c.loop-extra.monitors c.pop-count.new.self c.args.count more c.pop-count.ensures ∙ c.loop-extra.invariant.begin;
    }

pub returns : goal.returns
returns c = sym (take_all c.args.count c.loop-extra.monitors (omega (arith, c.loop-extra.invariant.size))) ∙ c.loop-extra.invariant.begin
