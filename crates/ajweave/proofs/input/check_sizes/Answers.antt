use Rattle.std.proofs.Common.{◌<◌, ◌≤◌, length, arith}
use Rattle.ajweave.proofs.Sizes.{small_more, big_at}
use Rattle.ajweave.proofs.input.check_sizes.Goals as goal

pub returns-then-len-gt-MOST_BYTES-clause-stopped : goal.returns-then-len-gt-MOST_BYTES-clause-stopped
returns-then-len-gt-MOST_BYTES-clause-stopped c =
    let more : 16777216 < length c.file-item.result.bytes.items = omega arith in
    big_at c.args.files.now c.loop-file.file-index c.file-item.result c.args.folder.now c.too_big.result c.loop-file-test.true c.file-item.is more c.loop-file.invariant c.too_big.ensures.refused

pub loop-file-preserved : goal.loop-file-preserved
loop-file-preserved c =
    let few : length c.file-item.result.bytes.items ≤ 16777216 = omega arith in
    small_more c.args.files.now c.loop-file.file-index c.file-item.result c.loop-file-test.true c.file-item.is few c.loop-file.invariant
