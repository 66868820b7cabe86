use Rattle.before_weave.proofs.Walks.{put_call}
use Rattle.before_weave.proofs.code.put_call.Goals as goal

pub returns-clause-bytes : goal.returns-clause-bytes
returns-clause-bytes c = put_call c.args.index c.args.woven.now.bytes.items c.push.new.self.items _ c.to_be_bytes.result c.to_be_bytes.ensures c.in_ok-push.ensures.items c.in_ok-extend_from_slice.ensures.items
