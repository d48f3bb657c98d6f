use Rattle.std.proofs.lemmas.Result.{IfOk-weaker}
use Rattle.cdp_masks.proofs.Steps.{CanFlush-cdp, IsCdpSoFar-flush}
use Rattle.cdp_masks.proofs.caches.CdpCachesCaches.flush.Goals as goal

pub flush-requires : goal.flush-requires
flush-requires c = CanFlush-cdp c.requires.script c.args.op c.args.self.now.level c.requires.so_far c.args.epoch c.requires.flush_at

pub returns : goal.returns
returns c =
    IfOk-weaker c.flush.result _ _
    (λ _ flushed script so_far flush_at. IsCdpSoFar-flush script c.args.op c.args.self.now.level so_far c.args.epoch flush_at c.flush.new.self c.flush.ensures.parameters flushed) c.flush.ensures.entries
