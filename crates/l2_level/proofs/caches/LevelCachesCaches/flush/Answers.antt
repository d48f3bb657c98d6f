use Rattle.std.proofs.lemmas.Result.{IfOk-weaker}
use Rattle.l2_level.proofs.Steps.{CanFlush-l2, CanFlush-l3, IsLevelsSoFar-flush}
use Rattle.l2_level.proofs.caches.LevelCachesCaches.flush.Goals as goal

pub flush-requires : goal.flush-requires
flush-requires c = CanFlush-l2 c.requires.script c.args.op c.args.self.now.l2 c.args.self.now.l3 c.requires.so_far c.args.epoch c.requires.flush_at

pub flush-requires-2 : goal.flush-requires-2
flush-requires-2 c = CanFlush-l3 c.requires.script c.args.op c.args.self.now.l2 c.args.self.now.l3 c.requires.so_far c.args.epoch c.requires.flush_at

pub returns : goal.returns
returns c =
    IfOk-weaker c.flush-2.result _ _
    (λ _ flushed script so_far flush_at. IsLevelsSoFar-flush script c.args.op c.args.self.now.l2 c.args.self.now.l3 so_far c.args.epoch flush_at c.flush.new.self c.flush-2.new.self
    c.flush.ensures.parameters c.in_ok-flush.ensures.entries c.flush-2.ensures.parameters flushed) c.flush-2.ensures.entries
