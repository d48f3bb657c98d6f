use Rattle.std.proofs.Common.{◌+◌, refl, ap, ◌∙◌}
use Rattle.std.proofs.lemmas.Result.{IfOk-weaker}
use Rattle.pair_law.proofs.laws.Epochs.{Contains-tasks_of}
use Rattle.pair_text.specs.Values.{epoch_at}
use Rattle.pair_text.specs.declared.op.PairOp.TheVariants as ops
use Rattle.pair_play.proofs.laws.NextOps.{IsFlushAt-taken, IsPlayedSoFar-command, IsUseAt-resolved}
use Rattle.pair_play.proofs.laws.CommandsSoFar.{AreCommandsSoFar-use, epoch-AreCommandsSoFar}
use Rattle.pair_play.proofs.laws.OpKinds.{Fits-read, HasShortName-Fits, is_command-other, op_at-read}
use Rattle.pair_play.proofs.player.Player.step.Goals as goal
use Rattle.pair_play.specs.Playing.{IsOther, IsPlayedSoFar}
use Rattle.pair_play.specs.SoFar.{taken}

pub resolve-tag-requires-clause-task : goal.resolve-tag-requires-clause-task
resolve-tag-requires-clause-task g c =
    let r = c.requires in
    let script = c.args.script.now in
    let u = c.in-Use in
    let fits = Fits-read script c.args.i c.ops.result.now c.index-ops-i.result (ops.Use u.task u.cpu u.line u.code) r.lawful c.ops.ensures c.index-ops-i.is u.is r.next in
    Contains-tasks_of script c.args.self.now.commands.tree.state (epoch_at script c.args.i) u.task r.so_far.commands.state fits.0

pub make_use-requires : goal.make_use-requires
make_use-requires g c =
    let r = c.requires in
    let script = c.args.script.now in
    let u = c.in-Use in
    let is = op_at-read script c.args.i c.ops.result.now c.index-ops-i.result (ops.Use u.task u.cpu u.line u.code) c.ops.ensures c.index-ops-i.is u.is r.next in
    record {
      script = script;
      so_far = r.so_far.caches;
      use_at = IsUseAt-resolved script r.short c.args.i c.args.self.now.commands r.so_far.commands c.resolve-tag.result u.task u.cpu u.line u.code r.lawful is c.resolve-tag.ensures;
    }

pub returns-in-Use : goal.returns-in-Use
returns-in-Use g c =
    let r = c.requires in
    let script = c.args.script.now in
    let after = g.C.Caches.so_far in
    let i = c.args.i in
    let old = c.args.self.now in
    let u = c.in-Use in
    let is = op_at-read script i c.ops.result.now c.index-ops-i.result (ops.Use u.task u.cpu u.line u.code) c.ops.ensures c.index-ops-i.is u.is r.next in
    let use_at = IsUseAt-resolved script r.short i old.commands r.so_far.commands c.resolve-tag.result u.task u.cpu u.line u.code r.lawful is c.resolve-tag.ensures in
    IfOk-weaker c.make_use.result _ (λ _. IsPlayedSoFar after script (i + 1) old.commands c.make_use.new.self)
    (λ _ makes. record { commands = AreCommandsSoFar-use script i old.commands r.so_far.commands (ops.Use u.task u.cpu u.line u.code) is refl; caches = makes script r.so_far.caches use_at }) c.make_use.ensures

pub take-requires-clause-epoch : goal.take-requires-clause-epoch
take-requires-clause-epoch g c =
    let r = c.requires in
    let script = c.args.script.now in
    let is = op_at-read script c.args.i c.ops.result.now c.index-ops-i.result ops.Flush c.ops.ensures c.index-ops-i.is c.in-Flush.is r.next in
    epoch-AreCommandsSoFar script c.args.i c.args.self.now.commands r.so_far.commands ops.Flush r.short is refl

pub flush-requires : goal.flush-requires
flush-requires g c =
    let r = c.requires in
    let script = c.args.script.now in
    let old = c.args.self.now in
    let is = op_at-read script c.args.i c.ops.result.now c.index-ops-i.result ops.Flush c.ops.ensures c.index-ops-i.is c.in-Flush.is r.next in
    record {
      script = script;
      so_far = r.so_far.caches;
      flush_at = IsFlushAt-taken script r.short c.args.i old.commands r.so_far.commands c.epoch.result is (c.epoch.ensures ∙ ap (λ n. n.tree.epoch) c.in_ok-take-in-Flush.ensures.taken);
    }

pub returns-in_ok-take-in-Flush : goal.returns-in_ok-take-in-Flush
returns-in_ok-take-in-Flush g c =
    let r = c.requires in
    let script = c.args.script.now in
    let after = g.C.Caches.so_far in
    let i = c.args.i in
    let old = c.args.self.now in
    let op = c.index-ops-i.result in
    let is = op_at-read script i c.ops.result.now op ops.Flush c.ops.ensures c.index-ops-i.is c.in-Flush.is r.next in
    let flush_at = IsFlushAt-taken script r.short i old.commands r.so_far.commands c.epoch.result is (c.epoch.ensures ∙ ap (λ n. n.tree.epoch) c.in_ok-take-in-Flush.ensures.taken) in
    IfOk-weaker c.flush.result _ (λ _. IsPlayedSoFar after script (i + 1) c.take.new.self c.flush.new.self)
    (λ _ flushes. IsPlayedSoFar-command script r.short i old.commands r.so_far.commands after c.flush.new.self ops.Flush is c.take.new.self refl
    (c.in_ok-take-in-Flush.ensures.taken ∙ ap (taken old.commands) c.in-Flush.is) (flushes script r.so_far.caches flush_at)) c.flush.ensures

pub take-requires-in_default : goal.take-requires-in_default
take-requires-in_default g c =
    let r = c.requires in
    let script = c.args.script.now in
    let op = c.index-ops-i.result in
    let other : IsOther op = record { not_flush = c.in_default.not-Flush; not_use = c.in_default.not-Use } in
    let is = op_at-read script c.args.i c.ops.result.now op op c.ops.ensures c.index-ops-i.is refl r.next in
    let command = is_command-other op other in
    record {
      command = command;
      short = HasShortName-Fits script op (Fits-read script c.args.i c.ops.result.now op op r.lawful c.ops.ensures c.index-ops-i.is refl r.next);
      epoch = epoch-AreCommandsSoFar script c.args.i c.args.self.now.commands r.so_far.commands op r.short is command;
    }

pub returns-in_default : goal.returns-in_default
returns-in_default g c =
    let r = c.requires in
    let script = c.args.script.now in
    let after = g.C.Caches.so_far in
    let i = c.args.i in
    let old = c.args.self.now in
    let op = c.index-ops-i.result in
    let other : IsOther op = record { not_flush = c.in_default.not-Flush; not_use = c.in_default.not-Use } in
    let is = op_at-read script i c.ops.result.now op op c.ops.ensures c.index-ops-i.is refl r.next in
    IfOk-weaker c.take-in_default.result _ (λ _. IsPlayedSoFar after script (i + 1) c.take-in_default.new.self old.caches)
    (λ _ takes. IsPlayedSoFar-command script r.short i old.commands r.so_far.commands after old.caches op is c.take-in_default.new.self (is_command-other op other) takes
    (g.met.C.Caches.goes_on script i op old.caches r.so_far.caches is other)) c.take-in_default.ensures.taken
