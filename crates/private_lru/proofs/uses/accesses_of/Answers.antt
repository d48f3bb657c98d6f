use Rattle.std.proofs.Common.{List, sym, subst}
use Rattle.private_lru.proofs.UseLists.{AreAccesses-none}
use Rattle.private_lru.specs.Uses.{AreAccesses}
use Rattle.private_lru.specs.declared.uses.LineUse.{LineUse}
use Rattle.private_lru.proofs.uses.accesses_of.Goals as goal

pub loop-at-init : goal.loop-at-init
loop-at-init c = subst (λ (us : List LineUse). AreAccesses c.args.entries.now 0 us) (sym c.in_ok-uses.ensures.items) (AreAccesses-none c.args.entries.now)
