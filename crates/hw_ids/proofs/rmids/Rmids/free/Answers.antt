use Rattle.std.proofs.Common.{◌≡◌, ◌<◌, true, length, take, set, subst, sym, arith}
use Rattle.std.proofs.lemmas.Grind.{common_steps}
use Rattle.hw_ids.specs.MonitoringIds.{MonitoringIds, after_free}
use Rattle.hw_ids.specs.Ids.{contains, places}
use Rattle.hw_ids.specs.Uses.{is_taken, use_after}
use Rattle.hw_ids.proofs.FreeRmids.{seen, seen-freed}
use Rattle.hw_ids.proofs.Places.{contains-within}
use Rattle.hw_ids.proofs.rmids.Rmids.free.Goals as goal

pub bounds-self-inside-rmid : goal.bounds-self-inside-rmid
bounds-self-inside-rmid c =
    let taken : contains c.args.rmid (places is_taken 0 (take c.self.inside.count c.self.inside.uses)) ≡ true
    = subst (λ (s : MonitoringIds). contains c.args.rmid s.taken ≡ true) (sym c.self.view_is) c.requires.taken in
    let within : c.args.rmid < length (take c.self.inside.count c.self.inside.uses) = contains-within _ _ _ taken in
    grind (arith, common_steps)

pub returns : goal.returns
returns c =
    let taken : contains c.args.rmid (places is_taken 0 (take c.self.inside.count c.self.inside.uses)) ≡ true
    = subst (λ (s : MonitoringIds). contains c.args.rmid s.taken ≡ true) (sym c.self.view_is) c.requires.taken in
    rw c.use_after.ensures (subst (λ (s : MonitoringIds). seen c.self.inside.count (set c.self.inside.uses c.args.rmid (use_after c.self.inside.threshold c.args.bytes)) c.self.inside.threshold ≡ after_free s c.args.rmid c.args.bytes) c.self.view_is
    (seen-freed c.self.inside.count c.self.inside.uses c.self.inside.threshold c.args.rmid c.args.bytes taken))
