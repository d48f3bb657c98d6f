use Rattle.std.proofs.Common.{◌≡◌, ◌≤◌, cond, refl, sym, ap, ◌∙◌, subst, arith}
use Rattle.std.specs.Prelude.{max}
use Rattle.cache_core.proofs.laws.Histories.{floor_of-push}
use Rattle.cache_core.specs.History.{MayHappen, decides, floor_of, sets_floor, uses}
use Rattle.journal_check.proofs.StandingPlaces.{StandsFor-quiet}
use Rattle.journal_check.proofs.replay.Replay.add_raise.Goals as goal

pub returns : goal.returns
returns c =
    let old = c.args.self.now in
    let m = old.slots.shape in
    let es = c.args.before.now in
    let e = c.args.entry in
    let what = c.requires.what in
    let low : floor_of es ≤ e.epoch = subst (MayHappen m es e.epoch) what c.requires.may in
    StandsFor-quiet m es e old (record { slots = old.slots; counts = old.counts; floor = e.epoch }) c.requires.stands (λ s w. ap (decides m s w) what) (λ s w. ap (uses m s w) what) refl refl
    (sym (floor_of-push es e ∙ (ap (λ b. max (floor_of es) (cond b e.epoch 0)) (ap sets_floor what) ∙ (let top : max (floor_of es) e.epoch ≡ e.epoch = omega (arith, low) in top))))
