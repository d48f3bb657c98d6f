use Rattle.std.proofs.Common.{◌≡◌, ◌<◌, length, get_or, set, sym, ap, ◌∙◌, subst, arith}
use Rattle.std.specs.Prelude.{IfOk}
use Rattle.std.proofs.lemmas.List.{length-map}
use Rattle.pair_play.proofs.Added.{IfOk-AddsAccessIn}
use Rattle.pair_play.proofs.level.Level.access.Goals as goal
use Rattle.pair_play.specs.Histories.{AddsAccess, AddsAccessIn, LevelValue, RecordedValue, histories_of}

pub returns-clause-entry : goal.returns-clause-entry
returns-clause-entry c =
    let tag = c.args.tag.now in
    let caches = c.self.inside.caches.items in
    let new = c.access.new.self in
    let same : histories_of caches ≡ c.args.self.now.histories = ap (λ (l : LevelValue). l.histories) c.self.view_is in
    let within : tag.domain < length caches = omega (arith, c.requires.domain, ap length same, length-map caches (λ (x : RecordedValue). x.history)) in
    let was : c.index_mut.result.now ≡ get_or caches tag.domain c.index_mut.result.now = c.index_mut.ensures.value ∙ ap (λ k. get_or caches k c.index_mut.result.now) c.from.ensures in
    let adds : IfOk c.access.result (λ hit. AddsAccess c.args.op tag c.args.line hit (get_or caches tag.domain c.index_mut.result.now).history new.history) =
    subst (λ (x : RecordedValue). IfOk c.access.result (λ hit. AddsAccess c.args.op tag c.args.line hit x.history new.history)) was c.access.ensures.entry in
    let made : IfOk c.access.result (λ hit. AddsAccessIn c.args.op tag c.args.line hit (histories_of caches) (histories_of (set caches tag.domain new))) =
    IfOk-AddsAccessIn c.access.result c.args.op tag c.args.line caches c.index_mut.result.now new within adds in
    let placed : IfOk c.access.result (λ hit. AddsAccessIn c.args.op tag c.args.line hit (histories_of caches) (histories_of (set caches c.from.result new))) =
    subst (λ k. IfOk c.access.result (λ hit. AddsAccessIn c.args.op tag c.args.line hit (histories_of caches) (histories_of (set caches k new)))) (sym c.from.ensures) made in
    subst (λ hs. IfOk c.access.result (λ hit. AddsAccessIn c.args.op tag c.args.line hit hs (histories_of (set caches c.from.result new)))) same placed
