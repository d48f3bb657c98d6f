use Rattle.std.proofs.Common.{◌≡◌, ℕ, ◌+◌, ◌∷◌, [], ◌++◌, List, filter, take, sym, ap, ◌∙◌, append_assoc}
use Rattle.std.proofs.lemmas.List.Elements.{filter-append}
use Rattle.pair_windows.proofs.CountedWindows.{counted_windows-more}
use Rattle.pair_windows.specs.CdpWindows.{is_used}
use Rattle.pair_windows.specs.Counted.{counted_windows}
use Rattle.pair_windows.specs.declared.cdp_window.CdpWindow.{CdpWindow}
use Rattle.pair_windows.proofs.counted.push_counted.Goals as goal

pub loop-i-preserved : goal.loop-i-preserved
loop-i-preserved c =
    let i : ℕ = c.loop-i.i in
    let domain : ℕ = c.args.domain in
    let from : ℕ = c.args.from in
    let ks = c.args.kept.now in
    let cs = c.args.counts.now in
    let before : List CdpWindow = counted_windows domain from (take i ks) (take i cs) in
    let w : CdpWindow = c.window_of.result in
    let more : counted_windows domain from (take (i + 1) ks) (take (i + 1) cs) ≡ before ++ w ∷ [] =
    counted_windows-more domain from i ks cs _ _ c.loop-i-test.true c.requires.same ∙ ap (λ x. before ++ x ∷ []) (sym c.window_of.ensures) in
    c.in_ok-push_used.ensures
    ∙ (ap (λ (l : List CdpWindow). l ++ filter is_used (w ∷ [])) c.loop-i.invariant
    ∙ (append_assoc c.args.windows.now.items (filter is_used before) (filter is_used (w ∷ []))
    ∙ ap (λ (l : List CdpWindow). c.args.windows.now.items ++ l) (sym (filter-append is_used before (w ∷ [])) ∙ ap (filter is_used) (sym more))))
