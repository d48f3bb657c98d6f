use Rattle.std.proofs.Common.{◌≡◌, ℕ, ◌+◌, ◌∷◌, [], ◌++◌, List, filter, take, sym, ap, ◌∙◌, append_assoc}
use Rattle.std.proofs.lemmas.List.Elements.{filter-append}
use Rattle.pair_windows.proofs.FlushedWindows.{counted_windows-more}
use Rattle.pair_windows.specs.JointCounted.{counted_windows, is_used}
use Rattle.pair_windows.specs.declared.joint_window.JointWindow.{JointWindow}
use Rattle.pair_windows.proofs.joint_counted.push_counted.Goals as goal

pub loop-i-preserved : goal.loop-i-preserved
loop-i-preserved c =
    let i : ℕ = c.loop-i.i in
    let domain : ℕ = c.args.domain in
    let from : ℕ = c.args.from in
    let hs = c.args.groups.now.held.now in
    let cs = c.args.groups.now.l2.now in
    let ds = c.args.groups.now.l3.now in
    let before : List JointWindow = counted_windows domain from (take i hs) (take i cs) (take i ds) in
    let w : JointWindow = c.window_of-window.result in
    let more : counted_windows domain from (take (i + 1) hs) (take (i + 1) cs) (take (i + 1) ds) ≡ before ++ w ∷ [] =
    counted_windows-more domain from i hs cs ds _ _ _ c.loop-i-test.true c.requires.l2 c.requires.l3 ∙ ap (λ x. before ++ x ∷ []) (sym c.window_of-window.ensures) in
    c.in_ok-push_used.ensures
    ∙ (ap (λ (l : List JointWindow). l ++ filter is_used (w ∷ [])) c.loop-i.invariant
    ∙ (append_assoc c.args.windows.now.items (filter is_used before) (filter is_used (w ∷ []))
    ∙ ap (λ (l : List JointWindow). c.args.windows.now.items ++ l) (sym (filter-append is_used before (w ∷ [])) ∙ ap (filter is_used) (sym more))))
