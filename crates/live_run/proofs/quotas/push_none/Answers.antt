use Rattle.std.proofs.Common.{ℕ, ◌∷◌, [], ◌++◌, List, replicate, append-nil, append_assoc, ap, sym, ◌∙◌}
use Rattle.std.proofs.lemmas.List.{replicate-append-replicate}
use Rattle.live_run.proofs.quotas.push_none.Goals as goal

pub loop-init : goal.loop-init
loop-init c = sym (append-nil c.args.quotas.now.items)

pub loop-preserved : goal.loop-preserved
loop-preserved c =
    let front : List ℕ = c.args.quotas.now.items in
    let n : ℕ = c.loop.counter in
    c.in_ok-push.ensures.items
    ∙ (ap (λ (l : List ℕ). l ++ 0 ∷ []) c.loop.invariant ∙ (append_assoc front (replicate n 0) (0 ∷ []) ∙ ap (λ l. front ++ l) (replicate-append-replicate n 1 0)))
