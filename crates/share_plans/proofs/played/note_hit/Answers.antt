use Rattle.std.proofs.Common.{◌≡◌, ℕ, ◌+◌, ◌++◌, [], ◌∷◌, Bool, true, false, ltb, sym, ap, ◌∙◌, arith}
use Rattle.std.proofs.lemmas.Bool.{le-ltb, lt-ltb}
use Rattle.lists.specs.Sums.{one_if}
use Rattle.way_curve.specs.Curves.{is_set_hit, set_hits_of}
use Rattle.share_plans.proofs.Plays.{set_hits_after-push}
use Rattle.share_plans.proofs.played.note_hit.Goals as goal

-- one more after a hit, and as many after a miss
is-more : (before after : ℕ) (hit : Bool) → after ≡ before + one_if hit → ltb before after ≡ hit
is-more before after true is = lt-ltb before after (omega (arith, is))
is-more before after false is = le-ltb before after (omega (arith, is))

pub returns-clause-hit : goal.returns-clause-hit
returns-clause-hit c = λ lines is.
    let sets = c.args.curve.now.sets in
    let ways = c.args.ways in
    let line = c.args.line in
    let before : c.hits-before.result ≡ set_hits_of sets ways lines = c.hits-before.ensures.hits lines is in
    let after : c.hits.result ≡ set_hits_of sets ways (lines ++ line ∷ []) =
    c.hits.ensures.hits (lines ++ line ∷ []) (c.note.ensures.line lines is) ∙ ap (λ (n : ℕ). set_hits_of n ways (lines ++ line ∷ [])) c.note.ensures.sets in
    is-more c.hits-before.result c.hits.result (is_set_hit sets ways lines line)
    (after ∙ (set_hits_after-push sets ways [] lines line ∙ ap (λ (n : ℕ). n + one_if (is_set_hit sets ways lines line)) (sym before)))
