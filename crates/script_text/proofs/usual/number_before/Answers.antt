use Rattle.std.proofs.Common.{◌≡◌, ◌+◌, ◌*◌, ◌<◌, ◌^◌, ℕ, get_or, ap, ◌∙◌, rules}
use Rattle.std.specs.Char.{digit_value}
use Rattle.script_text.proofs.NumberReading.{SpellsSoFar-first, SpellsSoFar-next}
use Rattle.script_text.proofs.usual.number_before.Goals as goal

pub digits-init : goal.digits-init
digits-init c = SpellsSoFar-first c.args.text.now c.in_ok-n.n c.in-len1-up.len_at_least c.in_ok-n.ensures.0 c.in_ok-n.ensures.1

pub digits-preserved : goal.digits-preserved
digits-preserved c =
    let digit : digit_value (get_or c.digits.left.now 0 0) < 10 = rw (← c.in-Some.ensures.0) c.in-Some.ensures.1 in
    let more : c.in_ok-n-2.n ≡ c.digits.n * 10 + digit_value (get_or c.digits.left.now 0 0) = c.in_ok-n-2.ensures ∙ ap (λ (d : ℕ). c.digits.n * 10 + d) c.in-Some.ensures.0 in
    let small : c.in_ok-n-2.n < 2 ^ 64 = search rules in
    SpellsSoFar-next c.args.text.now c.digits.n c.digits.left.now c.in_ok-n-2.n c.digits.invariant c.in-len1-up-left.len_at_least digit more small
