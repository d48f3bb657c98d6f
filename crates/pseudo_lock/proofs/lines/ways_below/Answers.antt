use Rattle.std.proofs.Common.{◌≡◌, ℕ, ◌*◌, ◌%◌, ◌^◌, ◌<◌, length, ap, ◌∙◌, arith}
use Rattle.std.proofs.Math.Nat.{mod-eq_of_lt}
use Rattle.std.proofs.Math.Pow.{pow-lt}
use Rattle.cbm.specs.Masks.{ways_of}
use Rattle.pseudo_lock.proofs.Ways.{ways_of-part}
use Rattle.pseudo_lock.proofs.lines.ways_below.Goals as goal

pub returns : goal.returns
returns c =
    let small : 2 ^ c.args.way < 2 ^ 32 = pow-lt {i = c.args.way} {j = 32} c.requires in
    let fits : 1 * 2 ^ c.args.way < 2 ^ 32 = omega arith in
    let bit : 1 * 2 ^ c.args.way % 2 ^ 32 ≡ 2 ^ c.args.way = mod-eq_of_lt fits ∙ omega arith in
    c.count.ensures ∙ ap (λ (n : ℕ). length (ways_of (c.args.mask % n))) bit ∙ ap length (ways_of-part c.args.mask c.args.way)
