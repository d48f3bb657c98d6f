use Rattle.std.proofs.Common.{◌≡◌, ℕ, zero, suc, ◌+◌, ◌≤◌, Bool, true, false, refl, ap, ◌∙◌, add-one, arith}
use mir.Val.{bool_byte}
use Rattle.cbm.specs.Masks.{has_way}
use Rattle.cache_core.specs.History.{ways_below}
use Rattle.lists.proofs.Sums.{one_if-le}
use Rattle.lists.specs.Sums.{one_if}
use Rattle.journal_check.proofs.region.ways_below.Goals as goal

-- a test as a number
bool_byte-one_if : (b : Bool) → bool_byte b ≡ one_if b
bool_byte-one_if true = refl
bool_byte-one_if false = refl

-- no more ways than there are below
ways_below-le : (mask way : ℕ) → ways_below mask way ≤ way
ways_below-le mask zero = omega arith
ways_below-le mask (suc way) = omega (arith, ways_below-le mask way, one_if-le (has_way mask way))

-- one way more
ways_below-next : (mask way : ℕ) → ways_below mask (way + 1) ≡ ways_below mask way + one_if (has_way mask way)
ways_below-next mask way = rw add-one refl

pub overflow_add-count : goal.overflow_add-count
overflow_add-count c = omega (arith, c.loop-w.invariant, ways_below-le c.args.mask c.loop-w.w, c.loop-w-test.true, c.from-count.ensures ∙ bool_byte-one_if c.has_way.result, one_if-le c.has_way.result)

pub loop-w-preserved : goal.loop-w-preserved
loop-w-preserved c = omega (arith, c.loop-w.invariant, c.from-count.ensures ∙ (bool_byte-one_if c.has_way.result ∙ ap one_if c.has_way.ensures), ways_below-next c.args.mask c.loop-w.w)
