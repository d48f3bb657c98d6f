use Rattle.std.proofs.Common.{◌-◌, ◌/◌, ◌%◌, arith, append_assoc}
use Rattle.num_text.specs.Printed.{hexadecimal}
use Rattle.num_text.proofs.Prints.{div-lt_number, hexadecimal-pairs, hexadecimal-two, hexadecimal-wide, hexadecimal-zeros, length-hexadecimal_pairs, length-hexadecimal_two, length-hexadecimal_wide, length-hexadecimal_zeros, pair_glyphs}
use Rattle.num_text.proofs.laws.Prints.{filled-last, length-filled_last}
use Rattle.num_text.proofs.hexadecimals.+push_digits.Goals as goal

-- two digits more of the number
pub push_digits-requires : goal.push_digits-requires
push_digits-requires t c =
    let shorter = length-hexadecimal_pairs c.args.width c.args.n c.if-n-ge256.true c.ranges.n.fits in
    let smaller = div-lt_number c.args.n c.if-n-ge256.true in
    rw c.saturating_sub.ensures (omega arith, omega arith)

pub push_pair-requires : goal.push_pair-requires
push_pair-requires t c =
    let shorter = length-hexadecimal_pairs c.args.width c.args.n c.if-n-ge256.true c.ranges.n.fits in
    let spare = rw c.saturating_sub.ensures at c.push_digits.ensures.spare in
    omega arith

pub returns-then-n-ge256-clause-bytes : goal.returns-then-n-ge256-clause-bytes
returns-then-n-ge256-clause-bytes t c =
    let step = hexadecimal-pairs c.args.width c.args.n c.if-n-ge256.true c.ranges.n.fits in
    let joined = append_assoc c.args.out.now.bytes (hexadecimal (c.args.width - 2) (c.args.n / 256)) (pair_glyphs (c.args.n % 256)) in
    cc

pub returns-then-n-ge256-clause-spare : goal.returns-then-n-ge256-clause-spare
returns-then-n-ge256-clause-spare t c =
    let shorter = length-hexadecimal_pairs c.args.width c.args.n c.if-n-ge256.true c.ranges.n.fits in
    let spare = rw c.saturating_sub.ensures at c.push_digits.ensures.spare in
    omega arith

-- two zeros more
pub push_digits-requires-then-width-gt2 : goal.push_digits-requires-then-width-gt2
push_digits-requires-then-width-gt2 t c =
    let shorter = length-hexadecimal_zeros c.args.width c.args.n c.if-n-ge256.false c.if-width-gt2.true in
    (omega arith, omega arith)

pub push_pair-requires-then-width-gt2 : goal.push_pair-requires-then-width-gt2
push_pair-requires-then-width-gt2 t c =
    let shorter = length-hexadecimal_zeros c.args.width c.args.n c.if-n-ge256.false c.if-width-gt2.true in
    omega arith

pub returns-then-width-gt2-clause-bytes : goal.returns-then-width-gt2-clause-bytes
returns-then-width-gt2-clause-bytes t c =
    let step = hexadecimal-zeros c.args.width c.args.n c.if-n-ge256.false c.if-width-gt2.true in
    let joined = append_assoc c.args.out.now.bytes (hexadecimal (c.args.width - 2) 0) (pair_glyphs c.args.n) in
    cc

pub returns-then-width-gt2-clause-spare : goal.returns-then-width-gt2-clause-spare
returns-then-width-gt2-clause-spare t c =
    let shorter = length-hexadecimal_zeros c.args.width c.args.n c.if-n-ge256.false c.if-width-gt2.true in
    omega arith

-- two digits
pub push_pair-requires-then-n-ge16 : goal.push_pair-requires-then-n-ge16
push_pair-requires-then-n-ge16 t c = omega (arith, length-hexadecimal_two c.args.width c.args.n c.if-n-ge16.true c.if-n-ge256.false c.if-width-gt2.false)

pub returns-then-n-ge16-clause-bytes : goal.returns-then-n-ge16-clause-bytes
returns-then-n-ge16-clause-bytes t c =
    let step = hexadecimal-two c.args.width c.args.n c.if-n-ge16.true c.if-n-ge256.false c.if-width-gt2.false in
    cc

pub returns-then-n-ge16-clause-spare : goal.returns-then-n-ge16-clause-spare
returns-then-n-ge16-clause-spare t c = omega (arith, length-hexadecimal_two c.args.width c.args.n c.if-n-ge16.true c.if-n-ge256.false c.if-width-gt2.false)

-- a zero and a digit
pub push_pair-requires-then-width-gt1 : goal.push_pair-requires-then-width-gt1
push_pair-requires-then-width-gt1 t c = omega (arith, length-hexadecimal_wide c.args.width c.args.n c.if-n-ge16.false c.if-width-gt1.true c.if-width-gt2.false)

pub returns-then-width-gt1-clause-bytes : goal.returns-then-width-gt1-clause-bytes
returns-then-width-gt1-clause-bytes t c =
    let step = hexadecimal-wide c.args.width c.args.n c.if-n-ge16.false c.if-width-gt1.true c.if-width-gt2.false in
    cc

pub returns-then-width-gt1-clause-spare : goal.returns-then-width-gt1-clause-spare
returns-then-width-gt1-clause-spare t c = omega (arith, length-hexadecimal_wide c.args.width c.args.n c.if-n-ge16.false c.if-width-gt1.true c.if-width-gt2.false)

-- one digit
pub push-requires : goal.push-requires
push-requires t c = omega (arith, length-filled_last 16 c.args.width c.args.n (omega arith) c.if-n-ge16.false c.if-width-gt1.false)

pub returns-else-width-gt1-clause-bytes : goal.returns-else-width-gt1-clause-bytes
returns-else-width-gt1-clause-bytes t c =
    let step = filled-last 16 c.args.width c.args.n (omega arith) c.if-n-ge16.false c.if-width-gt1.false in
    cc

pub returns-else-width-gt1-clause-spare : goal.returns-else-width-gt1-clause-spare
returns-else-width-gt1-clause-spare t c = omega (arith, length-filled_last 16 c.args.width c.args.n (omega arith) c.if-n-ge16.false c.if-width-gt1.false)
