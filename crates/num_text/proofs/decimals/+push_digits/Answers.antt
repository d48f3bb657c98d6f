use Rattle.std.proofs.Common.{◌/◌, ◌%◌, arith, append_assoc}
use Rattle.std.specs.Fmt.{decimal}
use Rattle.std.proofs.lemmas.Fmt.{decimal_digit}
use Rattle.num_text.proofs.DecimalPairs.{decimal_pair, decimal_pairs, length-decimal_pair, length-decimal_pairs, pair_digits}
use Rattle.num_text.proofs.decimals.+push_digits.Goals as goal
use Rattle.num_text.proofs.laws.Prints.{length-decimal_digit}

pub push-requires : goal.push-requires
push-requires t c = let one = length-decimal_digit c.args.n c.if-n-lt10.true in omega arith

pub push_pair-requires-clause-room : goal.push_pair-requires-clause-room
push_pair-requires-clause-room t c = let two = length-decimal_pair c.args.n c.if-n-lt10.false c.if-n-lt100.true in omega arith

pub push_digits-requires : goal.push_digits-requires
push_digits-requires t c =
    let more = length-decimal_pairs c.args.n c.if-n-lt100.false c.ranges.n.fits in
    (omega arith, omega arith)

pub push_pair-requires-else-n-lt100-clause-room : goal.push_pair-requires-else-n-lt100-clause-room
push_pair-requires-else-n-lt100-clause-room t c = let more = length-decimal_pairs c.args.n c.if-n-lt100.false c.ranges.n.fits in omega arith

pub returns-then-n-lt10-clause-bytes : goal.returns-then-n-lt10-clause-bytes
returns-then-n-lt10-clause-bytes t c = let is = decimal_digit c.args.n c.if-n-lt10.true in cc

pub returns-then-n-lt10-clause-spare : goal.returns-then-n-lt10-clause-spare
returns-then-n-lt10-clause-spare t c = let one = length-decimal_digit c.args.n c.if-n-lt10.true in omega arith

pub returns-then-n-lt100-clause-bytes : goal.returns-then-n-lt100-clause-bytes
returns-then-n-lt100-clause-bytes t c = let is = decimal_pair c.args.n c.if-n-lt10.false c.if-n-lt100.true in cc

pub returns-then-n-lt100-clause-spare : goal.returns-then-n-lt100-clause-spare
returns-then-n-lt100-clause-spare t c = let two = length-decimal_pair c.args.n c.if-n-lt10.false c.if-n-lt100.true in omega arith

pub returns-else-n-lt100-clause-bytes : goal.returns-else-n-lt100-clause-bytes
returns-else-n-lt100-clause-bytes t c =
    let is = decimal_pairs c.args.n c.if-n-lt100.false c.ranges.n.fits in
    let joined = append_assoc c.args.out.now.bytes (decimal (c.args.n / 100)) (pair_digits (c.args.n % 100)) in
    cc

pub returns-else-n-lt100-clause-spare : goal.returns-else-n-lt100-clause-spare
returns-else-n-lt100-clause-spare t c = let more = length-decimal_pairs c.args.n c.if-n-lt100.false c.ranges.n.fits in omega arith
