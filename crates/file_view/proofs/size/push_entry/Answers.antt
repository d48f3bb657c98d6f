use Rattle.std.proofs.Common.{ℕ, ◌≤◌, ◌∷◌, subst, length, decimal, arith, length-append}
use Rattle.machine.specs.Maps.{bytes_of, parameters_of}
use Rattle.cbm.specs.Masks.{ways_of}
use Rattle.num_text.proofs.laws.Prints.{length-decimal_byte, length-decimal}
use Rattle.file_view.proofs.size.push_entry.Goals as goal

pub push-requires : goal.push-requires
push-requires c =
    let short : length (decimal c.from.result) ≤ 3 = rw c.from.ensures (length-decimal_byte c.args.domain c.ranges.domain.fits) in
    omega arith

pub push_dec-requires-2 : goal.push_dec-requires-2
push_dec-requires-2 c =
    let short : length (decimal c.from.result) ≤ 3 = rw c.from.ensures (length-decimal_byte c.args.domain c.ranges.domain.fits) in
    omega arith

pub returns-clause-short : goal.returns-clause-short
returns-clause-short c =
    let bytes = bytes_of (parameters_of c.args.m.now) (ways_of c.args.mask) in
    let domain = length-decimal_byte c.args.domain c.ranges.domain.fits in
    let long : length (decimal bytes) ≤ 20 = subst (λ (n : ℕ). length (decimal n) ≤ 20) c.bytes_of.ensures (length-decimal c.bytes_of.result c.bytes_of.type_inv) in
    omega (arith, domain, long, length-append (decimal c.args.domain) (61 ∷ decimal bytes))
