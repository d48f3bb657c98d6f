use Rattle.std.proofs.Common.{◌≡◌, ℕ, ◌+◌, ◌-◌, ◌/◌, ◌%◌, ◌^◌, ◌++◌, ◌∷◌, [], List, length, sym, ap, ◌∙◌, arith, append_assoc, length-append, div-le_self, lt_of_le_of_lt}
use Rattle.num_text.specs.Printed.{hexadecimal}
use Rattle.num_text.proofs.laws.Prints.{length-hexadecimal}
use Rattle.cpu_lists.specs.Printed.{digits_for}
use Rattle.cpu_lists.proofs.MaskTexts.{mask_text-one_group, mask_text-two_groups}
use Rattle.cpu_lists.proofs.printing.print_mask.Goals as goal

pub push-requires : goal.push-requires
push-requires c =
    let short = length-hexadecimal (digits_for (c.args.cpus - 32)) (c.args.set / 2 ^ 32) (lt_of_le_of_lt (div-le_self c.args.set (2 ^ 32)) c.ranges.set.fits) (omega arith) in
    let spare : c.push_hex-else-cpus-le32.new.out.spare + length (hexadecimal (digits_for (c.args.cpus - 32)) (c.args.set / 2 ^ 32)) ≡ c.args.out.now.spare = rw c.div_ceil-else-cpus-le32.ensures at c.push_hex-else-cpus-le32.ensures.spare in
    omega arith

pub push_hex-requires-else-cpus-le32-2-clause-room : goal.push_hex-requires-else-cpus-le32-2-clause-room
push_hex-requires-else-cpus-le32-2-clause-room c =
    let short = length-hexadecimal (digits_for (c.args.cpus - 32)) (c.args.set / 2 ^ 32) (lt_of_le_of_lt (div-le_self c.args.set (2 ^ 32)) c.ranges.set.fits) (omega arith) in
    let spare : c.push_hex-else-cpus-le32.new.out.spare + length (hexadecimal (digits_for (c.args.cpus - 32)) (c.args.set / 2 ^ 32)) ≡ c.args.out.now.spare = rw c.div_ceil-else-cpus-le32.ensures at c.push_hex-else-cpus-le32.ensures.spare in
    omega arith

pub returns-then-cpus-le32-clause-bytes : goal.returns-then-cpus-le32-clause-bytes
returns-then-cpus-le32-clause-bytes c =
    let bytes = rw c.div_ceil.ensures at c.push_hex.ensures.bytes in
    rw (mask_text-one_group c.args.cpus c.args.set c.if-cpus-le32.true) bytes

pub returns-then-cpus-le32-clause-spare : goal.returns-then-cpus-le32-clause-spare
returns-then-cpus-le32-clause-spare c =
    let spare = rw c.div_ceil.ensures at c.push_hex.ensures.spare in
    rw (mask_text-one_group c.args.cpus c.args.set c.if-cpus-le32.true) spare

pub returns-else-cpus-le32-clause-bytes : goal.returns-else-cpus-le32-clause-bytes
returns-else-cpus-le32-clause-bytes c =
    let high = hexadecimal (digits_for (c.args.cpus - 32)) (c.args.set / 2 ^ 32) in
    let low = hexadecimal 8 (c.args.set % 2 ^ 32) in
    let old = c.args.out.now.bytes in
    let first : c.push_hex-else-cpus-le32.new.out.bytes ≡ old ++ high = rw c.div_ceil-else-cpus-le32.ensures at c.push_hex-else-cpus-le32.ensures.bytes in
    c.push_hex-else-cpus-le32-2.ensures.bytes
    ∙ ap (λ (bytes : List ℕ). bytes ++ low) (c.push.ensures.bytes ∙ ap (λ (bytes : List ℕ). bytes ++ 44 ∷ []) first ∙ append_assoc old high (44 ∷ []))
    ∙ append_assoc old (high ++ 44 ∷ []) low
    ∙ ap (λ (bytes : List ℕ). old ++ bytes) (append_assoc high (44 ∷ []) low ∙ sym (mask_text-two_groups c.args.cpus c.args.set c.if-cpus-le32.false))

pub returns-else-cpus-le32-clause-spare : goal.returns-else-cpus-le32-clause-spare
returns-else-cpus-le32-clause-spare c =
    let high = hexadecimal (digits_for (c.args.cpus - 32)) (c.args.set / 2 ^ 32) in
    let low = hexadecimal 8 (c.args.set % 2 ^ 32) in
    let first : c.push_hex-else-cpus-le32.new.out.spare + length high ≡ c.args.out.now.spare = rw c.div_ceil-else-cpus-le32.ensures at c.push_hex-else-cpus-le32.ensures.spare in
    let second : c.push_hex-else-cpus-le32-2.new.out.spare + length low ≡ c.push.new.self.spare = c.push_hex-else-cpus-le32-2.ensures.spare in
    rw (mask_text-two_groups c.args.cpus c.args.set c.if-cpus-le32.false) (omega (arith, length-append high (44 ∷ low), c.push.ensures.spare))
