-- How many lines of memory a line of a trace uses.
use Rattle.std.proofs.Common.{◌≡◌, ℕ, ◌+◌, ◌-◌, ◌*◌, ◌/◌, ◌<◌, ◌≤◌, Bool, true, false, length, arith, length-append}
use Rattle.std.proofs.Math.Nat.{div-mul-le_self, lt-div-mul-add}
use Rattle.std.proofs.lemmas.List.FromFn.{length-map-range_with_len}
use Rattle.lackey_text.specs.declared.line.LackeyLine.{LackeyLine}
use Rattle.lackey_text.specs.declared.line.LackeyLine.TheVariants.{Skip, Use}
use Rattle.lackey_text.specs.declared.line.LackeyKind.TheVariants.{Code, Load, Store, Modify}
use Rattle.lackey_text.specs.declared.uses.LineUse.{LineUse}
use Rattle.lackey_text.specs.Lines.{IsInMemory}
use Rattle.lackey_text.specs.Uses.{uses_of, uses_once}

-- 4,096 bytes are in 65 lines or fewer
length-uses_once : (code : Bool) (addr size : ℕ) → size ≤ 4096 → length (uses_once code addr size) ≤ 65
length-uses_once code addr size h =
    let first = addr / 64 in
    let last = (addr + size - 1) / 64 in
    let below : addr < first * 64 + 64 = lt-div-mul-add {a = addr} {b = 64} (omega arith) in
    let within : last * 64 ≤ addr + size - 1 = div-mul-le_self (addr + size - 1) 64 in
    let one : ℕ → LineUse = λ line. record { line = line; code = code } in
    let count : length (uses_once code addr size) ≡ last + 1 - first = length-map-range_with_len one first (last + 1 - first) in
    omega (arith, h, below, within, count)

-- each of them is used twice at most
pub length-uses_of : (said : LackeyLine) → IsInMemory said → length (uses_of said) ≤ 130
length-uses_of Skip h = omega arith
length-uses_of (Use Code addr size) h = omega (arith, length-uses_once true addr size h.1)
length-uses_of (Use Load addr size) h = omega (arith, length-uses_once false addr size h.1)
length-uses_of (Use Store addr size) h = omega (arith, length-uses_once false addr size h.1)
length-uses_of (Use Modify addr size) h = omega (arith, length-append (uses_once false addr size) (uses_once false addr size), length-uses_once false addr size h.1)
