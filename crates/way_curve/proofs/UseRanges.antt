-- The lines of memory that a line of a trace uses are lines of memory.
use Rattle.std.proofs.Common.{ℕ, zero, suc, ◌+◌, ◌-◌, ◌*◌, ◌/◌, ◌<◌, ◌≤◌, Bool, true, false, map, arith}
use Rattle.std.specs.List.{range_with_len}
use Rattle.std.proofs.Math.Nat.{div-mul-le_self}
use Rattle.std.proofs.lemmas.List.Elements.{All-append, All-cons, All-nil}
use Rattle.lackey_text.specs.declared.line.LackeyLine.{LackeyLine}
use Rattle.lackey_text.specs.declared.line.LackeyLine.TheVariants.{Skip, Use}
use Rattle.lackey_text.specs.declared.line.LackeyKind.TheVariants.{Code, Load, Store, Modify}
use Rattle.lackey_text.specs.declared.uses.LineUse.{LineUse}
use Rattle.lackey_text.specs.Lines.{IsInMemory}
use Rattle.lackey_text.specs.Uses.{uses_of, uses_once}
use Rattle.way_curve.specs.FilterTexts.{AreInMemory}

abbrev small : LineUse → Type 0
small u = u.line < 4398046511104

-- lines up to the last one of memory
AreInMemory-range : (code : Bool) (first n : ℕ) → first + n ≤ 4398046511104 → AreInMemory (map (λ (line : ℕ). record { line = line; code = code }) (range_with_len first n))
AreInMemory-range code first zero h = All-nil small
AreInMemory-range code first (suc n) h =
    let one : ℕ → LineUse = λ line. record { line = line; code = code } in
    let here : first < 4398046511104 = omega arith in
    All-cons small (one first) (map one (range_with_len (first + 1) n)) here (AreInMemory-range code (first + 1) n (omega arith))

AreInMemory-once : (code : Bool) (addr size : ℕ) → 0 < size → addr + size ≤ 281474976710656 → AreInMemory (uses_once code addr size)
AreInMemory-once code addr size some h =
    let first = addr / 64 in
    let last = (addr + size - 1) / 64 in
    let front : first * 64 ≤ addr = div-mul-le_self addr 64 in
    let within : last * 64 ≤ addr + size - 1 = div-mul-le_self (addr + size - 1) 64 in
    AreInMemory-range code first (last + 1 - first) (omega (arith, some, h, within, front))

-- those of a line of a trace
pub AreInMemory-uses_of : (said : LackeyLine) → IsInMemory said → AreInMemory (uses_of said)
AreInMemory-uses_of Skip h = All-nil small
AreInMemory-uses_of (Use Code addr size) h = AreInMemory-once true addr size h.0 h.2
AreInMemory-uses_of (Use Load addr size) h = AreInMemory-once false addr size h.0 h.2
AreInMemory-uses_of (Use Store addr size) h = AreInMemory-once false addr size h.0 h.2
AreInMemory-uses_of (Use Modify addr size) h = All-append small (uses_once false addr size) (uses_once false addr size) (AreInMemory-once false addr size h.0 h.2) (AreInMemory-once false addr size h.0 h.2)
