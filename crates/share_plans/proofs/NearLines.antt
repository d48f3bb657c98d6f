-- The lines of memory that a line of a trace uses have numbers below 2^42.
use Rattle.std.proofs.Common.{◌≡◌, ℕ, ◌+◌, ◌-◌, ◌*◌, ◌/◌, ◌<◌, ◌≤◌, ◌^◌, Bool, true, false, All, map, get_or, refl, sym, subst, arith}
use Rattle.std.specs.List.{range_with_len}
use Rattle.std.proofs.Math.Nat.{div-mul-le_self}
use Rattle.std.proofs.lemmas.List.FromFn.{get_or-map-range_with_len, length-map-range_with_len}
use Rattle.std.proofs.lemmas.List.Elements.{All-append, All-nil}
use Rattle.lackey_text.specs.declared.line.LackeyLine.{LackeyLine}
use Rattle.lackey_text.specs.declared.line.LackeyLine.TheVariants.{Skip, Use}
use Rattle.lackey_text.specs.declared.line.LackeyKind.TheVariants.{Code, Load, Store, Modify}
use Rattle.lackey_text.specs.declared.uses.LineUse.{LineUse}
use Rattle.lackey_text.specs.Lines.{IsInMemory}
use Rattle.lackey_text.specs.Uses.{uses_of, uses_once}

-- a line's number is below 2^42
abbrev pub IsNear : LineUse → Type 0
IsNear u = u.line < 2 ^ 42

-- those of some bytes
All-uses_once : (code : Bool) (addr size : ℕ) → 0 < size → addr + size ≤ 2 ^ 48 → All IsNear (uses_once code addr size)
All-uses_once code addr size some within = λ k d below.
    let first = addr / 64 in
    let last = (addr + size - 1) / 64 in
    let one : ℕ → LineUse = λ line. record { line = line; code = code } in
    let count : k < last + 1 - first = subst (λ (n : ℕ). k < n) (length-map-range_with_len one first (last + 1 - first)) below in
    let is : get_or (map one (range_with_len first (last + 1 - first))) k d ≡ one (first + k) = get_or-map-range_with_len one first (last + 1 - first) k (first + k) d count refl in
    let near : last * 64 ≤ addr + size - 1 = div-mul-le_self (addr + size - 1) 64 in
    subst IsNear (sym is) (omega (arith, count, near, within, some))

-- those of a line of a trace
pub All-uses_of : (said : LackeyLine) → IsInMemory said → All IsNear (uses_of said)
All-uses_of Skip h = All-nil IsNear
All-uses_of (Use Code addr size) h = All-uses_once true addr size h.0 h.2
All-uses_of (Use Load addr size) h = All-uses_once false addr size h.0 h.2
All-uses_of (Use Store addr size) h = All-uses_once false addr size h.0 h.2
All-uses_of (Use Modify addr size) h = All-append IsNear (uses_once false addr size) (uses_once false addr size) (All-uses_once false addr size h.0 h.2) (All-uses_once false addr size h.0 h.2)
