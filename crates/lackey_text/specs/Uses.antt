-- The lines of memory that a line of a trace uses.
use Rattle.std.specs.Prelude.{ℕ, ◌+◌, ◌-◌, ◌/◌, Bool, true, false, if◌then◌else◌, List, [], ◌++◌, map}
use Rattle.std.specs.List.{range_with_len}
use Rattle.lackey_text.specs.declared.line.LackeyKind.{LackeyKind}
use Rattle.lackey_text.specs.declared.line.LackeyKind.TheVariants.{Code, Modify}
use Rattle.lackey_text.specs.declared.line.LackeyLine.{LackeyLine}
use Rattle.lackey_text.specs.declared.line.LackeyLine.TheVariants.{Skip, Use}
use Rattle.lackey_text.specs.declared.uses.LineUse.{LineUse}
use Rattle.lackey_text.specs.declared.uses.LineUses.{LineUses}

-- the use of each line from one on, up to the line before another
abbrev pub uses_between : Bool → ℕ → ℕ → List LineUse
uses_between code first end = map (λ (line : ℕ). record { line = line; code = code }) (range_with_len first (end - first))

-- the use of each line from the first byte's to the last byte's
abbrev pub uses_once : Bool → ℕ → ℕ → List LineUse
uses_once code addr size = uses_between code (addr / 64) ((addr + size - 1) / 64 + 1)

-- whether bytes of a kind are used as code
abbrev pub is_code : LackeyKind → Bool
is_code Code = true
is_code kind = false

-- data that is modified is used twice, first by loads and then by stores
abbrev pub uses_by : LackeyKind → ℕ → ℕ → List LineUse
uses_by Modify addr size = uses_once false addr size ++ uses_once false addr size
uses_by kind addr size = uses_once (is_code kind) addr size

-- the uses of a line of a trace, in order
abbrev pub uses_of : LackeyLine → List LineUse
uses_of Skip = []
uses_of (Use kind addr size) = uses_by kind addr size

-- (For proofs.) the uses that are left
abbrev pub uses_left : LineUses → List LineUse
uses_left u = if u.again then uses_between u.code u.next u.end ++ uses_between u.code u.first u.end else uses_between u.code u.next u.end
