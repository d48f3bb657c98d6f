-- How many different lines are used: how many uses are the first of their line.
use Rattle.std.specs.Prelude.{ℕ, ◌+◌, ◌==◌, Bool, true, false, not, List, [], ◌∷◌, ◌++◌, Option, Some, None}
use Rattle.std.specs.List.{list_any}
use Rattle.lackey_text.specs.declared.uses.LineUse.{LineUse}
use Rattle.lists.specs.Sums.{one_if}
use Rattle.way_curve.specs.Counting.{all_lines, code_lines, data_lines}
use Rattle.way_curve.specs.declared.first_uses.FirstUses.{FirstUses}

-- whether one of these uses is of a line
abbrev pub is_line_of : List ℕ → ℕ → Bool
is_line_of lines x = list_any (λ (y : ℕ). x == y) lines

-- how many of these uses are the first of their line, where some earlier uses stand before them
abbrev pub first_uses_after : List ℕ → List ℕ → ℕ
first_uses_after earlier [] = 0
first_uses_after earlier (x ∷ lines) = one_if (not (is_line_of earlier x)) + first_uses_after (earlier ++ x ∷ []) lines

-- how many of these uses are the first of their line, and so how many different lines they use
abbrev pub first_uses_of : List ℕ → ℕ
first_uses_of lines = first_uses_after [] lines

-- how many of these uses are the first of their line, if that is asked for
abbrev pub first_uses_if : Bool → List ℕ → Option ℕ
first_uses_if false lines = None
first_uses_if true lines = Some (first_uses_of lines)

-- (For proofs.) how many of these uses are the first of their line, of all of them, of those of data and of those of code
abbrev pub first_uses_by : List LineUse → FirstUses
first_uses_by uses = record { of_all = first_uses_of (all_lines uses); of_data = first_uses_of (data_lines uses); of_code = first_uses_of (code_lines uses) }

-- (For proofs.) the same, if it is asked for
abbrev pub asked_first_uses : Bool → List LineUse → Option FirstUses
asked_first_uses false uses = None
asked_first_uses true uses = Some (first_uses_by uses)
