-- The numbers from which a trace is drawn.
use Rattle.std.specs.Prelude.{ℕ, zero, suc, ◌+◌, ◌*◌, ◌/◌, ◌%◌, ◌^◌, List, map}
use Rattle.std.specs.List.{range_with_len}

-- the number after this one
abbrev pub next_number : ℕ → ℕ
next_number x = (x * 1103515245 + 12345) % 2 ^ 31

-- what is drawn from a number
abbrev pub drawn_from : ℕ → ℕ
drawn_from x = x / 256

-- the number of this place, where the first stands at place 0
unfoldable pub number_at : ℕ → ℕ → ℕ
number_at first zero = first
number_at first (suc place) = next_number (number_at first place)

-- the draw of this place; places of draws begin at 1
abbrev pub draw_at : ℕ → ℕ → ℕ
draw_at first place = drawn_from (number_at first place)

-- so many draws, from this place on
abbrev pub draws_from : ℕ → ℕ → ℕ → List ℕ
draws_from first place count = map (draw_at first) (range_with_len place count)
