-- The lines of a script's text but for those that say an order of steps.
use Rattle.std.specs.Prelude.{ℕ, Bool, false, not, List, [], ◌∷◌, codes, filter}
use Rattle.std.specs.Str.Lines.{lines}
use Rattle.line_words.specs.Lines.{words}
use Rattle.rc_base.specs.Texts.{is_text}

-- the first of these words is `order`
abbrev pub begins_with_order : List (List ℕ) → Bool
begins_with_order [] = false
begins_with_order (word ∷ words) = is_text word (codes "order")

-- the first word of a line is `order`
abbrev pub is_order_line : List ℕ → Bool
is_order_line line = begins_with_order (words line)

-- the lines of a text but for its `order` lines
abbrev pub other_lines : List ℕ → List (List ℕ)
other_lines text = filter (λ line. not (is_order_line line)) (lines text)
