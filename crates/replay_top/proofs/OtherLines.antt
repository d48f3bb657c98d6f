-- The lines of a text but for those that say an order, line by line.
use Rattle.std.proofs.Common.{◌≡◌, ℕ, Bool, true, false, not, filter, List, [], ◌∷◌, refl, ap, ◌∙◌}
use Rattle.std.specs.Str.Lines.{lines}
use Rattle.rc_base.proofs.laws.Texts.{is_text-same}
use Rattle.rc_base.specs.Texts.{is_text}
use Rattle.replay_top.specs.Lines.{is_order_line, other_lines}

-- whether a line stays
abbrev stays : List ℕ → Bool
stays line = not (is_order_line line)

-- a first line that says no order stays
pub other_lines-kept : (text line rest : List ℕ) → lines text ≡ line ∷ lines rest → is_order_line line ≡ false → other_lines text ≡ line ∷ other_lines rest
other_lines-kept text line rest is kept = ap (filter stays) is ∙ (rw kept refl)

-- a first line that says one is passed over
pub other_lines-order : (text line rest : List ℕ) → lines text ≡ line ∷ lines rest → is_order_line line ≡ true → other_lines text ≡ other_lines rest
other_lines-order text line rest is order = ap (filter stays) is ∙ (rw order refl)

-- a text without lines
pub other_lines-nil : (text : List ℕ) → lines text ≡ [] → other_lines text ≡ []
other_lines-nil text is = ap (filter stays) is

-- two texts that begin with the same line and go on with the same ones
pub other_lines-same : (left right line there rest behind : List ℕ) → other_lines left ≡ line ∷ other_lines rest → other_lines right ≡ there ∷ other_lines behind → is_text line there ≡ true
    → other_lines rest ≡ other_lines behind → other_lines left ≡ other_lines right
other_lines-same left right line there rest behind first other same_line same = let text = is_text-same line there same_line in cc
