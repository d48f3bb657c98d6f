-- The lines of uses, and of one use more.
use Rattle.std.proofs.Common.{◌≡◌, ◌++◌, Bool, true, false, cond, not, List, [], ◌∷◌, ap, ◌∙◌}
use Rattle.std.specs.List.{filter}
use Rattle.std.proofs.lemmas.List.{append-nil, map_push}
use Rattle.std.proofs.lemmas.List.Elements.{filter-append}
use Rattle.lackey_text.specs.declared.uses.LineUse.{LineUse}
use Rattle.way_curve.specs.Counting.{all_lines, code_lines, data_lines}

-- one use more
pub all_lines-push : (uses : List LineUse) (u : LineUse) → all_lines (uses ++ u ∷ []) ≡ all_lines uses ++ u.line ∷ []
all_lines-push uses u = map_push (λ (v : LineUse). v.line) uses u

module _ (p : LineUse → Bool) (uses : List LineUse) (u : LineUse) where
  -- one use more of which the test holds
  filter-push_true : p u ≡ true → filter p (uses ++ u ∷ []) ≡ filter p uses ++ u ∷ []
  filter-push_true h = filter-append p uses (u ∷ []) ∙ ap (λ (b : Bool). filter p uses ++ cond b (u ∷ []) []) h

  -- one use more of which it does not hold
  filter-push_false : p u ≡ false → filter p (uses ++ u ∷ []) ≡ filter p uses
  filter-push_false h = filter-append p uses (u ∷ []) ∙ (ap (λ (b : Bool). filter p uses ++ cond b (u ∷ []) []) h ∙ append-nil (filter p uses))

-- one use of code more
pub code_lines-push : (uses : List LineUse) (u : LineUse) → u.code ≡ true → code_lines (uses ++ u ∷ []) ≡ code_lines uses ++ u.line ∷ []
code_lines-push uses u h = ap all_lines (filter-push_true (λ (v : LineUse). v.code) uses u h) ∙ all_lines-push (filter (λ (v : LineUse). v.code) uses) u

-- one use of data more is none of code
pub code_lines-push_data : (uses : List LineUse) (u : LineUse) → u.code ≡ false → code_lines (uses ++ u ∷ []) ≡ code_lines uses
code_lines-push_data uses u h = ap all_lines (filter-push_false (λ (v : LineUse). v.code) uses u h)

-- one use of data more
pub data_lines-push : (uses : List LineUse) (u : LineUse) → u.code ≡ false → data_lines (uses ++ u ∷ []) ≡ data_lines uses ++ u.line ∷ []
data_lines-push uses u h = ap all_lines (filter-push_true (λ (v : LineUse). not v.code) uses u (ap not h)) ∙ all_lines-push (filter (λ (v : LineUse). not v.code) uses) u

-- one use of code more is none of data
pub data_lines-push_code : (uses : List LineUse) (u : LineUse) → u.code ≡ true → data_lines (uses ++ u ∷ []) ≡ data_lines uses
data_lines-push_code uses u h = ap all_lines (filter-push_false (λ (v : LineUse). not v.code) uses u (ap not h))
