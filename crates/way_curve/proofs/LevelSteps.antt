-- What a use adds to levels.
use Rattle.std.proofs.Common.{◌≡◌, ℕ, Bool, true, false, ◌&&◌, if◌then◌else◌, List, [], ◌∷◌, ◌++◌, Option, Some, None, refl, sym, ap, ◌∙◌, subst, append_assoc}
use Rattle.std.proofs.lemmas.List.{append-nil}
use Rattle.lackey_text.specs.declared.uses.LineUse.{LineUse}
use Rattle.way_curve.specs.declared.first_level.LevelShape.{LevelShape}
use Rattle.way_curve.specs.declared.first_levels.LevelShapes.{LevelShapes}
use Rattle.way_curve.specs.Counting.{all_lines, code_lines, data_lines}
use Rattle.way_curve.specs.FirstLevels.{left_after, left_by, left_by_l1, left_by_l2, lines_as, misses_l1, misses_l2}
use Rattle.way_curve.specs.LevelSteps.{HaveSeen, IsLevel, LevelsValue, LevelValue, SeesUse, is_left_line}
use Rattle.way_curve.proofs.UseLists.{all_lines-push, code_lines-push, code_lines-push_data, data_lines-push, data_lines-push_code}

-- one use more is left where the test lets it through after those before it
left_after-push : (passes : List LineUse → LineUse → Bool) (earlier uses : List LineUse) (u : LineUse)
    → left_after passes earlier (uses ++ u ∷ []) ≡ left_after passes earlier uses ++ (if passes (earlier ++ uses) u then u ∷ [] else [])
left_after-push passes earlier [] u =
    append-nil (if passes earlier u then u ∷ [] else []) ∙ ap (λ (l : List LineUse). if passes l u then u ∷ [] else []) (sym (append-nil earlier))
left_after-push passes earlier (v ∷ uses) u =
    let own : List LineUse = if passes earlier v then v ∷ [] else [] in
    let later = left_after-push passes (earlier ++ v ∷ []) uses u in
    ap (λ (l : List LineUse). own ++ l) later
    ∙ (sym (append_assoc own (left_after passes (earlier ++ v ∷ []) uses) (if passes ((earlier ++ v ∷ []) ++ uses) u then u ∷ [] else []))
    ∙ ap (λ (l : List LineUse). (own ++ left_after passes (earlier ++ v ∷ []) uses) ++ (if passes l u then u ∷ [] else [])) (append_assoc earlier (v ∷ []) uses))

-- of an L1, and where there is none
pub left_by_l1-push : (shape : Option LevelShape) (uses : List LineUse) (u : LineUse)
    → left_by_l1 shape (uses ++ u ∷ []) ≡ left_by_l1 shape uses ++ (if is_left_line shape (lines_as u.code uses) u.line then u ∷ [] else [])
left_by_l1-push None uses u = refl
left_by_l1-push (Some shape) uses u = left_after-push (misses_l1 shape) [] uses u

-- of an L2, and where there is none
pub left_by_l2-push : (shape : Option LevelShape) (uses : List LineUse) (u : LineUse)
    → left_by_l2 shape (uses ++ u ∷ []) ≡ left_by_l2 shape uses ++ (if is_left_line shape (all_lines uses) u.line then u ∷ [] else [])
left_by_l2-push None uses u = refl
left_by_l2-push (Some shape) uses u = left_after-push (misses_l2 shape) [] uses u

-- one use more is left where the L1 of its kind leaves it, and then the L2
pub left_by-push : (shapes : LevelShapes) (uses : List LineUse) (u : LineUse) (first second : Bool)
    → first ≡ is_left_line shapes.l1 (lines_as u.code uses) u.line → second ≡ is_left_line shapes.l2 (all_lines (left_by_l1 shapes.l1 uses)) u.line
    → left_by shapes (uses ++ u ∷ []) ≡ left_by shapes uses ++ (if first && second then u ∷ [] else [])
left_by-push shapes uses u true second is_first is_second =
    let more : left_by_l1 shapes.l1 (uses ++ u ∷ []) ≡ left_by_l1 shapes.l1 uses ++ u ∷ [] =
    left_by_l1-push shapes.l1 uses u ∙ ap (λ (b : Bool). left_by_l1 shapes.l1 uses ++ (if b then u ∷ [] else [])) (sym is_first) in
    ap (left_by_l2 shapes.l2) more
    ∙ (left_by_l2-push shapes.l2 (left_by_l1 shapes.l1 uses) u ∙ ap (λ (b : Bool). left_by shapes uses ++ (if b then u ∷ [] else [])) (sym is_second))
left_by-push shapes uses u false second is_first is_second =
    let same : left_by_l1 shapes.l1 (uses ++ u ∷ []) ≡ left_by_l1 shapes.l1 uses =
    left_by_l1-push shapes.l1 uses u ∙ (ap (λ (b : Bool). left_by_l1 shapes.l1 uses ++ (if b then u ∷ [] else [])) (sym is_first) ∙ append-nil (left_by_l1 shapes.l1 uses)) in
    ap (left_by_l2 shapes.l2) same ∙ sym (append-nil (left_by shapes uses))

-- a level after the use of a line, with what it says of it
pub record PlaysLine (old new : Option LevelValue) (x : ℕ) (is_left : Bool) : Type 0 where
  pub used : (shape : Option LevelShape) (lines : List ℕ) → IsLevel shape lines old → IsLevel shape (lines ++ x ∷ []) new
  pub left : (shape : Option LevelShape) (lines : List ℕ) → IsLevel shape lines old → is_left ≡ is_left_line shape lines x

-- the L2 after a use that the L1 leaves or not, with what it says of it, if it is asked
abbrev pub PlaysSecond : Bool → Option LevelValue → Option LevelValue → ℕ → Bool → Type 0
PlaysSecond true old new x second = PlaysLine old new x second
PlaysSecond false old new x second = new ≡ old

-- the lines of a level that are the same
IsLevel-lines : (shape : Option LevelShape) (level : Option LevelValue) (xs ys : List ℕ) → xs ≡ ys → IsLevel shape xs level → IsLevel shape ys level
IsLevel-lines shape level xs ys same is = subst (λ (ls : List ℕ). IsLevel shape ls level) same is

-- the L2 after a use
second-seen : (shapes : LevelShapes) (uses : List LineUse) (u : LineUse) (old new : Option LevelValue) (first second : Bool)
    → first ≡ is_left_line shapes.l1 (lines_as u.code uses) u.line → PlaysSecond first old new u.line second
    → IsLevel shapes.l2 (all_lines (left_by_l1 shapes.l1 uses)) old → IsLevel shapes.l2 (all_lines (left_by_l1 shapes.l1 (uses ++ u ∷ []))) new
second-seen shapes uses u old new true second is plays level =
    let more : left_by_l1 shapes.l1 (uses ++ u ∷ []) ≡ left_by_l1 shapes.l1 uses ++ u ∷ [] =
    left_by_l1-push shapes.l1 uses u ∙ ap (λ (b : Bool). left_by_l1 shapes.l1 uses ++ (if b then u ∷ [] else [])) (sym is) in
    IsLevel-lines shapes.l2 new _ _ (sym (ap all_lines more ∙ all_lines-push (left_by_l1 shapes.l1 uses) u)) (plays.used shapes.l2 (all_lines (left_by_l1 shapes.l1 uses)) level)
second-seen shapes uses u old new false second is same level =
    let kept : left_by_l1 shapes.l1 (uses ++ u ∷ []) ≡ left_by_l1 shapes.l1 uses =
    left_by_l1-push shapes.l1 uses u ∙ (ap (λ (b : Bool). left_by_l1 shapes.l1 uses ++ (if b then u ∷ [] else [])) (sym is) ∙ append-nil (left_by_l1 shapes.l1 uses)) in
    subst (λ (l : Option LevelValue). IsLevel shapes.l2 (all_lines (left_by_l1 shapes.l1 (uses ++ u ∷ []))) l) (sym same)
    (IsLevel-lines shapes.l2 old _ _ (sym (ap all_lines kept)) level)

-- what is left, with one use more
left-seen : (shapes : LevelShapes) (uses : List LineUse) (u : LineUse) (old new : Option LevelValue) (first second : Bool)
    → first ≡ is_left_line shapes.l1 (lines_as u.code uses) u.line → PlaysSecond first old new u.line second
    → IsLevel shapes.l2 (all_lines (left_by_l1 shapes.l1 uses)) old
    → left_by shapes (uses ++ u ∷ []) ≡ left_by shapes uses ++ (if first && second then u ∷ [] else [])
left-seen shapes uses u old new true second is plays level = left_by-push shapes uses u true second is (plays.left shapes.l2 (all_lines (left_by_l1 shapes.l1 uses)) level)
left-seen shapes uses u old new false second is same level = left_by-push shapes uses u false (is_left_line shapes.l2 (all_lines (left_by_l1 shapes.l1 uses)) u.line) is refl

module _ (old : LevelsValue) (own second_now : Option LevelValue) (u : LineUse) (first second : Bool) where
  -- a use of code
  pub SeesUse-code : u.code ≡ true → PlaysLine old.of_code own u.line first → PlaysSecond first old.second second_now u.line second
      → SeesUse old (record { of_data = old.of_data; of_code = own; second = second_now }) u (first && second)
  SeesUse-code h plays then_second =
      let says : (shapes : LevelShapes) (uses : List LineUse) → HaveSeen shapes old uses → first ≡ is_left_line shapes.l1 (lines_as u.code uses) u.line =
      λ shapes uses have. plays.left shapes.l1 (code_lines uses) have.of_code ∙ ap (λ (b : Bool). is_left_line shapes.l1 (lines_as b uses) u.line) (sym h) in
      record {
        seen = λ shapes uses have. record {
          of_data = IsLevel-lines shapes.l1 old.of_data _ _ (sym (data_lines-push_code uses u h)) have.of_data;
          of_code = IsLevel-lines shapes.l1 own _ _ (sym (code_lines-push uses u h)) (plays.used shapes.l1 (code_lines uses) have.of_code);
          second = second-seen shapes uses u old.second second_now first second (says shapes uses have) then_second have.second;
        };
        left = λ shapes uses have. left-seen shapes uses u old.second second_now first second (says shapes uses have) then_second have.second;
      }

  -- a use of data
  pub SeesUse-data : u.code ≡ false → PlaysLine old.of_data own u.line first → PlaysSecond first old.second second_now u.line second
      → SeesUse old (record { of_data = own; of_code = old.of_code; second = second_now }) u (first && second)
  SeesUse-data h plays then_second =
      let says : (shapes : LevelShapes) (uses : List LineUse) → HaveSeen shapes old uses → first ≡ is_left_line shapes.l1 (lines_as u.code uses) u.line =
      λ shapes uses have. plays.left shapes.l1 (data_lines uses) have.of_data ∙ ap (λ (b : Bool). is_left_line shapes.l1 (lines_as b uses) u.line) (sym h) in
      record {
        seen = λ shapes uses have. record {
          of_data = IsLevel-lines shapes.l1 own _ _ (sym (data_lines-push uses u h)) (plays.used shapes.l1 (data_lines uses) have.of_data);
          of_code = IsLevel-lines shapes.l1 old.of_code _ _ (sym (code_lines-push_data uses u h)) have.of_code;
          second = second-seen shapes uses u old.second second_now first second (says shapes uses have) then_second have.second;
        };
        left = λ shapes uses have. left-seen shapes uses u old.second second_now first second (says shapes uses have) then_second have.second;
      }
