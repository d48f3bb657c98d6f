use Rattle.std.proofs.Common.{Bool, true, false, refl, sym, ◌∙◌, subst}
use Rattle.way_curve.specs.LevelSteps.{LevelsValue, SeesUse}
use Rattle.way_curve.proofs.LevelSteps.{PlaysLine, PlaysSecond, SeesUse-code, SeesUse-data}
use Rattle.way_curve.proofs.first_levels.FirstLevels.is_left.Goals as goal

pub returns-then-is_left_by : goal.returns-then-is_left_by
returns-then-is_left_by c =
    let old : LevelsValue = record { of_data = c.self.inside.of_data; of_code = c.self.inside.of_code; second = c.self.inside.second } in
    let new : LevelsValue = record { of_data = c.self.inside.of_data; of_code = c.is_left_by.new.level; second = c.is_left_by-then-is_left_by.new.level } in
    let first : PlaysLine old.of_code c.is_left_by.new.level c.args.used.line true = record {
      used = c.is_left_by.ensures.used;
      left = λ shape lines is. sym c.if-is_left_by.true ∙ c.is_left_by.ensures.left shape lines is;
    } in
    let second : PlaysSecond true old.second c.is_left_by-then-is_left_by.new.level c.args.used.line c.is_left_by-then-is_left_by.result = record {
      used = c.is_left_by-then-is_left_by.ensures.used;
      left = c.is_left_by-then-is_left_by.ensures.left;
    } in
    subst (λ (v : LevelsValue). SeesUse v new c.args.used c.is_left_by-then-is_left_by.result) c.self.view_is
    (SeesUse-code old c.is_left_by.new.level c.is_left_by-then-is_left_by.new.level c.args.used true c.is_left_by-then-is_left_by.result c.if-used.true first second)

pub returns-else-is_left_by : goal.returns-else-is_left_by
returns-else-is_left_by c =
    let old : LevelsValue = record { of_data = c.self.inside.of_data; of_code = c.self.inside.of_code; second = c.self.inside.second } in
    let new : LevelsValue = record { of_data = c.self.inside.of_data; of_code = c.is_left_by.new.level; second = c.self.inside.second } in
    let first : PlaysLine old.of_code c.is_left_by.new.level c.args.used.line false = record {
      used = c.is_left_by.ensures.used;
      left = λ shape lines is. sym c.if-is_left_by.false ∙ c.is_left_by.ensures.left shape lines is;
    } in
    let sees : SeesUse old new c.args.used false = SeesUse-code old c.is_left_by.new.level old.second c.args.used false false c.if-used.true first refl in
    subst (λ (v : LevelsValue). SeesUse v new c.args.used c.is_left_by.result) c.self.view_is (subst (λ (b : Bool). SeesUse old new c.args.used b) (sym c.if-is_left_by.false) sees)

pub returns-then-is_left_by-2 : goal.returns-then-is_left_by-2
returns-then-is_left_by-2 c =
    let old : LevelsValue = record { of_data = c.self.inside.of_data; of_code = c.self.inside.of_code; second = c.self.inside.second } in
    let new : LevelsValue = record { of_data = c.is_left_by-else-used.new.level; of_code = c.self.inside.of_code; second = c.is_left_by-then-is_left_by-2.new.level } in
    let first : PlaysLine old.of_data c.is_left_by-else-used.new.level c.args.used.line true = record {
      used = c.is_left_by-else-used.ensures.used;
      left = λ shape lines is. sym c.if-is_left_by-2.true ∙ c.is_left_by-else-used.ensures.left shape lines is;
    } in
    let second : PlaysSecond true old.second c.is_left_by-then-is_left_by-2.new.level c.args.used.line c.is_left_by-then-is_left_by-2.result = record {
      used = c.is_left_by-then-is_left_by-2.ensures.used;
      left = c.is_left_by-then-is_left_by-2.ensures.left;
    } in
    subst (λ (v : LevelsValue). SeesUse v new c.args.used c.is_left_by-then-is_left_by-2.result) c.self.view_is
    (SeesUse-data old c.is_left_by-else-used.new.level c.is_left_by-then-is_left_by-2.new.level c.args.used true c.is_left_by-then-is_left_by-2.result c.if-used.false first second)

pub returns-else-is_left_by-2 : goal.returns-else-is_left_by-2
returns-else-is_left_by-2 c =
    let old : LevelsValue = record { of_data = c.self.inside.of_data; of_code = c.self.inside.of_code; second = c.self.inside.second } in
    let new : LevelsValue = record { of_data = c.is_left_by-else-used.new.level; of_code = c.self.inside.of_code; second = c.self.inside.second } in
    let first : PlaysLine old.of_data c.is_left_by-else-used.new.level c.args.used.line false = record {
      used = c.is_left_by-else-used.ensures.used;
      left = λ shape lines is. sym c.if-is_left_by-2.false ∙ c.is_left_by-else-used.ensures.left shape lines is;
    } in
    let sees : SeesUse old new c.args.used false = SeesUse-data old c.is_left_by-else-used.new.level old.second c.args.used false false c.if-used.false first refl in
    subst (λ (v : LevelsValue). SeesUse v new c.args.used c.is_left_by-else-used.result) c.self.view_is (subst (λ (b : Bool). SeesUse old new c.args.used b) (sym c.if-is_left_by-2.false) sees)
