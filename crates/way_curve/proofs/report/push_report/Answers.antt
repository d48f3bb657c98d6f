use Rattle.std.proofs.Common.{◌≡◌, Bool, true, false, List, ℕ, [], ◌∷◌, ◌++◌, Option, ap, ◌∙◌, refl, sym, subst}
use Rattle.std.specs.Prelude.{codes, option_map}
use Rattle.lackey_text.specs.declared.uses.LineUse.{LineUse}
use Rattle.way_curve.specs.IsCurve.{CurveValue}
use Rattle.way_curve.specs.Counting.{IsCurveOf, all_lines, code_lines, data_lines}
use Rattle.way_curve.specs.CurveTexts.{part_text}
use Rattle.way_curve.specs.FirstUses.{asked_first_uses, first_uses_if}
use Rattle.way_curve.specs.declared.first_uses.FirstUses.{FirstUses}
use Rattle.way_curve.proofs.Appends.{append-three}
use Rattle.way_curve.proofs.report.push_report.Goals as goal

-- the first uses of each part, if they are asked for
asked-all : (has_first : Bool) (uses : List LineUse) → option_map (λ (f : FirstUses). f.of_all) (asked_first_uses has_first uses) ≡ first_uses_if has_first (all_lines uses)
asked-all true uses = refl
asked-all false uses = refl

asked-data : (has_first : Bool) (uses : List LineUse) → option_map (λ (f : FirstUses). f.of_data) (asked_first_uses has_first uses) ≡ first_uses_if has_first (data_lines uses)
asked-data true uses = refl
asked-data false uses = refl

asked-code : (has_first : Bool) (uses : List LineUse) → option_map (λ (f : FirstUses). f.of_code) (asked_first_uses has_first uses) ≡ first_uses_if has_first (code_lines uses)
asked-code true uses = refl
asked-code false uses = refl

pub returns : goal.returns
returns c = λ has_first sets uses have is_first.
    let ways = c.args.ways in
    let scale = c.args.scale in
    let old = c.args.out.now.bytes in
    let a = c.push_part.new.out.bytes in
    let b = c.push_part-2.new.out.bytes in
    let new = c.push_part-3.new.out.bytes in
    let name : List ℕ = codes "data and code:" ++ 10 ∷ [] in
    let data_name : List ℕ = codes "data:" ++ 10 ∷ [] in
    let code_name : List ℕ = codes "code:" ++ 10 ∷ [] in
    let both : List ℕ = part_text scale (first_uses_if has_first (all_lines uses)) sets ways name (all_lines uses) in
    let own_data : List ℕ = part_text scale (first_uses_if has_first (data_lines uses)) sets ways data_name (data_lines uses) in
    let own_code : List ℕ = part_text scale (first_uses_if has_first (code_lines uses)) sets ways code_name (code_lines uses) in
    let of_all : IsCurveOf sets c.of_all.result.now (all_lines uses) = subst (λ (v : CurveValue). IsCurveOf sets v (all_lines uses)) (sym c.of_all.ensures) have.of_all in
    let of_data : IsCurveOf sets c.of_data.result.now (data_lines uses) = subst (λ (v : CurveValue). IsCurveOf sets v (data_lines uses)) (sym c.of_data.ensures) have.of_data in
    let of_code : IsCurveOf sets c.of_code.result.now (code_lines uses) = subst (λ (v : CurveValue). IsCurveOf sets v (code_lines uses)) (sym c.of_code.ensures) have.of_code in
    let first_all : c.first_of_all.result ≡ first_uses_if has_first (all_lines uses) =
    c.first_of_all.ensures ∙ (ap (λ (o : Option FirstUses). option_map (λ (f : FirstUses). f.of_all) o) is_first ∙ asked-all has_first uses) in
    let first_data : c.first_of_data.result ≡ first_uses_if has_first (data_lines uses) =
    c.first_of_data.ensures ∙ (ap (λ (o : Option FirstUses). option_map (λ (f : FirstUses). f.of_data) o) is_first ∙ asked-data has_first uses) in
    let first_code : c.first_of_code.result ≡ first_uses_if has_first (code_lines uses) =
    c.first_of_code.ensures ∙ (ap (λ (o : Option FirstUses). option_map (λ (f : FirstUses). f.of_code) o) is_first ∙ asked-code has_first uses) in
    let first : a ≡ old ++ both = c.push_part.ensures.bytes sets (all_lines uses) of_all
    ∙ (ap (λ (n : List ℕ). old ++ part_text scale c.first_of_all.result sets ways n (all_lines uses)) c.as_slice-all.ensures
    ∙ ap (λ (o : Option ℕ). old ++ part_text scale o sets ways name (all_lines uses)) first_all) in
    let next : b ≡ a ++ own_data = c.push_part-2.ensures.bytes sets (data_lines uses) of_data
    ∙ (ap (λ (n : List ℕ). a ++ part_text scale c.first_of_data.result sets ways n (data_lines uses)) c.as_slice-data.ensures
    ∙ ap (λ (o : Option ℕ). a ++ part_text scale o sets ways data_name (data_lines uses)) first_data) in
    let last : new ≡ b ++ own_code = c.push_part-3.ensures.bytes sets (code_lines uses) of_code
    ∙ (ap (λ (n : List ℕ). b ++ part_text scale c.first_of_code.result sets ways n (code_lines uses)) c.as_slice-code.ensures
    ∙ ap (λ (o : Option ℕ). b ++ part_text scale o sets ways code_name (code_lines uses)) first_code) in
    append-three old a b new both own_data own_code first next last
