use Rattle.std.proofs.Common.{◌≡◌, List, ℕ, [], ◌∷◌, ◌++◌, ap, ◌∙◌}
use Rattle.std.specs.Prelude.{codes, decimal}
use Rattle.way_curve.proofs.Appends.{append-two}
use Rattle.way_curve.proofs.refusal.push_bad_line.Goals as goal

pub returns : goal.returns
returns c =
    let old = c.args.out.now.bytes in
    let now = c.push_number.new.out.bytes in
    let line : now ≡ old ++ (codes "line " ++ decimal c.args.bad.line) = c.push_number.ensures.bytes ∙ ap (λ (w : List ℕ). old ++ (w ++ decimal c.args.bad.line)) c.as_slice.ensures in
    let fault : c.push_all.new.self.bytes ≡ now ++ (codes ": bad trace line" ++ 10 ∷ []) = c.push_all.ensures.bytes ∙ ap (λ (w : List ℕ). now ++ w) c.as_slice-2.ensures in
    append-two old now c.push_all.new.self.bytes (codes "line " ++ decimal c.args.bad.line) (codes ": bad trace line" ++ 10 ∷ []) line fault
