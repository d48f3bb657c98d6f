use Rattle.std.proofs.Common.{◌≡◌, ℕ, ◌*◌, ◌≤◌, if◌then◌else◌, List, [], ◌∷◌, ◌++◌, length, sym, ap, ◌∙◌, arith, append_assoc}
use Rattle.std.specs.Prelude.{codes}
use Rattle.num_text.specs.Printed.{hexadecimal}
use Rattle.num_text.proofs.laws.Prints.{length-hexadecimal}
use Rattle.way_curve.specs.FilterTexts.{use_text}
use Rattle.way_curve.proofs.filter_text.push_use.Goals as goal

pub push_all-requires-2 : goal.push_all-requires-2
push_all-requires-2 c =
    let few : length (hexadecimal 0 (64 * c.args.used.line)) ≤ 16 = length-hexadecimal 0 (64 * c.args.used.line) (omega (arith, c.requires.line)) (omega arith) in
    omega (arith, few, c.push_hex.ensures.spare, c.push_all.ensures.spare, c.kind_text.ensures.short, c.requires.room, ap length c.as_slice.ensures)

pub returns-clause-bytes : goal.returns-clause-bytes
unfolding use_text
returns-clause-bytes c =
    let old = c.args.out.now.bytes in
    let kind : List ℕ = if c.args.used.code then codes "I  " else codes " L " in
    let number = hexadecimal 0 (64 * c.args.used.line) in
    let size : List ℕ = codes ",64" in
    let end : List ℕ = size ++ 10 ∷ [] in
    let first : c.push_all.new.self.bytes ≡ old ++ kind = c.push_all.ensures.bytes ∙ ap (λ (l : List ℕ). old ++ l) c.kind_text.ensures.text in
    let last : c.push_all-2.new.self.bytes ≡ c.push_hex.new.out.bytes ++ end = c.push_all-2.ensures.bytes ∙ ap (λ (l : List ℕ). c.push_hex.new.out.bytes ++ l) c.as_slice.ensures in
    let front : c.push_hex.new.out.bytes ≡ old ++ (kind ++ number) = c.push_hex.ensures.bytes ∙ (ap (λ (l : List ℕ). l ++ number) first ∙ append_assoc old kind number) in
    last ∙ (ap (λ (l : List ℕ). l ++ end) front ∙ (append_assoc old (kind ++ number) end ∙ ap (λ (l : List ℕ). old ++ l) (sym (append_assoc (kind ++ number) size (10 ∷ [])))))

pub returns-clause-spare : goal.returns-clause-spare
returns-clause-spare c =
    let few : length (hexadecimal 0 (64 * c.args.used.line)) ≤ 16 = length-hexadecimal 0 (64 * c.args.used.line) (omega (arith, c.requires.line)) (omega arith) in
    omega (arith, few, c.push_hex.ensures.spare, c.push_all.ensures.spare, c.push_all-2.ensures.spare, c.kind_text.ensures.short, ap length c.as_slice.ensures)
