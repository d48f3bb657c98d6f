use Rattle.std.proofs.Common.{◌≡◌, ◌==◌, ◌-◌, ◌+◌, length, take, drop, sym, ap, ◌∙◌, arith, length-drop}
use Rattle.std.proofs.lemmas.List.{take_all}
use Rattle.lists.proofs.Cuts.{position-some}
use Rattle.num_text.proofs.cutting.cut.Goals as goal

pub returns-in-Some-clause-back : goal.returns-in-Some-clause-back
returns-in-Some-clause-back c =
    let text = c.args.text.now in
    let i = c.in-Some.i in
    let f = position-some (λ b. b == c.args.byte) text i (sym c.place.ensures ∙ c.in-Some.is) in
    let rest : take (length text - (i + 1)) (drop (i + 1) text) ≡ drop (i + 1) text = take_all (length text - (i + 1)) (drop (i + 1) text) (omega (arith, length-drop (i + 1) text)) in
    (f.2, rest ∙ ap (λ k. drop (k + 1) text) f.0, rw rest (omega (arith, length-drop (i + 1) text, f.1, f.0)))
