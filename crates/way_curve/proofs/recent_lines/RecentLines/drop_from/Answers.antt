use Rattle.std.proofs.Common.{◌≡◌, ℕ, ◌≤◌, ◌++◌, List, Option, None, Some, length, take, drop, set, ap, sym, ◌∙◌, arith, length-set}
use Rattle.std.specs.List.{position_from}
use Rattle.std.proofs.lemmas.List.{length-take-le, set-append_right, take-append-drop}
use Rattle.way_curve.specs.Slots.{dropped, has_line, slots_of}
use Rattle.way_curve.proofs.SlotMoves.{dropped-found, dropped-none}
use Rattle.way_curve.proofs.SlotWords.{length-slots_of}
use Rattle.way_curve.proofs.recent_lines.RecentLines.drop_from.Goals as goal

-- a hole in one of the slots from one on
hole-from : (x from slot : ℕ) (slots : List (Option ℕ)) → from ≤ length slots → position_from (has_line x) from (drop from slots) ≡ Some slot → set slots slot None ≡ take from slots ++ dropped x (drop from slots)
hole-from x from slot slots le is =
    let found = dropped-found x from slot (drop from slots) is in
    ap (λ (l : List (Option ℕ)). set l slot None) (sym (take-append-drop from slots))
    ∙ (set-append_right (take from slots) (drop from slots) from slot None (length-take-le from slots le) found.0
    ∙ ap (λ (l : List (Option ℕ)). take from slots ++ l) (sym found.2))

-- and none
none-from : (x from : ℕ) (slots : List (Option ℕ)) → position_from (has_line x) from (drop from slots) ≡ None → slots ≡ take from slots ++ dropped x (drop from slots)
none-from x from slots is =
    sym (take-append-drop from slots) ∙ ap (λ (l : List (Option ℕ)). take from slots ++ l) (sym (dropped-none x from (drop from slots) is))

pub returns-in-Some-clause-slot : goal.returns-in-Some-clause-slot
returns-in-Some-clause-slot c = sym c.in-Some.is ∙ (c.slot_from.ensures.slot ∙ ap (λ (l : List (Option ℕ)). position_from (has_line c.args.line) c.args.from (drop c.args.from l)) c.self.view_is)

pub returns-in-Some-clause-dropped : goal.returns-in-Some-clause-dropped
returns-in-Some-clause-dropped c =
    let slots : List (Option ℕ) = slots_of c.self.inside.holes c.self.inside.lines in
    c.clear.ensures
    ∙ (ap (λ (l : List (Option ℕ)). set l c.in-Some.slot None) (sym c.self.view_is)
    ∙ (hole-from c.args.line c.args.from c.in-Some.slot slots (omega (arith, c.requires, length-slots_of c.self.inside.holes c.self.inside.lines)) (sym c.slot_from.ensures.slot ∙ c.in-Some.is)
    ∙ ap (λ (l : List (Option ℕ)). take c.args.from l ++ dropped c.args.line (drop c.args.from l)) c.self.view_is))

pub returns-in-Some-clause-all : goal.returns-in-Some-clause-all
returns-in-Some-clause-all c =
    ap length c.clear.ensures
    ∙ (ap (λ (l : List (Option ℕ)). length (set l c.in-Some.slot None)) (sym c.self.view_is)
    ∙ (length-set (slots_of c.self.inside.holes c.self.inside.lines) c.in-Some.slot None ∙ length-slots_of c.self.inside.holes c.self.inside.lines))

pub returns-in-None-clause-slot : goal.returns-in-None-clause-slot
returns-in-None-clause-slot c = sym c.in-None.is ∙ (c.slot_from.ensures.slot ∙ ap (λ (l : List (Option ℕ)). position_from (has_line c.args.line) c.args.from (drop c.args.from l)) c.self.view_is)

pub returns-in-None-clause-dropped : goal.returns-in-None-clause-dropped
returns-in-None-clause-dropped c =
    let slots : List (Option ℕ) = slots_of c.self.inside.holes c.self.inside.lines in
    sym c.self.view_is
    ∙ (none-from c.args.line c.args.from slots (sym c.slot_from.ensures.slot ∙ c.in-None.is)
    ∙ ap (λ (l : List (Option ℕ)). take c.args.from l ++ dropped c.args.line (drop c.args.from l)) c.self.view_is)

pub returns-in-None-clause-all : goal.returns-in-None-clause-all
returns-in-None-clause-all c = ap length (sym c.self.view_is) ∙ length-slots_of c.self.inside.holes c.self.inside.lines
