use Rattle.std.proofs.Common.{◌≡◌, ℕ, ◌+◌, ap, refl, subst}
use Rattle.journal_text.proofs.Steps.{HasTaken-slice_left, TakesLine-step}
use Rattle.journal_text.specs.LinePositions.{LeadsFromSlices}
use Rattle.journal_text.specs.States.{state_at, with_slice}
use Rattle.journal_text.proofs.reader.Reader.leave_slice.Goals as goal

pub returns-in_ok-end_slice-in-Some : goal.returns-in_ok-end_slice-in-Some
returns-in_ok-end_slice-in-Some g c =
    let script = c.args.weighed.now.script.now in
    let line = c.args.line.now in
    let from = c.args.self.now.position in
    let next = c.in-Some.next in
    let count : c.from.result + 1 ≡ c.args.slice + 1 = ap (λ (n : ℕ). n + 1) c.from.ensures in
    let led : LeadsFromSlices script (c.args.slice + 1) line next = subst (λ (n : ℕ). LeadsFromSlices script n line next) count c.in-Some.ensures in
    TakesLine-step script line from (g.K.Keeper.keeps c.args.self.now.keeper script) next (g.K.Keeper.keeps c.end_slice.new.self script) with_slice c.in_ok-end_slice-in-Some.ensures
    (λ parts. HasTaken-slice_left script line (state_at from parts) (state_at next (with_slice parts)) c.args.slice c.requires.position led refl)
