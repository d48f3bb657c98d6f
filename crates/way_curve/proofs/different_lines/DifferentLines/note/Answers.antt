use Rattle.std.proofs.Common.{[], ◌∷◌, subst}
use Rattle.way_curve.specs.Noted.{NotedLines, NoteLines}
use Rattle.way_curve.proofs.FirstCounts.{NoteLines-push}
use Rattle.way_curve.proofs.different_lines.DifferentLines.note.Goals as goal

pub returns-in-Ok : goal.returns-in-Ok
returns-in-Ok c =
    let old : NotedLines = record { lines = c.self.inside.lines.keys; is_out = c.self.inside.is_out } in
    let new : NotedLines = record { lines = c.insert.new.self.keys; is_out = c.self.inside.is_out } in
    subst (λ (v : NotedLines). NoteLines v new (c.args.line ∷ [])) c.self.view_is
    (NoteLines-push old new c.args.line c.in-Ok.field-0 c.if-self.false c.in-Ok.ensures.added c.in-Ok.ensures.len c.in-Ok.ensures.updates.0)
