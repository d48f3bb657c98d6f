use Rattle.std.proofs.Common.{◌≡◌, sym, subst, true}
use Rattle.std.specs.Prelude.{◌<◌, length}
use Rattle.std.specs.List.{after_first, list_any}
use Rattle.way_curve.specs.Reading.{IsOpen}
use Rattle.way_curve.proofs.WholeLines.{cut_at_newline, newline}
use Rattle.way_curve.proofs.splitting.split_line.Goals as goal

pub returns-in-Some : goal.returns-in-Some
returns-in-Some c =
    let text = c.args.text.now in
    let back : (list_any newline text ≡ true) × (c.in-Some.rest.now ≡ after_first newline text) × (length c.in-Some.rest.now < length text) = rw c.in-Some.is at c.cut.ensures.back in
    let its = cut_at_newline text back.0 in
    record { text = cc; is_open = subst IsOpen (sym c.cut.ensures.front) its.1 }
