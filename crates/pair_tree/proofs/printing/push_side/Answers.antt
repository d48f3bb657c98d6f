use Rattle.std.proofs.Common.{length, ap, arith, ◌∙◌}
use Rattle.pair_law.specs.Reading.{side_name}
use Rattle.pair_tree.proofs.SideLines.{append-line, length-line, length-side_name, side_line-parts}
use Rattle.pair_tree.specs.Printed.{entry_at, others_text}
use Rattle.pair_tree.proofs.printing.push_side.Goals as goal

pub returns-clause-bytes : goal.returns-clause-bytes
returns-clause-bytes c =
    let m = c.args.m.now in let g = c.args.g.now in let side = c.args.side in
    rw (c.push-2.ensures.bytes, c.push_others.ensures.bytes, c.push_domain.ensures.bytes, c.push.ensures.bytes, c.push_all.ensures.bytes, c.as_bytes.ensures.value, c.side_name.ensures, side_line-parts m g side c.requires.some)
    (append-line c.args.out.now.bytes (side_name m.l2 side) (entry_at m g side 0) (others_text m g side 1))

pub returns-clause-spare : goal.returns-clause-spare
returns-clause-spare c =
    let m = c.args.m.now in let g = c.args.g.now in let side = c.args.side in
    let name = ap length (c.as_bytes.ensures.value ∙ c.side_name.ensures) in
    rw (side_line-parts m g side c.requires.some)
    (omega (arith, name, length-line (side_name m.l2 side) (entry_at m g side 0) (others_text m g side 1), c.push-2.ensures.spare, c.push_others.ensures.spare, c.push_domain.ensures.spare, c.push.ensures.spare, c.push_all.ensures.spare))

pub returns-clause-short : goal.returns-clause-short
returns-clause-short c =
    let m = c.args.m.now in let g = c.args.g.now in let side = c.args.side in
    rw (side_line-parts m g side c.requires.some)
    (omega (arith, length-line (side_name m.l2 side) (entry_at m g side 0) (others_text m g side 1), length-side_name m.l2 side, c.push_domain.ensures.short, c.push_others.ensures.short))
