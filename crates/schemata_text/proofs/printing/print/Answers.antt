use Rattle.std.proofs.Common.{◌≡◌, ◌-◌, ◌++◌, [], length, codes, get_or, take, drop, ap, arith, length-append, append_assoc}
use Rattle.std.proofs.lemmas.List.{nil_from_length}
use Rattle.schemata_text.specs.declared.assignment.Assignment.{Assignment}
use Rattle.schemata_text.specs.Printed.{entry_text}
use Rattle.schemata_text.proofs.laws.Entries.{others_text, printed-none}
use Rattle.schemata_text.proofs.Parts.{printed-parts}
use Rattle.schemata_text.proofs.printing.print.Goals as goal

pub returns-in_default-clause-bytes : goal.returns-in_default-clause-bytes
returns-in_default-clause-bytes c =
    let none : c.args.masks.now ≡ [] = nil_from_length c.args.masks.now (omega arith) in
    let text = printed-none c.args.ways in
    cc

pub returns-in_default-clause-spare : goal.returns-in_default-clause-spare
returns-in_default-clause-spare c =
    let none : c.args.masks.now ≡ [] = nil_from_length c.args.masks.now (omega arith) in
    rw (none, printed-none) (omega (arith, ap length c.as_slice.ensures))

pub returns-clause-bytes : goal.returns-clause-bytes
returns-clause-bytes c =
    let masks = c.args.masks.now in
    let none : Assignment = record { domain = 0; mask = 0 } in
    let others = others_text c.args.ways (take c.loop-a.a-index (take (length masks - 1) (drop 1 masks))) in
    let text = printed-parts c.args.ways c.loop-a.a-index none masks c.in-len1-up.len_at_least c.loop-a-test.false in
    let joined = append_assoc c.args.out.now.bytes (codes "L3:") (entry_text c.args.ways (get_or masks 0 none)) in
    let joined_all = append_assoc c.args.out.now.bytes (codes "L3:" ++ entry_text c.args.ways (get_or masks 0 none)) others in
    let joined_text = append_assoc (codes "L3:") (entry_text c.args.ways (get_or masks 0 none)) others in
    cc

pub returns-clause-spare : goal.returns-clause-spare
returns-clause-spare c =
    let masks = c.args.masks.now in
    let none : Assignment = record { domain = 0; mask = 0 } in
    let others = others_text c.args.ways (take c.loop-a.a-index (take (length masks - 1) (drop 1 masks))) in
    let text = printed-parts c.args.ways c.loop-a.a-index none masks c.in-len1-up.len_at_least c.loop-a-test.false in
    rw text (omega (arith, ap length c.as_slice.ensures, length-append (codes "L3:") (entry_text c.args.ways (get_or masks 0 none) ++ others), length-append (entry_text c.args.ways (get_or masks 0 none)) others, c.loop-a.invariant.spare, c.push_entry.ensures.spare))
