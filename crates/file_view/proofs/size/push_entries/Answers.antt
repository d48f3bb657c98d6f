use Rattle.std.proofs.Common.{◌≡◌, ◌-◌, ◌++◌, [], length, codes, get_or, take, drop, ap, arith, length-append, append_assoc}
use Rattle.machine.specs.Maps.{parameters_of}
use Rattle.std.proofs.lemmas.List.{nil_from_length}
use Rattle.schemata_text.specs.declared.assignment.Assignment.{Assignment}
use Rattle.file_view.specs.GroupFiles.{size_entry}
use Rattle.file_view.proofs.Sizes.{others_text, size_line-none, size_line-parts}
use Rattle.file_view.proofs.size.push_entries.Goals as goal

pub returns-in_default-clause-bytes : goal.returns-in_default-clause-bytes
returns-in_default-clause-bytes c =
    let none : c.args.masks.now ≡ [] = nil_from_length c.args.masks.now (omega arith) in
    let text = size_line-none (parameters_of c.args.m.now) in
    cc

pub returns-in_default-clause-spare : goal.returns-in_default-clause-spare
returns-in_default-clause-spare c =
    let none : c.args.masks.now ≡ [] = nil_from_length c.args.masks.now (omega arith) in
    rw (none, size_line-none) (omega (arith, ap length c.as_slice.ensures))

pub returns-clause-bytes : goal.returns-clause-bytes
returns-clause-bytes c =
    let masks = c.args.masks.now in
    let none : Assignment = record { domain = 0; mask = 0 } in
    let others = others_text (parameters_of c.args.m.now) (take c.loop-a.a-index (take (length masks - 1) (drop 1 masks))) in
    let text = size_line-parts (parameters_of c.args.m.now) c.loop-a.a-index none masks c.in-len1-up.len_at_least c.loop-a-test.false in
    let joined = append_assoc c.args.out.now.bytes (codes "L3:") (size_entry (parameters_of c.args.m.now) (get_or masks 0 none)) in
    let joined_all = append_assoc c.args.out.now.bytes (codes "L3:" ++ size_entry (parameters_of c.args.m.now) (get_or masks 0 none)) others in
    let joined_text = append_assoc (codes "L3:") (size_entry (parameters_of c.args.m.now) (get_or masks 0 none)) others in
    cc

pub returns-clause-spare : goal.returns-clause-spare
returns-clause-spare c =
    let masks = c.args.masks.now in
    let none : Assignment = record { domain = 0; mask = 0 } in
    let others = others_text (parameters_of c.args.m.now) (take c.loop-a.a-index (take (length masks - 1) (drop 1 masks))) in
    let text = size_line-parts (parameters_of c.args.m.now) c.loop-a.a-index none masks c.in-len1-up.len_at_least c.loop-a-test.false in
    rw text (omega (arith, ap length c.as_slice.ensures, length-append (codes "L3:") (size_entry (parameters_of c.args.m.now) (get_or masks 0 none) ++ others), length-append (size_entry (parameters_of c.args.m.now) (get_or masks 0 none)) others, c.loop-a.invariant.spare, c.push_entry.ensures.spare))

pub returns-in_default-clause-short : goal.returns-in_default-clause-short
returns-in_default-clause-short c =
    let none : c.args.masks.now ≡ [] = nil_from_length c.args.masks.now (omega arith) in
    rw (none, size_line-none) (omega arith)

pub push_entry-requires-in-loop-a : goal.push_entry-requires-in-loop-a
push_entry-requires-in-loop-a c = record {
  room = omega (arith, ap length c.as_slice.ensures, c.push_all.ensures.spare, c.push_entry.ensures.spare, c.push_entry.ensures.short, c.loop-a.invariant.spare, c.loop-a.invariant.short, c.push.ensures.spare);
}

pub returns-clause-short : goal.returns-clause-short
returns-clause-short c =
    let masks = c.args.masks.now in
    let none : Assignment = record { domain = 0; mask = 0 } in
    let others = others_text (parameters_of c.args.m.now) (take c.loop-a.a-index (take (length masks - 1) (drop 1 masks))) in
    let text = size_line-parts (parameters_of c.args.m.now) c.loop-a.a-index none masks c.in-len1-up.len_at_least c.loop-a-test.false in
    rw text (omega (arith, length-append (codes "L3:") (size_entry (parameters_of c.args.m.now) (get_or masks 0 none) ++ others), length-append (size_entry (parameters_of c.args.m.now) (get_or masks 0 none)) others, c.loop-a.invariant.short, c.push_entry.ensures.short))
