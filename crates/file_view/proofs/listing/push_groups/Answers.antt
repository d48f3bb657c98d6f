use Rattle.std.proofs.Common.{◌++◌, take, ap, ◌∙◌, sym, arith, append_assoc, length-append}
use Rattle.std.specs.List.{flat_map}
use Rattle.file_view.specs.Listings.{group_line}
use Rattle.file_view.proofs.NameLines.{flat_map-group_line_take, flat_map-group_line_take_suc, slice_get-none}
use Rattle.file_view.proofs.listing.push_groups.Goals as goal
use Rattle.file_view.proofs.listing.push_groups.Goals.{in-Some, in_default}

pub loop-i-preserved : goal.loop-i-preserved
loop-i-preserved c = elim c.match-at.branch [
  | in-Some w ↦
      let names = c.args.names.now in
      let parent = c.args.parent in
      let groups = c.args.groups.now.groups in
      let line = group_line names parent w.in-Some.group.now in
      let lines = flat_map (group_line names parent) (take c.loop-i.i groups) in
      let before = c.loop-i.invariant in
      let last = w.push_group.ensures in
      rw (flat_map-group_line_take_suc names parent groups c.loop-i.i w.in-Some.group.now (sym w.in-Some.ensures.found), w.out-is) (record {
        bytes = last.bytes ∙ (ap (λ t. t ++ line) before.bytes ∙ append_assoc c.args.out.now.bytes lines line);
        spare = omega (arith, before.spare, last.spare, length-append lines line);
        short = omega (arith, before.short, last.short, length-append lines line);
      })
  | in_default w ↦ absurd (slice_get-none c.args.groups.now.groups c.loop-i.i w.in_default.ensures.found (omega (arith, c.loop-i-test.true, c.len-i-end.ensures.count)))
]

pub returns-clause-bytes : goal.returns-clause-bytes
returns-clause-bytes c =
    c.loop-i.invariant.bytes ∙ ap (λ t. c.args.out.now.bytes ++ t) (flat_map-group_line_take c.args.names.now c.args.parent c.args.groups.now.groups c.loop-i.i (omega (arith, c.len-i-end.ensures.count)))

pub returns-clause-spare : goal.returns-clause-spare
returns-clause-spare c =
    let all = flat_map-group_line_take c.args.names.now c.args.parent c.args.groups.now.groups c.loop-i.i (omega (arith, c.len-i-end.ensures.count)) in
    rw (sym all) c.loop-i.invariant.spare
