use Rattle.std.proofs.Common.{◌≡◌, length, find, Some, sym, subst, arith}
use Rattle.group_tree.specs.Records.{has_gid}
use Rattle.machine.specs.Maps.{parameters_of}
use Rattle.schemata_text.specs.Reading.{AreLawful}
use Rattle.tree_core.proofs.Assignments.{All-domains_of}
use Rattle.tree_core.proofs.KeptTables.{Keeps-from_IsKept, length-found_masks}
use Rattle.tree_core.specs.Values.{TreeValue}
use Rattle.tree_law.specs.Space.{geometry_of}
use Rattle.tree_core.proofs.tree.Tree.write_masks.Goals as goal

pub assign-requires : goal.assign-requires
assign-requires c =
    let t = c.self.inside in
    let g = c.args.group.now in
    let there : find (has_gid g.gid) t.groups.groups ≡ Some g = subst (λ (v : TreeValue). find (has_gid g.gid) v.state.groups ≡ Some g) (sym c.self.view_is) c.requires.there in
    let lawful : AreLawful (geometry_of (parameters_of t.machine)) t.machine.domains c.args.all.now = subst (λ (v : TreeValue). AreLawful (geometry_of v.machine) v.machine.domains c.args.all.now) (sym c.self.view_is) c.requires.lawful in
    let long : length g.masks ≡ 8 = length-found_masks (Keeps-from_IsKept c.self.invariant) g.gid g there in
    let most = t.machine.in_range.domain_limit in
    record { exist = λ k d within. let below = All-domains_of t.machine.domains c.args.all.now lawful.exist k d within in omega (arith, below, long, most) }
