use Rattle.std.proofs.Common.{◌≡◌, refl, Some, find, sym, subst, ap, ◌∙◌}
use Rattle.std.specs.Option.{option_copied}
use Rattle.group_tree.specs.Records.{has_gid}
use Rattle.machine.specs.Maps.{parameters_of}
use Rattle.path_names.specs.declared.dirs.DirRef.TheVariants.{Ctrl}
use Rattle.tree_core.proofs.ControlGroups.{IsControl-found, has_group-named}
use Rattle.tree_core.proofs.KeptTables.{Keeps-from_IsKept}
use Rattle.tree_core.specs.Found.{IsControl}
use Rattle.tree_core.specs.Tables.{state_of, tables}
use Rattle.tree_core.specs.Values.{TreeValue}
use Rattle.tree_law.specs.Existing.{directory_gid}
use Rattle.tree_core.proofs.tree.Tree.control.Goals as goal

pub unwrap-group-requires : goal.unwrap-group-requires
unwrap-group-requires c = c.get.ensures.there ∙ has_group-named (Keeps-from_IsKept c.self.invariant) c.args.name c.in-Some.gid (sym c.in-Some.ensures.found)

pub returns : goal.returns
returns c =
    let t = c.self.inside in
    let m = parameters_of t.machine in
    let s = state_of m (tables t.groups t.tasks t.cpus t.classes t.rmids t.regions) t.status t.next_gid in
    let g = c.unwrap-group.result.now in
    let found : find (has_gid c.in-Some.gid) t.groups.groups ≡ Some g = sym c.get.ensures.found ∙ ap option_copied c.unwrap-group.ensures in
    let named : directory_gid s (Ctrl c.args.name) ≡ Some c.in-Some.gid = sym c.in-Some.ensures.found in (
      refl,
      subst (λ (v : TreeValue). IsControl v.state (record { name = c.args.name; gid = c.in-Some.gid; class = g.class })) c.self.view_is
          (IsControl-found (Keeps-from_IsKept c.self.invariant) c.args.name c.in-Some.gid g named found),
    )
