use Rattle.std.proofs.Common.{Option, get_or, sym, subst, ap, ◌∙◌}
use Rattle.rc_base.specs.declared.names.Mode.TheVariants.{Shareable, Exclusive, Locked}
use Rattle.group_tree.specs.Counts.{ModeCountsAre, groups_with, own_group, without_some}
use Rattle.group_tree.specs.Lists.{GroupList}
use Rattle.group_tree.specs.Others.{IsUseByOthers}
use Rattle.group_tree.specs.declared.group.Group.{Group}
use Rattle.group_tree.specs.declared.mode_counts.ModeCounts.{ModeCounts}
use Rattle.group_tree.proofs.Counts.{ModeCountsAre-without_some}
use Rattle.group_tree.proofs.TestedGroups.{others_than}
use Rattle.group_tree.proofs.Unions.{IsUnionOfOthers-counted}
use Rattle.group_tree.proofs.groups.Groups.others.Goals as goal

pub returns : goal.returns
returns c =
    let gs = c.self.inside.records.value.items in
    let gid = c.args.gid in
    let domain = c.args.domain in
    let all = get_or c.self.inside.counts.domains domain c.without.result in
    let own = c.find_own-own.ensures ∙ ap (λ (t : GroupList). own_group gid t.groups) (sym c.self.view_is) in
    let kept = c.without.ensures c.without.result ∙ ap (λ (o : Option Group). without_some o domain all) own in
    let counts : ModeCountsAre c.without.result (groups_with (others_than gid gs) domain)
    = subst (λ (x : ModeCounts). ModeCountsAre x (groups_with (others_than gid gs) domain)) (sym kept)
    (ModeCountsAre-without_some gid domain gs all c.self.invariant.counted.tree.gids_differ (c.self.invariant.counted.counted.each domain c.without.result c.requires)) in
    subst (λ (t : GroupList). IsUseByOthers t gid domain c.used.result) c.self.view_is (record {
      hardware = c.used.ensures.hardware;
      shared = IsUnionOfOthers-counted gid Shareable domain gs c.without.result.shareable.digits c.used.result.shared counts.shareable c.used.ensures.shared;
      exclusive = IsUnionOfOthers-counted gid Exclusive domain gs c.without.result.exclusive.digits c.used.result.exclusive counts.exclusive c.used.ensures.exclusive;
      region = IsUnionOfOthers-counted gid Locked domain gs c.without.result.locked.digits c.used.result.region counts.locked c.used.ensures.region;
    })
