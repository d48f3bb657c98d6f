use Rattle.std.proofs.Common.{length, ap, subst, sym}
use Rattle.l2_level.proofs.Steps.{CanAccess-l2, CanAccess-l3, IsLevelsSoFar-hit, IsLevelsSoFar-miss}
use Rattle.l2_level.proofs.caches.LevelCachesCaches.make_use.Goals as goal
use Rattle.pair_play.specs.Histories.{AddsAccessIn, CanAccess}
use Rattle.pair_tree.specs.declared.tag.PairTag.{PairTag}
use Rattle.rc_base.specs.declared.names.Tag.{Tag}

pub side_tag-requires : goal.side_tag-requires
side_tag-requires c =
    let tag_is = c.requires.use_at.tag_is in
    record { masks = ap (λ (t : PairTag). length t.masks) tag_is; domains = ap (λ (t : PairTag). length t.domains) tag_is }

pub access-requires : goal.access-requires
access-requires c =
    let r = c.requires in
    let old = c.args.self.now in
    subst (CanAccess old.l2) (sym c.side_tag.ensures) (CanAccess-l2 r.script c.args.op old.l2 old.l3 r.so_far c.args.tag.now c.args.line c.args._code r.use_at)

pub side_tag-requires-2 : goal.side_tag-requires-2
side_tag-requires-2 c =
    let tag_is = c.requires.use_at.tag_is in
    record { masks = ap (λ (t : PairTag). length t.masks) tag_is; domains = ap (λ (t : PairTag). length t.domains) tag_is }

pub access-requires-2 : goal.access-requires-2
access-requires-2 c =
    let r = c.requires in
    let old = c.args.self.now in
    subst (CanAccess old.l3) (sym c.side_tag-2.ensures) (CanAccess-l3 r.script c.args.op old.l2 old.l3 r.so_far c.args.tag.now c.args.line c.args._code r.use_at)

pub returns-then-hit : goal.returns-then-hit
returns-then-hit c script so_far use_at =
    let old = c.args.self.now in
    let new = c.access.new.self in
    let hit = c.in_ok-hit.hit in
    let adds = subst (λ (t : Tag). AddsAccessIn c.args.op t c.args.line hit old.l2.histories new.histories) c.side_tag.ensures c.in_ok-hit.ensures.entry in
    IsLevelsSoFar-hit script c.args.op old.l2 old.l3 so_far c.args.tag.now c.args.line c.args._code use_at new hit c.access.ensures.parameters adds c.if-hit.true

pub returns : goal.returns
returns c script so_far use_at =
    let old = c.args.self.now in
    let l2 = c.access.new.self in
    let l3 = c.access-2.new.self in
    let hit = c.in_ok-hit.hit in
    let far_hit = c.in_ok-access.field-0 in
    let adds = subst (λ (t : Tag). AddsAccessIn c.args.op t c.args.line hit old.l2.histories l2.histories) c.side_tag.ensures c.in_ok-hit.ensures.entry in
    let far_adds = subst (λ (t : Tag). AddsAccessIn c.args.op t c.args.line far_hit old.l3.histories l3.histories) c.side_tag-2.ensures c.in_ok-access.ensures.entry in
    IsLevelsSoFar-miss script c.args.op old.l2 old.l3 so_far c.args.tag.now c.args.line c.args._code use_at l2 hit c.access.ensures.parameters adds c.if-hit.false l3 far_hit c.access-2.ensures.parameters far_adds
