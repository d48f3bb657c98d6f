use Rattle.std.proofs.Common.{length, ap, subst, sym}
use Rattle.cdp_masks.proofs.Steps.{CanAccess-cdp, IsCdpSoFar-use, owner-small}
use Rattle.cdp_masks.proofs.caches.CdpCachesCaches.make_use.Goals as goal
use Rattle.pair_play.specs.Histories.{AddsAccessIn, CanAccess}
use Rattle.pair_tree.specs.declared.tag.PairTag.{PairTag}
use Rattle.rc_base.specs.declared.names.Tag.{Tag}

pub tag_of_use-requires : goal.tag_of_use-requires
tag_of_use-requires c =
    let r = c.requires in
    record {
      owner = owner-small r.script c.args.op c.args.self.now.level r.so_far c.args.tag.now c.args.line c.args.code r.use_at;
      masks = ap (λ (t : PairTag). length t.masks) r.use_at.tag_is;
      domains = ap (λ (t : PairTag). length t.domains) r.use_at.tag_is;
    }

pub access-requires : goal.access-requires
access-requires c =
    let r = c.requires in
    subst (CanAccess c.args.self.now.level) (sym c.tag_of_use.ensures) (CanAccess-cdp r.script c.args.op c.args.self.now.level r.so_far c.args.tag.now c.args.line c.args.code r.use_at)

pub returns : goal.returns
returns c script so_far use_at =
    let l = c.args.self.now.level in
    let new = c.access.new.self in
    let hit = c.in_ok-access.field-0 in
    IsCdpSoFar-use script c.args.op l so_far c.args.tag.now c.args.line c.args.code use_at new hit c.access.ensures.parameters
    (subst (λ (t : Tag). AddsAccessIn c.args.op t c.args.line hit l.histories new.histories) c.tag_of_use.ensures c.in_ok-access.ensures.entry)
