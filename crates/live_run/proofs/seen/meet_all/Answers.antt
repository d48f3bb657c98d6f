use Rattle.std.proofs.Common.{◌≡◌, ◌<◌, ◌∙◌, length, subst, arith}
use Rattle.std.proofs.lemmas.List.{get_or_default}
use Rattle.cache_core.specs.declared.entry.SliceEntry.{SliceEntry}
use Rattle.live_run.proofs.seen.meet_all.Goals as goal
use Rattle.live_run.proofs.Meetings.{met_more, met_none}
use Rattle.live_run.specs.Cells.{pass_in}
use Rattle.live_run.specs.Names.{no_pass}
use Rattle.seen_journal.specs.Passes.{HasSeen, PassValue}
use Rattle.seen_journal.specs.Prefixes.{longer_of}

pub loop-i-init : goal.loop-i-init
loop-i-init c = met_none _ _

pub loop-i-preserved : goal.loop-i-preserved
loop-i-preserved c =
    let i = c.loop-i.i in
    let cell = c.loop-i.cell.items in
    let mine = c.loop-i.mine.items in
    let first : i < length c.args.cell.now.items = omega (arith, c.loop-i-test.true, c.len-i-end.ensures) in
    let second : i < length c.args.mine.now.items = omega (arith, first, c.requires.count) in
    let a : c.index_mut.result.now ≡ pass_in cell i = c.index_mut.ensures.value ∙ get_or_default cell i c.index_mut.result.now no_pass (omega (arith, first, c.loop-i.invariant.cell_count)) in
    let b : c.index_mut-in-loop-i.result.now ≡ pass_in mine i = c.index_mut-in-loop-i.ensures.value ∙ get_or_default mine i c.index_mut-in-loop-i.result.now no_pass (omega (arith, second, c.loop-i.invariant.mine_count)) in
    met_more i c.args.cell.now.items c.args.mine.now.items cell mine c.meet.new.a c.meet.new.b first second c.loop-i.invariant
    (subst (λ (p : PassValue SliceEntry). HasSeen p c.meet.new.a (longer_of p.seen (pass_in mine i).seen)) a (subst (λ (q : PassValue SliceEntry). HasSeen c.index_mut.result.now c.meet.new.a (longer_of c.index_mut.result.now.seen q.seen)) b c.meet.ensures.a))
    (subst (λ (p : PassValue SliceEntry). HasSeen (pass_in mine i) c.meet.new.b (longer_of p.seen (pass_in mine i).seen)) a (subst (λ (q : PassValue SliceEntry). HasSeen q c.meet.new.b (longer_of c.index_mut.result.now.seen q.seen)) b c.meet.ensures.b))
