use Rattle.std.proofs.Common.{ℕ, ◌++◌, List, map, filter, refl, subst, ap, ap₂, ◌∙◌}
use Rattle.cache_core.specs.declared.entry.SliceEntry.{SliceEntry}
use Rattle.cache_core.specs.declared.entry.What.TheVariants as whats
use Rattle.pair_text.specs.Values.{epoch_at}
use Rattle.pair_windows.proofs.DomainSteps.{HasFound-closed}
use Rattle.pair_windows.proofs.FlushedWindows.{windows_from-counted}
use Rattle.pair_windows.specs.JointCounted.{counted_windows, is_used}
use Rattle.pair_windows.specs.LevelSpans.{stay_of}
use Rattle.pair_windows.specs.declared.domain_walks.DomainWalk.{DomainWalk}
use Rattle.pair_windows.specs.declared.joint_window.JointWindow.{JointWindow}
use Rattle.pair_windows.specs.declared.level_masks.LevelMasks.{LevelMasks}
use Rattle.private_lru.specs.Tallies.{AreCounted}
use Rattle.private_lru.specs.declared.counts.WindowCounts.{WindowCounts}
use Rattle.private_lru.specs.declared.span.Span.{Span}
use Rattle.pair_windows.proofs.joint_counted.close.Goals as goal

pub returns : goal.returns
returns c = λ hits from last domain can exists epoch walked.
    let script = c.args.script.now in
    let w = c.args.walk.now in
    let part = w.segment in
    let c2 : List WindowCounts = c.in_ok-l2.l2.items in
    let c3 : List WindowCounts = c.in_ok-l3.l3.items in
    let sets : ℕ = c.machine.result.now.sets in
    let one : AreCounted sets whats.Flush part.l2.items (map stay_of part.held.items) c2 =
    subst (λ (l : List SliceEntry). AreCounted sets whats.Flush l (map stay_of part.held.items) c2) c.deref-2.ensures.value
    (subst (λ (hs : List (Span LevelMasks)). AreCounted sets whats.Flush c.deref-2.result.now (map stay_of hs) c2) c.deref.ensures.value c.in_ok-l2.ensures) in
    let two : AreCounted sets whats.Flush part.l3.items (map stay_of part.held.items) c3 =
    subst (λ (l : List SliceEntry). AreCounted sets whats.Flush l (map stay_of part.held.items) c3) c.deref-4.ensures.value
    (subst (λ (hs : List (Span LevelMasks)). AreCounted sets whats.Flush c.deref-4.result.now (map stay_of hs) c3) c.deref-3.ensures.value c.in_ok-l3.ensures) in
    let new : DomainWalk = record { domain = w.domain; segment = part; windows = c.push_counted.new.windows } in
    let d6 : List WindowCounts = c.deref-6.result.now in
    let d7 : List WindowCounts = c.deref-7.result.now in
    HasFound-closed script hits from domain w new refl last can walked.found
    (λ j played a b.
    c.in_ok-push_counted.ensures
    ∙ ap (λ (l : List JointWindow). w.windows.items ++ l)
    (ap₂ (λ (k n : ℕ). filter is_used (counted_windows k n c.deref-5.result.now d6 d7)) walked.found.own epoch
    ∙ (ap (λ (hs : List (Span LevelMasks)). filter is_used (counted_windows domain (epoch_at script from) hs d6 d7)) c.deref-5.ensures.value
    ∙ (ap₂ (λ (xs ys : List WindowCounts). filter is_used (counted_windows domain (epoch_at script from) part.held.items xs ys)) c.deref-6.ensures.value c.deref-7.ensures.value
    ∙ windows_from-counted script j domain from last sets played exists can.flush can.segment hits.l2.items hits.l3.items a b part.held.items part.l2.items part.l3.items c2 c3 walked.held walked.l2 walked.l3 one two))))
