use Rattle.std.proofs.Common.{◌≡◌, ℕ, true, false, List, refl, sym, subst, ap, ap₂, ◌∙◌, arith}
use Rattle.std.specs.List.{slice_get}
use Rattle.cache_core.specs.declared.entry.SliceEntry.{SliceEntry}
use Rattle.pair_law.specs.Epochs.{state_at}
use Rattle.pair_windows.proofs.CdpDomains.{IsClosable-due}
use Rattle.pair_windows.proofs.CdpMeets.{IsWalked-met}
use Rattle.pair_windows.proofs.laws.RisingEpochs.{RiseByEpoch-run}
use Rattle.pair_windows.specs.CdpWalks.{IsWalked, IsWalkedIn, entries_of_domain, is_of, journals_of}
use Rattle.pair_windows.specs.Counted.{RiseByEpoch}
use Rattle.pair_windows.proofs.cdp_walks.meet.Goals as goal

pub loop-entries-init : goal.loop-entries-init
loop-entries-init c = record {
  own = refl;
  walked = c.requires.walked;
  small = let exists = c.requires.exists in let few = c.requires.played.playable.lawful.machines.in_range.domain_limit in omega (arith, exists, few);
}

pub close-requires-clause-can : goal.close-requires-clause-can
close-requires-clause-can c =
    let run = c.args.run.now in
    let epoch = c.args.replay.now.tree.epoch in
    let w = c.loop-entries.walk in
    let due : is_of epoch (slice_get (entries_of_domain run c.args.walk.now.domain) w.next) ≡ true =
    ap₂ (λ (n : ℕ) (l : List SliceEntry). is_of n (slice_get l w.next)) (sym c.epoch.ensures) (sym c.entries_in-entries.ensures) ∙ (sym c.is_due.ensures ∙ c.loop-entries-test.true) in
    IsClosable-due run epoch epoch c.args.walk.now.domain w c.loop-entries.invariant.walked c.requires.played c.requires.exists due

pub loop-entries-preserved : goal.loop-entries-preserved
loop-entries-preserved c =
    let run = c.args.run.now in
    let epoch = c.args.replay.now.tree.epoch in
    let domain : ℕ = c.args.walk.now.domain in
    let w = c.loop-entries.walk in
    let y = c.close.new.walk in
    let z = c.open_next.new.walk in
    let read : List SliceEntry = c.entries_in-entries.result.now in
    let entries : List SliceEntry = entries_of_domain run domain in
    let same : read ≡ entries = c.entries_in-entries.ensures in
    let own : w.domain ≡ domain = c.loop-entries.invariant.own in
    let closed = c.in_ok-close.ensures in
    let opened = c.in_ok-open_next.ensures in
    let rise : RiseByEpoch read = subst RiseByEpoch (sym same) (RiseByEpoch-run run.script.now domain (journals_of run) c.requires.played.run c.requires.exists) in
    let at : c.epoch-in-loop-entries.result ≡ epoch = c.epoch-in-loop-entries.ensures in
    let due : is_of c.epoch-in-loop-entries.result (slice_get read y.next) ≡ true =
    ap₂ (λ (n k : ℕ). is_of n (slice_get read k)) (at ∙ sym c.epoch.ensures) closed.next ∙ (sym c.is_due.ensures ∙ c.loop-entries-test.true) in
    let before : IsWalkedIn run epoch epoch domain y =
    subst (λ n. IsWalkedIn run epoch epoch n y) own (closed.walked epoch epoch (subst (λ n. IsWalkedIn run epoch epoch n w) (sym own) c.loop-entries.invariant.walked)) in
    let state = ap (λ t. t.state) c.tree.ensures ∙ (c.requires.taken.state ∙ ap (state_at run.script.now) (sym at)) in
    let after = opened.walked run.script.now domain state rise due (closed.closed ∙ sym closed.next)
    (subst (λ (l : List SliceEntry). IsWalked run.script.now l c.epoch-in-loop-entries.result c.epoch-in-loop-entries.result domain y) (sym same) (subst (λ n. IsWalked run.script.now entries n n domain y) (sym at) before)) in
    let is : z.domain ≡ w.domain = opened.domain ∙ closed.domain in
    let few = c.loop-entries.invariant.small in
    record {
      own = is ∙ own;
      walked = subst (λ n. IsWalked run.script.now entries n n domain z) at (subst (λ (l : List SliceEntry). IsWalked run.script.now l c.epoch-in-loop-entries.result c.epoch-in-loop-entries.result domain z) same after);
      small = omega (arith, is, few);
    }

pub returns : goal.returns
returns c =
    let run = c.args.run.now in
    let epoch = c.args.replay.now.tree.epoch in
    let domain : ℕ = c.args.walk.now.domain in
    let w = c.loop-entries.walk in
    let entries : List SliceEntry = entries_of_domain run domain in
    let other : is_of epoch (slice_get entries w.next) ≡ false =
    ap₂ (λ (n : ℕ) (l : List SliceEntry). is_of n (slice_get l w.next)) (sym c.epoch.ensures) (sym c.entries_in-entries.ensures) ∙ (sym c.is_due.ensures ∙ c.loop-entries-test.false) in
    IsWalked-met run.script.now domain entries epoch w c.loop-entries.invariant.walked (RiseByEpoch-run run.script.now domain (journals_of run) c.requires.played.run c.requires.exists) other
