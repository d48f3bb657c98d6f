use Rattle.std.proofs.Common.{◌≡◌, length, take, set, position, Some, subst, sym, refl, ap, ◌∙◌}
use Rattle.std.proofs.lemmas.List.{nil_from_length}
use Rattle.hw_ids.specs.MonitoringIds.{MonitoringIds, NoneFree, IsLowestFree}
use Rattle.hw_ids.specs.declared.uses.Use.TheVariants.{Taken}
use Rattle.hw_ids.specs.Ids.{with_id}
use Rattle.hw_ids.specs.Uses.{is_free}
use Rattle.hw_ids.proofs.FreeRmids.{seen, IsLowestFree-found, NoneFree-none, seen-taken}
use Rattle.hw_ids.proofs.rmids.Rmids.search.Goals as goal

position-is_free : (c : goal.After-self-1) → position is_free (take c.self.inside.count c.self.inside.uses) ≡ Some c.in-Some.rmid
position-is_free c = sym c.lowest_free.ensures ∙ c.in-Some.is

IsLowestFree-place : (c : goal.After-self-1) → IsLowestFree c.args.self.now c.in-Some.rmid
IsLowestFree-place c = subst (λ (s : MonitoringIds). IsLowestFree s c.in-Some.rmid) c.self.view_is
    (IsLowestFree-found c.self.inside.count c.self.inside.uses c.self.inside.threshold c.in-Some.rmid c.self.invariant.1 (position-is_free c))

pub returns-in-Some-clause-lowest : goal.returns-in-Some-clause-lowest
returns-in-Some-clause-lowest c = IsLowestFree-place c

pub returns-in-Some-clause-taken : goal.returns-in-Some-clause-taken
returns-in-Some-clause-taken c =
    subst (λ (s : MonitoringIds). seen c.self.inside.count (set c.self.inside.uses c.in-Some.rmid Taken) c.self.inside.threshold ≡ record s { taken = with_id c.in-Some.rmid s.taken }) c.self.view_is
    (seen-taken c.self.inside.count c.self.inside.uses c.self.inside.threshold c.in-Some.rmid c.self.invariant.1 (position-is_free c))

pub returns-in-Some-clause-spent : goal.returns-in-Some-clause-spent
returns-in-Some-clause-spent c = (λ e. absurd (cc), λ spent. absurd (spent.0 c.in-Some.rmid (IsLowestFree-place c).free))

pub returns-in-Some-clause-limbo : goal.returns-in-Some-clause-limbo
returns-in-Some-clause-limbo c = (λ e. absurd (cc), λ waits. absurd (waits.0 c.in-Some.rmid (IsLowestFree-place c).free))

pub returns-in-None-clause-spent : goal.returns-in-None-clause-spent
returns-in-None-clause-spent c =
    let none : NoneFree c.args.self.now = subst NoneFree c.self.view_is
    (NoneFree-none c.self.inside.count c.self.inside.uses c.self.inside.threshold c.self.invariant.1 (sym c.lowest_free.ensures ∙ c.in-None.is)) in
    (λ _. (none, nil_from_length c.args.self.now.limbo (sym c.limbo_len.ensures.number ∙ c.if-limbo_len-eq0.true)), λ _. refl)

pub returns-in-None-2-clause-limbo : goal.returns-in-None-2-clause-limbo
returns-in-None-2-clause-limbo c =
    let none : NoneFree c.args.self.now = subst NoneFree c.self.view_is
    (NoneFree-none c.self.inside.count c.self.inside.uses c.self.inside.threshold c.self.invariant.1 (sym c.lowest_free.ensures ∙ c.in-None.is)) in
    (λ _. (none, λ e. c.if-limbo_len-eq0.false (c.limbo_len.ensures.number ∙ ap length e)), λ _. refl)
