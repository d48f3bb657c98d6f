use Rattle.std.proofs.Common.{◌≡◌, List, [], ◌∷◌, ◌++◌, Option, refl, sym, subst, ap, ◌∙◌}
use Rattle.run_windows.proofs.ChangeLists.{AreChanges-changed, AreChanges-latest}
use Rattle.run_windows.proofs.ChangedGroups.{AreRisen-replayed}
use Rattle.run_windows.proofs.ExclusiveLists.{joined-exclusive}
use Rattle.run_windows.specs.Changes.{AreChanges}
use Rattle.run_windows.specs.Edits.{changes_of, edited}
use Rattle.run_windows.specs.OneGroup.{before, joined, others}
use Rattle.run_windows.specs.Stays.{exclusive_in}
use Rattle.run_windows.specs.declared.changes.Log.{Log}
use Rattle.run_windows.specs.declared.edit.Edit.{Edit}
use Rattle.run_windows.specs.declared.exclusive_group.ExclusiveGroup.{ExclusiveGroup}
use Rattle.run_windows.proofs.changes.push_changed.Goals as goal

pub returns-in_ok-push-in-Some : goal.returns-in_ok-push-in-Some
returns-in_ok-push-in-Some c =
    let script = c.args.run.now.script.now in
    let j = c.args.run.now.journals.now in
    let tree = c.args.tree.now in
    let log = c.args.log.now in
    let gid = c.args.gid in
    let new : Log = record { pasts = c.push.new.self; from = c.epoch-log.result; latest = c.edit_one.new.groups } in
    let now : new.latest.items ≡ exclusive_in tree.state.groups =
    c.in_ok-edit.ensures.now ∙ (ap (λ (o : Option ExclusiveGroup). joined gid o (others gid log.latest.items)) c.exclusive_group.ensures
    ∙ joined-exclusive gid log.latest.items tree.state.groups (AreRisen-replayed script j c.requires.lawful c.requires.run tree c.requires.replayed) c.requires.others) in
    let was : edited c.in-Some.edit new.latest.items ≡ log.latest.items = ap (λ (o : Option Edit). before o new.latest.items) (sym c.in-Some.is) ∙ c.in_ok-edit.ensures.before in
    AreChanges-changed script j tree log new (record { from = log.from; edit = c.in-Some.edit }) c.requires.replayed now c.requires.changes c.epoch-log.ensures refl was c.in_ok-push-in-Some.ensures.items

pub returns-in-None : goal.returns-in-None
returns-in-None c =
    let script = c.args.run.now.script.now in
    let j = c.args.run.now.journals.now in
    let tree = c.args.tree.now in
    let log = c.args.log.now in
    let gid = c.args.gid in
    let new : Log = record { pasts = log.pasts; from = log.from; latest = c.edit_one.new.groups } in
    let now : new.latest.items ≡ exclusive_in tree.state.groups =
    c.in_ok-edit.ensures.now ∙ (ap (λ (o : Option ExclusiveGroup). joined gid o (others gid log.latest.items)) c.exclusive_group.ensures
    ∙ joined-exclusive gid log.latest.items tree.state.groups (AreRisen-replayed script j c.requires.lawful c.requires.run tree c.requires.replayed) c.requires.others) in
    let same : new.latest.items ≡ log.latest.items = ap (λ (o : Option Edit). before o new.latest.items) (sym c.in-None.is) ∙ c.in_ok-edit.ensures.before in
    AreChanges-latest script j tree new c.requires.replayed now
    (subst (λ (l : List ExclusiveGroup). AreChanges script j tree.epoch (changes_of l log.pasts.items ++ record { from = log.from; exclusive = l } ∷ [])) (sym same) c.requires.changes)
