use Rattle.std.proofs.Common.{◌≡◌, ℕ, List, sym, subst, ap, ap₂, ◌∙◌}
use Rattle.std.specs.Prelude.{OnOk, slice_get}
use Rattle.run_windows.proofs.OneGroup.{with_new-joined, with_other-joined}
use Rattle.run_windows.specs.OneGroup.{own_of, place_in, with_new, with_other}
use Rattle.run_windows.specs.declared.exclusive_group.ExclusiveGroup.{ExclusiveGroup}
use Rattle.run_windows.proofs.edit.edit_one.Goals as goal

pub returns-in-Some-clause-now : goal.returns-in-Some-clause-now
returns-in-Some-clause-now c =
    let gid = c.args.gid in
    let groups : List ExclusiveGroup = c.args.groups.now.items in
    let at : c.place_in-at.result ≡ place_in gid groups = c.place_in-at.ensures.place ∙ ap (place_in gid) c.deref.ensures.value in
    let own : c.own_at.result ≡ own_of gid (slice_get groups (place_in gid groups)) =
    c.own_at.ensures ∙ ap₂ (λ (l : List ExclusiveGroup) (n : ℕ). own_of gid (slice_get l n)) c.deref-2.ensures.value at in
    c.edit_old.ensures.now ∙ (ap (λ n. with_other n c.args.now groups) at ∙ with_other-joined gid groups c.requires c.in-Some.old c.args.now (sym own ∙ c.in-Some.is))

pub returns-in-None-clause-now : goal.returns-in-None-clause-now
returns-in-None-clause-now c =
    let gid = c.args.gid in
    let groups : List ExclusiveGroup = c.args.groups.now.items in
    let at : c.place_in-at.result ≡ place_in gid groups = c.place_in-at.ensures.place ∙ ap (place_in gid) c.deref.ensures.value in
    let own : c.own_at.result ≡ own_of gid (slice_get groups (place_in gid groups)) =
    c.own_at.ensures ∙ ap₂ (λ (l : List ExclusiveGroup) (n : ℕ). own_of gid (slice_get l n)) c.deref-2.ensures.value at in
    subst (λ (l : List ExclusiveGroup). OnOk c.edit_new.result (c.edit_new.new.groups.items ≡ l))
    (ap (λ n. with_new n c.args.now groups) at ∙ with_new-joined gid groups c.requires c.args.now (sym own ∙ c.in-None.is)) c.edit_new.ensures.now
