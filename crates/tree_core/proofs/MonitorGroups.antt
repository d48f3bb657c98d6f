-- The monitor group of a name.
use Rattle.std.proofs.Common.{◌≡◌, ◌≢◌, ℕ, ◌<◌, true, false, find, get_or, length, Some, inl, inr, sym, ap, ◌∙◌}
use Rattle.std.specs.Option.{option_map}
use Rattle.std.proofs.lemmas.Bool.{and_parts, eq-eqb, eqb-true}
use Rattle.std.proofs.lemmas.List.Folds.{Any-from_list_any, list_any_at}
use Rattle.group_tree.specs.Lists.{has_group}
use Rattle.group_tree.specs.Records.{has_gid, has_name, is_monitor_named, is_monitor_of}
use Rattle.group_tree.specs.declared.group.Group.{Group}
use Rattle.group_tree.specs.declared.group_kind.GroupKind.{GroupKind}
use Rattle.group_tree.specs.declared.group_kind.GroupKind.TheVariants.{Control, Monitor}
use Rattle.lists.proofs.Choices.{cond-and}
use Rattle.lists.proofs.Keyed.{get_or-key}
use Rattle.lists.proofs.Options.{option_map-some}
use Rattle.lists.proofs.Tests.{find-found, find-some}
use Rattle.machine.specs.declared.parameters.Parameters.{Parameters}
use Rattle.path_names.specs.declared.names.NameId.{NameId}
use Rattle.rc_base.specs.declared.names.Gid.{Gid}
use Rattle.tree_core.proofs.KeptTables.{IsDefault-first, length-positive}
use Rattle.tree_core.proofs.RmidLists.{is_monitor_of-counted}
use Rattle.tree_core.specs.Kept.{Keeps}
use Rattle.tree_core.specs.Tables.{Tables}
use Rattle.tree_law.specs.Counted.{is_counted}
use Rattle.tree_law.specs.Existing.{group_of}
use Rattle.tree_law.specs.Sound.{IsCounted, IsOf, counts, monitors}
use Rattle.tree_law.specs.State.{State}

abbrev gid_of : ℕ → Gid
gid_of n = record { 0 = n }

-- a monitor group has one parent
pub parent-same : (kind : GroupKind) (a b : Gid) → is_monitor_of a kind ≡ true → is_monitor_of b kind ≡ true → a ≡ b
parent-same Control a b is is' = absurd (let f : false ≡ true = is in cc)
parent-same (Monitor p) a b is is' = ap (λ (n : ℕ). gid_of n) (eqb-true a.0 p.0 is ∙ sym (eqb-true b.0 p.0 is'))

-- the record of a monitor group of a parent
pub record MonitorAt (s : State) (parent gid : Gid) : Type 0 where
  pub group : Group
  pub there : group_of s gid ≡ Some group
  pub of : is_monitor_of parent group.kind ≡ true

module _ {m : Parameters} {t : Tables} {s : State} {epoch : ℕ} (keeps : Keeps m t s epoch) (parent : Gid) (name : NameId) (gid : Gid) (named : option_map (λ (g : Group). g.gid) (find (is_monitor_named parent name) s.groups) ≡ Some gid) where
  -- the monitor group of the name has a record, and its gid
  pub MonitorAt-named : MonitorAt s parent gid
  MonitorAt-named =
      let found = option_map-some (λ (g : Group). g.gid) (find (is_monitor_named parent name) s.groups) gid named in
      let f = find-found (is_monitor_named parent name) s.groups found.0 found.1 in
      let passes : has_gid gid (get_or s.groups f.place found.0) ≡ true = ap (has_gid gid) (f.at found.0) ∙ eq-eqb gid.0 found.0.gid.0 (ap (λ (i : Gid). i.0) (sym found.2)) in
      let some = find-some (has_gid gid) s.groups (list_any_at (has_gid gid) s.groups f.place found.0 f.within passes) in
      let same : get_or s.groups f.place found.0 ≡ some.0 = get_or-key (λ (x : Group). x.gid.0) s.groups (record some.0 { gid = gid }) some.0 keeps.sound.named.gids some.1 f.place found.0 f.within passes in
      record {
        group = some.0;
        there = some.1;
        of = ap (λ (x : Group). is_monitor_of parent x.kind) (sym same ∙ f.at found.0) ∙ (and_parts (is_monitor_of parent found.0.kind) (has_name name found.0.name) f.passes).0;
      }

  -- it is there
  pub has_group-named_monitor : has_group gid s.groups ≡ true
  has_group-named_monitor =
      let at = MonitorAt-named in
      let f = find-found (has_gid gid) s.groups at.group at.there in
      list_any_at (has_gid gid) s.groups f.place at.group f.within (ap (has_gid gid) (f.at at.group) ∙ f.passes)

  -- each group with this gid is that one
  is-monitor : (k : ℕ) (d : Group) → k < length s.groups → has_gid gid (get_or s.groups k d) ≡ true → get_or s.groups k d ≡ MonitorAt-named.group
  is-monitor k d within is = (let at = MonitorAt-named in get_or-key (λ (x : Group). x.gid.0) s.groups (record at.group { gid = gid }) at.group keeps.sound.named.gids at.there k d within is)

  -- it is not a counted group
  not_counted : (x : Group) → x ≡ MonitorAt-named.group → is_counted x ≡ true → ⊥
  not_counted x same counted =
      let of : is_monitor_of parent x.kind ≡ true = ap (λ (g : Group). is_monitor_of parent g.kind) same ∙ MonitorAt-named.of in
      let f : true ≡ false = sym of ∙ is_monitor_of-counted parent x counted in cc

  -- so it is not the default group
  pub gid-named_monitor : gid.0 ≢ 0
  gid-named_monitor zeroth =
      let d = MonitorAt-named.group in
      let first = IsDefault-first s.groups d keeps.sound.named.first in
      not_counted (get_or s.groups 0 d) (is-monitor 0 d (length-positive s.groups keeps.sound.named.first) (eq-eqb gid.0 (get_or s.groups 0 d).gid.0 (zeroth ∙ sym first.gid))) first.counted

  -- a counted group has another gid
  not_counted-gid : (control : Gid) → IsCounted s.groups control → control.0 ≡ gid.0 → ⊥
  not_counted-gid control counted same =
      let some = Any-from_list_any (counts control) s.groups counted in
      let parts = cond-and (has_gid control some.1) (is_counted some.1) some.4 in
      let is : has_gid gid (get_or s.groups some.0 some.1) ≡ true = ap (has_gid gid) some.3 ∙ ap (λ (n : ℕ). has_gid (gid_of n) some.1) (sym same) ∙ parts.0 in
      not_counted some.1 (sym some.3 ∙ is-monitor some.0 some.1 some.2 is) parts.1

  -- what is counted in it belongs to its parent
  pub control-parent : (control monitor : Gid) → IsCounted s.groups control → IsOf s.groups control monitor → monitor.0 ≡ gid.0 → control ≡ parent
  control-parent control monitor counted (inl same) is = absurd (not_counted-gid control counted (sym same ∙ is))
  control-parent control monitor counted (inr of) is =
      let some = Any-from_list_any (monitors control monitor) s.groups of in
      let parts = cond-and (has_gid monitor some.1) (is_monitor_of control some.1.kind) some.4 in
      let here : has_gid gid (get_or s.groups some.0 some.1) ≡ true = ap (has_gid gid) some.3 ∙ ap (λ (n : ℕ). has_gid (gid_of n) some.1) (sym is) ∙ parts.0 in
      let same : some.1 ≡ MonitorAt-named.group = sym some.3 ∙ is-monitor some.0 some.1 some.2 here in
      parent-same some.1.kind control parent parts.1 (ap (λ (g : Group). is_monitor_of parent g.kind) same ∙ MonitorAt-named.of)
