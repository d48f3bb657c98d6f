-- No count is needed twice.
use Rattle.std.proofs.Common.{◌≡◌, ◌≢◌, ℕ, ◌<◌, Bool, true, false, List, [], ◌∷◌, ◌++◌, length, filter, find, get_or, Option, None, Some, is_some, refl, sym, subst, ap, ◌∙◌, arith}
use Rattle.std.specs.List.{AllPairs, flat_map}
use Rattle.std.specs.Option.{option_map_or}
use Rattle.std.proofs.lemmas.Bool.{eq-eqb, eqb-true}
use Rattle.std.proofs.lemmas.List.Folds.{Any-from_list_any}
use Rattle.std.proofs.lemmas.List.Kept.{AllPairs-cons, AllPairs-filter}
use Rattle.group_tree.specs.Records.{has_gid, is_control, is_monitor_of}
use Rattle.group_tree.specs.declared.group.Group.{Group}
use Rattle.group_tree.specs.declared.group_kind.GroupKind.{GroupKind}
use Rattle.group_tree.specs.declared.group_kind.GroupKind.TheVariants.{Control, Monitor}
use Rattle.lists.proofs.Choices.{cond-both, cond-and}
use Rattle.lists.proofs.Keyed.{AllPairs-beside, get_or-key}
use Rattle.lists.proofs.Pairs.{AllPairs-map}
use Rattle.lists.proofs.Tests.{All-kept}
use Rattle.machine.specs.declared.parameters.Parameters.{Parameters}
use Rattle.path_names.specs.declared.dirs.DirRef.TheVariants.{Ctrl, Mon, MonDomain}
use Rattle.path_names.specs.declared.files.FileKind.TheVariants as kinds
use Rattle.path_names.specs.declared.path_ref.PathRef.{PathRef}
use Rattle.path_names.specs.declared.path_ref.PathRef.TheVariants.{Dir, File}
use Rattle.rc_base.specs.declared.names.Gid.{Gid}
use Rattle.rc_base.specs.declared.names.Mode.{Mode}
use Rattle.script_ops.specs.declared.op.Op.{Op}
use Rattle.script_ops.specs.declared.op.Op.TheVariants as ops
use Rattle.tree_law.proofs.Groups.{find-gid, find-own, gid_number}
use Rattle.tree_law.proofs.BothSides.{IdsDiffer-turned}
use Rattle.tree_law.proofs.GroupKinds.{is_control-counted}
use Rattle.tree_law.specs.Counted.{is_counted}
use Rattle.tree_law.specs.Existing.{directory_gid, group_of, holder_gid}
use Rattle.tree_law.specs.Freeing.{rmids_of, rmids_with}
use Rattle.tree_law.specs.Places.{control_at}
use Rattle.tree_law.specs.Sound.{HasIds, IdsDiffer, IsSound, counts}
use Rattle.tree_law.specs.State.{State}
use Rattle.tree_law.specs.Steps.{needs, needs_accepted, refusal}
use Rattle.tree_law.specs.commands.Mode as mode
use Rattle.tree_law.specs.commands.Reads as read
use Rattle.tree_law.specs.commands.Rmdir as rmdir
use Rattle.tree_law.specs.commands.Tick as tick
use Rattle.tree_law.specs.commands.Write as write
use Rattle.tree_law.proofs.laws.DistinctRmids.{AreDistinct, Apart, AllPairs-nil, counts_of-distinct, flat_map-distinct, rmids_of-distinct}

module _ (m : Parameters) (s : State) (sound : IsSound m s) where
  -- no group is its own monitor group
  has_gid-monitor : (gid : Gid) (g : Group) → find (has_gid gid) s.groups ≡ Some g → (k : ℕ) (d : Group) → k < length s.groups → is_monitor_of gid (get_or s.groups k d).kind ≡ true → has_gid g.gid (get_or s.groups k d) ≡ false
  has_gid-monitor gid g found k d within monitor = at (has_gid g.gid (get_or s.groups k d)) refl
    where
      own : find (has_gid g.gid) s.groups ≡ Some g
      own = find-own gid s.groups g found

      never : (kind : GroupKind) → g.kind ≡ kind → is_monitor_of g.gid kind ≡ true → HasIds s.groups kind g → ⊥
      never Control is e has = let f : false ≡ true = e in cc
      never (Monitor parent) is e has =
          let some = Any-from_list_any (counts parent) s.groups has.2 in
          let two = cond-and (has_gid parent some.1) (is_counted some.1) some.4 in
          let same : g.gid.0 ≡ some.1.gid.0 = eqb-true g.gid.0 parent.0 e ∙ eqb-true parent.0 some.1.gid.0 two.0 in
          let it = get_or-key gid_number s.groups g g sound.named.gids own some.0 some.1 some.2 (ap (has_gid g.gid) some.3 ∙ eq-eqb g.gid.0 some.1.gid.0 same) in
          let control : is_control g.kind ≡ true = ap (λ (x : Group). is_control x.kind) (sym it ∙ some.3) ∙ is_control-counted some.1 two.1 in
          let f : false ≡ true = sym (ap is_control is) ∙ control in cc

      at : (b : Bool) → has_gid g.gid (get_or s.groups k d) ≡ b → b ≡ false
      at false e = refl
      at true e = (let it = get_or-key gid_number s.groups g g sound.named.gids own k d within e in
          let of : is_monitor_of g.gid g.kind ≡ true = ap (λ (i : Gid). is_monitor_of i g.kind) (sym (find-gid gid s.groups g found)) ∙ ap (λ (x : Group). is_monitor_of gid x.kind) (sym it) ∙ monitor in
          absurd (never g.kind refl of (subst (λ (x : Group). HasIds s.groups x.kind x) it (sound.numbered.ids k d within))))

  -- those of a group and of its monitor groups
  rmids_with-distinct : (gid : Gid) → AreDistinct (rmids_with s gid)
  rmids_with-distinct gid = at (find (has_gid gid) s.groups) refl
    where
      monitors : List Group
      monitors = filter (λ (x : Group). is_monitor_of gid x.kind) s.groups

      at : (o : Option Group) → find (has_gid gid) s.groups ≡ o → AreDistinct (option_map_or rmids_of o [] ++ flat_map rmids_of (filter (λ (x : Group). is_monitor_of gid x.kind) s.groups))
      at None is = flat_map-distinct (filter (λ (x : Group). is_monitor_of gid x.kind) s.groups) (AllPairs-filter IdsDiffer (λ (x : Group). is_monitor_of gid x.kind) s.groups sound.numbered.apart)
      at (Some g) is = flat_map-distinct (g ∷ filter (λ (x : Group). is_monitor_of gid x.kind) s.groups)
          (AllPairs-cons IdsDiffer g (filter (λ (x : Group). is_monitor_of gid x.kind) s.groups)
          (All-kept (IdsDiffer g) (λ (x : Group). is_monitor_of gid x.kind) s.groups (λ k d within monitor. AllPairs-beside gid_number s.groups g g sound.named.gids (find-own gid s.groups g is) IdsDiffer IdsDiffer-turned sound.numbered.apart k d within (has_gid-monitor gid g is k d within monitor)))
          (AllPairs-filter IdsDiffer (λ (x : Group). is_monitor_of gid x.kind) s.groups sound.numbered.apart))

  -- ---- each command

  -- those that rmdir frees
  rmdir-distinct : (path : PathRef) → AreDistinct (rmdir.freed s path)
  unfolding rmdir.freed
  rmdir-distinct (Dir (Ctrl name)) = at (directory_gid s (Ctrl name))
    where
      at : (o : Option Gid) → AreDistinct (option_map_or (rmids_with s) o [])
      at None = AllPairs-nil (λ (a b : ℕ). a ≢ b)
      at (Some gid) = rmids_with-distinct gid
  rmdir-distinct (Dir (Mon owner name)) = at (directory_gid s (Mon owner name))
    where
      found : (o : Option Group) → AreDistinct (option_map_or rmids_of o [])
      found None = AllPairs-nil (λ (a b : ℕ). a ≢ b)
      found (Some g) = rmids_of-distinct g

      at : (o : Option Gid) → AreDistinct (option_map_or (λ gid. option_map_or rmids_of (group_of s gid) []) o [])
      at None = AllPairs-nil (λ (a b : ℕ). a ≢ b)
      at (Some gid) = found (group_of s gid)
  rmdir-distinct path = AllPairs-nil (λ (a b : ℕ). a ≢ b)

  -- those that a write of a mode frees
  mode-distinct : (g : Group) (text : List ℕ) → AreDistinct (mode.freed g text)
  unfolding mode.freed
  mode-distinct g text = cond-both AreDistinct (mode.is_present g.mode text) [] (mode.freed_by g (mode.mode_in text)) (AllPairs-nil (λ (a b : ℕ). a ≢ b)) (at (mode.mode_in text))
    where
      at : (o : Option Mode) → AreDistinct (mode.freed_by g o)
      at None = AllPairs-nil (λ (a b : ℕ). a ≢ b)
      at (Some x) = cond-both AreDistinct (mode.is_setup x) (rmids_of g) [] (rmids_of-distinct g) (AllPairs-nil (λ (a b : ℕ). a ≢ b))

  -- those that a write frees
  write-distinct : (path : PathRef) (text : List ℕ) → AreDistinct (write.freed s path text)
  unfolding write.freed
  write-distinct (File dir kinds.Mode) text = at (control_at s dir)
    where
      at : (o : Option Group) → AreDistinct (option_map_or (λ g. mode.freed g text) o [])
      at None = AllPairs-nil (λ (a b : ℕ). a ≢ b)
      at (Some g) = mode-distinct g text
  write-distinct path text = AllPairs-nil (λ (a b : ℕ). a ≢ b)

  -- the counts that a read needs
  read-distinct : (path : PathRef) → AllPairs Apart (read.needs s path)
  unfolding read.needs
  read-distinct (File (MonDomain holder domain) kinds.Occupancy) = AllPairs-map Apart (λ (rmid : ℕ). (domain, rmid)) (option_map_or (rmids_with s) (holder_gid s holder) []) (λ i j d below within e. at (holder_gid s holder) i j d below within (ap (λ (p : ℕ × ℕ). p.1) e))
    where
      at : (o : Option Gid) → AreDistinct (option_map_or (rmids_with s) o [])
      at None = AllPairs-nil (λ (a b : ℕ). a ≢ b)
      at (Some gid) = rmids_with-distinct gid
  read-distinct path = AllPairs-nil Apart

  -- the counts that an accepted command needs
  accepted-distinct : (op : Op) → AllPairs Apart (needs_accepted m s op)
  unfolding tick.needs
  accepted-distinct (ops.Rmdir path) = counts_of-distinct m (rmdir.freed s path) (rmdir-distinct path)
  accepted-distinct (ops.Write path text) = counts_of-distinct m (write.freed s path text) (write-distinct path text)
  accepted-distinct (ops.Read path) = read-distinct path
  accepted-distinct ops.Tick = counts_of-distinct m s.limbo (λ i j d below within e. let less = sound.numbered.limbo_rising i j d below within in omega arith)
  accepted-distinct op = AllPairs-nil Apart

-- in a sound tree no count is needed twice
pub needs-distinct : (m : Parameters) (s : State) (op : Op) → IsSound m s → AllPairs (λ (a b : ℕ × ℕ). a ≢ b) (needs m s op)
unfolding needs
needs-distinct m s op sound = cond-both (AllPairs Apart) (is_some (refusal m s op)) [] (needs_accepted m s op) (AllPairs-nil Apart) (accepted-distinct m s sound op)
