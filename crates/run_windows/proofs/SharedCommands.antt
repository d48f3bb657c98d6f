-- Each kind of command but a write leaves no group exclusive where none was.
use Rattle.std.proofs.Common.{◌≡◌, ℕ, Bool, true, false, not, cond, List, [], ◌∷◌, get_or, Option, Some, None, Result, Ok, Err, refl}
use Rattle.std.specs.List.{All}
use Rattle.std.specs.Option.{option_map_or}
use Rattle.std.proofs.lemmas.Bool.{true≢false}
use Rattle.std.proofs.lemmas.List.Elements.{All-filter, All-map, All-push}
use Rattle.group_tree.specs.Lists.{exchanged, replaced}
use Rattle.group_tree.specs.Records.{has_gid, has_mode, is_control}
use Rattle.group_tree.specs.declared.group.Group.{Group}
use Rattle.lists.proofs.Choices.{cond-both}
use Rattle.machine.specs.declared.parameters.Parameters.{Parameters}
use Rattle.num_text.specs.Blanks.{trim}
use Rattle.path_names.specs.declared.dirs.DirRef.TheVariants.{Ctrl, Mon}
use Rattle.path_names.specs.declared.path_ref.PathRef.{PathRef}
use Rattle.path_names.specs.declared.path_ref.PathRef.TheVariants.{Dir}
use Rattle.rc_base.specs.declared.names.Gid.{Gid}
use Rattle.rc_base.specs.declared.names.Mode.{Mode}
use Rattle.rc_base.specs.declared.names.Mode.TheVariants.{Shareable, Exclusive, LockSetup, Locked}
use Rattle.schemata_text.specs.declared.assignment.Assignment.{Assignment}
use Rattle.schemata_text.specs.declared.fault.TextFault.{TextFault}
use Rattle.tree_law.specs.Existing.{directory_gid, owner_gid}
use Rattle.tree_law.specs.Places.{controlling, is_closed}
use Rattle.tree_law.specs.State.{State}
use Rattle.tree_law.specs.commands.Cpus as cpus
use Rattle.tree_law.specs.commands.Mkdir as mkdir
use Rattle.tree_law.specs.commands.Mode as mode
use Rattle.tree_law.specs.commands.Rmdir as rmdir
use Rattle.tree_law.specs.commands.Schemata as schemata
use Rattle.tree_law.specs.commands.Tasks as tasks

-- a group is not exclusive
abbrev pub IsShared : Group → Type 0
IsShared g = has_mode Exclusive g ≡ false

-- none of a state is
abbrev pub AreShared : State → Type 0
AreShared s = All IsShared s.groups

-- ---- records

-- whatever its masks, its class and its RMID
IsShared-replaced : (new : Group) (groups : List Group) → IsShared new → All IsShared groups → All IsShared (replaced new groups)
IsShared-replaced new groups this shared = All-map IsShared (exchanged new) groups (λ k d within.
    cond-both IsShared (has_gid new.gid (get_or groups k d)) new (get_or groups k d) this (shared k d within))

module _ (m : Parameters) (s : State) (shared : AreShared s) where
  -- ---- the commands

  pub AreShared-mkdir : (path : PathRef) → AreShared (mkdir.accepted m s path)
  unfolding mkdir.accepted
  AreShared-mkdir (Dir (Ctrl name)) = All-push IsShared s.groups (mkdir.new_control m s name) shared refl
  AreShared-mkdir (Dir (Mon owner name)) = at (owner_gid s owner)
    where
      at : (o : Option Gid) → AreShared (mkdir.with_monitor m s name o)
      at None = shared
      at (Some parent) = All-push IsShared s.groups (mkdir.new_monitor m s name parent) shared refl
  AreShared-mkdir path = shared

  pub AreShared-rmdir : (path : PathRef) (looks : List ℕ) → AreShared (rmdir.accepted m s path looks)
  unfolding rmdir.accepted
  AreShared-rmdir (Dir (Ctrl name)) looks = at (directory_gid s (Ctrl name))
    where
      at : (o : Option Gid) → AreShared (option_map_or (λ gid. rmdir.without_control m s gid (rmdir.freed s (Dir (Ctrl name))) looks) o s)
      at None = shared
      at (Some gid) = All-filter (λ (g : Group). not (rmdir.goes_with gid g)) IsShared s.groups shared
  AreShared-rmdir (Dir (Mon owner name)) looks = at (directory_gid s (Mon owner name))
    where
      at : (o : Option Gid) → AreShared (option_map_or (λ gid. rmdir.without_monitor m s gid (rmdir.freed s (Dir (Mon owner name))) looks) o s)
      at None = shared
      at (Some gid) = All-filter (λ (g : Group). not (has_gid gid g)) IsShared s.groups shared
  AreShared-rmdir path looks = shared

  pub AreShared-schemata : (g : Group) → IsShared g → (read : Result (List Assignment) TextFault) → AreShared (schemata.accepted s g read)
  unfolding schemata.accepted
  AreShared-schemata g this (Err fault) = shared
  AreShared-schemata g this (Ok all) = by_mode g.mode all
    where
      locks : (a : Assignment) → (b : Bool) → is_control g.kind ≡ b → IsShared (schemata.locked g a)
      locks a true is = rw is refl
      locks a false is = rw is refl

      first : (all : List Assignment) → AreShared (schemata.with_first s g all)
      first [] = shared
      first (a ∷ more) = IsShared-replaced (schemata.locked g a) s.groups (locks a (is_control g.kind) refl) shared

      by_mode : (way : Mode) (all : List Assignment) → AreShared (schemata.with_masks s g way all)
      by_mode Shareable all = IsShared-replaced (record g { masks = schemata.assigned g.masks all }) s.groups this shared
      by_mode Exclusive all = IsShared-replaced (record g { masks = schemata.assigned g.masks all }) s.groups this shared
      by_mode LockSetup all = first all
      by_mode Locked all = shared

  -- a text that does not ask for the mode exclusive
  pub AreShared-mode : (g : Group) (text looks : List ℕ) → mode.is_named (trim text) Exclusive ≡ false → AreShared (mode.accepted m s g text looks)
  unfolding mode.accepted mode.mode_in
  AreShared-mode g text looks quiet = by_present (mode.is_present g.mode text)
    where
      kept : (way : Mode) → ((b : Bool) → is_control g.kind ≡ b → IsShared (mode.changed m s g way)) → AreShared (mode.with_mode m s g (mode.freed g text) looks (Some way))
      kept way this = IsShared-replaced (mode.changed m s g way) s.groups (this (is_control g.kind) refl) shared

      shares : (b : Bool) → is_control g.kind ≡ b → IsShared (mode.changed m s g Shareable)
      shares true is = rw is refl
      shares false is = rw is refl

      sets_up : (b : Bool) → is_control g.kind ≡ b → IsShared (mode.changed m s g LockSetup)
      sets_up true is = rw is refl
      sets_up false is = rw is refl

      by_names : (a b c : Bool) → b ≡ false → AreShared (mode.with_mode m s g (mode.freed g text) looks (cond a (Some Shareable) (cond b (Some Exclusive) (cond c (Some LockSetup) None))))
      by_names true b c e = kept Shareable shares
      by_names false true c e = absurd (true≢false e)
      by_names false false true e = kept LockSetup sets_up
      by_names false false false e = shared

      by_present : (b : Bool) → AreShared (cond b s (mode.with_mode m s g (mode.freed g text) looks (mode.mode_in text)))
      by_present true = shared
      by_present false = by_names (mode.is_named (trim text) Shareable) (mode.is_named (trim text) Exclusive) (mode.is_named (trim text) LockSetup) quiet

  pub AreShared-tasks : (g : Group) (text : List ℕ) → AreShared (tasks.kept s g text)
  unfolding tasks.kept
  AreShared-tasks g text = cond-both (λ (x : State). AreShared x) (is_closed s (controlling g.gid g.kind)) s (record s { tasks = (tasks.moves_in s g text).tasks }) shared shared

  pub AreShared-cpus : (g : Group) (text : List ℕ) → AreShared (cpus.accepted s g (cpus.mask_read m text))
  unfolding cpus.accepted
  AreShared-cpus g text = elim (cpus.mask_read m text) as (λ read. AreShared (cpus.accepted s g read)) [
    | Ok numbers ↦ shared
    | Err fault ↦ shared
  ]

  pub AreShared-cpus_list : (g : Group) (text : List ℕ) → AreShared (cpus.accepted s g (cpus.list_read m text))
  unfolding cpus.accepted
  AreShared-cpus_list g text = elim (cpus.list_read m text) as (λ read. AreShared (cpus.accepted s g read)) [
    | Ok numbers ↦ shared
    | Err fault ↦ shared
  ]
