-- What a write answers by its path, and what a write of `schemata` answers and leaves.
use Rattle.std.proofs.Common.{◌≡◌, ℕ, ◌≤◌, List, [], length, find, Option, None, Some, Result, Ok, true, false, refl, sym, subst, ap, ap₂, ◌∙◌}
use Rattle.std.specs.Option.{option_map, option_map_or, option_or}
use Rattle.group_tree.specs.declared.group.Group.{Group}
use Rattle.machine.specs.Ranges.{InRange}
use Rattle.machine.specs.declared.parameters.Parameters.{Parameters}
use Rattle.path_names.specs.declared.dirs.DirRef.{DirRef}
use Rattle.path_names.specs.declared.files.FileKind.TheVariants as files
use Rattle.path_names.specs.declared.path_ref.PathRef.{PathRef}
use Rattle.path_names.specs.declared.path_ref.PathRef.TheVariants.{File}
use Rattle.rc_base.specs.declared.replies.Why.{Why}
use Rattle.rc_base.specs.declared.replies.Why.TheVariants.{GroupLocked}
use Rattle.schemata_text.specs.declared.assignment.Assignment.{Assignment}
use Rattle.schemata_text.specs.declared.fault.TextFault.{TextFault}
use Rattle.script_ops.specs.declared.op.Op.TheVariants.{Write}
use Rattle.tree_core.proofs.Outcomes.{needs-nothing}
use Rattle.tree_core.proofs.Soundness.{IsSound-from_status}
use Rattle.tree_core.proofs.WriteOutcomes.{Leaves, Leaves-write, after-unless}
use Rattle.tree_core.specs.CpuFiles.{unless}
use Rattle.tree_law.proofs.laws.Steps.{next-sound}
use Rattle.tree_law.specs.Freeing.{counts_of}
use Rattle.tree_law.specs.Places.{control_at}
use Rattle.tree_law.specs.Refusals.{Refusal, plain, reply_of}
use Rattle.tree_law.specs.Sound.{IsSound}
use Rattle.tree_law.specs.State.{State}
use Rattle.tree_law.specs.Steps.{accepted, after, left, refusal}
use Rattle.tree_law.specs.commands.Schemata as schemata
use Rattle.tree_law.specs.commands.Schemata.{is_locked, schemata_read}
use Rattle.tree_law.specs.commands.Write as write

-- what is against the path is against the command
pub refusal-write_path : (m : Parameters) (s : State) (path : PathRef) (text : List ℕ) (why : Why) → find (write.against s path) write.reasons ≡ Some why → refusal m s (Write path text) ≡ Some (plain why)
unfolding refusal write.refusal
refusal-write_path m s path text why found = ap (λ (w : Option Why). option_or (option_map plain w) (write.text_refusal m s path text)) found

-- where nothing is against the path, the text decides
pub refusal-write_text : (m : Parameters) (s : State) (path : PathRef) (text : List ℕ) → find (write.against s path) write.reasons ≡ None → refusal m s (Write path text) ≡ write.text_refusal m s path text
unfolding refusal write.refusal
refusal-write_text m s path text none = ap (λ (w : Option Why). option_or (option_map plain w) (write.text_refusal m s path text)) none

-- ---- what is against a text

module _ (m : Parameters) (s : State) (g : Group) (read : Result (List Assignment) TextFault) where
  -- a pseudo-locked group takes none
  pub refusal-locked : is_locked g.mode ≡ true → schemata.refusal m s g read ≡ Some (plain GroupLocked)
  unfolding schemata.refusal
  refusal-locked locked = rw locked refl

  -- for another the text decides
  pub refusal-unlocked : is_locked g.mode ≡ false → schemata.refusal m s g read ≡ schemata.against_read m s g read
  unfolding schemata.refusal
  refusal-unlocked unlocked = rw unlocked refl

-- the state after assignments
pub accepted-Ok : (s : State) (g : Group) (all : List Assignment) → schemata.accepted s g (Ok all) ≡ schemata.with_masks s g g.mode all
unfolding schemata.accepted
accepted-Ok s g all = refl

-- and what follows
pub after-Ok : (m : Parameters) (s : State) (g : Group) (all : List Assignment) → schemata.after m s g (Ok all) ≡ schemata.follow m s g.mode all
unfolding schemata.after
after-Ok m s g all = refl

-- ---- the command

module _ (m : Parameters) (s : State) (dir : DirRef) (text : List ℕ) (writable : find (write.against s (File dir files.Schemata)) write.reasons ≡ None) where
  -- the reading of the text
  abbrev read : Result (List Assignment) TextFault
  read = schemata_read m text

  -- a refused one leaves the state
  left-schemata : left s (Write (File dir files.Schemata) text) ≡ s
  unfolding write.refused
  left-schemata = refl

  -- it frees no RMID
  freed-schemata : write.freed s (File dir files.Schemata) text ≡ []
  unfolding write.freed
  freed-schemata = refl

  -- ---- a directory that is no control group's takes any text, and nothing changes

  accepted-nowhere : (looks : List ℕ) → control_at s dir ≡ None → accepted m s (Write (File dir files.Schemata) text) looks ≡ s
  unfolding write.accepted
  accepted-nowhere looks none = ap (λ (o : Option Group). option_map_or (λ g. schemata.accepted s g read) o s) none

  pub Leaves-nowhere : (looks : List ℕ) → control_at s dir ≡ None → Leaves m s (File dir files.Schemata) text looks None s
  Leaves-nowhere looks none = Leaves-write m s (File dir files.Schemata) text looks None s
      (refusal-write_text m s (File dir files.Schemata) text writable ∙ ap (λ (o : Option Group). option_map_or (λ g. schemata.refusal m s g read) o None) none)
      (accepted-nowhere looks none)

  pub after-nowhere : (k : ℕ) → control_at s dir ≡ None → after m s k (Write (File dir files.Schemata) text) ≡ []
  unfolding write.after
  after-nowhere k none = after-unless m s k (Write (File dir files.Schemata) text) None []
      (refusal-write_text m s (File dir files.Schemata) text writable ∙ ap (λ (o : Option Group). option_map_or (λ g. schemata.refusal m s g read) o None) none)
      (ap (λ (o : Option Group). option_map_or (λ g. schemata.after m s g read) o []) none)

  -- ---- the masks of a control group

  module _ (g : Group) (is_group : control_at s dir ≡ Some g) where
    -- what is against the command is against the text
    pub refusal-group : refusal m s (Write (File dir files.Schemata) text) ≡ schemata.refusal m s g read
    refusal-group = refusal-write_text m s (File dir files.Schemata) text writable ∙ ap (λ (o : Option Group). option_map_or (λ x. schemata.refusal m s x read) o None) is_group

    accepted-group : (looks : List ℕ) → accepted m s (Write (File dir files.Schemata) text) looks ≡ schemata.accepted s g read
    unfolding write.accepted
    accepted-group looks = ap (λ (o : Option Group). option_map_or (λ x. schemata.accepted s x read) o s) is_group

    -- the state after it, by what is against it
    pub Leaves-schemata : (looks : List ℕ) → Leaves m s (File dir files.Schemata) text looks (schemata.refusal m s g read) (unless (schemata.refusal m s g read) s (schemata.accepted s g read))
    Leaves-schemata looks = Leaves-write m s (File dir files.Schemata) text looks (schemata.refusal m s g read) (unless (schemata.refusal m s g read) s (schemata.accepted s g read)) refusal-group
        (ap₂ (λ (a b : State). unless (schemata.refusal m s g read) a b) left-schemata (accepted-group looks))

    -- and what follows
    pub after-schemata : (k : ℕ) → after m s k (Write (File dir files.Schemata) text) ≡ unless (schemata.refusal m s g read) [] (schemata.after m s g read)
    unfolding write.after
    after-schemata k = after-unless m s k (Write (File dir files.Schemata) text) (schemata.refusal m s g read) (schemata.after m s g read) refusal-group (ap (λ (o : Option Group). option_map_or (λ x. schemata.after m s x read) o []) is_group)

    -- where nothing is against it, the state after it is sound
    pub IsSound-accepted : InRange m → IsSound m s → length text ≤ 4096 → schemata.refusal m s g read ≡ None → IsSound m (schemata.accepted s g read)
    IsSound-accepted range sound short none =
        let op = Write (File dir files.Schemata) text in
        let next = next-sound m s op [] range sound short (ap length (sym (needs-nothing m s op (ap (counts_of m) freed-schemata)))) in
        IsSound-from_status m (schemata.accepted s g read) (reply_of (schemata.refusal m s g read))
        (subst (λ (x : State). IsSound m (record x { status = reply_of (schemata.refusal m s g read) })) (ap (λ (o : Option Refusal). unless o s (schemata.accepted s g read)) none) (subst (IsSound m) (Leaves-schemata []).state next))
