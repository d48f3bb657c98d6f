-- What a write of `mode` answers and leaves.
use Rattle.std.proofs.Common.{◌≡◌, ℕ, ◌*◌, ◌≤◌, Bool, cond, List, [], length, find, Option, None, Some, refl, subst, ap, ap₂, ◌∙◌}
use Rattle.std.specs.Option.{option_map_or}
use Rattle.group_tree.specs.declared.group.Group.{Group}
use Rattle.machine.specs.Ranges.{InRange}
use Rattle.machine.specs.declared.parameters.Parameters.{Parameters}
use Rattle.path_names.specs.declared.dirs.DirRef.{DirRef}
use Rattle.path_names.specs.declared.files.FileKind.{FileKind}
use Rattle.path_names.specs.declared.files.FileKind.TheVariants as files
use Rattle.path_names.specs.declared.path_ref.PathRef.TheVariants.{File}
use Rattle.rc_base.specs.declared.names.Mode.{Mode}
use Rattle.rc_base.specs.declared.names.Mode.TheVariants.{Shareable, Exclusive, LockSetup, Locked}
use Rattle.script_ops.specs.declared.op.Op.TheVariants.{Write}
use Rattle.tree_core.proofs.NeededCounts.{length-counts_in}
use Rattle.tree_core.proofs.Outcomes.{needs-accepted, needs-nothing, needs-refused}
use Rattle.tree_core.proofs.Soundness.{IsSound-from_status}
use Rattle.tree_core.proofs.WriteOutcomes.{Leaves, Leaves-write, after-unless}
use Rattle.tree_core.proofs.WrittenMasks.{refusal-write_text}
use Rattle.tree_core.specs.CpuFiles.{unless}
use Rattle.tree_core.specs.Modes.{TurnsTo}
use Rattle.tree_core.proofs.AskedModes.{is_setup-apart, refusal-turns, freed-turns}
use Rattle.tree_law.proofs.laws.Steps.{next-sound}
use Rattle.tree_law.specs.Freeing.{counts_of}
use Rattle.tree_law.specs.Places.{control_at}
use Rattle.tree_law.specs.Refusals.{Refusal, reply_of}
use Rattle.tree_law.specs.Sound.{IsSound}
use Rattle.tree_law.specs.State.{State}
use Rattle.tree_law.specs.Steps.{accepted, after, left, needs, needs_accepted, refusal}
use Rattle.tree_law.specs.commands.Mode as modes
use Rattle.tree_law.specs.commands.Write as write

module _ (m : Parameters) (s : State) (dir : DirRef) (text : List ℕ) (writable : find (write.against s (File dir files.Mode)) write.reasons ≡ None) where
  -- a refused one leaves the state
  left-mode : left s (Write (File dir files.Mode) text) ≡ s
  unfolding write.refused
  left-mode = refl

  -- ---- a directory that is no control group's takes any text, and nothing changes

  refusal-nowhere : control_at s dir ≡ None → refusal m s (Write (File dir files.Mode) text) ≡ None
  refusal-nowhere none = refusal-write_text m s (File dir files.Mode) text writable ∙ ap (λ (o : Option Group). option_map_or (λ g. modes.refusal m s g text) o None) none

  accepted-nowhere : (looks : List ℕ) → control_at s dir ≡ None → accepted m s (Write (File dir files.Mode) text) looks ≡ s
  unfolding write.accepted
  accepted-nowhere looks none = ap (λ (o : Option Group). option_map_or (λ g. modes.accepted m s g text looks) o s) none

  pub Leaves-nowhere : (looks : List ℕ) → control_at s dir ≡ None → Leaves m s (File dir files.Mode) text looks None s
  Leaves-nowhere looks none = Leaves-write m s (File dir files.Mode) text looks None s (refusal-nowhere none) (accepted-nowhere looks none)

  pub after-nowhere : (k : ℕ) → control_at s dir ≡ None → after m s k (Write (File dir files.Mode) text) ≡ []
  unfolding write.after
  after-nowhere k none = after-unless m s k (Write (File dir files.Mode) text) None [] (refusal-nowhere none) (ap (λ (o : Option Group). option_map_or (λ g. modes.after m g text) o []) none)

  -- it needs no counts
  pub needs-nowhere : control_at s dir ≡ None → needs m s (Write (File dir files.Mode) text) ≡ []
  unfolding write.freed
  needs-nowhere none = needs-nothing m s (Write (File dir files.Mode) text) (ap (λ (o : Option Group). counts_of m (option_map_or (λ g. modes.freed g text) o [])) none)

  -- ---- the mode of a control group

  module _ (g : Group) (is_group : control_at s dir ≡ Some g) where
    -- what is against the command is against the text
    pub refusal-group : refusal m s (Write (File dir files.Mode) text) ≡ modes.refusal m s g text
    refusal-group = refusal-write_text m s (File dir files.Mode) text writable ∙ ap (λ (o : Option Group). option_map_or (λ x. modes.refusal m s x text) o None) is_group

    accepted-group : (looks : List ℕ) → accepted m s (Write (File dir files.Mode) text) looks ≡ modes.accepted m s g text looks
    unfolding write.accepted
    accepted-group looks = ap (λ (o : Option Group). option_map_or (λ x. modes.accepted m s x text looks) o s) is_group

    -- the state after it, by what is against it
    pub Leaves-mode : (looks : List ℕ) → Leaves m s (File dir files.Mode) text looks (modes.refusal m s g text) (unless (modes.refusal m s g text) s (modes.accepted m s g text looks))
    Leaves-mode looks = Leaves-write m s (File dir files.Mode) text looks (modes.refusal m s g text) (unless (modes.refusal m s g text) s (modes.accepted m s g text looks)) refusal-group
        (ap₂ (λ (a b : State). unless (modes.refusal m s g text) a b) left-mode (accepted-group looks))

    -- and what follows
    pub after-mode : (k : ℕ) → after m s k (Write (File dir files.Mode) text) ≡ unless (modes.refusal m s g text) [] (modes.after m g text)
    unfolding write.after
    after-mode k = after-unless m s k (Write (File dir files.Mode) text) (modes.refusal m s g text) (modes.after m g text) refusal-group (ap (λ (o : Option Group). option_map_or (λ x. modes.after m x text) o []) is_group)

    needs-group : needs_accepted m s (Write (File dir files.Mode) text) ≡ counts_of m (modes.freed g text)
    unfolding write.freed
    needs-group = ap (λ (o : Option Group). counts_of m (option_map_or (λ x. modes.freed x text) o [])) is_group

    -- the counts that it needs, where nothing is against it
    pub needs-mode : modes.refusal m s g text ≡ None → needs m s (Write (File dir files.Mode) text) ≡ counts_of m (modes.freed g text)
    needs-mode none = needs-accepted m s (Write (File dir files.Mode) text) (refusal-group ∙ none) ∙ needs-group

    -- and none, where something is
    pub needs-mode_refused : (r : Refusal) → modes.refusal m s g text ≡ Some r → needs m s (Write (File dir files.Mode) text) ≡ []
    needs-mode_refused r is = needs-refused m s (Write (File dir files.Mode) text) r (refusal-group ∙ is)

    -- none too, where no RMID is freed
    pub needs-mode_none : modes.freed g text ≡ [] → needs m s (Write (File dir files.Mode) text) ≡ []
    needs-mode_none none = needs-nothing m s (Write (File dir files.Mode) text) (needs-group ∙ ap (counts_of m) none)

    -- those of the RMID that is freed, where it turns to another mode
    pub needs-turns : (mode : Mode) → TurnsTo m s g text mode → needs m s (Write (File dir files.Mode) text) ≡ counts_of m (modes.freed_by g (Some mode))
    needs-turns mode turns = at mode refl
      where
        at : (x : Mode) → mode ≡ x → needs m s (Write (File dir files.Mode) text) ≡ counts_of m (modes.freed_by g (Some x))
        at LockSetup is =
            (let apart = is_setup-apart m s g text mode turns (ap modes.is_setup is) in
            let none : modes.against_rmid m s g ≡ None = ap (λ (b : Bool). cond b (modes.rmid_refusal m s) None) apart in
            needs-mode (refusal-turns m s g text mode turns ∙ none) ∙ ap (counts_of m) (freed-turns m s g text mode turns ∙ ap (λ (y : Mode). modes.freed_by g (Some y)) is))
        at Shareable is = needs-mode_none (freed-turns m s g text mode turns ∙ ap (λ (y : Mode). modes.freed_by g (Some y)) is)
        at Exclusive is = needs-mode_none (freed-turns m s g text mode turns ∙ ap (λ (y : Mode). modes.freed_by g (Some y)) is)
        at Locked is = needs-mode_none (freed-turns m s g text mode turns ∙ ap (λ (y : Mode). modes.freed_by g (Some y)) is)

    -- one for each domain of each RMID that is freed
    pub length-looks : (looks : List ℕ) → length looks ≡ length (needs m s (Write (File dir files.Mode) text)) → modes.refusal m s g text ≡ None → length looks ≡ length (modes.freed g text) * m.domains
    length-looks looks count none = count ∙ ap (λ (xs : List (ℕ × ℕ)). length xs) (needs-mode none) ∙ length-counts_in 0 m.domains (modes.freed g text)

    -- where nothing is against it, the state after it is sound
    pub IsSound-accepted : (looks : List ℕ) → length looks ≡ length (needs m s (Write (File dir files.Mode) text)) → InRange m → IsSound m s → length text ≤ 4096 → modes.refusal m s g text ≡ None → IsSound m (modes.accepted m s g text looks)
    IsSound-accepted looks count range sound short none =
        let next = next-sound m s (Write (File dir files.Mode) text) looks range sound short count in
        IsSound-from_status m (modes.accepted m s g text looks) (reply_of (modes.refusal m s g text))
        (subst (λ (x : State). IsSound m (record x { status = reply_of (modes.refusal m s g text) })) (ap (λ (o : Option Refusal). unless o s (modes.accepted m s g text looks)) none) (subst (IsSound m) (Leaves-mode looks).state next))

-- a write to any other file needs no counts
pub needs-other_file : (m : Parameters) (s : State) (dir : DirRef) (kind : FileKind) (text : List ℕ) → (kind ≡ files.Mode → ⊥) → needs m s (Write (File dir kind) text) ≡ []
unfolding write.freed
needs-other_file m s dir files.Mode text other = absurd (other refl)
needs-other_file m s dir kind text other = needs-nothing m s (Write (File dir kind) text) refl
