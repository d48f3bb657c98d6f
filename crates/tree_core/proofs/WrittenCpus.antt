-- What a write of `cpus` or `cpus_list` answers and leaves.
use Rattle.std.proofs.Common.{◌≡◌, ℕ, ◌≤◌, true, false, List, [], length, find, Option, None, Some, Result, Ok, Err, refl, sym, subst, ap, ◌∙◌}
use Rattle.std.specs.Option.{option_map_or}
use Rattle.cpu_binding.specs.declared.groups.CpuGroups.{CpuGroups}
use Rattle.cpu_lists.specs.declared.fault.CpuFault.{CpuFault}
use Rattle.cpu_lists.specs.declared.fault.CpuFault.TheVariants as faults
use Rattle.group_tree.specs.declared.group.Group.{Group}
use Rattle.machine.specs.Ranges.{InRange}
use Rattle.machine.specs.declared.parameters.Parameters.{Parameters}
use Rattle.path_names.specs.declared.dirs.DirRef.{DirRef}
use Rattle.path_names.specs.declared.files.FileKind.{FileKind}
use Rattle.path_names.specs.declared.files.FileKind.TheVariants as files
use Rattle.path_names.specs.declared.path_ref.PathRef.TheVariants.{File}
use Rattle.rc_base.specs.declared.replies.Reply.TheVariants as replies
use Rattle.rc_base.specs.declared.replies.Why.TheVariants.{BadCpus, Locking, NotACpu}
use Rattle.script_ops.specs.declared.op.Op.TheVariants.{Write}
use Rattle.tree_core.proofs.Outcomes.{after-nothing, needs-nothing, next-accepted}
use Rattle.tree_core.proofs.Soundness.{IsSound-from_status}
use Rattle.tree_core.proofs.WriteOutcomes.{Leaves, Leaves-write}
use Rattle.tree_core.proofs.WrittenMasks.{refusal-write_text}
use Rattle.tree_core.specs.CpuFiles.{StaysSound, is_cpus, named_by, set_read, unless}
use Rattle.tree_core.specs.Kept.{Keeps}
use Rattle.tree_core.specs.Tables.{Tables}
use Rattle.tree_law.proofs.laws.Steps.{next-sound}
use Rattle.tree_law.specs.Freeing.{counts_of}
use Rattle.tree_law.specs.Places.{controlling, group_at, is_closed}
use Rattle.tree_law.specs.Refusals.{Refusal, plain}
use Rattle.tree_law.specs.Sound.{IsSound}
use Rattle.tree_law.specs.State.{Outcome, State}
use Rattle.tree_law.specs.Steps.{accepted, after, after_accepted, left, refusal}
use Rattle.tree_law.specs.commands.Cpus as cpus
use Rattle.tree_law.specs.commands.Write as write

-- ---- the state with other groups of its CPUs

-- it is sound, where it is so with those of an accepted write
IsSound-unless : (m : Parameters) (s : State) (o : Option Refusal) (groups : List CpuGroups) → IsSound m s → (o ≡ None → IsSound m (record s { cpus = groups })) → IsSound m (record s { cpus = unless o s.cpus groups })
IsSound-unless m s None groups sound accepted = accepted refl
IsSound-unless m s (Some r) groups sound accepted = sound

-- what the type keeps of it
pub Keeps-with_cpus : {m : Parameters} {t : Tables} {s : State} {epoch : ℕ} (o : Option Refusal) (groups new : List CpuGroups) → Keeps m t s epoch → new ≡ unless o s.cpus groups
    → (o ≡ None → IsSound m (record s { cpus = groups })) → Keeps m (record t { cpus = new }) (record s { cpus = new }) epoch
Keeps-with_cpus {m} {t} {s} {epoch} o groups new keeps is sound = record {
  stands = record {
    groups = keeps.stands.groups;
    tasks = keeps.stands.tasks;
    cpus = refl;
    limbo = keeps.stands.limbo;
    threshold = keeps.stands.threshold;
    regions = keeps.stands.regions;
    locks = keeps.stands.locks;
    shareable = keeps.stands.shareable;
    taken = keeps.stands.taken;
    gids_left = keeps.stands.gids_left;
    locks_left = keeps.stands.locks_left;
  };
  sound = subst (λ (cs : List CpuGroups). IsSound m (record s { cpus = cs })) (sym is) (IsSound-unless m s o groups keeps.sound sound);
  few_tasks = keeps.few_tasks;
}

-- ---- the CPUs that a text names

-- the set of an answer, and its fault
abbrev set_or_none : Result ℕ CpuFault → ℕ
set_or_none (Ok set) = set
set_or_none (Err fault) = 0

abbrev fault_or : CpuFault → Result ℕ CpuFault → CpuFault
fault_or fault (Ok set) = fault
fault_or fault (Err other) = other

-- the refusal of a text with a fault
abbrev pub fault_refusal : CpuFault → Refusal
fault_refusal faults.Bad = plain BadCpus
fault_refusal (faults.NotACpu cpu) = record { why = NotACpu; arg = cpu }

pub against_read-fault : (s : State) (g : Group) (fault : CpuFault) → cpus.against_read g.gid g.kind s.cpus (Err fault) ≡ Some (fault_refusal fault)
against_read-fault s g faults.Bad = refl
against_read-fault s g (faults.NotACpu cpu) = refl

-- the state with other groups of its CPUs, unless something is against them
pub unless-cpus : (s : State) (o : Option Refusal) (groups : List CpuGroups) → record s { cpus = unless o s.cpus groups } ≡ unless o s (record s { cpus = groups })
unless-cpus s None groups = refl
unless-cpus s (Some r) groups = refl

module _ (s : State) (g : Group) (named : Result (List ℕ) CpuFault) where
  -- a closed group takes none
  pub refusal-closed : is_closed s (controlling g.gid g.kind) ≡ true → cpus.refusal s g named ≡ Some (plain Locking)
  unfolding cpus.refusal
  refusal-closed closed = rw closed refl

  module _ (opened : is_closed s (controlling g.gid g.kind) ≡ false) where
    -- what is against those that were named
    refusal-open : cpus.refusal s g named ≡ cpus.against_read g.gid g.kind s.cpus named
    unfolding cpus.refusal
    refusal-open = rw opened refl

    -- a text with a fault
    pub refusal-fault : (fault : CpuFault) → Err fault ≡ set_read named → cpus.refusal s g named ≡ cpus.against_read g.gid g.kind s.cpus (Err fault)
    refusal-fault fault is = refusal-open ∙ ap (cpus.against_read g.gid g.kind s.cpus) (at named is)
      where
        at : (r : Result (List ℕ) CpuFault) → Err fault ≡ set_read r → r ≡ Err fault
        at (Ok numbers) e = absurd (let f : Err fault ≡ Ok (cpus.set_of numbers) = e in cc)
        at (Err other) e = sym (ap (λ (f : CpuFault). Err f) (ap (fault_or fault) e))

    module _ (set : ℕ) (is : Ok set ≡ set_read named) where
      -- a set
      pub refusal-set : cpus.refusal s g named ≡ cpus.against_set g.gid g.kind s.cpus set
      refusal-set = refusal-open ∙ at named is
        where
          at : (r : Result (List ℕ) CpuFault) → Ok set ≡ set_read r → cpus.against_read g.gid g.kind s.cpus r ≡ cpus.against_set g.gid g.kind s.cpus set
          at (Ok numbers) e = let same : set ≡ cpus.set_of numbers = ap set_or_none e in ap (cpus.against_set g.gid g.kind s.cpus) (sym same)
          at (Err fault) e = absurd (let f : Ok set ≡ Err fault = e in cc)

      -- which the CPUs of the group become
      pub accepted-set : cpus.accepted s g named ≡ record s { cpus = cpus.cpus_after g.gid g.kind set s.cpus }
      unfolding cpus.accepted
      accepted-set = at named is
        where
          at : (r : Result (List ℕ) CpuFault) → Ok set ≡ set_read r → cpus.accepted s g r ≡ record s { cpus = cpus.cpus_after g.gid g.kind set s.cpus }
          at (Ok numbers) e = let same : set ≡ cpus.set_of numbers = ap set_or_none e in ap (λ (n : ℕ). record s { cpus = cpus.cpus_after g.gid g.kind n s.cpus }) (sym same)
          at (Err fault) e = absurd (let f : Ok set ≡ Err fault = e in cc)

-- ---- the command

-- what is against the text, by the file
text_refusal-cpus : (m : Parameters) (s : State) (dir : DirRef) (kind : FileKind) (text : List ℕ) → is_cpus kind ≡ true → write.text_refusal m s (File dir kind) text ≡ option_map_or (λ g. cpus.refusal s g (named_by m kind text)) (group_at s dir) None
text_refusal-cpus m s dir files.Cpus text names = refl
text_refusal-cpus m s dir files.CpusList text names = refl
text_refusal-cpus m s dir kind text names = absurd (let f : false ≡ true = names in cc)

-- the next state of an accepted write
accepted-cpus : (m : Parameters) (s : State) (dir : DirRef) (kind : FileKind) (text looks : List ℕ) → is_cpus kind ≡ true → accepted m s (Write (File dir kind) text) looks ≡ option_map_or (λ g. cpus.accepted s g (named_by m kind text)) (group_at s dir) s
unfolding write.accepted
accepted-cpus m s dir files.Cpus text looks names = refl
accepted-cpus m s dir files.CpusList text looks names = refl
accepted-cpus m s dir kind text looks names = absurd (let f : false ≡ true = names in cc)

-- a refused one leaves the state
left-cpus : (s : State) (dir : DirRef) (kind : FileKind) (text : List ℕ) → is_cpus kind ≡ true → left s (Write (File dir kind) text) ≡ s
unfolding write.refused
left-cpus s dir files.Cpus text names = refl
left-cpus s dir files.CpusList text names = refl
left-cpus s dir kind text names = absurd (let f : false ≡ true = names in cc)

-- it frees no RMID
freed-cpus : (s : State) (dir : DirRef) (kind : FileKind) (text : List ℕ) → is_cpus kind ≡ true → write.freed s (File dir kind) text ≡ []
unfolding write.freed
freed-cpus s dir files.Cpus text names = refl
freed-cpus s dir files.CpusList text names = refl
freed-cpus s dir kind text names = absurd (let f : false ≡ true = names in cc)

-- and nothing follows it
after_accepted-cpus : (m : Parameters) (s : State) (k : ℕ) (dir : DirRef) (kind : FileKind) (text : List ℕ) → is_cpus kind ≡ true → after_accepted m s k (Write (File dir kind) text) ≡ []
unfolding write.after
after_accepted-cpus m s k dir files.Cpus text names = refl
after_accepted-cpus m s k dir files.CpusList text names = refl
after_accepted-cpus m s k dir kind text names = absurd (let f : false ≡ true = names in cc)

module _ (m : Parameters) (s : State) (dir : DirRef) (kind : FileKind) (text : List ℕ) (names : is_cpus kind ≡ true) (writable : find (write.against s (File dir kind)) write.reasons ≡ None) where
  -- nothing follows it, accepted or refused
  pub after-cpus : (k : ℕ) → after m s k (Write (File dir kind) text) ≡ []
  after-cpus k = after-nothing m s k (Write (File dir kind) text) (after_accepted-cpus m s k dir kind text names)

  -- a directory that is no group's takes any text, and nothing changes
  pub Leaves-nowhere : (looks : List ℕ) → group_at s dir ≡ None → Leaves m s (File dir kind) text looks None s
  Leaves-nowhere looks none = Leaves-write m s (File dir kind) text looks None s
      (refusal-write_text m s (File dir kind) text writable ∙ text_refusal-cpus m s dir kind text names ∙ ap (λ (o : Option Group). option_map_or (λ g. cpus.refusal s g (named_by m kind text)) o None) none)
      (accepted-cpus m s dir kind text looks names ∙ ap (λ (o : Option Group). option_map_or (λ g. cpus.accepted s g (named_by m kind text)) o s) none)

  module _ (g : Group) (is_group : group_at s dir ≡ Some g) where
    -- what is against the command is against the CPUs
    refusal-group : refusal m s (Write (File dir kind) text) ≡ cpus.refusal s g (named_by m kind text)
    refusal-group = refusal-write_text m s (File dir kind) text writable ∙ text_refusal-cpus m s dir kind text names ∙ ap (λ (o : Option Group). option_map_or (λ x. cpus.refusal s x (named_by m kind text)) o None) is_group

    accepted-group : (looks : List ℕ) → accepted m s (Write (File dir kind) text) looks ≡ cpus.accepted s g (named_by m kind text)
    accepted-group looks = accepted-cpus m s dir kind text looks names ∙ ap (λ (o : Option Group). option_map_or (λ x. cpus.accepted s x (named_by m kind text)) o s) is_group

    -- the CPUs of the group change where nothing is against them
    pub Leaves-cpus : (looks : List ℕ) → Leaves m s (File dir kind) text looks (cpus.refusal s g (named_by m kind text)) (unless (cpus.refusal s g (named_by m kind text)) s (cpus.accepted s g (named_by m kind text)))
    Leaves-cpus looks = Leaves-write m s (File dir kind) text looks (cpus.refusal s g (named_by m kind text)) _ refusal-group
        (ap (λ (x : State). unless (cpus.refusal s g (named_by m kind text)) x (accepted m s (Write (File dir kind) text) looks)) (left-cpus s dir kind text names)
        ∙ ap (λ (x : State). unless (cpus.refusal s g (named_by m kind text)) s x) (accepted-group looks))

    -- they leave a sound tree
    pub StaysSound-cpus : InRange m → IsSound m s → length text ≤ 4096 → StaysSound m s g (named_by m kind text)
    StaysSound-cpus range sound short none =
        let op = Write (File dir kind) text in
        let next = next-sound m s op [] range sound short (ap length (sym (needs-nothing m s op (ap (counts_of m) (freed-cpus s dir kind text names))))) in
        let after = subst (λ (o : Outcome). IsSound m o.state) (next-accepted m s op [] (refusal-group ∙ none)) next in
        subst (IsSound m) (accepted-group []) (IsSound-from_status m (accepted m s op []) replies.Ok after)
