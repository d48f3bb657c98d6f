-- The groups of every state of a script stand in order of their serial numbers.
use Rattle.std.proofs.Common.{◌≡◌, ℕ, zero, suc, ◌+◌, ◌<◌, ◌≤◌, Bool, true, false, not, cond, List, [], ◌∷◌, take, get_or, Option, Some, None, Result, Ok, Err, inl, inr, refl, arith}
use Rattle.std.specs.List.{All}
use Rattle.std.specs.Option.{option_map_or}
use Rattle.std.proofs.lemmas.Bool.{cases_Bool, eqb-true}
use Rattle.std.proofs.lemmas.List.{length-take}
use Rattle.std.proofs.lemmas.List.Elements.{All-filter, All-map, All-push}
use Rattle.std.proofs.lemmas.List.Kept.{AllPairs-filter}
use Rattle.std.proofs.lemmas.List.Quantifiers.{all_pairs_push}
use Rattle.lists.proofs.Pairs.{AllPairs-map, AllPairs-one}
use Rattle.pair_law.specs.Epochs.{state_after, state_at}
use Rattle.pair_law.specs.State.{PairState, default_group, group_named, has_gid, opening}
use Rattle.pair_law.specs.Steps.{accepted, after_write, kept_tasks, left, next, next_if, refusal, written}
use Rattle.pair_law.specs.commands.Mkdir as mkdir
use Rattle.pair_law.specs.commands.Mode as mode
use Rattle.pair_law.specs.commands.Rmdir as rmdir
use Rattle.pair_law.specs.commands.Schemata as schemata
use Rattle.pair_law.specs.commands.Tasks as tasks
use Rattle.pair_law.proofs.laws.Epochs.{next_gid-state_after}
use Rattle.pair_text.specs.Values.{Machines, PairScriptValue, commands_of}
use Rattle.pair_text.specs.declared.group.PairGroup.{PairGroup}
use Rattle.pair_text.specs.declared.op.PairOp.{PairOp}
use Rattle.pair_text.specs.declared.op.PairOp.TheVariants as ops
use Rattle.pair_text.specs.declared.side_mask.SideMask.{SideMask}
use Rattle.path_names.specs.declared.files.FileKind.{FileKind}
use Rattle.path_names.specs.declared.files.FileKind.TheVariants.{Mode, Schemata, Tasks}
use Rattle.pair_windows.specs.PartitionSpans.{RiseByGid}
use Rattle.rc_base.specs.declared.names.Mode.{Mode as ModeType}
use Rattle.schemata_text.specs.declared.fault.TextFault.{TextFault}
use Rattle.tree_law.specs.Refusals.{Refusal}

-- one group's number before another's
abbrev Precedes : PairGroup → PairGroup → Type 0
Precedes a b = a.gid.0 < b.gid.0

-- ---- another record of a group

-- it has the same number
gid-exchanged : (new g : PairGroup) → (schemata.exchanged new g).gid.0 ≡ g.gid.0
gid-exchanged new g = elim (cases_Bool (has_gid new.gid g)) [
  | inl is ↦ rw is (eqb-true new.gid.0 g.gid.0 is)
  | inr is_not ↦ rw is_not refl
]

RiseByGid-with_record : (s : PairState) (new : PairGroup) → RiseByGid s → RiseByGid (schemata.with_record s new)
RiseByGid-with_record s new rise = record {
  rising = AllPairs-map Precedes (schemata.exchanged new) s.groups (λ i j d lt within. rw (gid-exchanged new (get_or s.groups i d), gid-exchanged new (get_or s.groups j d)) (rise.rising i j d lt within));
  below = All-map (λ (g : PairGroup). g.gid.0 < s.next_gid) (schemata.exchanged new) s.groups (λ k d within. rw (gid-exchanged new (get_or s.groups k d)) (rise.below k d within));
}

-- ---- each command

RiseByGid-mkdir : (m : Machines) (s : PairState) (name : List ℕ) → RiseByGid s → RiseByGid (mkdir.accepted m s name)
unfolding mkdir.accepted
RiseByGid-mkdir m s name rise = record {
  rising = all_pairs_push Precedes s.groups (mkdir.new_group m s name) rise.rising rise.below;
  below = All-push (λ (g : PairGroup). g.gid.0 < s.next_gid + 1) s.groups (mkdir.new_group m s name) (λ k d within. let lt = rise.below k d within in omega (arith, lt)) (omega arith);
}

RiseByGid-rmdir : (s : PairState) (name : List ℕ) → RiseByGid s → RiseByGid (rmdir.accepted s name)
unfolding rmdir.accepted
RiseByGid-rmdir s name rise = of (group_named s (Some name))
  where
    of : (o : Option PairGroup) → RiseByGid (option_map_or (λ (g : PairGroup). rmdir.without_group s g.gid) o s)
    of None = rise
    of (Some g) = record {
      rising = AllPairs-filter Precedes (λ x. not (has_gid g.gid x)) s.groups rise.rising;
      below = All-filter (λ x. not (has_gid g.gid x)) (λ (x : PairGroup). x.gid.0 < s.next_gid) s.groups rise.below;
    }

RiseByGid-schemata : (s : PairState) (g : PairGroup) (read : Result (List SideMask) TextFault) → RiseByGid s → RiseByGid (schemata.accepted s g read)
unfolding schemata.accepted
RiseByGid-schemata s g (Err fault) rise = rise
RiseByGid-schemata s g (Ok all) rise = RiseByGid-with_record s (schemata.with_masks g all) rise

RiseByGid-with_mode : (s : PairState) (g : PairGroup) (o : Option ModeType) → RiseByGid s → RiseByGid (mode.with_mode s g o)
RiseByGid-with_mode s g None rise = rise
RiseByGid-with_mode s g (Some to) rise = RiseByGid-with_record s (record g { mode = to }) rise

RiseByGid-mode : (s : PairState) (g : PairGroup) (text : List ℕ) → RiseByGid s → RiseByGid (mode.accepted s g text)
unfolding mode.accepted
RiseByGid-mode s g text rise = of _
  where
    of : (b : Bool) → RiseByGid (cond b s (mode.with_mode s g (mode.mode_in text)))
    of true = rise
    of false = RiseByGid-with_mode s g (mode.mode_in text) rise

RiseByGid-tasks : (s : PairState) (g : PairGroup) (text : List ℕ) → RiseByGid s → RiseByGid (tasks.kept s g text)
unfolding tasks.kept
RiseByGid-tasks s g text rise = record { rising = rise.rising; below = rise.below }

RiseByGid-written : (m : Machines) (s : PairState) (g : PairGroup) (kind : FileKind) (text : List ℕ) → RiseByGid s → RiseByGid (written m s g kind text)
RiseByGid-written m s g Schemata text rise = RiseByGid-schemata s g (schemata.schemata_read m text) rise
RiseByGid-written m s g Mode text rise = RiseByGid-mode s g text rise
RiseByGid-written m s g Tasks text rise = RiseByGid-tasks s g text rise
RiseByGid-written m s g kind text rise = rise

RiseByGid-after_write : (m : Machines) (s : PairState) (o : Option PairGroup) (kind : FileKind) (text : List ℕ) → RiseByGid s → RiseByGid (after_write m s o kind text)
RiseByGid-after_write m s None kind text rise = rise
RiseByGid-after_write m s (Some g) kind text rise = RiseByGid-written m s g kind text rise

RiseByGid-accepted : (m : Machines) (s : PairState) (op : PairOp) → RiseByGid s → RiseByGid (accepted m s op)
RiseByGid-accepted m s (ops.Mkdir name) rise = RiseByGid-mkdir m s name rise
RiseByGid-accepted m s (ops.Rmdir name) rise = RiseByGid-rmdir s name rise
RiseByGid-accepted m s (ops.Write file text) rise = RiseByGid-after_write m s (group_named s file.group) file.kind text rise
RiseByGid-accepted m s (ops.Read file) rise = rise
RiseByGid-accepted m s ops.Flush rise = rise
RiseByGid-accepted m s (ops.Use task cpu line code) rise = rise

RiseByGid-kept_tasks : (s : PairState) (o : Option PairGroup) (kind : FileKind) (text : List ℕ) → RiseByGid s → RiseByGid (kept_tasks s o kind text)
RiseByGid-kept_tasks s None kind text rise = rise
RiseByGid-kept_tasks s (Some g) Tasks text rise = RiseByGid-tasks s g text rise
RiseByGid-kept_tasks s (Some g) kind text rise = rise

RiseByGid-left : (s : PairState) (op : PairOp) → RiseByGid s → RiseByGid (left s op)
RiseByGid-left s (ops.Write file text) rise = RiseByGid-kept_tasks s (group_named s file.group) file.kind text rise
RiseByGid-left s (ops.Mkdir name) rise = rise
RiseByGid-left s (ops.Rmdir name) rise = rise
RiseByGid-left s (ops.Read file) rise = rise
RiseByGid-left s ops.Flush rise = rise
RiseByGid-left s (ops.Use task cpu line code) rise = rise

pub RiseByGid-next : (m : Machines) (s : PairState) (op : PairOp) → RiseByGid s → RiseByGid (next m s op).state
unfolding next
RiseByGid-next m s op rise = of (refusal m s op)
  where
    of : (o : Option Refusal) → RiseByGid (next_if m s op o)
    of None = RiseByGid-accepted m s op rise
    of (Some r) = RiseByGid-left s op rise

-- ---- every epoch

-- the groups rise after some commands
RiseByGid-after : (m : Machines) (s : PairState) (ops : List PairOp) → RiseByGid s → RiseByGid (state_after m s ops)
RiseByGid-after m s [] rise = rise
RiseByGid-after m s (op ∷ ops) rise = RiseByGid-after m (next m s op).state ops (RiseByGid-next m s op rise)

-- of each epoch
pub RiseByGid-state_at : (script : PairScriptValue) (epoch : ℕ) → RiseByGid (state_at script epoch)
RiseByGid-state_at script epoch = RiseByGid-after script.machines (opening script.machines script.tasks) (take epoch (commands_of script)) (record {
  rising = AllPairs-one Precedes (default_group script.machines);
  below = λ k d within. of k d within;
})
  where
    of : (k : ℕ) (d : PairGroup) → k < 1 → (get_or (default_group script.machines ∷ []) k d).gid.0 < 1
    of zero d within = omega arith
    of (suc k) d within = absurd (omega (arith, within))

-- the groups of an epoch have numbers up to it
pub gid-state_at : (script : PairScriptValue) (epoch : ℕ) → All (λ (g : PairGroup). g.gid.0 ≤ epoch) (state_at script epoch).groups
gid-state_at script epoch = λ k d within.
    let lt = (RiseByGid-state_at script epoch).below k d within in
    let most = next_gid-state_after script.machines (opening script.machines script.tasks) (take epoch (commands_of script)) in
    let few = length-take epoch (commands_of script) in
    omega (arith, lt, most, few)
