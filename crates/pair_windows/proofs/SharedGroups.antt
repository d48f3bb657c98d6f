-- A script of which no command asks that a group be exclusive has no exclusive group.
use Rattle.std.proofs.Common.{◌≡◌, ℕ, zero, suc, Bool, true, false, cond, List, [], ◌∷◌, take, get_or, Option, Some, None, Result, Ok, Err, inl, inr, refl, subst, arith}
use Rattle.std.specs.List.{All, list_any}
use Rattle.std.specs.Option.{option_map_or}
use Rattle.std.specs.Prelude.{not}
use Rattle.std.proofs.lemmas.Bool.{cases_Bool}
use Rattle.std.proofs.lemmas.List.Elements.{All-filter, All-map, All-push, All-take}
use Rattle.lists.proofs.Tests.{All-from_none, All-one, find-found}
use Rattle.num_text.specs.Blanks.{trim}
use Rattle.pair_law.specs.Epochs.{state_after, state_at}
use Rattle.pair_law.specs.State.{PairState, default_group, group_named, has_gid, has_name, opening}
use Rattle.pair_law.specs.Steps.{accepted, after_write, kept_tasks, left, next, next_if, refusal, written}
use Rattle.pair_law.specs.commands.Mkdir as mkdir
use Rattle.pair_law.specs.commands.Mode as mode
use Rattle.pair_law.specs.commands.Rmdir as rmdir
use Rattle.pair_law.specs.commands.Schemata as schemata
use Rattle.pair_law.specs.commands.Tasks as tasks
use Rattle.pair_text.specs.Values.{Machines, PairScriptValue, commands_of, is_command}
use Rattle.pair_text.specs.declared.group.PairGroup.{PairGroup}
use Rattle.pair_text.specs.declared.op.PairOp.{PairOp}
use Rattle.pair_text.specs.declared.op.PairOp.TheVariants as ops
use Rattle.pair_text.specs.declared.side.Side.{Side}
use Rattle.pair_text.specs.declared.side.Side.TheVariants.{First, Second}
use Rattle.pair_text.specs.declared.side_mask.SideMask.{SideMask}
use Rattle.pair_windows.specs.LevelSpans.{is_exclusive}
use Rattle.pair_windows.specs.Quiet.{asks_exclusive, is_exclusive_text}
use Rattle.path_names.specs.declared.files.FileKind.{FileKind}
use Rattle.path_names.specs.declared.files.FileKind.TheVariants.{Mode, Schemata, Tasks}
use Rattle.rc_base.specs.declared.names.Mode.TheVariants.{Shareable, Exclusive}
use Rattle.schemata_text.specs.declared.fault.TextFault.{TextFault}
use Rattle.tree_law.specs.Refusals.{Refusal}
use Rattle.tree_law.specs.commands.Mode.{is_named, is_present}

-- a group is not exclusive
abbrev pub IsShared : PairGroup → Type 0
IsShared g = is_exclusive g ≡ false

-- no group of a state is
abbrev AreShared : PairState → Type 0
AreShared s = All IsShared s.groups

-- an op does not ask that a group be
abbrev IsQuiet : PairOp → Type 0
IsQuiet op = asks_exclusive op ≡ false

-- ---- another record of a group

IsShared-exchanged : (new g : PairGroup) → IsShared new → IsShared g → IsShared (schemata.exchanged new g)
IsShared-exchanged new g this that = elim (cases_Bool (has_gid new.gid g)) [
  | inl is ↦ rw is this
  | inr is_not ↦ rw is_not that
]

AreShared-with_record : (s : PairState) (new : PairGroup) → AreShared s → IsShared new → AreShared (schemata.with_record s new)
AreShared-with_record s new shared this = All-map IsShared (schemata.exchanged new) s.groups (λ k d within. IsShared-exchanged new (get_or s.groups k d) this (shared k d within))

IsShared-found : (s : PairState) (name : Option (List ℕ)) (g : PairGroup) → AreShared s → group_named s name ≡ Some g → IsShared g
IsShared-found s name g shared found = let f = find-found (has_name name) s.groups g found in subst IsShared (f.at g) (shared f.place g f.within)

-- ---- each command

IsShared-with_mask : (g : PairGroup) (side : Side) (domain mask : ℕ) → IsShared g → IsShared (schemata.with_mask g side domain mask)
IsShared-with_mask g First domain mask shared = shared
IsShared-with_mask g Second domain mask shared = shared

IsShared-with_masks : (g : PairGroup) (all : List SideMask) → IsShared g → IsShared (schemata.with_masks g all)
IsShared-with_masks g [] shared = shared
IsShared-with_masks g (a ∷ all) shared = IsShared-with_masks (schemata.with_mask g a.side a.domain a.mask) all (IsShared-with_mask g a.side a.domain a.mask shared)

AreShared-schemata : (s : PairState) (g : PairGroup) (read : Result (List SideMask) TextFault) → AreShared s → IsShared g → AreShared (schemata.accepted s g read)
unfolding schemata.accepted
AreShared-schemata s g (Err fault) shared this = shared
AreShared-schemata s g (Ok all) shared this = AreShared-with_record s (schemata.with_masks g all) shared (IsShared-with_masks g all this)

-- a text that does not ask for the mode exclusive
AreShared-mode : (s : PairState) (g : PairGroup) (text : List ℕ) → AreShared s → is_named (trim text) Exclusive ≡ false → AreShared (mode.accepted s g text)
unfolding mode.accepted mode.mode_in
AreShared-mode s g text shared quiet = by_present (is_present g.mode text)
  where
    by_names : (a b : Bool) → b ≡ false → AreShared (mode.with_mode s g (cond a (Some Shareable) (cond b (Some Exclusive) None)))
    by_names true b e = AreShared-with_record s (record g { mode = Shareable }) shared refl
    by_names false true e = absurd (let f : true ≡ false = e in cc)
    by_names false false e = shared

    by_present : (b : Bool) → AreShared (cond b s (mode.with_mode s g (mode.mode_in text)))
    by_present true = shared
    by_present false = by_names (is_named (trim text) Shareable) (is_named (trim text) Exclusive) quiet

AreShared-tasks : (s : PairState) (g : PairGroup) (text : List ℕ) → AreShared s → AreShared (tasks.kept s g text)
unfolding tasks.kept
AreShared-tasks s g text shared = shared

AreShared-mkdir : (m : Machines) (s : PairState) (name : List ℕ) → AreShared s → AreShared (mkdir.accepted m s name)
unfolding mkdir.accepted
AreShared-mkdir m s name shared = All-push IsShared s.groups (mkdir.new_group m s name) shared refl

AreShared-rmdir : (s : PairState) (name : List ℕ) → AreShared s → AreShared (rmdir.accepted s name)
unfolding rmdir.accepted
AreShared-rmdir s name shared = of (group_named s (Some name))
  where
    of : (o : Option PairGroup) → AreShared (option_map_or (λ (g : PairGroup). rmdir.without_group s g.gid) o s)
    of None = shared
    of (Some g) = All-filter (λ x. not (has_gid g.gid x)) IsShared s.groups shared

AreShared-written : (m : Machines) (s : PairState) (g : PairGroup) (kind : FileKind) (text : List ℕ) → AreShared s → IsShared g → is_exclusive_text kind text ≡ false → AreShared (written m s g kind text)
AreShared-written m s g Schemata text shared this quiet = AreShared-schemata s g (schemata.schemata_read m text) shared this
AreShared-written m s g Mode text shared this quiet = AreShared-mode s g text shared quiet
AreShared-written m s g Tasks text shared this quiet = AreShared-tasks s g text shared
AreShared-written m s g kind text shared this quiet = shared

AreShared-write : (m : Machines) (s : PairState) (name : Option (List ℕ)) (kind : FileKind) (text : List ℕ) → AreShared s → is_exclusive_text kind text ≡ false → AreShared (after_write m s (group_named s name) kind text)
AreShared-write m s name kind text shared quiet = of (group_named s name) refl
  where
    of : (o : Option PairGroup) → group_named s name ≡ o → AreShared (after_write m s o kind text)
    of None is = shared
    of (Some g) is = AreShared-written m s g kind text shared (IsShared-found s name g shared is) quiet

AreShared-accepted : (m : Machines) (s : PairState) (op : PairOp) → AreShared s → IsQuiet op → AreShared (accepted m s op)
AreShared-accepted m s (ops.Mkdir name) shared quiet = AreShared-mkdir m s name shared
AreShared-accepted m s (ops.Rmdir name) shared quiet = AreShared-rmdir s name shared
AreShared-accepted m s (ops.Write file text) shared quiet = AreShared-write m s file.group file.kind text shared quiet
AreShared-accepted m s op shared quiet = shared

AreShared-kept_tasks : (s : PairState) (o : Option PairGroup) (kind : FileKind) (text : List ℕ) → AreShared s → AreShared (kept_tasks s o kind text)
AreShared-kept_tasks s None kind text shared = shared
AreShared-kept_tasks s (Some g) Tasks text shared = AreShared-tasks s g text shared
AreShared-kept_tasks s (Some g) kind text shared = shared

AreShared-left : (s : PairState) (op : PairOp) → AreShared s → AreShared (left s op)
AreShared-left s (ops.Write file text) shared = AreShared-kept_tasks s (group_named s file.group) file.kind text shared
AreShared-left s op shared = shared

AreShared-next : (m : Machines) (s : PairState) (op : PairOp) → AreShared s → IsQuiet op → AreShared (next m s op).state
unfolding next
AreShared-next m s op shared quiet = of (refusal m s op)
  where
    of : (o : Option Refusal) → AreShared (next_if m s op o)
    of None = AreShared-accepted m s op shared quiet
    of (Some r) = AreShared-left s op shared

-- ---- every epoch

AreShared-after : (m : Machines) (s : PairState) (commands : List PairOp) → AreShared s → All IsQuiet commands → AreShared (state_after m s commands)
AreShared-after m s [] shared quiet = shared
AreShared-after m s (op ∷ commands) shared quiet =
    AreShared-after m (next m s op).state commands (AreShared-next m s op shared (quiet zero op (omega arith))) (λ k d within. quiet (suc k) d (omega (arith, within)))

pub AreShared-state_at : (script : PairScriptValue) (epoch : ℕ) → list_any asks_exclusive script.ops ≡ false → AreShared (state_at script epoch)
AreShared-state_at script epoch none =
    AreShared-after script.machines (opening script.machines script.tasks) (take epoch (commands_of script)) (All-one IsShared (default_group script.machines) refl)
    (All-take IsQuiet epoch (commands_of script) (All-filter is_command IsQuiet script.ops (All-from_none asks_exclusive script.ops none)))
