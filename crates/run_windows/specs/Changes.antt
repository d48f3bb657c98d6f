-- The groups that are exclusive from each change of them on.
-- (For functions and proofs: no promise of the program stands on it.)
use Rattle.std.specs.Prelude.{◌≡◌, ℕ, ◌+◌, ◌<◌, ◌≤◌, All, AllPairs, IfSome, List, [], ◌∷◌, ◌++◌, filter, length, Option, None, Some, slice_get}
use Rattle.group_tree.specs.Records.{is_other_in}
use Rattle.path_names.specs.declared.files.FileKind.TheVariants.{Mode, Schemata}
use Rattle.path_names.specs.declared.path_ref.PathRef.{PathRef}
use Rattle.path_names.specs.declared.path_ref.PathRef.TheVariants.{Dir, File}
use Rattle.rc_base.specs.declared.names.Gid.{Gid}
use Rattle.rc_base.specs.declared.names.Mode.TheVariants.{Exclusive}
use Rattle.run_law.specs.Journals.{At, JournalsValue}
use Rattle.run_law.specs.Runs.{IsRun}
use Rattle.run_windows.specs.Epochs.{state_at}
use Rattle.run_windows.specs.Edits.{Change, changes_of}
use Rattle.run_windows.specs.Stays.{exclusive_in}
use Rattle.run_windows.specs.declared.changes.Log.{Log}
use Rattle.script_ops.specs.Values.{IsLawful, ScriptValue}
use Rattle.script_ops.specs.declared.op.Op.{Op}
use Rattle.script_ops.specs.declared.op.Op.TheVariants as ops
use Rattle.tree_core.specs.Values.{TreeValue}
use Rattle.tree_law.specs.Existing.{directory_gid}
use Rattle.tree_law.specs.State.{State}

-- a tree that has taken the commands of a run so far
pub record IsReplayed (script : ScriptValue) (j : JournalsValue) (t : TreeValue) : Type 0 where
  pub machine : t.machine ≡ script.machine
  pub state : t.state ≡ state_at script j t.epoch
  pub known : t.epoch ≤ length j.tree

-- the group whose mode or masks are written
abbrev pub written_gid : State → PathRef → Option Gid
written_gid s (File dir Schemata) = directory_gid s dir
written_gid s (File dir Mode) = directory_gid s dir
written_gid s path = None

-- the group whose directory is removed
abbrev pub removed_gid : State → PathRef → Option Gid
removed_gid s (Dir dir) = directory_gid s dir
removed_gid s path = None

-- the group that a command may make exclusive, end to be so, or give other masks: there is one at most
abbrev pub changed_gid : State → Op → Option Gid
changed_gid s (ops.Rmdir path) = removed_gid s path
changed_gid s (ops.Write path text) = written_gid s path
changed_gid s op = None

-- the same of an op, where there is one
abbrev pub changed_by : State → Option Op → Option Gid
changed_by s None = None
changed_by s (Some op) = changed_gid s op

-- the exclusive groups are the same but for this one; all of them, where none is named
abbrev pub AreKeptBut : Option Gid → State → State → Type 0
AreKeptBut gid s t = filter (is_other_in gid Exclusive) t.groups ≡ filter (is_other_in gid Exclusive) s.groups

-- The exclusive groups of the first epochs: those of a change hold from its epoch up to the next change.
pub record AreChanges (script : ScriptValue) (j : JournalsValue) (count : ℕ) (changes : List Change) : Type 0 where
  pub some : 0 < count → 0 < length changes
  pub first : (c : Change) → At changes 0 c → c.from ≡ 0
  pub known : All (λ (c : Change). c.from < count) changes
  pub rising : AllPairs (λ (a b : Change). a.from < b.from) changes
  pub each :
      (i epoch : ℕ) (c : Change) → At changes i c → c.from ≤ epoch → epoch < count → IfSome (slice_get changes (i + 1)) (λ (d : Change). epoch < d.from)
      → c.exclusive ≡ exclusive_in (state_at script j epoch).groups

-- the changes of a log, with the latest one
abbrev pub logged : Log → List Change
logged log = changes_of log.latest.items log.pasts.items ++ record { from = log.from; exclusive = log.latest.items } ∷ []

-- the log has the changes of the exclusive groups in the commands of a run that the tree has taken
pub record HasNoted (script : ScriptValue) (j : JournalsValue) (t : TreeValue) (log : Log) : Type 0 where
  pub lawful : IsLawful script
  pub run : IsRun script j
  pub changes : AreChanges script j (t.epoch + 1) (logged log)
