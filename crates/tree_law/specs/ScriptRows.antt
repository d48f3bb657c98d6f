-- Worked scripts: the counts, the reply and the follow-ups of each command, and the state at the end. An independent model of the
-- rules gave them.
-- (For functions and proofs: no promise of the program stands on it.)
use Rattle.std.specs.Prelude.{◌≡◌, ℕ, ◌+◌, false, List, [], ◌∷◌, codes, Some, None}
use Rattle.group_tree.specs.declared.group_kind.GroupKind.TheVariants.{Control}
use Rattle.machine.specs.declared.parameters.Parameters.{Parameters}
use Rattle.path_names.specs.declared.dirs.DirRef.TheVariants as dirs
use Rattle.path_names.specs.declared.dirs.Owner.TheVariants as owners
use Rattle.path_names.specs.declared.files.FileKind.TheVariants as kinds
use Rattle.path_names.specs.declared.names.NameId.{NameId}
use Rattle.path_names.specs.declared.path_ref.PathRef.TheVariants as paths
use Rattle.rc_base.specs.Replies.{refused}
use Rattle.rc_base.specs.declared.names.Gid.{Gid}
use Rattle.rc_base.specs.declared.names.Mode.TheVariants.{Shareable, LockSetup}
use Rattle.rc_base.specs.declared.replies.Reply.{Reply}
use Rattle.rc_base.specs.declared.replies.Reply.TheVariants as replies
use Rattle.rc_base.specs.declared.replies.Why.TheVariants as whys
use Rattle.script_ops.specs.declared.op.Op.TheVariants as ops
use Rattle.tree_law.specs.Rows.{Step, at_end}
use Rattle.tree_law.specs.State.{State, opening}
use Rattle.tree_law.specs.Steps.{after, needs, next}
use Rattle.tree_law.specs.declared.follow.Follow.{Follow}
use Rattle.tree_law.specs.declared.follow.Follow.TheVariants as follows

-- what is seen of a command
pub record Answer : Type 0 where
  pub counts : List (ℕ × ℕ)
  pub reply : Reply
  pub follows : List Follow

-- the answers to commands, from this position on
abbrev pub answers_from : Parameters → State → ℕ → List Step → List Answer
answers_from m s k [] = []
answers_from m s k (step ∷ steps) =
    record { counts = needs m s step.op; reply = (next m s step.op step.looks).reply; follows = after m s k step.op } ∷ answers_from m (next m s step.op step.looks).state (k + 1) steps

-- the name of this number
abbrev pub nid : ℕ → NameId
nid n = record { 0 = n }

-- the gid of this number
abbrev pub gd : ℕ → Gid
gd n = record { 0 = n }

-- ---- two groups on two domains: overlaps, CPUs and pseudo-locksetup

-- two caches of 2 sets and 8 ways, with 4 classes, 4 RMIDs and 2 CPUs
abbrev pub first_machine : Parameters
first_machine = record { domains = 2; sets = 2; ways = 8; classes = 4; rmids = 4; cpus = 2; min = 1; shareable = 0; threshold = 0; sparse = false; slices = 1 }

-- two groups are made, and one gets a mask and enters pseudo-locksetup; six commands are refused
abbrev pub first_script : List Step
first_script =
    (record { op = ops.Mkdir (paths.Dir (dirs.Ctrl (nid 2))); looks = [] })
    ∷ (record { op = ops.Mkdir (paths.Dir (dirs.Ctrl (nid 1))); looks = [] })
    ∷ (record { op = ops.Tick; looks = [] })
    ∷ (record { op = ops.Write (paths.File dirs.Root kinds.Mode) (32 ∷ 101 ∷ 120 ∷ 99 ∷ 108 ∷ 117 ∷ 115 ∷ 105 ∷ 118 ∷ 101 ∷ 9 ∷ []); looks = [] })
    ∷ (record { op = ops.Write (paths.File (dirs.Ctrl (nid 3)) kinds.Schemata) (codes "L3:1=380"); looks = [] })
    ∷ (record { op = ops.Flush None; looks = [] })
    ∷ (record { op = ops.Write (paths.File (dirs.Ctrl (nid 1)) kinds.Schemata) (codes "L3:0=1;"); looks = [] })
    ∷ (record { op = ops.Write (paths.File (dirs.Ctrl (nid 1)) kinds.CpusList) ([]); looks = [] })
    ∷ (record { op = ops.Write (paths.File (dirs.Ctrl (nid 1)) kinds.CpusList) (codes "2-3"); looks = [] })
    ∷ (record { op = ops.Write (paths.File (dirs.Ctrl (nid 1)) kinds.Mode) (codes "x"); looks = [] })
    ∷ (record { op = ops.Write (paths.File (dirs.Ctrl (nid 1)) kinds.Mode) (codes "pseudo-locksetup"); looks = 0 ∷ 0 ∷ [] })
    ∷ (record { op = ops.Mkdir (paths.Dir (dirs.Mon (owners.Ctrl (nid 1)) (nid 4))); looks = [] })
    ∷ (record { op = ops.Write (paths.File (dirs.Ctrl (nid 1)) kinds.Mode) (codes "pseudo-locksetup"); looks = [] })
    ∷ (record { op = ops.Write (paths.File (dirs.Ctrl (nid 1)) kinds.Schemata) (codes "L3: "); looks = [] })
    ∷ []

-- what each of its commands needs, is answered, and makes in the slices
abbrev pub first_answers : List Answer
first_answers =
    (record { counts = []; reply = replies.Ok; follows = [] })
    ∷ (record { counts = []; reply = replies.Ok; follows = [] })
    ∷ (record { counts = []; reply = replies.Ok; follows = [] })
    ∷ (record { counts = []; reply = refused whys.SchemataOverlap 0; follows = [] })
    ∷ (record { counts = []; reply = refused whys.NoSuchPath 0; follows = [] })
    ∷ (record { counts = []; reply = replies.Ok; follows = follows.Flush 0 ∷ follows.Flush 1 ∷ [] })
    ∷ (record { counts = []; reply = replies.Ok; follows = follows.Raise 0 ∷ [] })
    ∷ (record { counts = []; reply = replies.Ok; follows = [] })
    ∷ (record { counts = []; reply = refused whys.NotACpu 2; follows = [] })
    ∷ (record { counts = []; reply = refused whys.UnknownMode 0; follows = [] })
    ∷ (record { counts = (0, 2) ∷ (1, 2) ∷ []; reply = replies.Ok; follows = follows.Raise 0 ∷ follows.Raise 1 ∷ [] })
    ∷ (record { counts = []; reply = refused whys.Locking 0; follows = [] })
    ∷ (record { counts = []; reply = replies.Ok; follows = [] })
    ∷ (record { counts = []; reply = refused whys.NoValue 0; follows = [] })
    ∷ []

-- the state at its end
abbrev pub first_left : State
first_left = record { groups = (record { gid = (gd 0); name = None; kind = Control; mode = Shareable; class = (Some 0); rmid = (Some 0); masks = 255 ∷ 255 ∷ 0 ∷ 0 ∷ 0 ∷ 0 ∷ 0 ∷ 0 ∷ [] }) ∷ (record { gid = (gd 1); name = (Some (nid 2)); kind = Control; mode = Shareable; class = (Some 1); rmid = (Some 1); masks = 255 ∷ 255 ∷ 0 ∷ 0 ∷ 0 ∷ 0 ∷ 0 ∷ 0 ∷ [] }) ∷ (record { gid = (gd 2); name = (Some (nid 1)); kind = Control; mode = LockSetup; class = (Some 2); rmid = None; masks = 1 ∷ 255 ∷ 0 ∷ 0 ∷ 0 ∷ 0 ∷ 0 ∷ 0 ∷ [] }) ∷ []; tasks = (record { task = 1; control = (gd 0); monitor = (gd 0) }) ∷ (record { task = 2; control = (gd 0); monitor = (gd 0) }) ∷ []; cpus = (record { control = (gd 0); monitor = None }) ∷ (record { control = (gd 0); monitor = None }) ∷ []; limbo = []; regions = None ∷ None ∷ []; locks = 0; threshold = 0; status = refused whys.NoValue 0; next_gid = 3 }

-- the first script is answered so, from the opening state with tasks 1 and 2
abbrev pub FirstAnswers : Type 0
FirstAnswers = answers_from first_machine (opening first_machine (1 ∷ 2 ∷ [])) 0 first_script ≡ first_answers

-- and it leaves that state
abbrev pub FirstLeft : Type 0
FirstLeft = at_end first_machine (opening first_machine (1 ∷ 2 ∷ [])) first_script ≡ first_left

-- ---- a task that moves, and a group that is removed

-- two caches of 2 sets and 4 ways, masks of 2 ways at least, a threshold of 64 bytes, 5 classes, 4 RMIDs and 4 CPUs
abbrev pub third_machine : Parameters
third_machine = record { domains = 2; sets = 2; ways = 4; classes = 5; rmids = 4; cpus = 4; min = 2; shareable = 0; threshold = 64; sparse = false; slices = 1 }

-- a group enters pseudo-locksetup, and another gets a task and is removed with one line left; six commands are refused
abbrev pub third_script : List Step
third_script =
    (record { op = ops.Write (paths.File dirs.Root kinds.Schemata) (codes "L3:0=3;1=3"); looks = [] })
    ∷ (record { op = ops.Mkdir (paths.Dir (dirs.Ctrl (nid 2))); looks = [] })
    ∷ (record { op = ops.Write (paths.File (dirs.Ctrl (nid 2)) kinds.Mode) (codes "pseudo-locksetup"); looks = 0 ∷ 0 ∷ [] })
    ∷ (record { op = ops.Write (paths.File (dirs.Ctrl (nid 2)) kinds.Schemata) (codes "L3:0=8"); looks = [] })
    ∷ (record { op = ops.Write (paths.File dirs.Root kinds.Schemata) (codes "L3:0=3;1=3"); looks = [] })
    ∷ (record { op = ops.Mkdir (paths.Dir (dirs.Ctrl (nid 2))); looks = [] })
    ∷ (record { op = ops.Mkdir (paths.Dir (dirs.Ctrl (nid 1))); looks = [] })
    ∷ (record { op = ops.Write (paths.File (dirs.Ctrl (nid 2)) kinds.Cpus) ([]); looks = [] })
    ∷ (record { op = ops.Write (paths.File (dirs.Ctrl (nid 1)) kinds.Tasks) (codes "1"); looks = [] })
    ∷ (record { op = ops.Rmdir (paths.Dir (dirs.Ctrl (nid 1))); looks = 1 ∷ 0 ∷ [] })
    ∷ (record { op = ops.Write (paths.File dirs.Root kinds.Mode) (codes "pseudo-locksetup"); looks = [] })
    ∷ (record { op = ops.Write (paths.File (dirs.Ctrl (nid 2)) kinds.Mode) (codes "exclusive"); looks = [] })
    ∷ (record { op = ops.Tick; looks = [] })
    ∷ (record { op = ops.Write (paths.File (dirs.Ctrl (nid 1)) kinds.Tasks) (codes " 2 , 1 "); looks = [] })
    ∷ []

-- what each of its commands needs, is answered, and makes in the slices
abbrev pub third_answers : List Answer
third_answers =
    (record { counts = []; reply = replies.Ok; follows = follows.Raise 0 ∷ follows.Raise 1 ∷ [] })
    ∷ (record { counts = []; reply = replies.Ok; follows = [] })
    ∷ (record { counts = (0, 1) ∷ (1, 1) ∷ []; reply = replies.Ok; follows = follows.Raise 0 ∷ follows.Raise 1 ∷ [] })
    ∷ (record { counts = []; reply = refused whys.TooFew 8; follows = [] })
    ∷ (record { counts = []; reply = replies.Ok; follows = follows.Raise 0 ∷ follows.Raise 1 ∷ [] })
    ∷ (record { counts = []; reply = refused whys.Exists 0; follows = [] })
    ∷ (record { counts = []; reply = replies.Ok; follows = [] })
    ∷ (record { counts = []; reply = refused whys.Locking 0; follows = [] })
    ∷ (record { counts = []; reply = replies.Ok; follows = [] })
    ∷ (record { counts = (0, 1) ∷ (1, 1) ∷ []; reply = replies.Ok; follows = follows.Raise 0 ∷ follows.Raise 1 ∷ [] })
    ∷ (record { counts = []; reply = refused whys.DefaultGroup 0; follows = [] })
    ∷ (record { counts = []; reply = refused whys.SchemataOverlap 0; follows = [] })
    ∷ (record { counts = []; reply = replies.Ok; follows = [] })
    ∷ (record { counts = []; reply = refused whys.NoSuchPath 0; follows = [] })
    ∷ []

-- the state at its end
abbrev pub third_left : State
third_left = record { groups = (record { gid = (gd 0); name = None; kind = Control; mode = Shareable; class = (Some 0); rmid = (Some 0); masks = 3 ∷ 3 ∷ 0 ∷ 0 ∷ 0 ∷ 0 ∷ 0 ∷ 0 ∷ [] }) ∷ (record { gid = (gd 1); name = (Some (nid 2)); kind = Control; mode = LockSetup; class = (Some 1); rmid = None; masks = 15 ∷ 15 ∷ 0 ∷ 0 ∷ 0 ∷ 0 ∷ 0 ∷ 0 ∷ [] }) ∷ []; tasks = (record { task = 1; control = (gd 0); monitor = (gd 0) }) ∷ (record { task = 2; control = (gd 0); monitor = (gd 0) }) ∷ []; cpus = (record { control = (gd 0); monitor = None }) ∷ (record { control = (gd 0); monitor = None }) ∷ (record { control = (gd 0); monitor = None }) ∷ (record { control = (gd 0); monitor = None }) ∷ []; limbo = []; regions = None ∷ None ∷ []; locks = 0; threshold = 64; status = refused whys.NoSuchPath 0; next_gid = 3 }

-- the third script is answered so, from the opening state with tasks 1 and 2
abbrev pub ThirdAnswers : Type 0
ThirdAnswers = answers_from third_machine (opening third_machine (1 ∷ 2 ∷ [])) 0 third_script ≡ third_answers

-- and it leaves that state
abbrev pub ThirdLeft : Type 0
ThirdLeft = at_end third_machine (opening third_machine (1 ∷ 2 ∷ [])) third_script ≡ third_left
