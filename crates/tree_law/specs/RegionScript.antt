-- A worked script: a region that is locked and touched, and a group that is removed.
-- (For functions and proofs: no promise of the program stands on it.)
use Rattle.std.specs.Prelude.{◌≡◌, false, List, [], ◌∷◌, codes, Some, None}
use Rattle.group_tree.specs.declared.group_kind.GroupKind.TheVariants.{Control}
use Rattle.machine.specs.declared.parameters.Parameters.{Parameters}
use Rattle.path_names.specs.declared.dirs.DirRef.TheVariants as dirs
use Rattle.path_names.specs.declared.files.FileKind.TheVariants as kinds
use Rattle.path_names.specs.declared.path_ref.PathRef.TheVariants as paths
use Rattle.rc_base.specs.Replies.{refused}
use Rattle.rc_base.specs.declared.names.Mode.TheVariants.{Shareable, Locked}
use Rattle.rc_base.specs.declared.replies.Reply.TheVariants as replies
use Rattle.rc_base.specs.declared.replies.Why.TheVariants as whys
use Rattle.script_ops.specs.declared.op.Op.TheVariants as ops
use Rattle.tree_law.specs.Rows.{Step, at_end}
use Rattle.tree_law.specs.State.{State, opening}
use Rattle.tree_law.specs.declared.follow.Follow.TheVariants as follows
use Rattle.tree_law.specs.ScriptRows.{Answer, answers_from, nid, gd}

-- one cache of 2 sets and 5 ways, with 5 classes, 4 RMIDs and 4 CPUs
abbrev pub second_machine : Parameters
second_machine = record { domains = 1; sets = 2; ways = 5; classes = 5; rmids = 4; cpus = 4; min = 1; shareable = 0; threshold = 0; sparse = false; slices = 1 }

-- a group locks a region, which is touched, and another group is made and removed; five commands are refused
abbrev pub second_script : List Step
second_script =
    (record { op = ops.Write (paths.File dirs.Root kinds.Schemata) (codes "L3:0=3"); looks = [] })
    ∷ (record { op = ops.Mkdir (paths.Dir (dirs.Ctrl (nid 2))); looks = [] })
    ∷ (record { op = ops.Write (paths.File (dirs.Ctrl (nid 2)) kinds.Mode) (codes "pseudo-locksetup"); looks = 2 ∷ [] })
    ∷ (record { op = ops.Write (paths.File (dirs.Ctrl (nid 2)) kinds.Schemata) (codes "L3:0=8"); looks = [] })
    ∷ (record { op = ops.Write (paths.File dirs.Root kinds.Schemata) (codes "L3:0=3"); looks = [] })
    ∷ (record { op = ops.Mkdir (paths.Dir (dirs.Ctrl (nid 2))); looks = [] })
    ∷ (record { op = ops.Mkdir (paths.Dir (dirs.Ctrl (nid 1))); looks = [] })
    ∷ (record { op = ops.Write (paths.File (dirs.Ctrl (nid 2)) kinds.Schemata) (codes "L3:0=38;"); looks = [] })
    ∷ (record { op = ops.Write (paths.File (dirs.Ctrl (nid 2)) kinds.Mode) (codes "pseudo-locksetup"); looks = [] })
    ∷ (record { op = ops.Write (paths.File (dirs.Ctrl (nid 3)) kinds.Schemata) (codes "L3:0=38 "); looks = [] })
    ∷ (record { op = ops.Write (paths.File (dirs.Ctrl (nid 1)) kinds.Schemata) (codes "L3: "); looks = [] })
    ∷ (record { op = ops.Write (paths.File (dirs.Ctrl (nid 1)) kinds.Cpus) ([]); looks = [] })
    ∷ (record { op = ops.Touch 3 (paths.Dir (dirs.Ctrl (nid 2))) 2 64; looks = [] })
    ∷ (record { op = ops.Rmdir (paths.Dir (dirs.Ctrl (nid 1))); looks = 0 ∷ [] })
    ∷ []

-- what each of its commands needs, is answered, and makes in the slices
abbrev pub second_answers : List Answer
second_answers =
    (record { counts = []; reply = replies.Ok; follows = follows.Raise 0 ∷ [] })
    ∷ (record { counts = []; reply = replies.Ok; follows = [] })
    ∷ (record { counts = (0, 1) ∷ []; reply = replies.Ok; follows = follows.Raise 0 ∷ [] })
    ∷ (record { counts = []; reply = replies.Ok; follows = follows.Lock 0 8 4503599627370496 ∷ [] })
    ∷ (record { counts = []; reply = replies.Ok; follows = follows.Raise 0 ∷ [] })
    ∷ (record { counts = []; reply = refused whys.Exists 0; follows = [] })
    ∷ (record { counts = []; reply = replies.Ok; follows = [] })
    ∷ (record { counts = []; reply = refused whys.GroupLocked 0; follows = [] })
    ∷ (record { counts = []; reply = refused whys.GroupLocked 0; follows = [] })
    ∷ (record { counts = []; reply = refused whys.NoSuchPath 0; follows = [] })
    ∷ (record { counts = []; reply = refused whys.NoValue 0; follows = [] })
    ∷ (record { counts = []; reply = replies.Ok; follows = [] })
    ∷ (record { counts = []; reply = replies.Ok; follows = follows.Touch (record { epoch = 13; owner = (gd 0); class = 0; rmid = 0; mask = 3; domain = 0 }) 4503599627370497 ∷ [] })
    ∷ (record { counts = (0, 2) ∷ []; reply = replies.Ok; follows = follows.Raise 0 ∷ [] })
    ∷ []

-- the state at its end
abbrev pub second_left : State
second_left = record { groups = (record { gid = (gd 0); name = None; kind = Control; mode = Shareable; class = (Some 0); rmid = (Some 0); masks = 3 ∷ 0 ∷ 0 ∷ 0 ∷ 0 ∷ 0 ∷ 0 ∷ 0 ∷ [] }) ∷ (record { gid = (gd 1); name = (Some (nid 2)); kind = Control; mode = Locked; class = None; rmid = None; masks = 8 ∷ 0 ∷ 0 ∷ 0 ∷ 0 ∷ 0 ∷ 0 ∷ 0 ∷ [] }) ∷ []; tasks = (record { task = 1; control = (gd 0); monitor = (gd 0) }) ∷ (record { task = 2; control = (gd 0); monitor = (gd 0) }) ∷ []; cpus = (record { control = (gd 0); monitor = None }) ∷ (record { control = (gd 0); monitor = None }) ∷ (record { control = (gd 0); monitor = None }) ∷ (record { control = (gd 0); monitor = None }) ∷ []; limbo = 1 ∷ []; regions = (Some (record { gid = (gd 1); domain = 0; mask = 8; first_line = 4503599627370496 })) ∷ []; locks = 1; threshold = 0; status = replies.Ok; next_gid = 3 }

-- the second script is answered so, from the opening state with tasks 1 and 2
abbrev pub SecondAnswers : Type 0
SecondAnswers = answers_from second_machine (opening second_machine (1 ∷ 2 ∷ [])) 0 second_script ≡ second_answers

-- and it leaves that state
abbrev pub SecondLeft : Type 0
SecondLeft = at_end second_machine (opening second_machine (1 ∷ 2 ∷ [])) second_script ≡ second_left
