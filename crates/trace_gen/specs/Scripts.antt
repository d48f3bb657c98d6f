-- The script that a trace is.
-- (For functions and proofs: no promise of the program stands on it.)
use Rattle.std.specs.Prelude.{ℕ, false, List, [], ◌∷◌, map, codes, None}
use Rattle.std.specs.List.{range_with_len}
use Rattle.machine.specs.declared.parameters.Parameters.{Parameters}
use Rattle.path_names.specs.declared.dirs.DirRef.{DirRef}
use Rattle.path_names.specs.declared.dirs.DirRef.TheVariants.{Root, Ctrl}
use Rattle.path_names.specs.declared.files.FileKind.TheVariants.{Schemata, Mode, Tasks}
use Rattle.path_names.specs.declared.path_ref.PathRef.TheVariants.{Dir, File}
use Rattle.script_ops.specs.declared.op.Op.{Op}
use Rattle.script_ops.specs.declared.op.Op.TheVariants as ops
use Rattle.script_ops.specs.Values.{PhaseValue, ScriptValue}
use Rattle.trace_gen.specs.Trace.{order_number, cpu_of, address, order_draws, task_draws}

-- two caches of 256 sets of 16 ways, and eight CPUs
abbrev pub trace_machine : Parameters
trace_machine = record { domains = 2; sets = 256; ways = 16; classes = 4; rmids = 8; cpus = 8; min = 1; shareable = 0; threshold = 0; sparse = false; slices = 1 }

-- the groups of the names 0 and 1
abbrev pub group_at : ℕ → DirRef
group_at name = Ctrl (record { 0 = name })

-- the first phase: the commands that make the groups, and a flush
abbrev pub opening_ops : List Op
opening_ops =
    ops.Write (File Root Schemata) (codes "L3:0=ff00;1=ff00")
    ∷ ops.Mkdir (Dir (group_at 0))
    ∷ ops.Write (File (group_at 0) Schemata) (codes "L3:0=000f;1=000f")
    ∷ ops.Write (File (group_at 0) Mode) (codes "exclusive")
    ∷ ops.Mkdir (Dir (group_at 1))
    ∷ ops.Write (File (group_at 1) Schemata) (codes "L3:0=00f0;1=00f0")
    ∷ ops.Write (File (group_at 0) Tasks) (codes "1,3")
    ∷ ops.Write (File (group_at 1) Tasks) (codes "2,4")
    ∷ ops.Flush None
    ∷ []

-- the access that a draw gives a task
abbrev pub access : ℕ → ℕ → Op
access task draw = ops.Access task (cpu_of task) (address task draw)

-- the accesses of a task
abbrev pub accesses : ℕ → List ℕ → List Op
accesses task draws = map (access task) draws

-- the second phase: an order of n numbers, and four threads of n accesses
abbrev pub trace_phase : ℕ → PhaseValue
trace_phase n = record { order = map order_number (order_draws n); threads = map (λ task. accesses task (task_draws n task)) (range_with_len 1 4) }

-- the script
unfoldable pub trace_script : ℕ → ScriptValue
trace_script n = record {
  machine = trace_machine;
  tasks = range_with_len 1 4;
  names = codes "g1" ∷ codes "g2" ∷ [];
  phases = (record { order = []; threads = opening_ops ∷ [] }) ∷ trace_phase n ∷ [];
}
