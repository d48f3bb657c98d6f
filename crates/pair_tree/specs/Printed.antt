-- The lines of the files of a group.
-- (For functions and proofs: no promise of the program stands on it.)
use Rattle.std.specs.Prelude.{ℕ, ◌-◌, List, [], ◌∷◌, ◌++◌, decimal, if◌then◌else◌}
use Rattle.std.specs.List.{flat_map, range_with_len}
use Rattle.pair_law.specs.State.{PairGroup, mask_in}
use Rattle.pair_text.specs.Values.{Machines, side_machine}
use Rattle.pair_text.specs.declared.side.Side.{Side}
use Rattle.rc_base.specs.declared.names.Gid.{Gid}
use Rattle.rc_base.specs.declared.names.Mode.{Mode}
use Rattle.schemata_text.specs.Printed.{entry_text}
use Rattle.task_binding.specs.Bindings.{has_control}
use Rattle.task_binding.specs.declared.binding.Binding.{Binding}
use Rattle.tree_law.specs.commands.Mode.{mode_name}

-- the entry of a domain of a side
abbrev pub entry_at : Machines → PairGroup → Side → ℕ → List ℕ
entry_at m g side d = entry_text (side_machine m side).ways (record { domain = d; mask = mask_in side d g })

-- the entries of the domains of a side from this one on, each after a `;`
unfoldable pub others_text : Machines → PairGroup → Side → ℕ → List ℕ
others_text m g side from = flat_map (λ d. 59 ∷ entry_at m g side d) (range_with_len from ((side_machine m side).domains - from))

-- the name of a mode, on its line
abbrev pub mode_line : Mode → List ℕ
mode_line mode = mode_name mode ++ 10 ∷ []

-- the number of a task on its line, where it is the group's
abbrev pub task_line : Gid → Binding → List ℕ
task_line gid b = if has_control gid b then decimal b.task ++ 10 ∷ [] else []
