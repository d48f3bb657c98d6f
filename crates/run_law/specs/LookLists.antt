-- The lists for the counts of a thread's commands, that of its next command last.
-- (For functions and proofs: no promise of the program stands on it.)
use Rattle.std.specs.Prelude.{◌≡◌, ℕ, ◌+◌, if◌then◌else◌, List, [], ◌∷◌, ◌++◌}
use Rattle.machine.specs.declared.parameters.Parameters.{Parameters}
use Rattle.rc_base.specs.Buffers.{Looks}
use Rattle.run_law.specs.Ops.{is_command}
use Rattle.run_law.specs.Quotas.{most_counts}
use Rattle.script_ops.specs.declared.op.Op.{Op}

-- the room that each command of these ops can need
abbrev pub rooms_of : Parameters → List Op → List ℕ
rooms_of m [] = []
rooms_of m (op ∷ ops) = if is_command op then most_counts m op ∷ rooms_of m ops else rooms_of m ops

-- there is an empty list for each of these rooms, with just that room, and no other: the last list is for the first, and so on
abbrev pub AreReady : List ℕ → List Looks → Type 0
AreReady [] lists = lists ≡ []
AreReady (room ∷ rooms) lists = (front : List Looks) × (last : Looks) × (lists ≡ front ++ last ∷ []) × (last.numbers ≡ []) × (last.spare ≡ room) × AreReady rooms front

-- how many more numbers fit into the last list
abbrev pub spare_in : List Looks → ℕ
spare_in [] = 0
spare_in (l ∷ []) = l.spare
spare_in (l ∷ more) = spare_in more

-- the last list has a number more
abbrev pub HasNoted : ℕ → List Looks → List Looks → Type 0
HasNoted lines old new = (front : List Looks) × (last now : Looks) × (old ≡ front ++ last ∷ []) × (new ≡ front ++ now ∷ []) × (now.numbers ≡ last.numbers ++ lines ∷ []) × (now.spare + 1 ≡ last.spare)
