-- The machine of steps as a state that live threads share: its parts with the types of the code.
use Rattle.std.specs.Prelude.{Contains, List, None, Option, false, true, Bool, [], length, map, slice_index_or, ℕ, zero, suc, ◌++◌, ◌+◌, ◌<◌, ◌∷◌, ◌≡◌, ◌≤◌}
use Rattle.cache_core.specs.declared.entry.SliceEntry.{SliceEntry}
use Rattle.machine.specs.Slices.{slice_count}
use Rattle.run_law.specs.Entries.{entry_value}
use Rattle.run_law.specs.declared.journals.TreeEntry.{TreeEntry}
use Rattle.script_ops.specs.Values.{ScriptValue, threads_of}
use Rattle.step_world.specs.Machine.{opening_thread}
use Rattle.step_world.specs.declared.thread_state.ThreadState.{ThreadState}
use Rattle.step_world.specs.declared.thread_state.ThreadState.TheVariants.{Ready}
use Rattle.schedule_law.specs.Parts as p
use Rattle.schedule_law.specs.Schedules.{IsScheduled}
use Rattle.schedule_law.specs.Parts.{AreReached, begun_after, ended_after, found_after, given_after, holder_after, number_of_slice, number_of_thread, list_after, phase_after, thread_after}
use Rattle.schedule_law.specs.declared.part.GivenTag.{GivenTag}
use Rattle.schedule_law.specs.declared.part.Part.{Part}
use Rattle.schedule_law.specs.declared.part.Part.TheVariants as parts
use Rattle.schedule_law.specs.declared.part.Happening.{Happening}
use Rattle.schedule_law.specs.declared.part.Happening.TheVariants as happenings

-- a part as the law has it
abbrev pub part_of : Part → p.PartValue
part_of (parts.Tree history holder) = p.Tree (map entry_value history) holder
part_of (parts.Slice list) = p.Slice list
part_of (parts.Worker thread begun found given) = p.Worker thread begun found given
part_of (parts.Phase number ended) = p.Phase number ended

-- a happening as the law has it
abbrev pub happening_of : Happening → p.HappeningValue
happening_of (happenings.Take t) = p.Take t
happening_of (happenings.Look e) = p.Look e
happening_of (happenings.Decide h last made) = p.Decide (entry_value h) last made
happening_of (happenings.Follow e last) = p.Follow e last
happening_of (happenings.Label g) = p.Label g
happening_of (happenings.Touch e) = p.Touch e
happening_of happenings.Again = p.Again
happening_of happenings.Begin = p.Begin
happening_of happenings.End = p.End
happening_of happenings.Pass = p.Pass

abbrev pub live_history_after : Happening → List TreeEntry → List TreeEntry
live_history_after (happenings.Decide h last made) hs = hs ++ h ∷ []
live_history_after e hs = hs

-- what a happening makes of a part
abbrev pub after : Happening → ℕ → Part → Part
after e k (parts.Tree history holder) = parts.Tree (live_history_after e history) (holder_after (happening_of e) holder)
after e k (parts.Slice list) = parts.Slice (list_after (happening_of e) list)
after e k (parts.Worker thread begun found given) = parts.Worker (thread_after (happening_of e) thread) (begun_after (happening_of e) begun) (found_after (happening_of e) found) (given_after (happening_of e) given)
after e k (parts.Phase number ended) = parts.Phase (phase_after (happening_of e) number) (ended_after (happening_of e) ended)

-- what every thread may read of a part
abbrev pub shown : Part → ℕ
shown x = p.shown_of (part_of x)

-- a state that is reached
abbrev pub reached : ScriptValue → (ℕ → Part) → Type 0
reached script at = AreReached script (λ k. part_of (at k))

-- ---- parts with their numbers

abbrev pub live_tree : List TreeEntry → Option ℕ → ℕ × Part
live_tree history holder = (0, parts.Tree history holder)

abbrev pub live_phase : ℕ → ℕ → ℕ × Part
live_phase number ended = (1, parts.Phase number ended)

abbrev pub live_slice : ℕ → List SliceEntry → ℕ × Part
live_slice i list = (number_of_slice i, parts.Slice list)

-- a thread in its op `next`, whose phase has begun
abbrev pub live_thread : ℕ → ℕ → ThreadState → List ℕ → Option GivenTag → ℕ × Part
live_thread t next place found given = (number_of_thread t, parts.Worker (record { next = next; state = place }) true found given)

-- a thread between two of its ops, whose phase may have begun
abbrev pub resting_thread : ℕ → ℕ → Bool → List ℕ → Option GivenTag → ℕ × Part
resting_thread t next begun found given = (number_of_thread t, parts.Worker (record { next = next; state = Ready }) begun found given)

-- ---- the start and the end

-- the parts before the first step
abbrev pub first_slices : ℕ → ℕ → List (ℕ × Part)
first_slices i zero = []
first_slices i (suc n) = live_slice i [] ∷ first_slices (i + 1) n

abbrev pub first_threads : ℕ → ℕ → List (ℕ × Part)
first_threads t zero = []
first_threads t (suc n) = (number_of_thread t, parts.Worker opening_thread false [] None) ∷ first_threads (t + 1) n

abbrev pub first : ScriptValue → List (ℕ × Part)
first script = live_tree [] None ∷ live_phase 0 0 ∷ first_slices 0 (slice_count script.machine) ++ first_threads 0 (length (threads_of script))

-- whatever journals are among these parts when the last phase is over, they are scheduled
abbrev pub LeavesScheduled : ScriptValue → List (ℕ × Part) → Type 0
LeavesScheduled script xs =
    (history : List TreeEntry) (lists : List (List SliceEntry)) (holder : Option ℕ) (phase ended : ℕ)
    → 0 < script.machine.slices → length script.phases ≤ phase → length lists ≡ slice_count script.machine
    → Contains xs (live_tree history holder) → Contains xs (live_phase phase ended)
    → ((i : ℕ) → i < length lists → Contains xs (live_slice i (slice_index_or lists i [])))
    → IsScheduled script (record { tree = map entry_value history; slices = lists })
