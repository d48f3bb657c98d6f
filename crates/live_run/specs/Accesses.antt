-- An access, from its first tag on.
-- (For functions and proofs: no promise of the program stands on it.)
use Rattle.std.specs.Prelude.{◌≡◌, ℕ, ◌+◌, ◌-◌, ◌<◌, ◌≤◌, length, Result, Ok, Err}
use Rattle.cache_core.specs.Stands.{entry}
use Rattle.cache_core.specs.declared.entry.What.TheVariants as whats
use Rattle.step_world.specs.declared.reached.Reached.{Reached}
use Rattle.live_law.specs.SeenJournals.{AddsEntry, SeesMore}
use Rattle.live_law.specs.Stages.{HoldsTag, slice_reached}
use Rattle.live_run.specs.Names.{SeenValue, history_of, seen_by}
use Rattle.live_run.specs.Steps.{HasTaken}
use Rattle.machine.specs.Maps.{line_of}
use Rattle.rc_base.specs.declared.names.Tag.{Tag}
use Rattle.run_law.specs.Journals.{JournalsValue}
use Rattle.run_law.specs.Quotas.{command_count}
use Rattle.script_ops.specs.Values.{ScriptValue}

-- The access of an op has made its entry, with what it answered: with a tag that the thread learned after all that it had seen
-- before, when it had seen these journals.
pub record HasAccessed (script : ScriptValue) (op task cpu addr : ℕ) (r : Reached) (old new : SeenValue) : Type 0 where
  pub thread : new.thread ≡ old.thread
  pub tag : Tag
  pub at : JournalsValue
  pub sees : SeesMore old.thread (seen_by old) at
  pub holds : HoldsTag script at task cpu tag
  pub late : length (history_of old.tree.seen) ≤ tag.epoch
  pub adds :
      AddsEntry old.thread (slice_reached script.machine cpu addr)
      (entry old.thread op tag.epoch (whats.Access r.hit r.way tag.owner tag.rmid tag.mask (line_of addr))) at (seen_by new)

-- One turn of an access: it has made its entry, or its tag of this epoch was stale, and the thread has seen a longer history.
abbrev pub HasTurned : ScriptValue → ℕ → ℕ → ℕ → ℕ → SeenValue → SeenValue → Result Reached ℕ → Type 0
HasTurned script op task cpu addr old new (Ok r) = HasAccessed script op task cpu addr r old new
HasTurned script op task cpu addr old new (Err epoch) =
    HasTaken old new × (length old.tree.seen ≤ epoch) × (epoch < length new.tree.seen) × (epoch ≤ command_count script)

-- after some turns
abbrev pub IsTurning : ScriptValue → ℕ → ℕ → ℕ → ℕ → SeenValue → SeenValue → Result Reached ℕ → Type 0
IsTurning script op task cpu addr old new (Ok r) = HasAccessed script op task cpu addr r old new
IsTurning script op task cpu addr old new (Err epoch) = HasTaken old new × (epoch < length new.tree.seen) × (epoch ≤ command_count script)

-- how many turns are left at most: each has a greater epoch than the last, and none has more than there are commands
abbrev pub turns_left : ScriptValue → Result Reached ℕ → ℕ
turns_left script (Ok r) = 0
turns_left script (Err epoch) = command_count script + 1 - epoch
