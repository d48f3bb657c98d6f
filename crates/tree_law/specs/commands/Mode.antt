-- A write of `mode`.
-- (Kernel documentation, `mode` and "Cache Pseudo-Locking"; the order of the reasons is this project's profile.)
use Rattle.std.specs.Prelude.{ℕ, Bool, not, ◌&&◌, find, is_none, if◌then◌else◌, codes, List, [], ◌∷◌, length, map, filter, Option, Some, None, Result, Ok, Err}
use Rattle.std.specs.List.{list_any, range_with_len}
use Rattle.std.specs.Option.{option_or}
use Rattle.cpu_binding.specs.Groups as cpu_groups
use Rattle.group_tree.specs.Records.{is_mode, mask_in}
use Rattle.group_tree.specs.declared.group.Group.{Group}
use Rattle.machine.specs.declared.parameters.Parameters.{Parameters}
use Rattle.mode_rules.specs.Overlaps.{is_apart, leaving_overlap}
use Rattle.mode_rules.specs.Setup.{Holdings, entry_refusal}
use Rattle.num_text.specs.Blanks.{trim}
use Rattle.rc_base.specs.Texts.{is_text}
use Rattle.rc_base.specs.Gids.{is_default}
use Rattle.rc_base.specs.declared.names.Mode.{Mode}
use Rattle.rc_base.specs.declared.names.Mode.TheVariants.{Shareable, Exclusive, LockSetup, Locked}
use Rattle.rc_base.specs.declared.replies.Why.{Why}
use Rattle.rc_base.specs.declared.replies.Why.TheVariants.{GroupLocked, OutOfRmids, RmidsBusy, SchemataOverlap, UnknownMode}
use Rattle.task_binding.specs.Bindings as bindings
use Rattle.tree_law.specs.Freeing.{limbo_after, monitors_of, rmids_of}
use Rattle.tree_law.specs.Places.{with_record}
use Rattle.tree_law.specs.Refusals.{Refusal, plain}
use Rattle.tree_law.specs.Space.{free_rmid, used_in}
use Rattle.tree_law.specs.State.{State}
use Rattle.tree_law.specs.commands.Mkdir.{none_in_limbo}
use Rattle.tree_law.specs.commands.Schemata.{against_overlap, is_locked}
use Rattle.tree_law.specs.declared.follow.Follow.{Follow}
use Rattle.tree_law.specs.declared.follow.Follow.TheVariants as follows

-- the name of a mode
abbrev pub mode_name : Mode → List ℕ
mode_name Shareable = codes "shareable"
mode_name Exclusive = codes "exclusive"
mode_name LockSetup = codes "pseudo-locksetup"
mode_name Locked = codes "pseudo-locked"

-- the modes that may be written
abbrev pub writable_modes : List Mode
writable_modes = Shareable ∷ Exclusive ∷ LockSetup ∷ []

-- whether a text is the name of a mode
abbrev pub is_named : List ℕ → Mode → Bool
is_named text mode = is_text text (mode_name mode)

-- the mode that a text asks for
unfoldable pub mode_in : List ℕ → Option Mode
mode_in text = find (is_named (trim text)) writable_modes

-- whether a text is the name of this mode
unfoldable pub is_present : Mode → List ℕ → Bool
is_present mode text = is_named (trim text) mode

-- ---- what is against a change of mode

-- whether a mode is pseudo-locksetup
abbrev pub is_setup : Mode → Bool
is_setup mode = is_mode LockSetup mode

-- what a group has that keeps it out of pseudo-locksetup
abbrev pub holdings : State → Group → Holdings
holdings s g = record {
  is_default = is_default g.gid;
  monitors = length (monitors_of s g.gid);
  tasks = length (filter (bindings.has_control g.gid) s.tasks);
  cpus = length (filter (cpu_groups.has_control g.gid) s.cpus);
}

-- the refusal of a test that found a reason
abbrev pub reason_of : Result (Unit {0}) Why → Option Refusal
reason_of (Ok u) = None
reason_of (Err why) = Some (plain why)

-- what keeps a group out of pseudo-locksetup, where it is to enter it
abbrev pub against_entry : State → Group → Mode → Option Refusal
against_entry s g mode = if is_setup mode then reason_of (entry_refusal (holdings s g)) else None

-- the first domain, rising, in which something is against the mask that a group kept in pseudo-locksetup
abbrev pub against_masks : Parameters → State → Group → List ℕ → Option Refusal
against_masks m s g [] = None
against_masks m s g (domain ∷ domains) =
    option_or (against_overlap domain (leaving_overlap (mask_in domain g) (used_in m s (Some g.gid) domain))) (against_masks m s g domains)

-- what is against the masks that a group kept, where it leaves pseudo-locksetup
abbrev pub against_leaving : Parameters → State → Group → Option Refusal
against_leaving m s g = if is_setup g.mode then against_masks m s g (range_with_len 0 m.domains) else None

-- whether a group's mask in a domain overlaps another counted group's or a shareable bit
abbrev pub overlaps_some : Parameters → State → Group → ℕ → Bool
overlaps_some m s g domain = not (is_apart (mask_in domain g) (used_in m s (Some g.gid) domain))

-- an overlap in some domain, where a group is to be exclusive
abbrev pub against_exclusive : Parameters → State → Group → Mode → Option Refusal
against_exclusive m s g mode =
    if is_mode Exclusive mode && list_any (overlaps_some m s g) (range_with_len 0 m.domains) then Some (plain SchemataOverlap) else None

-- the refusal where no RMID is free
abbrev pub rmid_refusal : Parameters → State → Option Refusal
rmid_refusal m s = if is_none (free_rmid m s) then Some (plain (if none_in_limbo s then OutOfRmids else RmidsBusy)) else None

-- a lack of RMIDs, where a group leaves pseudo-locksetup
abbrev pub against_rmid : Parameters → State → Group → Option Refusal
against_rmid m s g = if is_setup g.mode then rmid_refusal m s else None

-- the first that is against a change of mode
abbrev pub against_change : Parameters → State → Group → Mode → Option Refusal
against_change m s g mode = option_or (against_entry s g mode) (option_or (against_leaving m s g) (option_or (against_exclusive m s g mode) (against_rmid m s g)))

-- what is against the mode that a text asks for, or that it asks for none
abbrev pub against_mode : Parameters → State → Group → Option Mode → Option Refusal
against_mode m s g None = Some (plain UnknownMode)
against_mode m s g (Some mode) = against_change m s g mode

-- refused if the text is not the present mode and the group is pseudo-locked, the text names no mode that may be written, or
-- something is against the change
unfoldable pub refusal : Parameters → State → Group → List ℕ → Option Refusal
refusal m s g text = if is_present g.mode text then None else if is_locked g.mode then Some (plain GroupLocked) else against_mode m s g (mode_in text)

-- ---- the next state

-- the RMID that is freed: that of a group that enters pseudo-locksetup
abbrev pub freed_by : Group → Option Mode → List ℕ
freed_by g None = []
freed_by g (Some mode) = if is_setup mode then rmids_of g else []

-- the RMID that a write frees, where it frees one
unfoldable pub freed : Group → List ℕ → List ℕ
freed g text = if is_present g.mode text then [] else freed_by g (mode_in text)

-- the RMID of a group that changes from one mode to another: none in pseudo-locksetup, the lowest free one when it leaves that,
-- and else its own
abbrev pub rmid_after : Parameters → State → Group → Mode → Option ℕ
rmid_after m s g mode = if is_setup mode then None else if is_setup g.mode then free_rmid m s else g.rmid

-- the record of a group after its change to this mode
abbrev pub changed : Parameters → State → Group → Mode → Group
changed m s g mode = record g { mode = mode; rmid = rmid_after m s g mode }

-- the state after the change to the mode that a text asks for, with the counts of the RMIDs that it frees
abbrev pub with_mode : Parameters → State → Group → List ℕ → List ℕ → Option Mode → State
with_mode m s g freed looks None = s
with_mode m s g freed looks (Some mode) = record (with_record s (changed m s g mode)) { limbo = limbo_after m s.threshold s.limbo freed looks }

-- the state after an accepted write
unfoldable pub accepted : Parameters → State → Group → List ℕ → List ℕ → State
accepted m s g text looks = if is_present g.mode text then s else with_mode m s g (freed g text) looks (mode_in text)

-- every domain is raised where the mode changed
unfoldable pub after : Parameters → Group → List ℕ → List Follow
after m g text = if is_present g.mode text then [] else map (λ d. follows.Raise d) (range_with_len 0 m.domains)
