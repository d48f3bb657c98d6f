-- A write of `schemata`: the masks of a counted group, or the region of a group in pseudo-locksetup.
-- (Kernel documentation, "Schemata files - general concepts" and "Cache Pseudo-Locking"; the order of the reasons is this
-- project's profile.)
use Rattle.std.specs.Prelude.{ℕ, ◌+◌, set, Bool, true, false, nat_lt, if◌then◌else◌, List, [], ◌∷◌, length, map, filter, replicate, slice_set, Option, Some, None, Result, Ok, Err}
use Rattle.std.specs.List.{list_any, range_with_len}
use Rattle.std.specs.Option.{option_or}
use Rattle.cbm.specs.declared.fault.CbmFault.{CbmFault}
use Rattle.cbm.specs.declared.fault.CbmFault.TheVariants as faults
use Rattle.group_tree.specs.declared.group.Group.{Group}
use Rattle.machine.specs.declared.parameters.Parameters.{Parameters}
use Rattle.mode_rules.specs.Overlaps.{write_overlap}
use Rattle.mode_rules.specs.declared.overlap.Overlap.{Overlap}
use Rattle.mode_rules.specs.declared.overlap.Overlap.TheVariants as overlaps
use Rattle.num_text.specs.Blanks.{trim}
use Rattle.rc_base.specs.declared.names.Mode.{Mode}
use Rattle.rc_base.specs.declared.names.Mode.TheVariants.{Shareable, Exclusive, LockSetup, Locked}
use Rattle.rc_base.specs.declared.replies.Why.{Why}
use Rattle.rc_base.specs.declared.replies.Why.TheVariants as whys
use Rattle.schemata_text.specs.Reading.{is_of, reading}
use Rattle.schemata_text.specs.declared.assignment.Assignment.{Assignment}
use Rattle.schemata_text.specs.declared.fault.TextFault.{TextFault}
use Rattle.schemata_text.specs.declared.fault.TextFault.TheVariants as texts
use Rattle.tree_law.specs.Places.{with_record}
use Rattle.tree_law.specs.Refusals.{Refusal, plain}
use Rattle.tree_law.specs.Space.{geometry_of, used_in}
use Rattle.tree_law.specs.State.{State}
use Rattle.pseudo_lock.specs.declared.region.Region.{Region}
use Rattle.pseudo_lock.specs.Regions.{first_line_of}
use Rattle.tree_law.specs.declared.follow.Follow.{Follow}
use Rattle.tree_law.specs.declared.follow.Follow.TheVariants as follows

-- the reason that goes with a mask's fault
abbrev pub mask_reason : CbmFault → Why
mask_reason faults.Range = whys.OutOfRange
mask_reason faults.Gaps = whys.Gaps
mask_reason faults.TooFew = whys.TooFew

-- the reason that goes with a text's fault; its argument is the domain that was named twice, or the mask as written
abbrev pub text_refusal : TextFault → Refusal
text_refusal texts.NoColon = plain whys.NoColon
text_refusal texts.BadResource = plain whys.BadResource
text_refusal texts.NoValue = plain whys.NoValue
text_refusal texts.NoEquals = plain whys.NoEquals
text_refusal texts.BadDomain = plain whys.BadDomain
text_refusal (texts.Twice domain) = record { why = whys.DomainTwice; arg = domain }
text_refusal texts.NotHex = plain whys.NotHex
text_refusal (texts.Mask bits fault) = record { why = mask_reason fault; arg = bits }

-- the reading of a written text, without the blanks at its ends
unfoldable pub schemata_read : Parameters → List ℕ → Result (List Assignment) TextFault
schemata_read m text = reading (geometry_of m) m.domains (trim text)

-- the reason that goes with what stands against a mask; of a region that is there already the argument is the domain
abbrev pub overlap_refusal : ℕ → Overlap → Refusal
overlap_refusal domain overlaps.Exclusive = plain whys.OverlapExclusive
overlap_refusal domain overlaps.Region = plain whys.OverlapRegion
overlap_refusal domain overlaps.Other = plain whys.OverlapOther
overlap_refusal domain overlaps.Hardware = plain whys.OverlapShareable
overlap_refusal domain overlaps.HasRegion = record { why = whys.HasRegion; arg = domain }

-- the refusal of a mask in a domain, where something stands against it
abbrev pub against_overlap : ℕ → Result (Unit {0}) Overlap → Option Refusal
against_overlap domain (Ok u) = None
against_overlap domain (Err overlap) = Some (overlap_refusal domain overlap)

-- what is against one assignment
abbrev pub against_entry : Parameters → State → Group → Assignment → Option Refusal
against_entry m s g a = against_overlap a.domain (write_overlap g.mode a.mask (used_in m s (Some g.gid) a.domain))

-- what is against the first of these that has something against it
abbrev pub against_entries : Parameters → State → Group → List Assignment → Option Refusal
against_entries m s g [] = None
against_entries m s g (a ∷ all) = option_or (against_entry m s g a) (against_entries m s g all)

-- whether more than one domain is named for a group in pseudo-locksetup, which takes one
abbrev pub names_many : Mode → List Assignment → Bool
names_many LockSetup all = nat_lt 1 (length all)
names_many mode all = false

-- what is against a text: its fault, a second domain in pseudo-locksetup, or what stands against a mask
abbrev pub against_read : Parameters → State → Group → Result (List Assignment) TextFault → Option Refusal
against_read m s g (Err fault) = Some (text_refusal fault)
against_read m s g (Ok all) = if names_many g.mode all then Some (plain whys.OneDomain) else against_entries m s g all

-- whether a mode is pseudo-locked
abbrev pub is_locked : Mode → Bool
is_locked Shareable = false
is_locked Exclusive = false
is_locked LockSetup = false
is_locked Locked = true

-- refused if the group is pseudo-locked, the text has a fault, it names more than one domain in pseudo-locksetup, or something
-- stands against a mask
unfoldable pub refusal : Parameters → State → Group → Result (List Assignment) TextFault → Option Refusal
refusal m s g read = if is_locked g.mode then Some (plain whys.GroupLocked) else against_read m s g read

-- ---- the next state

-- the masks after these assignments: the named ones change and no other
abbrev pub assigned : List ℕ → List Assignment → List ℕ
assigned masks [] = masks
assigned masks (a ∷ all) = assigned (slice_set masks a.domain a.mask) all

-- the first line of the next region that is locked
abbrev pub next_first_line : State → ℕ
next_first_line s = first_line_of s.locks

-- a group becomes pseudo-locked: its class is given back, its other masks are gone
abbrev pub locked : Group → Assignment → Group
locked g a = record g { mode = Locked; class = None; masks = slice_set (replicate 8 0) a.domain a.mask }

-- the region that a group locks by this assignment
abbrev pub region_for : State → Group → Assignment → Region
region_for s g a = record { gid = g.gid; domain = a.domain; mask = a.mask; first_line = next_first_line s }

-- the state after a group has locked its region
abbrev pub with_region : State → Group → Assignment → State
with_region s g a = record (with_record s (locked g a)) { regions = set s.regions a.domain (Some (region_for s g a)); locks = s.locks + 1 }

-- the same by the first of these assignments
abbrev pub with_first : State → Group → List Assignment → State
with_first s g [] = s
with_first s g (a ∷ all) = with_region s g a

-- the state after these assignments, by the mode of the group: its masks change, or it locks a region
abbrev pub with_masks : State → Group → Mode → List Assignment → State
with_masks s g Shareable all = with_record s (record g { masks = assigned g.masks all })
with_masks s g Exclusive all = with_record s (record g { masks = assigned g.masks all })
with_masks s g LockSetup all = with_first s g all
with_masks s g Locked all = s

-- the state after an accepted write
unfoldable pub accepted : State → Group → Result (List Assignment) TextFault → State
accepted s g (Err fault) = s
accepted s g (Ok all) = with_masks s g g.mode all

-- ---- what follows

-- whether some assignment is of this domain
abbrev pub names_domain : List Assignment → ℕ → Bool
names_domain all domain = list_any (is_of domain) all

-- a raise for each domain that is named, rising
abbrev pub raises : Parameters → List Assignment → List Follow
raises m all = map (λ d. follows.Raise d) (filter (names_domain all) (range_with_len 0 m.domains))

-- one lock
abbrev pub lock : State → List Assignment → List Follow
lock s [] = []
lock s (a ∷ all) = follows.Lock a.domain a.mask (next_first_line s) ∷ []

-- what follows these assignments, by the mode of the group: raises, or one lock
abbrev pub follow : Parameters → State → Mode → List Assignment → List Follow
follow m s Shareable all = raises m all
follow m s Exclusive all = raises m all
follow m s LockSetup all = lock s all
follow m s Locked all = []

-- what follows an accepted write
unfoldable pub after : Parameters → State → Group → Result (List Assignment) TextFault → List Follow
after m s g (Err fault) = []
after m s g (Ok all) = follow m s g.mode all
