-- What follows a command says what the tree after it gives.
use Rattle.std.proofs.Common.{◌≡◌, ℕ, ◌/◌, ◌+◌, ◌<◌, cond, List, [], ◌∷◌, length, map, filter, get_or, Option, None, Some, is_some, Result, Ok, Err, refl, arith}
use Rattle.std.specs.List.{All, range_with_len, slice_get}
use Rattle.std.specs.Option.{option_map_or}
use Rattle.std.proofs.lemmas.List.Elements.{All-map, All-nil}
use Rattle.group_tree.specs.declared.group.Group.{Group}
use Rattle.lists.proofs.Choices.{cond-both}
use Rattle.lists.proofs.Tests.{All-one}
use Rattle.lists.proofs.Updates.{slice_get-set_same}
use Rattle.machine.specs.Maps.{domain_of, line_of}
use Rattle.machine.specs.Ranges.{InRange}
use Rattle.machine.specs.declared.parameters.Parameters.{Parameters}
use Rattle.path_names.specs.declared.files.FileKind.TheVariants as kinds
use Rattle.path_names.specs.declared.path_ref.PathRef.{PathRef}
use Rattle.path_names.specs.declared.path_ref.PathRef.TheVariants.{File}
use Rattle.pseudo_lock.specs.declared.region.Region.{Region}
use Rattle.rc_base.specs.declared.names.Gid.{Gid}
use Rattle.rc_base.specs.declared.names.Mode.{Mode}
use Rattle.rc_base.specs.declared.names.Mode.TheVariants.{Shareable, Exclusive, LockSetup, Locked}
use Rattle.rc_base.specs.declared.replies.Reply.{Reply}
use Rattle.schemata_text.specs.declared.assignment.Assignment.{Assignment}
use Rattle.schemata_text.specs.declared.fault.TextFault.{TextFault}
use Rattle.script_ops.specs.Fits.{Fits}
use Rattle.script_ops.specs.declared.op.Op.{Op}
use Rattle.script_ops.specs.declared.op.Op.TheVariants as ops
use Rattle.tree_law.proofs.laws.Follows.{after-good}
use Rattle.tree_law.specs.Places.{control_at}
use Rattle.tree_law.specs.Refusals.{Refusal, reply_of}
use Rattle.tree_law.specs.Resolving.{mask_of_group, owner_of, resolve}
use Rattle.tree_law.specs.Sound.{IsSound}
use Rattle.tree_law.specs.State.{State, tasks_of}
use Rattle.tree_law.specs.Steps.{accepted, after, after_accepted, follow_domain, next, next_if, refusal, with_status}
use Rattle.tree_law.specs.commands.Drop as clflush
use Rattle.tree_law.specs.commands.Flush as flush
use Rattle.tree_law.specs.commands.Mode as mode
use Rattle.tree_law.specs.commands.Schemata as schemata
use Rattle.tree_law.specs.commands.Touch as touch
use Rattle.tree_law.specs.commands.Write as write
use Rattle.tree_law.specs.declared.follow.Follow.{Follow}
use Rattle.tree_law.specs.declared.follow.Follow.TheVariants as follows

-- an access of some task and CPU of this domain has this owner and mask in a state
pub record IsResolved (m : Parameters) (s : State) (domain : ℕ) (owner : Gid) (mask : ℕ) : Type 0 where
  pub task : ℕ
  pub cpu : ℕ
  pub exists : cpu < m.cpus
  pub owner_is : owner ≡ owner_of s task cpu
  pub mask_is : mask ≡ mask_of_group s domain (owner_of s task cpu)

-- the region of a domain has this mask and this first line in a state
pub record IsRegionOf (s : State) (domain mask first_line : ℕ) : Type 0 where
  pub region : Region
  pub there : slice_get s.regions domain ≡ Some (Some region)
  pub mask_is : region.mask ≡ mask
  pub first_line_is : region.first_line ≡ first_line

-- a follow-up says what a state gives: a lock the region of its domain, a touch an owner with a mask
abbrev pub IsGivenFollow : Parameters → State → Follow → Type 0
IsGivenFollow m s (follows.Raise domain) = Unit {0}
IsGivenFollow m s (follows.Flush domain) = Unit {0}
IsGivenFollow m s (follows.Lock domain mask first_line) = IsRegionOf s domain mask first_line
IsGivenFollow m s (follows.Touch tag line) = IsResolved m s tag.domain tag.owner tag.mask
IsGivenFollow m s (follows.Drop domain line) = Unit {0}

-- raises say nothing
map-raise_given : (m : Parameters) (s : State) (domains : List ℕ) → All (IsGivenFollow m s) (map (λ d. follows.Raise d) domains)
map-raise_given m s domains = All-map (IsGivenFollow m s) (λ d. follows.Raise d) domains (λ k d within. tt)

-- after a write of schemata: where its follow-ups are of domains that there are
schemata-given : (m : Parameters) (s : State) (g : Group) (read : Result (List Assignment) TextFault) → All (λ (f : Follow). follow_domain f < length s.regions) (schemata.after m s g read) → All (IsGivenFollow m (schemata.accepted s g read)) (schemata.after m s g read)
unfolding schemata.after schemata.accepted
schemata-given m s g (Err fault) within = All-nil (IsGivenFollow m s)
schemata-given m s g (Ok all) within = by_mode g.mode all within
  where
    by_mode : (x : Mode) (all : List Assignment) → All (λ (f : Follow). follow_domain f < length s.regions) (schemata.follow m s x all) → All (IsGivenFollow m (schemata.with_masks s g x all)) (schemata.follow m s x all)
    by_mode Shareable all within = map-raise_given m (schemata.with_masks s g Shareable all) (filter (schemata.names_domain all) (range_with_len 0 m.domains))
    by_mode Exclusive all within = map-raise_given m (schemata.with_masks s g Exclusive all) (filter (schemata.names_domain all) (range_with_len 0 m.domains))
    by_mode LockSetup [] within = All-nil (IsGivenFollow m s)
    by_mode LockSetup (a ∷ all) within = All-one (IsGivenFollow m (schemata.with_region s g a)) (follows.Lock a.domain a.mask (schemata.next_first_line s))
        (record {
          region = schemata.region_for s g a;
          there = slice_get-set_same s.regions a.domain (Some (schemata.region_for s g a)) (within 0 (follows.Raise 0) (omega arith));
          mask_is = refl;
          first_line_is = refl;
        })
    by_mode Locked all within = All-nil (IsGivenFollow m s)

-- after each write
write-given : (m : Parameters) (s : State) (path : PathRef) (text looks : List ℕ) → All (λ (f : Follow). follow_domain f < length s.regions) (write.after m s path text) → All (IsGivenFollow m (write.accepted m s path text looks)) (write.after m s path text)
unfolding write.after write.accepted mode.after
write-given m s (File dir kinds.Schemata) text looks within = at (control_at s dir) within
  where
    at : (o : Option Group) → All (λ (f : Follow). follow_domain f < length s.regions) (option_map_or (λ g. schemata.after m s g (schemata.schemata_read m text)) o [])
        → All (IsGivenFollow m (option_map_or (λ g. schemata.accepted s g (schemata.schemata_read m text)) o s)) (option_map_or (λ g. schemata.after m s g (schemata.schemata_read m text)) o [])
    at None within = All-nil (IsGivenFollow m s)
    at (Some g) within = schemata-given m s g (schemata.schemata_read m text) within
write-given m s (File dir kinds.Mode) text looks within = at (control_at s dir)
  where
    raises : (t : State) (g : Group) → All (IsGivenFollow m t) (mode.after m g text)
    raises t g = cond-both (All (IsGivenFollow m t)) (mode.is_present g.mode text) [] (map (λ d. follows.Raise d) (range_with_len 0 m.domains)) (All-nil (IsGivenFollow m t)) (map-raise_given m t (range_with_len 0 m.domains))

    at : (o : Option Group) → All (IsGivenFollow m (option_map_or (λ g. mode.accepted m s g text looks) o s)) (option_map_or (λ g. mode.after m g text) o [])
    at None = All-nil (IsGivenFollow m s)
    at (Some g) = raises (mode.accepted m s g text looks) g
write-given m s path text looks within = All-nil (IsGivenFollow m _)

-- after a touch
touch-given : (m : Parameters) (s : State) (k : ℕ) (path : PathRef) (offset task cpu : ℕ) → cpu < m.cpus → All (IsGivenFollow m s) (touch.after m s k path offset task cpu)
unfolding touch.after resolve
touch-given m s k path offset task cpu exists = at (touch.touched s path)
  where
    at : (o : Option (ℕ × Region)) → All (IsGivenFollow m s) (touch.follow m s k offset task cpu o)
    at None = All-nil (IsGivenFollow m s)
    at (Some (domain, r)) = All-one (IsGivenFollow m s) (follows.Touch (touch.tag_of (resolve m s task cpu) (domain_of m cpu) (k + 1)) (r.first_line + offset / 64))
        (record { task = task; cpu = cpu; exists = exists; owner_is = refl; mask_is = refl })

-- after a flush
flush-given : (m : Parameters) (s : State) (domain : Option ℕ) → All (IsGivenFollow m s) (flush.after m domain)
unfolding flush.after
flush-given m s None = All-map (IsGivenFollow m s) (λ d. follows.Flush d) (range_with_len 0 m.domains) (λ k d within. tt)
flush-given m s (Some domain) = All-one (IsGivenFollow m s) (follows.Flush domain) tt

-- after a flush of a line
line-given : (m : Parameters) (s : State) (addr : ℕ) → All (IsGivenFollow m s) (clflush.after_line m addr)
unfolding clflush.after_line
line-given m s addr = All-map (IsGivenFollow m s) (λ d. follows.Drop d (line_of addr)) (range_with_len 0 m.domains) (λ k d within. tt)

-- after a flush of a line of a region
region-given : (m : Parameters) (s : State) (path : PathRef) (offset : ℕ) → All (IsGivenFollow m s) (clflush.after_region s path offset)
unfolding clflush.after_region
region-given m s path offset = at (touch.touched s path)
  where
    at : (o : Option (ℕ × Region)) → All (IsGivenFollow m s) (clflush.follow offset o)
    at None = All-nil (IsGivenFollow m s)
    at (Some (domain, r)) = All-one (IsGivenFollow m s) (follows.Drop domain (r.first_line + offset / 64)) tt

-- the last status says nothing of follow-ups
status-given : (m : Parameters) (s : State) (reply : Reply) (f : Follow) → IsGivenFollow m s f → IsGivenFollow m (record s { status = reply }) f
status-given m s reply (follows.Raise domain) given = tt
status-given m s reply (follows.Flush domain) given = tt
status-given m s reply (follows.Drop domain line) given = tt
status-given m s reply (follows.Lock domain mask first_line) given = record { region = given.region; there = given.there; mask_is = given.mask_is; first_line_is = given.first_line_is }
status-given m s reply (follows.Touch tag line) given = record { task = given.task; cpu = given.cpu; exists = given.exists; owner_is = given.owner_is; mask_is = given.mask_is }

-- after each accepted command
after_accepted-given : (m : Parameters) (s : State) (k : ℕ) (op : Op) (looks : List ℕ) (reply : Reply) → Fits m (tasks_of s) op → All (λ (f : Follow). follow_domain f < length s.regions) (after_accepted m s k op)
    → All (IsGivenFollow m (with_status op reply (accepted m s op looks))) (after_accepted m s k op)
after_accepted-given m s k (ops.Rmdir path) looks reply fits within = map-raise_given m _ (range_with_len 0 m.domains)
after_accepted-given m s k (ops.Write path text) looks reply fits within = λ i d lt. status-given m (write.accepted m s path text looks) reply (get_or (write.after m s path text) i d) (write-given m s path text looks within i d lt)
after_accepted-given m s k (ops.Flush domain) looks reply fits within = flush-given m s domain
after_accepted-given m s k (ops.Touch cpu path task offset) looks reply fits within = touch-given m s k path offset task cpu fits.1
after_accepted-given m s k (ops.DropLine addr) looks reply fits within = line-given m s addr
after_accepted-given m s k (ops.DropRegion path offset) looks reply fits within = region-given m s path offset
after_accepted-given m s k op looks reply fits within = All-nil (IsGivenFollow m _)

-- What follows a command that fits says what the state after it gives.
pub after-given : (m : Parameters) (s : State) (k : ℕ) (op : Op) (looks : List ℕ) → InRange m → IsSound m s → Fits m (tasks_of s) op → All (IsGivenFollow m (next m s op looks).state) (after m s k op)
unfolding after next
after-given m s k op looks range sound fits =
    let good = after-good m s k op range sound fits in
    at (refusal m s op) (λ i d within. let lt = (good i d within).0 in let count = sound.regions.each in omega arith)
  where
    at : (o : Option Refusal) → All (λ (f : Follow). follow_domain f < length s.regions) (cond (is_some o) [] (after_accepted m s k op))
        → All (IsGivenFollow m (with_status op (reply_of o) (next_if m s op looks o))) (cond (is_some o) [] (after_accepted m s k op))
    at None within = after_accepted-given m s k op looks (reply_of None) fits within
    at (Some r) within = All-nil (IsGivenFollow m _)
