-- What follows a command has a text.
use Rattle.std.proofs.Common.{◌≡◌, ℕ, ◌+◌, ◌/◌, ◌^◌, ◌<◌, Bool, true, false, not, cond, eqb, leb, List, [], ◌∷◌, length, map, filter, get_or, Option, Some, None, Result, Ok, Err, is_some, refl, arith}
use Rattle.std.specs.List.{All, range_with_len}
use Rattle.std.specs.Option.{option_map_or}
use Rattle.std.proofs.lemmas.List.Elements.{All-map, All-nil}
use Rattle.cbm.specs.Masks.{ways_of}
use Rattle.group_tree.specs.declared.group.Group.{Group}
use Rattle.journal_text.specs.Writable.{IsLine, IsMask}
use Rattle.lists.proofs.Choices.{cond-both}
use Rattle.lists.proofs.Tests.{All-one}
use Rattle.machine.specs.Maps.{bytes_of, domain_of, line_of}
use Rattle.machine.specs.Ranges.{InRange}
use Rattle.machine.specs.declared.parameters.Parameters.{Parameters}
use Rattle.num_text.specs.Blanks.{trim}
use Rattle.path_names.specs.declared.files.FileKind.TheVariants as kinds
use Rattle.path_names.specs.declared.path_ref.PathRef.{PathRef}
use Rattle.path_names.specs.declared.path_ref.PathRef.TheVariants.{File}
use Rattle.pseudo_lock.specs.declared.region.Region.{Region}
use Rattle.rc_base.specs.declared.names.Mode.{Mode}
use Rattle.rc_base.specs.declared.names.Mode.TheVariants.{Shareable, Exclusive, LockSetup, Locked}
use Rattle.rc_base.specs.declared.replies.Why.TheVariants.{PastRegion, WrongCpu}
use Rattle.schemata_text.specs.declared.assignment.Assignment.{Assignment}
use Rattle.schemata_text.specs.declared.fault.TextFault.{TextFault}
use Rattle.script_ops.specs.Fits.{Fits}
use Rattle.script_ops.specs.declared.op.Op.{Op}
use Rattle.script_ops.specs.declared.op.Op.TheVariants as ops
use Rattle.tree_law.proofs.laws.Follows.{IsLineOf-offset}
use Rattle.tree_law.proofs.laws.TouchedRegions.{region_in-touched}
use Rattle.tree_law.proofs.laws.Readings.{reading-valid}
use Rattle.tree_law.specs.Masks.{IsValid}
use Rattle.tree_law.specs.Places.{control_at}
use Rattle.tree_law.specs.Refusals.{Refusal, plain}
use Rattle.tree_law.specs.Resolving.{resolve}
use Rattle.tree_law.specs.State.{State, tasks_of}
use Rattle.tree_law.specs.Steps.{after, after_accepted, refusal}
use Rattle.tree_law.specs.commands.Drop as drop
use Rattle.tree_law.specs.commands.Flush as flush
use Rattle.tree_law.specs.commands.Mode as mode
use Rattle.tree_law.specs.commands.Schemata as schemata
use Rattle.tree_law.specs.commands.Touch as touch
use Rattle.tree_law.specs.commands.Write as write
use Rattle.tree_law.specs.declared.follow.Follow.{Follow}
use Rattle.tree_law.specs.declared.follow.Follow.TheVariants as follows
use Rattle.check_parts.proofs.Tags.{IsLine-region, IsMask-valid, IsShort, IsWritten-resolve}

-- a follow-up whose numbers may be written
abbrev pub HasNumbers : Parameters → Follow → Type 0
HasNumbers m (follows.Raise domain) = Unit {0}
HasNumbers m (follows.Flush domain) = Unit {0}
HasNumbers m (follows.Lock domain mask first_line) = IsMask m mask × IsLine first_line
HasNumbers m (follows.Touch tag line) = (tag.owner.0 < 2 ^ 32) × (tag.rmid < 2 ^ 16) × IsMask m tag.mask × IsLine line
HasNumbers m (follows.Drop domain line) = IsLine line

-- the line of an address
pub IsLine-address : (addr : ℕ) → addr < 2 ^ 48 → IsLine (line_of addr)
IsLine-address addr small = omega (arith, small)

module _ (m : Parameters) (s : State) (range : InRange m) (short : IsShort m s) where
  -- raises of these domains
  raises-written : (domains : List ℕ) → All (HasNumbers m) (map (λ d. follows.Raise d) domains)
  raises-written domains = All-map (HasNumbers m) (λ d. follows.Raise d) domains (λ k d within. tt)

  -- after a flush
  flush-written : (domain : Option ℕ) → All (HasNumbers m) (flush.after m domain)
  unfolding flush.after
  flush-written None = All-map (HasNumbers m) (λ d. follows.Flush d) (range_with_len 0 m.domains) (λ k d within. tt)
  flush-written (Some domain) = All-one (HasNumbers m) (follows.Flush domain) tt

  -- after a write of schemata
  schemata-written : (g : Group) (text : List ℕ) → All (HasNumbers m) (schemata.after m s g (schemata.schemata_read m text))
  unfolding schemata.after schemata.schemata_read
  schemata-written g text = by_read (schemata.schemata_read m text) refl
    where
      line : IsLine (schemata.next_first_line s)
      line = omega (arith, short.locks)

      by_mode : (all : List Assignment) (way : Mode) → ((k : ℕ) (d : Assignment) → k < length all → IsValid m (get_or all k d).mask) → All (HasNumbers m) (schemata.follow m s way all)
      by_mode all Shareable valid = raises-written (filter (schemata.names_domain all) (range_with_len 0 m.domains))
      by_mode all Exclusive valid = raises-written (filter (schemata.names_domain all) (range_with_len 0 m.domains))
      by_mode [] LockSetup valid = All-nil (HasNumbers m)
      by_mode (a ∷ all) LockSetup valid = All-one (HasNumbers m) (follows.Lock a.domain a.mask (schemata.next_first_line s)) (IsMask-valid m a.mask range (valid 0 a (omega arith)), line)
      by_mode all Locked valid = All-nil (HasNumbers m)

      by_read : (r : Result (List Assignment) TextFault) → schemata.schemata_read m text ≡ r → All (HasNumbers m) (schemata.after m s g r)
      by_read (Err fault) is = All-nil (HasNumbers m)
      by_read (Ok all) is = by_mode all g.mode (λ k d within. (reading-valid m (trim text) all is k d within).1)

  -- after a write of a mode
  mode-written : (g : Group) (text : List ℕ) → All (HasNumbers m) (mode.after m g text)
  unfolding mode.after
  mode-written g text = cond-both (All (HasNumbers m)) (mode.is_present g.mode text) [] (map (λ d. follows.Raise d) (range_with_len 0 m.domains)) (All-nil (HasNumbers m)) (raises-written (range_with_len 0 m.domains))

  -- after each write
  write-written : (path : PathRef) (text : List ℕ) → All (HasNumbers m) (write.after m s path text)
  unfolding write.after
  write-written (File dir kinds.Schemata) text = at (control_at s dir)
    where
      at : (o : Option Group) → All (HasNumbers m) (option_map_or (λ g. schemata.after m s g (schemata.schemata_read m text)) o [])
      at None = All-nil (HasNumbers m)
      at (Some g) = schemata-written g text
  write-written (File dir kinds.Mode) text = at (control_at s dir)
    where
      at : (o : Option Group) → All (HasNumbers m) (option_map_or (λ g. mode.after m g text) o [])
      at None = All-nil (HasNumbers m)
      at (Some g) = mode-written g text
  write-written path text = All-nil (HasNumbers m)

  -- the line at an offset of a region that a path touches
  IsLine-touched : (path : PathRef) (offset domain : ℕ) (r : Region) → touch.touched s path ≡ Some (domain, r) → leb (bytes_of m (ways_of r.mask)) offset ≡ false → IsLine (r.first_line + offset / 64)
  IsLine-touched path offset domain r is within = IsLine-region m s range short domain r (r.first_line + offset / 64) (region_in-touched s path domain r is) (IsLineOf-offset m s range r offset within).1

  -- after a touch that is not refused
  touch-written : (k : ℕ) (path : PathRef) (offset task cpu : ℕ) → cpu < m.cpus → touch.refusal m s path offset cpu ≡ None → All (HasNumbers m) (touch.after m s k path offset task cpu)
  unfolding touch.after touch.refusal
  touch-written k path offset task cpu lt free = at (touch.touched s path) refl free
    where
      inside : (domain : ℕ) (r : Region) (a : Bool) → leb (bytes_of m (ways_of r.mask)) offset ≡ a → cond a (Some (plain PastRegion)) (cond (not (eqb (domain_of m cpu) domain)) (Some (plain WrongCpu)) None) ≡ None → leb (bytes_of m (ways_of r.mask)) offset ≡ false
      inside domain r true is e = absurd (let f : Some (plain PastRegion) ≡ None = e in cc)
      inside domain r false is e = is

      at : (o : Option (ℕ × Region)) → touch.touched s path ≡ o → touch.against_region m offset cpu o ≡ None → All (HasNumbers m) (touch.follow m s k offset task cpu o)
      at None is e = All-nil (HasNumbers m)
      at (Some (domain, r)) is e =
          let owned = IsWritten-resolve m s range short task cpu lt in
          All-one (HasNumbers m) (follows.Touch (touch.tag_of (resolve m s task cpu) (domain_of m cpu) (k + 1)) (r.first_line + offset / 64))
          (owned.owner, owned.rmid, owned.mask, IsLine-touched path offset domain r is (inside domain r (leb (bytes_of m (ways_of r.mask)) offset) refl e))

  -- after a flush of a line
  line-written : (addr : ℕ) → addr < 2 ^ 48 → All (HasNumbers m) (drop.after_line m addr)
  unfolding drop.after_line
  line-written addr small = All-map (HasNumbers m) (λ d. follows.Drop d (line_of addr)) (range_with_len 0 m.domains) (λ k d within. IsLine-address addr small)

  -- after a flush of a line of a region that is not refused
  region-written : (path : PathRef) (offset : ℕ) → drop.refusal m s path offset ≡ None → All (HasNumbers m) (drop.after_region s path offset)
  unfolding drop.after_region drop.refusal
  region-written path offset free = at (touch.touched s path) refl free
    where
      inside : (r : Region) (a : Bool) → leb (bytes_of m (ways_of r.mask)) offset ≡ a → cond a (Some (plain PastRegion)) None ≡ None → leb (bytes_of m (ways_of r.mask)) offset ≡ false
      inside r true is e = absurd (let f : Some (plain PastRegion) ≡ None = e in cc)
      inside r false is e = is

      at : (o : Option (ℕ × Region)) → touch.touched s path ≡ o → drop.against_region m offset o ≡ None → All (HasNumbers m) (drop.follow offset o)
      at None is e = All-nil (HasNumbers m)
      at (Some (domain, r)) is e = All-one (HasNumbers m) (follows.Drop domain (r.first_line + offset / 64)) (IsLine-touched path offset domain r is (inside r (leb (bytes_of m (ways_of r.mask)) offset) refl e))

  -- after each accepted command
  accepted-written : (k : ℕ) (op : Op) → Fits m (tasks_of s) op → refusal m s op ≡ None → All (HasNumbers m) (after_accepted m s k op)
  unfolding refusal
  accepted-written k (ops.Rmdir path) fits free = raises-written (range_with_len 0 m.domains)
  accepted-written k (ops.Write path text) fits free = write-written path text
  accepted-written k (ops.Flush domain) fits free = flush-written domain
  accepted-written k (ops.Touch cpu path task offset) fits free = touch-written k path offset task cpu fits.1 free
  accepted-written k (ops.DropLine addr) fits free = line-written addr fits
  accepted-written k (ops.DropRegion path offset) fits free = region-written path offset free
  accepted-written k op fits free = All-nil (HasNumbers m)

  -- what follows a command that fits
  pub after-written : (k : ℕ) (op : Op) → Fits m (tasks_of s) op → All (HasNumbers m) (after m s k op)
  unfolding after
  after-written k op fits = at (refusal m s op) refl
    where
      at : (o : Option Refusal) → refusal m s op ≡ o → All (HasNumbers m) (cond (is_some o) [] (after_accepted m s k op))
      at None is = accepted-written k op fits is
      at (Some r) is = All-nil (HasNumbers m)
