-- What follows a command has what a slice needs.
use Rattle.std.proofs.Common.{◌≡◌, ℕ, ◌+◌, ◌-◌, ◌*◌, ◌/◌, ◌^◌, ◌<◌, Bool, true, false, cond, leb, filter, map, get_or, List, [], ◌∷◌, Option, None, Some, is_some, Result, Ok, Err, refl, arith}
use Rattle.std.specs.List.{All, range_with_len}
use Rattle.std.specs.Option.{option_map_or}
use Rattle.std.proofs.lemmas.List.Elements.{All-map, All-nil}
use Rattle.cbm.specs.Masks.{ways_of}
use Rattle.group_tree.specs.declared.group.Group.{Group}
use Rattle.lists.proofs.Choices.{cond-both}
use Rattle.lists.proofs.Tests.{All-one}
use Rattle.machine.proofs.laws.Domains.{domain_of-lt}
use Rattle.machine.specs.Maps.{bytes_of, line_of}
use Rattle.machine.specs.Ranges.{InRange}
use Rattle.machine.specs.declared.parameters.Parameters.{Parameters}
use Rattle.path_names.specs.declared.files.FileKind.TheVariants as kinds
use Rattle.path_names.specs.declared.path_ref.PathRef.{PathRef}
use Rattle.path_names.specs.declared.path_ref.PathRef.TheVariants.{File}
use Rattle.pseudo_lock.specs.declared.region.Region.{Region}
use Rattle.rc_base.specs.declared.names.Mode.{Mode}
use Rattle.rc_base.specs.declared.names.Mode.TheVariants.{Shareable, Exclusive, LockSetup, Locked}
use Rattle.rc_base.specs.declared.replies.Why.TheVariants.{PastRegion}
use Rattle.schemata_text.specs.declared.assignment.Assignment.{Assignment}
use Rattle.schemata_text.specs.declared.fault.TextFault.{TextFault}
use Rattle.script_ops.specs.Fits.{Fits}
use Rattle.script_ops.specs.declared.limits.TheConstants.{MOST_WEIGHT}
use Rattle.script_ops.specs.declared.op.Op.{Op}
use Rattle.script_ops.specs.declared.op.Op.TheVariants as ops
use Rattle.tree_core.proofs.Assignments.{mask-valid}
use Rattle.tree_core.specs.Follows.{IsReady}
use Rattle.tree_law.proofs.laws.Access.{resolve-good}
use Rattle.tree_law.proofs.laws.Follows.{IsLineOf-offset, after-good}
use Rattle.tree_law.proofs.laws.TouchedRegions.{region_in-touched}
use Rattle.tree_law.proofs.laws.Lines.{first_line-bounded}
use Rattle.tree_law.specs.LawsFollows.{IsLawful}
use Rattle.tree_law.specs.Masks.{IsValid}
use Rattle.tree_law.specs.Places.{control_at}
use Rattle.tree_law.specs.Refusals.{Refusal, plain}
use Rattle.tree_law.specs.Sound.{IsSound}
use Rattle.tree_law.specs.State.{State, tasks_of}
use Rattle.tree_law.specs.Steps.{after, after_accepted, refusal}
use Rattle.tree_law.specs.commands.Drop as clflush
use Rattle.tree_law.specs.commands.Flush as flush
use Rattle.tree_law.specs.commands.Mode as mode
use Rattle.tree_law.specs.commands.Schemata as schemata
use Rattle.tree_law.specs.commands.Touch as touch
use Rattle.tree_law.specs.commands.Write as write
use Rattle.tree_law.specs.declared.follow.Follow.{Follow}
use Rattle.tree_law.specs.declared.follow.Follow.TheVariants.{Raise, Flush, Lock, Touch, Drop}

-- what a slice needs of a follow-up, apart from what the law of follow-ups says: a touch has an RMID of the machine and a valid
-- mask, and the line of a drop is below 2^60
abbrev IsBounded : Parameters → Follow → Type 0
IsBounded m (Touch tag line) = (tag.rmid < m.rmids) × IsValid m tag.mask
IsBounded m (Drop domain line) = line < 2 ^ 60
IsBounded m f = Unit {0}

module _ (m : Parameters) (s : State) (range : InRange m) (sound : IsSound m s) (few : s.locks < MOST_WEIGHT) where
  -- a lawful one has then all that a slice needs
  IsReady-lawful : (f : Follow) → IsLawful m s f → IsBounded m f → IsReady m f
  IsReady-lawful (Raise domain) lawful bounded = tt
  IsReady-lawful (Flush domain) lawful bounded = tt
  IsReady-lawful (Lock domain mask first_line) lawful bounded = let valid = mask-valid m mask lawful.0 in (valid.0, valid.1, (let first : first_line ≡ 2 ^ 52 + s.locks * 2 ^ 32 = lawful.1 in let less : s.locks < 4000000 = few in omega arith))
  IsReady-lawful (Touch tag line) lawful bounded =
      let valid = mask-valid m tag.mask bounded.1 in let r = lawful.0 in
      let low = first_line-bounded s.regions s.locks sound.lines m tag.domain r (line - r.first_line) range few lawful.1 (omega (arith, lawful.2.0, lawful.2.1)) in
      (bounded.0, valid.0, valid.1, omega (arith, low, lawful.2.0))
  IsReady-lawful (Drop domain line) lawful bounded = bounded

  -- after a write there are raises and locks alone
  write-bounded : (path : PathRef) (text : List ℕ) → All (IsBounded m) (write.after m s path text)
  unfolding write.after schemata.after mode.after
  write-bounded (File dir kinds.Schemata) text = at (control_at s dir)
    where
      by_mode : (all : List Assignment) (x : Mode) → All (IsBounded m) (schemata.follow m s x all)
      by_mode all Shareable = All-map (IsBounded m) (λ d. Raise d) (filter (schemata.names_domain all) (range_with_len 0 m.domains)) (λ k d within. tt)
      by_mode all Exclusive = All-map (IsBounded m) (λ d. Raise d) (filter (schemata.names_domain all) (range_with_len 0 m.domains)) (λ k d within. tt)
      by_mode [] LockSetup = All-nil (IsBounded m)
      by_mode (a ∷ all) LockSetup = All-one (IsBounded m) (Lock a.domain a.mask (schemata.next_first_line s)) tt
      by_mode all Locked = All-nil (IsBounded m)

      by_read : (g : Group) (r : Result (List Assignment) TextFault) → All (IsBounded m) (schemata.after m s g r)
      by_read g (Err fault) = All-nil (IsBounded m)
      by_read g (Ok all) = by_mode all g.mode

      at : (o : Option Group) → All (IsBounded m) (option_map_or (λ g. schemata.after m s g (schemata.schemata_read m text)) o [])
      at None = All-nil (IsBounded m)
      at (Some g) = by_read g (schemata.schemata_read m text)
  write-bounded (File dir kinds.Mode) text = at (control_at s dir)
    where
      at : (o : Option Group) → All (IsBounded m) (option_map_or (λ g. mode.after m g text) o [])
      at None = All-nil (IsBounded m)
      at (Some g) = cond-both (All (IsBounded m)) (mode.is_present g.mode text) [] (map (λ d. Raise d) (range_with_len 0 m.domains)) (All-nil (IsBounded m)) (All-map (IsBounded m) (λ d. Raise d) (range_with_len 0 m.domains) (λ k d within. tt))
  write-bounded path text = All-nil (IsBounded m)

  -- a flush flushes alone
  flush-bounded : (domain : Option ℕ) → All (IsBounded m) (flush.after m domain)
  unfolding flush.after
  flush-bounded None = All-map (IsBounded m) (λ d. Flush d) (range_with_len 0 m.domains) (λ k d within. tt)
  flush-bounded (Some domain) = All-one (IsBounded m) (Flush domain) tt

  -- the tag of a touch is that of an access
  touch-bounded : (k : ℕ) (path : PathRef) (offset task cpu : ℕ) → cpu < m.cpus → All (IsBounded m) (touch.after m s k path offset task cpu)
  unfolding touch.after
  touch-bounded k path offset task cpu lt = at (touch.touched s path)
    where
      at : (o : Option (ℕ × Region)) → All (IsBounded m) (touch.follow m s k offset task cpu o)
      at None = All-nil (IsBounded m)
      at (Some (domain, r)) = All-one (IsBounded m) (Touch _ (r.first_line + offset / 64)) (let good = resolve-good m s task cpu sound lt (domain_of-lt m cpu range lt) in (good.rmid, good.mask))

  -- the line of a low address is low
  after_line-bounded : (addr : ℕ) → addr < 2 ^ 48 → All (IsBounded m) (clflush.after_line m addr)
  unfolding clflush.after_line
  after_line-bounded addr low = All-map (IsBounded m) (λ d. Drop d (line_of addr)) (range_with_len 0 m.domains) (λ k d within. omega (arith, low))

  -- and so is each line of a region
  after_region-bounded : (path : PathRef) (offset : ℕ) → clflush.refusal m s path offset ≡ None → All (IsBounded m) (clflush.after_region s path offset)
  unfolding clflush.after_region clflush.refusal
  after_region-bounded path offset free = at (touch.touched s path) refl free
    where
      by_test : (domain : ℕ) (r : Region) (past : Bool) → touch.touched s path ≡ Some (domain, r) → leb (bytes_of m (ways_of r.mask)) offset ≡ past → cond past (Some (plain PastRegion)) None ≡ None → r.first_line + offset / 64 < 2 ^ 60
      by_test domain r true is isp e = absurd (let f : Some (plain PastRegion) ≡ None = e in cc)
      by_test domain r false is isp e =
          let of = IsLineOf-offset m s range r offset isp in
          first_line-bounded s.regions s.locks sound.lines m domain r (offset / 64) range few (region_in-touched s path domain r is) (omega (arith, of.1))

      at : (o : Option (ℕ × Region)) → touch.touched s path ≡ o → clflush.against_region m offset o ≡ None → All (IsBounded m) (clflush.follow offset o)
      at None is e = All-nil (IsBounded m)
      at (Some (domain, r)) is e = All-one (IsBounded m) (Drop domain (r.first_line + offset / 64)) (by_test domain r (leb (bytes_of m (ways_of r.mask)) offset) is refl e)

  -- after each accepted command
  after_accepted-bounded : (k : ℕ) (op : Op) → Fits m (tasks_of s) op → refusal m s op ≡ None → All (IsBounded m) (after_accepted m s k op)
  unfolding refusal
  after_accepted-bounded k (ops.Rmdir path) fits free = All-map (IsBounded m) (λ d. Raise d) (range_with_len 0 m.domains) (λ i d within. tt)
  after_accepted-bounded k (ops.Write path text) fits free = write-bounded path text
  after_accepted-bounded k (ops.Flush domain) fits free = flush-bounded domain
  after_accepted-bounded k (ops.Touch cpu path task offset) fits free = touch-bounded k path offset task cpu fits.1
  after_accepted-bounded k (ops.DropLine addr) fits free = after_line-bounded addr fits
  after_accepted-bounded k (ops.DropRegion path offset) fits free = after_region-bounded path offset free
  after_accepted-bounded k op fits free = All-nil (IsBounded m)

  -- all that follows a command that fits has what a slice needs
  pub after-ready : (k : ℕ) (op : Op) → Fits m (tasks_of s) op → All (IsReady m) (after m s k op)
  unfolding after
  after-ready k op fits = λ i d lt. IsReady-lawful (get_or (after m s k op) i d) (after-good m s k op range sound fits i d lt).1 (at (refusal m s op) refl i d lt)
    where
      at : (o : Option Refusal) → refusal m s op ≡ o → All (IsBounded m) (cond (is_some o) [] (after_accepted m s k op))
      at None is = after_accepted-bounded k op fits is
      at (Some r) is = All-nil (IsBounded m)
