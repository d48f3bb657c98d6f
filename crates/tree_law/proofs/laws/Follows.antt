-- What follows a command: domains of the machine, valid masks, and lines of regions.
use Rattle.std.proofs.Common.{◌≡◌, ℕ, ◌+◌, ◌*◌, ◌/◌, ◌<◌, Bool, true, false, not, cond, eqb, leb, List, [], ◌∷◌, length, map, filter, get_or, Option, None, Some, is_some, Result, Ok, Err, refl, sym, ap, ◌∙◌, arith}
use Rattle.std.specs.List.{All, range_with_len}
use Rattle.std.specs.Option.{option_map_or}
use Rattle.std.proofs.Math.Nat.{mul_assoc, mul_comm}
use Rattle.std.proofs.lemmas.Bool.{eqb-true, leb-false}
use Rattle.std.proofs.lemmas.List.Elements.{All-filter, All-map}
use Rattle.std.proofs.lemmas.List.FromFn.{get_or-range_with_len, length-range_with_len}
use Rattle.cbm.specs.Masks.{ways_of}
use Rattle.group_tree.specs.declared.group.Group.{Group}
use Rattle.lists.proofs.Choices.{cond-both}
use Rattle.lists.proofs.Tests.{All-one}
use Rattle.machine.proofs.laws.Domains.{domain_of-lt}
use Rattle.machine.specs.Maps.{bytes_of, domain_of, line_of}
use Rattle.machine.specs.Ranges.{InRange}
use Rattle.machine.specs.declared.parameters.Parameters.{Parameters}
use Rattle.num_text.specs.Blanks.{trim}
use Rattle.path_names.specs.declared.files.FileKind.TheVariants as kinds
use Rattle.path_names.specs.declared.path_ref.PathRef.{PathRef}
use Rattle.path_names.specs.declared.path_ref.PathRef.TheVariants.{File}
use Rattle.rc_base.specs.declared.names.Mode.{Mode}
use Rattle.rc_base.specs.declared.names.Mode.TheVariants.{Shareable, Exclusive, LockSetup, Locked}
use Rattle.rc_base.specs.declared.replies.Why.TheVariants.{PastRegion, WrongCpu}
use Rattle.schemata_text.specs.declared.assignment.Assignment.{Assignment}
use Rattle.schemata_text.specs.declared.fault.TextFault.{TextFault}
use Rattle.script_ops.specs.Fits.{Fits}
use Rattle.script_ops.specs.declared.op.Op.{Op}
use Rattle.script_ops.specs.declared.op.Op.TheVariants as ops
use Rattle.tree_law.proofs.laws.Readings.{reading-valid}
use Rattle.tree_law.specs.LawsFollows.{IsLawful, IsLineOf, lines_of}
use Rattle.tree_law.specs.Places.{control_at}
use Rattle.tree_law.specs.Refusals.{Refusal, plain}
use Rattle.tree_law.specs.Space.{region_in}
use Rattle.tree_law.specs.State.{State, tasks_of}
use Rattle.pseudo_lock.specs.declared.region.Region.{Region}
use Rattle.tree_law.specs.Steps.{after, after_accepted, follow_domain, refusal}
use Rattle.tree_law.specs.declared.follow.Follow.{Follow}
use Rattle.tree_law.specs.declared.follow.Follow.TheVariants as follows
use Rattle.tree_law.specs.Sound.{IsSound}
use Rattle.tree_law.specs.commands.Drop as drop
use Rattle.tree_law.specs.commands.Flush as flush
use Rattle.tree_law.specs.commands.Mode as mode
use Rattle.tree_law.specs.commands.Schemata as schemata
use Rattle.tree_law.specs.commands.Touch as touch
use Rattle.tree_law.specs.commands.Write as write
use Rattle.tree_law.proofs.laws.TouchedRegions.{region_in-touched, lt-regions}

-- what a range has is below its end
range_with_len-below : (n : ℕ) → All (λ k. k < n) (range_with_len 0 n)
range_with_len-below n k d within = let lt : k < n = omega (arith, within, length-range_with_len 0 n) in omega (arith, lt, get_or-range_with_len 0 n k d lt)

-- anything holds of each in an empty list
All-nil : {X : Type 0} (P : X → Type 0) → All P []
All-nil P = λ k d within. absurd (omega arith)

-- ---- what each command gives

module _ (m : Parameters) (s : State) (range : InRange m) where
  -- of a domain of the machine, and lawful
  abbrev IsGoodFollow : Follow → Type 0
  IsGoodFollow f = (follow_domain f < m.domains) × IsLawful m s f

  -- domains of the machine that are raised
  Raise-good : (which : ℕ → Bool) → All IsGoodFollow (map (λ d. follows.Raise d) (filter which (range_with_len 0 m.domains)))
  Raise-good which = All-map IsGoodFollow (λ d. follows.Raise d) (filter which (range_with_len 0 m.domains)) (λ k d within. (All-filter which (λ n. n < m.domains) (range_with_len 0 m.domains) (range_with_len-below m.domains) k d within, tt))

  -- every domain raised
  Raise-good_all : All IsGoodFollow (map (λ d. follows.Raise d) (range_with_len 0 m.domains))
  Raise-good_all = All-map IsGoodFollow (λ d. follows.Raise d) (range_with_len 0 m.domains) (λ k d within. (range_with_len-below m.domains k d within, tt))

  -- after a flush
  flush-good : (domain : Option ℕ) → Fits m (tasks_of s) (ops.Flush domain) → All IsGoodFollow (flush.after m domain)
  unfolding flush.after
  flush-good None fits = All-map IsGoodFollow (λ d. follows.Flush d) (range_with_len 0 m.domains) (λ k d within. (range_with_len-below m.domains k d within, tt))
  flush-good (Some domain) fits = All-one IsGoodFollow (follows.Flush domain) (fits, tt)

  -- after a write of schemata
  schemata-good : (g : Group) (text : List ℕ) → All IsGoodFollow (schemata.after m s g (schemata.schemata_read m text))
  unfolding schemata.after schemata.schemata_read
  schemata-good g text = by_read (schemata.schemata_read m text) refl
    where
      by_mode : (all : List Assignment) (x : Mode) → ((k : ℕ) (d : Assignment) → k < length all → IsGoodFollow (follows.Lock (get_or all k d).domain (get_or all k d).mask (schemata.next_first_line s))) → All IsGoodFollow (schemata.follow m s x all)
      by_mode all Shareable lawful = Raise-good (schemata.names_domain all)
      by_mode all Exclusive lawful = Raise-good (schemata.names_domain all)
      by_mode [] LockSetup lawful = All-nil IsGoodFollow
      by_mode (a ∷ all) LockSetup lawful = All-one IsGoodFollow (follows.Lock a.domain a.mask (schemata.next_first_line s)) (lawful 0 a (omega arith))
      by_mode all Locked lawful = All-nil IsGoodFollow

      by_read : (r : Result (List Assignment) TextFault) → schemata.schemata_read m text ≡ r → All IsGoodFollow (schemata.after m s g r)
      by_read (Err fault) is = All-nil IsGoodFollow
      by_read (Ok all) is = by_mode all g.mode (λ k d within. let valid = reading-valid m (trim text) all is k d within in (valid.0, (valid.1, refl)))

  -- after a write of a mode
  mode-good : (g : Group) (text : List ℕ) → All IsGoodFollow (mode.after m g text)
  unfolding mode.after
  mode-good g text = cond-both (All IsGoodFollow) (mode.is_present g.mode text) [] (map (λ d. follows.Raise d) (range_with_len 0 m.domains)) (All-nil IsGoodFollow) Raise-good_all

  -- after each write
  write-good : (path : PathRef) (text : List ℕ) → All IsGoodFollow (write.after m s path text)
  unfolding write.after
  write-good (File dir kinds.Schemata) text = at (control_at s dir)
    where
      at : (o : Option Group) → All IsGoodFollow (option_map_or (λ g. schemata.after m s g (schemata.schemata_read m text)) o [])
      at None = All-nil IsGoodFollow
      at (Some g) = schemata-good g text
  write-good (File dir kinds.Mode) text = at (control_at s dir)
    where
      at : (o : Option Group) → All IsGoodFollow (option_map_or (λ g. mode.after m g text) o [])
      at None = All-nil IsGoodFollow
      at (Some g) = mode-good g text
  write-good path text = All-nil IsGoodFollow

  -- the line of an offset below the bytes of a region is one of its lines
  pub IsLineOf-offset : (r : Region) (offset : ℕ) → leb (bytes_of m (ways_of r.mask)) offset ≡ false → IsLineOf m r (r.first_line + offset / 64)
  IsLineOf-offset r offset e =
      let less = leb-false (bytes_of m (ways_of r.mask)) offset e in
      let same : m.sets * 64 * length (ways_of r.mask) ≡ lines_of m r * 64 = mul_assoc m.sets 64 (length (ways_of r.mask)) ∙ ap (λ (n : ℕ). m.sets * n) (mul_comm 64 (length (ways_of r.mask))) ∙ sym (mul_assoc m.sets (length (ways_of r.mask)) 64) in
      (omega arith, omega arith)

  -- after a touch that is not refused
  touch-good : (k : ℕ) (path : PathRef) (offset task cpu : ℕ) → cpu < m.cpus → touch.refusal m s path offset cpu ≡ None → All IsGoodFollow (touch.after m s k path offset task cpu)
  unfolding touch.after touch.refusal
  touch-good k path offset task cpu lt free = at (touch.touched s path) refl free
    where
      by_tests : (domain : ℕ) (r : Region) (a b : Bool) → region_in s.regions domain ≡ Some r → leb (bytes_of m (ways_of r.mask)) offset ≡ a → eqb (domain_of m cpu) domain ≡ b
          → cond a (Some (plain PastRegion)) (cond (not b) (Some (plain WrongCpu)) None) ≡ None → (r' : Region) × (region_in s.regions (domain_of m cpu) ≡ Some r') × IsLineOf m r' (r.first_line + offset / 64)
      by_tests domain r true b there isa isb e = absurd (let f : Some (plain PastRegion) ≡ None = e in cc)
      by_tests domain r false false there isa isb e = absurd (let f : Some (plain WrongCpu) ≡ None = e in cc)
      by_tests domain r false true there isa isb e = (r, ap (region_in s.regions) (eqb-true (domain_of m cpu) domain isb) ∙ there, IsLineOf-offset r offset isa)

      at : (o : Option (ℕ × Region)) → touch.touched s path ≡ o → touch.against_region m offset cpu o ≡ None → All IsGoodFollow (touch.follow m s k offset task cpu o)
      at None is e = All-nil IsGoodFollow
      at (Some (domain, r)) is e = All-one IsGoodFollow (follows.Touch _ (r.first_line + offset / 64))
          (domain_of-lt m cpu range lt, by_tests domain r (leb (bytes_of m (ways_of r.mask)) offset) (eqb (domain_of m cpu) domain) (region_in-touched s path domain r is) refl refl e)

  -- after a flush of a line
  after_line-good : (addr : ℕ) → All IsGoodFollow (drop.after_line m addr)
  unfolding drop.after_line
  after_line-good addr = All-map IsGoodFollow (λ d. follows.Drop d (line_of addr)) (range_with_len 0 m.domains) (λ k d within. (range_with_len-below m.domains k d within, tt))

  -- after a flush of a line of a region
  after_region-good : (path : PathRef) (offset : ℕ) → length s.regions ≡ m.domains → All IsGoodFollow (drop.after_region s path offset)
  unfolding drop.after_region
  after_region-good path offset each = at (touch.touched s path) refl
    where
      at : (o : Option (ℕ × Region)) → touch.touched s path ≡ o → All IsGoodFollow (drop.follow offset o)
      at None is = All-nil IsGoodFollow
      at (Some (domain, r)) is = All-one IsGoodFollow (follows.Drop domain (r.first_line + offset / 64)) (let lt : domain < length s.regions = lt-regions s domain r (region_in-touched s path domain r is) in omega arith, tt)

  -- after each accepted command
  after_accepted-good : (k : ℕ) (op : Op) → length s.regions ≡ m.domains → Fits m (tasks_of s) op → refusal m s op ≡ None → All IsGoodFollow (after_accepted m s k op)
  unfolding refusal
  after_accepted-good k (ops.Rmdir path) each fits free = Raise-good_all
  after_accepted-good k (ops.Write path text) each fits free = write-good path text
  after_accepted-good k (ops.Flush domain) each fits free = flush-good domain fits
  after_accepted-good k (ops.Touch cpu path task offset) each fits free = touch-good k path offset task cpu fits.1 free
  after_accepted-good k (ops.DropLine addr) each fits free = after_line-good addr
  after_accepted-good k (ops.DropRegion path offset) each fits free = after_region-good path offset each
  after_accepted-good k op each fits free = All-nil IsGoodFollow

-- what follows a command that fits is of domains of the machine, and lawful
pub after-good : (m : Parameters) (s : State) (k : ℕ) (op : Op) → InRange m → IsSound m s → Fits m (tasks_of s) op → All (λ (f : Follow). (follow_domain f < m.domains) × IsLawful m s f) (after m s k op)
unfolding after
after-good m s k op range sound fits = at (refusal m s op) refl
  where
    at : (o : Option Refusal) → refusal m s op ≡ o → All (λ (f : Follow). (follow_domain f < m.domains) × IsLawful m s f) (cond (is_some o) [] (after_accepted m s k op))
    at None is = after_accepted-good m s range k op sound.regions.each fits is
    at (Some r) is = All-nil (λ (f : Follow). (follow_domain f < m.domains) × IsLawful m s f)
