-- What an access learns from the tree, and the lines of regions, are in the ranges of their fields.
use Rattle.std.proofs.Common.{◌≡◌, ℕ, ◌+◌, ◌^◌, ◌<◌, ◌≤◌, length, Option, Some, None, IfSome, subst, arith}
use Rattle.std.proofs.Math.Pow.{pow_mono}
use Rattle.std.proofs.lemmas.Bool.{eqb-true}
use Rattle.std.proofs.lemmas.Nat.{mul-le}
use Rattle.cbm.proofs.laws.Ways.{length-ways_of}
use Rattle.cbm.specs.Masks.{ways_of}
use Rattle.group_tree.specs.Records.{has_gid}
use Rattle.group_tree.specs.declared.group.Group.{Group}
use Rattle.journal_text.specs.Writable.{IsLine, IsMask}
use Rattle.lists.proofs.Tests.{IsFound-all}
use Rattle.machine.proofs.laws.Domains.{domain_of-lt}
use Rattle.machine.specs.Ranges.{InRange}
use Rattle.machine.specs.declared.parameters.Parameters.{Parameters}
use Rattle.pseudo_lock.specs.Regions.{first_line_of}
use Rattle.pseudo_lock.specs.declared.region.Region.{Region}
use Rattle.tree_law.proofs.laws.Access.{group_of-one, owner_of-counted, resolve-good}
use Rattle.tree_law.proofs.laws.TouchedRegions.{lt-regions}
use Rattle.tree_law.specs.Counted.{is_counted}
use Rattle.tree_law.specs.LawsFollows.{lines_of}
use Rattle.tree_law.specs.Masks.{IsValid}
use Rattle.tree_law.specs.Regions.{IsPlaced}
use Rattle.tree_law.specs.Resolving.{Owned, owner_of, resolve}
use Rattle.tree_law.specs.Sound.{IsSound}
use Rattle.tree_law.specs.Space.{region_in}
use Rattle.tree_law.specs.State.{State}

-- a valid mask may be written
pub IsMask-valid : (m : Parameters) (mask : ℕ) → InRange m → IsValid m mask → IsMask m mask
IsMask-valid m mask range valid = (let most : 2 ^ m.ways ≤ 2 ^ 32 = pow_mono range.way_limit in omega (arith, valid.bounded, most), valid.faultless)

-- a state of a run: sound, with fewer groups made than a gid has numbers, and fewer regions locked than have lines below 2^53
pub record IsShort (m : Parameters) (s : State) : Type 0 where
  pub sound : IsSound m s
  pub serial : s.next_gid ≤ 2 ^ 32
  pub locks : s.locks < 2 ^ 20

-- an access whose numbers may be written
pub record IsWritten (m : Parameters) (o : Owned) : Type 0 where
  pub owner : o.owner.0 < 2 ^ 32
  pub rmid : o.rmid < 2 ^ 16
  pub mask : IsMask m o.mask

-- the first line of a lock, and the lines after it
line-first : (k lines line : ℕ) → k < 2 ^ 20 → lines ≤ 4194304 → line < first_line_of k + lines → line < 2 ^ 53
line-first k lines line few short below = omega (arith, few, short, below)

module _ (m : Parameters) (s : State) (range : InRange m) (short : IsShort m s) where
  -- the gid of the owner of an access
  owner-serial : (task cpu : ℕ) → cpu < m.cpus → (owner_of s task cpu).0 < s.next_gid
  owner-serial task cpu lt =
      let g = group_of-one m s short.sound (owner_of s task cpu) is_counted (owner_of-counted m s short.sound task cpu lt) in
      let below : g.0.gid.0 < s.next_gid = IsFound-all (λ (x : Group). x.gid.0 < s.next_gid) (has_gid (owner_of s task cpu)) s.groups g.0 g.2 short.sound.named.serial in
      let same = eqb-true (owner_of s task cpu).0 g.0.gid.0 g.2.passes in
      omega (arith, below, same)

  -- what an access has
  pub IsWritten-resolve : (task cpu : ℕ) → cpu < m.cpus → IsWritten m (resolve m s task cpu)
  unfolding resolve
  IsWritten-resolve task cpu lt =
      let good = resolve-good m s task cpu short.sound lt (domain_of-lt m cpu range lt) in
      let below = owner-serial task cpu lt in
      record {
        owner = omega (arith, below, short.serial);
        rmid = omega (arith, good.rmid, range.rmid_limit);
        mask = IsMask-valid m (resolve m s task cpu).mask range good.mask;
      }

  -- a line of a region
  pub IsLine-region : (domain : ℕ) (r : Region) (line : ℕ) → region_in s.regions domain ≡ Some r → line < r.first_line + lines_of m r → IsLine line
  IsLine-region domain r line is below =
      let placed : IsPlaced s.locks r = subst (λ (o : Option Region). IfSome o (IsPlaced s.locks)) is (short.sound.lines.placed domain None (lt-regions s domain r is)) in
      let lines : lines_of m r ≤ 4194304 = mul-le m.sets (length (ways_of r.mask)) 65536 64 range.set_limit (length-ways_of r.mask) in
      line-first placed.0 (lines_of m r) line (omega (arith, placed.1, short.locks)) lines (omega (arith, below, placed.2))
