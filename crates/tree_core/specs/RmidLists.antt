-- Lists of RMIDs: those of monitor groups, and the counts and bytes of each.
-- (For functions and proofs: no promise of the program stands on it.)
use Rattle.std.specs.Prelude.{◌≡◌, ◌≢◌, ℕ, zero, suc, ◌*◌, ◌-◌, ◌^◌, min, true, not, ◌&&◌, if◌then◌else◌, List, [], ◌∷◌, AllPairs, drop, filter, map, take}
use Rattle.std.specs.List.{All, flat_map, range_with_len}
use Rattle.group_tree.specs.Records.{is_monitor_of}
use Rattle.group_tree.specs.declared.group.Group.{Group}
use Rattle.hw_ids.specs.Ids.{contains}
use Rattle.hw_ids.specs.MonitoringIds.{MonitoringIds}
use Rattle.machine.specs.declared.parameters.Parameters.{Parameters}
use Rattle.rc_base.specs.declared.names.Gid.{Gid}
use Rattle.tree_law.specs.Freeing.{greatest, limbo_after, rmids_of}

-- the RMID of a group, where it is a monitor group of this control group
abbrev pub rmids_if_monitor : Gid → Group → List ℕ
rmids_if_monitor control g = if is_monitor_of control g.kind then rmids_of g else []

-- the RMIDs of the monitor groups of a control group, in order of creation
abbrev pub monitor_rmids : Gid → List Group → List ℕ
monitor_rmids control groups = flat_map rmids_of (filter (λ (g : Group). is_monitor_of control g.kind) groups)

-- the counts of an RMID in so many domains, from a first one on
abbrev pub counts_in : ℕ → ℕ → ℕ → List (ℕ × ℕ)
counts_in first domains rmid = map (λ domain. (domain, rmid)) (range_with_len first domains)

-- the bytes of the greatest of these counts, and 2 ^ 64 - 1 where they are more
abbrev pub bytes_of : List ℕ → ℕ
bytes_of looks = min (greatest looks * 64) (2 ^ 64 - 1)

-- the bytes in the fullest domain of each of so many RMIDs, with the counts of each in so many domains
abbrev pub bytes_each : ℕ → ℕ → List ℕ → List ℕ
bytes_each domains zero looks = []
bytes_each domains (suc n) looks = bytes_of (take domains looks) ∷ bytes_each domains n (drop domains looks)

-- RMIDs that may be freed, where those in `had` are taken: each is taken, none is 0, and none stands there twice
pub record MayFree (had rmids : List ℕ) : Type 0 where
  pub taken : All (λ id. contains id had ≡ true) rmids
  pub not_default : All (λ id. id ≢ 0) rmids
  pub differ : AllPairs (λ (a b : ℕ). a ≢ b) rmids

-- what becomes of the RMIDs of a machine where these are freed, with their counts in each domain
pub record Frees (m : Parameters) (rmids looks : List ℕ) (old new : MonitoringIds) : Type 0 where
  pub count : new.count ≡ old.count
  pub threshold : new.threshold ≡ old.threshold
  pub limbo : new.limbo ≡ limbo_after m old.threshold old.limbo rmids looks
  pub taken : (id : ℕ) → contains id new.taken ≡ (not (contains id rmids) && contains id old.taken)
