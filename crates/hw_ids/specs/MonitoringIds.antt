-- Resource monitoring ids: how many there are, which are taken, and which wait in limbo.
-- (For functions and proofs: no promise of the program stands on it.)
use Rattle.std.specs.Prelude.{◌≡◌, ◌≢◌, ℕ, ◌<◌, false, IsTrue, nat_lt, List, [], filter, map, zip, if◌then◌else◌}
use Rattle.hw_ids.specs.declared.rmids.NoRmid.{NoRmid}
use Rattle.hw_ids.specs.declared.rmids.NoRmid.TheVariants.{Spent, Limbo}
use Rattle.hw_ids.specs.Ids.{contains, with_id, without}

-- the number of RMIDs, the taken ones and those in limbo, both in rising order, and the threshold in bytes
pub record MonitoringIds : Type 0 where
  pub count : ℕ
  pub taken : List ℕ
  pub limbo : List ℕ
  pub threshold : ℕ

-- an RMID of the machine that is neither taken nor in limbo
pub record IsFree (ids : MonitoringIds) (rmid : ℕ) : Type 0 where
  pub exists : rmid < ids.count
  pub not_taken : contains rmid ids.taken ≡ false
  pub not_in_limbo : contains rmid ids.limbo ≡ false

-- none is both taken and in limbo, and both are RMIDs of the machine; those that are neither are free
pub record ArePart (ids : MonitoringIds) : Type 0 where
  pub apart : (rmid : ℕ) → IsTrue (contains rmid ids.taken) → contains rmid ids.limbo ≡ false
  pub taken_exist : (rmid : ℕ) → IsTrue (contains rmid ids.taken) → rmid < ids.count
  pub limbo_exist : (rmid : ℕ) → IsTrue (contains rmid ids.limbo) → rmid < ids.count

-- none is free
abbrev pub NoneFree : MonitoringIds → Type 0
NoneFree ids = (rmid : ℕ) → ¬ IsFree ids rmid

-- none can be taken, and this is why
abbrev pub IsRefused : MonitoringIds → NoRmid → Type 0
IsRefused ids Spent = NoneFree ids × (ids.limbo ≡ [])
IsRefused ids Limbo = NoneFree ids × (ids.limbo ≢ [])

-- a free RMID, and none below it is free
pub record IsLowestFree (ids : MonitoringIds) (rmid : ℕ) : Type 0 where
  pub free : IsFree ids rmid
  pub lowest : (lower : ℕ) → lower < rmid → ¬ IsFree ids lower

-- the RMID is no longer taken: it is free where its lines hold at most the threshold, and else in limbo
abbrev pub after_free : MonitoringIds → ℕ → ℕ → MonitoringIds
after_free ids rmid bytes = record ids {
  taken = without rmid ids.taken;
  limbo = if nat_lt ids.threshold bytes then with_id rmid ids.limbo else ids.limbo;
}

-- of the RMIDs in limbo, with the bytes of each, those above the threshold
abbrev pub above : ℕ → List ℕ → List ℕ → List ℕ
above threshold limbo bytes = map (λ e. e.0) (filter (λ e. nat_lt threshold e.1) (zip limbo bytes))
