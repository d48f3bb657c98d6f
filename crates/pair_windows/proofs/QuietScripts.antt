-- A script of which no command asks that a group be exclusive has no window.
use Rattle.std.proofs.Common.{◌≡◌, ℕ, zero, suc, ◌+◌, Bool, false, List, [], ◌∷◌, ◌++◌, length, map, filter, get_or, Option, Some, None, refl, ap, ◌∙◌, arith}
use Rattle.std.specs.List.{All, flat_map, list_any, range_with_len}
use Rattle.std.specs.Prelude.{nat_lt, slice_get}
use Rattle.cache_core.specs.declared.entry.SliceEntry.{SliceEntry}
use Rattle.cache_core.specs.declared.entry.What.{What}
use Rattle.cache_core.specs.declared.entry.What.TheVariants as whats
use Rattle.pair_law.specs.Epochs.{state_at}
use Rattle.pair_text.specs.Values.{PairScriptValue, epoch_at, op_at}
use Rattle.pair_text.specs.declared.group.PairGroup.{PairGroup}
use Rattle.pair_text.specs.declared.op.PairOp.{PairOp}
use Rattle.pair_text.specs.declared.op.PairOp.TheVariants as ops
use Rattle.pair_law.specs.CdpRuns.{CdpJournalsValue}
use Rattle.pair_law.specs.Entries.{slice_in}
use Rattle.pair_law.specs.LevelRuns.{LevelJournalsValue}
use Rattle.pair_windows.specs.CdpWindows as cdp
use Rattle.pair_windows.specs.LevelSpans.{exclusive_in, is_exclusive}
use Rattle.pair_windows.specs.JointWindows as joint
use Rattle.pair_windows.specs.Partitions.{partitions_in, partitions_of}
use Rattle.pair_windows.specs.Quiet.{asks_exclusive}
use Rattle.pair_windows.specs.declared.cdp_window.CdpWindow.{CdpWindow}
use Rattle.pair_windows.specs.declared.joint_window.JointWindow.{JointWindow}
use Rattle.pair_windows.proofs.SharedGroups.{IsShared, AreShared-state_at}

-- elements that give nothing
flat_map-none : {X A : Type 0} (f : X → List A) (xs : List X) → All (λ x. f x ≡ []) xs → flat_map f xs ≡ []
flat_map-none f [] each = refl
flat_map-none f (x ∷ xs) each = ap (λ l. l ++ flat_map f xs) (each zero x (omega arith)) ∙ flat_map-none f xs (λ k d within. each (suc k) d (omega (arith, within)))

-- elements that do not pass
filter-none : {X : Type 0} (p : X → Bool) (xs : List X) → All (λ x. p x ≡ false) xs → filter p xs ≡ []
filter-none p [] each = refl
filter-none p (x ∷ xs) each = rw (each zero x (omega arith)) (filter-none p xs (λ k d within. each (suc k) d (omega (arith, within))))

module _ (script : PairScriptValue) (none : list_any asks_exclusive script.ops ≡ false) where
  partitions_of-shared : (domain : ℕ) (g : PairGroup) → IsShared g → partitions_of domain g ≡ []
  partitions_of-shared domain g shared = rw shared refl

  partitions_in-none : (domain epoch : ℕ) → partitions_in domain (state_at script epoch) ≡ []
  partitions_in-none domain epoch = flat_map-none (partitions_of domain) (state_at script epoch).groups (λ k d within.
      partitions_of-shared domain (get_or (state_at script epoch).groups k d) (AreShared-state_at script epoch none k d within))

  windows_by-none : (domain : ℕ) (entries : List SliceEntry) (from epoch : ℕ) (what : What) → cdp.windows_by script domain entries from epoch what ≡ []
  windows_by-none domain entries from epoch whats.Flush = ap (λ ps. filter cdp.is_used (map (cdp.window_from script domain entries from epoch) ps)) (partitions_in-none domain epoch)
  windows_by-none domain entries from epoch what = refl

  windows_at-none : (domain : ℕ) (entries : List SliceEntry) (from : ℕ) (o : Option SliceEntry) → cdp.windows_at script domain entries from o ≡ []
  windows_at-none domain entries from None = refl
  windows_at-none domain entries from (Some e) = windows_by-none domain entries from e.epoch e.what

  windows_in-none : (domain : ℕ) (entries : List SliceEntry) → cdp.windows_in script domain entries ≡ []
  windows_in-none domain entries =
      let at : ℕ → List CdpWindow = λ from. cdp.windows_at script domain entries from (slice_get entries from) in
      flat_map-none at (range_with_len 0 (length entries)) (λ k d within. let from : ℕ = get_or (range_with_len 0 (length entries)) k d in windows_at-none domain entries from (slice_get entries from))

  -- no side of a group has ways for itself
  pub cdp_windows-none : (j : CdpJournalsValue) → cdp.cdp_windows script j ≡ []
  cdp_windows-none j =
      let domains : List ℕ = range_with_len 0 script.machines.machine.domains in
      let windows : ℕ → List CdpWindow = λ domain. cdp.windows_in script domain (slice_in j.slices domain) in
      flat_map-none windows domains (λ k d within. let domain : ℕ = get_or domains k d in windows_in-none domain (slice_in j.slices domain))

  exclusive_in-none : (epoch : ℕ) → exclusive_in (state_at script epoch) ≡ []
  exclusive_in-none epoch = filter-none is_exclusive (state_at script epoch).groups (AreShared-state_at script epoch none)

  joint_at-none : (domain : ℕ) (j : LevelJournalsValue) (from : ℕ) (o : Option PairOp) → joint.windows_at script domain j from o ≡ []
  joint_at-none domain j from (Some ops.Flush) =
      ap (λ gs. filter (λ (w : JointWindow). nat_lt 0 w.uses) (map (joint.window_from script domain j from) gs)) (exclusive_in-none (epoch_at script from + 1))
  joint_at-none domain j from o = refl

  joint_in-none : (domain : ℕ) (j : LevelJournalsValue) → joint.windows_in script domain j ≡ []
  joint_in-none domain j =
      let at : ℕ → List JointWindow = λ from. joint.windows_at script domain j from (op_at script from) in
      flat_map-none at (range_with_len 0 (length script.ops)) (λ k d within. let from : ℕ = get_or (range_with_len 0 (length script.ops)) k d in joint_at-none domain j from (op_at script from))

  -- no group has ways for itself
  pub joint_windows-none : (j : LevelJournalsValue) → joint.joint_windows script j ≡ []
  joint_windows-none j =
      let domains : List ℕ = range_with_len 0 script.machines.machine.domains in
      let windows : ℕ → List JointWindow = λ domain. joint.windows_in script domain j in
      flat_map-none windows domains (λ k d within. joint_in-none (get_or domains k d) j)
