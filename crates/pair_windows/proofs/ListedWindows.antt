-- The windows that are listed are windows of the run, and their sides are isolated in them.
use Rattle.std.proofs.Common.{◌≡◌, ℕ, ◌+◌, ◌-◌, ◌<◌, ◌≤◌, true, false, not, ◌&&◌, eqb, List, [], ◌∷◌, length, filter, find, drop, get_or, Option, Some, None, IfSome, ◌⊎◌, inl, inr, refl, ap, ◌∙◌, arith}
use Rattle.std.specs.Prelude.{nat_lt, IsSomeAnd}
use Rattle.std.specs.List.{All, AllPairs, position_or_len, slice_get}
use Rattle.std.specs.Option.{option_map_or}
use Rattle.std.proofs.lemmas.Bool.{and_parts, cases_Bool, eq-eqb, eqb-true, ltb-false, ltb-true, not-true, or_parts}
use Rattle.std.proofs.lemmas.List.{length-drop}
use Rattle.std.proofs.lemmas.List.Elements.{All-map}
use Rattle.std.proofs.lemmas.Option.{slice_get_within}
use Rattle.cache_core.specs.Filled.{empties}
use Rattle.cache_core.specs.declared.entry.SliceEntry.{SliceEntry}
use Rattle.cache_core.specs.declared.entry.What.TheVariants.{Flush}
use Rattle.cbm.specs.Masks.{overlaps}
use Rattle.group_tree.specs.Records.{is_mode}
use Rattle.lists.proofs.Pairs.{All-flat_map}
use Rattle.lists.proofs.Tests.{All-kept}
use Rattle.pair_law.specs.Epochs.{state_at}
use Rattle.pair_law.specs.State.{PairState, group_of, has_gid, mask_in}
use Rattle.pair_text.specs.Values.{PairScriptValue, commands_of}
use Rattle.pair_text.specs.declared.group.PairGroup.{PairGroup}
use Rattle.pair_text.specs.declared.side.Side.{Side}
use Rattle.pair_text.specs.declared.side.Side.TheVariants.{First, Second}
use Rattle.pair_law.proofs.laws.CdpEntries.{IsCdpRun-given}
use Rattle.pair_law.specs.CdpRuns.{CdpJournalsValue, IsCdpRun}
use Rattle.pair_law.specs.CdpWindows.{IsAlone, IsCdpWindow, StaysAlone, other_side}
use Rattle.pair_law.specs.Entries.{slice_in}
use Rattle.pair_windows.proofs.FoundGroups.{find-rising, is_mode-exclusive}
use Rattle.pair_windows.specs.CdpWindows.{ends_window}
use Rattle.pair_windows.specs.Partitions.{has_partition, is_alone_on, is_kept, is_kept_at, last_epoch, partition_of, partitions_in, partitions_of}
use Rattle.pair_windows.specs.declared.partition.Partition.{Partition}
use Rattle.rc_base.specs.declared.names.Mode.TheVariants.{Exclusive}
use Rattle.private_lru.proofs.laws.LastEpochs.{IsSpan-as, IsSpan-last_within}
use Rattle.run_law.specs.Journals.{At}
use Rattle.private_lru.proofs.laws.FirstPlaces.{position_or_len-at, position_or_len-before, position_or_len-le, slice_get-drop}

-- ---- the condition of a window, as a test and as a fact

module _ (domain : ℕ) (p : Partition) (s : PairState) where
  -- a partition that is kept is alone
  pub IsAlone-kept : is_kept domain p s ≡ true → IsAlone domain p.gid p.side p.mask s
  IsAlone-kept is = of (group_of s p.gid) is
    where
      of : (o : Option PairGroup) → option_map_or (is_alone_on domain p.side p.mask) o false ≡ true
          → IsSomeAnd o (λ g. (g.mode ≡ Exclusive) × (mask_in p.side domain g ≡ p.mask) × (overlaps p.mask (mask_in (other_side p.side) domain g) ≡ false))
      of None e = absurd (let f : false ≡ true = e in cc)
      of (Some g) e =
          let first = and_parts (is_mode Exclusive g.mode && eqb (mask_in p.side domain g) p.mask) (not (overlaps p.mask (mask_in (other_side p.side) domain g))) e in
          let second = and_parts (is_mode Exclusive g.mode) (eqb (mask_in p.side domain g) p.mask) first.0 in
          (is_mode-exclusive g.mode second.0, eqb-true (mask_in p.side domain g) p.mask second.1, not-true (overlaps p.mask (mask_in (other_side p.side) domain g)) first.1)

  -- one that is alone is kept
  pub is_kept-alone : IsAlone domain p.gid p.side p.mask s → is_kept domain p s ≡ true
  is_kept-alone alone = of (group_of s p.gid) alone
    where
      of : (o : Option PairGroup) → IsSomeAnd o (λ g. (g.mode ≡ Exclusive) × (mask_in p.side domain g ≡ p.mask) × (overlaps p.mask (mask_in (other_side p.side) domain g) ≡ false))
          → option_map_or (is_alone_on domain p.side p.mask) o false ≡ true
      of None h = absurd h
      of (Some g) h =
          let mode : is_mode Exclusive g.mode ≡ true = ap (is_mode Exclusive) h.0 in
          let mask : eqb (mask_in p.side domain g) p.mask ≡ true = eq-eqb (mask_in p.side domain g) p.mask h.1 in
          rw (mode, mask, h.2) refl

-- ---- the partitions of a state are kept in it

pub is_kept-partitions : (domain : ℕ) (s : PairState) → AllPairs (λ (a b : PairGroup). a.gid.0 < b.gid.0) s.groups → All (λ (p : Partition). is_kept domain p s ≡ true) (partitions_in domain s)
is_kept-partitions domain s rise = All-flat_map (λ (p : Partition). is_kept domain p s ≡ true) (partitions_of domain) s.groups (λ k d within.
    let g : PairGroup = get_or s.groups k d in
    let found : find (has_gid g.gid) s.groups ≡ Some g = find-rising s.groups rise k d within in
    All-map (λ (p : Partition). is_kept domain p s ≡ true) (partition_of domain g) (filter (has_partition domain g) (First ∷ Second ∷ []))
    (All-kept (λ (side : Side). is_kept domain (partition_of domain g side) s ≡ true) (has_partition domain g) (First ∷ Second ∷ [])
    (λ i e less has. ap (λ (o : Option PairGroup). option_map_or (is_alone_on domain (get_or (First ∷ Second ∷ []) i e) (mask_in (get_or (First ∷ Second ∷ []) i e) domain g)) o false) found ∙ has)))

-- ---- how long

-- it is alone up to the last epoch
StaysAlone-last : (script : PairScriptValue) (domain first : ℕ) (p : Partition) → first ≤ length (commands_of script) → is_kept domain p (state_at script first) ≡ true
    → StaysAlone script domain p.gid p.side p.mask first (last_epoch script domain p first)
StaysAlone-last script domain first p known kept =
    IsSpan-as (λ epoch. is_kept_at script domain p epoch ≡ true) (λ epoch. IsAlone domain p.gid p.side p.mask (state_at script epoch)) first (length (commands_of script)) (last_epoch script domain p first)
    (λ epoch is. IsAlone-kept domain p (state_at script epoch) is) (λ epoch alone. is_kept-alone domain p (state_at script epoch) alone)
    (IsSpan-last_within (is_kept_at script domain p) first (length (commands_of script)) known kept)

-- ---- windows

module _ (script : PairScriptValue) (j : CdpJournalsValue) (domain from : ℕ) (opening : SliceEntry) (p : Partition) where
  abbrev entries : List SliceEntry
  entries = slice_in j.slices domain

  abbrev rest : List SliceEntry
  rest = drop (from + 1) entries

  abbrev last : ℕ
  last = last_epoch script domain p opening.epoch

  -- where the window ends
  abbrev pub window_to : ℕ
  window_to = from + 1 + position_or_len (ends_window last) rest

  pub IsCdpWindow-listed : IsCdpRun script j → domain < script.machines.machine.domains → At entries from opening → opening.what ≡ Flush → is_kept domain p (state_at script opening.epoch) ≡ true
      → IsCdpWindow script j domain from window_to opening p.gid p.side p.mask last
  IsCdpWindow-listed run exists opens flush kept =
      let inside : from < length entries = slice_get_within entries from opening opens in
      let le : position_or_len (ends_window last) rest ≤ length rest = position_or_len-le (ends_window last) rest in
      record {
        domain_exists = exists;
        opens = opens;
        flush = flush;
        alone = StaysAlone-last script domain opening.epoch p (IsCdpRun-given script domain j from opening run exists opens).known kept;
        after_opening = omega arith;
        within = omega (arith, inside, le, length-drop (from + 1) entries);
        goes_over = λ q e at late early.
            let place : (from + 1) + (q - (from + 1)) ≡ q = omega (arith, late) in
            let goes = position_or_len-before (ends_window last) rest (q - (from + 1)) e (slice_get-drop (from + 1) (q - (from + 1)) entries ∙ ap (slice_get entries) place ∙ at) (omega (arith, late, early)) in
            let parts = or_parts (empties e.what) (nat_lt last e.epoch) goes in
            (parts.0, ltb-false last e.epoch parts.1);
        ends = of (slice_get entries window_to) (slice_get-drop (from + 1) (position_or_len (ends_window last) rest) entries);
      }
    where
      of : (o : Option SliceEntry) → slice_get rest (position_or_len (ends_window last) rest) ≡ o → IfSome o (λ e. (empties e.what ≡ true) ⊎ (last < e.epoch))
      of None none = tt
      of (Some e) some = (let is = position_or_len-at (ends_window last) rest e some in
          elim (cases_Bool (empties e.what)) [
            | inl empty ↦ inl empty
            | inr full ↦ inr (ltb-true last e.epoch (rw full at is))
          ])
