-- The entries of a domain rise in their epochs.
use Rattle.std.proofs.Common.{◌≡◌, ℕ, ◌+◌, ◌<◌, ◌≤◌, ◌==◌, List, length, map, filter, take, get_or, Option, Some, None, inl, inr, refl, sym, subst, ap, ◌∙◌, arith, take-take}
use Rattle.std.specs.List.{All, AllPairs, range_with_len}
use Rattle.std.proofs.lemmas.Bool.{cases_Bool}
use Rattle.std.proofs.lemmas.List.{get_or-map, length-map}
use Rattle.std.proofs.lemmas.List.Elements.{All-nil}
use Rattle.std.proofs.lemmas.List.FromFn.{get_or-range_with_len, length-range_with_len}
use Rattle.cache_core.specs.declared.entry.SliceEntry.{SliceEntry}
use Rattle.lists.proofs.Pairs.{AllPairs-flat_map, AllPairs-one}
use Rattle.lists.proofs.Tests.{All-one}
use Rattle.machine.specs.Maps.{domain_of}
use Rattle.pair_text.specs.Values.{PairScriptValue, epoch_at, is_command, op_at}
use Rattle.pair_text.specs.declared.op.PairOp.{PairOp}
use Rattle.pair_text.specs.declared.op.PairOp.TheVariants as ops
use Rattle.pair_law.proofs.laws.Commands.{length-filter_take}
use Rattle.pair_law.proofs.laws.Playing.{epoch_at-command}
use Rattle.pair_law.specs.CdpRuns.{CdpJournalsValue, IsCdpRun, asked, asked_at, asked_of_op}
use Rattle.pair_law.specs.Entries.{asked_by, slice_in}
use Rattle.pair_windows.specs.Counted.{RiseByEpoch}

-- an entry that is not after another
abbrev NotAfter : SliceEntry → SliceEntry → Type 0
NotAfter a b = a.epoch ≤ b.epoch

-- more ops have at least as many commands
pub epoch_at-rises : (script : PairScriptValue) (i k : ℕ) → i ≤ k → epoch_at script i ≤ epoch_at script k
epoch_at-rises script i k le = let same = take-take i k script.ops le in let few = length-filter_take is_command i (take k script.ops) in subst (λ (l : List PairOp). length (filter is_command l) ≤ epoch_at script k) same few

-- the epochs of an op's entries
pub record IsWithin (low high : ℕ) (e : SliceEntry) : Type 0 where
  pub from_low : low ≤ e.epoch
  pub to_high : e.epoch ≤ high

module _ (script : PairScriptValue) (domain : ℕ) where
  IsWithin-asked : (i : ℕ) (o : Option PairOp) → op_at script i ≡ o → All (IsWithin (epoch_at script i) (epoch_at script (i + 1))) (asked_of_op script domain i o)
  IsWithin-asked i (Some (ops.Use task cpu line code)) is = elim (cases_Bool (domain_of script.machines.machine cpu == domain)) [
    | inl e ↦ rw e (All-one (IsWithin (epoch_at script i) (epoch_at script (i + 1))) _ (record { from_low = omega arith; to_high = epoch_at-rises script i (i + 1) (omega arith) }))
    | inr e ↦ rw e (All-nil (IsWithin (epoch_at script i) (epoch_at script (i + 1))))
  ]
  IsWithin-asked i (Some ops.Flush) is =
      let next = epoch_at-command script i ops.Flush is refl in
      All-one (IsWithin (epoch_at script i) (epoch_at script (i + 1))) _ (record { from_low = omega arith; to_high = omega (arith, next) })
  IsWithin-asked i (Some (ops.Mkdir name)) is = All-nil (IsWithin (epoch_at script i) (epoch_at script (i + 1)))
  IsWithin-asked i (Some (ops.Rmdir name)) is = All-nil (IsWithin (epoch_at script i) (epoch_at script (i + 1)))
  IsWithin-asked i (Some (ops.Write file text)) is = All-nil (IsWithin (epoch_at script i) (epoch_at script (i + 1)))
  IsWithin-asked i (Some (ops.Read file)) is = All-nil (IsWithin (epoch_at script i) (epoch_at script (i + 1)))
  IsWithin-asked i None is = All-nil (IsWithin (epoch_at script i) (epoch_at script (i + 1)))

  -- an op asks for one entry at most
  AllPairs-asked : (i : ℕ) (o : Option PairOp) → AllPairs NotAfter (asked_of_op script domain i o)
  AllPairs-asked i (Some (ops.Use task cpu line code)) = elim (cases_Bool (domain_of script.machines.machine cpu == domain)) [
    | inl e ↦ rw e (AllPairs-one NotAfter _)
    | inr e ↦ rw e (λ a b d lt within. absurd (omega (arith, within)))
  ]
  AllPairs-asked i (Some ops.Flush) = AllPairs-one NotAfter _
  AllPairs-asked i (Some (ops.Mkdir name)) = λ a b d lt within. absurd (omega (arith, within))
  AllPairs-asked i (Some (ops.Rmdir name)) = λ a b d lt within. absurd (omega (arith, within))
  AllPairs-asked i (Some (ops.Write file text)) = λ a b d lt within. absurd (omega (arith, within))
  AllPairs-asked i (Some (ops.Read file)) = λ a b d lt within. absurd (omega (arith, within))
  AllPairs-asked i None = λ a b d lt within. absurd (omega (arith, within))

  -- all that is asked rises
  RiseByEpoch-asked : RiseByEpoch (asked script domain)
  RiseByEpoch-asked =
      AllPairs-flat_map NotAfter (asked_at script domain) (range_with_len 0 (length script.ops))
      (λ k d within. AllPairs-asked (get_or (range_with_len 0 (length script.ops)) k d) (op_at script (get_or (range_with_len 0 (length script.ops)) k d)))
      (λ i k d lt within a b x small less.
      let len = length-range_with_len 0 (length script.ops) in
      let one : get_or (range_with_len 0 (length script.ops)) i d ≡ i = get_or-range_with_len 0 (length script.ops) i d (omega (arith, lt, within, len)) ∙ omega arith in
      let two : get_or (range_with_len 0 (length script.ops)) k d ≡ k = get_or-range_with_len 0 (length script.ops) k d (omega (arith, within, len)) ∙ omega arith in
      across i k d a b x lt one two small less)
    where
      across : (i k d a b : ℕ) (x : SliceEntry) → i < k → get_or (range_with_len 0 (length script.ops)) i d ≡ i → get_or (range_with_len 0 (length script.ops)) k d ≡ k
          → a < length (asked_at script domain (get_or (range_with_len 0 (length script.ops)) i d)) → b < length (asked_at script domain (get_or (range_with_len 0 (length script.ops)) k d))
          → (get_or (asked_at script domain (get_or (range_with_len 0 (length script.ops)) i d)) a x).epoch ≤ (get_or (asked_at script domain (get_or (range_with_len 0 (length script.ops)) k d)) b x).epoch
      across i k d a b x lt one two small less =
          let u : ℕ = get_or (range_with_len 0 (length script.ops)) i d in
          let v : ℕ = get_or (range_with_len 0 (length script.ops)) k d in
          let high = (IsWithin-asked u (op_at script u) refl a x small).to_high in
          let low = (IsWithin-asked v (op_at script v) refl b x less).from_low in
          let between = epoch_at-rises script (u + 1) v (omega (arith, lt, one, two)) in
          omega (arith, high, low, between)

  -- and so do the entries of a run
  pub RiseByEpoch-run : (j : CdpJournalsValue) → IsCdpRun script j → domain < script.machines.machine.domains → RiseByEpoch (slice_in j.slices domain)
  RiseByEpoch-run j run exists = λ i k d lt within.
      let entries : List SliceEntry = slice_in j.slices domain in
      let rise : RiseByEpoch (map asked_by entries) = subst RiseByEpoch (sym (run.entries domain exists)) RiseByEpoch-asked in
      let one = get_or-map asked_by entries i d d (omega (arith, lt, within)) in
      let two = get_or-map asked_by entries k d d within in
      let le = rise i k d lt (subst (λ n. k < n) (sym (length-map entries asked_by)) within) in
      let low : (get_or (map asked_by entries) i d).epoch ≡ (get_or entries i d).epoch = ap (λ (e : SliceEntry). e.epoch) one in
      let high : (get_or (map asked_by entries) k d).epoch ≡ (get_or entries k d).epoch = ap (λ (e : SliceEntry). e.epoch) two in
      omega (arith, le, low, high)
