-- A domain of a run has no more entries than the script has ops.
use Rattle.std.proofs.Common.{◌≡◌, ℕ, ◌<◌, ◌≤◌, List, [], ◌∷◌, length, map, Option, Some, None, inl, inr, ap, arith}
use Rattle.std.specs.Prelude.{◌==◌}
use Rattle.std.specs.List.{flat_map, range_with_len}
use Rattle.std.proofs.lemmas.Bool.{cases_Bool}
use Rattle.std.proofs.lemmas.List.{length-append, length-map}
use Rattle.std.proofs.lemmas.List.FromFn.{length-range_with_len}
use Rattle.cache_core.specs.declared.entry.SliceEntry.{SliceEntry}
use Rattle.machine.specs.Maps.{domain_of}
use Rattle.pair_text.specs.Values.{PairScriptValue, op_at}
use Rattle.pair_text.specs.declared.op.PairOp.{PairOp}
use Rattle.pair_text.specs.declared.op.PairOp.TheVariants as ops
use Rattle.pair_law.specs.CdpRuns.{CdpJournalsValue, IsCdpRun, asked, asked_at, asked_of_op}
use Rattle.pair_law.specs.Entries.{asked_by, slice_in}

length-flat_map : {X Y : Type 0} (f : X → List Y) → ((x : X) → length (f x) ≤ 1) → (xs : List X) → length (flat_map f xs) ≤ length xs
length-flat_map f each [] = omega arith
length-flat_map f each (x ∷ xs) = let here = each x in let rest = length-flat_map f each xs in let both = length-append (f x) (flat_map f xs) in omega (arith, here, rest, both)

module _ (script : PairScriptValue) (domain : ℕ) where
  -- an op asks for one entry at most
  length-asked_of_op : (i : ℕ) (o : Option PairOp) → length (asked_of_op script domain i o) ≤ 1
  length-asked_of_op i (Some (ops.Use task cpu line code)) = elim (cases_Bool (domain_of script.machines.machine cpu == domain)) [
    | inl e ↦ rw e (omega arith)
    | inr e ↦ rw e (omega arith)
  ]
  length-asked_of_op i (Some ops.Flush) = omega arith
  length-asked_of_op i (Some (ops.Mkdir name)) = omega arith
  length-asked_of_op i (Some (ops.Rmdir name)) = omega arith
  length-asked_of_op i (Some (ops.Write file text)) = omega arith
  length-asked_of_op i (Some (ops.Read file)) = omega arith
  length-asked_of_op i None = omega arith

  -- so there are no more entries than ops
  pub length-slice_in : (j : CdpJournalsValue) → IsCdpRun script j → domain < script.machines.machine.domains → length (slice_in j.slices domain) ≤ length script.ops
  length-slice_in j run exists =
      let few = length-flat_map (asked_at script domain) (λ i. length-asked_of_op i (op_at script i)) (range_with_len 0 (length script.ops)) in
      let all = length-range_with_len 0 (length script.ops) in
      let same : length (map asked_by (slice_in j.slices domain)) ≡ length (asked script domain) = ap (λ (l : List SliceEntry). length l) (run.entries domain exists) in
      let mapped = length-map (slice_in j.slices domain) asked_by in
      omega (arith, few, all, same, mapped)
