-- Slices have together no more entries than the script weighs, where the entries of each op stand there just as it makes them.
use Rattle.std.proofs.Common.{◌≡◌, ℕ, zero, suc, ◌+◌, ◌<◌, ◌≤◌, true, List, [], ◌∷◌, ◌++◌, length, map, filter, Some, refl, ap, subst, ◌∙◌, arith}
use Rattle.std.specs.Prelude.{IsTrue, slice_index_or}
use Rattle.std.proofs.lemmas.List.{get_or-append-add, get_or_append_left, length-append, length-map}
use Rattle.std.proofs.lemmas.Option.{slice_get_within}
use Rattle.cache_core.specs.declared.entry.SliceEntry.{SliceEntry}
use Rattle.journal_check.proofs.laws.TakenPlaces.{At-filter_some}
use Rattle.check_parts.specs.CrowdedSlices.{MoreEntriesFail, entries_in}
use Rattle.lists.proofs.Sums.{sum_below-same}
use Rattle.lists.specs.Sums.{sum_below}
use Rattle.machine.specs.Slices.{slice_count}
use Rattle.run_law.proofs.laws.CountedOps.{length-quotas}
use Rattle.run_law.proofs.laws.LightRooms.{all_rooms-light}
use Rattle.run_law.proofs.laws.OpQuotas.{owed_by_command-few}
use Rattle.run_law.proofs.laws.SoundHistories.{Fits-op_at, IsSound-take}
use Rattle.run_law.specs.Clauses.{CommandsStandOnce, EntriesStandOnce, TreeIsLegal}
use Rattle.run_law.specs.Journals.{At, JournalsValue, slice_at}
use Rattle.run_law.specs.Ops.{is_command}
use Rattle.run_law.specs.Order.{Makes}
use Rattle.run_law.specs.Owed.{owed_by_command, paid_by}
use Rattle.run_law.specs.Quotas.{quota, room_of}
use Rattle.run_law.specs.TreeHistory.{TreeEntryValue}
use Rattle.run_law.specs.Truth.{is_made_by, is_taken_from}
use Rattle.script_ops.specs.Values.{IsLawful, ScriptValue, op_at}
use Rattle.script_ops.specs.declared.op.Op.{Op}
use Rattle.script_ops.specs.declared.op.Op.TheVariants as ops
use Rattle.tree_law.proofs.laws.Counts.{NamesDomain-fits}

-- one slice more
pub entries_in-push : (slices : List (List SliceEntry)) (es : List SliceEntry) → entries_in (slices ++ es ∷ []) ≡ entries_in slices + length es
entries_in-push slices es =
    let len : length (slices ++ es ∷ []) ≡ suc (length slices) = omega (arith, length-append slices (es ∷ [])) in
    let last : slice_index_or (slices ++ es ∷ []) (length slices) [] ≡ es = (let at = get_or-append-add slices (es ∷ []) 0 [] in let zero_more : length slices + 0 ≡ length slices = omega arith in subst (λ (n : ℕ). slice_index_or (slices ++ es ∷ []) n [] ≡ es) zero_more at) in
    ap (λ (n : ℕ). sum_below n (λ i. length (slice_index_or (slices ++ es ∷ []) i []))) len
    ∙ ap (λ (n : ℕ). n + length (slice_index_or (slices ++ es ∷ []) (length slices) []))
    (sum_below-same (length slices) (λ i. length (slice_index_or (slices ++ es ∷ []) i [])) (λ i. length (slice_index_or slices i [])) (λ i below. ap (λ (xs : List SliceEntry). length xs) (get_or_append_left slices (es ∷ []) [] i below)))
    ∙ ap (λ (xs : List SliceEntry). entries_in slices + length xs) last

module _ (script : ScriptValue) (j : JournalsValue) (lawful : IsLawful script) (once : CommandsStandOnce script j) (legal : TreeIsLegal script j) (made : EntriesStandOnce script j) where
  module _ (i : ℕ) (exists : i < slice_count script.machine) where
    -- an op makes no more entries in a slice than its quota
    made-few : (t o : ℕ) (c : Op) → op_at script t o ≡ Some c → length (filter (is_made_by t o) (slice_at j i)) ≤ quota script.machine i c
    made-few t o c is = by_kind c is (made.each i t o c exists is)
      where
        its : List SliceEntry
        its = filter (is_made_by t o) (slice_at j i)

        owed : (c : Op) → op_at script t o ≡ Some c → (k : ℕ) (h : TreeEntryValue) → At j.tree k h → length (owed_by_command script j.tree i k c) ≤ quota script.machine i c
        owed c is k h there =
            let within = slice_get_within j.tree k h there in
            owed_by_command-few script j.tree i k c lawful.in_range (IsSound-take script j.tree lawful legal k (omega (arith, within)))
            (NamesDomain-fits script.machine script.tasks c (Fits-op_at script t o c lawful is))

        paid : (c : Op) → op_at script t o ≡ Some c → is_command c ≡ true → ((k : ℕ) (h : TreeEntryValue) → At j.tree k h → IsTrue (is_taken_from t o h) → map paid_by its ≡ owed_by_command script j.tree i k c) → length its ≤ quota script.machine i c
        paid c is command pays =
            let one = At-filter_some (is_taken_from t o) j.tree (omega (arith, once t o c is command)) in
            let few = owed c is one.0 one.1 one.2 in
            let same = ap length (pays one.0 one.1 one.2 one.3) in
            omega (arith, few, same, length-map its paid_by)

        by_kind : (c : Op) → op_at script t o ≡ Some c → Makes script j i t o c its → length its ≤ quota script.machine i c
        by_kind (ops.Access task cpu addr) is makes = omega (arith, makes)
        by_kind op is makes = paid op is refl makes

    -- so its list is no longer than its room
    length-room : length (slice_at j i) ≤ room_of script i
    unfolding room_of
    length-room = length-quotas (λ (e : SliceEntry). e.thread) (λ (e : SliceEntry). e.op) script (quota script.machine i) (slice_at j i) (λ k e at. made.no_others i k e at) made-few

  -- the lists of the first slices together
  sum-rooms : (n : ℕ) → n ≤ slice_count script.machine → sum_below n (λ i. length (slice_at j i)) ≤ sum_below n (room_of script)
  sum-rooms zero few = omega arith
  sum-rooms (suc n) few = (let rest = sum-rooms n (omega (arith, few)) in let one = length-room n (omega (arith, few)) in omega (arith, rest, one))

-- with more entries than the script weighs
pub MoreEntriesFail-all : MoreEntriesFail
MoreEntriesFail-all script j lawful all more once legal made =
    let sum = sum-rooms script j lawful once legal made (slice_count script.machine) (omega arith) in
    let same : entries_in j.slices ≡ sum_below (slice_count script.machine) (λ i. length (slice_at j i)) = ap (λ (n : ℕ). sum_below n (λ i. length (slice_at j i))) all in
    absurd (omega (arith, sum, same, more, all_rooms-light script))
