-- A slice has no more entries than its room, and the tree no more commands than the script has.
use Rattle.std.proofs.Common.{◌≡◌, ℕ, suc, ◌+◌, ◌-◌, ◌<◌, ◌≤◌, Bool, inl, inr, List, [], ◌∷◌, ◌++◌, length, map, filter, take, drop, Option, Some, None, refl, sym, ap, ◌∙◌, subst, arith}
use Rattle.std.specs.Prelude.{◌==◌, IsSome, IsTrue}
use Rattle.std.proofs.lemmas.Bool.{cases_Bool, cases_lt, eqb-false, eqb-true}
use Rattle.std.proofs.lemmas.List.{length-append, length-map, take-append-le, take-append-drop}
use Rattle.std.proofs.lemmas.Option.{slice_get_within}
use Rattle.cache_core.specs.declared.entry.SliceEntry.{SliceEntry}
use Rattle.machine.specs.Slices.{slice_count}
use Rattle.run_law.proofs.laws.CountedOps.{length-quotas}
use Rattle.run_law.proofs.laws.JobLists.{in_slice_append, owed_are}
use Rattle.run_law.proofs.laws.OpQuotas.{owed_by_command-few}
use Rattle.run_law.proofs.laws.Pairs.{both_eqb-true}
use Rattle.run_law.proofs.laws.Positions.{filter-none_at}
use Rattle.run_law.proofs.laws.SoundHistories.{Fits-op_at, IsSound-take}
use Rattle.run_law.proofs.laws.TakenCommands.{fails}
use Rattle.run_law.proofs.laws.FreeTrees.{idle_not_begun}
use Rattle.run_law.specs.Growth.{HasMade, IsKept}
use Rattle.run_law.specs.Jobs.{in_slice, jobs_of}
use Rattle.run_law.specs.Journals.{At, JournalsValue, slice_at}
use Rattle.run_law.specs.Order.{Makes, Pays}
use Rattle.run_law.specs.Owed.{owed_by_command, paid_by}
use Rattle.run_law.specs.Progress.{HasBegun}
use Rattle.run_law.specs.Quotas.{quota, room_of}
use Rattle.run_law.specs.TreeHistory.{TreeEntryValue, tree_after}
use Rattle.run_law.specs.Truth.{is_made_by, is_taken_from}
use Rattle.script_ops.specs.Values.{IsLawful, ScriptValue, op_at}
use Rattle.script_ops.specs.declared.op.Op.{Op}
use Rattle.script_ops.specs.declared.op.Op.TheVariants as ops
use Rattle.step_world.proofs.laws.AccessSteps.{some_can_be}
use Rattle.step_world.proofs.laws.MachineStates.{can_be_is}
use Rattle.step_world.specs.Machine.{MachineValue}
use Rattle.step_world.specs.Moments.{CanBe, IsRunSoFar, progress_in}
use Rattle.tree_law.specs.Sound.{IsSound}
use Rattle.tree_law.proofs.laws.Counts.{NamesDomain-fits}

-- one that a filter keeps is there
pub found : {A : Type 0} (p : A → Bool) (xs : List A) → 0 < length (filter p xs) → (k : ℕ) × (x : A) × At xs k x × IsTrue (p x)
found p [] some = absurd (omega arith)
found p (x ∷ xs) some = elim (cases_Bool (p x)) [
  | inl here ↦ (0, x, refl, here)
  | inr away ↦ (let rest = found p xs (omega (arith, some, (let same : length (filter p (x ∷ xs)) ≡ length (filter p xs) = rw away refl in same))) in (suc rest.0, rest.1, rest.2, rest.3))
]

-- ---- entries of one op

module _ (script : ScriptValue) (s : MachineValue) (lawful : IsLawful script) (so_far : IsRunSoFar script s) where
  -- a history that the tree's can be is the same up to each position that is known
  take-can_be : (all : List TreeEntryValue) → CanBe s s.holder all → (k : ℕ) → k < length all → (k ≤ length s.journals.tree) × (take k all ≡ take k s.journals.tree)
  take-can_be all can k less = elim (can_be_is s s.holder all can) [
    | inl same ↦ (omega (arith, less, ap length same), ap (take k) same)
    | inr more ↦
        let within : k ≤ length s.journals.tree = omega (arith, less, ap length more.2, length-append s.journals.tree (more.0 ∷ [])) in
        (within, ap (take k) more.2 ∙ take-append-le k s.journals.tree (more.0 ∷ []) within)
  ]

  -- what a command of the history owes to a slice is within its quota there
  pub owed-few : (all : List TreeEntryValue) → CanBe s s.holder all → (i k t o : ℕ) (c : Op) → k < length all → op_at script t o ≡ Some c → length (owed_by_command script all i k c) ≤ quota script.machine i c
  owed-few all can i k t o c less is =
      let known = take-can_be all can k less in
      owed_by_command-few script all i k c lawful.in_range (subst (λ hs. IsSound script.machine (tree_after script hs)) (sym known.1) (IsSound-take script s.journals.tree lawful so_far.legal.tree_legal k known.0))
      (NamesDomain-fits script.machine script.tasks c (Fits-op_at script t o c lawful is))

  module _ (all : List TreeEntryValue) (can : CanBe s s.holder all) (i : ℕ) (there : i < slice_count script.machine) where
    -- the journals with the command that holds the tree
    abbrev whole : JournalsValue
    whole = record { tree = all; slices = s.journals.slices }

    kept : IsKept script whole (progress_in s) s.phase
    kept = so_far.kept all can

    abbrev entries : ℕ → ℕ → List SliceEntry
    entries t o = filter (is_made_by t o) (slice_at s.journals i)

    -- an op that has not begun has no entry
    pub none_yet : (t o : ℕ) → (HasBegun (progress_in s t) o → ⊥) → entries t o ≡ []
    none_yet t o fresh = filter-none_at (is_made_by t o) (slice_at s.journals i)
        (λ p e at. fails (is_made_by t o e) (λ mine.
        let is = both_eqb-true e.thread t e.op o mine in
        fresh (subst (λ u. HasBegun (progress_in s u) o) is.0 (subst (λ x. HasBegun (progress_in s e.thread) x) is.1 (kept.of_begun.entries i p e at)))))

    -- what a command that the tree took has made is within its quota
    taken-few : (t o : ℕ) (c : Op) (made : List SliceEntry) → op_at script t o ≡ Some c → length (filter (is_taken_from t o) all) ≡ 1 → Pays script whole i t o c made → length made ≤ quota script.machine i c
    taken-few t o c made is once pays =
        let (k, h, at, mine) = found (is_taken_from t o) all (omega (arith, once)) in
        let paid : map paid_by made ≡ owed_by_command script all i k c = pays k h at mine in
        omega (arith, length-map made paid_by, ap length paid, owed-few all can i k t o c (slice_get_within all k h at) is)

    -- an op that is done has made no more than its quota
    done-few : (t o : ℕ) (c : Op) → op_at script t o ≡ Some c → o < (progress_in s t).next → Makes script whole i t o c (entries t o) → length (entries t o) ≤ quota script.machine i c
    done-few t o (ops.Access task cpu addr) is done makes = omega (arith, makes)
    done-few t o c is done makes = taken-few t o c (entries t o) is (kept.in_order.commands_once t o c is refl (inl done)) makes

    -- the command that holds the tree has made no more than its quota
    under_way-few : (t made : ℕ) (c : Op) → op_at script t (progress_in s t).next ≡ Some c → (progress_in s t).made ≡ Some made → length (entries t (progress_in s t).next) ≤ quota script.machine i c
    under_way-few t made c is holds =
        let n : ℕ = (progress_in s t).next in
        let some : IsSome (progress_in s t).made = subst (λ (o : Option ℕ). IsSome o) (sym holds) refl in
        let k : ℕ = length all - 1 in
        let last : k + 1 ≡ length all = omega (arith, kept.alone.some t some) in
        let has : HasMade script whole i t n k c made = kept.in_order.under_way i t k made c there is holds last in
        let jobs = jobs_of script all k c in
        let parts : in_slice i jobs ≡ in_slice i (take made jobs) ++ in_slice i (drop made jobs) = ap (in_slice i) (sym (take-append-drop made jobs)) ∙ in_slice_append i (take made jobs) (drop made jobs) in
        let count : length (in_slice i jobs) ≡ length (in_slice i (take made jobs)) + length (in_slice i (drop made jobs)) = ap length parts ∙ length-append (in_slice i (take made jobs)) (in_slice i (drop made jobs)) in
        omega (arith, length-map (entries t n) paid_by, ap length has, count, ap length (owed_are script all i k c lawful.in_range.some_slice), owed-few all can i k t n c (omega (arith, last)) is)

    -- so has each op
    pub op-few : (t o : ℕ) (c : Op) → op_at script t o ≡ Some c → length (entries t o) ≤ quota script.machine i c
    op-few t o c is = elim (cases_lt o (progress_in s t).next) [
      | inl done ↦ done-few t o c is done (kept.in_order.entries_once i t o c there is done)
      | inr not_done ↦ elim (cases_Bool (o == (progress_in s t).next)) [
        | inl now ↦ at (progress_in s t).made refl (eqb-true o (progress_in s t).next now)
        | inr later ↦ omega (arith, ap length (none_yet t o (λ has. apart has (omega (arith, not_done, eqb-false o (progress_in s t).next later)))))
      ]
    ]
      where
        apart : HasBegun (progress_in s t) o → (progress_in s t).next < o → ⊥
        apart (inl less) above = omega (arith, less, above)
        apart (inr under) above = omega (arith, under.0, above)

        at : (m : Option ℕ) → (progress_in s t).made ≡ m → o ≡ (progress_in s t).next → length (entries t o) ≤ quota script.machine i c
        at (Some made) holds now = subst (λ x. length (entries t x) ≤ quota script.machine i c) (sym now) (under_way-few t made c (subst (λ x. op_at script t x ≡ Some c) now is) holds)
        at None holds now = omega (arith, ap length (none_yet t o (idle now holds)))
          where
            idle : o ≡ (progress_in s t).next → (progress_in s t).made ≡ None → HasBegun (progress_in s t) o → ⊥
            idle now holds has = idle_not_begun (progress_in s t) o now holds has

  -- a slice has no more entries than its room
  pub entries-few : (i : ℕ) → i < slice_count script.machine → length (slice_at s.journals i) ≤ room_of script i
  unfolding room_of
  entries-few i there =
      let (all, can) = some_can_be s s.holder in
      length-quotas (λ (e : SliceEntry). e.thread) (λ (e : SliceEntry). e.op) script (quota script.machine i) (slice_at s.journals i) (λ p e at. (kept all can i there).in_order.no_others i p e at) (λ t o c is. op-few all can i there t o c is)
