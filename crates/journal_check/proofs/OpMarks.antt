-- The marks of ops, by the table of when they began.
use Rattle.std.proofs.Common.{◌≡◌, ℕ, ◌+◌, ◌≤◌, ◌↔◌, ◌==◌, inl, inr, false, List, length, filter, get_or, Some, refl, sym, ap, ◌∙◌, subst, arith}
use Rattle.std.specs.Prelude.{All, IsTrue}
use Rattle.std.proofs.Math.Nat.{add-zero}
use Rattle.std.proofs.lemmas.Bool.{cases_Bool, eq-eqb}
use Rattle.std.proofs.lemmas.Option.{slice_get-get_or, slice_get_within}
use Rattle.cache_core.specs.declared.entry.SliceEntry.{SliceEntry}
use Rattle.journal_check.proofs.laws.TakenPlaces.{At-filter_some}
use Rattle.journal_check.proofs.laws.Told.{op_at-number, some-IsSome}
use Rattle.journal_check.specs.Begun.{AreBegun, IsSeen}
use Rattle.journal_check.specs.Tables.{AreTakenOnce, IsTableOf, number_at, row_of}
use Rattle.run_law.specs.Clauses.{AccessesAreTrue, EntriesStandOnce, OthersAreTrue}
use Rattle.journal_check.specs.Marks.{AreStarts, stop_of}
use Rattle.journal_check.proofs.BegunOps.{home_of, made-access, slice-there, home-there}
use Rattle.journal_check.proofs.FittingOps.{Fits-op}
use Rattle.lists.specs.Sums.{one_if}
use Rattle.machine.specs.Slices.{slice_count}
use Rattle.run_law.proofs.laws.Pairs.{both_eqb-true}
use Rattle.run_law.specs.Journals.{At, JournalsValue, slice_at}
use Rattle.run_law.specs.Ops.{is_command}
use Rattle.run_law.specs.Order.{HasMarks, IsMadeAt, IsTakenAt}
use Rattle.run_law.specs.Truth.{IsTrueAccess, IsTrueCommand, is_made_by, is_of_access, is_taken_from}
use Rattle.script_ops.specs.Values.{IsLawful, ScriptValue, op_at}
use Rattle.script_ops.specs.declared.op.Op.{Op}
use Rattle.script_ops.specs.declared.op.Op.TheVariants as ops

-- of a command
marks-taken : (j : JournalsValue) (t o : ℕ) (c : Op) (start stop : ℕ) → IsTrue (is_command c) → HasMarks j t o c start stop ↔ IsTakenAt j t o start stop
marks-taken j t o (ops.Access task cpu addr) start stop command = absurd cc
marks-taken j t o c start stop command = ((λ x. x), (λ x. x))

-- of an access
marks-made : (j : JournalsValue) (t o : ℕ) (c : Op) (start stop : ℕ) → is_command c ≡ false → HasMarks j t o c start stop ↔ IsMadeAt j t o start stop
marks-made j t o (ops.Access task cpu addr) start stop kind = ((λ x. x), (λ x. x))
marks-made j t o c start stop kind = absurd cc

module _ (script : ScriptValue) (j : JournalsValue) (lawful : IsLawful script) (all : length j.slices ≡ slice_count script.machine) (once : AreTakenOnce script j.tree) (made : EntriesStandOnce script j) (table : List (List ℕ)) (i : ℕ) (whole : length j.slices ≤ i)
    (table_of : IsTableOf script table) (begun : AreBegun script j (length j.tree) i 0 table) where
  -- an entry of any slice was seen
  all-seen : (a p : ℕ) (x : SliceEntry) → At (slice_at j a) p x → IsSeen i 0 a p
  all-seen a p x at = inl (let within = slice-there script j all made a p x at in omega arith)

  -- when a command began
  command-start : (t o n : ℕ) (c : Op) → op_at script t o ≡ Some c → IsTrue (is_command c) → number_at table t o ≡ Some n → IsTakenAt j t o n (stop_of c n)
  command-start t o n c is command number =
      let it = At-filter_some (is_taken_from t o) j.tree (let one = once t o c is command in omega arith) in
      let place : n ≡ it.0 = begun.taken t o it.0 n it.1 (slice_get_within j.tree it.0 it.1 it.2) it.2 it.3 number in
      (it.1, subst (λ k. At j.tree k it.1) (sym place) it.2, it.3, ap (λ b. n + one_if b) command)

  -- when an access began
  access-start : (t o n : ℕ) (c : Op) → op_at script t o ≡ Some c → is_command c ≡ false → number_at table t o ≡ Some n → IsMadeAt j t o n (stop_of c n)
  access-start t o n c is kind number =
      let home = home_of script c in
      let there = home-there script c lawful (Fits-op script t o c lawful is) kind in
      let count = made-access script j home t o c (filter (is_made_by t o) (slice_at j home)) kind (made.each home t o c there is) in
      let own : one_if (home == home) ≡ 1 = rw (eq-eqb home home refl) refl in
      let it = At-filter_some (is_made_by t o) (slice_at j home) (omega arith) in
      let epoch : n ≡ it.1.epoch = begun.made t o home it.0 n it.1 c (all-seen home it.0 it.1 it.2) it.2 it.3 is kind number in
      let stop : stop_of c n ≡ n = ap (λ b. n + one_if b) kind ∙ add-zero n in
      (home, it.0, it.1, it.2, it.3, sym epoch, stop)

  -- the table says when each op began
  pub AreStarts-begun : AreStarts script j table
  AreStarts-begun = record {
    table_of = table_of;
    has = λ t o n c is number. elim (cases_Bool (is_command c)) [
      | inl command ↦ (marks-taken j t o c n (stop_of c n) command).1 (command-start t o n c is command number)
      | inr kind ↦ (marks-made j t o c n (stop_of c n) kind).1 (access-start t o n c is kind number)
    ];
    only = λ t o n start stop c is number marks. elim (cases_Bool (is_command c)) [
      | inl command ↦
          let it = (marks-taken j t o c start stop command).0 marks in
          let place : n ≡ start = begun.taken t o start n it.0 (slice_get_within j.tree start it.0 it.1) it.1 it.2 number in
          (sym place, it.3 ∙ (ap (λ k. k + 1) (sym place) ∙ sym (ap (λ b. n + one_if b) command)))
      | inr kind ↦
          let it = (marks-made j t o c start stop kind).0 marks in
          let epoch : n ≡ it.2.epoch = begun.made t o it.0 it.1 n it.2 c (all-seen it.0 it.1 it.2 it.3) it.3 it.4 is kind number in
          let place : start ≡ n = sym it.5 ∙ sym epoch in
          (place, it.6 ∙ (place ∙ sym (ap (λ b. n + one_if b) kind ∙ add-zero n)))
    ];
  }

-- ---- how late an op may begin

-- an entry of an access is an access with an epoch that the tree had
epoch-access : (script : ScriptValue) (j : JournalsValue) (a p : ℕ) (e : SliceEntry) (c : Op) → AccessesAreTrue script j → OthersAreTrue script j → At (slice_at j a) p e → op_at script e.thread e.op ≡ Some c → is_command c ≡ false → e.epoch ≤ length j.tree
epoch-access script j a p e c accesses others at is kind = elim (cases_Bool (is_of_access c e.what)) [
  | inl own ↦ told c kind (accesses a p e c at is own)
  | inr other ↦ absurd (never c kind (others a p e c at is other))
]
  where
    told : (d : Op) → is_command d ≡ false → IsTrueAccess script j.tree e d → e.epoch ≤ length j.tree
    told (ops.Access task cpu addr) k h = h.0
    told d k h = absurd cc

    never : (d : Op) → is_command d ≡ false → IsTrueCommand script j.tree a e d → ⊥
    never (ops.Access task cpu addr) k h = h
    never d k h = absurd cc

-- each start is at most the number of the commands
pub few-starts : (script : ScriptValue) (j : JournalsValue) (table : List (List ℕ)) → AccessesAreTrue script j → OthersAreTrue script j → AreStarts script j table → (t o n : ℕ) → number_at table t o ≡ Some n → n ≤ length j.tree
few-starts script j table accesses others starts t o n number =
    let it = some-IsSome (op_at script t o) (op_at-number script table t o n starts.table_of number) in
    let marks = starts.has t o n it.0 it.1 number in
    elim (cases_Bool (is_command it.0)) [
      | inl command ↦ (let at = (marks-taken j t o it.0 n (stop_of it.0 n) command).0 marks in let within = slice_get_within j.tree n at.0 at.1 in omega arith)
      | inr kind ↦
          let at = (marks-made j t o it.0 n (stop_of it.0 n) kind).0 marks in
          let names = both_eqb-true at.2.thread t at.2.op o at.4 in
          let is : op_at script at.2.thread at.2.op ≡ Some it.0 = subst (λ u. op_at script u at.2.op ≡ Some it.0) (sym names.0) (subst (λ p. op_at script t p ≡ Some it.0) (sym names.1) it.1) in
          let early = epoch-access script j at.0 at.1 at.2 it.0 accesses others at.3 is kind in
          let epoch = at.5 in
          omega arith
    ]

-- and so few
pub few-rows : (table : List (List ℕ)) (most : ℕ) → ((t o n : ℕ) → number_at table t o ≡ Some n → n ≤ most) → (t : ℕ) → All (λ n. n ≤ most) (row_of table t)
few-rows table most each t = λ k d within. each t k (get_or (row_of table t) k d) (slice_get-get_or (row_of table t) k d within)
