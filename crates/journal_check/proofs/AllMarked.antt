-- Each access of a script has a mark where each is at home, and only there.
use Rattle.std.proofs.Common.{◌≡◌, ℕ, ◌+◌, ◌<◌, ◌==◌, true, false, inl, inr, List, length, Some, refl, sym, ap, ◌∙◌, arith}
use Rattle.std.specs.Prelude.{option_and_then}
use Rattle.std.proofs.lemmas.Bool.{cases_Bool, cases_lt, eq-eqb, eqb-true}
use Rattle.journal_check.proofs.laws.TakenPlaces.{At-filter_some}
use Rattle.journal_check.proofs.laws.Told.{IsSome-some, number_at-op}
use Rattle.journal_check.specs.Homes.{AllMarked, AreAtHome, AreMarked, count_in, home_at, home_of}
use Rattle.journal_check.specs.Tables.{IsTableOf, number_at}
use Rattle.journal_check.proofs.FittingOps.{Fits-op}
use Rattle.journal_check.proofs.AccessHomes.{home-count, home-command, access-home, home-there}
use Rattle.journal_check.proofs.HomeMarks.{one_if-apart, home_at-op, home_at-made, count-home}
use Rattle.lists.proofs.Sums.{sum_below-greater, sum_below-zero}
use Rattle.lists.specs.Sums.{one_if, sum_below}
use Rattle.machine.specs.Slices.{slice_count}
use Rattle.run_law.specs.Journals.{JournalsValue, slice_at}
use Rattle.run_law.specs.Ops.{is_command}
use Rattle.run_law.specs.Truth.{is_made_by}
use Rattle.script_ops.specs.Values.{IsLawful, ScriptValue, op_at}

-- a sum of which one number is not zero
sum_below-one : (n k : ℕ) (f : ℕ → ℕ) → k < n → ((i : ℕ) → i < n → (i ≡ k → ⊥) → f i ≡ 0) → sum_below n f ≡ f k
sum_below-one n k f within none =
    let more : sum_below n f ≡ sum_below n (λ _. 0) + f k = sum_below-greater n k (f k) (λ _. 0) f within none (omega arith) in
    let zeros : sum_below n (λ _. 0) ≡ 0 = sum_below-zero n (λ _. 0) (λ i h. refl) in
    omega (arith, more, zeros)

-- a number is one of itself
one_if-own : (k : ℕ) → one_if (k == k) ≡ 1
one_if-own k = rw (eq-eqb k k refl) refl

module _ (script : ScriptValue) (j : JournalsValue) (lawful : IsLawful script) (whole : length j.slices ≡ slice_count script.machine) (table : List (List ℕ)) (table_of : IsTableOf script table) (i : ℕ) (end : i ≡ length j.slices) (marked : AreMarked script j i 0 table) where
  -- the number of an access is how often it stands in its home, where it stands nowhere else
  number-home : (t o home m : ℕ) → home_at script t o ≡ Some home → number_at table t o ≡ Some m → ((a : ℕ) → a < length j.slices → (a ≡ home → ⊥) → count_in j t o a ≡ 0) → m ≡ count_in j t o home
  number-home t o home m is number none =
      let op = home_at-op script j t o home is in
      let there = home-there script home op.0 lawful (Fits-op script t o op.0 lawful op.1) op.2 in
      let before = marked.counts t o home m is number in
      let sum = sum_below-one i home (count_in j t o) (omega (arith, there, whole, end)) (λ a less apart. none a (omega (arith, less, end)) apart) in
      omega (arith, before, sum)

  -- it stands nowhere else
  none-elsewhere : (t o home a : ℕ) → home_at script t o ≡ Some home → a < length j.slices → (a ≡ home → ⊥) → count_in j t o a ≡ 0
  none-elsewhere t o home a is within apart = elim (cases_lt 0 (count_in j t o a)) [
    | inl some ↦
        let it = At-filter_some (is_made_by t o) (slice_at j a) some in
        absurd (apart (marked.homes a it.0 home it.1 (inl (omega (arith, within, end))) it.2 (home_at-made script j t o it.1 it.3 ∙ is)))
    | inr none ↦ omega arith
  ]

  -- where each has a mark, each is at home
  pub AllMarked-home : AllMarked script table → AreAtHome script j
  AllMarked-home all a within t o c is = elim (cases_Bool (is_command c)) [
    | inl command ↦ home-command script.machine a (count_in j t o a) c command
    | inr access ↦
        let its = access-home script.machine c access in
        let home = its.0 in
        let at : home_at script t o ≡ Some home = ap (option_and_then (home_of script.machine)) is ∙ its.1 in
        let number = number_at-op script table t o table_of (IsSome-some (op_at script t o) c is) in
        let one = all t o number.0 c is access number.1 in
        let own = number-home t o home number.0 at number.1 (λ b less apart. none-elsewhere t o home b at less apart) in
        (home-count script.machine a (count_in j t o a) home c its.1).1 (elim (cases_Bool (a == home)) [
          | inl here ↦ ap (count_in j t o) (eqb-true a home here) ∙ (sym own ∙ (one ∙ (rw here refl)))
          | inr other ↦
              let apart : a ≡ home → ⊥ = λ same. (let wrong : true ≡ false = sym (eq-eqb a home same) ∙ other in cc) in
              none-elsewhere t o home a at within apart ∙ (rw other refl)
        ])
  ]

  -- and the other way round
  pub home-AllMarked : AreAtHome script j → AllMarked script table
  home-AllMarked all t o n c is access number =
      let its = access-home script.machine c access in
      let home = its.0 in
      let at : home_at script t o ≡ Some home = ap (option_and_then (home_of script.machine)) is ∙ its.1 in
      let there = home-there script home c lawful (Fits-op script t o c lawful is) its.1 in
      let own = number-home t o home n at number (λ a less apart. count-home script j all t o home a at less ∙ one_if-apart a home apart) in
      own ∙ (count-home script j all t o home home at (omega (arith, there, whole)) ∙ one_if-own home)
