-- Clauses that hold of slices exactly where they hold of each.
use Rattle.std.proofs.Common.{◌≡◌, ◌⊎◌, ℕ, ◌<◌, true, false, inl, inr, List, [], Option, Some, None, refl, sym, subst, arith}
use Rattle.std.specs.Prelude.{IsSome, IsTrue}
use Rattle.std.proofs.lemmas.Bool.{cases_lt, le-ltb, lt-ltb}
use Rattle.cache_core.specs.History.{IsLegal}
use Rattle.cache_core.specs.declared.entry.SliceEntry.{SliceEntry}
use Rattle.check_parts.specs.JudgedSlices.{AreParts, IsFound, earlier_of, entries_at, journals_of}
use Rattle.journal_check.specs.Verdicts.{HoldBefore, Holds, rank}
use Rattle.journal_check.specs.declared.verdict.Clause.{Clause}
use Rattle.journal_check.specs.declared.verdict.Clause.TheVariants as clauses
use Rattle.machine.specs.Slices.{slice_count}
use Rattle.run_law.specs.Journals.{At}
use Rattle.run_law.specs.Slices.{shape_in}
use Rattle.run_law.specs.TreeHistory.{TreeEntryValue}
use Rattle.run_law.specs.Truth.{IsTrueAccess, IsTrueCommand, is_made_by, is_of_access}
use Rattle.script_ops.specs.Values.{ScriptValue, op_at}
use Rattle.script_ops.specs.declared.op.Op.{Op}

-- nothing stands in an empty list
nothing-at : (p : ℕ) (e : SliceEntry) → At [] p e → ⊥
nothing-at p e there = (let none : None ≡ Some e = there in cc)

-- what holds of all slices and of none holds of parts
part-holds : (P : List SliceEntry → Type 0) → P [] → (all one two : List SliceEntry) → ((one ≡ all) × (two ≡ [])) ⊎ ((one ≡ []) × (two ≡ all)) → P all → P one × P two
part-holds P nothing all one two (inl here) p = (subst P (sym here.0) p, subst P (sym here.1) nothing)
part-holds P nothing all one two (inr there) p = (subst P (sym there.0) nothing, subst P (sym there.1) p)

-- what holds of both parts holds of all
parts-hold : (P : List SliceEntry → Type 0) → (all one two : List SliceEntry) → ((one ≡ all) × (two ≡ [])) ⊎ ((one ≡ []) × (two ≡ all)) → P one → P two → P all
parts-hold P all one two (inl here) p q = subst P here.0 p
parts-hold P all one two (inr there) p q = subst P there.1 q

module _ (script : ScriptValue) (tree : List TreeEntryValue) where
  -- ---- what is asked of one slice

  abbrev LegalIn : ℕ → List SliceEntry → Type 0
  LegalIn i es = i < slice_count script.machine → IsLegal (shape_in script.machine i) es

  abbrev AccessesIn : ℕ → List SliceEntry → Type 0
  AccessesIn i es = (p : ℕ) (e : SliceEntry) (op : Op) → At es p e → op_at script e.thread e.op ≡ Some op → is_of_access op e.what ≡ true → IsTrueAccess script tree e op

  abbrev OthersIn : ℕ → List SliceEntry → Type 0
  OthersIn i es = (p : ℕ) (e : SliceEntry) (op : Op) → At es p e → op_at script e.thread e.op ≡ Some op → is_of_access op e.what ≡ false → IsTrueCommand script tree i e op

  abbrev AfterIn : ℕ → List SliceEntry → Type 0
  AfterIn i es =
      (p q k : ℕ) (e earlier : SliceEntry) (command : TreeEntryValue)
      → At es p e → At es q earlier → At tree k command → IsSome (op_at script e.thread e.op)
      → IsTrue (is_made_by command.thread command.op earlier) → k < e.epoch → (IsTrue (is_made_by command.thread command.op e) → ⊥)
      → q < p

  legal-nothing : (i : ℕ) → LegalIn i []
  legal-nothing i below = tt

  accesses-nothing : (i : ℕ) → AccessesIn i []
  accesses-nothing i p e op there = absurd (nothing-at p e there)

  others-nothing : (i : ℕ) → OthersIn i []
  others-nothing i p e op there = absurd (nothing-at p e there)

  after-nothing : (i : ℕ) → AfterIn i []
  after-nothing i p q k e earlier command there = absurd (nothing-at p e there)

  module _ (all one two : List (List SliceEntry)) (parts : AreParts all one two) where
    -- a clause before that of the looks holds of parts
    Holds-parts : (c : Clause) → rank c < rank clauses.LooksAreMatched → Holds script (journals_of tree all) c → Holds script (journals_of tree one) c × Holds script (journals_of tree two) c
    Holds-parts clauses.CommandsStandOnce early holds = (holds, holds)
    Holds-parts clauses.TreeIsLegal early holds = (holds, holds)
    Holds-parts clauses.SlicesAreLegal early holds =
        let each : (i : ℕ) → LegalIn i (entries_at one i) × LegalIn i (entries_at two i) = λ i. part-holds (LegalIn i) (legal-nothing i) (entries_at all i) (entries_at one i) (entries_at two i) (parts i) (holds i) in
        (λ i. (each i).0, λ i. (each i).1)
    Holds-parts clauses.AccessesAreTrue early holds =
        let each : (i : ℕ) → AccessesIn i (entries_at one i) × AccessesIn i (entries_at two i) = λ i. part-holds (AccessesIn i) (accesses-nothing i) (entries_at all i) (entries_at one i) (entries_at two i) (parts i) (holds i) in
        (λ i. (each i).0, λ i. (each i).1)
    Holds-parts clauses.OthersAreTrue early holds =
        let each : (i : ℕ) → OthersIn i (entries_at one i) × OthersIn i (entries_at two i) = λ i. part-holds (OthersIn i) (others-nothing i) (entries_at all i) (entries_at one i) (entries_at two i) (parts i) (holds i) in
        (λ i. (each i).0, λ i. (each i).1)
    Holds-parts clauses.StandAfterCommands early holds =
        let each : (i : ℕ) → AfterIn i (entries_at one i) × AfterIn i (entries_at two i) = λ i. part-holds (AfterIn i) (after-nothing i) (entries_at all i) (entries_at one i) (entries_at two i) (parts i) (holds i) in
        (λ i. (each i).0, λ i. (each i).1)
    Holds-parts clauses.LooksAreMatched early holds = absurd (omega (arith, early))
    Holds-parts clauses.EntriesStandOnce early holds = absurd (omega (arith, early))
    Holds-parts clauses.MarksInOrder early holds = absurd (omega (arith, early))
    Holds-parts clauses.EntriesInOrder early holds = absurd (omega (arith, early))

    -- and where it holds of both parts, of all
    Holds-both : (c : Clause) → rank c < rank clauses.LooksAreMatched → Holds script (journals_of tree one) c → Holds script (journals_of tree two) c → Holds script (journals_of tree all) c
    Holds-both clauses.CommandsStandOnce early first second = first
    Holds-both clauses.TreeIsLegal early first second = first
    Holds-both clauses.SlicesAreLegal early first second = λ i. parts-hold (LegalIn i) (entries_at all i) (entries_at one i) (entries_at two i) (parts i) (first i) (second i)
    Holds-both clauses.AccessesAreTrue early first second = λ i. parts-hold (AccessesIn i) (entries_at all i) (entries_at one i) (entries_at two i) (parts i) (first i) (second i)
    Holds-both clauses.OthersAreTrue early first second = λ i. parts-hold (OthersIn i) (entries_at all i) (entries_at one i) (entries_at two i) (parts i) (first i) (second i)
    Holds-both clauses.StandAfterCommands early first second = λ i. parts-hold (AfterIn i) (entries_at all i) (entries_at one i) (entries_at two i) (parts i) (first i) (second i)
    Holds-both clauses.LooksAreMatched early first second = absurd (omega (arith, early))
    Holds-both clauses.EntriesStandOnce early first second = absurd (omega (arith, early))
    Holds-both clauses.MarksInOrder early first second = absurd (omega (arith, early))
    Holds-both clauses.EntriesInOrder early first second = absurd (omega (arith, early))

    -- what is found of the first part, where nothing earlier is found of the second
    IsFound-one : (a : Clause) → IsFound script (journals_of tree one) (Some a) → HoldBefore script (journals_of tree two) a → IsFound script (journals_of tree all) (Some a)
    IsFound-one a found holds =
        let early = found.0 in
        let first = found.1 in (
          early,
          record {
            before = λ c before. Holds-both c (omega (arith, before, early)) (first.before c before) (holds c before);
            false_here = λ is. first.false_here (Holds-parts a early is).0;
          },
        )

    -- and the other way round
    IsFound-two : (b : Clause) → HoldBefore script (journals_of tree one) b → IsFound script (journals_of tree two) (Some b) → IsFound script (journals_of tree all) (Some b)
    IsFound-two b holds found =
        let early = found.0 in
        let first = found.1 in (
          early,
          record {
            before = λ c before. Holds-both c (omega (arith, before, early)) (holds c before) (first.before c before);
            false_here = λ is. first.false_here (Holds-parts b early is).1;
          },
        )

    -- what is found of both parts
    pub IsFound-both : (a b : Option Clause) → IsFound script (journals_of tree one) a → IsFound script (journals_of tree two) b → IsFound script (journals_of tree all) (earlier_of a b)
    IsFound-both None None first second = λ c before. Holds-both c before (first c before) (second c before)
    IsFound-both None (Some b) first second = (let early = second.0 in IsFound-two b (λ c before. first c (omega (arith, before, early))) second)
    IsFound-both (Some a) None first second = (let early = first.0 in IsFound-one a first (λ c before. second c (omega (arith, before, early))))
    IsFound-both (Some a) (Some b) first second =
        let one_first = first.1 in
        let two_first = second.1 in
        elim (cases_lt (rank a) (rank b)) [
          | inl less ↦ rw (lt-ltb (rank a) (rank b) less) (IsFound-one a first (λ c before. two_first.before c (omega (arith, before, less))))
          | inr more ↦ rw (le-ltb (rank a) (rank b) more) (IsFound-two b (λ c before. one_first.before c (omega (arith, before, more))) second)
        ]

  -- what is found of slices is found of others that have the same
  module _ (all left : List (List SliceEntry)) (same : (i : ℕ) → entries_at left i ≡ entries_at all i) where
    forth : AreParts left all []
    forth i = inl (sym (same i), refl)

    back : AreParts all left []
    back i = inl (same i, refl)

    pub IsFound-same : (a : Option Clause) → IsFound script (journals_of tree left) a → IsFound script (journals_of tree all) a
    IsFound-same None found = λ c before. (Holds-parts left all [] forth c before (found c before)).0
    IsFound-same (Some a) found =
        let early = found.0 in
        let first = found.1 in (
          early,
          record {
            before = λ c before. (Holds-parts left all [] forth c (omega (arith, before, early)) (first.before c before)).0;
            false_here = λ is. first.false_here (Holds-parts all left [] back a early is).0;
          },
        )
