-- The entries of each op in a slice: those of accesses, and those of commands.
use Rattle.std.proofs.Common.{◌≡◌, ℕ, List, length, filter, map, Some, refl, sym, ◌∙◌, subst, arith}
use Rattle.std.specs.Prelude.{IsTrue, slice_get}
use Rattle.std.proofs.lemmas.Option.{slice_get_within}
use Rattle.journal_check.proofs.TrueOthers.{owed_by_command-step}
use Rattle.journal_check.specs.Payments.{AreAllPaid}
use Rattle.journal_check.specs.Traces.{IsTrace}
use Rattle.journal_check.specs.declared.trace.Step.{Step}
use Rattle.journal_check.proofs.laws.TakenPlaces.{command-legal}
use Rattle.journal_check.proofs.laws.Told.{some-IsSome}
use Rattle.journal_check.specs.Homes.{AccessesStandOnce, IsHomeCount}
use Rattle.run_law.proofs.laws.Pairs.{both_eqb-same, both_eqb-true}
use Rattle.run_law.proofs.laws.Positions.{slice_get-within}
use Rattle.run_law.specs.Journals.{JournalsValue, slice_at}
use Rattle.run_law.specs.Ops.{ByKind, is_command}
use Rattle.run_law.specs.Order.{Makes, Pays}
use Rattle.run_law.specs.Owed.{owed_by_command, paid_by}
use Rattle.run_law.specs.Truth.{is_made_by}
use Rattle.run_law.specs.TreeHistory.{IsLegalTree}
use Rattle.script_ops.specs.Values.{ScriptValue, op_at}
use Rattle.script_ops.specs.declared.op.Op.{Op}
use Rattle.script_ops.specs.declared.op.Op.TheVariants.{Access}

-- in slice i the entries of each op are those that it makes there
abbrev pub EachStandsOnce : ScriptValue → JournalsValue → ℕ → Type 0
EachStandsOnce script j i = (thread op : ℕ) (c : Op) → op_at script thread op ≡ Some c → Makes script j i thread op c (filter (is_made_by thread op) (slice_at j i))

-- what is said of a command
of_kind : (A : ℕ → ℕ → ℕ → Type 0) (C : Type 0) (op : Op) → IsTrue (is_command op) → ByKind A C op → C
of_kind A C (Access task cpu addr) command h = absurd cc
of_kind A C op command h = h

-- an access is counted as it makes entries
home-made : (script : ScriptValue) (j : JournalsValue) (i t o : ℕ) (c : Op) → Makes script j i t o c (filter (is_made_by t o) (slice_at j i)) → IsHomeCount script.machine i (length (filter (is_made_by t o) (slice_at j i))) c
home-made script j i t o (Access task cpu addr) h = h
home-made script j i t o c h = record {}

-- and the other way round, where a command's are given
made-home : (script : ScriptValue) (j : JournalsValue) (i t o : ℕ) (c : Op) → Pays script j i t o c (filter (is_made_by t o) (slice_at j i)) → IsHomeCount script.machine i (length (filter (is_made_by t o) (slice_at j i))) c
    → Makes script j i t o c (filter (is_made_by t o) (slice_at j i))
made-home script j i t o (Access task cpu addr) pays h = h
made-home script j i t o c pays h = pays

module _ (script : ScriptValue) (j : JournalsValue) (i : ℕ) (steps : List Step) (legal : IsLegalTree script j.tree) (trace : IsTrace script j.tree (length j.tree) steps) where
  -- what a command owes is what its entries pay
  pays-all : AreAllPaid script.machine i j.tree steps (slice_at j i) → (t o : ℕ) (c : Op) → op_at script t o ≡ Some c → Pays script j i t o c (filter (is_made_by t o) (slice_at j i))
  pays-all paid t o c is k h at taken =
      let names = both_eqb-true h.thread t h.op o taken in
      let its : op_at script h.thread h.op ≡ Some c = subst (λ u. op_at script u h.op ≡ Some c) (sym names.0) (subst (λ p. op_at script t p ≡ Some c) (sym names.1) is) in
      let it = some-IsSome (slice_get steps k) (slice_get-within steps k (omega (arith, slice_get_within j.tree k h at, trace.count))) in
      let told = trace.each k h c it.0 at its it.1 in
      subst (λ u. map paid_by (filter (is_made_by u o) (slice_at j i)) ≡ owed_by_command script j.tree i k c) names.0
      (subst (λ p. map paid_by (filter (is_made_by h.thread p) (slice_at j i)) ≡ owed_by_command script j.tree i k c) names.1
      (paid k h it.0 at it.1 ∙ sym (owed_by_command-step script j.tree i k c it.0 told)))

  -- both kinds of ops
  pub EachStandsOnce-both : AccessesStandOnce script i (slice_at j i) → AreAllPaid script.machine i j.tree steps (slice_at j i) → EachStandsOnce script j i
  EachStandsOnce-both accesses paid t o c is = made-home script j i t o c (pays-all paid t o c is) (accesses t o c is)

  -- accesses
  pub EachStandsOnce-accesses : EachStandsOnce script j i → AccessesStandOnce script i (slice_at j i)
  EachStandsOnce-accesses stands t o c is = home-made script j i t o c (stands t o c is)

  -- commands
  pub EachStandsOnce-commands : EachStandsOnce script j i → AreAllPaid script.machine i j.tree steps (slice_at j i)
  EachStandsOnce-commands stands k h step at there =
      let op = command-legal script j.tree k h legal at in
      let told = trace.each k h op.0 step at op.1 there in
      let pays : Pays script j i h.thread h.op op.0 (filter (is_made_by h.thread h.op) (slice_at j i)) = of_kind _ _ op.0 op.2 (stands h.thread h.op op.0 op.1) in
      pays k h at (both_eqb-same h.thread h.thread h.op h.op refl refl) ∙ owed_by_command-step script j.tree i k op.0 step told
