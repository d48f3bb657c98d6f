-- Entries that are one that their command owes.
use Rattle.std.proofs.Common.{◌≡◌, ◌↔◌, ℕ, ◌+◌, inl, inr, true, false, List, length, take, Some, None, refl, sym, ap, ◌∙◌, subst, arith}
use Rattle.std.specs.List.{flat_map}
use Rattle.std.specs.Prelude.{Contains, IsTrue, ◌++◌}
use Rattle.std.proofs.lemmas.Bool.{cases_Bool}
use Rattle.cache_core.specs.declared.entry.SliceEntry.{SliceEntry}
use Rattle.cache_core.specs.declared.entry.What.{What}
use Rattle.cache_core.specs.declared.entry.What.TheVariants as whats
use Rattle.journal_check.specs.Places.{ArePlaces}
use Rattle.journal_check.specs.Tables.{AreTakenOnce, number_at}
use Rattle.cache_core.specs.Whats.{is_access}
use Rattle.journal_check.specs.Traces.{IsStepOf, IsTrace, IsTrueOther, owed_by_step}
use Rattle.journal_check.specs.declared.trace.Step.{Step}
use Rattle.journal_check.proofs.laws.TakenPlaces.{At-filter_some}
use Rattle.run_law.proofs.laws.OpKinds.{from_kind, of_command}
use Rattle.run_law.proofs.laws.Pairs.{both_eqb-same, both_eqb-true}
use Rattle.run_law.specs.Journals.{At}
use Rattle.run_law.specs.Ops.{is_command}
use Rattle.run_law.specs.Owed.{Owed, follow_in, look_in, owed_by_command, paid_by}
use Rattle.run_law.specs.Truth.{IsOwed, IsTrueCommand, is_of_access, is_taken_from}
use Rattle.run_law.specs.TreeHistory.{TreeEntryValue, tree_after}
use Rattle.script_ops.specs.Values.{ScriptValue, op_at}
use Rattle.script_ops.specs.declared.op.Op.{Op}
use Rattle.script_ops.specs.declared.op.Op.TheVariants as ops
use Rattle.tree_law.specs.Steps.{after}

-- what a command owes, by its step
pub owed_by_command-step : (script : ScriptValue) (tree : List TreeEntryValue) (i k : ℕ) (op : Op) (step : Step) → IsStepOf script tree k op step → owed_by_command script tree i k op ≡ owed_by_step script.machine i k step
unfolding owed_by_command
owed_by_command-step script tree i k op step told =
    ap (λ (ns : List (ℕ × ℕ)). flat_map (look_in script.machine i k) ns ++ flat_map (follow_in script.machine i (k + 1)) (after script.machine (tree_after script (take k tree)) k op)) (sym told.needs)
    ∙ ap (λ fs. flat_map (look_in script.machine i k) step.needs ++ flat_map (follow_in script.machine i (k + 1)) fs) (sym told.follows)

-- an entry of no op
pub IsTrueOther-none : (script : ScriptValue) (tree : List TreeEntryValue) (i : ℕ) (e : SliceEntry) → op_at script e.thread e.op ≡ None → IsTrueOther script tree i e
IsTrueOther-none script tree i e none = λ op is other. absurd (let wrong : None ≡ Some op = sym none ∙ is in cc)

-- an entry of an access is true where it is an access
pub other-access : (script : ScriptValue) (tree : List TreeEntryValue) (i : ℕ) (e : SliceEntry) (op : Op) → op_at script e.thread e.op ≡ Some op → is_command op ≡ false → IsTrue (is_access e.what) ↔ IsTrueOther script tree i e
other-access script tree i e op is access = (to, back)
  where
    same : (c : Op) (w : What) → is_command c ≡ false → is_of_access c w ≡ is_access w
    same (ops.Access task cpu addr) (whats.Access hit way owner rmid mask line) a = refl
    same (ops.Access task cpu addr) whats.Raise a = refl
    same (ops.Access task cpu addr) whats.Flush a = refl
    same (ops.Access task cpu addr) (whats.Lock mask first_line) a = refl
    same (ops.Access task cpu addr) (whats.Look rmid lines) a = refl
    same (ops.Access task cpu addr) (whats.Drop line at) a = refl
    same c w a = absurd cc

    never : (c : Op) → is_command c ≡ false → IsTrueCommand script tree i e c → ⊥
    never (ops.Access task cpu addr) a h = h
    never c a h = absurd cc

    to : IsTrue (is_access e.what) → IsTrueOther script tree i e
    to shown c is_c other = absurd (
        let one : op ≡ c = (let w : Some op ≡ Some c = sym is ∙ is_c in cc) in
        let kind : is_command c ≡ false = ap is_command (sym one) ∙ access in
        let wrong : true ≡ false = sym shown ∙ (sym (same c e.what kind) ∙ other) in
        cc)

    back : IsTrueOther script tree i e → IsTrue (is_access e.what)
    back told = elim (cases_Bool (is_access e.what)) [
      | inl shown ↦ shown
      | inr hidden ↦ absurd (never op access (told op is (same op e.what access ∙ hidden)))
    ]

-- one of a command is true where it is owed
pub other-command : (script : ScriptValue) (tree : List TreeEntryValue) (i : ℕ) (e : SliceEntry) (op : Op) → op_at script e.thread e.op ≡ Some op → IsTrue (is_command op) → IsOwed script tree i e op ↔ IsTrueOther script tree i e
other-command script tree i e op is command = (to, back)
  where
    other : (c : Op) (w : What) → IsTrue (is_command c) → is_of_access c w ≡ false
    other (ops.Access task cpu addr) w a = absurd cc
    other c w a = refl

    to : IsOwed script tree i e op → IsTrueOther script tree i e
    to owed c is_c shown =
        let one : op ≡ c = (let w : Some op ≡ Some c = sym is ∙ is_c in cc) in
        subst (IsTrueCommand script tree i e) one (of_command (λ task cpu addr. ⊥) (IsOwed script tree i e op) op command owed)

    back : IsTrueOther script tree i e → IsOwed script tree i e op
    back told = from_kind (λ task cpu addr. ⊥) (IsOwed script tree i e op) (IsOwed script tree i e op) op (λ task cpu addr h. absurd h) (λ h. h) (told op is (other op e.what command))

module _ (script : ScriptValue) (tree : List TreeEntryValue) (steps : List Step) (places : List (List ℕ)) (once : AreTakenOnce script tree) (trace : IsTrace script tree (length tree) steps) (taken : ArePlaces script places tree) where
  -- the place of a command
  pub place-once : (t o n : ℕ) (op : Op) → op_at script t o ≡ Some op → IsTrue (is_command op) → number_at places t o ≡ Some n → (k : ℕ) × (h : TreeEntryValue) × (n ≡ k + 1) × At tree k h × IsTrue (is_taken_from t o h)
  place-once t o n op is command number =
      let it = At-filter_some (is_taken_from t o) tree (let one = once t o op is command in omega arith) in
      (it.0, it.1, taken.taken t o it.0 n it.1 it.2 it.3 number, it.2, it.3)

  -- an entry is owed where its step says so
  pub owed-step : (i k : ℕ) (e : SliceEntry) (op : Op) (step : Step) → op_at script e.thread e.op ≡ Some op → number_at places e.thread e.op ≡ Some (k + 1) → At steps k step
      → Contains (owed_by_step script.machine i k step) (paid_by e) ↔ IsOwed script tree i e op
  owed-step i k e op step is number there =
      let it = taken.place e.thread e.op k number in
      let names = both_eqb-true it.0.thread e.thread it.0.op e.op it.2 in
      let its : op_at script it.0.thread it.0.op ≡ Some op = subst (λ t. op_at script t it.0.op ≡ Some op) (sym names.0) (subst (λ o. op_at script e.thread o ≡ Some op) (sym names.1) is) in
      let told = trace.each k it.0 op step it.1 its there in
      let owes = owed_by_command-step script tree i k op step told in (
        λ has. record { position = k; command = it.0; there = it.1; same_thread = names.0; same_op = names.1; owed = subst (λ (os : List Owed). Contains os (paid_by e)) (sym owes) has },
        λ owed.
            let mine : IsTrue (is_taken_from e.thread e.op owed.command) = both_eqb-same owed.command.thread e.thread owed.command.op e.op owed.same_thread owed.same_op in
            let placed = taken.taken e.thread e.op owed.position (k + 1) owed.command owed.there mine number in
            let same : owed.position ≡ k = omega arith in
            subst (λ (os : List Owed). Contains os (paid_by e)) owes (subst (λ n. Contains (owed_by_command script tree i n op) (paid_by e)) same owed.owed),
      )
