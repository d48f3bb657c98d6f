-- A legal history in which each command of the script stands once is short.
use Rattle.std.proofs.Common.{◌≡◌, ℕ, ◌≤◌, true, false, List, length, filter, Option, Some, inl, inr, refl, sym, subst, ap, ◌∙◌, arith}
use Rattle.std.specs.Prelude.{IsSome}
use Rattle.std.proofs.lemmas.Bool.{cases_Bool}
use Rattle.std.proofs.lemmas.Option.{same_Some}
use Rattle.journal_check.specs.Tables.{AreTakenOnce}
use Rattle.run_law.proofs.laws.Pairs.{both_eqb-same, both_eqb-true}
use Rattle.run_law.proofs.laws.Positions.{filter-none_at}
use Rattle.run_law.proofs.laws.RunLengths.{length-le}
use Rattle.run_law.proofs.laws.SoundHistories.{IsTaken-at}
use Rattle.run_law.specs.Journals.{At}
use Rattle.run_law.specs.Ops.{is_command}
use Rattle.run_law.specs.TreeHistory.{IsLegalTree, TreeEntryValue}
use Rattle.run_law.specs.Truth.{is_taken_from}
use Rattle.script_ops.specs.Values.{IsLawful, ScriptValue, op_at}
use Rattle.script_ops.specs.declared.op.Op.{Op}

-- each op stands there at most once
length-filter_once : (script : ScriptValue) (tree : List TreeEntryValue) → IsLegalTree script tree → AreTakenOnce script tree → (t o : ℕ) (c : Op) → op_at script t o ≡ Some c → length (filter (is_taken_from t o) tree) ≤ 1
length-filter_once script tree legal once t o c is = elim (cases_Bool (is_command c)) [
  | inl command ↦ let one = once t o c is command in omega (arith, one)
  | inr other ↦ let none = ap length (filter-none_at (is_taken_from t o) tree (λ k h at. never other k h at)) in omega (arith, none)
]
  where
    never : is_command c ≡ false → (k : ℕ) (h : TreeEntryValue) → At tree k h → is_taken_from t o h ≡ false
    never other k h at = elim (cases_Bool (is_taken_from t o h)) [
      | inl mine_it ↦
          let mine = both_eqb-true h.thread t h.op o mine_it in
          let it = IsTaken-at script tree k h legal at in
          let same : op_at script t o ≡ Some it.op = subst (λ n. op_at script t n ≡ Some it.op) mine.1 (subst (λ n. op_at script n h.op ≡ Some it.op) mine.0 it.is) in
          absurd (let one : c ≡ it.op = same_Some c it.op (sym is ∙ same) in let wrong : true ≡ false = sym it.command ∙ (sym (ap is_command one) ∙ other) in cc)
      | inr not_it ↦ not_it
    ]

-- it has at most as many entries as the script weighs
pub length-commands : (script : ScriptValue) (tree : List TreeEntryValue) → IsLegalTree script tree → AreTakenOnce script tree → IsLawful script → length tree ≤ 4000000
length-commands script tree legal once lawful =
    let few = length-le (λ (h : TreeEntryValue). h.thread) (λ (h : TreeEntryValue). h.op) is_taken_from (λ h. both_eqb-same h.thread h.thread h.op h.op refl refl) script 1 tree
    (λ k h at. subst (λ (o : Option Op). IsSome o) (sym (IsTaken-at script tree k h legal at).is) refl) (length-filter_once script tree legal once) in
    omega (arith, few, lawful.light)
