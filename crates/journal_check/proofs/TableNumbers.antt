-- Numbers of a table after a change of one.
use Rattle.std.proofs.Common.{◌≡◌, ◌≢◌, ℕ, zero, suc, ◌<◌, inl, inr, List, [], ◌∷◌, length, set, Some, sym, ap, ◌∙◌, arith}
use Rattle.std.specs.Prelude.{slice_get}
use Rattle.std.proofs.lemmas.Bool.{cases_eq}
use Rattle.std.proofs.lemmas.List.{get_or-set_other, get_or-set_same, length-set}
use Rattle.lists.proofs.Updates.{slice_get-set_same, slice_get-set_other}
use Rattle.journal_check.specs.Tables.{IsTableOf, number_at, row_of}
use Rattle.script_ops.specs.Values.{ScriptValue}

-- a table with another number for one op
abbrev pub changed : List (List ℕ) → ℕ → ℕ → ℕ → List (List ℕ)
changed table thread op n = set table thread (set (row_of table thread) op n)

module _ (table : List (List ℕ)) (thread op n : ℕ) (here : thread < length table) (there : op < length (row_of table thread)) where
  -- the row of the op
  row_of-own : row_of (changed table thread op n) thread ≡ set (row_of table thread) op n
  row_of-own = get_or-set_same table thread (set (row_of table thread) op n) [] here

  -- the other rows
  row_of-other : (t : ℕ) → t ≢ thread → row_of (changed table thread op n) t ≡ row_of table t
  row_of-other t apart = get_or-set_other table thread t (set (row_of table thread) op n) [] apart

  -- the lengths of rows stay
  pub length-row_changed : (t : ℕ) → length (row_of (changed table thread op n) t) ≡ length (row_of table t)
  length-row_changed t = elim (cases_eq t thread) [
    | inl mine ↦ ap (λ i. length (row_of (changed table thread op n) i)) mine ∙ (ap length row_of-own ∙ (length-set (row_of table thread) op n ∙ ap (λ i. length (row_of table i)) (sym mine)))
    | inr other ↦ ap length (row_of-other t other)
  ]

  -- the number of the op
  pub number_at-own : number_at (changed table thread op n) thread op ≡ Some n
  number_at-own = ap (λ r. slice_get r op) row_of-own ∙ slice_get-set_same (row_of table thread) op n there

  -- the numbers of the others
  pub number_at-other : (t o : ℕ) → (t ≡ thread → o ≡ op → ⊥) → number_at (changed table thread op n) t o ≡ number_at table t o
  number_at-other t o apart = elim (cases_eq t thread) [
    | inl mine ↦
        ap (λ i. number_at (changed table thread op n) i o) mine
        ∙ (ap (λ r. slice_get r o) row_of-own
        ∙ (slice_get-set_other (row_of table thread) op o n (λ same. apart mine same)
        ∙ ap (λ i. number_at table i o) (sym mine)))
    | inr other ↦ ap (λ r. slice_get r o) (row_of-other t other)
  ]

  -- it is still a table of the script
  pub IsTableOf-changed : (script : ScriptValue) → IsTableOf script table → IsTableOf script (changed table thread op n)
  IsTableOf-changed script is = λ t. length-row_changed t ∙ is t

-- a thread with a number is there
pub row-there : (table : List (List ℕ)) (t o n : ℕ) → number_at table t o ≡ Some n → t < length table
row-there [] t o n is = absurd (let wrong : slice_get {X = ℕ} [] o ≡ Some n = is in cc)
row-there (row ∷ rows) zero o n is = omega arith
row-there (row ∷ rows) (suc t) o n is = omega (arith, row-there rows t o n is)
