-- The ops of a script, as a tree takes them.
use Rattle.std.proofs.Common.{◌≡◌, ℕ, zero, suc, ◌<◌, ◌≤◌, Bool, true, List, [], ◌∷◌, length, take, filter, inl, inr, arith}
use Rattle.std.proofs.lemmas.Bool.{cases_Bool, cases_lt}
use Rattle.pair_text.specs.Values.{Fits, HasShortName, PairScriptValue, commands_of, epoch_at, is_command}
use Rattle.pair_text.specs.declared.op.PairOp.{PairOp}
use Rattle.pair_text.specs.declared.op.PairOp.TheVariants as ops

-- the name that a fitting command gives is short
pub HasShortName-fits : (script : PairScriptValue) (op : PairOp) → Fits script op → is_command op ≡ true → HasShortName op
HasShortName-fits script (ops.Mkdir name) fits is = fits
HasShortName-fits script (ops.Rmdir name) fits is = fits
HasShortName-fits script (ops.Write file text) fits is = fits
HasShortName-fits script (ops.Read file) fits is = fits
HasShortName-fits script ops.Flush fits is = fits
HasShortName-fits script (ops.Use task cpu line code) fits is = tt

module _ {X : Type 0} (p : X → Bool) where
  -- a list taken whole
  length-filter_whole : (i : ℕ) (xs : List X) → length xs ≤ i → length (filter p xs) ≤ length (filter p (take i xs))
  length-filter_whole zero [] le = omega arith
  length-filter_whole zero (x ∷ xs) le = absurd (omega (arith, le))
  length-filter_whole (suc i) [] le = omega arith
  length-filter_whole (suc i) (x ∷ xs) le = let rest = length-filter_whole i xs (omega (arith, le)) in elim (cases_Bool (p x)) [
    | inl is ↦ rw is (omega (arith, rest))
    | inr is_not ↦ rw is_not rest
  ]

-- where not all commands stand before a place, an op stands there
pub place-lt : (script : PairScriptValue) (i epoch : ℕ) → epoch ≡ epoch_at script i → epoch < length (commands_of script) → i < length script.ops
place-lt script i epoch is less = elim (cases_lt i (length script.ops)) [
  | inl lt ↦ lt
  | inr ge ↦ let whole = length-filter_whole is_command i script.ops ge in absurd (omega (arith, whole, is, less))
]
