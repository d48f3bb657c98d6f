-- How many commands stand before an op.
use Rattle.std.proofs.Common.{◌≡◌, ℕ, zero, suc, ◌+◌, ◌<◌, ◌≤◌, Bool, true, false, cond, List, [], ◌∷◌, length, filter, take, None, Some, ap, ◌∙◌, arith}
use Rattle.pair_text.specs.Values.{PairScriptValue, commands_of, epoch_at, is_command, op_at}
use Rattle.pair_text.specs.declared.op.PairOp.{PairOp}
use Rattle.run_law.specs.Journals.{At}

module _ {X : Type 0} (p : X → Bool) where
  -- how many of the first ones pass
  abbrev count : ℕ → List X → ℕ
  count i xs = length (filter p (take i xs))

  length-cond : (b : Bool) (x : X) (xs : List X) → length (cond b (x ∷ xs) xs) ≡ length (cond b (x ∷ []) []) + length xs
  length-cond true x xs = omega arith
  length-cond false x xs = omega arith

  -- at most as many as of all
  pub length-filter_take : (i : ℕ) (xs : List X) → length (filter p (take i xs)) ≤ length (filter p xs)
  length-filter_take zero xs = omega arith
  length-filter_take (suc i) [] = omega arith
  length-filter_take (suc i) (x ∷ xs) = omega (arith, length-cond (p x) x (filter p (take i xs)), length-cond (p x) x (filter p xs), length-filter_take i xs)

  -- fewer than of all where the next passes
  pub length-filter_take_lt : (i : ℕ) (xs : List X) (x : X) → At xs i x → p x ≡ true → length (filter p (take i xs)) + 1 ≤ length (filter p xs)
  length-filter_take_lt i [] x at passes = absurd (let none : None ≡ Some x = at in cc)
  length-filter_take_lt zero (y ∷ ys) x at passes = let same : y ≡ x = (let s : Some y ≡ Some x = at in cc) in let is : p y ≡ true = ap p same ∙ passes in rw is (omega arith)
  length-filter_take_lt (suc i) (y ∷ ys) x at passes = omega (arith, length-cond (p y) y (filter p (take i ys)), length-cond (p y) y (filter p ys), length-filter_take_lt i ys x at passes)

  -- and than of more of them
  pub length-filter_take_less : (i j : ℕ) (xs : List X) (x : X) → At xs i x → p x ≡ true → i < j → length (filter p (take i xs)) + 1 ≤ length (filter p (take j xs))
  length-filter_take_less i zero xs x at passes lt = absurd (omega arith)
  length-filter_take_less i (suc j) [] x at passes lt = absurd (let none : None ≡ Some x = at in cc)
  length-filter_take_less zero (suc j) (y ∷ ys) x at passes lt = let same : y ≡ x = (let s : Some y ≡ Some x = at in cc) in let is : p y ≡ true = ap p same ∙ passes in rw is (omega arith)
  length-filter_take_less (suc i) (suc j) (y ∷ ys) x at passes lt = omega (arith, length-cond (p y) y (filter p (take i ys)), length-cond (p y) y (filter p (take j ys)), length-filter_take_less i j ys x at passes (omega arith))

-- of a script
pub epoch_at-le : (script : PairScriptValue) (i : ℕ) → epoch_at script i ≤ length (commands_of script)
epoch_at-le script i = length-filter_take is_command i script.ops

pub epoch_at-lt : (script : PairScriptValue) (i : ℕ) (op : PairOp) → op_at script i ≡ Some op → is_command op ≡ true → epoch_at script i + 1 ≤ length (commands_of script)
epoch_at-lt script i op is command = length-filter_take_lt is_command i script.ops op is command

pub epoch_at-less : (script : PairScriptValue) (i k : ℕ) (op : PairOp) → op_at script i ≡ Some op → is_command op ≡ true → i < k → epoch_at script i + 1 ≤ epoch_at script k
epoch_at-less script i k op is command lt = length-filter_take_less is_command i k script.ops op is command lt
