-- The kinds of ops.
use Rattle.std.proofs.Common.{◌≡◌, ℕ, ◌<◌, Bool, true, List, [], length, get_or, Some, refl, sym, ap, ◌∙◌, subst}
use Rattle.std.proofs.lemmas.Option.{slice_get_read}
use Rattle.cache_core.specs.declared.entry.SliceEntry.{SliceEntry}
use Rattle.pair_text.specs.Values.{Fits, HasShortName, IsLawful, PairScriptValue, is_command, op_at}
use Rattle.pair_text.specs.declared.op.PairOp.{PairOp}
use Rattle.pair_text.specs.declared.op.PairOp.TheVariants as ops
use Rattle.pair_play.specs.Playing.{IsOther}
use Rattle.pair_law.specs.PairRuns.{op_asks}

-- an op that is no flush and no use is a command
pub is_command-other : (op : PairOp) → IsOther op → is_command op ≡ true
is_command-other (ops.Mkdir name) other = refl
is_command-other (ops.Rmdir name) other = refl
is_command-other (ops.Write file text) other = refl
is_command-other (ops.Read file) other = refl
is_command-other ops.Flush other = absurd (other.not_flush refl)
is_command-other (ops.Use task cpu line code) other = absurd (other.not_use task cpu line code refl)

-- of an op of a script the new group's name is short
pub HasShortName-Fits : (script : PairScriptValue) (op : PairOp) → Fits script op → HasShortName op
HasShortName-Fits script (ops.Mkdir name) fits = fits
HasShortName-Fits script (ops.Rmdir name) fits = tt
HasShortName-Fits script (ops.Write file text) fits = tt
HasShortName-Fits script (ops.Read file) fits = tt
HasShortName-Fits script ops.Flush fits = tt
HasShortName-Fits script (ops.Use task cpu line code) fits = tt

-- ---- the op at a place of a script

-- an op that was read there
pub op_at-read : (script : PairScriptValue) (i : ℕ) (all : List PairOp) (read op : PairOp) → all ≡ script.ops → read ≡ get_or all i read → read ≡ op → i < length script.ops → op_at script i ≡ Some op
op_at-read script i all read op same at is within = slice_get_read script.ops (length script.ops) i read refl within (subst (λ (xs : List PairOp). read ≡ get_or xs i read) same at) ∙ ap (λ (x : PairOp). Some x) is

-- it fits the script
pub Fits-read : (script : PairScriptValue) (i : ℕ) (all : List PairOp) (read op : PairOp) → IsLawful script → all ≡ script.ops → read ≡ get_or all i read → read ≡ op → i < length script.ops → Fits script op
Fits-read script i all read op lawful same at is within =
    subst (Fits script) (sym (subst (λ (xs : List PairOp). read ≡ get_or xs i read) same at) ∙ is) (lawful.fit i read within)

-- ---- what other ops ask

-- nothing of any cache
pub op_asks-other : (script : PairScriptValue) (use_asks : ℕ → ℕ → ℕ → Bool → List SliceEntry) (i : ℕ) (op : PairOp) → IsOther op → op_asks script use_asks i (Some op) ≡ []
op_asks-other script use_asks i (ops.Mkdir name) other = refl
op_asks-other script use_asks i (ops.Rmdir name) other = refl
op_asks-other script use_asks i (ops.Write file text) other = refl
op_asks-other script use_asks i (ops.Read file) other = refl
op_asks-other script use_asks i ops.Flush other = absurd (other.not_flush refl)
op_asks-other script use_asks i (ops.Use task cpu line code) other = absurd (other.not_use task cpu line code refl)
