-- An input is not both refused and reported on.
use Rattle.std.proofs.Common.{ℕ, Bool, List, inl, inr, arith}
use Rattle.pair_text.specs.Values.{PairScriptValue}
use Rattle.pair_text.specs.declared.kind.PairKind.{PairKind}
use Rattle.pair_top.specs.Refusals.{refuses}
use Rattle.pair_top.specs.Reports.{Plays, reports}

-- what is reported on is not refused
pub apart : {T : Type 0} (kind : PairKind) (Run Isolated Listed : PairScriptValue → T → Type 0) (report_of : PairScriptValue → T → Bool → List ℕ) (quiet : Bool) (bytes line : List ℕ) (j : T) (text : List ℕ)
    → refuses kind bytes line → reports (Plays kind Run Isolated Listed report_of) quiet bytes j text → ⊥
apart kind Run Isolated Listed report_of quiet bytes line j text (inl large) (few, plays) = omega (arith, large.0, few)
apart kind Run Isolated Listed report_of quiet bytes line j text (inr bad) (few, plays) = let good = plays.is_script in let no = bad.1.no_script in absurd cc
