use Rattle.std.proofs.Common.{Result, IfOk, subst}
use Rattle.std.specs.Str.Lines.{lines}
use Rattle.pair_text.specs.Values.{IsLawful, PairScriptValue}
use Rattle.pair_text.proofs.LawfulScripts.{IsLawful-reading_from, IsReady-nothing_read}
use Rattle.pair_text.specs.PairReading.{PairFaultAt, nothing_read}
use Rattle.pair_text.proofs.theorems.scripts_are_lawful.Goals as goal

pub returns : goal.returns
returns c = λ kind text script e. subst (λ (r : Result PairScriptValue PairFaultAt). IfOk r IsLawful) e (IsLawful-reading_from kind 0 nothing_read (lines text) IsReady-nothing_read)
