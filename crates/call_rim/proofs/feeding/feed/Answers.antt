use Rattle.std.proofs.Common.{◌≡◌, ◌++◌, List, ℕ, arith, subst, take}
use Rattle.std.proofs.lemmas.Grind.{common_steps}
use Rattle.std.specs.Io.KnownBytes.{Consumes}
use Rattle.call_rim.proofs.Fed.{IsMade-NoMemory, IsMade-refused}
use Rattle.std.proofs.KnownBytes.{Consumes-trans}
use Rattle.call_rim.proofs.feeding.feed.Goals as goal

pub returns-in_default-clause-made : goal.returns-in_default-clause-made
returns-in_default-clause-made g c = IsMade-NoMemory _ _ _ _

pub returns-in_default-begin-clause-made : goal.returns-in_default-begin-clause-made
returns-in_default-begin-clause-made g c = IsMade-NoMemory _ _ _ _

pub returns-in-Refused-clause-made : goal.returns-in-Refused-clause-made
returns-in-Refused-clause-made g c =
    let fed = c.loop-taken.invariant.fed in
    let refused = c.in-Refused.ensures.taken fed.bytes fed.taken in
    let left = g.S.Source.left c.loop-taken.source in
    let now = g.S.Source.left c.read.new.self in
    let same : c.read.new.into ≡ c.deref.result.now = grind (arith, common_steps) in
    let read = subst (λ (bytes : List ℕ). Consumes left now (take c.in-Ok-read.count bytes)) same c.in-Ok-read.ensures.bytes.0 in
    let piece = take c.in-Ok-read.count c.deref.result.now in
    let consumed = Consumes-trans (g.S.Source.left c.args.source.now) left now fed.bytes piece fed.consumed read in
    IsMade-refused (g.P.StreamProgram.refuses c.args.program.now) (g.P.StreamProgram.reports c.args.program.now) _ _ (fed.bytes ++ piece) c.in-Refused.line consumed refused

pub returns-in-NoMemory-clause-made : goal.returns-in-NoMemory-clause-made
returns-in-NoMemory-clause-made g c = IsMade-NoMemory _ _ _ _

pub returns-clause-made : goal.returns-clause-made
returns-clause-made g c = IsMade-NoMemory _ _ _ _
