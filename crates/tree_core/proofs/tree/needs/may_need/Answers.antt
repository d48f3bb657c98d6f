use Rattle.std.proofs.Common.{◌≡◌, true, false, Option, None, Some, is_some, sym, ap, ◌∙◌}
use Rattle.std.specs.Prelude.{MatchOption}
use Rattle.tree_core.proofs.NeededCounts.{needs-write, needs_accepted-none}
use Rattle.tree_core.proofs.Outcomes.{needs-nothing}
use Rattle.tree_core.proofs.ReadCounts.{needs-read}
use Rattle.tree_law.specs.Steps.{needs}
use Rattle.tree_core.proofs.tree.needs.may_need.Goals as goal

pub returns-in-Write : goal.returns-in-Write
returns-in-Write c = λ other m s. ap (needs m s) c.in-Write.is ∙ needs-write m s c.in-Write.path _ (sym c.is_mode_file.ensures ∙ other)

-- what is said of None holds where there is none
MatchOption-none : {X : Type 0} (o : Option X) {A : Type 0} (B : X → Type 0) → MatchOption o A B → is_some o ≡ false → A
MatchOption-none None B holds none = holds
MatchOption-none (Some x) B holds none = absurd (let f : true ≡ false = none in cc)

pub returns-in-Read : goal.returns-in-Read
returns-in-Read c = λ other m s. ap (needs m s) c.in-Read.is ∙ needs-read m s c.in-Read.path (MatchOption-none c.counted_at.result _ c.counted_at.ensures (sym c.is_some.ensures ∙ other))

pub returns-in_default : goal.returns-in_default
returns-in_default c = λ other m s. needs-nothing m s c.args.op.now (needs_accepted-none m s c.args.op.now (record { rmdir = c.in_default.not-Rmdir; write = c.in_default.not-Write; tick = c.in_default.not-Tick; read = c.in_default.not-Read }))
