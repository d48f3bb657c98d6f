use Rattle.std.proofs.Common.{◌≡◌, ◌↔◌, ℕ, refl, sym, subst}
use Rattle.std.specs.Prelude.{IsTrue}
use Rattle.cache_core.specs.declared.entry.What.{What}
use Rattle.journal_check.specs.Tags.{IsTagOf}
use Rattle.journal_check.proofs.laws.Told.{is_true}
use Rattle.machine.specs.declared.parameters.Parameters.{Parameters}
use Rattle.script_ops.specs.Fits.{Fits}
use Rattle.script_ops.specs.declared.op.Op.{Op}
use Rattle.script_ops.specs.declared.op.Op.TheVariants as ops
use Rattle.tree_law.specs.State.{State, tasks_of}
use Rattle.journal_check.proofs.tags.is_tag_of.Goals as goal

pub is_access_tag-requires-clause-task : goal.is_access_tag-requires-clause-task
is_access_tag-requires-clause-task c = (subst (λ o. Fits c.args.tree.now.machine (tasks_of c.args.tree.now.state) o) c.in-Access.is c.requires).0

pub is_access_tag-requires-clause-cpu : goal.is_access_tag-requires-clause-cpu
is_access_tag-requires-clause-cpu c = (subst (λ o. Fits c.args.tree.now.machine (tasks_of c.args.tree.now.state) o) c.in-Access.is c.requires).1

pub returns-in-Access-clause-answer : goal.returns-in-Access-clause-answer
returns-in-Access-clause-answer c =
    let t = c.args.tree.now in
    subst (λ (o : Op). IsTrue c.is_access_tag.result ↔ IsTagOf t.machine t.state o c.args.what) (sym c.in-Access.is) c.is_access_tag.ensures.answer

-- of a command nothing is asked
no-tag : (m : Parameters) (s : State) (op : Op) (w : What) → ((task cpu addr : ℕ) → op ≡ ops.Access task cpu addr → ⊥) → IsTagOf m s op w
no-tag m s (ops.Access task cpu addr) w none = absurd (none task cpu addr refl)
no-tag m s op w none = tt

pub returns-in_default-clause-answer : goal.returns-in_default-clause-answer
returns-in_default-clause-answer c =
    let t = c.args.tree.now in
    is_true (IsTagOf t.machine t.state c.args.op.now c.args.what) (no-tag t.machine t.state c.args.op.now c.args.what (λ task cpu addr is. c.in_default.not-Access task cpu addr is))
