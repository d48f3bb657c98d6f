use Rattle.std.proofs.Common.{◌≡◌, ℕ, ◌<◌, Bool, true, false, List, length, get_or, HoldsAt, Option, Some, None, IfSome, sym, ap, ◌∙◌}
use Rattle.std.specs.Prelude.{not, is_none, is_some, slice_get, unwrap_or}
use Rattle.std.proofs.lemmas.Bool.{true≢false}
use Rattle.std.proofs.lemmas.Option.{slice_get-get_or}
use Rattle.run_law.specs.Ops.{is_command}
use Rattle.run_law.proofs.laws.ReadyLists.{is_command-not_access}
use Rattle.journal_check.proofs.op_kinds.is_command_at.Goals as goal
use Rattle.script_ops.specs.declared.op.Op.{Op}
use Rattle.script_ops.specs.declared.op.Op.TheVariants.{Access, Tick}

-- an op is a command where no access is found
takes : (ops : List Op) (i : ℕ) (o : Option (ℕ × ℕ × ℕ)) → i < length ops → IfSome o (λ a. slice_get ops i ≡ Some (Access a.0 a.1 a.2)) → ((task cpu addr : ℕ) → slice_get ops i ≡ Some (Access task cpu addr) → o ≡ Some (task, cpu, addr)) → HoldsAt (λ op. is_none o ≡ is_command op) ops i
takes ops i None within is there d =
    sym (is_command-not_access (get_or ops i d) (λ task cpu addr e. true≢false (sym (ap is_some (there task cpu addr (slice_get-get_or ops i d within ∙ ap (λ (op : Op). Some op) e))))))
takes ops i (Some a) within is there d = sym (ap (λ (o : Option Op). is_command (unwrap_or o Tick)) (sym (slice_get-get_or ops i d within) ∙ is))

-- a negation, turned
not_back : (b s : Bool) → s ≡ not b → b ≡ not s
not_back true s e = sym (ap not e)
not_back false s e = sym (ap not e)

pub returns : goal.returns
returns c = λ d. not_back c.is_none.result (is_some c.access.result) c.is_none.ensures ∙ takes c.args.ops.now c.args.i c.access.result c.requires c.access.ensures.is c.access.ensures.there d
