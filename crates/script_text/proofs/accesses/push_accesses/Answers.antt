use Rattle.std.proofs.Common.{◌++◌, ◌∷◌, [], List, ℕ, map, sym, ap, ◌∙◌, append_assoc, arith}
use Rattle.std.specs.List.{range_with_len}
use Rattle.std.proofs.lemmas.List.FromFn.{map-range_with_len_more}
use Rattle.script_ops.specs.declared.op.Op.{Op}
use Rattle.script_text.specs.Meaning.{access_at}
use Rattle.script_text.proofs.accesses.push_accesses.Goals as goal

pub loop-i-preserved : goal.loop-i-preserved
loop-i-preserved c =
    let f : ℕ → Op = access_at c.args.task c.args.sweep.now in
    let i = c.loop-i.i in
    c.in_ok-push_access.ensures.ok
    ∙ ap (λ (ops : List Op). ops ++ f i ∷ []) c.loop-i.invariant
    ∙ append_assoc c.args.ops.now (map f (range_with_len 0 i)) (f i ∷ [])
    ∙ ap (λ (ops : List Op). c.args.ops.now ++ ops) (sym (map-range_with_len_more f 0 i i (omega arith)))
