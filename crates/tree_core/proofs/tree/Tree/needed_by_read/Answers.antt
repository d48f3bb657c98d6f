use Rattle.std.proofs.Common.{ℕ, List, map, sym, ap, ◌∙◌}
use Rattle.std.specs.List.{flat_map}
use Rattle.script_ops.specs.declared.op.Op.TheVariants as ops
use Rattle.path_names.specs.declared.path_ref.PathRef.{PathRef}
use Rattle.tree_core.proofs.NeededCounts.{counts_in-one}
use Rattle.tree_core.proofs.ReadCounts.{needs-occupancy, needs-read}
use Rattle.tree_core.specs.RmidLists.{counts_in}
use Rattle.tree_law.specs.Steps.{needs}
use Rattle.tree_core.proofs.tree.Tree.needed_by_read.Goals as goal

pub returns-in-Some-clause-needs : goal.returns-in-Some-clause-needs
returns-in-Some-clause-needs c =
    let m = c.args.self.now.machine in let s = c.args.self.now.state in
    let domain = c.in-Some.domain in
    counts_in-one domain c.push_held.new.rmids.items ∙ ap (λ (rmids : List ℕ). map (λ rmid. (domain, rmid)) rmids) c.push_held.ensures
    ∙ sym (ap (λ (path : PathRef). needs m s (ops.Read path)) c.in-Some.ensures ∙ needs-occupancy m s c.in-Some.holder domain)

pub returns-in-None-clause-needs : goal.returns-in-None-clause-needs
returns-in-None-clause-needs c = ap (flat_map (counts_in 0 1)) c.requires ∙ sym (needs-read c.args.self.now.machine c.args.self.now.state c.args.path c.in-None.ensures)
