use Rattle.std.proofs.Common.{sym, subst, ap, ◌∙◌}
use Rattle.tree_core.proofs.RemovablePaths.{freed-control, freed-monitor}
use Rattle.tree_core.specs.Found.{IsGroup, found_path}
use Rattle.tree_core.specs.declared.found_group.FoundGroup.{FoundGroup}
use Rattle.tree_law.specs.commands.Rmdir as rmdir
use Rattle.tree_core.proofs.tree.Tree.push_freed.Goals as goal

pub returns-in-Control : goal.returns-in-Control
returns-in-Control c =
    let s = c.args.self.now.state in
    let group = c.in-Control.group in
    c.push_with.ensures
    ∙ sym (freed-control s group (subst (λ (found : FoundGroup). IsGroup s found) c.in-Control.is c.requires.found))
    ∙ ap (λ (found : FoundGroup). rmdir.freed s (found_path found)) (sym c.in-Control.is)

pub returns-in-Monitor : goal.returns-in-Monitor
returns-in-Monitor c =
    let s = c.args.self.now.state in
    let group = c.in-Monitor.group in
    c.push_own.ensures
    ∙ sym (freed-monitor s group (subst (λ (found : FoundGroup). IsGroup s found) c.in-Monitor.is c.requires.found))
    ∙ ap (λ (found : FoundGroup). rmdir.freed s (found_path found)) (sym c.in-Monitor.is)
