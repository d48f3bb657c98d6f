use Rattle.std.proofs.Common.{ℕ, List, sym, ap, ◌∙◌}
use Rattle.cpu_lists.specs.Lists.{list_cpus}
use Rattle.cpu_lists.specs.Masks.{mask_cpus}
use Rattle.cpu_lists.specs.Sets.{answer_of}
use Rattle.machine.specs.Maps.{parameters_of}
use Rattle.tree_core.proofs.NamedCpus.{named_by-list, named_by-mask, set_read-said}
use Rattle.tree_core.specs.CpuFiles.{set_read}
use Rattle.tree_core.proofs.cpu_sets.read_cpus.Goals as goal

pub returns-in-CpusList : goal.returns-in-CpusList
returns-in-CpusList c =
    let m = parameters_of c.args.m.now in
    set_read-said c.read_list.result _ c.read_list.ensures.said ∙ ap set_read (ap (λ (text : List ℕ). answer_of m.cpus (list_cpus text)) c.trim.ensures ∙ sym (named_by-list m c.args.kind c.args.text.now c.in-CpusList.is))

pub returns-in_default : goal.returns-in_default
returns-in_default c =
    let m = parameters_of c.args.m.now in
    set_read-said c.read_mask.result _ c.read_mask.ensures.said ∙ ap set_read (ap (λ (text : List ℕ). answer_of m.cpus (mask_cpus text)) c.trim-in_default.ensures ∙ sym (named_by-mask m c.args.kind c.args.text.now c.in_default.not-CpusList))
