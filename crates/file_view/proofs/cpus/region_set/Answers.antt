use Rattle.std.proofs.Common.{◌≡◌, ℕ, Bool, sym, ap, ◌∙◌, arith}
use Rattle.std.specs.Prelude.{filter}
use Rattle.std.specs.List.{range_with_len}
use Rattle.file_view.proofs.CpuSets.{Collected-start, Collected-yes, Collected-no, mask_of-collected}
use Rattle.file_view.specs.GroupFiles.{has_region}
use Rattle.machine.specs.Maps.{domain_of}
use Rattle.machine.specs.declared.parameters.Parameters.{Parameters}
use Rattle.tree_law.specs.Space.{mask_of}
use Rattle.file_view.proofs.cpus.region_set.Goals as goal
use Rattle.file_view.proofs.cpus.region_set.Goals.{then-has_region, else-has_region}

pub loop-cpu-init : goal.loop-cpu-init
loop-cpu-init c = Collected-start (λ (cpu : ℕ). has_region c.args.tree.now.state c.args.group.now.gid (domain_of c.args.tree.now.machine cpu))

pub loop-cpu-preserved : goal.loop-cpu-preserved
loop-cpu-preserved c =
    let p : ℕ → Bool = λ (cpu : ℕ). has_region c.args.tree.now.state c.args.group.now.gid (domain_of c.args.tree.now.machine cpu) in
    let n = c.loop-cpu.cpu in
    let domain : c.domain_of.result ≡ domain_of c.args.tree.now.machine n = c.domain_of.ensures.domain ∙ ap (λ (m : Parameters). domain_of m n) c.machine-in-loop-cpu.ensures in
    let is : c.has_region.result ≡ p n = c.has_region.ensures ∙ ap (λ (d : ℕ). has_region c.args.tree.now.state c.args.group.now.gid d) domain in
    elim c.if-has_region.branch [
      | then-has_region w ↦ rw w.set-is (Collected-yes p c.loop-cpu.set n (omega arith) (sym is ∙ w.if-has_region.true) c.loop-cpu.invariant)
      | else-has_region w ↦ rw w.set-is (Collected-no p c.loop-cpu.set n (sym is ∙ w.if-has_region.false) c.loop-cpu.invariant)
    ]

pub returns : goal.returns
returns c =
    let p : ℕ → Bool = λ (cpu : ℕ). has_region c.args.tree.now.state c.args.group.now.gid (domain_of c.args.tree.now.machine cpu) in
    let all : c.loop-cpu.cpu ≡ c.args.tree.now.machine.cpus = omega (arith, ap (λ (m : Parameters). m.cpus) c.machine.ensures) in
    sym (mask_of-collected p c.loop-cpu.set c.loop-cpu.cpu (omega arith) (omega (arith, c.machine.result.now.in_range.cpu_limit)) c.loop-cpu.invariant)
    ∙ ap (λ (n : ℕ). mask_of (filter p (range_with_len 0 n))) all
