-- The CPUs of a group that goes.
use Rattle.std.proofs.Common.{◌≡◌, ℕ, ◌<◌, Bool, false, cond, eqb, List, length, map, get_or, Some, sym, ap, ◌∙◌, arith}
use Rattle.std.proofs.lemmas.Nat.Bits.{bit_at-zero}
use Rattle.std.proofs.lemmas.List.{ext_get_or, get_or-map, length-map}
use Rattle.cpu_binding.specs.Groups.{Changes, after_control, after_monitor, joined, opening_cpu}
use Rattle.cpu_binding.specs.Sets.{has_cpu}
use Rattle.cpu_binding.specs.declared.groups.CpuGroups.{CpuGroups}
use Rattle.rc_base.specs.declared.names.Gid.{Gid}
use Rattle.tree_law.specs.commands.Rmdir.{cpu_after, cpu_uncounted}

-- no CPU is in the empty set
has_cpu-zero : (cpu : ℕ) → has_cpu 0 cpu ≡ false
has_cpu-zero cpu = ap (λ (n : ℕ). eqb n 1) (bit_at-zero cpu)

-- a change of each CPU by its groups alone
map-changes : (how : ℕ → CpuGroups → CpuGroups) (f : CpuGroups → CpuGroups) (old new : List CpuGroups) → ((cpu : ℕ) (c : CpuGroups) → how cpu c ≡ f c) → Changes how old new → new ≡ map f old
map-changes how f old new same changes = ext_get_or opening_cpu new (map f old) (changes.count ∙ sym (length-map old f)) (λ cpu within.
    let inside : cpu < length old = omega (arith, within, changes.count) in
    changes.each cpu opening_cpu inside ∙ same cpu (get_or old cpu opening_cpu) ∙ sym (get_or-map f old cpu opening_cpu opening_cpu inside))

-- the CPUs of a control group go to the default group
pub map-cpu_after : (gid : Gid) (old new : List CpuGroups) → Changes (after_control gid 0) old new → new ≡ map (cpu_after gid) old
map-cpu_after gid old new changes = map-changes (after_control gid 0) (cpu_after gid) old new (λ cpu c. ap (λ (b : Bool). cond b (joined gid) (cpu_after gid c)) (has_cpu-zero cpu)) changes

-- those of a monitor group count at their control group
pub map-cpu_uncounted : (gid : Gid) (old new : List CpuGroups) → Changes (after_monitor gid 0) old new → new ≡ map (cpu_uncounted gid) old
map-cpu_uncounted gid old new changes = map-changes (after_monitor gid 0) (cpu_uncounted gid) old new (λ cpu c. ap (λ (b : Bool). cond b (record { control = c.control; monitor = Some gid }) (cpu_uncounted gid c)) (has_cpu-zero cpu)) changes
