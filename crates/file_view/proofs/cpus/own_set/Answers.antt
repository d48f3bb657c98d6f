use Rattle.std.proofs.Common.{sym}
use Rattle.cpu_binding.specs.Groups.{has_control, has_monitor}
use Rattle.file_view.proofs.CpuSets.{mask_of-enumerated}
use Rattle.file_view.proofs.cpus.own_set.Goals as goal

pub returns-in-Control : goal.returns-in-Control
returns-in-Control c = rw (c.in-Control.is, ← c.cpus.ensures) (sym (mask_of-enumerated (has_control c.args.group.now.gid) c.cpus.result.now c.ctrl_set.result c.ctrl_set.type_inv c.ctrl_set.ensures))

pub returns-in-Monitor : goal.returns-in-Monitor
returns-in-Monitor c = rw (c.in-Monitor.is, ← c.cpus-in-Monitor.ensures) (sym (mask_of-enumerated (has_monitor c.args.group.now.gid) c.cpus-in-Monitor.result.now c.mon_set.result c.mon_set.type_inv c.mon_set.ensures))
