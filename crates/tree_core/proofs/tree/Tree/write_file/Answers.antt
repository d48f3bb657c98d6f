use Rattle.std.proofs.Common.{refl, ap}
use Rattle.path_names.specs.declared.files.FileKind.{FileKind}
use Rattle.path_names.specs.declared.path_ref.PathRef.TheVariants.{File}
use Rattle.script_ops.specs.declared.op.Op.TheVariants.{Write}
use Rattle.tree_core.proofs.Commands.{Takes-same}
use Rattle.tree_core.proofs.WrittenPaths.{IsOtherKind-not_written}
use Rattle.tree_core.proofs.tree.Tree.write_file.Goals as goal

pub unreachable-requires : goal.unreachable-requires
unreachable-requires c = IsOtherKind-not_written c.args.self.now.state c.args.at.dir c.args.kind c.requires.writable
    (record { schemata = c.in_default.not-Schemata; mode = c.in_default.not-Mode; tasks = c.in_default.not-Tasks; cpus = c.in_default.not-Cpus; cpus_list = c.in_default.not-CpusList; threshold = c.in_default.not-MaxThreshold })

pub returns-in-Schemata : goal.returns-in-Schemata
returns-in-Schemata c = Takes-same (ap (λ (kind : FileKind). Write (File c.args.at.dir kind) c.args.text.now) c.in-Schemata.is) refl (c.write_schemata.ensures c.args.looks.now)

pub returns-in-Mode : goal.returns-in-Mode
returns-in-Mode c = Takes-same (ap (λ (kind : FileKind). Write (File c.args.at.dir kind) c.args.text.now) c.in-Mode.is) refl c.write_mode.ensures

pub returns-in-Tasks : goal.returns-in-Tasks
returns-in-Tasks c = Takes-same (ap (λ (kind : FileKind). Write (File c.args.at.dir kind) c.args.text.now) c.in-Tasks.is) c.requires.nothing (c.write_tasks.ensures c.args.looks.now)

pub returns-in-Cpus : goal.returns-in-Cpus
returns-in-Cpus c = Takes-same refl c.requires.nothing (c.write_cpus.ensures c.args.looks.now)

pub returns-in-MaxThreshold : goal.returns-in-MaxThreshold
returns-in-MaxThreshold c = Takes-same (ap (λ (kind : FileKind). Write (File c.args.at.dir kind) c.args.text.now) c.in-MaxThreshold.is) c.requires.nothing (c.write_threshold.ensures c.args.looks.now)
