use Rattle.std.proofs.Common.{◌≡◌, ℕ, List, ◌++◌, All, length, sym, ap, subst, ◌∙◌, arith}
use Rattle.std.specs.List.Sorted.{IsStrictlyIncreasing}
use Rattle.script_lines.specs.Tasks.{ids_of}
use Rattle.script_ops.specs.Values.{threads_in}
use Rattle.script_ops.specs.Canonical.{AreAllShort, AreNamed}
use Rattle.script_ops.specs.Fits.{AreFit}
use Rattle.machine.specs.Maps.{parameters_of}
use Rattle.script_lines.proofs.laws.TaskRanges.{IsStrictlyIncreasing-ids_of, length-ids_of}
use Rattle.script_text.proofs.reader.Reader.into_script.Goals as goal

pub new-requires : goal.new-requires
new-requires c =
    let ranges = c.args.self.tasks.items in
    let ids : c.push_ids.new.ids.items ≡ ids_of ranges =
    c.in-Ok.ensures
    ∙ ap (λ (xs : List ℕ). xs ++ ids_of c.deref.result.now) c.new-tasks.ensures.items
    ∙ ap ids_of c.deref.ensures.value in
    record {
      lawful = record {
        in_range = c.args.self.machine.in_range;
        rising = subst IsStrictlyIncreasing (sym ids) (IsStrictlyIncreasing-ids_of ranges c.requires.limits.tasks);
        few_tasks = omega (arith, ap length ids, length-ids_of ranges, c.requires.fit.few_tasks);
        few = record { few_phases = omega (arith, c.requires.limits.phases); few_threads = c.requires.limits.each };
        named = subst (λ (names : List (List ℕ)). All (AreNamed (length names)) (threads_in c.args.self.phases.items)) (sym c.settle.ensures) c.requires.limits.phases_named;
        short = subst (λ (names : List (List ℕ)). All (AreAllShort names) (threads_in c.args.self.phases.items)) (sym c.settle.ensures) c.requires.fit.short_phases;
        fit = subst (λ (tasks : List ℕ). All (AreFit (parameters_of c.args.self.machine) tasks) (threads_in c.args.self.phases.items)) (sym ids) c.requires.fit.phases;
        light = omega (arith, c.requires.fit.light, c.requires.fit.counted);
      };
    }
