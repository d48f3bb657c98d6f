use Rattle.std.proofs.Common.{List, ℕ, Some, ◌∙◌, ap, arith}
use Rattle.path_names.specs.Components.{components}
use Rattle.path_names.specs.Reading.{reached_from}
use Rattle.path_names.proofs.Walks.{reached_from-no_directory}
use Rattle.path_names.proofs.PathCounts.{length-path_ids}
use Rattle.path_names.proofs.paths.walk.Goals as goal

pub returns-in_default-at : goal.returns-in_default-at
returns-in_default-at c =
    let bound = length-path_ids c.loop-name.at in
    record {
      path = c.loop-name.invariant.path ∙ ap (λ (parts : List (List ℕ)). reached_from c.args.domains (Some c.loop-name.at, c.loop-name.names) parts) c.in-Some.ensures.0 ∙ reached_from-no_directory c.args.domains c.loop-name.at c.loop-name.names c.in-Some.name.now (components c.in-Some.rest.now) c.in_default-at.not-Dir;
      ids = tt;
      few = omega arith;
      bytes = omega arith;
      left = λ _. omega (arith, c.in-Some.ensures.1);
      kept = c.loop-name.invariant.kept;
    }
