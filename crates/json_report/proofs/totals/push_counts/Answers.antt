use Rattle.std.proofs.Common.{ap, ◌∙◌}
use Rattle.json_report.proofs.Floats.{has_float-total}
use Rattle.serde_json.specs.Written.{has_float}
use Rattle.json_report.proofs.totals.push_counts.Goals as goal

pub push_value-requires : goal.push_value-requires
push_value-requires c = ap has_float c.in_ok-value.ensures ∙ has_float-total _ _ _
