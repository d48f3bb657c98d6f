-- The value of a control group.
use Rattle.std.specs.Prelude.{ℕ, List, [], ◌∷◌, codes}
use Rattle.json_report.specs.Values.{object_of, whole}
use Rattle.run_counts.specs.declared.counts.Counts.{Counts}
use Rattle.serde_json.specs.Data.{Data, string}

-- a control group by its gid, its path and its counts
unfoldable pub group_of_counts : ℕ → List ℕ → Counts → Data
group_of_counts gid path counts =
    object_of
    ((codes "accesses", whole counts.accesses)
    ∷ (codes "gid", whole gid)
    ∷ (codes "hits", whole counts.hits)
    ∷ (codes "misses", whole counts.misses)
    ∷ (codes "path", string path)
    ∷ [])
