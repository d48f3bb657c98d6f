-- What commands have made stays made.
use Rattle.std.proofs.Common.{◌≡◌, ℕ, ◌<◌, ◌≤◌, List, length, ap, arith}
use Rattle.cache_core.specs.declared.entry.SliceEntry.{SliceEntry}
use Rattle.run_law.specs.Journals.{At, JournalsValue, slice_at}
use Rattle.run_law.specs.Owed.{owed_by_command}
use Rattle.run_law.specs.TreeHistory.{TreeEntryValue}
use Rattle.run_law.specs.Truth.{is_made_by}
use Rattle.script_ops.specs.Values.{ScriptValue}
use Rattle.seen_journal.specs.Prefixes.{IsPrefix}
use Rattle.live_law.specs.Cells.{AreMade, IsMade}
use Rattle.live_law.specs.SeenJournals.{HasGrown}
use Rattle.live_law.proofs.laws.LaterViews.{owed_by_command-prefix}
use Rattle.live_law.proofs.laws.Prefixes.{At-prefix_front, length-filter_prefix}

-- by one command, when the list and the history have grown
pub IsMade-grown : (script : ScriptValue) (tree longer : List TreeEntryValue) (i k : ℕ) (list more : List SliceEntry)
    → IsPrefix tree longer → k < length tree → IsPrefix list more → IsMade script tree i k list
    → IsMade script longer i k more
IsMade-grown script tree longer i k list more history fits prefix made h c at is =
    let there : At tree k h = At-prefix_front tree longer k h history at fits in
    let same : owed_by_command script tree i k c ≡ owed_by_command script longer i k c =
    owed_by_command-prefix script tree longer i k c history (omega (arith, fits)) in
    omega (arith, made h c there is, ap length same, length-filter_prefix (is_made_by h.thread h.op) list more prefix)

-- by all before an epoch that there was
pub AreMade-grown : (script : ScriptValue) (v w : JournalsValue) (epoch : ℕ)
    → HasGrown v w → epoch ≤ length v.tree → AreMade script v epoch
    → AreMade script w epoch
AreMade-grown script v w epoch grown fits made i k within less =
    IsMade-grown script v.tree w.tree i k (slice_at v i) (slice_at w i) grown.tree (omega (arith, less, fits)) (grown.slices i)
    (made i k within less)
