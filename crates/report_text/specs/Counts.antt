-- The text of counts of accesses, hits and misses.
use Rattle.std.specs.Prelude.{ℕ, Bool, not, ◌&&◌, List, ◌++◌, codes, decimal}
use Rattle.cache_core.specs.declared.entry.What.{What}
use Rattle.cache_core.specs.Whats.{is_hit}
use Rattle.run_counts.specs.Counts.{count_entries}
use Rattle.run_counts.specs.declared.counts.Counts.{Counts}
use Rattle.run_law.specs.Journals.{JournalsValue}
use Rattle.script_ops.specs.Values.{ScriptValue}

-- the accesses that pass a test, and of these the hits and the misses
abbrev pub counts_text : ScriptValue → JournalsValue → (What → Bool) → List ℕ
counts_text script j p =
    codes "accesses " ++ decimal (count_entries script j p) ++ codes " hits " ++ decimal (count_entries script j (λ what. p what && is_hit what))
    ++ codes " misses " ++ decimal (count_entries script j (λ what. p what && not (is_hit what)))

-- (For proofs.) these counts: `accesses A hits H misses M`
abbrev pub counts_told : Counts → List ℕ
counts_told c = codes "accesses " ++ decimal c.accesses ++ codes " hits " ++ decimal c.hits ++ codes " misses " ++ decimal c.misses
