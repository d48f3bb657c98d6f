-- What stands past the end of a list of entries.
use Rattle.std.proofs.Common.{false}
use Rattle.cache_core.specs.declared.entry.SliceEntry.{SliceEntry}
use Rattle.cache_core.specs.declared.entry.What.TheVariants as whats

-- an entry that no list needs
abbrev pub no_entry : SliceEntry
no_entry = record { thread = 0; op = 0; epoch = 0; what = whats.Access false 0 (record { 0 = 0 }) 0 0 0 }
