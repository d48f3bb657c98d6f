-- What contracts see of the entries of journals.
use Rattle.std.specs.Prelude.{List, Vec}
use Rattle.std.specs.declared.alloc.Global.{Global}
use Rattle.cache_core.specs.declared.entry.SliceEntry.{SliceEntry}
use Rattle.run_law.specs.TreeHistory.{TreeEntryValue}
use Rattle.run_law.specs.declared.journals.TreeEntry.{TreeEntry}

-- what is seen of an entry of the tree's journal
abbrev pub entry_value : TreeEntry → TreeEntryValue
entry_value e = record { thread = e.thread; op = e.op; reply = e.reply; looks = e.looks.numbers }

-- what is seen of the entries of a slice
abbrev pub entries_of : Vec SliceEntry Global → List SliceEntry
entries_of v = v.items
