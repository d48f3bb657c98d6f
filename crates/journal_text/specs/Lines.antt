-- The lines of a journal text.
use Rattle.std.specs.Prelude.{ℕ, ◌+◌, ◌%◌, List, [], ◌∷◌, ◌++◌, length, map, codes, decimal, Option, Some, None}
use Rattle.std.specs.List.{flat_map}
use Rattle.lists.specs.Sums.{one_if}
use Rattle.cache_core.specs.declared.entry.SliceEntry.{SliceEntry}
use Rattle.cache_core.specs.declared.entry.What.{What}
use Rattle.cache_core.specs.declared.entry.What.TheVariants.{Access, Raise, Flush, Lock, Look, Drop}
use Rattle.machine.specs.Slices.{domain_in}
use Rattle.machine.specs.declared.parameters.Parameters.{Parameters}
use Rattle.rc_base.specs.Replies.{number_of}
use Rattle.rc_base.specs.declared.replies.Reply.{Reply}
use Rattle.rc_base.specs.declared.replies.Reply.TheVariants as replies
use Rattle.run_law.specs.Journals.{JournalsValue}
use Rattle.run_law.specs.TreeHistory.{TreeEntryValue}

-- numbers in decimal, each after one space
unfoldable pub fields : List ℕ → List ℕ
fields numbers = flat_map (λ n. 32 ∷ decimal n) numbers

-- a word and its numbers
abbrev pub line_of : List ℕ → List ℕ → List ℕ
line_of word numbers = word ++ fields numbers

-- ---- the line of an entry of a slice

-- the thread, the number of the op, and the epoch, which each entry has
abbrev pub made_by : SliceEntry → List ℕ
made_by e = e.thread ∷ e.op ∷ e.epoch ∷ []

-- the way that a line was flushed from, or a dash
abbrev pub way_word : Option ℕ → List ℕ
way_word None = codes " -"
way_word (Some way) = fields (way ∷ [])

-- what happened, after the numbers that each entry has
abbrev pub line_with : List ℕ → What → List ℕ
line_with made (Access hit way owner rmid mask line) = line_of (codes "access") (made ++ owner.0 ∷ rmid ∷ mask ∷ line ∷ one_if hit ∷ way ∷ [])
line_with made Raise = line_of (codes "raise") made
line_with made Flush = line_of (codes "flush") made
line_with made (Lock mask first_line) = line_of (codes "lock") (made ++ mask ∷ first_line ∷ [])
line_with made (Look rmid lines) = line_of (codes "look") (made ++ rmid ∷ lines ∷ [])
line_with made (Drop line way) = line_of (codes "drop") (made ++ line ∷ []) ++ way_word way

-- the line of an entry of a slice
abbrev pub entry_line : SliceEntry → List ℕ
entry_line e = line_with (made_by e) e.what

-- ---- the line of a command that the tree took

-- the number of the reason of a refusal, and 0 where the command was accepted
abbrev pub reason_in : Reply → ℕ
reason_in replies.Ok = 0
reason_in (replies.Refused errno why arg) = number_of why

-- the argument of the reason of a refusal, and 0 where the command was accepted
abbrev pub argument_in : Reply → ℕ
argument_in replies.Ok = 0
argument_in (replies.Refused errno why arg) = arg

-- the line of a command that the tree took
abbrev pub command_line : TreeEntryValue → List ℕ
command_line e = line_of (codes "tree") (e.thread ∷ e.op ∷ reason_in e.reply ∷ argument_in e.reply ∷ length e.looks ∷ e.looks)

-- ---- the whole text

-- the first line
abbrev pub first_line : List ℕ
first_line = codes "journal 1"

-- the last line
abbrev pub last_line : List ℕ
last_line = codes "end"

-- the line before the entries of a slice, by its number over all domains, and how many they are
abbrev pub slice_line : Parameters → ℕ → ℕ → List ℕ
slice_line m i count = line_of (codes "slice") (domain_in m i ∷ i % m.slices ∷ count ∷ [])

-- the lines of a slice
abbrev pub slice_lines : Parameters → ℕ → List SliceEntry → List (List ℕ)
slice_lines m i entries = slice_line m i (length entries) ∷ map entry_line entries

-- the lines of slices, of which the first has this number
unfoldable pub lines_from : Parameters → ℕ → List (List SliceEntry) → List (List ℕ)
lines_from m i [] = []
lines_from m i (entries ∷ slices) = slice_lines m i entries ++ lines_from m (i + 1) slices

-- all lines of journals, without their newlines
unfoldable pub journal_lines : Parameters → JournalsValue → List (List ℕ)
journal_lines m j = first_line ∷ map command_line j.tree ++ lines_from m 0 j.slices ++ last_line ∷ []

-- lines, each ended by a newline
unfoldable pub text_of : List (List ℕ) → List ℕ
text_of lines = flat_map (λ line. line ++ 10 ∷ []) lines

-- the text of journals
abbrev pub journal_text : Parameters → JournalsValue → List ℕ
journal_text m j = text_of (journal_lines m j)
