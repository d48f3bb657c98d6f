-- The words of a table. Word 0 shows the number of part 0, and only a step that changes that writes it. Each lock has a word of its own, and no two of them lie on one cache line of 64 bytes.
use Rattle.std.specs.Prelude.{ℕ, ◌+◌, ◌*◌}

-- the word on which the steps under this lock are made
abbrev pub word_of : ℕ → ℕ
word_of lock = 8 * (lock + 1)

-- how many words a table for so many locks has
abbrev pub words_for : ℕ → ℕ
words_for locks = 8 * locks + 1
