-- Lines of different kinds begin with different words, so a line is of one kind, whatever its numbers are.
use Rattle.std.proofs.Common.{◌≡◌, ℕ, ◌+◌, ◌*◌, List, [], ◌++◌, get_or, codes, refl, ap, subst, arith}
use Rattle.cache_core.specs.declared.entry.SliceEntry.{SliceEntry}
use Rattle.machine.specs.declared.parameters.Parameters.{Parameters}
use Rattle.run_law.specs.TreeHistory.{TreeEntryValue}
use Rattle.journal_text.specs.Kinds.{kind_of, rest_of, word_of}
use Rattle.journal_text.specs.Lines.{command_line, entry_line, fields, first_line, last_line, made_by, slice_line}
use Rattle.journal_text.specs.Taken.{IsSplit}
use Rattle.journal_text.specs.declared.kind.EntryKind.{EntryKind}
use Rattle.journal_text.specs.declared.kind.EntryKind.TheVariants.{Access, Raise, Flush, Lock, Look, Drop}
use Rattle.journal_text.proofs.laws.CommandLines.{IsSplit-command_line, numbers_of}
use Rattle.journal_text.proofs.laws.EntryLines.{IsSplit-entry_line, IsSplit-unique}
use Rattle.journal_text.proofs.laws.SliceLines.{IsSplit-slice_line, place_and_count}

-- what tells words apart: the first and the third byte
unfoldable pub mark : List ℕ → ℕ
mark word = get_or word 0 0 + 256 * get_or word 2 0

-- each kind has its own word
pub word_of-injective : (j k : EntryKind) → word_of j ≡ word_of k → j ≡ k
unfolding mark
word_of-injective Access Access e = refl
word_of-injective Raise Raise e = refl
word_of-injective Flush Flush e = refl
word_of-injective Lock Lock e = refl
word_of-injective Look Look e = refl
word_of-injective Drop Drop e = refl
word_of-injective Access _ e = absurd (omega (arith, ap mark e))
word_of-injective Raise _ e = absurd (omega (arith, ap mark e))
word_of-injective Flush _ e = absurd (omega (arith, ap mark e))
word_of-injective Lock _ e = absurd (omega (arith, ap mark e))
word_of-injective Look _ e = absurd (omega (arith, ap mark e))
word_of-injective Drop _ e = absurd (omega (arith, ap mark e))

-- a line is not one that begins with a word of another mark
apart : (word more other rest : List ℕ) (s t : List ℕ) → IsSplit word more s → IsSplit other rest t → (mark word ≡ mark other → ⊥) → s ≡ t → ⊥
apart word more other rest s t a b differ same = differ (ap mark (IsSplit-unique word other more rest t (subst (λ (x : List ℕ). IsSplit word more x) same a) b).0)

-- the first line, cut at its space
IsSplit-first_line : IsSplit (codes "journal") (codes " 1") first_line
IsSplit-first_line = record { same = refl; word_has_no_space = refl; word_ends = refl }

-- the last line is one word
IsSplit-last_line : IsSplit (codes "end") [] last_line
IsSplit-last_line = record { same = refl; word_has_no_space = refl; word_ends = tt }

-- the words of entries are none of the others
record IsOfEntries (kind : EntryKind) : Type 0 where
  tree : mark (word_of kind) ≡ mark (codes "tree") → ⊥
  slice : mark (word_of kind) ≡ mark (codes "slice") → ⊥
  journal : mark (word_of kind) ≡ mark (codes "journal") → ⊥
  end : mark (word_of kind) ≡ mark (codes "end") → ⊥

-- each of them
is_of_entries : (kind : EntryKind) → IsOfEntries kind
unfolding mark
is_of_entries Access = record { tree = λ e. omega (arith, e); slice = λ e. omega (arith, e); journal = λ e. omega (arith, e); end = λ e. omega (arith, e) }
is_of_entries Raise = record { tree = λ e. omega (arith, e); slice = λ e. omega (arith, e); journal = λ e. omega (arith, e); end = λ e. omega (arith, e) }
is_of_entries Flush = record { tree = λ e. omega (arith, e); slice = λ e. omega (arith, e); journal = λ e. omega (arith, e); end = λ e. omega (arith, e) }
is_of_entries Lock = record { tree = λ e. omega (arith, e); slice = λ e. omega (arith, e); journal = λ e. omega (arith, e); end = λ e. omega (arith, e) }
is_of_entries Look = record { tree = λ e. omega (arith, e); slice = λ e. omega (arith, e); journal = λ e. omega (arith, e); end = λ e. omega (arith, e) }
is_of_entries Drop = record { tree = λ e. omega (arith, e); slice = λ e. omega (arith, e); journal = λ e. omega (arith, e); end = λ e. omega (arith, e) }

-- what stands after the word of an entry
abbrev after_word : SliceEntry → List ℕ
after_word e = fields (made_by e) ++ rest_of e.what

-- the line of an entry is none of a command
pub entry_line-command_line : (e : SliceEntry) (c : TreeEntryValue) → entry_line e ≡ command_line c → ⊥
entry_line-command_line e c = apart (word_of (kind_of e.what)) (after_word e) (codes "tree") (fields (numbers_of c)) (entry_line e) (command_line c) (IsSplit-entry_line e) (IsSplit-command_line c) (is_of_entries (kind_of e.what)).tree

-- none of a slice
pub entry_line-slice_line : (e : SliceEntry) (m : Parameters) (i count : ℕ) → entry_line e ≡ slice_line m i count → ⊥
entry_line-slice_line e m i count = apart (word_of (kind_of e.what)) (after_word e) (codes "slice") (fields (place_and_count m i count)) (entry_line e) (slice_line m i count) (IsSplit-entry_line e) (IsSplit-slice_line m i count) (is_of_entries (kind_of e.what)).slice

-- not the first
pub entry_line-first_line : (e : SliceEntry) → entry_line e ≡ first_line → ⊥
entry_line-first_line e = apart (word_of (kind_of e.what)) (after_word e) (codes "journal") (codes " 1") (entry_line e) first_line (IsSplit-entry_line e) IsSplit-first_line (is_of_entries (kind_of e.what)).journal

-- and not the last
pub entry_line-last_line : (e : SliceEntry) → entry_line e ≡ last_line → ⊥
entry_line-last_line e = apart (word_of (kind_of e.what)) (after_word e) (codes "end") [] (entry_line e) last_line (IsSplit-entry_line e) IsSplit-last_line (is_of_entries (kind_of e.what)).end

-- the line of a command is none of a slice
pub command_line-slice_line : (c : TreeEntryValue) (m : Parameters) (i count : ℕ) → command_line c ≡ slice_line m i count → ⊥
unfolding mark
command_line-slice_line c m i count = apart (codes "tree") (fields (numbers_of c)) (codes "slice") (fields (place_and_count m i count)) (command_line c) (slice_line m i count) (IsSplit-command_line c) (IsSplit-slice_line m i count) (λ e. omega (arith, e))

-- not the first
pub command_line-first_line : (c : TreeEntryValue) → command_line c ≡ first_line → ⊥
unfolding mark
command_line-first_line c = apart (codes "tree") (fields (numbers_of c)) (codes "journal") (codes " 1") (command_line c) first_line (IsSplit-command_line c) IsSplit-first_line (λ e. omega (arith, e))

-- and not the last
pub command_line-last_line : (c : TreeEntryValue) → command_line c ≡ last_line → ⊥
unfolding mark
command_line-last_line c = apart (codes "tree") (fields (numbers_of c)) (codes "end") [] (command_line c) last_line (IsSplit-command_line c) IsSplit-last_line (λ e. omega (arith, e))

-- the line of a slice is not the first
pub slice_line-first_line : (m : Parameters) (i count : ℕ) → slice_line m i count ≡ first_line → ⊥
unfolding mark
slice_line-first_line m i count = apart (codes "slice") (fields (place_and_count m i count)) (codes "journal") (codes " 1") (slice_line m i count) first_line (IsSplit-slice_line m i count) IsSplit-first_line (λ e. omega (arith, e))

-- and not the last
pub slice_line-last_line : (m : Parameters) (i count : ℕ) → slice_line m i count ≡ last_line → ⊥
unfolding mark
slice_line-last_line m i count = apart (codes "slice") (fields (place_and_count m i count)) (codes "end") [] (slice_line m i count) last_line (IsSplit-slice_line m i count) IsSplit-last_line (λ e. omega (arith, e))

-- nor is the first line the last
pub first_line-last_line : first_line ≡ last_line → ⊥
unfolding mark
first_line-last_line = apart (codes "journal") (codes " 1") (codes "end") [] first_line last_line IsSplit-first_line IsSplit-last_line (λ e. omega (arith, e))
