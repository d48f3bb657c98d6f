-- No line has a newline in it.
use Rattle.std.proofs.Common.{◌≡◌, ℕ, ◌^◌, ◌<◌, ◌≤◌, false, ◌==◌, List, [], ◌∷◌, ◌++◌, Option, Some, None, codes, decimal, refl, ◌∙◌, arith}
use Rattle.std.specs.List.{list_any}
use Rattle.std.proofs.lemmas.List.Folds.{list_any-append}
use Rattle.cache_core.specs.declared.entry.SliceEntry.{SliceEntry}
use Rattle.cache_core.specs.declared.entry.What.{What}
use Rattle.cache_core.specs.declared.entry.What.TheVariants.{Access, Raise, Flush, Lock, Look, Drop}
use Rattle.lists.specs.Sums.{one_if}
use Rattle.machine.specs.declared.parameters.Parameters.{Parameters}
use Rattle.num_text.proofs.laws.Digits.{AllDigits-decimal, eqb-decimal, list_any-decimal}
use Rattle.run_law.specs.TreeHistory.{TreeEntryValue}
use Rattle.journal_text.specs.Kinds.{kind_of, rest_of, word_of}
use Rattle.journal_text.specs.Lines.{command_line, entry_line, fields, first_line, last_line, made_by, slice_line, way_word}
use Rattle.journal_text.specs.Taken.{AreNumbers}
use Rattle.journal_text.specs.Writable.{HasText, IsWay, IsWritableCommand, IsWritableEntry}
use Rattle.journal_text.specs.declared.kind.EntryKind.{EntryKind}
use Rattle.journal_text.specs.declared.kind.EntryKind.TheVariants as kinds
use Rattle.journal_text.proofs.laws.CommandLines.{AreNumbers-numbers_of, numbers_of}
use Rattle.journal_text.proofs.laws.EntryLines.{AreNumbers-access, AreNumbers-drop_line, AreNumbers-lock, AreNumbers-look, AreNumbers-way, Takes-entry_line, entry_line-parts}
use Rattle.journal_text.proofs.laws.Fields.{fields-cons, fields-nil}
use Rattle.journal_text.proofs.laws.SliceLines.{AreNumbers-place_and_count, place_and_count}

-- a text without a newline
abbrev pub HasNoNewline : List ℕ → Type 0
HasNoNewline text = list_any (λ b. b == 10) text ≡ false

-- two such texts
HasNoNewline-append : (xs ys : List ℕ) → HasNoNewline xs → HasNoNewline ys → HasNoNewline (xs ++ ys)
HasNoNewline-append xs ys x y = list_any-append (λ b. b == 10) xs ys ∙ rw (x, y) refl

-- numbers have none
pub HasNoNewline-fields : (ns : List ℕ) → AreNumbers ns → HasNoNewline (fields ns)
HasNoNewline-fields [] fit = rw fields-nil refl
HasNoNewline-fields (n ∷ ns) fit =
    rw (fields-cons n ns) (HasNoNewline-append (decimal n) (fields ns) (list_any-decimal (λ b. b == 10) (λ c digit. eqb-decimal c 10 (omega arith) digit) (decimal n) (AllDigits-decimal n fit.0)) (HasNoNewline-fields ns fit.1))

-- nor has the word of a way
HasNoNewline-way_word : (m : Parameters) (way : Option ℕ) → m.ways ≤ 32 → IsWay m way → HasNoNewline (way_word way)
HasNoNewline-way_word m None narrow is = refl
HasNoNewline-way_word m (Some way) narrow is = HasNoNewline-fields (way ∷ []) (AreNumbers-way m way narrow is)

-- the rest of a line
HasNoNewline-rest_of : (m : Parameters) (i : ℕ) (what : What) → m.ways ≤ 32 → HasText m i what → HasNoNewline (rest_of what)
HasNoNewline-rest_of m i (Access hit way owner rmid mask line) narrow text = HasNoNewline-fields (owner.0 ∷ rmid ∷ mask ∷ line ∷ one_if hit ∷ way ∷ []) (AreNumbers-access m i hit way owner rmid mask line narrow text)
HasNoNewline-rest_of m i Raise narrow text = refl
HasNoNewline-rest_of m i Flush narrow text = refl
HasNoNewline-rest_of m i (Lock mask line) narrow text = HasNoNewline-fields (mask ∷ line ∷ []) (AreNumbers-lock m i mask line text)
HasNoNewline-rest_of m i (Look rmid lines) narrow text = HasNoNewline-fields (rmid ∷ lines ∷ []) (AreNumbers-look m i rmid lines text)
HasNoNewline-rest_of m i (Drop line way) narrow text = HasNoNewline-append (fields (line ∷ [])) (way_word way) (HasNoNewline-fields (line ∷ []) (AreNumbers-drop_line m i line way text)) (HasNoNewline-way_word m way narrow text.1)

-- the words of entries
HasNoNewline-word_of : (kind : EntryKind) → HasNoNewline (word_of kind)
HasNoNewline-word_of kinds.Access = refl
HasNoNewline-word_of kinds.Raise = refl
HasNoNewline-word_of kinds.Flush = refl
HasNoNewline-word_of kinds.Lock = refl
HasNoNewline-word_of kinds.Look = refl
HasNoNewline-word_of kinds.Drop = refl

-- the line of an entry
pub HasNoNewline-entry_line : (m : Parameters) (i : ℕ) (e : SliceEntry) → m.ways ≤ 32 → IsWritableEntry m i e → HasNoNewline (entry_line e)
HasNoNewline-entry_line m i e narrow w =
    rw (entry_line-parts e) (HasNoNewline-append (word_of (kind_of e.what)) (fields (made_by e) ++ rest_of e.what) (HasNoNewline-word_of (kind_of e.what))
    (HasNoNewline-append (fields (made_by e)) (rest_of e.what) (HasNoNewline-fields (made_by e) (Takes-entry_line m i e w).fit) (HasNoNewline-rest_of m i e.what narrow w.what)))

-- of a command
pub HasNoNewline-command_line : (weight : ℕ) (e : TreeEntryValue) → weight < 2 ^ 64 → IsWritableCommand weight e → HasNoNewline (command_line e)
HasNoNewline-command_line weight e light w = HasNoNewline-append (codes "tree") (fields (numbers_of e)) refl (HasNoNewline-fields (numbers_of e) (AreNumbers-numbers_of weight e light w))

-- of a slice
pub HasNoNewline-slice_line : (m : Parameters) (i count : ℕ) → i < 2 ^ 64 → count < 2 ^ 64 → HasNoNewline (slice_line m i count)
HasNoNewline-slice_line m i count small few = HasNoNewline-append (codes "slice") (fields (place_and_count m i count)) refl (HasNoNewline-fields (place_and_count m i count) (AreNumbers-place_and_count m i count small few))

-- the first line
pub HasNoNewline-first_line : HasNoNewline first_line
HasNoNewline-first_line = refl

-- and the last
pub HasNoNewline-last_line : HasNoNewline last_line
HasNoNewline-last_line = refl
