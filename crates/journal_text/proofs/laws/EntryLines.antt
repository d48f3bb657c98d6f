-- The line of an entry, by its word, the numbers that each entry has, and the rest.
use Rattle.std.proofs.Common.{◌≡◌, ℕ, ◌^◌, ◌<◌, ◌≤◌, Bool, true, false, List, [], ◌∷◌, ◌++◌, Option, Some, None, codes, refl, sym, ap, subst, ◌∙◌, arith, append_assoc, lt_of_lt_of_le}
use Rattle.std.proofs.lemmas.List.{append-nil}
use Rattle.cache_core.specs.declared.entry.SliceEntry.{SliceEntry}
use Rattle.cache_core.specs.declared.entry.What.{What}
use Rattle.cache_core.specs.declared.entry.What.TheVariants.{Access, Raise, Flush, Lock, Look, Drop}
use Rattle.lists.specs.Sums.{one_if}
use Rattle.machine.specs.declared.parameters.Parameters.{Parameters}
use Rattle.rc_base.specs.declared.names.Gid.{Gid}
use Rattle.journal_text.specs.Kinds.{kind_of, rest_of, word_of}
use Rattle.journal_text.specs.Lines.{entry_line, fields, line_with, made_by, way_word}
use Rattle.journal_text.specs.Taken.{AreNumbers, EndsWord, IsSplit, IsWord, Takes}
use Rattle.journal_text.specs.Writable.{HasText, IsWay, IsWritableEntry}
use Rattle.journal_text.specs.declared.kind.EntryKind.{EntryKind}
use Rattle.journal_text.specs.declared.kind.EntryKind.TheVariants as kinds
use Rattle.journal_text.proofs.laws.Fields.{EndsWord-fields, fields-append}
use Rattle.journal_text.proofs.laws.Words.{split-unique}

-- the line by its parts
pub line_with-parts : (made : List ℕ) (what : What) → line_with made what ≡ word_of (kind_of what) ++ (fields made ++ rest_of what)
line_with-parts made (Access hit way owner rmid mask line) = ap (λ (t : List ℕ). codes "access" ++ t) (fields-append made (owner.0 ∷ rmid ∷ mask ∷ line ∷ one_if hit ∷ way ∷ []))
line_with-parts made Raise = ap (λ (t : List ℕ). codes "raise" ++ t) (sym (append-nil (fields made)))
line_with-parts made Flush = ap (λ (t : List ℕ). codes "flush" ++ t) (sym (append-nil (fields made)))
line_with-parts made (Lock mask first_line) = ap (λ (t : List ℕ). codes "lock" ++ t) (fields-append made (mask ∷ first_line ∷ []))
line_with-parts made (Look rmid lines) = ap (λ (t : List ℕ). codes "look" ++ t) (fields-append made (rmid ∷ lines ∷ []))
line_with-parts made (Drop line way) =
    append_assoc (codes "drop") (fields (made ++ line ∷ [])) (way_word way) ∙ ap (λ (t : List ℕ). codes "drop" ++ t) (ap (λ (t : List ℕ). t ++ way_word way) (fields-append made (line ∷ [])) ∙ append_assoc (fields made) (fields (line ∷ [])) (way_word way))

-- the line of an entry by its parts
pub entry_line-parts : (e : SliceEntry) → entry_line e ≡ word_of (kind_of e.what) ++ (fields (made_by e) ++ rest_of e.what)
entry_line-parts e = line_with-parts (made_by e) e.what

-- numbers are no part of a word
pub EndsWord-numbers : (ns : List ℕ) → EndsWord (fields ns)
EndsWord-numbers ns = subst EndsWord (append-nil (fields ns)) (EndsWord-fields ns [] tt)

-- a way or a dash is none
pub EndsWord-way_word : (way : Option ℕ) → EndsWord (way_word way)
EndsWord-way_word None = refl
EndsWord-way_word (Some way) = EndsWord-numbers (way ∷ [])

-- nor is the rest of a line
pub EndsWord-rest_of : (what : What) → EndsWord (rest_of what)
EndsWord-rest_of (Access hit way owner rmid mask line) = EndsWord-numbers (owner.0 ∷ rmid ∷ mask ∷ line ∷ one_if hit ∷ way ∷ [])
EndsWord-rest_of Raise = tt
EndsWord-rest_of Flush = tt
EndsWord-rest_of (Lock mask first_line) = EndsWord-numbers (mask ∷ first_line ∷ [])
EndsWord-rest_of (Look rmid lines) = EndsWord-numbers (rmid ∷ lines ∷ [])
EndsWord-rest_of (Drop line way) = EndsWord-fields (line ∷ []) (way_word way) (EndsWord-way_word way)

-- the word of a kind has no space
pub IsWord-word_of : (kind : EntryKind) → IsWord (word_of kind)
IsWord-word_of kinds.Access = refl
IsWord-word_of kinds.Raise = refl
IsWord-word_of kinds.Flush = refl
IsWord-word_of kinds.Lock = refl
IsWord-word_of kinds.Look = refl
IsWord-word_of kinds.Drop = refl

-- the line of an entry, cut at its first space
pub IsSplit-entry_line : (e : SliceEntry) → IsSplit (word_of (kind_of e.what)) (fields (made_by e) ++ rest_of e.what) (entry_line e)
IsSplit-entry_line e = record { same = entry_line-parts e; word_has_no_space = IsWord-word_of (kind_of e.what); word_ends = EndsWord-fields (made_by e) (rest_of e.what) (EndsWord-rest_of e.what) }

-- the numbers that each entry has, and the rest
pub Takes-entry_line : (m : Parameters) (i : ℕ) (e : SliceEntry) → IsWritableEntry m i e → Takes (made_by e) (rest_of e.what) (fields (made_by e) ++ rest_of e.what)
Takes-entry_line m i e w = record { same = refl; fit = (lt_of_lt_of_le w.thread (omega arith), (lt_of_lt_of_le w.op (omega arith), (w.epoch, tt))); ends = EndsWord-rest_of e.what }

-- a line that is cut at its first space is cut in one way
pub IsSplit-unique : (word other more rest text : List ℕ) → IsSplit word more text → IsSplit other rest text → (word ≡ other) × (more ≡ rest)
IsSplit-unique word other more rest text a b = split-unique word other more rest a.word_has_no_space b.word_has_no_space a.word_ends b.word_ends (sym a.same ∙ b.same)

-- a line that is cut at its first space and is that of an entry
pub record EntryIs (e : SliceEntry) (word after : List ℕ) : Type 0 where
  pub kind : word_of (kind_of e.what) ≡ word
  pub takes : Takes (made_by e) (rest_of e.what) after

-- its word is that of the entry, and its numbers are the entry's
pub EntryIs-line : (m : Parameters) (i : ℕ) (word after line : List ℕ) → IsSplit word after line → (e : SliceEntry) → IsWritableEntry m i e → entry_line e ≡ line → EntryIs e word after
EntryIs-line m i word after line split e w same =
    let both = IsSplit-unique (word_of (kind_of e.what)) word (fields (made_by e) ++ rest_of e.what) after line (subst (λ (t : List ℕ). IsSplit (word_of (kind_of e.what)) (fields (made_by e) ++ rest_of e.what) t) same (IsSplit-entry_line e)) split in
    record { kind = both.0; takes = subst (λ (t : List ℕ). Takes (made_by e) (rest_of e.what) t) both.1 (Takes-entry_line m i e w) }

-- ---- the numbers of the rest

-- whether an access hit is a number
one_if-small : (hit : Bool) → one_if hit < 2 ^ 64
one_if-small true = omega arith
one_if-small false = omega arith

-- those of an access
pub AreNumbers-access : (m : Parameters) (i : ℕ) (hit : Bool) (way : ℕ) (owner : Gid) (rmid mask line : ℕ) → m.ways ≤ 32 → HasText m i (Access hit way owner rmid mask line) → AreNumbers (owner.0 ∷ rmid ∷ mask ∷ line ∷ one_if hit ∷ way ∷ [])
AreNumbers-access m i hit way owner rmid mask line narrow text =
    (lt_of_lt_of_le text.1 (omega arith), (lt_of_lt_of_le text.2 (omega arith), (lt_of_lt_of_le text.3.0 (omega arith), (lt_of_lt_of_le text.4.0 (omega arith), (one_if-small hit, (lt_of_lt_of_le text.0 (omega arith), tt))))))

-- of a lock
pub AreNumbers-lock : (m : Parameters) (i mask line : ℕ) → HasText m i (Lock mask line) → AreNumbers (mask ∷ line ∷ [])
AreNumbers-lock m i mask line text = (lt_of_lt_of_le text.0.0 (omega arith), (lt_of_lt_of_le text.1 (omega arith), tt))

-- of a look
pub AreNumbers-look : (m : Parameters) (i rmid lines : ℕ) → HasText m i (Look rmid lines) → AreNumbers (rmid ∷ lines ∷ [])
AreNumbers-look m i rmid lines text = (lt_of_lt_of_le text.0 (omega arith), (text.1, tt))

-- the line of a drop
pub AreNumbers-drop_line : (m : Parameters) (i line : ℕ) (way : Option ℕ) → HasText m i (Drop line way) → AreNumbers (line ∷ [])
AreNumbers-drop_line m i line way text = (lt_of_lt_of_le text.0.0 (omega arith), tt)

-- and its way
pub AreNumbers-way : (m : Parameters) (way : ℕ) → m.ways ≤ 32 → IsWay m (Some way) → AreNumbers (way ∷ [])
AreNumbers-way m way narrow is = (lt_of_lt_of_le is (omega arith), tt)
