-- An entry's line, read part by part.
use Rattle.std.proofs.Common.{◌≡◌, ℕ, ◌^◌, ◌<◌, List, [], ◌∷◌, ◌++◌, get_or, refl, sym, ap, subst, ◌∙◌}
use Rattle.cache_core.specs.declared.entry.SliceEntry.{SliceEntry}
use Rattle.cache_core.specs.declared.entry.What.{What}
use Rattle.machine.specs.declared.parameters.Parameters.{Parameters}
use Rattle.journal_text.specs.Kinds.{IsRest, kind_of, rest_of, word_of}
use Rattle.journal_text.specs.Lines.{entry_line, fields, made_by}
use Rattle.journal_text.specs.Taken.{IsSplit, Takes, TakesNone}
use Rattle.journal_text.specs.Writable.{IsWritableEntry}
use Rattle.journal_text.specs.declared.kind.EntryKind.{EntryKind}
use Rattle.journal_text.proofs.laws.FirstWords.{word_of-injective}
use Rattle.journal_text.proofs.laws.EntryLines.{EntryIs-line, entry_line-parts}
use Rattle.journal_text.proofs.laws.Fields.{Takes-unique}

module _ (m : Parameters) (i : ℕ) (word after line : List ℕ) (split : IsSplit word after line) where
  -- a word that names no kind begins no entry's line
  pub no_kind : ((kind : EntryKind) → word_of kind ≡ word → ⊥) → (e : SliceEntry) → IsWritableEntry m i e → entry_line e ≡ line → ⊥
  no_kind none e w same = none (kind_of e.what) (EntryIs-line m i word after line split e w same).kind

  -- a text that does not begin with three numbers follows no word of an entry's line
  pub no_numbers : TakesNone 3 after → (e : SliceEntry) → IsWritableEntry m i e → entry_line e ≡ line → ⊥
  no_numbers none e w same = none (made_by e) (rest_of e.what) refl (EntryIs-line m i word after line split e w same).takes

  module _ (thread op epoch : ℕ) (rest : List ℕ) (takes : Takes (thread ∷ op ∷ epoch ∷ []) rest after) where
    -- the numbers of an entry and the rest of its line
    numbers_are : (e : SliceEntry) → IsWritableEntry m i e → entry_line e ≡ line → (made_by e ≡ thread ∷ op ∷ epoch ∷ []) × (rest_of e.what ≡ rest)
    numbers_are e w same = Takes-unique (made_by e) (thread ∷ op ∷ epoch ∷ []) (rest_of e.what) rest after refl (EntryIs-line m i word after line split e w same).takes takes

    -- a number that is no thread's
    pub no_thread : (thread < 2 ^ 32 → ⊥) → (e : SliceEntry) → IsWritableEntry m i e → entry_line e ≡ line → ⊥
    no_thread great e w same = great (subst (λ (n : ℕ). n < 2 ^ 32) (ap (λ (xs : List ℕ). get_or xs 0 0) (numbers_are e w same).0) w.thread)

    -- a number that is no op's
    pub no_op : (op < 2 ^ 32 → ⊥) → (e : SliceEntry) → IsWritableEntry m i e → entry_line e ≡ line → ⊥
    no_op great e w same = great (subst (λ (n : ℕ). n < 2 ^ 32) (ap (λ (xs : List ℕ). get_or xs 1 0) (numbers_are e w same).0) w.op)

    -- a rest that is that of nothing that happens
    pub no_what : (kind : EntryKind) → word_of kind ≡ word → ((what : What) → IsRest m i kind rest what → ⊥) → (e : SliceEntry) → IsWritableEntry m i e → entry_line e ≡ line → ⊥
    no_what kind named none e w same = none e.what (record {
      kind_is = word_of-injective (kind_of e.what) kind ((EntryIs-line m i word after line split e w same).kind ∙ sym named);
      writable = w.what;
      same = (numbers_are e w same).1;
    })

    -- the line of what was read
    pub entry_line-read : (kind : EntryKind) (what : What) (t o : ℕ) → word_of kind ≡ word → IsRest m i kind rest what → t ≡ thread → o ≡ op → entry_line (record { thread = t; op = o; epoch = epoch; what = what }) ≡ line
    entry_line-read kind what t o named is t_is o_is =
        entry_line-parts (record { thread = t; op = o; epoch = epoch; what = what })
        ∙ ap (λ (k : EntryKind). word_of k ++ (fields (t ∷ o ∷ epoch ∷ []) ++ rest_of what)) is.kind_is
        ∙ ap (λ (r : List ℕ). word_of kind ++ (fields (t ∷ o ∷ epoch ∷ []) ++ r)) is.same
        ∙ ap (λ (w : List ℕ). w ++ (fields (t ∷ o ∷ epoch ∷ []) ++ rest)) named
        ∙ ap (λ (n : ℕ). word ++ (fields (n ∷ o ∷ epoch ∷ []) ++ rest)) t_is
        ∙ ap (λ (n : ℕ). word ++ (fields (thread ∷ n ∷ epoch ∷ []) ++ rest)) o_is
        ∙ ap (λ (r : List ℕ). word ++ r) (sym takes.same)
        ∙ sym split.same
