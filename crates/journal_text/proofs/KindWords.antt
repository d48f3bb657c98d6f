-- Words, and the kinds of entries that they name.
use Rattle.std.proofs.Common.{◌≡◌, ℕ, true, false, List, [], ◌∷◌, codes, refl, sym, ap, ◌∙◌}
use Rattle.std.proofs.lemmas.Bool.{eq-eqb}
use Rattle.rc_base.proofs.laws.Texts.{is_text-same}
use Rattle.rc_base.specs.Texts.{is_text}
use Rattle.journal_text.specs.Kinds.{word_of}
use Rattle.journal_text.specs.declared.kind.EntryKind.{EntryKind}
use Rattle.journal_text.specs.declared.kind.EntryKind.TheVariants.{Access, Raise, Flush, Lock, Look, Drop}

-- a text is the same as itself
is_text-refl : (xs : List ℕ) → is_text xs xs ≡ true
unfolding is_text
is_text-refl [] = refl
is_text-refl (b ∷ bs) = rw (eq-eqb b b refl) (is_text-refl bs)

-- a text that passes the test is the word
pub is_word : (word text : List ℕ) → true ≡ is_text text word → word ≡ text
is_word word text e = sym (is_text-same text word (sym e))

-- and one that fails it is not
pub is_no_word : (word text : List ℕ) → false ≡ is_text text word → word ≡ text → ⊥
is_no_word word text e same = let passes : is_text text word ≡ true = ap (λ (w : List ℕ). is_text text w) same ∙ is_text-refl text in absurd (let g : false ≡ true = e ∙ passes in cc)

-- a text that is the word of no kind names none
pub word_of-none : (text : List ℕ) → false ≡ is_text text (codes "access") → false ≡ is_text text (codes "raise") → false ≡ is_text text (codes "flush")
    → false ≡ is_text text (codes "lock") → false ≡ is_text text (codes "look") → false ≡ is_text text (codes "drop") → (kind : EntryKind) → word_of kind ≡ text → ⊥
word_of-none text access raise flush lock look drop Access e = is_no_word (codes "access") text access e
word_of-none text access raise flush lock look drop Raise e = is_no_word (codes "raise") text raise e
word_of-none text access raise flush lock look drop Flush e = is_no_word (codes "flush") text flush e
word_of-none text access raise flush lock look drop Lock e = is_no_word (codes "lock") text lock e
word_of-none text access raise flush lock look drop Look e = is_no_word (codes "look") text look e
word_of-none text access raise flush lock look drop Drop e = is_no_word (codes "drop") text drop e
