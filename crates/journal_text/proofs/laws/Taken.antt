-- Numbers taken from the front of a text, and those that follow.
use Rattle.std.proofs.Common.{◌≡◌, ℕ, zero, suc, ◌+◌, ◌^◌, ◌<◌, ◌≤◌, List, [], ◌∷◌, ◌++◌, length, take, drop, decimal, refl, sym, ap, ◌∙◌, arith, subst, append_assoc, length-take, length-drop}
use Rattle.std.proofs.lemmas.List.{append-nil, take-append-drop}
use Rattle.journal_text.specs.Lines.{fields}
use Rattle.journal_text.specs.Taken.{AreNumbers, EndsWord, IsNotJust, IsSplit, Takes, TakesNone}
use Rattle.journal_text.proofs.laws.Fields.{EndsWord-fields, Takes-unique, fields-append, fields-cons, fields-nil}
use Rattle.journal_text.proofs.laws.Words.{IsWord-decimal, split-unique}

-- ---- fewer numbers, and the numbers after them

-- numbers of a front
pub AreNumbers-take : (k : ℕ) (ns : List ℕ) → AreNumbers ns → AreNumbers (take k ns)
AreNumbers-take zero ns fit = tt
AreNumbers-take (suc k) [] fit = tt
AreNumbers-take (suc k) (n ∷ ns) fit = (fit.0, AreNumbers-take k ns fit.1)

-- numbers of what follows it
pub AreNumbers-drop : (k : ℕ) (ns : List ℕ) → AreNumbers ns → AreNumbers (drop k ns)
AreNumbers-drop zero ns fit = fit
AreNumbers-drop (suc k) [] fit = tt
AreNumbers-drop (suc k) (n ∷ ns) fit = AreNumbers-drop k ns fit.1

-- numbers before numbers
pub AreNumbers-append : (ms ns : List ℕ) → AreNumbers ms → AreNumbers ns → AreNumbers (ms ++ ns)
AreNumbers-append [] ns m n = n
AreNumbers-append (x ∷ ms) ns m n = (m.0, AreNumbers-append ms ns m.1 n)

-- the first of the numbers, and the rest
pub Takes-take : (k : ℕ) (ns more text : List ℕ) → Takes ns more text → Takes (take k ns) (fields (drop k ns) ++ more) text
Takes-take k ns more text t = record {
  same = t.same ∙ ap (λ (ms : List ℕ). fields ms ++ more) (sym (take-append-drop k ns)) ∙ ap (λ (ms : List ℕ). ms ++ more) (fields-append (take k ns) (drop k ns)) ∙ append_assoc (fields (take k ns)) (fields (drop k ns)) more;
  fit = AreNumbers-take k ns t.fit;
  ends = EndsWord-fields (drop k ns) more t.ends;
}

-- the numbers after the first
pub Takes-drop : (k : ℕ) (ns more text : List ℕ) → Takes ns more text → Takes (drop k ns) more (fields (drop k ns) ++ more)
Takes-drop k ns more text t = record { same = refl; fit = AreNumbers-drop k ns t.fit; ends = t.ends }

-- some numbers, and more of them
pub Takes-append : (ms ns rest more text : List ℕ) → Takes ms rest text → Takes ns more rest → Takes (ms ++ ns) more text
Takes-append ms ns rest more text m n = record {
  same = m.same ∙ ap (λ (t : List ℕ). fields ms ++ t) n.same ∙ sym (append_assoc (fields ms) (fields ns) more) ∙ ap (λ (t : List ℕ). t ++ more) (sym (fields-append ms ns));
  fit = AreNumbers-append ms ns m.fit n.fit;
  ends = n.ends;
}

-- where there are no numbers, there are no more of them
pub TakesNone-more : (k count : ℕ) (text : List ℕ) → k ≤ count → TakesNone k text → TakesNone count text
TakesNone-more k count text few none ns more len t = none (take k ns) (fields (drop k ns) ++ more) (omega (arith, length-take k ns)) (Takes-take k ns more text t)

-- numbers that are some others, and then more, leave those
pub Takes-after : (ms ns rest more text : List ℕ) → length ms ≤ length ns → Takes ms rest text → Takes ns more text → (ms ≡ take (length ms) ns) × Takes (drop (length ms) ns) more rest
Takes-after ms ns rest more text few m n =
    let k = length ms in
    let both = Takes-unique ms (take k ns) rest (fields (drop k ns) ++ more) text (omega (arith, length-take k ns)) m (Takes-take k ns more text n) in
    (both.0, subst (λ (t : List ℕ). Takes (drop k ns) more t) (sym both.1) (Takes-drop k ns more text n))

-- where no numbers follow some, there are not both
pub TakesNone-after : (k count : ℕ) (ms rest text : List ℕ) → length ms + k ≡ count → Takes ms rest text → TakesNone k rest → TakesNone count text
TakesNone-after k count ms rest text sum m none ns more len t =
    none (drop (length ms) ns) more (omega (arith, length-drop (length ms) ns)) (Takes-after ms ns rest more text (omega arith) m t).1

-- a text that does not begin with numbers is not more of them
pub IsNotJust-more : (k count : ℕ) (text : List ℕ) → k ≤ count → TakesNone k text → IsNotJust count text
IsNotJust-more k count text few none ns len t = TakesNone-more k count text few none ns [] len t

-- a text of some numbers and more is not the numbers alone
pub IsNotJust-rest : (ms rest text : List ℕ) → Takes ms rest text → (rest ≡ [] → ⊥) → IsNotJust (length ms) text
IsNotJust-rest ms rest text m some ns len t = some (Takes-unique ms ns rest [] text (sym len) m t).1

-- where what follows some numbers is no others, the text is not both
pub IsNotJust-after : (k count : ℕ) (ms rest text : List ℕ) → length ms + k ≡ count → Takes ms rest text → IsNotJust k rest → IsNotJust count text
IsNotJust-after k count ms rest text sum m none ns len t =
    none (drop (length ms) ns) (omega (arith, length-drop (length ms) ns)) (Takes-after ms ns rest [] text (omega arith) m t).1

-- ---- one number

-- a space and the text of a number, which a word's end follows
pub Takes-one : (n : ℕ) (after word rest text : List ℕ) → n < 2 ^ 64 → text ≡ 32 ∷ after → IsSplit word rest after → decimal n ≡ word → Takes (n ∷ []) rest text
Takes-one n after word rest text small space split is = record {
  same = space ∙ ap (λ (t : List ℕ). 32 ∷ t) (split.same ∙ ap (λ (t : List ℕ). t ++ rest) (sym is)) ∙ sym (ap (λ (t : List ℕ). t ++ rest) (fields-cons n [] ∙ ap (λ (t : List ℕ). 32 ∷ (decimal n ++ t)) fields-nil ∙ ap (λ (t : List ℕ). 32 ∷ t) (append-nil (decimal n))));
  fit = (small, tt);
  ends = split.word_ends;
}

-- a text of one number begins with a space
front_of-one : (numbers more text : List ℕ) → length numbers ≡ 1 → Takes numbers more text → (n : ℕ) × (n < 2 ^ 64) × (text ≡ 32 ∷ (decimal n ++ more))
front_of-one [] more text one t = absurd (omega arith)
front_of-one (n ∷ []) more text one t = (n, t.fit.0, t.same ∙ ap (λ (s : List ℕ). s ++ more) (fields-cons n [] ∙ ap (λ (s : List ℕ). 32 ∷ (decimal n ++ s)) fields-nil ∙ ap (λ (s : List ℕ). 32 ∷ s) (append-nil (decimal n))))
front_of-one (n ∷ m ∷ ns) more text one t = absurd (omega arith)

-- where there is no space, there is no number
pub TakesNone-space : (text : List ℕ) → ((rest : List ℕ) → text ≡ 32 ∷ rest → ⊥) → TakesNone 1 text
TakesNone-space text none numbers more one t = let f = front_of-one numbers more text one t in none (decimal f.0 ++ more) f.2

-- and none where the word after the space is no number
pub TakesNone-word : (after word rest text : List ℕ) → text ≡ 32 ∷ after → IsSplit word rest after → ((n : ℕ) → n < 2 ^ 64 → decimal n ≡ word → ⊥) → TakesNone 1 text
TakesNone-word after word rest text space split none numbers more one t =
    let f = front_of-one numbers more text one t in
    let tail : decimal f.0 ++ more ≡ word ++ rest = (let e : 32 ∷ (decimal f.0 ++ more) ≡ 32 ∷ after = sym f.2 ∙ space in let same : decimal f.0 ++ more ≡ after = cc in same) ∙ split.same in
    none f.0 f.1 (split-unique (decimal f.0) word more rest (IsWord-decimal f.0 f.1) split.word_has_no_space t.ends split.word_ends tail).0

-- no numbers are taken from a text before which a word ends
pub Takes-nothing : (text : List ℕ) → EndsWord text → Takes [] text text
Takes-nothing text ends = record { same = ap (λ (t : List ℕ). t ++ text) (sym fields-nil); fit = tt; ends = ends }
