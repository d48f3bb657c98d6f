-- One more domain at the end of a text.
use Rattle.std.proofs.Common.{◌≡◌, ℕ, zero, suc, ◌+◌, ◌<◌, ◌≤◌, List, [], ◌∷◌, ◌++◌, length, map, refl, sym, ap, ◌∙◌, arith, append_assoc, zero-add, take, get_or}
use Rattle.std.specs.List.{enumerate_from, join_with_byte}
use Rattle.std.proofs.lemmas.List.{append-nil, length-append, length-map, length-take-le, map-append, take_more}
use Rattle.std.proofs.lemmas.List.FromFn.{length-enumerate_from}
use Rattle.mode_rules.specs.declared.domain_use.DomainUse.{DomainUse}
use Rattle.bit_usage.specs.Usage.{domain_text, usage_text}

-- one more piece comes after a separator
join_with_byte-push : (c : ℕ) (pieces : List (List ℕ)) (piece : List ℕ) → 0 < length pieces → join_with_byte c (pieces ++ piece ∷ []) ≡ join_with_byte c pieces ++ c ∷ piece
join_with_byte-push c [] piece some = absurd (omega arith)
join_with_byte-push c (x ∷ []) piece some = refl
join_with_byte-push c (x ∷ y ∷ ys) piece some =
    ap (λ (rest : List ℕ). x ++ c ∷ rest) (join_with_byte-push c (y ∷ ys) piece (omega arith)) ∙ sym (append_assoc x (c ∷ join_with_byte c (y ∷ ys)) (c ∷ piece))

-- one more element has the next number
enumerate_from-push : {X : Type 0} (n : ℕ) (xs : List X) (x : X) → enumerate_from n (xs ++ x ∷ []) ≡ enumerate_from n xs ++ (n + length xs, x) ∷ []
enumerate_from-push n [] x = (let at : n + 0 ≡ n = omega arith in rw at refl)
enumerate_from-push n (y ∷ ys) x =
    let at : n + 1 + length ys ≡ n + suc (length ys) = omega arith in
    ap (λ rest. (n, y) ∷ rest) (enumerate_from-push (n + 1) ys x ∙ rw at refl)

-- the text of the first domain
pub usage_text-one : (ways : ℕ) (used : DomainUse) → usage_text ways (used ∷ []) ≡ domain_text ways (0, used)
unfolding usage_text
usage_text-one ways used = refl

-- the text with one more domain after others
pub usage_text-push : (ways : ℕ) (before : List DomainUse) (used : DomainUse) → 0 < length before → usage_text ways (before ++ used ∷ []) ≡ usage_text ways before ++ 59 ∷ domain_text ways (length before, used)
unfolding usage_text
usage_text-push ways before used some =
    let pieces = map (domain_text ways) (enumerate_from 0 before) in
    ap (λ (xs : List (ℕ × DomainUse)). join_with_byte 59 (map (domain_text ways) xs)) (enumerate_from-push 0 before used)
    ∙ ap (join_with_byte 59) (map-append (domain_text ways) (enumerate_from 0 before) ((0 + length before, used) ∷ []))
    ∙ join_with_byte-push 59 pieces (domain_text ways (0 + length before, used)) (omega (arith, length-map (enumerate_from 0 before) (domain_text ways), length-enumerate_from 0 before, some))
    ∙ ap (λ (n : ℕ). join_with_byte 59 pieces ++ 59 ∷ domain_text ways (n, used)) (zero-add (length before))

-- the text of the domains so far and the next, where there are some before it
usage_text-take_more : (ways : ℕ) (used : List DomainUse) (i : ℕ) (d : DomainUse) → i < length used → 0 < i → usage_text ways (take (i + 1) used) ≡ usage_text ways (take i used) ++ 59 ∷ domain_text ways (i, get_or used i d)
usage_text-take_more ways used i d lt some =
    let len : length (take i used) ≡ i = length-take-le i used (omega arith) in
    ap (usage_text ways) (take_more used i d lt)
    ∙ usage_text-push ways (take i used) (get_or used i d) (omega arith)
    ∙ ap (λ (n : ℕ). usage_text ways (take i used) ++ 59 ∷ domain_text ways (n, get_or used i d)) len

-- the text of the first alone
usage_text-take_one : (ways : ℕ) (used : List DomainUse) (d : DomainUse) → 0 < length used → usage_text ways (take (0 + 1) used) ≡ domain_text ways (0, get_or used 0 d)
usage_text-take_one ways used d lt = ap (usage_text ways) (take_more used 0 d lt) ∙ usage_text-one ways (get_or used 0 d)

-- the text of none
pub usage_text-nil : (ways : ℕ) → usage_text ways [] ≡ []
unfolding usage_text
usage_text-nil ways = refl

-- a further domain, after its separator
pub usage_text-next : (ways : ℕ) (used : List DomainUse) (i : ℕ) (d : DomainUse) (start far mid new : List ℕ) → i < length used → 0 < i → far ≡ start ++ usage_text ways (take i used) → mid ≡ far ++ 59 ∷ [] → new ≡ mid ++ domain_text ways (i, get_or used i d) → new ≡ start ++ usage_text ways (take (i + 1) used)
usage_text-next ways used i d start far mid new lt some far_is mid_is new_is =
    let text = usage_text ways (take i used) in
    let domain = domain_text ways (i, get_or used i d) in
    new_is ∙ ap (λ (xs : List ℕ). xs ++ domain) (mid_is ∙ ap (λ (xs : List ℕ). xs ++ 59 ∷ []) far_is)
    ∙ append_assoc (start ++ text) (59 ∷ []) domain ∙ append_assoc start text (59 ∷ domain)
    ∙ ap (λ (xs : List ℕ). start ++ xs) (sym (usage_text-take_more ways used i d lt some))

-- and how long it makes the text
pub length-usage_text_next : (ways : ℕ) (used : List DomainUse) (i : ℕ) (d : DomainUse) → i < length used → 0 < i → length (usage_text ways (take (i + 1) used)) ≡ length (usage_text ways (take i used)) + 1 + length (domain_text ways (i, get_or used i d))
length-usage_text_next ways used i d lt some =
    ap length (usage_text-take_more ways used i d lt some) ∙ length-append (usage_text ways (take i used)) (59 ∷ domain_text ways (i, get_or used i d)) ∙ omega arith

-- the first domain
pub usage_text-first : (ways : ℕ) (used : List DomainUse) (i : ℕ) (d : DomainUse) (start far new : List ℕ) → i < length used → i ≤ 0 → far ≡ start ++ usage_text ways (take i used) → new ≡ far ++ domain_text ways (i, get_or used i d) → new ≡ start ++ usage_text ways (take (i + 1) used)
usage_text-first ways used zero d start far new lt le far_is new_is =
    new_is ∙ ap (λ (xs : List ℕ). xs ++ domain_text ways (0, get_or used 0 d)) (far_is ∙ ap (λ (xs : List ℕ). start ++ xs) (usage_text-nil ways) ∙ append-nil start)
    ∙ ap (λ (xs : List ℕ). start ++ xs) (sym (usage_text-take_one ways used d lt))
usage_text-first ways used (suc i) d start far new lt le far_is new_is = absurd (omega arith)

-- and how long it makes the text
pub length-usage_text_first : (ways : ℕ) (used : List DomainUse) (i : ℕ) (d : DomainUse) → i < length used → i ≤ 0 → length (usage_text ways (take (i + 1) used)) ≡ length (usage_text ways (take i used)) + length (domain_text ways (i, get_or used i d))
length-usage_text_first ways used zero d lt le = ap length (usage_text-take_one ways used d lt) ∙ omega (arith, ap length (usage_text-nil ways))
length-usage_text_first ways used (suc i) d lt le = absurd (omega arith)
