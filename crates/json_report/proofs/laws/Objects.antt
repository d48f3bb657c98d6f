-- Texts of objects, by their members in the order in which they are written.
use Rattle.std.proofs.Common.{◌≡◌, ℕ, Bool, true, false, List, [], ◌∷◌, ◌++◌, refl, sym, ap, ◌∙◌}
use Rattle.std.proofs.lemmas.List.{append_assoc}
use Rattle.json_report.proofs.laws.Pieces.{compact_text-object, members_told-append}
use Rattle.json_report.specs.Pieces.{key_told, members_told}
use Rattle.json_report.specs.Values.{object_of}
use Rattle.serde_json.specs.Data.{Data}
use Rattle.serde_json.specs.Written.{compact_text}

-- a key and its value
abbrev pub Member : Type 0
Member = List ℕ × Data

-- members, and others after them
pub members_told-more : (later : Bool) (m : Member) (ms ns all : List Member) (old now new : List ℕ) → all ≡ ms ++ ns → now ≡ old ++ members_told later (m ∷ ms) → new ≡ now ++ members_told true ns → new ≡ old ++ members_told later (m ∷ all)
members_told-more later m ms ns all old now new is before more =
    let head : List ℕ = key_told later m.0 ++ compact_text m.1 in
    more
    ∙ (ap (λ (t : List ℕ). t ++ members_told true ns) before
    ∙ (append_assoc old (head ++ members_told true ms) (members_told true ns)
    ∙ ap (λ (t : List ℕ). old ++ t) (append_assoc head (members_told true ms) (members_told true ns) ∙ ap (λ (t : List ℕ). head ++ t) (sym (ap (members_told true) is ∙ members_told-append ms ns)))))

-- the same of the first members
pub members_told-then : (m : Member) (ms ns all : List Member) (old now new : List ℕ) → all ≡ ms ++ ns → now ≡ old ++ members_told false (m ∷ ms) → new ≡ now ++ members_told true ns → new ≡ old ++ members_told false (m ∷ all)
members_told-then = members_told-more false

-- five members, one after the other
pub members_told-five : (later : Bool) (m n o p q : Member) (old a b c d e : List ℕ) → a ≡ old ++ members_told later (m ∷ []) → b ≡ a ++ members_told true (n ∷ []) → c ≡ b ++ members_told true (o ∷ []) → d ≡ c ++ members_told true (p ∷ [])
    → e ≡ d ++ members_told true (q ∷ []) → e ≡ old ++ members_told later (m ∷ n ∷ o ∷ p ∷ q ∷ [])
members_told-five later m n o p q old a b c d e first second third fourth fifth =
    let two = members_told-more later m [] (n ∷ []) (n ∷ []) old a b refl first second in
    let three = members_told-more later m (n ∷ []) (o ∷ []) (n ∷ o ∷ []) old b c refl two third in
    let four = members_told-more later m (n ∷ o ∷ []) (p ∷ []) (n ∷ o ∷ p ∷ []) old c d refl three fourth in
    members_told-more later m (n ∷ o ∷ p ∷ []) (q ∷ []) (n ∷ o ∷ p ∷ q ∷ []) old d e refl four fifth

-- an object of members that were written between its braces
pub compact_text-members : (ms : List Member) (old one two new : List ℕ) → one ≡ old ++ 123 ∷ [] → two ≡ one ++ members_told false ms → new ≡ two ++ 125 ∷ [] → new ≡ old ++ compact_text (object_of ms)
compact_text-members ms old one two new opens told closes =
    closes ∙ (ap (λ (t : List ℕ). t ++ 125 ∷ []) (told ∙ ap (λ (t : List ℕ). t ++ members_told false ms) opens) ∙ (between old (members_told false ms) ∙ ap (λ (t : List ℕ). old ++ t) (sym (compact_text-object ms))))
  where
    between : (old members : List ℕ) → ((old ++ 123 ∷ []) ++ members) ++ 125 ∷ [] ≡ old ++ 123 ∷ (members ++ 125 ∷ [])
    between old members = simp append_assoc
