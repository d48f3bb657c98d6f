-- Texts of items and of members, one more at a time.
use Rattle.std.proofs.Common.{◌≡◌, ℕ, suc, ◌+◌, ◌<◌, Bool, true, false, ◌||◌, List, [], ◌∷◌, ◌++◌, length, map, take, get_or, refl, sym, ap, ◌∙◌, arith}
use Rattle.std.specs.Prelude.{nat_lt}
use Rattle.std.proofs.lemmas.Bool.{lt-ltb}
use Rattle.std.proofs.lemmas.List.{append_assoc, append-nil, map-append, length-map, length-take, take_more}
use Rattle.json.specs.Print.{escape, quoted}
use Rattle.json_report.specs.Pieces.{items_told, key_told, members_told}
use Rattle.json_report.specs.Values.{array_of, members_of, object_of}
use Rattle.serde_json.specs.Data.{Data}
use Rattle.serde_json.specs.View.{items_of}
use Rattle.serde_json.specs.Written.{comma_if, compact_text, items_text, members_text}

-- ---- items

-- one item more, after others or not
items_told-append : (later : Bool) (ds : List Data) (d : Data) → items_told later (ds ++ d ∷ []) ≡ items_told later ds ++ (comma_if (later || nat_lt 0 (length ds)) ++ compact_text d)
items_told-append true [] d = ap (λ (t : List ℕ). 44 ∷ t) (append-nil (compact_text d))
items_told-append false [] d = append-nil (compact_text d)
items_told-append true (x ∷ ds) d = ap (λ (t : List ℕ). 44 ∷ (compact_text x ++ t)) (items_told-append true ds d) ∙ simp append_assoc
items_told-append false (x ∷ ds) d =
    ap (λ (t : List ℕ). compact_text x ++ t) (items_told-append true ds d)
    ∙ (sym (append_assoc (compact_text x) (items_told true ds) (44 ∷ compact_text d)) ∙ ap (λ (b : Bool). (compact_text x ++ items_told true ds) ++ (comma_if b ++ compact_text d)) (sym (lt-ltb 0 (suc (length ds)) (omega arith))))

-- one item more of a list that was begun here
pub items_told-next : (all next : List Data) (d : Data) (k : ℕ) (old now new : List ℕ) → length all ≡ k → next ≡ all ++ d ∷ [] → now ≡ old ++ items_told false all
    → new ≡ now ++ (comma_if (nat_lt 0 k) ++ compact_text d) → new ≡ old ++ items_told false next
items_told-next all next d k old now new count is before more =
    more
    ∙ (ap (λ (t : List ℕ). t ++ (comma_if (nat_lt 0 k) ++ compact_text d)) before
    ∙ (append_assoc old (items_told false all) (comma_if (nat_lt 0 k) ++ compact_text d)
    ∙ ap (λ (t : List ℕ). old ++ t) (sym (ap (items_told false) is ∙ (items_told-append false all d ∙ ap (λ (n : ℕ). items_told false all ++ (comma_if (nat_lt 0 n) ++ compact_text d)) count)))))

-- one item more, after others
pub items_told-next_later : (all next : List Data) (d : Data) (old now new : List ℕ) → next ≡ all ++ d ∷ [] → now ≡ old ++ items_told true all → new ≡ now ++ (comma_if true ++ compact_text d) → new ≡ old ++ items_told true next
items_told-next_later all next d old now new is before more =
    more
    ∙ (ap (λ (t : List ℕ). t ++ (comma_if true ++ compact_text d)) before
    ∙ (append_assoc old (items_told true all) (comma_if true ++ compact_text d) ∙ ap (λ (t : List ℕ). old ++ t) (sym (ap (items_told true) is ∙ items_told-append true all d))))

-- the values of the first elements, and of one more
pub map-take_suc : {A : Type 0} (f : A → Data) (xs : List A) (k : ℕ) (x : A) → k < length xs → x ≡ get_or xs k x → map f (take (k + 1) xs) ≡ map f (take k xs) ++ f x ∷ []
map-take_suc f xs k x within is = ap (map f) (take_more xs k x within) ∙ (map-append f (take k xs) (get_or xs k x ∷ []) ∙ ap (λ y. map f (take k xs) ++ f y ∷ []) (sym is))

-- how many these are
pub length-map_take : {A : Type 0} (f : A → Data) (xs : List A) (k : ℕ) → k < length xs → length (map f (take k xs)) ≡ k
length-map_take f xs k within = length-map (take k xs) f ∙ omega (arith, length-take k xs)

-- the text of items without the opening bracket
items_text-told : (later : Bool) (ds : List Data) → items_text later (items_of ds) ≡ items_told later ds ++ 93 ∷ []
items_text-told later [] = refl
items_text-told later (d ∷ ds) = ap (λ (t : List ℕ). comma_if later ++ (compact_text d ++ t)) (items_text-told true ds) ∙ simp append_assoc

-- a list is its items in brackets
pub compact_text-array : (ds : List Data) (old one two new : List ℕ) → one ≡ old ++ 91 ∷ [] → two ≡ one ++ items_told false ds → new ≡ two ++ 93 ∷ [] → new ≡ old ++ compact_text (array_of ds)
compact_text-array ds old one two new opens items closes =
    closes ∙ (ap (λ (t : List ℕ). t ++ 93 ∷ []) (items ∙ ap (λ (t : List ℕ). t ++ items_told false ds) opens) ∙ (between old (items_told false ds) ∙ ap (λ (t : List ℕ). old ++ 91 ∷ t) (sym (items_text-told false ds))))
  where
    between : (old items : List ℕ) → ((old ++ 91 ∷ []) ++ items) ++ 93 ∷ [] ≡ old ++ 91 ∷ (items ++ 93 ∷ [])
    between old items = simp append_assoc

-- ---- members

-- members, and others after them
pub members_told-append : (ms ns : List (List ℕ × Data)) → members_told true (ms ++ ns) ≡ members_told true ms ++ members_told true ns
members_told-append [] ns = refl
members_told-append (m ∷ ms) ns =
    ap (λ (t : List ℕ). (key_told true m.0 ++ compact_text m.1) ++ t) (members_told-append ms ns) ∙ sym (append_assoc (key_told true m.0 ++ compact_text m.1) (members_told true ms) (members_told true ns))

-- the text of members without the opening brace
members_text-told : (later : Bool) (ms : List (List ℕ × Data)) → members_text later (members_of ms) ≡ members_told later ms ++ 125 ∷ []
members_text-told later [] = refl
members_text-told later (m ∷ ms) = ap (λ (t : List ℕ). comma_if later ++ (quoted m.0 ++ 58 ∷ (compact_text m.1 ++ t))) (members_text-told true ms) ∙ simp append_assoc

-- an object is its members in braces
pub compact_text-object : (ms : List (List ℕ × Data)) → compact_text (object_of ms) ≡ 123 ∷ (members_told false ms ++ 125 ∷ [])
compact_text-object ms = ap (λ (t : List ℕ). 123 ∷ t) (members_text-told false ms)

-- a member by its key and its value
pub members_told-one : (later : Bool) (key : List ℕ) (d : Data) (old one new : List ℕ) → one ≡ old ++ key_told later key → new ≡ one ++ compact_text d → new ≡ old ++ members_told later ((key, d) ∷ [])
members_told-one later key d old one new named valued =
    valued ∙ (ap (λ (t : List ℕ). t ++ compact_text d) named ∙ (append_assoc old (key_told later key) (compact_text d) ∙ ap (λ (t : List ℕ). old ++ t) (sym (append-nil (key_told later key ++ compact_text d)))))

-- a member that is a list, piece by piece
pub members_told-array : (later : Bool) (key : List ℕ) (ds : List Data) (old one two three new : List ℕ) → one ≡ old ++ key_told later key → two ≡ one ++ 91 ∷ [] → three ≡ two ++ items_told false ds → new ≡ three ++ 93 ∷ []
    → new ≡ old ++ members_told later ((key, array_of ds) ∷ [])
members_told-array later key ds old one two three new named opens items closes = members_told-one later key (array_of ds) old one new named (compact_text-array ds one two three new opens items closes)

-- ---- strings

-- a text that needs no escape, in quotes
pub quoted-parts : (text old one two new : List ℕ) → escape text ≡ text → one ≡ old ++ 34 ∷ [] → two ≡ one ++ text → new ≡ two ++ 34 ∷ [] → new ≡ old ++ quoted text
quoted-parts text old one two new plain opens is closes = rw plain (closes ∙ (ap (λ (t : List ℕ). t ++ 34 ∷ []) (is ∙ ap (λ (t : List ℕ). t ++ text) opens) ∙ simp append_assoc))
