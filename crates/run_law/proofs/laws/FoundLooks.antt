-- What the looks of a command have found, while the slices grow.
use Rattle.std.proofs.Common.{◌≡◌, ◌≢◌, ℕ, zero, suc, ◌+◌, ◌*◌, ◌<◌, true, false, inl, inr, List, [], ◌∷◌, ◌++◌, length, map, get_or, Option, Some, None, refl, sym, ap, ◌∙◌, subst, arith}
use Rattle.std.specs.Prelude.{◌==◌, if◌then◌else◌, slice_get}
use Rattle.std.specs.List.{range_with_len}
use Rattle.std.proofs.lemmas.Bool.{cases_Bool, cases_lt, eq-eqb, eqb-true, ne_eqb, eqb-false}
use Rattle.std.proofs.lemmas.List.{append-nil, length_push}
use Rattle.std.proofs.lemmas.List.FromFn.{map-range_with_len_more}
use Rattle.std.proofs.lemmas.Option.{slice_get-get_or, slice_get_past, slice_get_within, same_Some}
use Rattle.std.proofs.lemmas.Nat.{mul-add-lt}
use Rattle.lists.specs.Sums.{sum_below}
use Rattle.cache_core.specs.declared.entry.SliceEntry.{SliceEntry}
use Rattle.cache_core.specs.declared.entry.What.TheVariants as whats
use Rattle.machine.specs.declared.parameters.Parameters.{Parameters}
use Rattle.run_law.specs.Journals.{At, JournalsValue, slice_at}
use Rattle.run_law.specs.Looks.{first_look, first_of, lines_looked, look_number, sum_of_all}
use Rattle.run_law.specs.Truth.{is_made_by}
use Rattle.machine.specs.Slices.{slice_number}
use Rattle.run_law.specs.TreeHistory.{TreeEntryValue}
use Rattle.script_ops.specs.Values.{ScriptValue}
use Rattle.run_law.proofs.laws.MatchedLooks.{NoLook, first_look_push, first_look_same}
use Rattle.run_law.proofs.laws.Positions.{At-last}
use Rattle.run_law.proofs.laws.GrownLists.{Adds, only, with_slices}
use Rattle.run_law.specs.FoundLooks.{AreDistinct, HasFound, look_pairs}
use Rattle.run_law.proofs.laws.Pairs.{pair-same}
use Rattle.run_law.proofs.laws.LookPositions.{pair_at}

-- an element before the last
get_push : {A : Type 0} (xs : List A) (x : A) (k : ℕ) → k < length xs → slice_get (xs ++ x ∷ []) k ≡ slice_get xs k
get_push [] x k h = absurd (omega arith)
get_push (y ∷ xs) x zero h = refl
get_push (y ∷ xs) x (suc k) h = get_push xs x k (omega arith)

-- ---- before the first look

-- before the first look
pub none_found : (j : JournalsValue) (t n : ℕ) (pairs : List (ℕ × ℕ)) → ((i p : ℕ) (e : SliceEntry) → At (slice_at j i) p e → is_made_by t n e ≡ false) → HasFound j t n pairs []
none_found j t n pairs none r pair at = no_look t n pair.1 (slice_at j pair.0) (λ p e there. none pair.0 p e there)
  where
    no_look : (t n rmid : ℕ) (es : List SliceEntry) → ((p : ℕ) (e : SliceEntry) → At es p e → is_made_by t n e ≡ false) → first_look t n rmid es ≡ None
    no_look t n rmid [] none = refl
    no_look t n rmid (e ∷ es) none = rw (none 0 e refl) (no_look t n rmid es (λ p x there. none (suc p) x there))

-- ---- an entry of another op, or one that is no look

-- an entry that is no look of the command
pub found_other : (j : JournalsValue) (slices : List (List SliceEntry)) (i : ℕ) (e : SliceEntry) (t n : ℕ) (pairs : List (ℕ × ℕ)) (found : List ℕ) → Adds j slices i e → NoLook t n e
    → HasFound j t n pairs found → HasFound (with_slices j slices) t n pairs found
found_other j slices i e t n pairs found adds none has r pair at = sym (first_look_same j slices i e t n pair.1 pair.0 adds none) ∙ has r pair at

-- ---- one look more

-- what a slice has, where the entry goes elsewhere
elsewhere : (j : JournalsValue) (slices : List (List SliceEntry)) (i : ℕ) (e : SliceEntry) (k : ℕ) → Adds j slices i e → k ≢ i → get_or slices k [] ≡ slice_at j k
elsewhere j slices i e k adds apart = adds k ∙ (let none : only i e k ≡ [] = rw (ne_eqb k i apart) refl in ap (λ es. slice_at j k ++ es) none ∙ append-nil (slice_at j k))

-- what a slice has, where the entry goes there
here_more : (j : JournalsValue) (slices : List (List SliceEntry)) (i : ℕ) (e : SliceEntry) → Adds j slices i e → get_or slices i [] ≡ slice_at j i ++ e ∷ []
here_more j slices i e adds = adds i ∙ (let one : only i e i ≡ e ∷ [] = rw (eq-eqb i i refl) refl in ap (λ es. slice_at j i ++ es) one)

-- the look that an entry is
abbrev IsLookOf : ℕ → ℕ → ℕ × ℕ → ℕ → SliceEntry → Type 0
IsLookOf t n pair lines e = (is_made_by t n e ≡ true) × (e.what ≡ whats.Look pair.1 lines)

-- what the look tells for an RMID
told : (t n : ℕ) (pair : ℕ × ℕ) (lines rmid : ℕ) (e : SliceEntry) → IsLookOf t n pair lines e → (if is_made_by t n e then look_number rmid e.what else None) ≡ (if pair.1 == rmid then Some lines else None)
told t n pair lines rmid e is = rw is.0 (ap (look_number rmid) is.1)

-- another pair is looked at as before
other_pair : (j : JournalsValue) (slices : List (List SliceEntry)) (e : SliceEntry) (t n lines : ℕ) (pair other : ℕ × ℕ) → Adds j slices pair.0 e → IsLookOf t n pair lines e → (other ≡ pair → ⊥)
    → first_look t n other.1 (get_or slices other.0 []) ≡ first_look t n other.1 (slice_at j other.0)
other_pair j slices e t n lines pair other adds is apart = elim (cases_Bool (other.0 == pair.0)) [
  | inr away ↦ ap (first_look t n other.1) (elsewhere j slices pair.0 e other.0 adds (eqb-false other.0 pair.0 away))
  | inl here ↦ elim (cases_Bool (pair.1 == other.1)) [
    | inl same ↦ absurd (apart (pair-same other pair (eqb-true other.0 pair.0 here) (sym (eqb-true pair.1 other.1 same))))
    | inr differs ↦
        let slice : other.0 ≡ pair.0 = eqb-true other.0 pair.0 here in
        let none : (if is_made_by t n e then look_number other.1 e.what else None) ≡ None = told t n pair lines other.1 e is ∙ (rw differs refl) in
        ap (λ k. first_look t n other.1 (get_or slices k [])) slice
        ∙ (ap (first_look t n other.1) (here_more j slices pair.0 e adds)
        ∙ (first_look_push t n other.1 (slice_at j pair.0) e
        ∙ (ap (first_of (first_look t n other.1 (slice_at j pair.0))) none
        ∙ (first_none (first_look t n other.1 (slice_at j pair.0)) ∙ ap (λ k. first_look t n other.1 (slice_at j k)) (sym slice)))))
  ]
]
  where
    first_none : (o : Option ℕ) → first_of o None ≡ o
    first_none None = refl
    first_none (Some x) = refl

-- the pair that is looked at for the first time
this_pair : (j : JournalsValue) (slices : List (List SliceEntry)) (e : SliceEntry) (t n lines : ℕ) (pair : ℕ × ℕ) → Adds j slices pair.0 e → IsLookOf t n pair lines e
    → first_look t n pair.1 (slice_at j pair.0) ≡ None → first_look t n pair.1 (get_or slices pair.0 []) ≡ Some lines
this_pair j slices e t n lines pair adds is none =
    let some : (if is_made_by t n e then look_number pair.1 e.what else None) ≡ Some lines = told t n pair lines pair.1 e is ∙ (rw (eq-eqb pair.1 pair.1 refl) refl) in
    ap (first_look t n pair.1) (here_more j slices pair.0 e adds)
    ∙ (first_look_push t n pair.1 (slice_at j pair.0) e ∙ (ap (λ o. first_of o (if is_made_by t n e then look_number pair.1 e.what else None)) none ∙ some))

-- one look more
pub found_more : (j : JournalsValue) (slices : List (List SliceEntry)) (e : SliceEntry) (t n lines : ℕ) (pair : ℕ × ℕ) (pairs : List (ℕ × ℕ)) (found : List ℕ) → Adds j slices pair.0 e
    → is_made_by t n e ≡ true → e.what ≡ whats.Look pair.1 lines → AreDistinct pairs → At pairs (length found) pair
    → HasFound j t n pairs found → HasFound (with_slices j slices) t n pairs (found ++ lines ∷ [])
found_more j slices e t n lines pair pairs found adds mine what distinct here has r other at = elim (cases_Bool (r == length found)) [
  | inl last ↦
      let r_is : r ≡ length found = eqb-true r (length found) last in
      let same : pair ≡ other = at_same pairs (length found) pair other here (subst (λ k. At pairs k other) r_is at) in
      let none : first_look t n pair.1 (slice_at j pair.0) ≡ None = has (length found) pair here ∙ slice_get_past found (length found) (omega arith) in
      let now : first_look t n pair.1 (get_or slices pair.0 []) ≡ Some lines = this_pair j slices e t n lines pair adds (mine, what) none in
      let end : slice_get (found ++ lines ∷ []) r ≡ Some lines = ap (slice_get (found ++ lines ∷ [])) r_is ∙ At-last found lines in
      subst (λ p. first_look t n p.1 (get_or slices p.0 []) ≡ Some lines) same now ∙ sym end
  | inr else_where ↦
      let apart : r ≢ length found = eqb-false r (length found) else_where in
      let differs : other ≡ pair → ⊥ = λ same. apart (distinct r (length found) pair (subst (λ p. At pairs r p) same at) here) in
      other_pair j slices e t n lines pair other adds (mine, what) differs ∙ (has r other at ∙ sym (same_get found lines r apart))
]
  where
    at_same : (pairs : List (ℕ × ℕ)) (k : ℕ) (a b : ℕ × ℕ) → At pairs k a → At pairs k b → a ≡ b
    at_same pairs k a b h i = same_Some a b (sym h ∙ i)

    same_get : (found : List ℕ) (lines r : ℕ) → r ≢ length found → slice_get (found ++ lines ∷ []) r ≡ slice_get found r
    same_get found lines r apart = elim (cases_lt r (length found)) [
      | inl before ↦ get_push found lines r before
      | inr past ↦ slice_get_past (found ++ lines ∷ []) r (omega (arith, past, apart, length_push found lines)) ∙ sym (slice_get_past found r past)
    ]

-- ---- sums

-- where a number more adds to the sum of the rest, it adds to the sum
more_in_sum : (os : List (Option ℕ)) (a b c : ℕ) (rest now : Option ℕ) → sum_of_all os ≡ rest → sum_of_all (os ++ Some b ∷ []) ≡ now → ((d : ℕ) → rest ≡ Some d → now ≡ Some (d + b))
    → sum_of_all (Some c ∷ os) ≡ Some a → sum_of_all (Some c ∷ os ++ Some b ∷ []) ≡ Some (a + b)
more_in_sum os a b c None now is then_is next h = absurd (let wrong : sum_of_all (Some c ∷ os) ≡ None = rw is refl in cc)
more_in_sum os a b c (Some d) now is then_is next h =
    let here : sum_of_all (Some c ∷ os) ≡ Some (c + d) = rw is refl in
    let total : c + d ≡ a = cc in
    rw (then_is ∙ next d refl) (ap (λ k. Some k) (omega (arith, total)))

-- a partial sum and one look more
pub sum_push : (os : List (Option ℕ)) (a b : ℕ) → sum_of_all os ≡ Some a → sum_of_all (os ++ Some b ∷ []) ≡ Some (a + b)
sum_push [] a b h = let none : a ≡ 0 = cc in rw none (ap (λ k. Some k) (omega arith))
sum_push (None ∷ os) a b h = absurd cc
sum_push (Some c ∷ os) a b h = more_in_sum os a b c (sum_of_all os) (sum_of_all (os ++ Some b ∷ [])) refl refl (λ d is. sum_push os d b is) h

-- the sum of what each number below n has
pub sums_below : (n : ℕ) (o : ℕ → Option ℕ) (f : ℕ → ℕ) → ((x : ℕ) → x < n → o x ≡ Some (f x)) → sum_of_all (map o (range_with_len 0 n)) ≡ Some (sum_below n f)
sums_below zero o f each = refl
sums_below (suc n) o f each =
    let on : suc n ≡ n + 1 = omega arith in
    let all : map o (range_with_len 0 (suc n)) ≡ map o (range_with_len 0 n) ++ o n ∷ [] = ap (λ k. map o (range_with_len 0 k)) on ∙ map-range_with_len_more o 0 n n (omega arith) in
    ap sum_of_all all
    ∙ (ap (λ x. sum_of_all (map o (range_with_len 0 n) ++ x ∷ [])) (each n (omega arith))
    ∙ sum_push (map o (range_with_len 0 n)) (sum_below n f) (f n) (sums_below n o f (λ x below. each x (omega (arith, below)))))

-- ---- all looks are made

-- what the looks for the q-th (domain, RMID) found together
pub sum_found : (script : ScriptValue) (j : JournalsValue) (h : TreeEntryValue) (needs : List (ℕ × ℕ)) (found : List ℕ) (q : ℕ) (need : ℕ × ℕ)
    → HasFound j h.thread h.op (look_pairs script.machine needs) found → At needs q need → ((x : ℕ) → x < script.machine.slices → q * script.machine.slices + x < length found)
    → lines_looked script j h need ≡ Some (sum_below script.machine.slices (λ x. get_or found (q * script.machine.slices + x) 0))
sum_found script j h needs found q need has at all =
    let m : Parameters = script.machine in
    sums_below m.slices (λ x. first_look h.thread h.op need.1 (slice_at j (slice_number m need.0 x))) (λ x. get_or found (q * m.slices + x) 0)
    (λ x below. has (q * m.slices + x) (slice_number m need.0 x, need.1) (pair_at m needs q x need at below) ∙ slice_get-get_or found (q * m.slices + x) 0 (all x below))

-- lists that agree at each position
some_of_all : {B : Type 0} (xs : List ℕ) (ys : List B) (g : B → Option ℕ) → length xs ≡ length ys → ((q : ℕ) (y : B) → At ys q y → g y ≡ slice_get xs q) → map (λ n. Some n) xs ≡ map g ys
some_of_all [] [] g same each = refl
some_of_all [] (y ∷ ys) g same each = absurd (omega arith)
some_of_all (x ∷ xs) [] g same each = absurd (omega arith)
some_of_all (x ∷ xs) (y ∷ ys) g same each = rw (each 0 y refl) (ap (λ os. Some x ∷ os) (some_of_all xs ys g (omega arith) (λ q z at. each (suc q) z at)))

-- the counts that a command is to be given, when all its looks are made
pub given : (script : ScriptValue) (j : JournalsValue) (h : TreeEntryValue) (needs : List (ℕ × ℕ)) (found looks : List ℕ) → HasFound j h.thread h.op (look_pairs script.machine needs) found
    → length found ≡ length needs * script.machine.slices → length looks ≡ length needs
    → ((q : ℕ) → q < length needs → slice_get looks q ≡ Some (sum_below script.machine.slices (λ x. get_or found (q * script.machine.slices + x) 0)))
    → map (λ n. Some n) looks ≡ map (lines_looked script j h) needs
given script j h needs found looks has all count each =
    some_of_all looks needs (lines_looked script j h) count
    (λ q need at.
    let within : q < length needs = slice_get_within needs q need at in
    sum_found script j h needs found q need has at (λ x below. omega (arith, all, mul-add-lt q script.machine.slices x (length needs) within below)) ∙ sym (each q within))
