-- Looks stay what they were when lists grow.
use Rattle.std.proofs.Common.{◌≡◌, ℕ, suc, ◌+◌, false, List, [], ◌∷◌, ◌++◌, map, get_or, drop, take, Option, Some, None, refl, sym, ap, ◌∙◌}
use Rattle.std.specs.Prelude.{if◌then◌else◌, option_and_then, option_map}
use Rattle.std.specs.List.{range_with_len}
use Rattle.cache_core.specs.declared.entry.SliceEntry.{SliceEntry}
use Rattle.machine.specs.Slices.{slice_number}
use Rattle.run_law.specs.FoundLooks.{HasFound}
use Rattle.run_law.specs.Journals.{At, JournalsValue, slice_at}
use Rattle.run_law.specs.Looks.{AreMatched, first_look, first_of, lines_looked, look_number, needs_of, sum_of_all}
use Rattle.run_law.specs.Truth.{is_made_by}
use Rattle.run_law.specs.TreeHistory.{TreeEntryValue, tree_after}
use Rattle.run_law.proofs.laws.GrownLists.{with_slices}
use Rattle.run_law.proofs.laws.StandingEntries.{first_look_stays}
use Rattle.script_ops.specs.Values.{ScriptValue, op_at}
use Rattle.seen_journal.specs.Prefixes.{IsPrefix}
use Rattle.live_law.specs.SeenJournals.{HasGrown, NoMore, SeesMore, is_by}
use Rattle.live_law.specs.Stages.{WasGiven}

-- ---- the first look of an op, which no other thread can make

-- entries of others have no look of it
first_look-others : (t n rmid : ℕ) (es : List SliceEntry)
    → ((k : ℕ) (e : SliceEntry) → At es k e → is_by t e ≡ false)
    → first_look t n rmid es ≡ None
first_look-others t n rmid [] others = refl
first_look-others t n rmid (e ∷ es) others =
    let other : is_by t e ≡ false = others 0 e refl in
    let not : is_made_by t n e ≡ false = rw other refl in
    rw not (first_look-others t n rmid es (λ k x at. others (suc k) x at))

-- so it is that of the entries before them
first_look-append : (t n rmid : ℕ) (xs rest : List SliceEntry)
    → first_look t n rmid rest ≡ None
    → first_look t n rmid (xs ++ rest) ≡ first_look t n rmid xs
first_look-append t n rmid [] rest none = none
first_look-append t n rmid (x ∷ xs) rest none =
    ap (first_of (if is_made_by t n x then look_number rmid x.what else None)) (first_look-append t n rmid xs rest none)

-- it is what it was, when nothing more of the thread was seen
pub first_look-more : (t n rmid : ℕ) (xs ys : List SliceEntry) → NoMore (is_by t) xs ys → first_look t n rmid ys ≡ first_look t n rmid xs
first_look-more t n rmid xs ys more =
    ap (first_look t n rmid) (sym more.is) ∙ first_look-append t n rmid xs more.rest (first_look-others t n rmid more.rest more.others)

-- so what the op has found stays found
pub HasFound-more : (t n : ℕ) (pairs : List (ℕ × ℕ)) (found : List ℕ) (v w : JournalsValue)
    → SeesMore t v w → HasFound v t n pairs found
    → HasFound w t n pairs found
HasFound-more t n pairs found v w more has r pair at =
    first_look-more t n pair.1 (slice_at v pair.0) (slice_at w pair.0) (more.slices pair.0) ∙ has r pair at

-- ---- sums of looks that are all there

-- the first of them, and the rest
sum_of_all-step : (a b rest more : Option ℕ) (n : ℕ)
    → ((l : ℕ) → a ≡ Some l → b ≡ Some l) → ((l : ℕ) → rest ≡ Some l → more ≡ Some l)
    → option_and_then (λ k. option_map (λ r. k + r) rest) a ≡ Some n
    → option_and_then (λ k. option_map (λ r. k + r) more) b ≡ Some n
sum_of_all-step None b rest more n f g h = absurd cc
sum_of_all-step (Some k) b None more n f g h = absurd cc
sum_of_all-step (Some k) b (Some r) more n f g h = rw (f k refl, g r refl) h

-- where each stays what it is, the sum does
sum_of_all-grown : (f g : ℕ → Option ℕ) (xs : List ℕ) (n : ℕ)
    → ((x l : ℕ) → f x ≡ Some l → g x ≡ Some l) → sum_of_all (map f xs) ≡ Some n
    → sum_of_all (map g xs) ≡ Some n
sum_of_all-grown f g [] n stays h = h
sum_of_all-grown f g (x ∷ xs) n stays h =
    sum_of_all-step (f x) (g x) (sum_of_all (map f xs)) (sum_of_all (map g xs)) n (stays x) (λ l is. sum_of_all-grown f g xs l stays is) h

-- what the looks of a command counted
pub lines_looked-grown : (script : ScriptValue) (v w : JournalsValue) (h : TreeEntryValue) (need : ℕ × ℕ) (n : ℕ)
    → HasGrown v w → lines_looked script v h need ≡ Some n
    → lines_looked script w h need ≡ Some n
lines_looked-grown script v w h need n grown is =
    sum_of_all-grown (λ x. first_look h.thread h.op need.1 (slice_at v (slice_number script.machine need.0 x)))
    (λ x. first_look h.thread h.op need.1 (slice_at w (slice_number script.machine need.0 x)))
    (range_with_len 0 script.machine.slices) n
    (λ x l found.
    let i : ℕ = slice_number script.machine need.0 x in
    let prefix : IsPrefix (slice_at v i) (slice_at w i) = grown.slices i in
    ap (first_look h.thread h.op need.1) (sym prefix.1) ∙ first_look_stays h.thread h.op need.1 l (slice_at v i) prefix.0 found) is

-- ---- what commands were given

-- numbers that a function gives, each of which another gives too
somes-grown : {B : Type 0} (ns : List ℕ) (xs : List B) (f g : B → Option ℕ)
    → ((x : B) (l : ℕ) → f x ≡ Some l → g x ≡ Some l) → map (λ n. Some n) ns ≡ map f xs
    → map (λ n. Some n) ns ≡ map g xs
somes-grown [] [] f g stays h = refl
somes-grown [] (x ∷ xs) f g stays h = absurd cc
somes-grown (n ∷ ns) [] f g stays h = absurd cc
somes-grown (n ∷ ns) (x ∷ xs) f g stays h =
    let head : Some n ≡ f x = ap (λ (os : List (Option ℕ)). get_or os 0 None) h in
    let tail : map (λ (k : ℕ). Some k) ns ≡ map f xs = ap (λ (os : List (Option ℕ)). drop 1 os) h in
    let now : g x ≡ Some n = stays x n (sym head) in
    rw now (ap (λ (os : List (Option ℕ)). Some n ∷ os) (somes-grown ns xs f g stays tail))

-- a command was given what its looks counted
pub WasGiven-grown : (script : ScriptValue) (v w : JournalsValue) (h : TreeEntryValue) (needs : List (ℕ × ℕ))
    → HasGrown v w → WasGiven script v h needs
    → WasGiven script w h needs
WasGiven-grown script v w h needs grown given =
    somes-grown h.looks needs (lines_looked script v h) (lines_looked script w h)
    (λ need l is. lines_looked-grown script v w h need l grown is) given

-- so was each
pub AreMatched-grown : (script : ScriptValue) (v : JournalsValue) (slices : List (List SliceEntry))
    → HasGrown v (with_slices v slices) → AreMatched script v
    → AreMatched script (with_slices v slices)
AreMatched-grown script v slices grown matched k h at =
    WasGiven-grown script v (with_slices v slices) h
    (needs_of script.machine (tree_after script (take k v.tree)) (op_at script h.thread h.op)) grown (matched k h at)
