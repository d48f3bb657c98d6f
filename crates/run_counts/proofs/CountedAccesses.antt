-- Counts of the accesses among entries, from the last entry back.
use Rattle.std.proofs.Common.{◌≡◌, ℕ, ◌+◌, ◌*◌, ◌^◌, ◌<◌, ◌≤◌, ◌&&◌, not, Bool, true, false, cond, List, ◌∷◌, length, get_or, take, drop, refl, sym, ap, ◌∙◌, subst, arith}
use Rattle.std.specs.Prelude.{count_by}
use Rattle.std.proofs.lemmas.List.Sums.{count_by-le-length, sum_by-cons, sum_by-take-drop}
use Rattle.std.proofs.Math.Seq.{drop-length}
use Rattle.cache_core.specs.declared.entry.SliceEntry.{SliceEntry}
use Rattle.cache_core.specs.declared.entry.What.{What}
use Rattle.cache_core.specs.declared.entry.What.TheVariants.{Access, Raise, Flush, Lock, Look, Drop}
use Rattle.lists.proofs.Sums.{sum_below-suc}
use Rattle.run_counts.proofs.CountedEntries.{drop-at}
use Rattle.cache_core.specs.Whats.{is_access, is_access_of, is_hit}
use Rattle.run_counts.specs.Tallies.{AreAtMost, HasTallied, IsFewWith, StreakValue, TallyValue, all_with, at_with, counted, counted_all, counted_in, nothing, with_access}
use Rattle.run_counts.specs.declared.counts.Counts.{Counts}
use Rattle.run_law.specs.Journals.{JournalsValue, slice_at}

-- ---- entries

-- these counts
abbrev counts_of : ℕ → ℕ → ℕ → Counts
counts_of accesses hits misses = record { accesses = accesses; hits = hits; misses = misses }

-- counts with the same numbers
counts_of-same : (a b h i m n : ℕ) → a ≡ b → h ≡ i → m ≡ n → counts_of a h m ≡ counts_of b i n
counts_of-same a b h i m n accesses hits misses = rw (accesses, hits, misses) refl

-- a test that only accesses pass
abbrev pub IsOfAccesses : (What → Bool) → Type 0
IsOfAccesses p = (what : What) → is_access what ≡ false → p what ≡ false

-- those of a group
pub IsOfAccesses-group : (gid : ℕ) → IsOfAccesses (is_access_of gid)
IsOfAccesses-group gid (Access hit way owner rmid mask line) none = absurd cc
IsOfAccesses-group gid Raise none = refl
IsOfAccesses-group gid Flush none = refl
IsOfAccesses-group gid (Lock mask first_line) none = refl
IsOfAccesses-group gid (Look rmid lines) none = refl
IsOfAccesses-group gid (Drop line way) none = refl

-- those of all groups
pub IsOfAccesses-all : IsOfAccesses is_access
IsOfAccesses-all what none = none

-- an access more, where it passes the test
access_more : (pass hit : Bool) (c : Counts) (a h m : ℕ)
    → counts_of (c.accesses + (cond pass 1 0 + a)) (c.hits + (cond (pass && hit) 1 0 + h)) (c.misses + (cond (pass && not hit) 1 0 + m))
    ≡ cond pass (with_access hit (counts_of (c.accesses + a) (c.hits + h) (c.misses + m))) (counts_of (c.accesses + a) (c.hits + h) (c.misses + m))
access_more true true c a h m = counts_of-same _ _ _ _ _ _ (omega arith) (omega arith) (omega arith)
access_more true false c a h m = counts_of-same _ _ _ _ _ _ (omega arith) (omega arith) (omega arith)
access_more false hit c a h m = counts_of-same _ _ _ _ _ _ (omega arith) (omega arith) (omega arith)

-- an entry more that is no access
no_access_more : (pass hit : Bool) (c : Counts) (a h m : ℕ) → pass ≡ false
    → counts_of (c.accesses + (cond pass 1 0 + a)) (c.hits + (cond (pass && hit) 1 0 + h)) (c.misses + (cond (pass && not hit) 1 0 + m)) ≡ counts_of (c.accesses + a) (c.hits + h) (c.misses + m)
no_access_more true hit c a h m is = absurd cc
no_access_more false hit c a h m is = counts_of-same _ _ _ _ _ _ (omega arith) (omega arith) (omega arith)

-- an entry before others
pub counted_all-cons : (p : What → Bool) (c : Counts) (e : SliceEntry) (es : List SliceEntry) → IsOfAccesses p → counted_all p c (e ∷ es) ≡ counted p (counted_all p c es) e.what
counted_all-cons p c e es tells =
    let all : SliceEntry → Bool = λ x. p x.what in
    let hits : SliceEntry → Bool = λ x. p x.what && is_hit x.what in
    let misses : SliceEntry → Bool = λ x. p x.what && not (is_hit x.what) in
    counts_of-same (c.accesses + count_by all (e ∷ es)) (c.accesses + (cond (all e) 1 0 + count_by all es)) (c.hits + count_by hits (e ∷ es)) (c.hits + (cond (hits e) 1 0 + count_by hits es)) (c.misses + count_by misses (e ∷ es))
    (c.misses + (cond (misses e) 1 0 + count_by misses es))
    (ap (λ n. c.accesses + n) (sum_by-cons (λ x. cond (all x) 1 0) e es)) (ap (λ n. c.hits + n) (sum_by-cons (λ x. cond (hits x) 1 0) e es)) (ap (λ n. c.misses + n) (sum_by-cons (λ x. cond (misses x) 1 0) e es))
    ∙ go e.what (count_by all es) (count_by hits es) (count_by misses es)
  where
    go : (what : What) (a h m : ℕ)
        → counts_of (c.accesses + (cond (p what) 1 0 + a)) (c.hits + (cond (p what && is_hit what) 1 0 + h)) (c.misses + (cond (p what && not (is_hit what)) 1 0 + m)) ≡ counted p (counts_of (c.accesses + a) (c.hits + h) (c.misses + m)) what
    go (Access hit way owner rmid mask line) a h m = access_more (p (Access hit way owner rmid mask line)) hit c a h m
    go Raise a h m = no_access_more (p Raise) false c a h m (tells Raise refl)
    go Flush a h m = no_access_more (p Flush) false c a h m (tells Flush refl)
    go (Lock mask first_line) a h m = no_access_more (p (Lock mask first_line)) false c a h m (tells (Lock mask first_line) refl)
    go (Look rmid lines) a h m = no_access_more (p (Look rmid lines)) false c a h m (tells (Look rmid lines) refl)
    go (Drop line way) a h m = no_access_more (p (Drop line way)) false c a h m (tells (Drop line way) refl)

-- no entry
pub counted_all-end : (p : What → Bool) (c : Counts) (es : List SliceEntry) → counted_all p c (drop (length es) es) ≡ c
counted_all-end p c es = ap (counted_all p c) (drop-length es) ∙ counts_of-same _ _ _ _ _ _ (omega arith) (omega arith) (omega arith)

-- the entries from one on
pub counted_all-drop : (p : What → Bool) (c old new : Counts) (es : List SliceEntry) (k left : ℕ) (e : SliceEntry) → IsOfAccesses p → k + 1 ≡ left → k < length es → e ≡ get_or es k e
    → old ≡ counted_all p c (drop left es) → new ≡ counted p old e.what → new ≡ counted_all p c (drop k es)
counted_all-drop p c old new es k left e tells next within is before more =
    more
    ∙ (ap (λ (x : Counts). counted p x e.what) before
    ∙ (ap (λ (n : ℕ). counted p (counted_all p c (drop n es)) e.what) (sym next) ∙ (sym (counted_all-cons p c e (drop (k + 1) es) tells) ∙ ap (counted_all p c) (sym (drop-at es k e within is)))))

-- the last entries, and then those before them
pub counted_all-take : (p : What → Bool) (c mid new : Counts) (es before : List SliceEntry) (k : ℕ) → before ≡ take k es → mid ≡ counted_all p c (drop k es) → new ≡ counted_all p mid before → new ≡ counted_all p c es
counted_all-take p c mid new es before k is last first = first ∙ (ap (counted_all p mid) is ∙ (ap (λ (x : Counts). counted_all p x (take k es)) last ∙ both))
  where
    both : counted_all p (counted_all p c (drop k es)) (take k es) ≡ counted_all p c es
    both =
        counts_of-same _ _ _ _ _ _
        (let all = sum_by-take-drop (λ (x : SliceEntry). cond (p x.what) 1 0) es k in omega (arith, all))
        (let hits = sum_by-take-drop (λ (x : SliceEntry). cond (p x.what && is_hit x.what) 1 0) es k in omega (arith, hits))
        (let misses = sum_by-take-drop (λ (x : SliceEntry). cond (p x.what && not (is_hit x.what)) 1 0) es k in omega (arith, misses))

-- ---- how great counts get

-- each entry is one access at most
pub AreAtMost-counted_all : (most more : ℕ) (p : What → Bool) (c : Counts) (es : List SliceEntry) → most + length es ≤ more → AreAtMost most c → AreAtMost more (counted_all p c es)
AreAtMost-counted_all most more p c es le few = record {
  accesses = let was = few.accesses in omega (arith, was, le, count_by-le-length (λ (x : SliceEntry). p x.what) es);
  hits = let was = few.hits in omega (arith, was, le, count_by-le-length (λ (x : SliceEntry). p x.what && is_hit x.what) es);
  misses = let was = few.misses in omega (arith, was, le, count_by-le-length (λ (x : SliceEntry). p x.what && not (is_hit x.what)) es);
}

-- so a tally stays small
pub IsFewWith-counted_all : (most more : ℕ) (t u : TallyValue) (s r : StreakValue) (es : List SliceEntry) → most + length es ≤ more
    → ((gid : ℕ) → at_with u r gid ≡ counted_all (is_access_of gid) (at_with t s gid) es) → all_with u r ≡ counted_all is_access (all_with t s) es
    → IsFewWith most t s → IsFewWith more u r
IsFewWith-counted_all most more t u s r es le groups all few = record {
  groups = λ gid. subst (AreAtMost more) (sym (groups gid)) (AreAtMost-counted_all most more (is_access_of gid) (at_with t s gid) es le (few.groups gid));
  all = subst (AreAtMost more) (sym all) (AreAtMost-counted_all most more is_access (all_with t s) es le few.all);
}

-- ---- slices

-- one slice more
counted_in-suc : (p : What → Bool) (j : JournalsValue) (n : ℕ) → counted_in p j (n + 1) ≡ counted_all p (counted_in p j n) (slice_at j n)
counted_in-suc p j n =
    counts_of-same _ _ _ _ _ _ (sum_below-suc n (λ i. count_by (λ (e : SliceEntry). p e.what) (slice_at j i))) (sum_below-suc n (λ i. count_by (λ (e : SliceEntry). p e.what && is_hit e.what) (slice_at j i)))
    (sum_below-suc n (λ i. count_by (λ (e : SliceEntry). p e.what && not (is_hit e.what)) (slice_at j i)))

-- a tally with the accesses of one slice more
pub HasTallied-suc : (j : JournalsValue) (n : ℕ) (t u : TallyValue) (s r : StreakValue) (es : List SliceEntry) → es ≡ slice_at j n → length es < 2 ^ 58
    → ((gid : ℕ) → at_with u r gid ≡ counted_all (is_access_of gid) (at_with t s gid) es) → all_with u r ≡ counted_all is_access (all_with t s) es
    → HasTallied j n t s → HasTallied j (n + 1) u r
HasTallied-suc j n t u s r es is short groups all before = record {
  groups = λ gid. groups gid ∙ (ap (λ c. counted_all (is_access_of gid) c es) (before.groups gid) ∙ (ap (counted_all (is_access_of gid) (counted_in (is_access_of gid) j n)) is ∙ sym (counted_in-suc (is_access_of gid) j n)));
  all = all ∙ (ap (λ c. counted_all is_access c es) before.all ∙ (ap (counted_all is_access (counted_in is_access j n)) is ∙ sym (counted_in-suc is_access j n)));
  few = IsFewWith-counted_all (n * 2 ^ 58) ((n + 1) * 2 ^ 58) t u s r es (omega arith) groups all before.few;
}

-- a greater bound
pub IsFewWith-le : (most more : ℕ) (t : TallyValue) (s : StreakValue) → most ≤ more → IsFewWith most t s → IsFewWith more t s
IsFewWith-le most more t s le few = record {
  groups = λ gid. AreAtMost-le (at_with t s gid) (few.groups gid);
  all = AreAtMost-le (all_with t s) few.all;
}
  where
    AreAtMost-le : (c : Counts) → AreAtMost most c → AreAtMost more c
    AreAtMost-le c was = record { accesses = let a = was.accesses in omega (arith, a, le); hits = let h = was.hits in omega (arith, h, le); misses = let m = was.misses in omega (arith, m, le) }

-- no slice yet
pub HasTallied-none : (j : JournalsValue) (t : TallyValue) (s : StreakValue) → ((gid : ℕ) → at_with t s gid ≡ nothing) → all_with t s ≡ nothing → HasTallied j 0 t s
HasTallied-none j t s groups all = record {
  groups = groups;
  all = all;
  few = record { groups = λ gid. subst (AreAtMost (0 * 2 ^ 58)) (sym (groups gid)) none; all = subst (AreAtMost (0 * 2 ^ 58)) (sym all) none };
}
  where
    none : AreAtMost (0 * 2 ^ 58) nothing
    none = record { accesses = omega arith; hits = omega arith; misses = omega arith }
