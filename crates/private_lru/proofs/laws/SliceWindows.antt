-- Along a window the ways of the mask keep what the group's private cache keeps.
use Rattle.std.proofs.Common.{◌≡◌, ℕ, suc, ◌+◌, ◌-◌, ◌%◌, ◌<◌, ◌≤◌, Bool, true, false, ◌==◌, List, [], ◌∷◌, ◌++◌, length, take, drop, reverse, get_or, arith, refl, sym, ◌∙◌, ap, subst, inl, inr}
use Rattle.std.specs.List.{All}
use Rattle.std.proofs.lemmas.Bool.{cases_Bool, eq-eqb, true≢false}
use Rattle.std.proofs.lemmas.List.{append_assoc, append-nil, take-append-drop, drop_more, get_or-take, length-take, take_more}
use Rattle.std.proofs.lemmas.List.Folds.{list_any_at}
use Rattle.cache_core.specs.declared.entry.What.{What}
use Rattle.cache_core.specs.declared.entry.What.TheVariants.{Access, Raise, Flush, Lock, Look, Drop}
use Rattle.cache_core.specs.declared.entry.SliceEntry.{SliceEntry}
use Rattle.rc_base.specs.Follows.{GoesOn}
use Rattle.cbm.specs.Masks.{overlaps}
use Rattle.cache_core.specs.Fills.{IsOutcome}
use Rattle.cache_core.specs.History.{Shape, ways_below, held, used, EntryMayFollow, MayHappen}
use Rattle.private_lru.specs.Covered.{is_use, items, uses_line}
use Rattle.private_lru.specs.Isolation.{HitsAsPrivate, IsIsolated, Opens, Respects}
use Rattle.private_lru.specs.SliceLaws.{SliceIsolation}
use Rattle.private_lru.proofs.OtherUsers.{IsCovered, IsCovered-is_covered, is_use_of_other, loads-place}
use Rattle.private_lru.proofs.Ways.{ways_below-all}
use Rattle.private_lru.proofs.Recency.{private_hit-kept}
use Rattle.private_lru.proofs.KeptAccesses.{hit-among}
use Rattle.private_lru.proofs.KeptAfter.{AllFit, KeepsAfter-append, KeepsAfter-opening}
use Rattle.private_lru.proofs.KeptEntries.{Fits, Own, KeepsAfter}
use Rattle.rc_base.proofs.laws.Histories.{GoesOn-front}

-- the entries after the first ones
pub GoesOn-rest : (m : Shape) (before xs ys : List SliceEntry) → GoesOn (EntryMayFollow m) before (xs ++ ys) → GoesOn (EntryMayFollow m) (before ++ xs) ys
GoesOn-rest m before [] ys goes = subst (λ b. GoesOn (EntryMayFollow m) b ys) (sym (append-nil before)) goes
GoesOn-rest m before (x ∷ xs) ys goes = subst (λ b. GoesOn (EntryMayFollow m) b ys) (append_assoc before (x ∷ []) xs) (GoesOn-rest m (before ++ x ∷ []) xs ys goes.1)

-- an entry of the window that uses no line of the group's for another
Fits-respects : (group mask : ℕ) (own : ℕ → Bool) (what : What) → Respects group mask what → ((x : ℕ) → own x ≡ true → is_use_of_other group x what ≡ false) → ((x : ℕ) → is_use group x what ≡ true → own x ≡ true)
    → Fits group mask own what
Fits-respects group mask own (Access hit way owner rmid its line) respects alone uses =
    let same : (line == line) ≡ true = eq-eqb line line refl in
    elim (cases_Bool (owner.0 == group)) [
      | inl o ↦ let mine : own line ≡ true = uses line (rw (o, same) refl) in let m : its ≡ mask = rw o at respects in rw o (m, mine)
      | inr o ↦
          let apart : overlaps its mask ≡ false = rw o at respects in
          rw o (apart, λ f. let no : true ≡ false = rw (o, same) at (alone line f) in true≢false no)
    ]
Fits-respects group mask own Raise respects alone uses = respects
Fits-respects group mask own Flush respects alone uses = respects
Fits-respects group mask own (Lock others first_line) respects alone uses = respects
Fits-respects group mask own (Look rmid lines) respects alone uses = respects
Fits-respects group mask own (Drop line at) respects alone uses = respects

-- each by its place
AllFit-each : (group mask : ℕ) (own : ℕ → Bool) (entries : List SliceEntry) → ((k : ℕ) (d : SliceEntry) → k < length entries → Fits group mask own (get_or entries k d).what) → AllFit group mask own entries
AllFit-each group mask own [] h = tt
AllFit-each group mask own (e ∷ es) h = (h 0 e (omega arith), AllFit-each group mask own es (λ k d l. h (suc k) d (omega arith)))

-- the access itself
HitsAsPrivate-kept : (m : Shape) (group mask : ℕ) (own : ℕ → Bool) (history earlier : List SliceEntry) (epoch : ℕ) (what : What) → 0 < m.sets
    → MayHappen m (history ++ earlier) epoch what → Respects group mask what → ((x : ℕ) → is_use group x what ≡ true → own x ≡ true)
    → ((set : ℕ) → set < m.sets → KeepsAfter m mask own set (history ++ earlier) (reverse (items m.sets group set own earlier) ++ []))
    → HitsAsPrivate m.sets group own (ways_below mask m.ways) earlier what
HitsAsPrivate-kept m group mask own history earlier epoch (Access hit way owner rmid its line) some may respects uses keeps = λ o.
    let set : ℕ = line % m.sets in
    let same : (line == line) ≡ true = eq-eqb line line refl in
    let mine : own line ≡ true = uses line (rw (o, same) refl) in
    let is : its ≡ mask = rw o at respects in
    let all : KeepsAfter m mask own set (history ++ earlier) (reverse (items m.sets group set own earlier)) =
    subst (λ l. KeepsAfter m mask own set (history ++ earlier) l) (append-nil (reverse (items m.sets group set own earlier))) (keeps set (omega arith)) in
    let outcome : IsOutcome m.ways mask (held m (history ++ earlier) set) (used m (history ++ earlier) set) line hit way =
    subst (λ k. IsOutcome m.ways k (held m (history ++ earlier) set) (used m (history ++ earlier) set) line hit way) is may.1 in
    hit-among m.ways mask line way hit (Own own) (held m (history ++ earlier) set) (used m (history ++ earlier) set) all.0 _ mine outcome all.1
    ∙ sym (private_hit-kept (ways_below mask m.ways) line (items m.sets group set own earlier))
HitsAsPrivate-kept m group mask own history earlier epoch Raise some may respects uses keeps = tt
HitsAsPrivate-kept m group mask own history earlier epoch Flush some may respects uses keeps = tt
HitsAsPrivate-kept m group mask own history earlier epoch (Lock others first_line) some may respects uses keeps = tt
HitsAsPrivate-kept m group mask own history earlier epoch (Look rmid lines) some may respects uses keeps = tt
HitsAsPrivate-kept m group mask own history earlier epoch (Drop line at) some may respects uses keeps = tt

-- a window that goes on from its opening is IsIsolated-opened
pub IsIsolated-opened : (m : Shape) (narrow : m.ways ≤ 64) (group mask : ℕ) (before window : List SliceEntry) (opening : SliceEntry) → 0 < m.sets → GoesOn (EntryMayFollow m) (before ++ opening ∷ []) window → Opens mask opening.what
    → All (λ (e : SliceEntry). Respects group mask e.what) window → IsIsolated m.sets group (ways_below mask m.ways) opening.what window
IsIsolated-opened m narrow group mask before window opening some goes opens respects at e inside is =
    let covered : IsCovered m group opening.what window (take at window) = IsCovered-is_covered m group opening.what window (take at window) is in
    let history : List SliceEntry = before ++ opening ∷ [] in
    let earlier : List SliceEntry = take at window in
    let x : SliceEntry = get_or window at e in
    let split : window ≡ earlier ++ (x ∷ drop (at + 1) window) = sym (take-append-drop at window) ∙ ap (λ l. earlier ++ l) (drop_more window at e inside) in
    let goes' : GoesOn (EntryMayFollow m) history (earlier ++ (x ∷ drop (at + 1) window)) = subst (λ l. GoesOn (EntryMayFollow m) history l) split goes in
    let own : ℕ → Bool = uses_line group window in
    let use_at : (k : ℕ) (d : SliceEntry) → k < length window → (y : ℕ) → is_use group y (get_or window k d).what ≡ true → own y ≡ true =
    λ k d l y h. list_any_at (λ (e : SliceEntry). is_use group y e.what) window k d l h in
    let len : length earlier ≤ at = omega (arith, length-take at window) in
    let long : length earlier ≤ length window = omega (arith, length-take at window) in
    let alone : (k : ℕ) (d : SliceEntry) → k < length earlier → (y : ℕ) → own y ≡ true → is_use_of_other group y (get_or earlier k d).what ≡ false =
    λ k d l y f. elim (cases_Bool (is_use_of_other group y (get_or earlier k d).what)) [
      | inl b ↦ absurd (true≢false (sym (list_any_at (λ (e : SliceEntry). is_use_of_other group y e.what) earlier k d l b) ∙ covered.before y f))
      | inr b ↦ b
    ] in
    let fits : AllFit group mask own earlier = AllFit-each group mask own earlier (λ k d l.
    let same : get_or earlier k d ≡ get_or window k d = get_or-take at window k d (omega arith) in
    Fits-respects group mask own (get_or earlier k d).what
    (subst (λ (i : SliceEntry). Respects group mask i.what) (sym same) (respects k d (omega arith)))
    (alone k d l)
    (λ y h. use_at k d (omega arith) y (subst (λ (i : SliceEntry). is_use group y i.what ≡ true) same h))) in
    HitsAsPrivate-kept m group mask own history earlier x.epoch x.what some (GoesOn-rest m history earlier (x ∷ drop (at + 1) window) goes').0 (respects at e inside) (use_at at e inside)
    (λ set l. KeepsAfter-append m narrow group mask set own history earlier [] (GoesOn-front (EntryMayFollow m) history earlier (x ∷ drop (at + 1) window) goes') fits
    (KeepsAfter-opening m narrow group mask set own before opening.thread opening.op opening.epoch opening.what l opens (λ x mine l. covered.at_opening x mine (loads-place m opening.what x narrow l))))

-- from a flush or a lock up to a later place
pub IsIsolated-between : SliceIsolation
IsIsolated-between m entries from to group mask opening some narrow small legal less most read opens respects =
    let rest : List SliceEntry = drop (from + 1) entries in
    let n : ℕ = to - (from + 1) in
    let inside : from < length entries = omega arith in
    let first : take (from + 1) entries ≡ take from entries ++ opening ∷ [] = take_more entries from opening inside ∙ ap (λ (e : SliceEntry). take from entries ++ e ∷ []) (sym read) in
    let whole : entries ≡ take (from + 1) entries ++ (take n rest ++ drop n rest) = sym (take-append-drop (from + 1) entries) ∙ ap (λ l. take (from + 1) entries ++ l) (sym (take-append-drop n rest)) in
    let goes : GoesOn (EntryMayFollow m) [] (take (from + 1) entries ++ (take n rest ++ drop n rest)) = subst (λ l. GoesOn (EntryMayFollow m) [] l) whole legal in
    let window : GoesOn (EntryMayFollow m) (take (from + 1) entries) (take n rest) = GoesOn-front (EntryMayFollow m) (take (from + 1) entries) (take n rest) (drop n rest) (GoesOn-rest m [] (take (from + 1) entries) (take n rest ++ drop n rest) goes) in
    subst (λ ways. IsIsolated m.sets group ways opening.what (take n rest)) (ways_below-all mask m.ways small narrow)
    (IsIsolated-opened m narrow group mask (take from entries) (take n rest) opening some (subst (λ b. GoesOn (EntryMayFollow m) b (take n rest)) first window) opens respects)
