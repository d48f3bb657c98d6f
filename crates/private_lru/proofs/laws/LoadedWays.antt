-- The ways of a locked region keep its lines.
use Rattle.std.proofs.Common.{◌≡◌, ℕ, zero, suc, ◌+◌, ◌-◌, ◌*◌, ◌/◌, ◌%◌, ◌^◌, ◌<◌, ◌≤◌, true, false, cond, ◌&&◌, ◌||◌, ◌==◌, List, [], ◌∷◌, ◌++◌, length, take, drop, get_or, Some, None, refl, sym, subst, ap, ◌∙◌, arith, inl, inr}
use Rattle.std.specs.List.{All}
use Rattle.std.proofs.lemmas.Bool.{and_parts, cases_Bool, cond-false, eqb-false, eqb-true, ne_eqb, or_parts, true≢false}
use Rattle.std.proofs.lemmas.List.{append_assoc, append-nil, take-append-drop, take_more}
use Rattle.std.proofs.lemmas.List.Folds.{list_any-append}
use Rattle.std.proofs.lemmas.Nat.{div-add-mod', mod-mul-add}
use Rattle.std.proofs.lemmas.Option.{same_Some}
use Rattle.rc_base.proofs.laws.Histories.{GoesOn-front}
use Rattle.rc_base.specs.Follows.{GoesOn}
use Rattle.cbm.specs.Masks.{has_way}
use Rattle.cbm.proofs.laws.Overlaps.{has_way-apart}
use Rattle.cache_core.specs.declared.entry.What.{What}
use Rattle.cache_core.specs.declared.entry.What.TheVariants.{Access, Raise, Flush, Lock, Look, Drop}
use Rattle.cache_core.specs.declared.entry.SliceEntry.{SliceEntry}
use Rattle.cache_core.specs.History.{Shape, ways_below, held, decides, left_by, EntryMayFollow, MayHappen}
use Rattle.cache_core.specs.Stands.{entry}
use Rattle.cache_core.proofs.laws.Histories.{held-push}
use Rattle.private_lru.specs.SliceLaws.{SliceHolds}
use Rattle.private_lru.specs.Locked.{HitsLoaded, Spares, drops_line, is_drop}
use Rattle.private_lru.proofs.OtherUsers.{place-loads}
use Rattle.private_lru.proofs.WayLines.{line_in}
use Rattle.private_lru.proofs.KeptEntries.{and-third_false}
use Rattle.private_lru.proofs.laws.SliceWindows.{GoesOn-rest}

-- the line of a region in a place
abbrev line_at : Shape → ℕ → ℕ → ℕ → ℕ → ℕ
line_at m mask first_line set way = first_line + set + ways_below mask way * m.sets

-- each way of the region holds its line, unless one of the entries since the lock drops it
abbrev KeepsLoaded : Shape → ℕ → ℕ → List SliceEntry → List SliceEntry → Type 0
KeepsLoaded m mask first_line since history =
    (set way : ℕ) → way < m.ways → has_way mask way ≡ true → drops_line since (line_at m mask first_line set way) ≡ false
    → held m history set way ≡ Some (record { line = line_at m mask first_line set way; rmid = 0 })

-- neither the earlier entries nor the last one drop the line
drops_line-push : (since : List SliceEntry) (e : SliceEntry) (x : ℕ) → drops_line (since ++ e ∷ []) x ≡ false → (drops_line since x ≡ false) × (is_drop x e.what ≡ false)
drops_line-push since e x none =
    let parts = or_parts (drops_line since x) (is_drop x e.what || false) (sym (list_any-append (λ (y : SliceEntry). is_drop x y.what) since (e ∷ [])) ∙ none) in
    (parts.0, (or_parts (is_drop x e.what) false parts.1).0)

-- an entry that decides no place of the region which it does not drop
KeepsLoaded-undecided : (m : Shape) (mask first_line : ℕ) (since history : List SliceEntry) (e : SliceEntry)
    → ((set way : ℕ) → way < m.ways → has_way mask way ≡ true → drops_line since (line_at m mask first_line set way) ≡ false → is_drop (line_at m mask first_line set way) e.what ≡ false → decides m set way e.what ≡ false)
    → KeepsLoaded m mask first_line since history → KeepsLoaded m mask first_line (since ++ e ∷ []) (history ++ e ∷ [])
KeepsLoaded-undecided m mask first_line since history e idle keeps set way within has none =
    let parts = drops_line-push since e (line_at m mask first_line set way) none in
    held-push m history e set way ∙ (cond-false (decides m set way e.what) _ _ (idle set way within has parts.0 parts.1) ∙ keeps set way within has parts.0)

-- one entry more
KeepsLoaded-push : (m : Shape) (narrow : m.ways ≤ 64) (mask first_line : ℕ) (since history : List SliceEntry) (thread op epoch : ℕ) (what : What) → MayHappen m history epoch what → Spares mask what
    → KeepsLoaded m mask first_line since history → KeepsLoaded m mask first_line (since ++ entry thread op epoch what ∷ []) (history ++ entry thread op epoch what ∷ [])
KeepsLoaded-push m narrow mask first_line since history thread op epoch (Access true way owner rmid its line) may spares keeps = KeepsLoaded-undecided m mask first_line since history (entry thread op epoch (Access true way owner rmid its line)) (λ set v within has old new. refl) keeps
KeepsLoaded-push m narrow mask first_line since history thread op epoch (Access false way owner rmid its line) may spares keeps =
    let victim = may.1.1 in
    let lt : way < m.ways = victim.within in
    let off : has_way mask way ≡ false = has_way-apart its mask way spares (omega arith) victim.allowed in
    KeepsLoaded-undecided m mask first_line since history (entry thread op epoch (Access false way owner rmid its line))
    (λ set v within has old new. and-third_false true (line % m.sets == set) (way == v) (ne_eqb way v (λ e. true≢false (sym has ∙ (ap (λ w. has_way mask w) (sym e) ∙ off))))) keeps
KeepsLoaded-push m narrow mask first_line since history thread op epoch Raise may spares keeps = KeepsLoaded-undecided m mask first_line since history (entry thread op epoch Raise) (λ set v within has old new. refl) keeps
KeepsLoaded-push m narrow mask first_line since history thread op epoch Flush may spares keeps = absurd (true≢false spares)
KeepsLoaded-push m narrow mask first_line since history thread op epoch (Lock others first) may spares keeps = absurd (true≢false spares)
KeepsLoaded-push m narrow mask first_line since history thread op epoch (Look rmid lines) may spares keeps = KeepsLoaded-undecided m mask first_line since history (entry thread op epoch (Look rmid lines)) (λ set v within has old new. refl) keeps
KeepsLoaded-push m narrow mask first_line since history thread op epoch (Drop line None) may spares keeps = KeepsLoaded-undecided m mask first_line since history (entry thread op epoch (Drop line None)) (λ set v within has old new. refl) keeps
KeepsLoaded-push m narrow mask first_line since history thread op epoch (Drop line (Some at)) may spares keeps =
    KeepsLoaded-undecided m mask first_line since history (entry thread op epoch (Drop line (Some at)))
    (λ set v within has old new. elim (cases_Bool ((line % m.sets == set) && (at == v))) [
      | inr apart ↦ apart
      | inl there ↦
          let parts = and_parts (line % m.sets == set) (at == v) there in
          let holds : line_in (held m history set v) ≡ Some line = ap (λ s. line_in (held m history s v)) (sym (eqb-true (line % m.sets) set parts.0)) ∙ (ap (λ w. line_in (held m history (line % m.sets) w)) (sym (eqb-true at v parts.1)) ∙ may.1.1) in
          let same : line ≡ line_at m mask first_line set v = same_Some _ _ (sym holds ∙ ap line_in (keeps set v within has old)) in
          absurd (eqb-false line (line_at m mask first_line set v) new same)
    ]) keeps

-- a line of the region is of the set in which it is KeepsLoaded-locked
mod-line : (n first_line set k : ℕ) → first_line % n ≡ 0 → set < n → (first_line + set + k * n) % n ≡ set
mod-line n first_line set k whole below =
    let q : ℕ = first_line / n in
    let split : q * n + first_line % n ≡ first_line = div-add-mod' first_line n in
    let same : first_line + set + k * n ≡ (q + k) * n + set = grind (arith, split, whole) in
    ap (λ x. x % n) same ∙ mod-mul-add (q + k) n set below

-- an access hits where the ways keep their lines
HitsLoaded-kept : (m : Shape) (narrow : m.ways ≤ 64) (mask first_line : ℕ) (small : mask < 2 ^ m.ways) (since history : List SliceEntry) (epoch : ℕ) (what : What) → first_line % m.sets ≡ 0 → MayHappen m history epoch what
    → KeepsLoaded m mask first_line since history → HitsLoaded m.sets (Lock mask first_line) since what
HitsLoaded-kept m narrow mask first_line small since history epoch (Access true way owner rmid its line) whole may keeps = λ l none. refl
HitsLoaded-kept m narrow mask first_line small since history epoch (Access false way owner rmid its line) whole may keeps = λ is none.
    let l = place-loads m mask first_line line narrow small is in
    let set : line % m.sets ≡ l.0 = ap (λ x. x % m.sets) l.5 ∙ mod-line m.sets first_line l.0 (ways_below mask l.1) whole l.2 in
    let holds : line_in (held m history (line % m.sets) l.1) ≡ Some line =
    ap (λ s. line_in (held m history s l.1)) set ∙ (ap line_in (keeps l.0 l.1 l.3 l.4 (ap (drops_line since) (sym l.5) ∙ none)) ∙ ap Some (sym l.5)) in
    absurd (may.1.0 l.1 l.3 holds)
HitsLoaded-kept m narrow mask first_line small since history epoch Raise whole may keeps = tt
HitsLoaded-kept m narrow mask first_line small since history epoch Flush whole may keeps = tt
HitsLoaded-kept m narrow mask first_line small since history epoch (Lock others first) whole may keeps = tt
HitsLoaded-kept m narrow mask first_line small since history epoch (Look rmid lines) whole may keeps = tt
HitsLoaded-kept m narrow mask first_line small since history epoch (Drop line at) whole may keeps = tt

-- all entries that leave the ways alone
HitsLoaded-each : (m : Shape) (narrow : m.ways ≤ 64) (mask first_line : ℕ) (small : mask < 2 ^ m.ways) (since history entries : List SliceEntry) → first_line % m.sets ≡ 0 → GoesOn (EntryMayFollow m) history entries → All (λ (e : SliceEntry). Spares mask e.what) entries
    → KeepsLoaded m mask first_line since history → (k : ℕ) (d : SliceEntry) → k < length entries → HitsLoaded m.sets (Lock mask first_line) (since ++ take k entries) (get_or entries k d).what
HitsLoaded-each m narrow mask first_line small since history [] whole goes spares keeps k d within = absurd (omega arith)
HitsLoaded-each m narrow mask first_line small since history (e ∷ es) whole goes spares keeps zero d within =
    subst (λ (l : List SliceEntry). HitsLoaded m.sets (Lock mask first_line) l e.what) (sym (append-nil since)) (HitsLoaded-kept m narrow mask first_line small since history e.epoch e.what whole goes.0 keeps)
HitsLoaded-each m narrow mask first_line small since history (e ∷ es) whole goes spares keeps (suc k) d within =
    subst (λ (l : List SliceEntry). HitsLoaded m.sets (Lock mask first_line) l (get_or es k d).what) (append_assoc since (e ∷ []) (take k es))
    (HitsLoaded-each m narrow mask first_line small (since ++ e ∷ []) (history ++ e ∷ []) es whole goes.1 (λ i x l. spares (suc i) x (omega arith))
    (KeepsLoaded-push m narrow mask first_line since history e.thread e.op e.epoch e.what goes.0 (spares 0 e (omega arith)) keeps) k d (omega arith))

-- what the lock leaves
KeepsLoaded-locked : (m : Shape) (mask first_line : ℕ) (history : List SliceEntry) (e : SliceEntry) → e.what ≡ Lock mask first_line → KeepsLoaded m mask first_line [] (history ++ e ∷ [])
KeepsLoaded-locked m mask first_line history e is set way within has none =
    held-push m history e set way ∙ (ap (λ (w : What). cond (decides m set way w) (left_by m set way w) (held m history set way)) is ∙ rw has refl)

-- from a lock up to a later place
pub HoldsLoaded-between : SliceHolds
HoldsLoaded-between m entries from to mask first_line opening narrow small whole legal less most read is spares =
    let rest : List SliceEntry = drop (from + 1) entries in
    let n : ℕ = to - (from + 1) in
    let inside : from < length entries = omega arith in
    let first : take (from + 1) entries ≡ take from entries ++ opening ∷ [] = take_more entries from opening inside ∙ ap (λ (e : SliceEntry). take from entries ++ e ∷ []) (sym read) in
    let parts : entries ≡ take (from + 1) entries ++ (take n rest ++ drop n rest) = sym (take-append-drop (from + 1) entries) ∙ ap (λ l. take (from + 1) entries ++ l) (sym (take-append-drop n rest)) in
    let goes : GoesOn (EntryMayFollow m) [] (take (from + 1) entries ++ (take n rest ++ drop n rest)) = subst (λ l. GoesOn (EntryMayFollow m) [] l) parts legal in
    let window : GoesOn (EntryMayFollow m) (take (from + 1) entries) (take n rest) =
    GoesOn-front (EntryMayFollow m) (take (from + 1) entries) (take n rest) (drop n rest) (GoesOn-rest m [] (take (from + 1) entries) (take n rest ++ drop n rest) goes) in
    HitsLoaded-each m narrow mask first_line small [] (take from entries ++ opening ∷ []) (take n rest) whole (subst (λ b. GoesOn (EntryMayFollow m) b (take n rest)) first window) spares
    (KeepsLoaded-locked m mask first_line (take from entries) opening is)
