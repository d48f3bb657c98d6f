-- The window that begins at a place of a run.
use Rattle.std.proofs.Common.{◌≡◌, ℕ, ◌+◌, ◌-◌, ◌*◌, ◌/◌, ◌<◌, ◌≤◌, true, false, nat_lt, List, length, drop, take, Option, None, Some, IfSome, inl, inr, sym, subst, ap, ◌∙◌, arith, take_all}
use Rattle.std.specs.List.{position_or_len, slice_get}
use Rattle.std.proofs.lemmas.Bool.{cases_Bool, ltb-false, ltb-true, or_parts}
use Rattle.std.proofs.lemmas.List.{length-drop}
use Rattle.std.proofs.lemmas.Nat.{div-mul-add}
use Rattle.std.proofs.lemmas.Option.{slice_get_within}
use Rattle.cache_core.specs.Filled.{empties}
use Rattle.cache_core.specs.declared.entry.SliceEntry.{SliceEntry}
use Rattle.machine.proofs.laws.Slices.{slice_number-lt}
use Rattle.machine.specs.Slices.{slice_number}
use Rattle.rc_base.specs.declared.names.Gid.{Gid}
use Rattle.cbm.specs.Masks.{ways_of}
use Rattle.private_lru.proofs.laws.CoveredHits.{hits_of_group-covered}
use Rattle.private_lru.specs.GroupCounts.{accesses_of, covered_private_hits, hits_of_group}
use Rattle.private_lru.specs.Covered.{covered}
use Rattle.private_lru.specs.Isolation.{IsIsolated, between}
use Rattle.run_law.specs.Runs.{IsRun}
use Rattle.run_counts.specs.declared.window.Window.{Window}
use Rattle.run_windows.specs.WindowCounts.{AreCounts, IsCountedWindow}
use Rattle.run_windows.proofs.IsolatedWindows.{IsIsolated-window}
use Rattle.run_law.specs.Journals.{At, JournalsValue, slice_at}
use Rattle.script_ops.specs.Values.{IsLawful, ScriptValue}
use Rattle.run_windows.specs.Windows.{Ends, GoesOver, IsWindow, StaysExclusive, ends_window}
use Rattle.private_lru.proofs.laws.FirstPlaces.{position_or_len-at, position_or_len-before, position_or_len-le, slice_get-drop}

-- an entry that does not end a window
GoesOver-ends_window : (last : ℕ) (e : SliceEntry) → ends_window last e ≡ false → GoesOver last e
GoesOver-ends_window last e is = let parts = or_parts (empties e.what) (nat_lt last e.epoch) is in (parts.0, ltb-false last e.epoch parts.1)

-- one that does
Ends-ends_window : (last : ℕ) (e : SliceEntry) → ends_window last e ≡ true → Ends last e
Ends-ends_window last e is = elim (cases_Bool (empties e.what)) [
  | inl empty ↦ inl empty
  | inr full ↦ inr (ltb-true last e.epoch (rw full at is))
]

-- the domain of a slice by its number
pub domain_in-slice_number : (domain slice slices : ℕ) → slice < slices → (domain * slices + slice) / slices ≡ domain
domain_in-slice_number domain slice slices lt = div-mul-add domain slices slice lt

-- the window from a place up to the first entry that ends it
pub IsWindow-from : (script : ScriptValue) (j : JournalsValue) (domain slice from n : ℕ) (opening : SliceEntry) (group : Gid) (mask last : ℕ) → domain < script.machine.domains → slice < script.machine.slices
    → At (slice_at j (slice_number script.machine domain slice)) from opening → empties opening.what ≡ true → StaysExclusive script j domain group mask opening.epoch last
    → n ≡ position_or_len (ends_window last) (drop (from + 1) (slice_at j (slice_number script.machine domain slice)))
    → IsWindow script j (slice_number script.machine domain slice) from (from + 1 + n) opening group mask last
IsWindow-from script j domain slice from n opening group mask last exists there opens empty exclusive is =
    let i : ℕ = slice_number script.machine domain slice in
    let entries : List SliceEntry = slice_at j i in
    let rest : List SliceEntry = drop (from + 1) entries in
    let inside : from < length entries = slice_get_within entries from opening opens in
    let le : position_or_len (ends_window last) rest ≤ length rest = position_or_len-le (ends_window last) rest in
    record {
      slice_exists = slice_number-lt script.machine domain slice exists there;
      opens = opens;
      empty = empty;
      exclusive = subst (λ d. StaysExclusive script j d group mask opening.epoch last) (sym (domain_in-slice_number domain slice script.machine.slices there)) exclusive;
      after_opening = omega arith;
      within = omega (arith, length-drop (from + 1) entries);
      goes_over = λ p e at late early.
          let place : (from + 1) + (p - (from + 1)) ≡ p = omega arith in
          GoesOver-ends_window last e (position_or_len-before (ends_window last) rest (p - (from + 1)) e (slice_get-drop (from + 1) (p - (from + 1)) entries ∙ ap (slice_get entries) place ∙ at) (omega arith));
      ends = of (slice_get entries (from + 1 + n)) (slice_get-drop (from + 1) n entries);
    }
  where
    of : (o : Option SliceEntry) → slice_get (drop (from + 1) (slice_at j (slice_number script.machine domain slice))) n ≡ o → IfSome o (Ends last)
    of None none = tt
    of (Some e) some = Ends-ends_window last e (position_or_len-at (ends_window last) (drop (from + 1) (slice_at j (slice_number script.machine domain slice))) e (ap (slice_get (drop (from + 1) (slice_at j (slice_number script.machine domain slice)))) (sym is) ∙ some))

-- ---- counts

-- what is left of a list after a place
pub take-drop_rest : (a : ℕ) (entries same : List SliceEntry) → entries ≡ same → take (length entries - a) (drop a entries) ≡ drop a same
take-drop_rest a entries same is = take_all (length entries - a) (drop a entries) (omega (arith, length-drop a entries)) ∙ ap (drop a) is

-- the entries of a window of so many
pub take-between : (from n : ℕ) (entries same : List SliceEntry) → entries ≡ same → take n (take (length entries - (from + 1)) (drop (from + 1) entries)) ≡ between same from (from + 1 + n)
take-between from n entries same is =
    let len : n ≡ from + 1 + n - (from + 1) = omega arith in
    ap (take n) (take-drop_rest (from + 1) entries same is) ∙ ap (λ k. take k (drop (from + 1) same)) len

-- a window with its place and its counts
pub IsCountedWindow-from : (script : ScriptValue) (j : JournalsValue) (domain slice from to : ℕ) (opening : SliceEntry) (group : Gid) (mask last : ℕ) (entries : List SliceEntry) (w : Window) → IsLawful script → IsRun script j
    → IsWindow script j (slice_number script.machine domain slice) from to opening group mask last → entries ≡ between (slice_at j (slice_number script.machine domain slice)) from to
    → w.domain ≡ domain → w.slice ≡ slice → w.from ≡ from → w.gid ≡ group → w.ways ≡ length (ways_of mask)
    → w.accesses ≡ accesses_of group.0 entries → w.hits ≡ hits_of_group group.0 entries → w.covered ≡ length (covered script.machine.sets group.0 opening.what entries)
    → w.covered_hits ≡ hits_of_group group.0 (covered script.machine.sets group.0 opening.what entries) → w.private ≡ w.covered_hits
    → IsCountedWindow script j opening mask last w
IsCountedWindow-from script j domain slice from to opening group mask last entries w lawful run window holds domain_is slice_is from_is group_is ways accesses hits covered_is covered_hits private =
    let sets : ℕ = script.machine.sets in
    let ws : ℕ = length (ways_of mask) in
    let i : ℕ = slice_number script.machine domain slice in
    let isolated : IsIsolated sets group.0 ws opening.what entries = subst (λ (l : List SliceEntry). IsIsolated sets group.0 ws opening.what l) (sym holds) (IsIsolated-window script j i from to opening group mask last lawful run window) in
    let privates : hits_of_group group.0 (covered sets group.0 opening.what entries) ≡ covered_private_hits sets group.0 ws opening.what entries = hits_of_group-covered sets group.0 ws opening.what entries isolated in
    let counts : AreCounts sets group.0 ws opening entries w = record { ways_is = ways; accesses_is = accesses; hits_is = hits; covered_is = covered_is; covered_hits_is = covered_hits; private_is = private ∙ covered_hits ∙ privates; same = sym private } in
    let all : Both domain slice from group = (window, subst (λ (l : List SliceEntry). AreCounts sets group.0 ws opening l w) holds counts) in
    let placed : Both w.domain w.slice w.from w.gid =
    subst (λ (g : Gid). Both w.domain w.slice w.from g) (sym group_is) (subst (λ f. Both w.domain w.slice f group) (sym from_is) (subst (λ x. Both w.domain x from group) (sym slice_is) (subst (λ d. Both d slice from group) (sym domain_is) all))) in
    record { to = to; is = placed.0; counts = placed.1 }
  where
    Both : (domain slice from : ℕ) (group : Gid) → Type 0
    Both d x f g = IsWindow script j (slice_number script.machine d x) f to opening g mask last × AreCounts script.machine.sets g.0 (length (ways_of mask)) opening (between (slice_at j (slice_number script.machine d x)) f to) w
