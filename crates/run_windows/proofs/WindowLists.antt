-- The list of the windows that begin before a place, when the place moves on.
use Rattle.std.proofs.Common.{◌≡◌, ℕ, ◌+◌, ◌<◌, ◌≤◌, List, [], ◌∷◌, ◌++◌, map, inl, inr, sym, subst, ap, arith}
use Rattle.std.specs.List.{All, AllPairs, Contains}
use Rattle.std.proofs.lemmas.Bool.{cases_lt, le-ltb, lt-ltb}
use Rattle.std.proofs.lemmas.List.{map-append}
use Rattle.std.proofs.lemmas.List.Elements.{All-push, Contains-append_left, Contains-push}
use Rattle.std.proofs.lemmas.List.Quantifiers.{all_pairs_push}
use Rattle.cache_core.specs.declared.entry.SliceEntry.{SliceEntry}
use Rattle.machine.specs.Slices.{slice_number}
use Rattle.private_lru.specs.GroupCounts.{accesses_of}
use Rattle.private_lru.specs.Isolation.{between}
use Rattle.run_law.specs.Journals.{JournalsValue, slice_at}
use Rattle.run_counts.specs.declared.window.Window.{Window}
use Rattle.run_windows.proofs.OneWindow.{IsWindow-same}
use Rattle.run_windows.proofs.SiteOrder.{Precedes-gid, Precedes-next, Precedes-or_not, grows-gid, site, site-same}
use Rattle.run_windows.specs.AllWindows.{AreWindowsBefore, IsUsed, IsUsedWindow, with_used}
use Rattle.run_windows.specs.WindowCounts.{IsCountedWindow}
use Rattle.run_windows.specs.Sites.{Precedes, Site, site_of}
use Rattle.script_ops.specs.Values.{ScriptValue}

module _ (script : ScriptValue) (j : JournalsValue) where
  -- no window begins from a place on up to another
  abbrev pub NoneBetween : Site → Site → Type 0
  NoneBetween b c = (s : Site) → (Precedes s b → ⊥) → Precedes s c → IsUsed script j s → ⊥

  -- the place moves on over no window
  pub AreWindowsBefore-later : (b c : Site) (ws : List Window) → ((s : Site) → Precedes s b → Precedes s c) → NoneBetween b c → AreWindowsBefore script j b ws → AreWindowsBefore script j c ws
  AreWindowsBefore-later b c ws grows none old = record {
    each = old.each;
    before = λ k d within. grows _ (old.before k d within);
    all = λ s less used. elim (Precedes-or_not s b) [
      | inl is ↦ old.all s is used
      | inr isnt ↦ absurd (none s isnt less used)
    ];
    ordered = old.ordered;
  }

  -- the place moves on over one window
  pub AreWindowsBefore-push : (b c : Site) (ws : List Window) (w : Window) → ((s : Site) → Precedes s b → Precedes s (site_of w)) → Precedes (site_of w) c → ((s : Site) → Precedes s b → Precedes s c)
      → ((s : Site) → (Precedes s b → ⊥) → Precedes s c → s ≡ site_of w) → IsUsedWindow script j w → AreWindowsBefore script j b ws → AreWindowsBefore script j c (ws ++ w ∷ [])
  AreWindowsBefore-push b c ws w late own grows only is old = record {
    each = All-push (IsUsedWindow script j) ws w old.each is;
    before = subst (All (λ (s : Site). Precedes s c)) (sym sites) (All-push (λ (s : Site). Precedes s c) (map site_of ws) (site_of w) (λ k d within. grows _ (old.before k d within)) own);
    all = λ s less used. subst (λ (l : List Site). Contains l s) (sym sites) (elim (Precedes-or_not s b) [
      | inl was ↦ Contains-append_left (map site_of ws) (site_of w ∷ []) s (old.all s was used)
      | inr isnt ↦ subst (λ (x : Site). Contains (map site_of ws ++ site_of w ∷ []) x) (sym (only s isnt less)) (Contains-push (map site_of ws) (site_of w))
    ]);
    ordered = subst (λ (l : List Site). AllPairs Precedes l) (sym sites) (all_pairs_push Precedes (map site_of ws) (site_of w) old.ordered (λ k d within. late _ (old.before k d within)));
  }
    where
      sites : map site_of (ws ++ w ∷ []) ≡ map site_of ws ++ site_of w ∷ []
      sites = map-append site_of ws (w ∷ [])

  -- a window without an access of its group is not used
  IsUsed-none : (w : Window) (opening : SliceEntry) (mask last : ℕ) → IsCountedWindow script j opening mask last w → w.accesses ≤ 0 → IsUsed script j (site_of w) → ⊥
  IsUsed-none w opening mask last counted none used =
      let i : ℕ = slice_number script.machine w.domain w.slice in
      let same = IsWindow-same script j i w.from counted.to used.to opening used.opening w.gid mask used.mask last used.last counted.is used.is in
      let own : 0 < accesses_of w.gid.0 (between (slice_at j i) w.from counted.to) = subst (λ to. 0 < accesses_of w.gid.0 (between (slice_at j i) w.from to)) (sym same.same_end) used.used in
      let is = counted.counts.accesses_is in
      omega (arith, own, is, none)

  -- the place moves on over the window of a group
  AreWindowsBefore-own : (ws : List Window) (w : Window) (opening : SliceEntry) (mask last : ℕ) → w.domain < script.machine.domains → w.slice < script.machine.slices → IsCountedWindow script j opening mask last w
      → AreWindowsBefore script j (site_of w) ws → AreWindowsBefore script j (site w.domain w.slice w.from (w.gid.0 + 1)) (with_used ws w)
  AreWindowsBefore-own ws w opening mask last domain_exists slice_exists counted old = elim (cases_lt 0 w.accesses) [
    | inl some ↦ rw (lt-ltb 0 w.accesses some) (AreWindowsBefore-push (site_of w) next ws w (λ s is. is) (Precedes-next (site_of w)) grows only (used some) old)
    | inr none ↦ rw (le-ltb 0 w.accesses none) (AreWindowsBefore-later (site_of w) next ws grows (λ s isnt is its. IsUsed-none w opening mask last counted none (subst (IsUsed script j) (only s isnt is) its)) old)
  ]
    where
      next : Site
      next = site w.domain w.slice w.from (w.gid.0 + 1)

      grows : (s : Site) → Precedes s (site_of w) → Precedes s next
      grows s is = grows-gid w.domain w.slice w.from w.gid.0 (w.gid.0 + 1) (omega arith) s is

      only : (s : Site) → (Precedes s (site_of w) → ⊥) → Precedes s next → s ≡ site_of w
      only s isnt is =
          let at = Precedes-gid s w.domain w.slice w.from w.gid.0 (w.gid.0 + 1) isnt is in
          let low = at.3 in
          let high = at.4 in
          site-same s w.domain w.slice w.from w.gid.0 at.0 at.1 at.2 (omega (arith, low, high))

      used : 0 < w.accesses → IsUsedWindow script j w
      used some = record { opening = opening; mask = mask; last = last; domain_exists = domain_exists; slice_exists = slice_exists; counted = counted; used = some }

  -- the same by the place that was asked for
  pub AreWindowsBefore-place : (ws : List Window) (w : Window) (opening : SliceEntry) (mask last d x f g : ℕ) → site_of w ≡ site d x f g → d < script.machine.domains → x < script.machine.slices
      → IsCountedWindow script j opening mask last w → AreWindowsBefore script j (site d x f g) ws → AreWindowsBefore script j (site d x f (g + 1)) (with_used ws w)
  AreWindowsBefore-place ws w opening mask last d x f g is domain_exists slice_exists counted old =
      let domain = ap (λ (s : Site). s.domain) is in
      let slice = ap (λ (s : Site). s.slice) is in
      let next : site w.domain w.slice w.from (w.gid.0 + 1) ≡ site d x f (g + 1) = ap (λ (s : Site). site s.domain s.slice s.from (s.gid + 1)) is in
      subst (λ (s : Site). AreWindowsBefore script j s (with_used ws w)) next
      (AreWindowsBefore-own ws w opening mask last (subst (λ n. n < script.machine.domains) (sym domain) domain_exists) (subst (λ n. n < script.machine.slices) (sym slice) slice_exists) counted
      (subst (λ (s : Site). AreWindowsBefore script j s ws) (sym is) old))
