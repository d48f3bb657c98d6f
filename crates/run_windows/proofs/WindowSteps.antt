-- The list of all windows, step by step.
use Rattle.std.proofs.Common.{◌≡◌, ℕ, suc, ◌+◌, ◌<◌, ◌≤◌, false, List, [], length, get_or, refl, sym, subst, ap, ◌∙◌, arith}
use Rattle.std.specs.List.{Contains}
use Rattle.std.proofs.lemmas.Bool.{true≢false}
use Rattle.std.proofs.lemmas.List.{get_or-map, length-map}
use Rattle.std.proofs.lemmas.Option.{get_or_from_slice_get, same_Some, slice_get_within}
use Rattle.cache_core.specs.Filled.{empties}
use Rattle.cache_core.specs.declared.entry.SliceEntry.{SliceEntry}
use Rattle.cache_core.specs.declared.entry.What.TheVariants.{Access}
use Rattle.machine.specs.Slices.{domain_in, slice_number}
use Rattle.run_law.specs.Journals.{At, JournalsValue, slice_at}
use Rattle.run_counts.specs.declared.window.Window.{Window}
use Rattle.run_windows.proofs.CountedWindows.{domain_in-slice_number}
use Rattle.run_windows.proofs.KeptStays.{gids}
use Rattle.run_windows.proofs.Openings.{IsOpening-entry}
use Rattle.run_windows.proofs.RisingGids.{Contains-past, Contains-past_all, first_past, first_past-le}
use Rattle.run_windows.proofs.SiteOrder.{Precedes-domain, Precedes-first, Precedes-from, Precedes-gid, Precedes-slice, Precedes-within, grows-domain, grows-from, grows-gid, grows-slice, site, site-same}
use Rattle.run_windows.proofs.WindowLists.{AreWindowsBefore-later}
use Rattle.run_windows.specs.AllWindows.{AreWindowsBefore, AreWindowsOf, IsOpening, IsUsed, gid_of}
use Rattle.run_windows.specs.Epochs.{state_at}
use Rattle.run_windows.specs.Sites.{Site}
use Rattle.run_windows.specs.Stays.{AreStays}
use Rattle.run_windows.specs.Windows.{IsExclusive}
use Rattle.private_lru.specs.declared.exclusive_span.ExclusiveSpan.{ExclusiveSpan}
use Rattle.script_ops.specs.Values.{ScriptValue}

-- what stands past the end of a list of these
abbrev pub no_stay : ExclusiveSpan
no_stay = record { gid = record { 0 = 0 }; mask = 0; last = 0 }

-- and past the end of a list of entries
abbrev pub no_entry : SliceEntry
no_entry = record { thread = 0; op = 0; epoch = 0; what = Access false 0 (record { 0 = 0 }) 0 0 0 }

module _ (script : ScriptValue) (j : JournalsValue) where
  -- the entries of a slice
  abbrev entries_of : ℕ → ℕ → List SliceEntry
  entries_of d x = slice_at j (slice_number script.machine d x)

  -- a window by the parts of its place
  IsUsed-site : (s : Site) (d x f g : ℕ) → s.domain ≡ d → s.slice ≡ x → s.from ≡ f → s.gid ≡ g → IsUsed script j s → IsUsed script j (site d x f g)
  IsUsed-site s d x f g a b c e used = subst (IsUsed script j) (site-same s d x f g a b c e) used

  -- the group of a window is listed at the epoch of its opening
  IsUsed-listed : (d x f g : ℕ) (e : SliceEntry) (stays : List ExclusiveSpan) → At (entries_of d x) f e → AreStays script j d e.epoch stays → IsUsed script j (site d x f g) → Contains (gids stays) g
  IsUsed-listed d x f g e stays there listed used =
      let same : used.opening ≡ e = same_Some used.opening e (sym used.is.opens ∙ there) in
      let first = used.is.exclusive.from_first in
      let here : IsExclusive (domain_in script.machine (slice_number script.machine d x)) (gid_of g) used.mask (state_at script j used.opening.epoch) = used.is.exclusive.always used.opening.epoch (omega arith) first in
      let own : IsExclusive d (gid_of g) used.mask (state_at script j used.opening.epoch) =
      subst (λ k. IsExclusive k (gid_of g) used.mask (state_at script j used.opening.epoch)) (domain_in-slice_number d x script.machine.slices used.slice_exists) here in
      listed.all (gid_of g) used.mask (subst (λ (o : SliceEntry). IsExclusive d (gid_of g) used.mask (state_at script j o.epoch)) same own)

  -- up to the next group that is listed
  pub AreWindowsBefore-stay : (d x f i : ℕ) (e : SliceEntry) (stays : List ExclusiveSpan) (ws : List Window) → At (entries_of d x) f e → AreStays script j d e.epoch stays → i < length (gids stays)
      → AreWindowsBefore script j (site d x f (first_past (gids stays) i)) ws → AreWindowsBefore script j (site d x f (get_or (gids stays) i 0)) ws
  AreWindowsBefore-stay d x f i e stays ws there listed within old =
      let g : ℕ = first_past (gids stays) i in
      let h : ℕ = get_or (gids stays) i 0 in
      AreWindowsBefore-later script j (site d x f g) (site d x f h) ws (λ s is. grows-gid d x f g h (first_past-le (gids stays) i listed.rising within) s is)
      (λ s isnt is used.
      let at = Precedes-gid s d x f g h isnt is in
      let high = at.4 in
      let le = Contains-past (gids stays) i s.gid listed.rising (IsUsed-listed d x f s.gid e stays there listed (IsUsed-site s d x f s.gid at.0 at.1 at.2 refl used)) at.3 within in
      omega (arith, high, le))
      old

  -- past the last group that is listed
  pub AreWindowsBefore-opened : (d x f : ℕ) (e : SliceEntry) (stays : List ExclusiveSpan) (ws : List Window) → At (entries_of d x) f e → AreStays script j d e.epoch stays
      → AreWindowsBefore script j (site d x f (first_past (gids stays) (length (gids stays)))) ws → AreWindowsBefore script j (site d x (f + 1) 0) ws
  AreWindowsBefore-opened d x f e stays ws there listed old =
      let g : ℕ = first_past (gids stays) (length (gids stays)) in
      AreWindowsBefore-later script j (site d x f g) (site d x (f + 1) 0) ws (λ s is. grows-from d x f g s is)
      (λ s isnt is used.
      let at = Precedes-from s d x f g isnt is in
      let low = at.3 in
      let lt = Contains-past_all (gids stays) s.gid listed.rising (IsUsed-listed d x f s.gid e stays there listed (IsUsed-site s d x f s.gid at.0 at.1 at.2 refl used)) in
      omega (arith, low, lt))
      old

  -- the groups that are listed at the opening of a place
  AreStays-opening : (d x f : ℕ) (stays : List ExclusiveSpan) → (opens : IsOpening script j d x f) → ((e : SliceEntry) → AreStays script j d (get_or (entries_of d x) f e).epoch stays) → AreStays script j d (IsOpening-entry script j d x f opens).0.epoch stays
  AreStays-opening d x f stays opens listed =
      let e = IsOpening-entry script j d x f opens in
      subst (λ (o : SliceEntry). AreStays script j d o.epoch stays) (get_or_from_slice_get (entries_of d x) f e.0 e.0 e.1) (listed e.0)

  -- the number of a group that is listed
  get_or-gids : (stays : List ExclusiveSpan) (i : ℕ) (s : ExclusiveSpan) → i < length stays → s ≡ get_or stays i s → get_or (gids stays) i 0 ≡ s.gid.0
  get_or-gids stays i s within is = get_or-map (λ (y : ExclusiveSpan). y.gid.0) stays i s 0 within ∙ ap (λ (y : ExclusiveSpan). y.gid.0) (sym is)

  -- past a group that is listed
  pub first_past-next : (stays : List ExclusiveSpan) (i : ℕ) (s : ExclusiveSpan) → i < length stays → s ≡ get_or stays i s → first_past (gids stays) (i + 1) ≡ s.gid.0 + 1
  first_past-next stays i s within is =
      let one : i + 1 ≡ suc i = omega arith in
      ap (first_past (gids stays)) one ∙ ap (λ n. n + 1) (get_or-gids stays i s within is)

  -- up to the next group that is listed, by its place
  pub AreWindowsBefore-next : (d x f i : ℕ) (stays : List ExclusiveSpan) (s : ExclusiveSpan) (ws : List Window) → IsOpening script j d x f → ((e : SliceEntry) → AreStays script j d (get_or (entries_of d x) f e).epoch stays) → i < length stays → s ≡ get_or stays i s
      → AreWindowsBefore script j (site d x f (first_past (gids stays) i)) ws → AreWindowsBefore script j (site d x f s.gid.0) ws
  AreWindowsBefore-next d x f i stays s ws opens listed within is old =
      let e = IsOpening-entry script j d x f opens in
      let len = length-map stays (λ (y : ExclusiveSpan). y.gid.0) in
      subst (λ g. AreWindowsBefore script j (site d x f g) ws) (get_or-gids stays i s within is)
      (AreWindowsBefore-stay d x f i e.0 stays ws e.1 (AreStays-opening d x f stays opens listed) (omega (arith, within, len)) old)

  -- past the last one, by the place
  pub AreWindowsBefore-end : (d x f n : ℕ) (stays : List ExclusiveSpan) (ws : List Window) → IsOpening script j d x f → ((e : SliceEntry) → AreStays script j d (get_or (entries_of d x) f e).epoch stays) → n ≡ length stays
      → AreWindowsBefore script j (site d x f (first_past (gids stays) n)) ws → AreWindowsBefore script j (site d x (f + 1) 0) ws
  AreWindowsBefore-end d x f n stays ws opens listed is old =
      let e = IsOpening-entry script j d x f opens in
      let len : n ≡ length (gids stays) = is ∙ sym (length-map stays (λ (y : ExclusiveSpan). y.gid.0)) in
      AreWindowsBefore-opened d x f e.0 stays ws e.1 (AreStays-opening d x f stays opens listed) (subst (λ k. AreWindowsBefore script j (site d x f (first_past (gids stays) k)) ws) len old)

  -- past an entry that empties nothing
  pub AreWindowsBefore-entry : (d x f : ℕ) (e : SliceEntry) (ws : List Window) → At (entries_of d x) f e → empties e.what ≡ false → AreWindowsBefore script j (site d x f 0) ws → AreWindowsBefore script j (site d x (f + 1) 0) ws
  AreWindowsBefore-entry d x f e ws there full old =
      AreWindowsBefore-later script j (site d x f 0) (site d x (f + 1) 0) ws (λ s is. grows-from d x f 0 s is)
      (λ s isnt is used.
      let at = Precedes-from s d x f 0 isnt is in
      let own = IsUsed-site s d x f s.gid at.0 at.1 at.2 refl used in
      let same : own.opening ≡ e = same_Some own.opening e (sym own.is.opens ∙ there) in
      true≢false (sym own.is.empty ∙ (ap (λ (o : SliceEntry). empties o.what) same ∙ full)))
      old

  -- past the last entry of a slice
  pub AreWindowsBefore-slice : (d x f : ℕ) (ws : List Window) → length (entries_of d x) ≤ f → AreWindowsBefore script j (site d x f 0) ws → AreWindowsBefore script j (site d (x + 1) 0 0) ws
  AreWindowsBefore-slice d x f ws all old =
      AreWindowsBefore-later script j (site d x f 0) (site d (x + 1) 0 0) ws (λ s is. grows-slice d x f s is)
      (λ s isnt is used.
      let at = Precedes-slice s d x f isnt is in
      let low = at.2 in
      let own = IsUsed-site s d x s.from s.gid at.0 at.1 refl refl used in
      let within = slice_get_within (entries_of d x) s.from own.opening own.is.opens in
      omega (arith, within, low, all))
      old

  -- past the last slice of a domain
  pub AreWindowsBefore-domain : (d x : ℕ) (ws : List Window) → script.machine.slices ≤ x → AreWindowsBefore script j (site d x 0 0) ws → AreWindowsBefore script j (site (d + 1) 0 0 0) ws
  AreWindowsBefore-domain d x ws all old =
      AreWindowsBefore-later script j (site d x 0 0) (site (d + 1) 0 0 0) ws (λ s is. grows-domain d x s is)
      (λ s isnt is used.
      let le = Precedes-domain s d x isnt is in
      let lt = used.slice_exists in
      omega (arith, le, lt, all))
      old

  -- none before the first place
  pub AreWindowsBefore-none : AreWindowsBefore script j (site 0 0 0 0) []
  AreWindowsBefore-none = record {
    each = λ k d within. absurd (omega arith);
    before = λ k d within. absurd (omega arith);
    all = λ s is used. absurd (Precedes-first s is);
    ordered = λ a b d below within. absurd (omega arith);
  }

  -- all are before the place past the last domain
  pub AreWindowsOf-before : (d : ℕ) (ws : List Window) → script.machine.domains ≤ d → AreWindowsBefore script j (site d 0 0 0) ws → AreWindowsOf script j ws
  AreWindowsOf-before d ws all old = record {
    each = old.each;
    all = λ s used. let lt = used.domain_exists in old.all s (Precedes-within s d (omega (arith, lt, all))) used;
    ordered = old.ordered;
  }
