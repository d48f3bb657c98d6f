-- Each lock begins a window of the region that it loaded.
use Rattle.std.proofs.Common.{◌≡◌, ℕ, ◌+◌, ◌<◌, true, false, List, length, Option, None, Some, ◌⊎◌, inl, inr, sym, subst, ap, ◌∙◌, arith}
use Rattle.std.specs.Prelude.{slice_get}
use Rattle.std.proofs.lemmas.Bool.{cases_Bool, cases_eq, true≢false}
use Rattle.std.proofs.lemmas.Option.{slice_get_within}
use Rattle.cache_core.specs.Filled.{empties}
use Rattle.cache_core.specs.declared.entry.SliceEntry.{SliceEntry}
use Rattle.cache_core.specs.declared.entry.What.TheVariants.{Lock}
use Rattle.machine.specs.Slices.{domain_in}
use Rattle.pseudo_lock.specs.declared.region.Region.{Region}
use Rattle.run_law.specs.Journals.{slice_at}
use Rattle.run_windows.specs.Epochs.{state_at}
use Rattle.run_windows.specs.WindowLaws.{LockWindowsExist}
use Rattle.run_windows.specs.Regions.{HasRegion}
use Rattle.run_windows.proofs.Entries.{IsRun-given}
use Rattle.private_lru.proofs.laws.EntryExtents.{IsExtent-end, IsExtent-entries}
use Rattle.run_windows.proofs.GivenCommands.{IsGiven}
use Rattle.run_windows.proofs.StepFollows.{IsRegionOf}
use Rattle.tree_law.specs.State.{State}

-- a region by its numbers
abbrev made : ℕ → ℕ → ℕ → ℕ → Region
made g d m f = record { gid = record { 0 = g }; domain = d; mask = m; first_line = f }

-- regions with the same numbers are the same
made-same : (x r : Region) → x.gid.0 ≡ r.gid.0 → x.domain ≡ r.domain → x.mask ≡ r.mask → x.first_line ≡ r.first_line → x ≡ r
made-same x r gid domain mask first =
    ap (λ g. made g x.domain x.mask x.first_line) gid ∙ (ap (λ d. made r.gid.0 d x.mask x.first_line) domain ∙ (ap (λ m. made r.gid.0 r.domain m x.first_line) mask ∙ ap (λ f. made r.gid.0 r.domain r.mask f) first))

-- two regions are the same, or not
Region-or_not : (x r : Region) → (x ≡ r) ⊎ (x ≡ r → ⊥)
Region-or_not x r = elim (cases_eq x.gid.0 r.gid.0) [
  | inl gid ↦ elim (cases_eq x.domain r.domain) [
    | inl domain ↦ elim (cases_eq x.mask r.mask) [
      | inl mask ↦ elim (cases_eq x.first_line r.first_line) [
        | inl first ↦ inl (made-same x r gid domain mask first)
        | inr differs ↦ inr (λ h. differs (ap (λ (k : Region). k.first_line) h))
      ]
      | inr differs ↦ inr (λ h. differs (ap (λ (k : Region). k.mask) h))
    ]
    | inr differs ↦ inr (λ h. differs (ap (λ (k : Region). k.domain) h))
  ]
  | inr differs ↦ inr (λ h. differs (ap (λ (k : Region). k.gid.0) h))
]

-- a domain has the region, or not
HasRegion-or_not : (domain : ℕ) (r : Region) (s : State) → HasRegion domain r s ⊎ (HasRegion domain r s → ⊥)
HasRegion-or_not domain r s = at (slice_get s.regions domain)
  where
    at : (o : Option (Option Region)) → (o ≡ Some (Some r)) ⊎ (o ≡ Some (Some r) → ⊥)
    at None = inr (λ h. cc)
    at (Some None) = inr (λ h. cc)
    at (Some (Some x)) = elim (Region-or_not x r) [
      | inl is ↦ inl (ap (λ k. Some (Some k)) is)
      | inr differs ↦ inr (λ h. differs cc)
    ]

-- an entry that a region goes on over, or one that ends it
abbrev pub Over : (SliceEntry → State) → ℕ → Region → SliceEntry → Type 0
Over state domain r e = (empties e.what ≡ false) × HasRegion domain r (state e)

abbrev pub EndsLock : (SliceEntry → State) → ℕ → Region → SliceEntry → Type 0
EndsLock state domain r e = (empties e.what ≡ true) ⊎ (HasRegion domain r (state e) → ⊥)

Over-or_ends : (state : SliceEntry → State) (domain : ℕ) (r : Region) (e : SliceEntry) → Over state domain r e ⊎ EndsLock state domain r e
Over-or_ends state domain r e = elim (cases_Bool (empties e.what)) [
  | inl empty ↦ inr (inl empty)
  | inr full ↦ elim (HasRegion-or_not domain r (state e)) [
    | inl has ↦ inl (full, has)
    | inr lacks ↦ inr (inr lacks)
  ]
]

-- what ends a region is not gone over
EndsLock-not_over : (state : SliceEntry → State) (domain : ℕ) (r : Region) (e : SliceEntry) → EndsLock state domain r e → Over state domain r e → ⊥
EndsLock-not_over state domain r e (inl empty) over = true≢false (sym empty ∙ over.0)
EndsLock-not_over state domain r e (inr gone) over = gone over.1

-- a lock begins a window of its region
pub IsLockWindow-some : LockWindowsExist
IsLockWindow-some script j i from mask first_line opening lawful run there opens locks =
    let domain : ℕ = domain_in script.machine i in
    let state : SliceEntry → State = λ e. state_at script j e.epoch in
    let said = IsRun-given script j i from opening lawful run there opens in
    let lock : IsRegionOf (state_at script j opening.epoch) domain mask first_line = subst (IsGiven script.machine domain (state_at script j opening.epoch)) locks said.given in
    let r : Region = lock.region in
    let es : List SliceEntry = slice_at j i in
    let inside : from < length es = slice_get_within es from opening opens in
    let x = IsExtent-entries (Over state domain r) (EndsLock state domain r) (Over-or_ends state domain r) (EndsLock-not_over state domain r) es (from + 1) (omega (arith, inside)) in
    let begins = x.1.begins in (
      x.0,
      r,
      lock.there,
      record {
        slice_exists = there;
        opens = opens;
        locks = locks ∙ (ap (λ k. Lock k first_line) (sym lock.mask_is) ∙ ap (λ k. Lock r.mask k) (sym lock.first_line_is));
        after_opening = omega (arith, begins);
        within = x.1.within;
        goes_over = λ p e at low high. x.1.over p (omega (arith, low)) high e at;
        ends = IsExtent-end (Over state domain r) (EndsLock state domain r) (Over-or_ends state domain r) (EndsLock-not_over state domain r) es (from + 1) x.0 x.1;
      },
    )
