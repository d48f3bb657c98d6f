-- The covered hits of a window are those of the private cache.
use Rattle.std.proofs.Common.{◌≡◌, List, [], inl, inr, refl, sym, subst, ap, ◌∙◌}
use Rattle.std.proofs.lemmas.Bool.{cases_Bool}
use Rattle.cache_core.specs.declared.entry.SliceEntry.{SliceEntry}
use Rattle.private_lru.specs.GroupCounts.{hits_of_group, private_hits_of}
use Rattle.private_lru.specs.Covered.{covered, covered_front, hits_in, is_covered, items, uses_line}
use Rattle.private_lru.specs.SliceLaws.{CoveredHits, CoveredHitsAreCounted, TwoWorlds}
use Rattle.private_lru.specs.Private.{hits_of}
use Rattle.private_lru.proofs.laws.CoveredAccesses.{covered_after-none, covered_front_after-none, hits_in-covered_front_after, hits_of_group-covered_after}

-- up to the last covered access an isolated group's items hit as in a private cache
pub covered_hits-private : CoveredHits
covered_hits-private sets group ways set opening window isolated = elim (cases_Bool (is_covered sets group opening window [])) [
  | inl is ↦ hits_in-covered_front_after sets group opening window ways isolated set [] window refl is
  | inr none ↦
      let empty : covered_front sets group opening window ≡ [] = covered_front_after-none sets group opening window [] window none in
      subst (λ (l : List SliceEntry). hits_in sets group set (uses_line group window) l ≡ hits_of ways (items sets group set (uses_line group window) l)) (sym empty) refl
]

-- and as many of the covered accesses as would in it
pub hits_of_group-covered : CoveredHitsAreCounted
hits_of_group-covered sets group ways opening window isolated = elim (cases_Bool (is_covered sets group opening window [])) [
  | inl is ↦ hits_of_group-covered_after sets group opening window ways isolated [] window refl is
  | inr none ↦
      let empty : covered sets group opening window ≡ [] = covered_after-none sets group opening window [] window none in
      let empty_front : covered_front sets group opening window ≡ [] = covered_front_after-none sets group opening window [] window none in
      ap (hits_of_group group) empty ∙ sym (ap (private_hits_of sets group (uses_line group window) ways) empty_front)
]

-- so what others do makes no difference to them
pub covered_hits-two_worlds : TwoWorlds
covered_hits-two_worlds sets group its_group ways set opening its_opening window its_window first second same =
    covered_hits-private sets group ways set opening window first ∙ ap (hits_of ways) same ∙ sym (covered_hits-private sets its_group ways set its_opening its_window second)
