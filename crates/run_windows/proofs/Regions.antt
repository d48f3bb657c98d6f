-- The rows of locked regions, by computing.
use Rattle.std.proofs.Common.{◌≡◌, ℕ, ◌<◌, false, List, [], ◌∷◌, Option, Some, None, refl, sym, ◌∙◌, subst, inl, inr, arith}
use Rattle.std.specs.Prelude.{slice_get}
use Rattle.std.proofs.lemmas.Bool.{cases_lt, false≢true, true≢false}
use Rattle.std.proofs.lemmas.Option.{none-some, same_Some}
use Rattle.cbm.specs.Masks.{overlaps, ways_of}
use Rattle.cbm.specs.Validity.{checked}
use Rattle.cache_core.specs.Filled.{empties}
use Rattle.cache_core.specs.declared.entry.SliceEntry.{SliceEntry}
use Rattle.mode_rules.specs.Overlaps.{is_apart, leaving_overlap, write_overlap}
use Rattle.mode_rules.specs.Setup.{entry_refusal}
use Rattle.mode_rules.specs.StartingWays.{initial_ways, starting_ways}
use Rattle.pseudo_lock.specs.declared.region.Region.{Region}
use Rattle.rc_base.specs.Texts.{is_text}
use Rattle.run_law.specs.Journals.{At, slice_at}
use Rattle.run_law.specs.TreeHistory.{tree_after}
use Rattle.run_windows.specs.Epochs.{state_at}
use Rattle.run_windows.specs.Regions.{HasRegion}
use Rattle.schemata_text.specs.Reading.{entry_of, line_of, reading_from}
use Rattle.tree_law.specs.State.{State}
use Rattle.tree_law.specs.Steps as steps
use Rattle.tree_law.specs.commands.Mkdir as mkdir
use Rattle.tree_law.specs.commands.Mode as mode
use Rattle.tree_law.specs.commands.Rmdir as rmdir
use Rattle.tree_law.specs.commands.Schemata as schemata
use Rattle.tree_law.specs.commands.Touch as touch
use Rattle.tree_law.specs.commands.Write as write
use Rattle.run_windows.specs.LockRows.{FlushedRegion, RemovedRegion, flushed, flushed_run, region, removed, removed_run}

-- the regions after so many commands
regions-flushed : (((state_at flushed flushed_run 5).regions ≡ Some region ∷ []) × ((state_at flushed flushed_run 6).regions ≡ Some region ∷ []))
unfolding tree_after steps.next steps.refusal mkdir.refusal mkdir.accepted write.refusal write.accepted write.refused mode.refusal mode.accepted mode.freed mode.mode_in mode.is_present schemata.refusal schemata.accepted schemata.schemata_read touch.refusal touch.touched initial_ways starting_ways is_text overlaps ways_of checked write_overlap leaving_overlap is_apart entry_refusal reading_from line_of entry_of
regions-flushed = (refl, refl)

regions-removed : (((state_at removed removed_run 5).regions ≡ Some region ∷ []) × ((state_at removed removed_run 6).regions ≡ Some region ∷ []) × ((state_at removed removed_run 7).regions ≡ None ∷ []))
unfolding tree_after steps.next steps.refusal mkdir.refusal mkdir.accepted rmdir.refusal rmdir.accepted rmdir.freed write.refusal write.accepted write.refused mode.refusal mode.accepted mode.freed mode.mode_in mode.is_present schemata.refusal schemata.accepted schemata.schemata_read touch.refusal touch.touched initial_ways starting_ways is_text overlaps ways_of checked write_overlap leaving_overlap is_apart entry_refusal reading_from line_of entry_of
regions-removed = (refl, refl, refl)

-- a state with these regions has the region, or has not
HasRegion-from : (s : State) → s.regions ≡ Some region ∷ [] → HasRegion 0 region s
HasRegion-from s is = subst (λ (l : List (Option Region)). slice_get l 0 ≡ Some (Some region)) (sym is) refl

HasRegion-gone : (s : State) → s.regions ≡ None ∷ [] → HasRegion 0 region s → ⊥
HasRegion-gone s gone has =
    let there : Some None ≡ Some (Some region) = subst (λ (l : List (Option Region)). slice_get l 0 ≡ Some (Some region)) gone has in
    none-some region (same_Some None (Some region) there)

-- a fact of the entries at places 4 and 5 of a list is one of each between 3 and 6
between-two : (P : SliceEntry → Type 0) (es : List SliceEntry) (a b : SliceEntry) → slice_get es 4 ≡ Some a → slice_get es 5 ≡ Some b → P a → P b
    → (p : ℕ) (e : SliceEntry) → At es p e → 3 < p → p < 6 → P e
between-two P es a b first second of_a of_b p e at low high = elim (cases_lt p 5) [
  | inl less ↦
      let is : p ≡ 4 = omega arith in
      subst P (same_Some a e (sym first ∙ subst (λ q. slice_get es q ≡ Some e) is at)) of_a
  | inr more ↦
      let is : p ≡ 5 = omega arith in
      subst P (same_Some b e (sym second ∙ subst (λ q. slice_get es q ≡ Some e) is at)) of_b
]

-- the run with a flush
pub FlushedRegion-holds : FlushedRegion
FlushedRegion-holds = record {
  window = record {
    slice_exists = omega arith;
    opens = refl;
    locks = refl;
    after_opening = omega arith;
    within = omega arith;
    goes_over = between-two (λ (e : SliceEntry). (empties e.what ≡ false) × HasRegion 0 region (state_at flushed flushed_run e.epoch)) (slice_at flushed_run 0) _ _ refl refl
        (refl, HasRegion-from (state_at flushed flushed_run 5) regions-flushed.0) (refl, HasRegion-from (state_at flushed flushed_run 6) regions-flushed.1);
    ends = inl refl;
  };
  beyond = λ w. true≢false (w.goes_over 6 _ refl (omega arith) (omega arith)).0;
  before = λ w. elim w.ends [ inl empty ↦ false≢true empty | inr gone ↦ gone (HasRegion-from (state_at flushed flushed_run 6) regions-flushed.1) ];
}

-- the run with a removal
pub RemovedRegion-holds : RemovedRegion
RemovedRegion-holds = record {
  window = record {
    slice_exists = omega arith;
    opens = refl;
    locks = refl;
    after_opening = omega arith;
    within = omega arith;
    goes_over = between-two (λ (e : SliceEntry). (empties e.what ≡ false) × HasRegion 0 region (state_at removed removed_run e.epoch)) (slice_at removed_run 0) _ _ refl refl
        (refl, HasRegion-from (state_at removed removed_run 5) regions-removed.0) (refl, HasRegion-from (state_at removed removed_run 6) regions-removed.1);
    ends = inr (HasRegion-gone (state_at removed removed_run 7) regions-removed.2);
  };
  beyond = λ w. HasRegion-gone (state_at removed removed_run 7) regions-removed.2 (w.goes_over 6 _ refl (omega arith) (omega arith)).1;
  whole = λ w. HasRegion-gone (state_at removed removed_run 7) regions-removed.2 (w.goes_over 6 _ refl (omega arith) (omega arith)).1;
}
