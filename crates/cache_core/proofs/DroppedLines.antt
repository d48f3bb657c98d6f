-- A drop adds its entry to what the cache stands for.
use Rattle.std.proofs.Common.{◌≡◌, ℕ, ◌+◌, ◌%◌, ◌<◌, ◌≤◌, Bool, true, false, cond, ◌&&◌, ◌==◌, List, [], length, Option, Some, None, IsSome, refl, sym, ◌∙◌, ap, subst, arith, inl, inr, slice_set}
use Rattle.std.proofs.lemmas.Bool.{cases_Bool, eqb-true, false≢true}
use Rattle.std.proofs.lemmas.List.{length_push}
use Rattle.cache_core.specs.declared.entry.What.TheVariants.{Drop}
use Rattle.cache_core.specs.declared.entry.SliceEntry.{SliceEntry}
use Rattle.cache_core.specs.declared.cached_line.CachedLine.{CachedLine}
use Rattle.cache_core.specs.Fills.{Holds, Resident}
use Rattle.cache_core.specs.History.{Shape, IsOwn}
use Rattle.cache_core.specs.Places.{IsFormed, set_in, place_in, resident_in, CacheValue}
use Rattle.cache_core.specs.Stands.{Adds, Drops, entry}
use Rattle.cache_core.proofs.Commands.{StandsFor-quiet}
use Rattle.cache_core.proofs.KeptPlaces.{cond-under, get_or-set, length-set_in_own, res, stamp}
use Rattle.cache_core.proofs.laws.Histories.{IsLegal-push, floor_of-push, held-push, used-push}

-- where a place is full, it is not the one that was emptied
full-kept : (b : Bool) (o : Option CachedLine) → IsSome (res (cond b None o)) → b ≡ false
full-kept true o full = elim (false≢true full) [ ]
full-kept false o full = refl

module _ (old : CacheValue) (now : List (List (Option CachedLine))) (epoch line : ℕ) (formed : IsFormed old.shape old.rmids old.clock old.places) (own : IsOwn old.shape (line % old.shape.sets)) (late : old.floor ≤ epoch) where
  abbrev m : Shape
  m = old.shape

  abbrev s0 : ℕ
  s0 = line % old.shape.sets

  -- no way holds the line
  Adds-no_drop : ((w : ℕ) → Holds (resident_in (set_in old.places s0)) line w → ⊥)
      → Adds old (record { shape = old.shape; rmids = old.rmids; places = old.places; floor = old.floor; clock = old.clock + 1 }) epoch (Drop line None)
  Adds-no_drop none thread op history stands =
      StandsFor-quiet old history (entry thread op epoch (Drop line None)) old.floor (old.clock + 1) (λ _ _. refl) (λ _ _. refl)
      (omega (arith, late, stands.floor), λ w l h. none w (subst (λ (o : Option Resident). Holds (λ _. o) line w) (sym (stands.holds s0 w own l)) h))
      (omega (arith, stands.floor)) (omega (arith, stands.clock)) stands

  -- a way holds it
  Adds-one_drop : (way : ℕ) → way < length (set_in old.places s0) → Holds (resident_in (set_in old.places s0)) line way → now ≡ slice_set old.places s0 (slice_set (set_in old.places s0) way None)
      → Adds old (record { shape = old.shape; rmids = old.rmids; places = now; floor = old.floor; clock = old.clock + 1 }) epoch (Drop line (Some way))
  Adds-one_drop way inside holds is thread op history stands =
      let e : SliceEntry = entry thread op epoch (Drop line (Some way)) in
      let row : List (Option CachedLine) = set_in old.places s0 in
      let width : length row ≡ m.ways = length-set_in_own old s0 formed own in
      let there : s0 < length old.places = omega (arith, own.0, formed.count) in
      let within : way < m.ways = omega (arith, inside, width) in
      let read : (s w : ℕ) → place_in (set_in now s) w ≡ cond ((s0 == s) && (way == w)) None (place_in (set_in old.places s) w) = λ s w.
      ap (λ ps. place_in (set_in ps s) w) is
      ∙ (ap (λ ps. place_in ps w) (get_or-set old.places s0 s (slice_set row way None) [] there)
      ∙ (elim (cases_Bool (s0 == s)) [
        | inl e ↦ rw e (get_or-set row way w None None inside ∙ ap (λ t. cond (way == w) None (place_in (set_in old.places t) w)) (eqb-true s0 s e))
        | inr e ↦ rw e refl
      ])) in
      let was : (s w : ℕ) → IsSome (resident_in (set_in now s) w) → ((s0 == s) && (way == w)) ≡ false = λ s w full. full-kept ((s0 == s) && (way == w)) (place_in (set_in old.places s) w) (subst (λ (o : Option CachedLine). IsSome (res o)) (read s w) full) in
      let same : (s w : ℕ) → IsSome (resident_in (set_in now s) w) → place_in (set_in now s) w ≡ place_in (set_in old.places s) w = λ s w full. read s w ∙ ap (λ b. cond b None (place_in (set_in old.places s) w)) (was s w full) in
      record {
        legal = IsLegal-push m history e stands.legal (omega (arith, late, stands.floor), (within, subst (λ (o : Option Resident). Holds (λ _. o) line way) (stands.holds s0 way own within) holds));
        holds = λ s w ls lw.
            ap res (read s w)
            ∙ (cond-under res ((s0 == s) && (way == w)) None (place_in (set_in old.places s) w)
            ∙ (ap (λ (o : Option Resident). cond ((s0 == s) && (way == w)) None o) (stands.holds s w ls lw) ∙ sym (held-push m history e s w)));
        ages = λ s v w ls lv lw fv fw.
            let before : (k : ℕ) → IsSome (resident_in (set_in now s) k) → IsSome (resident_in (set_in old.places s) k) = λ k full. subst (λ (o : Option CachedLine). IsSome (res o)) (same s k full) full in
            rw (ap stamp (same s v fv), ap stamp (same s w fw), used-push m history e s v, used-push m history e s w) (stands.ages s v w ls lv lw (before v fv) (before w fw));
        floor = stands.floor ∙ (omega arith ∙ sym (floor_of-push history e));
        clock = rw length_push (omega (arith, stands.clock));
      }

  -- what a drop does to the sets is one entry more
  pub Adds-drop : (answer : Option ℕ) → Drops old.places now s0 line answer
      → Adds old (record { shape = old.shape; rmids = old.rmids; places = now; floor = old.floor; clock = old.clock + 1 }) epoch (Drop line answer)
  Adds-drop None drops =
      subst (λ ps. Adds old (record { shape = old.shape; rmids = old.rmids; places = ps; floor = old.floor; clock = old.clock + 1 }) epoch (Drop line None)) (sym drops.1) (Adds-no_drop drops.0)
  Adds-drop (Some way) drops = Adds-one_drop way drops.0 drops.1 drops.2
