-- A use of a way adds its entry to what the cache stands for.
use Rattle.std.proofs.Common.{◌≡◌, ℕ, ◌+◌, ◌%◌, ◌<◌, ◌≤◌, Bool, true, false, cond, not, ◌&&◌, ◌==◌, List, [], ◌∷◌, ◌++◌, length, Option, Some, None, option_map, arith, refl, sym, ◌∙◌, ap, subst, ◌↔◌, IsSome, inl, inr, slice_set}
use Rattle.std.specs.Prelude.{IfSome}
use Rattle.std.specs.Option.{option_map_or}
use Rattle.rc_base.specs.declared.names.Gid.{Gid}
use Rattle.std.proofs.lemmas.Bool.{true≢false, false≢true, cases_lt, cases_Bool, cond-true, cond-false, eqb-true}
use Rattle.std.proofs.lemmas.List.{length_push}
use Rattle.cache_core.specs.declared.entry.What.TheVariants.{Access}
use Rattle.cache_core.specs.declared.entry.SliceEntry.{SliceEntry}
use Rattle.cache_core.specs.declared.cached_line.CachedLine.{CachedLine}
use Rattle.cache_core.specs.Fills.{Resident, IsVictim}
use Rattle.cache_core.specs.History.{Shape, IsOwn, held, used, MayHappen}
use Rattle.cache_core.specs.Places.{IsFormed, set_in, resident_in, stamp_in, CacheValue}
use Rattle.cache_core.specs.Stands.{StandsFor, entry}
use Rattle.cache_core.proofs.laws.Histories.{held-push, used-push, used-le, floor_of-push, IsLegal-push}
use Rattle.cache_core.proofs.KeptPlaces.{cond-under, get_or-set}

-- ages after a use: the used one is the youngest
pub le-after_use : (a b : Bool) (sv sw uv uw clock len : ℕ) → (a ≡ false → sv < clock) → (b ≡ false → sw < clock) → uv ≤ len → uw ≤ len
    → (a ≡ false → b ≡ false → (sv ≤ sw) ↔ (uv ≤ uw))
    → (cond a clock sv ≤ cond b clock sw) ↔ (cond a (len + 1) uv ≤ cond b (len + 1) uw)
le-after_use true true sv sw uv uw clock len _ _ _ _ _ = (λ _. omega arith, λ _. omega arith)
le-after_use true false sv sw uv uw clock len _ hw _ k _ = let h = hw refl in (λ l. absurd (omega arith), λ l. absurd (omega arith))
le-after_use false true sv sw uv uw clock len hv _ k _ _ = let h = hv refl in (λ _. omega arith, λ _. omega arith)
le-after_use false false sv sw uv uw clock len _ _ _ _ same = same refl refl

-- a victim by what the cache keeps is a victim by the history
pub IsVictim-same_order : (n mask : ℕ) (f g : ℕ → Option Resident) (age born : ℕ → ℕ) (way : ℕ) → ((w : ℕ) → w < n → f w ≡ g w)
    → ((v w : ℕ) → v < n → w < n → IsSome (f v) → IsSome (f w) → (age v ≤ age w) ↔ (born v ≤ born w))
    → IsVictim n mask f age way → IsVictim n mask g born way
IsVictim-same_order n mask f g age born way same order v =
    let here : f way ≡ g way = same way v.within in
    let there : (w : ℕ) → w < n → IsSome (f w) → IsSome (g w) = λ w h s. subst (λ (o : Option Resident). IsSome o) (same w h) s in
    let full : IsSome (g way) → IsSome (f way) = λ s. subst (λ (o : Option Resident). IsSome o) (sym here) s in
    record {
      within = v.within;
      allowed = v.allowed;
      lowest_empty = λ e w l m. there w (omega (arith, l, v.within)) (v.lowest_empty (here ∙ e) w l m);
      none_empty = λ s w l m. there w l (v.none_empty (full s) w l m);
      oldest = λ s w l m. (order way w v.within l (full s) (v.none_empty (full s) w l m)).0 (v.oldest (full s) w l m);
      lowest = λ s w l m.
          let lw : w < n = omega (arith, l, v.within) in
          let less : age way < age w = v.lowest (full s) w l m in
          elim (cases_lt (born way) (born w)) [
            | inl h ↦ h
            | inr h ↦ let back : age w ≤ age way = (order w way lw v.within (v.none_empty (full s) w lw m) (full s)).1 h in absurd (omega arith)
          ];
    }

-- what a place holds, where one set was changed
cond-changed_set : (here hit there : Bool) (new new' old : Option Resident) (r : Resident) → (here ≡ true → new ≡ cond (not hit && there) (Some r) old) → (here ≡ false → new' ≡ old)
    → cond here new new' ≡ cond (not hit && here && there) (Some r) old
cond-changed_set true true there new new' old r h _ = h refl
cond-changed_set true false there new new' old r h _ = h refl
cond-changed_set false true there new new' old r _ k = k refl
cond-changed_set false false there new new' old r _ k = k refl

-- a place that was not used was full before
IsSome-before : (hit there : Bool) (new old : Option Resident) (r : Resident) → new ≡ cond (not hit && there) (Some r) old → IsSome new → there ≡ false → IsSome old
IsSome-before hit true new old r is some none = elim (true≢false none) [ ]
IsSome-before true false new old r is some none = subst (λ (o : Option Resident). IsSome o) is some
IsSome-before false false new old r is some none = subst (λ (o : Option Resident). IsSome o) is some

-- a full place was used before now
option_map_or-lt_clock : (o : Option CachedLine) (clock : ℕ) → IsSome (option_map (λ (p : CachedLine). let r : Resident = record { line = p.line; rmid = p.rmid } in r) o) → IfSome o (λ p. p.used < clock) → option_map_or (λ (p : CachedLine). p.used) o 0 < clock
option_map_or-lt_clock (Some p) clock some h = h
option_map_or-lt_clock None clock some h = elim (false≢true some) [ ]

-- a use of a way of one set adds its entry
pub StandsFor-use : (old : CacheValue) (changed : List (Option CachedLine)) (history : List SliceEntry) (thread op epoch : ℕ) (owner : Gid) (rmid mask line way : ℕ) (hit : Bool)
    → IsFormed old.shape old.rmids old.clock old.places → IsOwn old.shape (line % old.shape.sets)
    → ((w : ℕ) → resident_in changed w ≡ cond (not hit && (way == w)) (Some (record { line = line; rmid = rmid })) (resident_in (set_in old.places (line % old.shape.sets)) w))
    → ((w : ℕ) → stamp_in changed w ≡ cond (way == w) old.clock (stamp_in (set_in old.places (line % old.shape.sets)) w))
    → StandsFor old history
    → MayHappen old.shape history epoch (Access hit way owner rmid mask line)
    → StandsFor (record { shape = old.shape; rmids = old.rmids; places = slice_set old.places (line % old.shape.sets) changed; floor = old.floor; clock = old.clock + 1 }) (history ++ entry thread op epoch (Access hit way owner rmid mask line) ∷ [])
StandsFor-use old changed history thread op epoch owner rmid mask line way hit formed own residents stamps stands may =
    let m : Shape = old.shape in
    let e : SliceEntry = entry thread op epoch (Access hit way owner rmid mask line) in
    let s0 : ℕ = line % m.sets in
    let r : Resident = record { line = line; rmid = rmid } in
    let count : length old.places ≡ m.sets = formed.count in
    let inside : s0 < length old.places = omega (arith, own.0, count) in
    let now : (s : ℕ) → set_in (slice_set old.places s0 changed) s ≡ cond (s0 == s) changed (set_in old.places s) = λ s. get_or-set old.places s0 s changed [] inside in
    record {
      legal = IsLegal-push m history e stands.legal may;
      holds = λ s w ls lw.
          ap (λ p. resident_in p w) (now s)
          ∙ (cond-under (λ p. resident_in p w) (s0 == s) changed (set_in old.places s)
          ∙ (cond-changed_set (s0 == s) hit (way == w) (resident_in changed w) (resident_in (set_in old.places s) w) (held m history s w) r
          (λ h. residents w ∙ ap (λ o. cond (not hit && (way == w)) (Some r) o) (ap (λ t. resident_in (set_in old.places t) w) (eqb-true s0 s h) ∙ stands.holds s w ls lw))
          (λ _. stands.holds s w ls lw)
          ∙ sym (held-push m history e s w)));
      ages = λ s v w ls lv lw fv fw.
          rw (now s, used-push m history e s v, used-push m history e s w)
          (elim (cases_Bool (s0 == s)) [
            | inl h ↦
                let same : s0 ≡ s = eqb-true s0 s h in
                let here : set_in (slice_set old.places s0 changed) s ≡ changed = now s ∙ cond-true (s0 == s) changed (set_in old.places s) h in
                let before : (k : ℕ) → IsSome (resident_in (set_in (slice_set old.places s0 changed) s) k) → (way == k) ≡ false → IsSome (resident_in (set_in old.places s0) k) =
                λ k f none. IsSome-before hit (way == k) (resident_in changed k) (resident_in (set_in old.places s0) k) r (residents k) (subst (λ p. IsSome (resident_in p k)) here f) none in
                rw (h, stamps v, stamps w)
                (le-after_use (way == v) (way == w) (stamp_in (set_in old.places s0) v) (stamp_in (set_in old.places s0) w) (used m history s v) (used m history s w) old.clock (length history)
                (λ none. option_map_or-lt_clock _ old.clock (before v fv none) (formed.stamped s0 v))
                (λ none. option_map_or-lt_clock _ old.clock (before w fw none) (formed.stamped s0 w))
                (used-le m history s v)
                (used-le m history s w)
                (λ a b.
                let P : ℕ → Type 0 = λ t. (stamp_in (set_in old.places t) v ≤ stamp_in (set_in old.places t) w) ↔ (used m history s v ≤ used m history s w) in
                subst P (sym same)
                (stands.ages s v w ls lv lw (subst (λ t. IsSome (resident_in (set_in old.places t) v)) same (before v fv a)) (subst (λ t. IsSome (resident_in (set_in old.places t) w)) same (before w fw b)))))
            | inr h ↦
                let there : set_in (slice_set old.places s0 changed) s ≡ set_in old.places s = now s ∙ cond-false (s0 == s) changed (set_in old.places s) h in
                rw h (stands.ages s v w ls lv lw (subst (λ p. IsSome (resident_in p v)) there fv) (subst (λ p. IsSome (resident_in p w)) there fw))
          ]);
      floor = stands.floor ∙ (omega arith ∙ sym (floor_of-push history e));
      clock = rw length_push (omega (arith, stands.clock));
    }
