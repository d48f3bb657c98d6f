-- What may happen to parts as the law has them may happen to the parts of live threads.
use Rattle.std.proofs.Common.{◌≡◌, inl, inr, ℕ, ◌==◌, true, Bool, List, [], ◌∷◌, ◌++◌, map, refl, sym, ◌∙◌, ap, subst}
use Rattle.std.specs.Prelude.{if◌then◌else◌}
use Rattle.std.proofs.Math.Path.{fun_ext}
use Rattle.std.proofs.lemmas.Bool.{cases_Bool}
use Rattle.std.proofs.lemmas.List.{map-append}
use Rattle.run_law.specs.Entries.{entry_value}
use Rattle.run_law.specs.declared.journals.TreeEntry.{TreeEntry}
use Rattle.script_ops.specs.Values.{ScriptValue}
use Rattle.schedule_law.specs.LiveParts.{after, happening_of, live_history_after, part_of, reached, shown}
use Rattle.schedule_law.specs.Parts as p
use Rattle.schedule_law.specs.Parts.{AreReached, part_after}
use Rattle.schedule_law.specs.declared.part.Part.{Part}
use Rattle.schedule_law.specs.declared.part.Part.TheVariants as parts
use Rattle.schedule_law.specs.declared.part.Happening.{Happening}
use Rattle.schedule_law.specs.declared.part.Happening.TheVariants as happenings
use Rattle.shared_parts.proofs.laws.Parts.{state_after-else, state_after-there}
use Rattle.shared_parts.specs.Parts.{Fits, MayHappen, MayHappenWhere, has, state_after}

abbrev pub lawful_part : ℕ × Part → ℕ × p.PartValue
lawful_part x = (x.0, part_of x.1)

-- the history after a happening
history_after-live : (e : Happening) (hs : List TreeEntry) → p.history_after (happening_of e) (map entry_value hs) ≡ map entry_value (live_history_after e hs)
history_after-live (happenings.Decide h last made) hs = sym (map-append entry_value hs (h ∷ []))
history_after-live (happenings.Take t) hs = refl
history_after-live (happenings.Look x) hs = refl
history_after-live (happenings.Follow x last) hs = refl
history_after-live (happenings.Label g) hs = refl
history_after-live (happenings.Touch x) hs = refl
history_after-live happenings.Again hs = refl
history_after-live happenings.Begin hs = refl
history_after-live happenings.End hs = refl
history_after-live happenings.Pass hs = refl

-- a part after it
part_after-live : (e : Happening) (k : ℕ) (x : Part) → part_after (happening_of e) k (part_of x) ≡ part_of (after e k x)
part_after-live e k (parts.Tree history holder) = ap (λ l. p.Tree l (p.holder_after (happening_of e) holder)) (history_after-live e history)
part_after-live e k (parts.Slice list) = refl
part_after-live e k (parts.Worker thread begun found given) = refl
part_after-live e k (parts.Phase number ended) = refl

has-map : (k : ℕ) (xs : List (ℕ × Part)) → has k (map lawful_part xs) ≡ has k xs
has-map k [] = refl
has-map k (x ∷ xs) = ap (λ (b : Bool). if x.0 == k then true else b) (has-map k xs)

Fits-map : (at : ℕ → Part) (xs : List (ℕ × Part)) → Fits at xs → Fits (λ k. part_of (at k)) (map lawful_part xs)
Fits-map at [] fit = tt
Fits-map at (x ∷ xs) fit = (ap part_of fit.0, Fits-map at xs fit.1)

-- so is a state
state_after-live : (e : Happening) (xs : List (ℕ × Part)) (at : ℕ → Part) (k : ℕ) → state_after part_after (happening_of e) (map lawful_part xs) (λ i. part_of (at i)) k ≡ part_of (state_after after e xs at k)
state_after-live e xs at k =
    let lawful : ℕ → p.PartValue = λ i. part_of (at i) in
    elim (cases_Bool (has k xs)) [
      | inl h ↦ state_after-there part_after (happening_of e) (map lawful_part xs) lawful k (has-map k xs ∙ h) ∙ (part_after-live e k (at k) ∙ ap part_of (sym (state_after-there after e xs at k h)))
      | inr h ↦ state_after-else part_after (happening_of e) (map lawful_part xs) lawful k (has-map k xs ∙ h) ∙ ap part_of (sym (state_after-else after e xs at k h))
    ]

-- so it may happen
pub MayHappen-live : (script : ScriptValue) (e : Happening) (xs : List (ℕ × Part)) → MayHappen (AreReached script) part_after (happening_of e) (map lawful_part xs) → MayHappen (reached script) after e xs
MayHappen-live script e xs may at r fit = subst (λ (f : ℕ → p.PartValue). AreReached script f) (fun_ext (state_after-live e xs at)) (may (λ k. part_of (at k)) r (Fits-map at xs fit))

-- so it may happen where the first word shows a number
pub MayHappenWhere-live : (script : ScriptValue) (e : Happening) (number : ℕ) (xs : List (ℕ × Part)) → MayHappenWhere (AreReached script) p.shown_of part_after (happening_of e) number (map lawful_part xs) → MayHappenWhere (reached script) shown after e number xs
MayHappenWhere-live script e number xs may at r is fit =
    subst (λ (f : ℕ → p.PartValue). AreReached script f) (fun_ext (state_after-live e xs at)) (may (λ k. part_of (at k)) r is (Fits-map at xs fit))

-- what is so of two shares with these parts is so of theirs
pub by_parts : (T : List (ℕ × Part) → List (ℕ × Part) → Type 0) (xs ys one two : List (ℕ × Part)) → xs ≡ one → ys ≡ two → T one two → T xs ys
by_parts T xs ys one two is are holds = subst (λ l. T l ys) (sym is) (subst (λ l. T one l) (sym are) holds)

-- an event that may happen to the parts that two shares have
pub MayHappen-both : (script : ScriptValue) (e : Happening) (xs ys one two : List (ℕ × Part)) → xs ≡ one → ys ≡ two → MayHappen (AreReached script) part_after (happening_of e) (map lawful_part (one ++ two)) → MayHappen (reached script) after e (xs ++ ys)
MayHappen-both script e xs ys one two is are may = by_parts (λ us vs. MayHappen (reached script) after e (us ++ vs)) xs ys one two is are (MayHappen-live script e (one ++ two) may)
