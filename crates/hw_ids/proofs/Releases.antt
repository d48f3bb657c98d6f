-- A tick's walk over the table: what is done, what is left, and each step.
use Rattle.std.proofs.Common.{◌≡◌, ℕ, suc, ◌+◌, ◌<◌, ◌≤◌, true, false, cond, ltb, List, [], ◌∷◌, ◌++◌, length, take, drop, get_or, set, refl, sym, ap, ◌∙◌, arith, append-nil, append_assoc, drop-cons}
use Rattle.std.proofs.lemmas.Bool.{le-ltb}
use Rattle.std.proofs.lemmas.Bool.Decides.{nat_tests}
use Rattle.std.proofs.lemmas.Grind.{common_steps}
use Rattle.std.proofs.lemmas.List.{take_more, take_more_set, drop-set-lt, get_or_default}
use Rattle.hw_ids.specs.declared.uses.Use.{Use}
use Rattle.hw_ids.specs.declared.uses.Use.TheVariants.{Free, Taken, Limbo}
use Rattle.hw_ids.specs.Ids.{places}
use Rattle.hw_ids.specs.MonitoringIds.{above}
use Rattle.hw_ids.specs.Uses.{is_taken, is_limbo, use_after}
use Rattle.hw_ids.proofs.Places.{places-push, places-drop_yes, places-drop_no, places-set_same_from}

-- The first n uses are tested, and so are the first `next` numbers of bytes.
pub record Released (threshold : ℕ) (before : List Use) (bytes : List ℕ) (after : List Use) (n next : ℕ) : Type 0 where
  pub said : above threshold (places is_limbo 0 before) bytes ≡ places is_limbo 0 (take n after) ++ above threshold (places is_limbo n (drop n after)) (drop next bytes)
  pub left : length bytes ≡ next + length (places is_limbo n (drop n after))
  pub taken : places is_taken 0 after ≡ places is_taken 0 before

-- before the first RMID nothing is released
pub Released-start : (threshold : ℕ) (before : List Use) (bytes : List ℕ) → length bytes ≡ length (places is_limbo 0 before) → Released threshold before bytes before 0 0
Released-start threshold before bytes each = record { said = refl; left = omega (arith, each); taken = refl }

-- an RMID that is not in limbo is passed over
pub Released-skip : (threshold : ℕ) (before : List Use) (bytes : List ℕ) (after : List Use) (n next : ℕ) → n < length after → is_limbo (get_or after n Free) ≡ false
    → Released threshold before bytes after n next → Released threshold before bytes after (n + 1) next
Released-skip threshold before bytes after n next h other r =
    let rest = places-drop_no is_limbo after n Free h other in
    let front : places is_limbo 0 (take (n + 1) after) ≡ places is_limbo 0 (take n after)
    = ap (places is_limbo 0) (take_more after n Free h) ∙ places-push is_limbo (take n after) 0 n (get_or after n Free) (grind (arith, common_steps)) ∙ rw (other, append-nil) refl in
    record {
      said = r.said ∙ rw (rest, front) refl;
      left = r.left ∙ rw rest refl;
      taken = r.taken;
    }

-- the next number of bytes is at most the threshold, or above it
above-freed : (threshold n : ℕ) (ns bytes : List ℕ) (next : ℕ) → next < length bytes → get_or bytes next 0 ≤ threshold → above threshold (n ∷ ns) (drop next bytes) ≡ above threshold ns (drop (next + 1) bytes)
above-freed threshold n ns bytes next h low =
    let e : next + 1 ≡ suc next = omega arith in
    let fails : ltb threshold (get_or bytes next 0) ≡ false = le-ltb threshold (get_or bytes next 0) low in
    rw (drop-cons bytes next 0, fails, e) refl

-- an RMID whose bytes are above the threshold is kept
above-kept : (threshold n : ℕ) (ns bytes : List ℕ) (next : ℕ) → next < length bytes → threshold < get_or bytes next 0 → above threshold (n ∷ ns) (drop next bytes) ≡ n ∷ above threshold ns (drop (next + 1) bytes)
above-kept threshold n ns bytes next h high =
    let e : next + 1 ≡ suc next = omega arith in
    let passes : ltb threshold (get_or bytes next 0) ≡ true = grind (arith, nat_tests) in
    rw (drop-cons bytes next 0, passes, e) refl

-- an RMID in limbo has its bytes
pub Released-next_lt : (threshold : ℕ) (before : List Use) (bytes : List ℕ) (after : List Use) (n next : ℕ) → n < length after → is_limbo (get_or after n Free) ≡ true
    → Released threshold before bytes after n next → next < length bytes
Released-next_lt threshold before bytes after n next h is r = let step = ap length (places-drop_yes is_limbo after n Free h is) in omega (arith, r.left, step)

-- it stays where they are above the threshold
Released-kept : (threshold : ℕ) (before : List Use) (bytes : List ℕ) (after : List Use) (n next : ℕ) → n < length after → is_limbo (get_or after n Free) ≡ true → threshold < get_or bytes next 0
    → is_taken (get_or after n Limbo) ≡ false → Released threshold before bytes after n next → Released threshold before bytes (set after n Limbo) (n + 1) (next + 1)
Released-kept threshold before bytes after n next h is high was r =
    let rest = places-drop_yes is_limbo after n Free h is in
    let within = Released-next_lt threshold before bytes after n next h is r in
    let front : places is_limbo 0 (take (n + 1) (set after n Limbo)) ≡ places is_limbo 0 (take n after) ++ n ∷ []
    = ap (places is_limbo 0) (take_more_set after n Limbo h) ∙ places-push is_limbo (take n after) 0 n Limbo (grind (arith, common_steps)) in
    let back = drop-set-lt (n + 1) after n Limbo (omega arith) in
    let kept = above-kept threshold n (places is_limbo (n + 1) (drop (n + 1) after)) bytes next within high in
    record {
      said = r.said ∙ rw (rest, front, back, kept) (sym (append_assoc (places is_limbo 0 (take n after)) (n ∷ []) (above threshold (places is_limbo (n + 1) (drop (n + 1) after)) (drop (next + 1) bytes))));
      left = let step = ap length rest in rw back (omega (arith, r.left, step));
      taken = places-set_same_from is_taken after 0 n Limbo was ∙ r.taken;
    }

-- it becomes free where they are not
Released-freed : (threshold : ℕ) (before : List Use) (bytes : List ℕ) (after : List Use) (n next : ℕ) → n < length after → is_limbo (get_or after n Free) ≡ true → get_or bytes next 0 ≤ threshold
    → is_taken (get_or after n Free) ≡ false → Released threshold before bytes after n next → Released threshold before bytes (set after n Free) (n + 1) (next + 1)
Released-freed threshold before bytes after n next h is low was r =
    let rest = places-drop_yes is_limbo after n Free h is in
    let within = Released-next_lt threshold before bytes after n next h is r in
    let front : places is_limbo 0 (take (n + 1) (set after n Free)) ≡ places is_limbo 0 (take n after)
    = ap (places is_limbo 0) (take_more_set after n Free h) ∙ places-push is_limbo (take n after) 0 n Free (grind (arith, common_steps)) ∙ append-nil _ in
    let back = drop-set-lt (n + 1) after n Free (omega arith) in
    let freed = above-freed threshold n (places is_limbo (n + 1) (drop (n + 1) after)) bytes next within low in
    record {
      said = r.said ∙ rw (rest, front, back, freed) refl;
      left = let step = ap length rest in rw back (omega (arith, r.left, step));
      taken = places-set_same_from is_taken after 0 n Free was ∙ r.taken;
    }

-- what is in limbo is not taken
is_taken-limbo : (u : Use) → is_limbo u ≡ true → is_taken u ≡ false
is_taken-limbo Free is = refl
is_taken-limbo Taken is = sym is
is_taken-limbo Limbo is = refl

-- an RMID in limbo is tested
pub Released-tested : (threshold : ℕ) (before : List Use) (bytes : List ℕ) (after : List Use) (n next : ℕ) → n < length after → is_limbo (get_or after n Free) ≡ true
    → Released threshold before bytes after n next → Released threshold before bytes (set after n (use_after threshold (get_or bytes next 0))) (n + 1) (next + 1)
Released-tested threshold before bytes after n next h is r =
    let was : (d : Use) → is_taken (get_or after n d) ≡ false
    = λ d. let same : get_or after n d ≡ get_or after n Free = get_or_default after n d Free h in rw same (is_taken-limbo (get_or after n Free) is) in
    elim (ltb threshold (get_or bytes next 0)) as (λ b. ltb threshold (get_or bytes next 0) ≡ b → Released threshold before bytes (set after n (cond b Limbo Free)) (n + 1) (next + 1)) [
      | true ↦ (λ high. Released-kept threshold before bytes after n next h is (grind (arith, nat_tests)) (was Limbo) r)
      | false ↦ (λ low. Released-freed threshold before bytes after n next h is (grind (arith, nat_tests)) (was Free) r)
    ] refl

-- after the last RMID all are tested
pub places-released : (threshold : ℕ) (before : List Use) (bytes : List ℕ) (after : List Use) (n next : ℕ) → n ≡ length after → Released threshold before bytes after n next
    → places is_limbo 0 after ≡ above threshold (places is_limbo 0 before) bytes
places-released threshold before bytes after n next e r =
    let all : take n after ≡ after = grind (arith, common_steps) in
    let gone : drop n after ≡ [] = grind (arith, common_steps) in
    sym (r.said ∙ rw (all, gone) (append-nil (places is_limbo 0 after)))
