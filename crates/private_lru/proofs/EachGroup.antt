-- The ends of all groups, lowered by one use more.
use Rattle.std.proofs.Common.{◌≡◌, ℕ, ◌+◌, ◌<◌, ◌≤◌, Bool, true, false, cond, eqb, List, length, get_or, set, Some, inl, inr, refl, sym, subst, ap, ◌∙◌, arith}
use Rattle.std.specs.Prelude.{◌&&◌, min, nat_le, nat_lt, slice_get}
use Rattle.std.proofs.lemmas.Bool.{cases_Bool, eqb-false, eqb-true, false≢true, le-leb}
use Rattle.std.proofs.lemmas.List.{get_or-set_other, get_or-set_same, length-set}
use Rattle.cache_core.specs.declared.entry.What.{What}
use Rattle.private_lru.specs.Cuts.{AreCuts, AreEach, IsCut, IsStart, cut_by, loaded_by, shared_by}
use Rattle.private_lru.specs.declared.exclusive_span.ExclusiveSpan.{ExclusiveSpan}
use Rattle.private_lru.specs.declared.uses.LineUse.{LineUse}
use Rattle.private_lru.proofs.UseCuts.{IsCut-none, IsCut-next}

-- the ends after a change of one of them
pub AreEach-at : (u : LineUse) (at place : ℕ) (stays : List ExclusiveSpan) (reaches old : List ℕ) → place < length stays → length old ≡ length stays
    → ((j : ℕ) (d : ExclusiveSpan) → j < length stays → eqb place j ≡ (eqb u.owner.0 (get_or stays j d).gid.0 && nat_le 0 (get_or stays j d).last))
    → AreEach (cut_by u at) stays reaches old (set old place (cond (nat_lt u.at (get_or reaches place 0)) (min (get_or old place 0) at) (get_or old place 0)))
AreEach-at u at place stays reaches old within len only = record {
  same = length-set old place new;
  each = λ j d inside. here j d inside (eqb place j) refl;
}
  where
    new : ℕ
    new = cond (nat_lt u.at (get_or reaches place 0)) (min (get_or old place 0) at) (get_or old place 0)

    own : (j : ℕ) (d : ExclusiveSpan) → j < length stays → eqb u.owner.0 (get_or stays j d).gid.0 ≡ eqb place j
    own j d inside =
        let low : nat_le 0 (get_or stays j d).last ≡ true = le-leb 0 (get_or stays j d).last (omega arith) in
        sym (only j d inside ∙ (ap (λ b. eqb u.owner.0 (get_or stays j d).gid.0 && b) low ∙ and_true (eqb u.owner.0 (get_or stays j d).gid.0)))
      where
        and_true : (b : Bool) → (b && true) ≡ b
        and_true true = refl
        and_true false = refl

    here : (j : ℕ) (d : ExclusiveSpan) → j < length stays → (b : Bool) → eqb place j ≡ b → get_or (set old place new) j 0 ≡ cut_by u at (get_or stays j d) (get_or reaches j 0) (get_or old j 0)
    here j d inside true same =
        let is : place ≡ j = eqb-true place j same in
        let is_own = own j d inside ∙ same in
        let is_new : get_or (set old place new) place 0 ≡ new = get_or-set_same old place new 0 (omega (arith, within, len)) in
        ap (λ k. get_or (set old place new) k 0) (sym is) ∙ (is_new ∙ (ap (λ k. cond (nat_lt u.at (get_or reaches k 0)) (min (get_or old k 0) at) (get_or old k 0)) is
        ∙ sym (ap (λ b. cond (b && nat_lt u.at (get_or reaches j 0)) (min (get_or old j 0) at) (get_or old j 0)) is_own)))
    here j d inside false other =
        let apart : j ≡ place → ⊥ = λ same. eqb-false place j other (sym same) in
        let isnt_own = own j d inside ∙ other in
        get_or-set_other old place j new 0 apart ∙ sym (ap (λ b. cond (b && nat_lt u.at (get_or reaches j 0)) (min (get_or old j 0) at) (get_or old j 0)) isnt_own)

-- where it is none of these groups
pub AreEach-none : (u : LineUse) (at : ℕ) (stays : List ExclusiveSpan) (reaches old : List ℕ)
    → ((j : ℕ) (d : ExclusiveSpan) → j < length stays → false ≡ (eqb u.owner.0 (get_or stays j d).gid.0 && nat_le 0 (get_or stays j d).last)) → AreEach (cut_by u at) stays reaches old old
AreEach-none u at stays reaches old none = record { same = refl; each = each }
  where
    each : (j : ℕ) (d : ExclusiveSpan) → j < length stays → get_or old j 0 ≡ cut_by u at (get_or stays j d) (get_or reaches j 0) (get_or old j 0)
    each j d inside = elim (cases_Bool (eqb u.owner.0 (get_or stays j d).gid.0)) [
      | inr isnt ↦ sym (ap (λ b. cond (b && nat_lt u.at (get_or reaches j 0)) (min (get_or old j 0) at) (get_or old j 0)) isnt)
      | inl is ↦
          let low : nat_le 0 (get_or stays j d).last ≡ true = le-leb 0 (get_or stays j d).last (omega arith) in
          absurd (false≢true (none j d inside ∙ rw (is, low) refl))
    ]

module _ (sets : ℕ) (opening : What) (uses : List LineUse) (none : ℕ) (stays : List ExclusiveSpan) (reaches : List ℕ) where
  -- no use so far
  pub AreCuts-none : (ends : List ℕ) → length ends ≡ length stays → ((j : ℕ) → j < length stays → get_or ends j 0 ≡ none) → AreCuts sets opening uses 0 none stays reaches ends
  AreCuts-none ends same each = record {
    same = same;
    each = λ j d within. subst (IsCut sets opening uses 0 none (get_or stays j d) (get_or reaches j 0)) (sym (each j within)) (IsCut-none sets opening uses none (get_or stays j d) (get_or reaches j 0));
  }

  -- one use more
  pub AreCuts-next : (n start : ℕ) (first next : LineUse) (ends mid new : List ℕ) → slice_get uses start ≡ Some first → slice_get uses n ≡ Some next → start ≤ n → IsStart uses (n + 1) start
      → AreCuts sets opening uses n none stays reaches ends → AreEach (loaded_by sets opening next) stays reaches ends mid → AreEach (shared_by first next) stays reaches mid new
      → AreCuts sets opening uses (n + 1) none stays reaches new
  AreCuts-next n start first next ends mid new at_first at_next early begins were a b = record {
    same = b.same ∙ (a.same ∙ were.same);
    each = λ j d within.
        let s : ExclusiveSpan = get_or stays j d in
        let reach : ℕ = get_or reaches j 0 in
        let is : get_or new j 0 ≡ shared_by first next s reach (loaded_by sets opening next s reach (get_or ends j 0)) = b.each j d within ∙ ap (shared_by first next s reach) (a.each j d within) in
        subst (IsCut sets opening uses (n + 1) none s reach) (sym is) (IsCut-next sets opening uses none s reach n start (get_or ends j 0) first next at_first at_next early begins (were.each j d within));
  }
