-- The exclusive groups of a domain, from the last change back.
use Rattle.std.proofs.Common.{◌≡◌, ℕ, zero, suc, ◌+◌, ◌-◌, ◌<◌, ◌≤◌, List, [], ◌∷◌, length, map, get_or, Option, None, Some, inl, inr, refl, sym, subst, ap, ◌∙◌, arith}
use Rattle.std.specs.List.{AllWithin}
use Rattle.std.specs.Option.{option_map_or}
use Rattle.std.specs.Prelude.{IfSome, slice_get}
use Rattle.std.proofs.Math.Seq.{drop-cons}
use Rattle.std.proofs.lemmas.Bool.{cases_lt}
use Rattle.std.proofs.lemmas.List.{drop_all}
use Rattle.std.proofs.lemmas.Option.{get_or_from_slice_get, same_Some, slice_get-get_or, slice_get_past, slice_get_within}
use Rattle.private_lru.specs.declared.exclusive_span.ExclusiveSpan.{ExclusiveSpan}
use Rattle.run_law.specs.Journals.{At, JournalsValue}
use Rattle.run_law.specs.Runs.{IsRun}
use Rattle.run_windows.proofs.KeptStays.{AreStays-span, gids, exclusive_at}
use Rattle.run_windows.proofs.Logs.{length-changes_of, slice_get-changes_of}
use Rattle.run_windows.proofs.Pasts.{begun-some, change_at, end-within, end_at, from-rises, from-within, groups_at}
use Rattle.run_windows.proofs.Restored.{map-edited, map-stay_of}
use Rattle.run_windows.proofs.RisingGids.{AreRising}
use Rattle.run_windows.proofs.SweptChanges.{swept-suc}
use Rattle.run_windows.specs.Changes.{AreChanges}
use Rattle.run_windows.specs.Edits.{Change, changes_of, edited, undone}
use Rattle.run_windows.specs.Stays.{AreStays, stay_of}
use Rattle.run_windows.specs.Sweeps.{Swept, swept, swept_over}
use Rattle.run_windows.specs.declared.changes.Past.{Past}
use Rattle.run_windows.specs.declared.exclusive_group.ExclusiveGroup.{ExclusiveGroup}
use Rattle.script_ops.specs.Values.{IsLawful, ScriptValue}

module _ (script : ScriptValue) (j : JournalsValue) (ps : List Past) (are : AreChanges script j (length j.tree + 1) (changes_of [] ps)) (lawful : IsLawful script) (run : IsRun script j) (domain : ℕ) where
  -- its groups are those of its epochs
  groups_at-epoch : (i : ℕ) (p : Past) → At ps i p → (e : ℕ) → p.from ≤ e → e < end_at (length j.tree) ps (suc i) → edited p.edit (groups_at script j ps are (suc i)) ≡ exclusive_at script j lawful run domain e
  groups_at-epoch i p there e low high =
      let one : suc i ≡ i + 1 = omega arith in
      let most = end-within script j ps are (suc i) in
      are.each i e (change_at script j ps are i p) (slice_get-changes_of [] ps i p there) low (omega (arith, high, most))
      (subst (λ k. IfSome (slice_get (changes_of [] ps) k) (λ (d : Change). e < d.from)) one (of (slice_get ps (suc i)) refl high))
    where
      of : (o : Option Past) → slice_get ps (suc i) ≡ o → e < option_map_or (λ (q : Past). q.from) o (length j.tree + 1) → IfSome (slice_get (changes_of [] ps) (suc i)) (λ (d : Change). e < d.from)
      of None none lt = subst (λ (o : Option Change). IfSome o (λ (d : Change). e < d.from)) (sym (slice_get_past (changes_of [] ps) (suc i) (past none))) tt
        where
          past : slice_get ps (suc i) ≡ None → length (changes_of [] ps) ≤ suc i
          past none = elim (cases_lt (suc i) (length ps)) [
            | inl within ↦ absurd (let some : slice_get ps (suc i) ≡ Some (get_or ps (suc i) p) = slice_get-get_or ps (suc i) p within in let no : None ≡ Some (get_or ps (suc i) p) = sym none ∙ some in cc)
            | inr ge ↦ omega (arith, ge, length-changes_of [] ps)
          ]
      of (Some q) some lt = subst (λ (o : Option Change). IfSome o (λ (d : Change). e < d.from)) (sym (slice_get-changes_of [] ps (suc i) q some)) lt

  -- What a sweep has after so many changes, back to that at place i.
  record Has (k i : ℕ) : Type 0 where
    last_is : (swept domain (length j.tree) ps k).last ≡ end_at (length j.tree) ps i - 1
    l : ℕ
    next : List ExclusiveSpan
    made : (swept domain (length j.tree) ps k).stays ≡ map (stay_of domain l next) (groups_at script j ps are i)
    rising : AreRising (gids (swept domain (length j.tree) ps k).stays)
    none : k ≡ 0 → (swept domain (length j.tree) ps k).stays ≡ []
    stays : (p : Past) → At ps i p → (e : ℕ) → p.from ≤ e → e < end_at (length j.tree) ps (suc i) → AreStays script j domain e (swept domain (length j.tree) ps k).stays

  -- at the end of the run
  Has-none : Has 0 (length ps)
  Has-none = record {
    last_is = let past : slice_get ps (length ps) ≡ None = slice_get_past ps (length ps) (omega arith) in
        let is : end_at (length j.tree) ps (length ps) ≡ length j.tree + 1 = ap (λ (o : Option Past). option_map_or (λ (p : Past). p.from) o (length j.tree + 1)) past in omega (arith, is);
    l = 0;
    next = [];
    made = sym (ap (λ (l : List Past). map (stay_of domain 0 []) (undone [] l)) (drop_all (length ps) ps (omega arith)));
    rising = λ a b d below within. absurd (omega arith);
    none = λ is. refl;
    stays = λ p there e low high. absurd (let within = slice_get_within ps (length ps) p there in omega (arith, within));
  }

  -- one change further back
  Has-suc : (k i : ℕ) (p : Past) → At ps i p → k + suc i ≡ length ps → Has k (suc i) → Has (suc k) i
  Has-suc k i p there place h = record {
    last_is = ap (λ (s : Swept). s.last) is ∙ ap (λ n. n - 1) (sym (ap (λ (o : Option Past). option_map_or (λ (x : Past). x.from) o (length j.tree + 1)) there));
    l = s.last;
    next = s.stays;
    made = stays_is ∙ ap (map f) (sym groups);
    rising = (here p.from (omega arith) rises).rising;
    none = λ no. absurd (omega (arith, no));
    stays = λ x at e low high. here e (subst (λ (y : Past). y.from ≤ e) (same_Some x p (sym at ∙ there)) low) high;
  }
    where
      end : ℕ
      end = length j.tree

      s : Swept
      s = swept domain end ps k

      f : ExclusiveGroup → ExclusiveSpan
      f = stay_of domain s.last s.stays

      is : swept domain end ps (suc k) ≡ swept_over domain s p
      is = let at : i ≡ length ps - suc k = omega (arith, place) in swept-suc domain end ps k p (subst (λ n. slice_get ps n ≡ Some p) at there)

      own : map f (groups_at script j ps are (suc i)) ≡ s.stays
      own = subst (λ (l : List ExclusiveSpan). map (stay_of domain s.last l) (groups_at script j ps are (suc i)) ≡ l) (sym h.made)
          (map-stay_of domain h.l s.last h.next (groups_at script j ps are (suc i)) (subst (λ (l : List ExclusiveSpan). AreRising (gids l)) h.made h.rising))

      stays_is : (swept domain end ps (suc k)).stays ≡ map f (edited p.edit (groups_at script j ps are (suc i)))
      stays_is = ap (λ (x : Swept). x.stays) is ∙ sym (map-edited domain s.last s.stays p.edit (groups_at script j ps are (suc i)) own)

      groups : groups_at script j ps are i ≡ edited p.edit (groups_at script j ps are (suc i))
      groups = ap (undone []) (drop-cons ps i p (slice_get_within ps i p there)) ∙ ap (λ (x : Past). edited x.edit (groups_at script j ps are (suc i))) (get_or_from_slice_get ps i p p there)

      rises : p.from < end_at end ps (suc i)
      rises = from-rises script j ps are i p there

      ends : s.last + 1 ≡ end_at end ps (suc i)
      ends = let was = h.last_is in let more = rises in omega (arith, was, more)

      after : end_at end ps (suc i) ≤ end → AreStays script j domain (end_at end ps (suc i)) s.stays
      after known = of (slice_get ps (suc i)) refl
        where
          of : (o : Option Past) → slice_get ps (suc i) ≡ o → AreStays script j domain (end_at end ps (suc i)) s.stays
          of None none = absurd (let past : end_at end ps (suc i) ≡ end + 1 = ap (λ (o : Option Past). option_map_or (λ (x : Past). x.from) o (end + 1)) none in omega (arith, past, known))
          of (Some q) some =
              let begins : end_at end ps (suc i) ≡ q.from = ap (λ (o : Option Past). option_map_or (λ (x : Past). x.from) o (end + 1)) some in
              subst (λ n. AreStays script j domain n s.stays) (sym begins) (h.stays q some q.from (omega arith) (from-rises script j ps are (suc i) q some))

      past : end_at end ps (suc i) ≡ end + 1 → s.stays ≡ []
      past all = of (slice_get ps (suc i)) refl
        where
          of : (o : Option Past) → slice_get ps (suc i) ≡ o → s.stays ≡ []
          of None none = elim (cases_lt (suc i) (length ps)) [
            | inl within ↦ absurd (let some : slice_get ps (suc i) ≡ Some (get_or ps (suc i) p) = slice_get-get_or ps (suc i) p within in let no : None ≡ Some (get_or ps (suc i) p) = sym none ∙ some in cc)
            | inr ge ↦ h.none (omega (arith, ge, place))
          ]
          of (Some q) some = absurd (
              let begins : end_at end ps (suc i) ≡ q.from = ap (λ (o : Option Past). option_map_or (λ (x : Past). x.from) o (end + 1)) some in
              let lt = from-within script j ps are (suc i) q some in
              omega (arith, begins, lt, all))

      here : (e : ℕ) → p.from ≤ e → e < end_at end ps (suc i) → AreStays script j domain e (swept domain end ps (suc k)).stays
      here e low high = subst (λ (l : List ExclusiveSpan). AreStays script j domain e l) (sym stays_is)
          (AreStays-span script j lawful run domain p.from (end_at end ps (suc i)) s.last (edited p.edit (groups_at script j ps are (suc i))) s.stays ends (end-within script j ps are (suc i)) (groups_at-epoch i p there) after past e low high)

  Has-all : (k i : ℕ) → k + i ≡ length ps → Has k i
  Has-all zero i place = let all : length ps ≡ i = omega (arith, place) in subst (Has 0) all Has-none
  Has-all (suc k) i place =
      let within : i < length ps = omega (arith, place) in
      Has-suc k i (past_of ps i within) (slice_get-past_of ps i within) (omega (arith, place)) (Has-all k (suc i) (omega (arith, place)))
    where
      past_of : (l : List Past) (n : ℕ) → n < length l → Past
      past_of [] n lt = absurd (omega (arith, lt))
      past_of (x ∷ xs) n lt = get_or (x ∷ xs) n x

      slice_get-past_of : (l : List Past) (n : ℕ) (lt : n < length l) → slice_get l n ≡ Some (past_of l n lt)
      slice_get-past_of [] n lt = absurd (omega (arith, lt))
      slice_get-past_of (x ∷ xs) n lt = slice_get-get_or (x ∷ xs) n x lt

  -- the groups of an epoch, which comes before the next change
  pub AreStays-swept : (k i : ℕ) (p : Past) (e : ℕ) → k + i ≡ length ps → At ps i p → p.from ≤ e → e < end_at (length j.tree) ps (suc i) → AreStays script j domain e (swept domain (length j.tree) ps k).stays
  AreStays-swept k i p e place there low high = (Has-all k i place).stays p there e low high

  -- the last that has begun at an epoch has its groups
  pub AreStays-begun : (epoch begun count : ℕ) → epoch ≤ length j.tree → begun ≤ length ps → count ≡ length ps + 1 - begun → AllWithin (λ (p : Past). p.from ≤ epoch) ps 0 begun → AllWithin (λ (p : Past). epoch < p.from) ps begun (length ps)
      → AreStays script j domain epoch (swept domain (length j.tree) ps count).stays
  AreStays-begun epoch begun count known within is early rest =
      let some = begun-some script j ps are epoch begun rest in
      let d : Past = past_of ps (omega (arith, some, within)) in
      let i : ℕ = begun - 1 in
      let next : suc i ≡ begun = omega (arith, some) in
      AreStays-swept count i (get_or ps i d) epoch (omega (arith, is, some, within)) (slice_get-get_or ps i d (omega (arith, some, within))) (early i d (omega arith) (omega (arith, some)))
      (subst (λ n. epoch < end_at (length j.tree) ps n) (sym next) (of (slice_get ps begun) refl))
    where
      past_of : (l : List Past) → 0 < length l → Past
      past_of [] lt = absurd (omega (arith, lt))
      past_of (x ∷ xs) lt = x

      of : (o : Option Past) → slice_get ps begun ≡ o → epoch < option_map_or (λ (p : Past). p.from) o (length j.tree + 1)
      of None none = omega (arith, known)
      of (Some q) there =
          let inside = slice_get_within ps begun q there in
          let late = rest begun q (omega arith) inside in
          subst (λ (p : Past). epoch < p.from) (get_or_from_slice_get ps begun q q there) late
