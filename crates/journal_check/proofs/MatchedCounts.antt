-- The counts that a command was given, and the sums of its first looks.
use Rattle.std.proofs.Common.{◌≡◌, ◌↔◌, ℕ, zero, suc, ◌+◌, ◌*◌, ◌<◌, ◌≤◌, List, [], ◌∷◌, length, map, take, Option, Some, None, refl, sym, ap, ◌∙◌, subst, arith}
use Rattle.std.specs.List.{range_with_len}
use Rattle.std.specs.Prelude.{option_and_then, slice_get}
use Rattle.std.specs.declared.alloc.Global.{Global}
use Rattle.std.specs.declared.collections.BTreeMap.{BTreeMap}
use Rattle.std.proofs.lemmas.Option.{get_or_from_slice_get, slice_get_within}
use Rattle.journal_check.proofs.LegalTrees.{CommandMayFollow-at, IsCommandThat-to}
use Rattle.journal_check.proofs.laws.TakenPlaces.{command-legal}
use Rattle.journal_check.proofs.laws.Told.{IsSome-some, number_at-op, slice_at-nil}
use Rattle.journal_check.specs.Places.{AreOwnPlaces, ArePlaces}
use Rattle.journal_check.specs.FirstLooks.{AreAllFirstLooks, AreCounted, found_in, look_key, looked_in, noted_for}
use Rattle.journal_check.specs.Tables.{IsTableOf, number_at}
use Rattle.journal_check.specs.Traces.{IsTrace}
use Rattle.journal_check.specs.declared.trace.Step.{Step}
use Rattle.machine.specs.Ranges.{InRange}
use Rattle.machine.specs.Slices.{slice_number}
use Rattle.run_law.proofs.laws.Pairs.{both_eqb-same}
use Rattle.run_law.specs.Journals.{At, JournalsValue, slice_at}
use Rattle.run_law.specs.Looks.{first_look, lines_looked, needs_of, sum_of_all}
use Rattle.run_law.specs.TreeHistory.{IsLegalTree, TreeEntryValue, tree_after}
use Rattle.script_ops.specs.Values.{ScriptValue, op_at}

-- ---- lists

-- the same of each element
map-same : (f g : ℕ → Option ℕ) (xs : List ℕ) → ((x : ℕ) → f x ≡ g x) → map f xs ≡ map g xs
map-same f g [] same = refl
map-same f g (x ∷ xs) same = ap (λ (o : Option ℕ). o ∷ map f xs) (same x) ∙ ap (λ (os : List (Option ℕ)). g x ∷ os) (map-same f g xs same)

-- each count is what this gives for its need
counts-same : (g : ℕ × ℕ → Option ℕ) (ns : List (ℕ × ℕ)) (counts : List ℕ) → length counts ≡ length ns → ((i n : ℕ) (need : ℕ × ℕ) → slice_get ns i ≡ Some need → slice_get counts i ≡ Some n → g need ≡ Some n)
    → map (λ n. Some n) counts ≡ map g ns
counts-same g [] [] same each = refl
counts-same g [] (n ∷ counts) same each = absurd (omega arith)
counts-same g (need ∷ ns) [] same each = absurd (omega arith)
counts-same g (need ∷ ns) (n ∷ counts) same each =
    ap (λ (os : List (Option ℕ)). Some n ∷ os) (counts-same g ns counts (omega arith) (λ i m x at there. each (suc i) m x at there))
    ∙ ap (λ (o : Option ℕ). o ∷ map g ns) (sym (each 0 n need refl refl))

-- and back
same-counts : (g : ℕ × ℕ → Option ℕ) (ns : List (ℕ × ℕ)) (counts : List ℕ) → map (λ n. Some n) counts ≡ map g ns → (i n : ℕ) (need : ℕ × ℕ) → slice_get ns i ≡ Some need → slice_get counts i ≡ Some n → g need ≡ Some n
same-counts g [] counts same i n need at there = absurd cc
same-counts g (x ∷ ns) [] same i n need at there = absurd cc
same-counts g (x ∷ ns) (m ∷ counts) same zero n need at there =
    let one : x ≡ need = cc in
    let own : m ≡ n = cc in
    let head : Some m ≡ g x = cc in
    ap g (sym one) ∙ (sym head ∙ ap (λ (k : ℕ). Some k) own)
same-counts g (x ∷ ns) (m ∷ counts) same (suc i) n need at there =
    let tail : map (λ k. Some k) counts ≡ map g ns = cc in
    same-counts g ns counts tail i n need at there

-- the same fact of equal lists
pub AreCounted-same : (a b : List (BTreeMap ℕ ℕ Global)) (s t place : ℕ) (ns ms : List (ℕ × ℕ)) (xs ys : List ℕ) → a ≡ b → s ≡ t → ns ≡ ms → xs ≡ ys → AreCounted a s place ns xs ↔ AreCounted b t place ms ys
AreCounted-same a b s t place ns ms xs ys p q r w = (
  λ h. subst (λ (l : List (BTreeMap ℕ ℕ Global)). AreCounted l t place ms ys) p (subst (λ k. AreCounted a k place ms ys) q (subst (λ (l : List (ℕ × ℕ)). AreCounted a s place l ys) r (subst (λ (l : List ℕ). AreCounted a s place ns l) w h))),
  λ h. subst (λ (l : List (BTreeMap ℕ ℕ Global)). AreCounted l s place ns xs) (sym p) (subst (λ k. AreCounted b k place ns xs) (sym q) (subst (λ (l : List (ℕ × ℕ)). AreCounted b t place l xs) (sym r) (subst (λ (l : List ℕ). AreCounted b t place ms l) (sym w) h))),
)

module _ (script : ScriptValue) (j : JournalsValue) (steps : List Step) (places : List (List ℕ)) (looks : List (BTreeMap ℕ ℕ Global)) (range : InRange script.machine) (legal : IsLegalTree script j.tree) (trace : IsTrace script j.tree (length j.tree) steps)
    (table : IsTableOf script places) (taken : ArePlaces script places j.tree) (own : AreOwnPlaces places) (all : AreAllFirstLooks places j (length j.slices) looks) where
  -- the place of a command
  pub place-command : (k : ℕ) (h : TreeEntryValue) → At j.tree k h → number_at places h.thread h.op ≡ Some (k + 1)
  place-command k h at =
      let it = command-legal script j.tree k h legal at in
      let n = number_at-op script places h.thread h.op table (IsSome-some (op_at script h.thread h.op) it.0 it.1) in
      let is : n.0 ≡ k + 1 = taken.taken h.thread h.op k n.0 h at (both_eqb-same h.thread h.thread h.op h.op refl refl) n.1 in
      n.1 ∙ ap (λ (m : ℕ). Some m) is

  -- what is found in a slice is the first look there
  found_in-first : (k i rmid : ℕ) (h : TreeEntryValue) → At j.tree k h → rmid < 65536 → found_in looks i (look_key (k + 1) rmid) ≡ first_look h.thread h.op rmid (slice_at j i)
  found_in-first k i rmid h at small = of (slice_get looks i) refl
    where
      of : (o : Option (BTreeMap ℕ ℕ Global)) → slice_get looks i ≡ o → option_and_then (λ (m : BTreeMap ℕ ℕ Global). noted_for m (look_key (k + 1) rmid)) o ≡ first_look h.thread h.op rmid (slice_at j i)
      of None none =
          let past : length j.slices ≤ i = (let count = all.count in past_none looks i none count) in
          sym (ap (first_look h.thread h.op rmid) (slice_at-nil j i past))
        where
          past_none : (xs : List (BTreeMap ℕ ℕ Global)) (n : ℕ) → slice_get xs n ≡ None → length xs ≡ length j.slices → length j.slices ≤ n
          past_none [] n none count = omega (arith, count)
          past_none (x ∷ xs) zero none count = absurd cc
          past_none (x ∷ xs) (suc n) none count = omega (arith, beyond xs n none, count)
            where
              beyond : (ys : List (BTreeMap ℕ ℕ Global)) (m : ℕ) → slice_get ys m ≡ None → length ys ≤ m
              beyond [] m none = omega arith
              beyond (y ∷ ys) zero none = absurd cc
              beyond (y ∷ ys) (suc m) none = omega (arith, beyond ys m none)
      of (Some m) is = all.each i m is h.thread h.op (k + 1) rmid (place-command k h at) (omega arith) small

  -- so what is looked up is what was looked
  looked_in-lines : (k : ℕ) (h : TreeEntryValue) (need : ℕ × ℕ) → At j.tree k h → need.1 < 65536 → looked_in looks script.machine.slices (k + 1) need ≡ lines_looked script j h need
  looked_in-lines k h need at small =
      ap sum_of_all
      (map-same (λ x. found_in looks (need.0 * script.machine.slices + x) (look_key (k + 1) need.1)) (λ x. first_look h.thread h.op need.1 (slice_at j (slice_number script.machine need.0 x)))
      (range_with_len 0 script.machine.slices) (λ x. found_in-first k (need.0 * script.machine.slices + x) need.1 h at small))

  -- how many counts a command was given
  pub length-counts : (k : ℕ) (h : TreeEntryValue) (step : Step) → At j.tree k h → At steps k step → length h.looks ≡ length step.needs
  length-counts k h step at there =
      let it = command-legal script j.tree k h legal at in
      let told = IsCommandThat-to _ (op_at script h.thread h.op) it.0 it.1 (CommandMayFollow-at script j.tree k h legal at) in
      let step_of = trace.each k h it.0 step at it.1 there in
      told.1.0 ∙ ap (λ (ns : List (ℕ × ℕ)). length ns) (sym step_of.needs)

  -- a command was given what its looks counted
  pub counted-command : (k : ℕ) (h : TreeEntryValue) (step : Step) → At j.tree k h → At steps k step
      → AreCounted looks script.machine.slices (k + 1) step.needs h.looks ↔ (map (λ n. Some n) h.looks ≡ map (lines_looked script j h) (needs_of script.machine (tree_after script (take k j.tree)) (op_at script h.thread h.op)))
  counted-command k h step at there =
      let it = command-legal script j.tree k h legal at in
      let step_of = trace.each k h it.0 step at it.1 there in
      let its : needs_of script.machine (tree_after script (take k j.tree)) (op_at script h.thread h.op) ≡ step.needs = ap (needs_of script.machine (tree_after script (take k j.tree))) it.1 ∙ sym step_of.needs in
      let few : (i : ℕ) (need : ℕ × ℕ) → slice_get step.needs i ≡ Some need → need.1 < 65536 =
      λ i need is. (let within = slice_get_within step.needs i need is in
      let can = subst (λ (p : ℕ × ℕ). p.1 < script.machine.rmids) (get_or_from_slice_get step.needs i need need is) (step_of.exist i need within).1 in
      let limit = range.rmid_limit in
      omega arith) in (
        λ counted. counts-same (lines_looked script j h) step.needs h.looks (length-counts k h step at there)
            (λ i n need is has. sym (looked_in-lines k h need at (few i need is)) ∙ counted i n need is has)
            ∙ ap (map (lines_looked script j h)) (sym its),
        λ same i n need is has. looked_in-lines k h need at (few i need is) ∙ same-counts (lines_looked script j h) step.needs h.looks (same ∙ ap (map (lines_looked script j h)) its) i n need is has,
      )
