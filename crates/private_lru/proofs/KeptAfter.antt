-- What the ways of the mask keep after all entries of a window, from its opening on.
use Rattle.std.proofs.Common.{◌≡◌, ℕ, ◌+◌, ◌*◌, ◌<◌, ◌≤◌, Bool, true, List, [], ◌∷◌, ◌++◌, reverse, Option, Some, None, IsSome, arith, sym, ◌∙◌, ap, subst, inl, inr}
use Rattle.std.proofs.lemmas.Bool.{cases_Bool, true≢false, false≢true}
use Rattle.std.proofs.lemmas.Option.{none-some, same_Some}
use Rattle.std.proofs.lemmas.List.{append_assoc, append-nil, reverse-append}
use Rattle.cache_core.specs.declared.entry.What.{What}
use Rattle.cache_core.specs.declared.entry.What.TheVariants.{Access, Raise, Flush, Lock, Look, Drop}
use Rattle.cache_core.specs.declared.entry.SliceEntry.{SliceEntry}
use Rattle.rc_base.specs.Follows.{GoesOn}
use Rattle.cbm.specs.Masks.{has_way}
use Rattle.cbm.proofs.laws.Overlaps.{has_way-apart}
use Rattle.cache_core.specs.Fills.{Resident}
use Rattle.cache_core.specs.History.{Shape, ways_below, held, used, left_by, EntryMayFollow}
use Rattle.cache_core.specs.Stands.{entry}
use Rattle.cache_core.proofs.laws.Histories.{held-push}
use Rattle.private_lru.specs.declared.item.Item.{Item}
use Rattle.private_lru.specs.Covered.{item_of, items}
use Rattle.private_lru.specs.Isolation.{Opens}
use Rattle.private_lru.proofs.OtherUsers.{Loads}
use Rattle.private_lru.proofs.KeptWays.{Keeps-emptied}
use Rattle.private_lru.proofs.WayLines.{line_in}
use Rattle.private_lru.proofs.KeptEntries.{Own, Fits, KeepsAfter, KeepsAfter-push}

-- entries of which each fits
abbrev pub AllFit : ℕ → ℕ → (ℕ → Bool) → List SliceEntry → Type 0
AllFit group mask own [] = Unit {0}
AllFit group mask own (e ∷ es) = Fits group mask own e.what × AllFit group mask own es

-- all the entries
pub KeepsAfter-append : (m : Shape) (narrow : m.ways ≤ 64) (group mask set : ℕ) (own : ℕ → Bool) (history entries : List SliceEntry) (back : List Item)
    → GoesOn (EntryMayFollow m) history entries → AllFit group mask own entries
    → KeepsAfter m mask own set history back
    → KeepsAfter m mask own set (history ++ entries) (reverse (items m.sets group set own entries) ++ back)
KeepsAfter-append m narrow group mask set own history [] back goes fits keeps = subst (λ h. KeepsAfter m mask own set h back) (sym (append-nil history)) keeps
KeepsAfter-append m narrow group mask set own history (e ∷ es) back goes fits keeps =
    let first : List Item = item_of m.sets group set own e.what in
    let rest : List Item = items m.sets group set own es in
    let one : KeepsAfter m mask own set (history ++ e ∷ []) (reverse first ++ back) = KeepsAfter-push m narrow group mask set own history e.thread e.op e.epoch e.what back goes.0 fits.0 keeps in
    let all : KeepsAfter m mask own set ((history ++ e ∷ []) ++ es) (reverse rest ++ (reverse first ++ back)) = KeepsAfter-append m narrow group mask set own (history ++ e ∷ []) es (reverse first ++ back) goes.1 fits.1 one in
    let lines : reverse rest ++ (reverse first ++ back) ≡ reverse (first ++ rest) ++ back = sym (append_assoc (reverse rest) (reverse first) back) ∙ ap (λ l. l ++ back) (sym (reverse-append first rest)) in
    subst (λ l. KeepsAfter m mask own set (history ++ e ∷ es) l) lines (subst (λ h. KeepsAfter m mask own set h (reverse rest ++ (reverse first ++ back))) (append_assoc history (e ∷ []) es) all)

-- what a window's opening leaves in a set
pub KeepsAfter-opening : (m : Shape) (narrow : m.ways ≤ 64) (group mask set : ℕ) (own : ℕ → Bool) (history : List SliceEntry) (thread op epoch : ℕ) (what : What)
    → set < m.sets → Opens mask what → ((x : ℕ) → own x ≡ true → Loads m what x → ⊥)
    → KeepsAfter m mask own set (history ++ entry thread op epoch what ∷ []) []
KeepsAfter-opening m narrow group mask set own history thread op epoch (Access hit way owner rmid its line) inside opens free = absurd opens
KeepsAfter-opening m narrow group mask set own history thread op epoch Raise inside opens free = absurd opens
KeepsAfter-opening m narrow group mask set own history thread op epoch Flush inside opens free =
    let e : SliceEntry = entry thread op epoch Flush in
    let none : (w : ℕ) → held m (history ++ e ∷ []) set w ≡ None = λ w. held-push m history e set w in (
      [],
      Keeps-emptied m.ways mask (Own own) (held m (history ++ e ∷ []) set) (used m (history ++ e ∷ []) set)
          (λ v l k s. false≢true (subst (λ (o : Option Resident). IsSome o) (none v) s))
          (λ v y l k h o. none-some y (sym (ap line_in (none v)) ∙ h)),
    )
KeepsAfter-opening m narrow group mask set own history thread op epoch (Lock others first_line) inside opens free =
    let e : SliceEntry = entry thread op epoch (Lock others first_line) in
    let is : (w : ℕ) → held m (history ++ e ∷ []) set w ≡ left_by m set w (Lock others first_line) = λ w. held-push m history e set w in
    let locked : (w : ℕ) → IsSome (held m (history ++ e ∷ []) set w) → has_way others w ≡ true = λ w s. elim (cases_Bool (has_way others w)) [
      | inl k ↦ k
      | inr k ↦ absurd (false≢true (rw k at (subst (λ (o : Option Resident). IsSome o) (is w) s)))
    ] in (
      [],
      Keeps-emptied m.ways mask (Own own) (held m (history ++ e ∷ []) set) (used m (history ++ e ∷ []) set)
          (λ v l k s. true≢false (sym k ∙ has_way-apart others mask v opens (omega arith) (locked v s)))
          (λ v y l k h o. elim (cases_Bool (has_way others v)) [
            | inl b ↦
                let line : first_line + set + ways_below others v * m.sets ≡ y = same_Some _ _ (rw b at (sym (ap line_in (is v)) ∙ h)) in
                free y o (set, v, inside, l, b, sym line)
            | inr b ↦ let no : None ≡ Some y = rw b at (sym (ap line_in (is v)) ∙ h) in none-some y no
          ]),
    )
KeepsAfter-opening m narrow group mask set own history thread op epoch (Look rmid lines) inside opens free = absurd opens
KeepsAfter-opening m narrow group mask set own history thread op epoch (Drop line at) inside opens free = absurd opens
