-- The entries of commands in a slice, and how far they pay what the commands owe to it.
use Rattle.std.proofs.Common.{◌≡◌, ◌↔◌, ℕ, zero, suc, ◌+◌, ◌<◌, inl, inr, true, false, List, [], ◌∷◌, ◌++◌, drop, filter, length, map, set, take, Some, None, refl, sym, ap, ◌∙◌, subst, arith}
use Rattle.std.specs.Prelude.{IsTrue, slice_get, slice_index}
use Rattle.std.proofs.lemmas.Bool.{cases_Bool}
use Rattle.std.proofs.lemmas.List.{append-nil, append_assoc, append_cancel_left, map-append}
use Rattle.std.proofs.lemmas.List.Elements.{filter-append}
use Rattle.std.proofs.lemmas.Option.{slice_get-get_or, slice_get_within}
use Rattle.cache_core.specs.declared.entry.SliceEntry.{SliceEntry}
use Rattle.journal_check.proofs.RestLists.{owed-rest}
use Rattle.journal_check.specs.Payments.{AreAllPaid, AreEnded, ArePaid, PaysNext, rest}
use Rattle.journal_check.specs.declared.trace.Step.{Step}
use Rattle.journal_check.proofs.laws.Told.{number_at-op, some-IsSome}
use Rattle.journal_check.specs.Places.{ArePlaces}
use Rattle.journal_check.specs.Tables.{AreZero, IsTableOf, number_at}
use Rattle.lists.proofs.Updates.{slice_get-set_other, slice_get-set_same}
use Rattle.machine.specs.declared.parameters.Parameters.{Parameters}
use Rattle.run_law.proofs.laws.GrownLists.{filter_push_false, filter_push_true}
use Rattle.run_law.proofs.laws.Pairs.{both_eqb-same, both_eqb-true}
use Rattle.run_law.proofs.laws.Positions.{slice_get-within}
use Rattle.run_law.specs.Journals.{At}
use Rattle.run_law.specs.Owed.{Owed, paid_by}
use Rattle.run_law.specs.TreeHistory.{TreeEntryValue}
use Rattle.run_law.specs.Truth.{is_made_by}
use Rattle.script_ops.specs.Values.{ScriptValue}

-- ---- lists

module _ {A : Type 0} where
  -- one more
  take-suc_at : (xs : List A) (n : ℕ) (x : A) → At xs n x → take (suc n) xs ≡ take n xs ++ x ∷ []
  take-suc_at [] n x at = absurd cc
  take-suc_at (y ∷ xs) zero x at = (let same : y ≡ x = cc in ap (λ z. z ∷ []) same)
  take-suc_at (y ∷ xs) (suc n) x at = ap (λ (zs : List A). y ∷ zs) (take-suc_at xs n x at)

  take-next : (xs : List A) (n : ℕ) (x : A) → At xs n x → take (n + 1) xs ≡ take n xs ++ x ∷ []
  take-next xs n x at = (let on : n + 1 ≡ suc n = omega arith in ap (λ m. take m xs) on ∙ take-suc_at xs n x at)

  -- the parts before and behind
  parts : (xs : List A) (n : ℕ) (x : A) → At xs n x → xs ≡ take n xs ++ (x ∷ drop (suc n) xs)
  parts [] n x at = absurd cc
  parts (y ∷ xs) zero x at = (let same : y ≡ x = cc in ap (λ z. z ∷ xs) same)
  parts (y ∷ xs) (suc n) x at = ap (λ (zs : List A). y ∷ zs) (parts xs n x at)

-- ---- whose an entry is

module _ (script : ScriptValue) (tree : List TreeEntryValue) (places : List (List ℕ)) (table : IsTableOf script places) (taken : ArePlaces script places tree) where
  -- an entry of a command has its place
  made-place : (k n : ℕ) (h : TreeEntryValue) (e : SliceEntry) → At tree k h → IsTrue (is_made_by h.thread h.op e) → number_at places e.thread e.op ≡ Some n → n ≡ k + 1
  made-place k n h e at mine number =
      let names = both_eqb-true e.thread h.thread e.op h.op mine in
      taken.taken e.thread e.op k n h at (both_eqb-same h.thread e.thread h.op e.op (sym names.0) (sym names.1)) number

  -- and so has a place
  made-known : (k : ℕ) (h : TreeEntryValue) (e : SliceEntry) → At tree k h → IsTrue (is_made_by h.thread h.op e) → number_at places e.thread e.op ≡ None → ⊥
  made-known k h e at mine none =
      let names = both_eqb-true e.thread h.thread e.op h.op mine in
      let it = number_at-op script places h.thread h.op table (taken.of_ops k h at) in
      let its : number_at places e.thread e.op ≡ Some it.0 = subst (λ t. number_at places t e.op ≡ Some it.0) (sym names.0) (subst (λ o. number_at places h.thread o ≡ Some it.0) (sym names.1) it.1) in
      let wrong : Some it.0 ≡ None = sym its ∙ none in
      cc

  -- one that has none is of no command
  pub made-none : (e : SliceEntry) → number_at places e.thread e.op ≡ None → (k : ℕ) (h : TreeEntryValue) → At tree k h → is_made_by h.thread h.op e ≡ false
  made-none e none k h at = elim (cases_Bool (is_made_by h.thread h.op e)) [ inl mine ↦ absurd (made-known k h e at mine none) | inr other ↦ other ]

  -- one at no position neither
  pub made-zero : (e : SliceEntry) (n : ℕ) → number_at places e.thread e.op ≡ Some n → n ≡ 0 → (k : ℕ) (h : TreeEntryValue) → At tree k h → is_made_by h.thread h.op e ≡ false
  made-zero e n number zero_is k h at = elim (cases_Bool (is_made_by h.thread h.op e)) [
    | inl mine ↦ absurd (let place = made-place k n h e at mine number in omega arith)
    | inr other ↦ other
  ]

  -- one of a place is of the command there
  pub made-there : (e : SliceEntry) (k : ℕ) → number_at places e.thread e.op ≡ Some (k + 1) → (h : TreeEntryValue) × At tree k h × IsTrue (is_made_by h.thread h.op e)
  made-there e k number =
      let it = taken.place e.thread e.op k number in
      let names = both_eqb-true it.0.thread e.thread it.0.op e.op it.2 in
      (it.0, it.1, both_eqb-same e.thread it.0.thread e.op it.0.op (sym names.0) (sym names.1))

  -- and of no other
  pub made-own : (e : SliceEntry) (k : ℕ) → number_at places e.thread e.op ≡ Some (k + 1) → (l : ℕ) (h : TreeEntryValue) → At tree l h → IsTrue (is_made_by h.thread h.op e) → l ≡ k
  made-own e k number l h at mine = (let place = made-place l (k + 1) h e at mine number in omega arith)

-- ---- cursors

module _ (m : Parameters) (i : ℕ) (tree : List TreeEntryValue) (steps : List Step) where
  -- nothing is paid at first
  pub ArePaid-zero : (cursors : List ℕ) → AreZero cursors → ArePaid m i tree steps [] cursors
  ArePaid-zero cursors zero_all k c h step at there cursor = owed-rest m i k step ∙ ap (rest m i k step) (sym (zero_all k c cursor))

  -- an entry of no command
  pub ArePaid-skip : (entries : List SliceEntry) (n : ℕ) (e : SliceEntry) (cursors : List ℕ) → At entries n e → ((k : ℕ) (h : TreeEntryValue) → At tree k h → is_made_by h.thread h.op e ≡ false)
      → ArePaid m i tree steps (take n entries) cursors → ArePaid m i tree steps (take (n + 1) entries) cursors
  ArePaid-skip entries n e cursors here other old k c h step at there cursor =
      let same : filter (is_made_by h.thread h.op) (take (n + 1) entries) ≡ filter (is_made_by h.thread h.op) (take n entries) =
      ap (filter (is_made_by h.thread h.op)) (take-next entries n e here) ∙ filter_push_false (is_made_by h.thread h.op) (take n entries) e (other k h at) in
      old k c h step at there cursor ∙ ap (λ (es : List SliceEntry). map paid_by es ++ rest m i k step c) (sym same)

  -- the next entry of a command
  pub ArePaid-next : (entries : List SliceEntry) (n : ℕ) (e : SliceEntry) (old new : List ℕ) (own : ℕ) (its : TreeEntryValue) (step : Step) → At entries n e → At tree own its → At steps own step
      → IsTrue (is_made_by its.thread its.op e) → ((k : ℕ) (h : TreeEntryValue) → At tree k h → IsTrue (is_made_by h.thread h.op e) → k ≡ own) → own < length old → PaysNext m i own step e old new
      → ArePaid m i tree steps (take n entries) old → ArePaid m i tree steps (take (n + 1) entries) new
  ArePaid-next entries n e old new own its step here at_own there_own mine only within pays paid k c h other at there cursor = elim (cases_Bool (is_made_by h.thread h.op e)) [
    | inl made ↦
        let same : k ≡ own = only k h at made in
        let there_too : At steps own other = subst (λ x. At steps x other) same there in
        let one : other ≡ step = (let w : Some other ≡ Some step = sym there_too ∙ there_own in cc) in
        let cursor_is : At (set old own pays.next) own c = subst (λ ns. At ns own c) pays.moved (subst (λ x. At new x c) same cursor) in
        let moved : c ≡ pays.next = (let w : Some c ≡ Some pays.next = sym cursor_is ∙ slice_get-set_same old own pays.next within in cc) in
        let from : At old k (slice_index old k) = subst (λ x. At old x (slice_index old x)) (sym same) (slice_get-get_or old own 0 within) in
        let next : rest m i k other (slice_index old k) ≡ paid_by e ∷ rest m i k other c =
        subst (λ x. rest m i x other (slice_index old x) ≡ paid_by e ∷ rest m i x other c) (sym same)
        (subst (λ (s : Step). rest m i own s (slice_index old own) ≡ paid_by e ∷ rest m i own s c) (sym one)
        (subst (λ x. rest m i own step (slice_index old own) ≡ paid_by e ∷ rest m i own step x) (sym moved) pays.paid)) in
        let made_before = filter (is_made_by h.thread h.op) (take n entries) in
        let more : filter (is_made_by h.thread h.op) (take (n + 1) entries) ≡ made_before ++ e ∷ [] =
        ap (filter (is_made_by h.thread h.op)) (take-next entries n e here) ∙ filter_push_true (is_made_by h.thread h.op) (take n entries) e made in
        let paid_more : map paid_by (filter (is_made_by h.thread h.op) (take (n + 1) entries)) ≡ map paid_by made_before ++ paid_by e ∷ [] =
        ap (map paid_by) more ∙ map-append paid_by made_before (e ∷ []) in
        paid k (slice_index old k) h other at there from
        ∙ (ap (λ (os : List Owed). map paid_by made_before ++ os) next
        ∙ (sym (append_assoc (map paid_by made_before) (paid_by e ∷ []) (rest m i k other c))
        ∙ ap (λ (os : List Owed). os ++ rest m i k other c) (sym paid_more)))
    | inr foreign ↦
        let apart : k ≡ own → ⊥ = λ same. (
        let its_too : At tree own h = subst (λ x. At tree x h) same at in
        let one : h ≡ its = (let w : Some h ≡ Some its = sym its_too ∙ at_own in cc) in
        let wrong : true ≡ false = sym (subst (λ (x : TreeEntryValue). is_made_by x.thread x.op e ≡ true) (sym one) mine) ∙ foreign in
        cc) in
        let kept : At old k c = sym (slice_get-set_other old own k pays.next apart) ∙ subst (λ ns. At ns k c) pays.moved cursor in
        let same : filter (is_made_by h.thread h.op) (take (n + 1) entries) ≡ filter (is_made_by h.thread h.op) (take n entries) =
        ap (filter (is_made_by h.thread h.op)) (take-next entries n e here) ∙ filter_push_false (is_made_by h.thread h.op) (take n entries) e foreign in
        paid k c h other at there kept ∙ ap (λ (es : List SliceEntry). map paid_by es ++ rest m i k other c) (sym same)
  ]

  -- an entry that is not the next
  pub AreAllPaid-never : (entries : List SliceEntry) (n : ℕ) (e : SliceEntry) (cursors : List ℕ) (own : ℕ) (its : TreeEntryValue) (step : Step) → At entries n e → At tree own its → At steps own step
      → IsTrue (is_made_by its.thread its.op e) → own < length cursors → ((more : List Owed) → rest m i own step (slice_index cursors own) ≡ paid_by e ∷ more → ⊥)
      → ArePaid m i tree steps (take n entries) cursors → AreAllPaid m i tree steps entries → ⊥
  AreAllPaid-never entries n e cursors own its step here at_own there_own mine within never paid all =
      let p = is_made_by its.thread its.op in
      let before = filter p (take n entries) in
      let behind = filter p (drop (suc n) entries) in
      let from : At cursors own (slice_index cursors own) = slice_get-get_or cursors own 0 within in
      let first : filter p (e ∷ drop (suc n) entries) ≡ e ∷ behind = rw mine refl in
      let whole : filter p entries ≡ before ++ (e ∷ behind) =
      ap (filter p) (parts entries n e here) ∙ (filter-append p (take n entries) (e ∷ drop (suc n) entries) ∙ ap (λ (es : List SliceEntry). before ++ es) first) in
      let both : map paid_by before ++ rest m i own step (slice_index cursors own) ≡ map paid_by before ++ (paid_by e ∷ map paid_by behind) =
      sym (paid own (slice_index cursors own) its step at_own there_own from)
      ∙ (sym (all own its step at_own there_own) ∙ (ap (map paid_by) whole ∙ map-append paid_by before (e ∷ behind))) in
      never (map paid_by behind) (append_cancel_left (map paid_by before) (rest m i own step (slice_index cursors own)) (paid_by e ∷ map paid_by behind) both)

  -- all is paid where nothing is left
  pub AreEnded-all : (entries : List SliceEntry) (cursors : List ℕ) → length cursors ≡ length tree → ArePaid m i tree steps entries cursors → AreEnded m i steps cursors ↔ AreAllPaid m i tree steps entries
  AreEnded-all entries cursors count paid = (to, back)
    where
      to : AreEnded m i steps cursors → AreAllPaid m i tree steps entries
      to ended k h step at there =
          let within : k < length cursors = omega (arith, slice_get_within tree k h at, count) in
          let it = some-IsSome (slice_get cursors k) (slice_get-within cursors k within) in
          let made = map paid_by (filter (is_made_by h.thread h.op) entries) in
          sym (paid k it.0 h step at there it.1 ∙ (ap (λ (os : List Owed). made ++ os) (ended k it.0 step there it.1) ∙ append-nil made))

      back : AreAllPaid m i tree steps entries → AreEnded m i steps cursors
      back all k c step there cursor =
          let within : k < length tree = omega (arith, slice_get_within cursors k c cursor, count) in
          let it = some-IsSome (slice_get tree k) (slice_get-within tree k within) in
          let made = map paid_by (filter (is_made_by it.0.thread it.0.op) entries) in
          append_cancel_left made (rest m i k step c) [] (sym (paid k c it.0 step it.1 there cursor) ∙ (sym (all k it.0 step it.1 there) ∙ sym (append-nil made)))
