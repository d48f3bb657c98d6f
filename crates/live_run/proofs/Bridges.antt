-- From passes to what they have seen.
use Rattle.std.proofs.Common.{◌≡◌, ◌≢◌, ℕ, zero, suc, ◌+◌, ◌<◌, ◌==◌, Bool, false, inl, inr, List, [], ◌∷◌, ◌++◌, length, map, get_or, slice_index_or, slice_set, refl, sym, ap, ◌∙◌, subst, arith}
use Rattle.std.specs.Prelude.{nat_lt}
use Rattle.std.proofs.lemmas.Bool.{cases_Bool, eq-eqb, eqb-false, eqb-true, ne_eqb}
use Rattle.std.proofs.lemmas.List.{get_or-set_other, get_or-set_same, length-map, length-set, map-append, same_from_push}
use Rattle.cache_core.specs.declared.entry.SliceEntry.{SliceEntry}
use Rattle.live_law.proofs.laws.Prefixes.{NoMore-self}
use Rattle.live_law.specs.SeenJournals.{NoMore, is_by, is_from}
use Rattle.live_run.specs.Cells.{AreOfThreads, IsSeen, made_by, taken_from}
use Rattle.live_run.specs.Names.{SeenValue, history_of, name_at, no_pass, pass_at, seen_by}
use Rattle.live_run.specs.Steps.{HasAdded, HasSeenTree}
use Rattle.run_law.specs.Entries.{entry_value}
use Rattle.run_law.specs.Journals.{At, slice_at}
use Rattle.run_law.specs.declared.journals.TreeEntry.{TreeEntry}
use Rattle.run_law.proofs.laws.GrownLists.{at_push}
use Rattle.script_ops.specs.Values.{ScriptValue}
use Rattle.seen_journal.proofs.laws.Entries.{IsPrefix-list_of, entries_of-append, entries_of-none, entries_of-rest, length-list_of, list_of-append, slice_get-append_behind, slice_get-list_of}
use Rattle.seen_journal.specs.Entries.{entries_of, list_of}
use Rattle.seen_journal.specs.Journals.{JournalName}
use Rattle.seen_journal.specs.Passes.{HasSeen, PassValue, own_entries}
use Rattle.seen_journal.specs.Prefixes.{IsPrefix, longer_of}

-- ---- lists with the numbers of passes

module _ {E : Type 0} where
  -- nothing more of a pass
  pub no_more : (thread : E → ℕ) (n : ℕ) (xs ys : List (ℕ × E)) → IsPrefix xs ys → entries_of n ys ≡ entries_of n xs → AreOfThreads thread ys → NoMore (λ e. thread e == n) (list_of xs) (list_of ys)
  no_more thread n xs ys prefix own threads =
      let none : entries_of n prefix.0 ≡ [] = entries_of-rest n xs prefix.0 (ap (entries_of n) prefix.1 ∙ own) in
      record {
        rest = list_of prefix.0;
        is = sym (list_of-append xs prefix.0) ∙ ap list_of prefix.1;
        others = λ k e at.
            let (x, there, is) = slice_get-list_of prefix.0 k e at in
            let whole : At ys (length xs + k) x = subst (λ l. At l (length xs + k) x) prefix.1 (slice_get-append_behind xs prefix.0 k x there) in
            let thread_is : thread e ≡ x.0 = ap thread (sym is) ∙ threads (length xs + k) x whole in
            ne_eqb (thread e) n (λ same. entries_of-none n prefix.0 k x none there (sym thread_is ∙ same));
      }

  -- what a pass has that was appended to
  pub record HasAppended (p q : PassValue E) (whole : List (ℕ × E)) (e : E) : Type 0 where
    pub name : q.name ≡ p.name
    pub number : q.number ≡ p.number
    pub prefix : IsPrefix p.seen whole
    pub seen : q.seen ≡ whole ++ (p.number, e) ∷ []
    pub own : own_entries q ≡ own_entries p ++ e ∷ []

  -- nothing more of it stood before the entry
  pub more_before : (thread : E → ℕ) (p q : PassValue E) (whole : List (ℕ × E)) (e : E) → HasAppended p q whole e → AreOfThreads thread whole → NoMore (λ x. thread x == p.number) (list_of p.seen) (list_of whole)
  more_before thread p q whole e appended threads =
      let n : ℕ = p.number in
      let one : entries_of n ((n, e) ∷ []) ≡ e ∷ [] = rw (eq-eqb n n refl) refl in
      let all : entries_of n whole ++ e ∷ [] ≡ entries_of n p.seen ++ e ∷ [] =
      ap (λ l. entries_of n whole ++ l) (sym one) ∙ (sym (entries_of-append n whole ((n, e) ∷ [])) ∙ (ap (entries_of n) (sym appended.seen) ∙ (ap (λ m. entries_of m q.seen) (sym appended.number) ∙ appended.own))) in
      no_more thread n p.seen whole appended.prefix (same_from_push (entries_of n whole) (entries_of n p.seen) e e all).0 threads

  -- its list afterwards
  pub list_push : (p q : PassValue E) (whole : List (ℕ × E)) (e : E) → HasAppended p q whole e → list_of q.seen ≡ list_of whole ++ e ∷ []
  list_push p q whole e appended = ap list_of appended.seen ∙ list_of-append whole ((p.number, e) ∷ [])

  pub threads_push : (thread : E → ℕ) (whole : List (ℕ × E)) (n : ℕ) (e : E) → thread e ≡ n → AreOfThreads thread whole → AreOfThreads thread (whole ++ (n, e) ∷ [])
  threads_push thread whole n e is threads k x at = elim (at_push whole (n, e) k x at) [
    | inl old ↦ threads k x old
    | inr new ↦ subst (λ (y : ℕ × E). thread y.1 ≡ y.0) (sym new.1) is
  ]

  -- of the longer of two lists
  pub either_threads : (thread : E → ℕ) (xs ys : List (ℕ × E)) → AreOfThreads thread xs → AreOfThreads thread ys → AreOfThreads thread (longer_of xs ys)
  either_threads thread xs ys first second = elim (cases_Bool (nat_lt (length xs) (length ys))) [
    | inl less ↦ rw less second
    | inr more ↦ rw more first
  ]

-- of a mapped list
nomore-map : {A B : Type 0} (f : A → B) (own : B → Bool) (xs ys : List A) → NoMore (λ x. own (f x)) xs ys → NoMore own (map f xs) (map f ys)
nomore-map f own xs ys more = record {
  rest = map f more.rest;
  is = sym (map-append f xs more.rest) ∙ ap (map f) more.is;
  others = λ k y at. of_map f own more.rest k y at more.others;
}
  where
    of_map : {A B : Type 0} (f : A → B) (own : B → Bool) (rest : List A) (k : ℕ) (y : B) → At (map f rest) k y → ((k : ℕ) (x : A) → At rest k x → own (f x) ≡ false) → own y ≡ false
    of_map f own [] k y at others = absurd cc
    of_map f own (x ∷ rest) zero y at others = let same : f x ≡ y = cc in ap own (sym same) ∙ others 0 x refl
    of_map f own (x ∷ rest) (suc k) y at others = of_map f own rest k y at (λ q z there. others (suc q) z there)

-- the tree's history
pub history_more : (n : ℕ) (xs ys : List (ℕ × TreeEntry)) → NoMore (λ h. taken_from h == n) (list_of xs) (list_of ys) → NoMore (is_from n) (history_of xs) (history_of ys)
history_more n xs ys more = nomore-map entry_value (is_from n) (list_of xs) (list_of ys) more

pub history_prefix : (xs ys : List (ℕ × TreeEntry)) → IsPrefix xs ys → IsPrefix (history_of xs) (history_of ys)
history_prefix xs ys prefix =
    let list : IsPrefix (list_of xs) (list_of ys) = IsPrefix-list_of xs ys prefix in
    (map entry_value list.0, sym (map-append entry_value (list_of xs) list.0) ∙ ap (map entry_value) list.1)

pub history_length : (xs : List (ℕ × TreeEntry)) → length (history_of xs) ≡ length xs
history_length xs = length-map (list_of xs) entry_value ∙ length-list_of xs

-- ---- a thread's passes

-- the list of a slice that a thread has seen
pub seen-slice : (s : SeenValue) (i : ℕ) → slice_at (seen_by s) i ≡ list_of (pass_at s i).seen
seen-slice s i = of s.slices i
  where
    of : (ps : List (PassValue SliceEntry)) (i : ℕ) → get_or (map (λ (p : PassValue SliceEntry). list_of p.seen) ps) i [] ≡ list_of (slice_index_or ps i no_pass).seen
    of [] i = refl
    of (p ∷ ps) zero = refl
    of (p ∷ ps) (suc i) = of ps i

module _ (script : ScriptValue) (tree : JournalName) (slices : List JournalName) (s : SeenValue) (i : ℕ) (q : PassValue SliceEntry) (whole : List (ℕ × SliceEntry)) (e : SliceEntry) (seen : IsSeen script tree slices s) (within : i < length s.slices) (appended : HasAppended (pass_at s i) q whole e) (thread : e.thread ≡ s.thread) (threads : AreOfThreads made_by whole) where
  -- with another pass for slice i
  abbrev pub with_pass : SeenValue
  with_pass = record { thread = s.thread; tree = s.tree; slices = slice_set s.slices i q }

  there : pass_at with_pass i ≡ q
  there = get_or-set_same s.slices i q no_pass within

  elsewhere : (k : ℕ) → k ≢ i → pass_at with_pass k ≡ pass_at s k
  elsewhere k apart = get_or-set_other s.slices i k q no_pass apart

  -- it has added the entry
  pub has_added : HasAdded i e s with_pass
  has_added = record {
    thread = refl;
    adds = record {
      tree = NoMore-self (is_from s.thread) (history_of s.tree.seen);
      list = list_of whole;
      sees = subst (λ xs. NoMore (is_by s.thread) xs (list_of whole)) (sym (seen-slice s i))
          (subst (λ n. NoMore (is_by n) (list_of (pass_at s i).seen) (list_of whole)) (seen.numbers i within) (more_before made_by (pass_at s i) q whole e appended threads));
      adds = seen-slice with_pass i ∙ (ap (λ (p : PassValue SliceEntry). list_of p.seen) there ∙ list_push (pass_at s i) q whole e appended);
      within = omega (arith, within, length-map (slice_set s.slices i q) (λ (p : PassValue SliceEntry). list_of p.seen), length-set s.slices i q);
      others = λ k apart.
          subst (λ xs. NoMore (is_by s.thread) (slice_at (seen_by s) k) xs) (seen-slice s k ∙ (ap (λ (p : PassValue SliceEntry). list_of p.seen) (sym (elsewhere k apart)) ∙ sym (seen-slice with_pass k)))
          (NoMore-self (is_by s.thread) (slice_at (seen_by s) k));
    };
    others = elsewhere;
  }

  -- and its passes are what they were
  pub is_seen : IsSeen script tree slices with_pass
  is_seen = record {
    tree_name = seen.tree_name;
    tree_number = seen.tree_number;
    tree_threads = seen.tree_threads;
    count = length-set s.slices i q ∙ seen.count;
    names = λ k less. of_each (λ k p. p.name ≡ name_at slices k) (ap (λ (p : PassValue SliceEntry). p.name) there ∙ (appended.name ∙ seen.names i within)) k less (λ old. seen.names k old);
    numbers = λ k less. of_each (λ k p. p.number ≡ s.thread) (ap (λ (p : PassValue SliceEntry). p.number) there ∙ (appended.number ∙ seen.numbers i within)) k less (λ old. seen.numbers k old);
    threads = λ k less. of_each (λ k p. AreOfThreads made_by p.seen)
        (subst (λ (p : PassValue SliceEntry). AreOfThreads made_by p.seen) (sym there)
        (subst (λ xs. AreOfThreads made_by xs) (sym appended.seen) (threads_push made_by whole (pass_at s i).number e (thread ∙ sym (seen.numbers i within)) threads))) k less (λ old. seen.threads k old);
    quotas = seen.quotas;
  }
    where
      of_each : (P : ℕ → PassValue SliceEntry → Type 0) → P i (pass_at with_pass i) → (k : ℕ) → k < length with_pass.slices → (k < length s.slices → P k (pass_at s k)) → P k (pass_at with_pass k)
      of_each P here k less old = elim (cases_Bool (k == i)) [
        | inl same ↦ subst (λ x. P x (pass_at with_pass x)) (sym (eqb-true k i same)) here
        | inr away ↦ subst (P k) (sym (elsewhere k (eqb-false k i away))) (old (omega (arith, less, length-set s.slices i q)))
      ]

-- the tree's history that a thread has seen is longer, and nothing more is its own
pub tree_more : (script : ScriptValue) (tree : JournalName) (slices : List JournalName) (s : SeenValue) (q : PassValue TreeEntry) (list : List (ℕ × TreeEntry)) → IsSeen script tree slices s → HasSeen s.tree q list → AreOfThreads taken_from q.seen
    → HasSeenTree s (record { thread = s.thread; tree = q; slices = s.slices })
tree_more script tree slices s q list seen sees threads =
    let own : entries_of s.tree.number q.seen ≡ entries_of s.tree.number s.tree.seen = ap (λ n. entries_of n q.seen) (sym sees.number) ∙ sees.own_are in
    let more : NoMore (λ h. taken_from h == s.tree.number) (list_of s.tree.seen) (list_of q.seen) = no_more taken_from s.tree.number s.tree.seen q.seen sees.prefix own threads in
    record {
      thread = refl;
      sees = record {
        tree = history_more s.thread s.tree.seen q.seen (subst (λ n. NoMore (λ h. taken_from h == n) (list_of s.tree.seen) (list_of q.seen)) seen.tree_number more);
        slices = λ i. NoMore-self (is_by s.thread) (slice_at (seen_by s) i);
      };
      slices = refl;
    }
