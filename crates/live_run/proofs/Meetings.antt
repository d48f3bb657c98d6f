-- Lists of passes that meet.
use Rattle.std.proofs.Common.{◌≡◌, ◌≢◌, ℕ, ◌+◌, ◌<◌, ◌≤◌, ◌==◌, inl, inr, List, length, slice_set, refl, sym, ap, ◌∙◌, subst, arith}
use Rattle.std.proofs.lemmas.Bool.{cases_Bool, cases_lt, eqb-false, eqb-true}
use Rattle.std.proofs.lemmas.List.{get_or_past, get_or-set_other, get_or-set_same, length-set}
use Rattle.cache_core.specs.declared.entry.SliceEntry.{SliceEntry}
use Rattle.live_law.proofs.laws.Prefixes.{NoMore-self}
use Rattle.seen_journal.proofs.laws.Prefixes.{IsPrefix-self}
use Rattle.live_law.specs.SeenJournals.{NoMore, is_by}
use Rattle.live_run.specs.Cells.{AreOfThreads, ArePasses, IsSeen, made_by, pass_in, taken_from}
use Rattle.live_run.specs.Names.{SeenValue, no_pass, pass_at, seen_by}
use Rattle.live_run.specs.Steps.{HasTaken, HaveGrown, HaveMet, HaveSeenSame}
use Rattle.live_run.proofs.Bridges.{either_threads, history_more, no_more, seen-slice}
use Rattle.run_law.specs.Journals.{slice_at}
use Rattle.run_law.specs.declared.journals.TreeEntry.{TreeEntry}
use Rattle.script_ops.specs.Values.{ScriptValue}
use Rattle.seen_journal.proofs.laws.Passes.{HasSeen-flip}
use Rattle.seen_journal.specs.Entries.{entries_of, list_of}
use Rattle.seen_journal.specs.Journals.{JournalName}
use Rattle.seen_journal.specs.Passes.{HasSeen, PassValue}
use Rattle.seen_journal.specs.Prefixes.{IsPrefix, longer_of}

-- none have met
pub met_none : (cell mine : List (PassValue SliceEntry)) → HaveMet 0 cell mine cell mine
met_none cell mine = record {
  cell_count = refl;
  mine_count = refl;
  cell_seen = λ i less within. absurd (omega (arith, less));
  mine_seen = λ i less within. absurd (omega (arith, less));
  cell_rest = λ i from. refl;
  mine_rest = λ i from. refl;
}

-- one more has
pub met_more : (n : ℕ) (cell mine cell_now mine_now : List (PassValue SliceEntry)) (a b : PassValue SliceEntry) → n < length cell → n < length mine → HaveMet n cell mine cell_now mine_now
    → HasSeen (pass_in cell_now n) a (longer_of (pass_in cell_now n).seen (pass_in mine_now n).seen) → HasSeen (pass_in mine_now n) b (longer_of (pass_in cell_now n).seen (pass_in mine_now n).seen)
    → HaveMet (n + 1) cell mine (slice_set cell_now n a) (slice_set mine_now n b)
met_more n cell mine cell_now mine_now a b first second met seen_a seen_b =
    let cell_is : pass_in cell_now n ≡ pass_in cell n = met.cell_rest n (omega arith) in
    let mine_is : pass_in mine_now n ≡ pass_in mine n = met.mine_rest n (omega arith) in
    let here_a : pass_in (slice_set cell_now n a) n ≡ a = get_or-set_same cell_now n a no_pass (omega (arith, met.cell_count, first)) in
    let here_b : pass_in (slice_set mine_now n b) n ≡ b = get_or-set_same mine_now n b no_pass (omega (arith, met.mine_count, second)) in
    let its_a : HasSeen (pass_in cell n) a (longer_of (pass_in cell n).seen (pass_in mine n).seen) = subst (λ p. HasSeen p a (longer_of p.seen (pass_in mine n).seen)) cell_is (subst (λ q. HasSeen (pass_in cell_now n) a (longer_of (pass_in cell_now n).seen q.seen)) mine_is seen_a) in
    let its_b : HasSeen (pass_in mine n) b (longer_of (pass_in cell n).seen (pass_in mine n).seen) = subst (λ p. HasSeen (pass_in mine n) b (longer_of p.seen (pass_in mine n).seen)) cell_is (subst (λ q. HasSeen q b (longer_of (pass_in cell_now n).seen q.seen)) mine_is seen_b) in
    record {
      cell_count = length-set cell_now n a ∙ met.cell_count;
      mine_count = length-set mine_now n b ∙ met.mine_count;
      cell_seen = λ i less within. elim (cases_Bool (i == n)) [
        | inl here ↦
            let is : i ≡ n = eqb-true i n here in
            subst (λ k. HasSeen (pass_in cell k) (pass_in (slice_set cell_now n a) k) (longer_of (pass_in cell k).seen (pass_in mine k).seen)) (sym is)
            (subst (λ p. HasSeen (pass_in cell n) p (longer_of (pass_in cell n).seen (pass_in mine n).seen)) (sym here_a) its_a)
        | inr away ↦
            let apart : i ≢ n = eqb-false i n away in
            subst (λ p. HasSeen (pass_in cell i) p (longer_of (pass_in cell i).seen (pass_in mine i).seen)) (sym (get_or-set_other cell_now n i a no_pass apart)) (met.cell_seen i (omega (arith, less, apart)) within)
      ];
      mine_seen = λ i less within. elim (cases_Bool (i == n)) [
        | inl here ↦
            let is : i ≡ n = eqb-true i n here in
            subst (λ k. HasSeen (pass_in mine k) (pass_in (slice_set mine_now n b) k) (longer_of (pass_in cell k).seen (pass_in mine k).seen)) (sym is)
            (subst (λ p. HasSeen (pass_in mine n) p (longer_of (pass_in cell n).seen (pass_in mine n).seen)) (sym here_b) its_b)
        | inr away ↦
            let apart : i ≢ n = eqb-false i n away in
            subst (λ p. HasSeen (pass_in mine i) p (longer_of (pass_in cell i).seen (pass_in mine i).seen)) (sym (get_or-set_other mine_now n i b no_pass apart)) (met.mine_seen i (omega (arith, less, apart)) within)
      ];
      cell_rest = λ i from. let apart : i ≢ n = (λ same. omega (arith, from, same)) in get_or-set_other cell_now n i a no_pass apart ∙ met.cell_rest i (omega (arith, from));
      mine_rest = λ i from. let apart : i ≢ n = (λ same. omega (arith, from, same)) in get_or-set_other mine_now n i b no_pass apart ∙ met.mine_rest i (omega (arith, from));
    }

module _ (cell mine cell_now mine_now : List (PassValue SliceEntry)) (met : HaveMet (length cell) cell mine cell_now mine_now) (count : length cell ≡ length mine) where
  -- past the end there is no pass
  no_pass_past : (ps : List (PassValue SliceEntry)) (i : ℕ) → length ps ≤ i → pass_in ps i ≡ no_pass
  no_pass_past ps i past = get_or_past ps i no_pass past

  -- both lists have seen the same
  pub met_same : HaveSeenSame cell_now mine_now
  met_same = record {
    count = met.cell_count ∙ (count ∙ sym met.mine_count);
    same = λ i. elim (cases_lt i (length cell)) [
      | inl within ↦ (met.cell_seen i within within).seen_are ∙ sym (met.mine_seen i within within).seen_are
      | inr past ↦ ap (λ (p : PassValue SliceEntry). p.seen) (no_pass_past cell_now i (omega (arith, past, met.cell_count)) ∙ sym (no_pass_past mine_now i (omega (arith, past, met.mine_count, count))))
    ];
  }

  -- the cell's passes have seen at least what they had
  pub met_grown : HaveGrown cell cell_now
  met_grown i = elim (cases_lt i (length cell)) [
    | inl within ↦ (met.cell_seen i within within).prefix
    | inr past ↦ subst (λ (p : PassValue SliceEntry). IsPrefix (pass_in cell i).seen p.seen) (no_pass_past cell i past ∙ sym (no_pass_past cell_now i (omega (arith, past, met.cell_count)))) (IsPrefix-self (pass_in cell i).seen)
  ]

  -- they are passes of the slices' journals
  pub met_passes : (script : ScriptValue) (slices : List JournalName) → ArePasses script slices cell → ((i : ℕ) → i < length mine → AreOfThreads made_by (pass_in mine i).seen) → ArePasses script slices cell_now
  met_passes script slices passes threads = record {
    count = met.cell_count ∙ passes.count;
    names = λ i less. let within : i < length cell = omega (arith, less, met.cell_count) in (met.cell_seen i within within).name ∙ passes.names i within;
    threads = λ i less.
        let within : i < length cell = omega (arith, less, met.cell_count) in
        subst (λ xs. AreOfThreads made_by xs) (sym (met.cell_seen i within within).seen_are)
        (either_threads made_by (pass_in cell i).seen (pass_in mine i).seen (passes.threads i within) (threads i (omega (arith, within, count))));
  }

  -- those of the thread too
  pub mine_threads : ((i : ℕ) → i < length cell → AreOfThreads made_by (pass_in cell i).seen) → ((i : ℕ) → i < length mine → AreOfThreads made_by (pass_in mine i).seen) → (i : ℕ) → i < length mine_now → AreOfThreads made_by (pass_in mine_now i).seen
  mine_threads first second i less =
      let within : i < length cell = omega (arith, less, met.mine_count, count) in
      subst (λ xs. AreOfThreads made_by xs) (sym (met.mine_seen i within within).seen_are)
      (either_threads made_by (pass_in cell i).seen (pass_in mine i).seen (first i within) (second i (omega (arith, within, count))))

-- ---- the other way round

pub met_flip : (xs ys xs_now ys_now : List (PassValue SliceEntry)) → length xs ≡ length ys → HaveMet (length xs) xs ys xs_now ys_now → HaveMet (length ys) ys xs ys_now xs_now
met_flip xs ys xs_now ys_now count met = record {
  cell_count = met.mine_count;
  mine_count = met.cell_count;
  cell_seen = λ i less within. (both i (omega (arith, less, count))).1;
  mine_seen = λ i less within. (both i (omega (arith, less, count))).0;
  cell_rest = λ i from. met.mine_rest i (omega (arith, from, count));
  mine_rest = λ i from. met.cell_rest i (omega (arith, from, count));
}
  where
    both : (i : ℕ) → i < length xs → HasSeen (pass_in xs i) (pass_in xs_now i) (longer_of (pass_in ys i).seen (pass_in xs i).seen) × HasSeen (pass_in ys i) (pass_in ys_now i) (longer_of (pass_in ys i).seen (pass_in xs i).seen)
    both i less = HasSeen-flip (pass_in xs i) (pass_in ys i) (pass_in xs_now i) (pass_in ys_now i) (met.cell_seen i less less) (met.mine_seen i less less)

-- a thread's passes are passes of the slices' journals
pub seen_passes : (script : ScriptValue) (tree : JournalName) (slices : List JournalName) (s : SeenValue) → IsSeen script tree slices s → ArePasses script slices s.slices
seen_passes script tree slices s seen = record { count = seen.count; names = seen.names; threads = seen.threads }

-- ---- Take

module _ (script : ScriptValue) (tree : JournalName) (slices : List JournalName) (s : SeenValue) (q : PassValue TreeEntry) (list : List (ℕ × TreeEntry)) (cell cell_now mine_now : List (PassValue SliceEntry)) (seen : IsSeen script tree slices s) (shown : HasSeen s.tree q list) (threads : AreOfThreads taken_from list) (passes : ArePasses script slices cell) (met : HaveMet (length cell) cell s.slices cell_now mine_now) where
  abbrev pub after_taking : SeenValue
  after_taking = record { thread = s.thread; tree = q; slices = mine_now }

  counts : length cell ≡ length s.slices
  counts = passes.count ∙ sym seen.count

  each_thread : (i : ℕ) → i < length mine_now → AreOfThreads made_by (pass_in mine_now i).seen
  each_thread = mine_threads cell s.slices cell_now mine_now met counts passes.threads seen.threads

  -- its passes are what they were
  pub take_seen : IsSeen script tree slices after_taking
  take_seen = record {
    tree_name = shown.name ∙ seen.tree_name;
    tree_number = shown.number ∙ seen.tree_number;
    tree_threads = subst (λ xs. AreOfThreads taken_from xs) (sym shown.seen_are) threads;
    count = met.mine_count ∙ seen.count;
    names = λ i less. let within : i < length cell = omega (arith, less, met.mine_count, counts) in (met.mine_seen i within within).name ∙ seen.names i (omega (arith, within, counts));
    numbers = λ i less. let within : i < length cell = omega (arith, less, met.mine_count, counts) in (met.mine_seen i within within).number ∙ seen.numbers i (omega (arith, within, counts));
    threads = each_thread;
    quotas = seen.quotas;
  }

  -- of a slice it may have seen more, and nothing more of its own
  slice_more : (i : ℕ) → NoMore (is_by s.thread) (list_of (pass_at s i).seen) (list_of (pass_in mine_now i).seen)
  slice_more i = elim (cases_lt i (length cell)) [
    | inl within ↦
        let it : HasSeen (pass_at s i) (pass_in mine_now i) (longer_of (pass_in cell i).seen (pass_at s i).seen) = met.mine_seen i within within in
        let own : entries_of (pass_at s i).number (pass_in mine_now i).seen ≡ entries_of (pass_at s i).number (pass_at s i).seen = ap (λ n. entries_of n (pass_in mine_now i).seen) (sym it.number) ∙ it.own_are in
        subst (λ n. NoMore (is_by n) (list_of (pass_at s i).seen) (list_of (pass_in mine_now i).seen)) (seen.numbers i (omega (arith, within, counts)))
        (no_more made_by (pass_at s i).number (pass_at s i).seen (pass_in mine_now i).seen it.prefix own (each_thread i (omega (arith, within, met.mine_count, counts))))
    | inr past ↦
        subst (λ (p : PassValue SliceEntry). NoMore (is_by s.thread) (list_of (pass_at s i).seen) (list_of p.seen)) (sym (met.mine_rest i past)) (NoMore-self (is_by s.thread) (list_of (pass_at s i).seen))
  ]

  pub has_taken : HasTaken s after_taking
  has_taken = record {
    thread = refl;
    sees = record {
      tree = history_more s.thread s.tree.seen q.seen
          (subst (λ n. NoMore (λ h. taken_from h == n) (list_of s.tree.seen) (list_of q.seen)) seen.tree_number
          (no_more taken_from s.tree.number s.tree.seen q.seen shown.prefix (ap (λ n. entries_of n q.seen) (sym shown.number) ∙ shown.own_are) (subst (λ xs. AreOfThreads taken_from xs) (sym shown.seen_are) threads)));
      slices = λ i.
          subst (λ xs. NoMore (is_by s.thread) xs (slice_at (seen_by after_taking) i)) (sym (seen-slice s i))
          (subst (λ xs. NoMore (is_by s.thread) (list_of (pass_at s i).seen) xs) (sym (seen-slice after_taking i)) (slice_more i));
    };
  }
