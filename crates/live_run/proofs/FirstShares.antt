-- The shares of a run before its first op.
use Rattle.std.proofs.Common.{◌≡◌, ℕ, zero, suc, ◌+◌, ◌-◌, ◌<◌, ◌≤◌, inl, inr, false, Bool, List, [], ◌∷◌, ◌++◌, None, length, drop, refl, sym, ap, ◌∙◌, subst, arith, Option}
use Rattle.std.specs.Prelude.{slice_index_or}
use Rattle.std.proofs.lemmas.Bool.{cases_lt}
use Rattle.std.proofs.lemmas.List.{get_or_append_left, get_or_push, length_push}
use Rattle.atomic_table.specs.Seated.{TableId}
use Rattle.live_run.specs.Openings.{AreFirstShares, AreNumbered, AreSplit}
use Rattle.live_run.specs.Sharing.{IsAtPhase, IsResting, IsShareOf, begun_in}
use Rattle.live_run.proofs.NumberedParts.{AreApart-numbered, rest_of-drop, AreNumbered-threads, parts_left, AreNumbered-left, AreNumbered-turn, AreNumbered-first, slices_fit, first_of-slices}
use Rattle.machine.specs.Slices.{slice_count}
use Rattle.schedule_law.specs.declared.part.GivenTag.{GivenTag}
use Rattle.schedule_law.specs.LiveParts.{first, first_slices, first_threads, live_phase, live_slice, live_tree, resting_thread}
use Rattle.schedule_law.specs.declared.part.Part.{Part}
use Rattle.script_ops.specs.Values.{ScriptValue, threads_of}
use Rattle.shared_parts.specs.Parts.{AreApart, first_of, rest_of}
use Rattle.shared_parts.specs.Shares.{ShareValue}

-- the first is split off
pub share_apart : (table : TableId) (xs : List (ℕ × Part)) (share : ShareValue Part) → IsShareOf table xs share → AreNumbered xs → AreApart (first_of share.parts) (rest_of share.parts)
share_apart table xs share is numbered = AreApart-numbered share.parts (subst AreNumbered (sym is.parts_are) numbered)

module _ (table : TableId) (x : ℕ × Part) (xs : List (ℕ × Part)) (share : ShareValue Part) (is : IsShareOf table (x ∷ xs) share) where
  pub first_share : (one : ShareValue Part) → one.table ≡ share.table → one.parts ≡ first_of share.parts → IsShareOf table (x ∷ []) one
  first_share one same its_first = record {
    table_is = same ∙ is.table_is;
    words = is.words;
    parts_are = its_first ∙ ap first_of is.parts_are;
  }

  pub rest_share : (left : ShareValue Part) → left.table ≡ share.table → left.parts ≡ rest_of share.parts → IsShareOf table xs left
  rest_share left same rest = record {
    table_is = same ∙ is.table_is;
    words = is.words;
    parts_are = rest ∙ ap rest_of is.parts_are;
  }

-- ---- shares split off, one after the other

-- one more
pub AreSplit-next : (n : ℕ) (old mid new one : ShareValue Part) (shares : List (ShareValue Part)) → AreSplit n old mid shares → new.table ≡ mid.table → one.table ≡ mid.table → one.parts ≡ first_of mid.parts → new.parts ≡ rest_of mid.parts
    → AreSplit (n + 1) old new (shares ++ one ∷ [])
AreSplit-next n old mid new one shares split table its its_first rest = record {
  count = omega (arith, length_push shares one, split.count);
  table = table ∙ split.table;
  tables = λ k d low. elim (cases_lt k n) [
    | inl before ↦ ap (λ (s : ShareValue Part). s.table) (get_or_append_left shares (one ∷ []) d k (omega (arith, before, split.count))) ∙ split.tables k d before
    | inr after ↦ ap (λ (s : ShareValue Part). s.table) (get_or_push shares one d k (omega (arith, low, after, split.count))) ∙ (its ∙ split.table)
  ];
  each = λ k d low. elim (cases_lt k n) [
    | inl before ↦ ap (λ (s : ShareValue Part). s.parts) (get_or_append_left shares (one ∷ []) d k (omega (arith, before, split.count))) ∙ split.each k d before
    | inr after ↦
        let here : n ≡ k = omega (arith, low, after) in
        ap (λ (s : ShareValue Part). s.parts) (get_or_push shares one d k (omega (arith, low, after, split.count))) ∙ (its_first ∙ (ap first_of split.rest ∙ ap (λ m. first_of (drop m old.parts)) here))
  ];
  rest =
      let one_more : suc n ≡ n + 1 = omega arith in
      rest ∙ (ap rest_of split.rest ∙ (rest_of-drop n old.parts ∙ ap (λ m. drop m old.parts) one_more));
}

drop-slices : (i n : ℕ) (xs : List (ℕ × Part)) → drop n (first_slices i n ++ xs) ≡ xs
drop-slices i zero xs = refl
drop-slices i (suc n) xs = drop-slices (i + 1) n xs

module _ (table : TableId) (n : ℕ) (xs : List (ℕ × Part)) (old new : ShareValue Part) (shares : List (ShareValue Part)) (share : IsShareOf table (first_slices 0 n ++ xs) old) (split : AreSplit n old new shares) where
  pub AreFirstShares-split : AreFirstShares table n shares
  AreFirstShares-split = record {
    count = split.count;
    each = λ i d low.
        let same : 0 + i ≡ i = omega arith in
        record {
          table_is = split.tables i d low ∙ share.table_is;
          words = share.words;
          parts_are = split.each i d low ∙ (ap (λ ps. first_of (drop i ps)) share.parts_are ∙ (first_of-slices 0 n i xs low ∙ ap (λ j. live_slice j [] ∷ []) same));
        };
  }

  -- and the others are left
  pub share-left : IsShareOf table xs new
  share-left = record {
    table_is = split.table ∙ share.table_is;
    words = share.words;
    parts_are = split.rest ∙ (ap (drop n) share.parts_are ∙ drop-slices 0 n xs);
  }

-- the last of them, and the others
module _ (table : TableId) (n m : ℕ) (shares rest : List (ShareValue Part)) (one : ShareValue Part) (taken : shares ≡ rest ++ one ∷ []) (one_more : n ≡ m + 1) (all : AreFirstShares table n shares) where
  length-rest : length rest ≡ m
  length-rest = omega (arith, ap length taken, length_push rest one, one_more, all.count)

  pub last_share : IsShareOf table (live_slice m [] ∷ []) one
  last_share =
      let here : slice_index_or shares m one ≡ one = ap (λ ss. slice_index_or ss m one) taken ∙ get_or_push rest one one m length-rest in
      subst (IsShareOf table (live_slice m [] ∷ [])) here (all.each m one (omega (arith, one_more)))

  pub AreFirstShares-rest : AreFirstShares table m rest
  AreFirstShares-rest = record {
    count = length-rest;
    each = λ i d low.
        let same : slice_index_or shares i d ≡ slice_index_or rest i d = ap (λ ss. slice_index_or ss i d) taken ∙ get_or_append_left rest (one ∷ []) d i (omega (arith, low, length-rest)) in
        subst (IsShareOf table (live_slice i [] ∷ [])) same (all.each i d (omega (arith, low, one_more)));
  }

-- ---- the threads'

-- the next thread's part is the first of those that are left
pub first_threads-next : (t n : ℕ) → t < n → first_threads t (n - t) ≡ resting_thread t 0 false [] None ∷ first_threads (t + 1) (n - (t + 1))
first_threads-next t n low =
    let more : n - t ≡ suc (n - (t + 1)) = omega (arith, low) in
    ap (first_threads t) more

module _ (table : TableId) (t n : ℕ) (share : ShareValue Part) (low : t < n) (is : IsShareOf table (first_threads t (n - t)) share) where
  threads_now : IsShareOf table (resting_thread t 0 false [] None ∷ first_threads (t + 1) (n - (t + 1))) share
  threads_now = subst (λ xs. IsShareOf table xs share) (first_threads-next t n low) is

  pub next_apart : AreApart (first_of share.parts) (rest_of share.parts)
  next_apart = share_apart table (first_threads t (n - t)) share is (AreNumbered-threads t (n - t))

  pub next_share : (one : ShareValue Part) → one.table ≡ share.table → one.parts ≡ first_of share.parts → IsShareOf table (resting_thread t 0 false [] None ∷ []) one
  next_share = first_share table (resting_thread t 0 false [] None) (first_threads (t + 1) (n - (t + 1))) share threads_now

  pub next_left : (left : ShareValue Part) → left.table ≡ share.table → left.parts ≡ rest_of share.parts → IsShareOf table (first_threads (t + 1) (n - (t + 1))) left
  next_left = rest_share table (resting_thread t 0 false [] None) (first_threads (t + 1) (n - (t + 1))) share threads_now

-- ---- a thread between two ops

-- by whether its phase is known to have begun
pub IsResting-known : (table : TableId) (t n : ℕ) (begun : Bool) (found : List ℕ) (given : Option GivenTag) (share : ShareValue Part) → IsShareOf table (resting_thread t n begun found given ∷ []) share → IsResting table t n (begun_in share.parts) share
IsResting-known table t n begun found given share is = record {
  found = found;
  given = given;
  is = subst (λ b. IsShareOf table (resting_thread t n b found given ∷ []) share) (sym (ap begun_in is.parts_are)) is;
}

-- ---- all of them

module _ (script : ScriptValue) (table : TableId) (share : ShareValue Part) (is : IsShareOf table (first script) share) where
  pub first_apart : AreApart (first_of share.parts) (rest_of share.parts)
  first_apart = share_apart table (first script) share is (AreNumbered-first script)

  pub history_share : (one : ShareValue Part) → one.table ≡ share.table → one.parts ≡ first_of share.parts → IsShareOf table (live_tree [] None ∷ []) one
  history_share = first_share table (live_tree [] None) (live_phase 0 0 ∷ parts_left script) share is

  -- after the tree's part is split off
  module _ (left : ShareValue Part) (same : left.table ≡ share.table) (rest : left.parts ≡ rest_of share.parts) where
    left_is : IsShareOf table (live_phase 0 0 ∷ parts_left script) left
    left_is = rest_share table (live_tree [] None) (live_phase 0 0 ∷ parts_left script) share is left same rest

    pub turn_apart : AreApart (first_of left.parts) (rest_of left.parts)
    turn_apart = share_apart table (live_phase 0 0 ∷ parts_left script) left left_is (AreNumbered-turn script)

    pub turn_share : (one : ShareValue Part) → one.table ≡ left.table → one.parts ≡ first_of left.parts → IsAtPhase script table 0 one
    turn_share = first_share table (live_phase 0 0) (parts_left script) left left_is

    -- and then the phase's
    module _ (others : ShareValue Part) (others_same : others.table ≡ left.table) (others_rest : others.parts ≡ rest_of left.parts) where
      others_are : IsShareOf table (parts_left script) others
      others_are = rest_share table (live_phase 0 0) (parts_left script) left left_is others others_same others_rest

      pub others_numbered : AreNumbered others.parts
      others_numbered = subst AreNumbered (sym others_are.parts_are) (AreNumbered-left script)

      pub others_fit : slice_count script.machine ≤ length others.parts
      others_fit = omega (arith, slices_fit (slice_count script.machine) (first_threads 0 (length (threads_of script))), ap length others_are.parts_are)

      -- and then the slices'
      module _ (n : ℕ) (count : n ≡ slice_count script.machine) (threads_left : ShareValue Part) (lists : List (ShareValue Part)) (split : AreSplit n others threads_left lists) where
        split_is : AreSplit (slice_count script.machine) others threads_left lists
        split_is = subst (λ m. AreSplit m others threads_left lists) count split

        pub lists_are : AreFirstShares table (slice_count script.machine) lists
        lists_are = AreFirstShares-split table (slice_count script.machine) (first_threads 0 (length (threads_of script))) others threads_left lists others_are split_is

        pub threads_are : IsShareOf table (first_threads 0 (length (threads_of script))) threads_left
        threads_are = share-left table (slice_count script.machine) (first_threads 0 (length (threads_of script))) others threads_left lists others_are split_is
