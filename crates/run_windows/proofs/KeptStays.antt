-- The exclusive groups of an epoch, and how long they stay so.
use Rattle.std.proofs.Common.{◌≡◌, ℕ, zero, suc, ◌+◌, ◌<◌, ◌≤◌, Bool, true, false, cond, eqb, List, [], ◌∷◌, length, map, filter, find, get_or, inl, inr, refl, Option, Some, None, sym, subst, ap, ◌∙◌, arith}
use Rattle.std.specs.Prelude.{IsSomeAnd}
use Rattle.std.specs.List.{All, AllPairs, Contains}
use Rattle.std.specs.Option.{option_map_or}
use Rattle.std.proofs.Math.ListN.{get_or-map}
use Rattle.std.proofs.lemmas.Bool.{cases_eq, cases_lt, eq-eqb, eqb-true, ne_eqb, true≢false}
use Rattle.std.proofs.lemmas.List.{length-map}
use Rattle.std.proofs.lemmas.List.Elements.{All-cons, All-map}
use Rattle.std.proofs.lemmas.List.Kept.{AllPairs-filter}
use Rattle.std.proofs.lemmas.Option.{slice_get-get_or, same_Some}
use Rattle.group_tree.specs.Records.{has_gid, has_mode, mask_in}
use Rattle.group_tree.specs.declared.group.Group.{Group}
use Rattle.lists.proofs.Pairs.{AllPairs-map}
use Rattle.lists.proofs.Tests.{All-from_find, find-found}
use Rattle.rc_base.specs.declared.names.Gid.{Gid}
use Rattle.rc_base.specs.declared.names.Mode.TheVariants.{Exclusive}
use Rattle.rc_base.specs.declared.replies.Reply.TheVariants as replies
use Rattle.run_law.proofs.laws.Pairs.{both_eqb-true}
use Rattle.run_law.specs.Journals.{At, JournalsValue}
use Rattle.run_law.specs.Runs.{IsRun}
use Rattle.run_law.specs.TreeHistory.{TreeEntryValue, tree_after}
use Rattle.run_windows.proofs.Epochs.{IsSound-state_at, state_at-suc}
use Rattle.run_windows.proofs.OneWindow.{mask-same}
use Rattle.run_windows.proofs.Owners.{IsSomeAnd-parts}
use Rattle.tree_law.proofs.laws.RisingGroups.{AreRisen, AreRisen-next, AreRisen-opening}
use Rattle.run_windows.specs.Epochs.{state_at}
use Rattle.run_windows.specs.Stays.{AreStays, is_same, mask_of, stay_of, exclusive_of, exclusive_in}
use Rattle.run_windows.specs.Windows.{IsExclusive, StaysExclusive}
use Rattle.private_lru.specs.declared.exclusive_span.ExclusiveSpan.{ExclusiveSpan}
use Rattle.run_windows.specs.declared.exclusive_group.ExclusiveGroup.{ExclusiveGroup}
use Rattle.script_ops.specs.Values.{IsLawful, ScriptValue}
use Rattle.tree_law.specs.Existing.{group_of}
use Rattle.tree_law.specs.State.{State}
use Rattle.run_law.proofs.laws.SoundHistories.{IsTaken-at}

-- the gids of these
abbrev pub gids : List ExclusiveSpan → List ℕ
gids stays = map (λ (s : ExclusiveSpan). s.gid.0) stays

-- and of these
abbrev exclusive_gids : List ExclusiveGroup → List ℕ
exclusive_gids exclusive = map (λ (t : ExclusiveGroup). t.gid.0) exclusive

-- they are the same with their last epochs
gids-stay_of : (domain last : ℕ) (next : List ExclusiveSpan) (exclusive : List ExclusiveGroup) → gids (map (stay_of domain last next) exclusive) ≡ exclusive_gids exclusive
gids-stay_of domain last next [] = refl
gids-stay_of domain last next (t ∷ ts) = ap (λ (xs : List ℕ). t.gid.0 ∷ xs) (gids-stay_of domain last next ts)

-- ---- the groups of an epoch

-- they rise
pub AreRisen-state_at : (script : ScriptValue) (j : JournalsValue) (k : ℕ) → IsLawful script → IsRun script j → k ≤ length j.tree → AreRisen (state_at script j k).groups
unfolding tree_after
AreRisen-state_at script j zero lawful run known = AreRisen-opening script.machine script.tasks
AreRisen-state_at script j (suc k) lawful run known =
    let there : At j.tree k (get_or j.tree k blank) = slice_get-get_or j.tree k blank (omega arith) in
    let h : TreeEntryValue = get_or j.tree k blank in
    let taken = IsTaken-at script j.tree k h run.tree_legal there in
    let one : suc k ≡ k + 1 = omega arith in
    subst (λ (s : State). AreRisen s.groups) (sym (ap (state_at script j) one ∙ state_at-suc script j k h taken.op there taken.is))
    (AreRisen-next script.machine (state_at script j k) taken.op h.looks (IsSound-state_at script j lawful run k (omega arith)).named.serial (AreRisen-state_at script j k lawful run (omega arith)))
  where
    blank : TreeEntryValue
    blank = record { thread = 0; op = 0; reply = replies.Ok; looks = [] }

-- ---- the exclusive ones

-- a group of the list is found by its gid
find-risen : (groups : List Group) (k : ℕ) (d : Group) → AreRisen groups → k < length groups → find (has_gid (get_or groups k d).gid) groups ≡ Some (get_or groups k d)
find-risen [] k d risen within = absurd (omega arith)
find-risen (g ∷ gs) zero d risen within = rw (eq-eqb g.gid.0 g.gid.0 refl) refl
find-risen (g ∷ gs) (suc k) d risen within =
    let lt = risen 0 (suc k) d (omega arith) within in
    let other : eqb (get_or gs k d).gid.0 g.gid.0 ≡ false = ne_eqb (get_or gs k d).gid.0 g.gid.0 (λ e. omega (arith, lt, e)) in
    rw other (find-risen gs k d (λ i j x below inside. risen (suc i) (suc j) x (omega arith) (omega arith)) (omega arith))

-- each exclusive one is listed
exclusive_in-all : (groups : List Group) (group : Gid) (g : Group) → find (has_gid group) groups ≡ Some g → has_mode Exclusive g ≡ true → Contains (exclusive_gids (exclusive_in groups)) group.0
exclusive_in-all [] group g found mode = absurd (let none : None ≡ Some g = found in cc)
exclusive_in-all (x ∷ xs) group g found mode = at (has_gid group x) (has_mode Exclusive x) refl refl found (λ e. exclusive_in-all xs group g e mode)
  where
    at : (b c : Bool) → has_gid group x ≡ b → has_mode Exclusive x ≡ c → cond b (Some x) (find (has_gid group) xs) ≡ Some g → (find (has_gid group) xs ≡ Some g → Contains (exclusive_gids (exclusive_in xs)) group.0)
        → Contains (exclusive_gids (map exclusive_of (cond c (x ∷ filter (has_mode Exclusive) xs) (filter (has_mode Exclusive) xs)))) group.0
    at true true own is e rest = (0, omega arith, sym (eqb-true group.0 x.gid.0 own))
    at true false own is e rest = absurd (true≢false (sym mode ∙ (ap (has_mode Exclusive) (same_Some g x (sym e)) ∙ is)))
    at false true other is e rest = let it = rest e in (suc it.0, omega (arith, it.1), it.2)
    at false false other is e rest = rest e

-- each that is listed is exclusive, with its mask
exclusive_in-each : (domain : ℕ) (groups all : List Group) → ((k : ℕ) (d : Group) → k < length groups → find (has_gid (get_or groups k d).gid) all ≡ Some (get_or groups k d))
    → All (λ (t : ExclusiveGroup). IsSomeAnd (find (has_gid t.gid) all) (λ g. (has_mode Exclusive g ≡ true) × (mask_in domain g ≡ mask_of domain t))) (exclusive_in groups)
exclusive_in-each domain [] all found = λ k d within. absurd (omega arith)
exclusive_in-each domain (x ∷ xs) all found = at (has_mode Exclusive x) refl (exclusive_in-each domain xs all (λ k d within. found (suc k) d (omega arith)))
  where
    Is : ExclusiveGroup → Type 0
    Is t = IsSomeAnd (find (has_gid t.gid) all) (λ g. (has_mode Exclusive g ≡ true) × (mask_in domain g ≡ mask_of domain t))

    at : (b : Bool) → has_mode Exclusive x ≡ b → All Is (exclusive_in xs) → All Is (map exclusive_of (cond b (x ∷ filter (has_mode Exclusive) xs) (filter (has_mode Exclusive) xs)))
    at true is rest = All-cons Is (exclusive_of x) (exclusive_in xs) (subst (λ (o : Option Group). IsSomeAnd o (λ g. (has_mode Exclusive g ≡ true) × (mask_in domain g ≡ mask_in domain x))) (sym (found 0 x (omega arith))) (is, refl)) rest
    at false is rest = rest

-- their gids rise
exclusive_in-rising : (groups : List Group) → AreRisen groups → AllPairs (λ (a b : ℕ). a < b) (exclusive_gids (exclusive_in groups))
exclusive_in-rising groups risen =
    AllPairs-map (λ (a b : ℕ). a < b) (λ (t : ExclusiveGroup). t.gid.0) (exclusive_in groups)
    (AllPairs-map (λ (a b : ExclusiveGroup). a.gid.0 < b.gid.0) exclusive_of (filter (has_mode Exclusive) groups) (AllPairs-filter (λ (a b : Group). a.gid.0 < b.gid.0) (has_mode Exclusive) groups risen))

-- ---- how long they stay so

module _ (script : ScriptValue) (j : JournalsValue) (lawful : IsLawful script) (run : IsRun script j) (domain : ℕ) where
  -- those of an epoch
  abbrev pub exclusive_at : ℕ → List ExclusiveGroup
  exclusive_at k = exclusive_in (state_at script j k).groups

  -- a group is exclusive on a mask at an epoch
  abbrev IsAt : ℕ → ExclusiveGroup → Type 0
  IsAt k t = IsExclusive domain t.gid (mask_of domain t) (state_at script j k)

  exclusive_at-each : (k : ℕ) → k ≤ length j.tree → All (IsAt k) (exclusive_at k)
  exclusive_at-each k known =
      let groups : List Group = (state_at script j k).groups in
      exclusive_in-each domain groups groups (λ i d within. find-risen groups i d (AreRisen-state_at script j k lawful run known) within)

  exclusive_at-all : (k : ℕ) (group : Gid) (mask : ℕ) → IsExclusive domain group mask (state_at script j k) → Contains (exclusive_gids (exclusive_at k)) group.0
  exclusive_at-all k group mask is =
      let x = IsSomeAnd-parts (λ (g : Group). (has_mode Exclusive g ≡ true) × (mask_in domain g ≡ mask)) (group_of (state_at script j k) group) is in
      exclusive_in-all (state_at script j k).groups group x.0 x.1 x.2.0

  -- the group of a stay of the next change, where it has the same mask
  StaysExclusive-same : (end : ℕ) (next : List ExclusiveSpan) (t : ExclusiveGroup) (later : ExclusiveSpan) → AreStays script j domain end next → find (is_same domain t) next ≡ Some later → StaysExclusive script j domain t.gid (mask_of domain t) end later.last
  StaysExclusive-same end next t later after found =
      let f = find-found (is_same domain t) next later found in
      let same = both_eqb-true later.gid.0 t.gid.0 later.mask (mask_of domain t) f.passes in
      let its : StaysExclusive script j domain later.gid later.mask end later.last = subst (λ (x : ExclusiveSpan). StaysExclusive script j domain x.gid x.mask end x.last) (f.at later) (after.each f.place later f.within) in
      subst (λ n. StaysExclusive script j domain (record { 0 = n }) (mask_of domain t) end later.last) same.0 (subst (λ n. StaysExclusive script j domain later.gid n end later.last) same.1 its)

  -- a group that none of the next change's stays has with the same mask is not exclusive on it then
  IsExclusive-other : (end : ℕ) (next : List ExclusiveSpan) (t : ExclusiveGroup) → AreStays script j domain end next → find (is_same domain t) next ≡ None → IsAt end t → ⊥
  IsExclusive-other end next t after none here =
      let there = after.all t.gid (mask_of domain t) here in
      let d : ExclusiveSpan = record { last = 0; gid = t.gid; mask = mask_of domain t } in
      let within : there.0 < length next = omega (arith, there.1, length-map next (λ (x : ExclusiveSpan). x.gid.0)) in
      let x : ExclusiveSpan = get_or next there.0 d in
      let gid : x.gid.0 ≡ t.gid.0 = sym (get_or-map (λ (y : ExclusiveSpan). y.gid.0) next there.0 d) ∙ there.2 in
      let its_own = after.each there.0 d within in
      let begins = its_own.from_first in
      let exclusive : IsExclusive domain x.gid x.mask (state_at script j end) = its_own.always end (omega arith) begins in
      let mask : x.mask ≡ mask_of domain t = mask-same (state_at script j end) domain t.gid x.mask (mask_of domain t) (subst (λ n. IsExclusive domain (record { 0 = n }) x.mask (state_at script j end)) gid exclusive) here in
      let passes : is_same domain t x ≡ true = rw (eq-eqb x.gid.0 t.gid.0 gid, eq-eqb x.mask (mask_of domain t) mask) refl in
      true≢false (sym passes ∙ All-from_find (is_same domain t) next none there.0 d within)

  -- The exclusive groups from a change up to the next one, or to the end of the run: each with the last epoch that those of the
  -- next one tell, or else with the last epoch before it.
  module _ (from end last : ℕ) (exclusive : List ExclusiveGroup) (next : List ExclusiveSpan) (ends : last + 1 ≡ end) (known : end ≤ length j.tree + 1)
      (same : (k : ℕ) → from ≤ k → k < end → exclusive ≡ exclusive_at k) (after : end ≤ length j.tree → AreStays script j domain end next) (past : end ≡ length j.tree + 1 → next ≡ []) where
    -- one of them
    StaysExclusive-last : (t : ExclusiveGroup) → ((k : ℕ) → from ≤ k → k < end → IsAt k t) → (k : ℕ) → from ≤ k → k < end → (o : Option ExclusiveSpan) → find (is_same domain t) next ≡ o
        → StaysExclusive script j domain t.gid (mask_of domain t) k (option_map_or (λ (later : ExclusiveSpan). later.last) o last)
    StaysExclusive-last t always k low high (Some later) found =
        let more : end ≤ length j.tree = elim (cases_eq (length j.tree + 1) end) [
          | inl all ↦ absurd (let none : None ≡ Some later = sym (ap (find (is_same domain t)) (past (sym all))) ∙ found in cc)
          | inr less ↦ omega (arith, less, known)
        ] in
        let ours = StaysExclusive-same end next t later (after more) found in
        let begins = ours.from_first in
        record {
          from_first = omega (arith, begins, high);
          to_last = ours.to_last;
          always = λ e first most. elim (cases_lt e end) [
            | inl lt ↦ always e (omega (arith, low, first)) lt
            | inr ge ↦ ours.always e ge most
          ];
          no_longer = ours.no_longer;
        }
    StaysExclusive-last t always k low high None none = record {
      from_first = omega (arith, ends, high);
      to_last = omega (arith, ends, known);
      always = λ e first most. always e (omega (arith, low, first)) (omega (arith, most, ends));
      no_longer = λ less its. IsExclusive-other end next t (after (omega (arith, less, ends))) none (subst (λ e. IsAt e t) ends its);
    }

    -- all of them
    pub AreStays-span : (k : ℕ) → from ≤ k → k < end → AreStays script j domain k (map (stay_of domain last next) exclusive)
    AreStays-span k low high = record {
      each = All-map (λ (s : ExclusiveSpan). StaysExclusive script j domain s.gid s.mask k s.last) (stay_of domain last next) exclusive (λ i d within.
          let t : ExclusiveGroup = get_or exclusive i d in
          StaysExclusive-last t (λ e first lt. subst (λ (l : List ExclusiveGroup). All (IsAt e) l) (sym (same e first lt)) (exclusive_at-each e (omega (arith, lt, known))) i d within) k low high (find (is_same domain t) next) refl);
      all = λ group mask is. subst (λ (l : List ℕ). Contains l group.0) (sym (gids-stay_of domain last next exclusive ∙ ap exclusive_gids (same k low high))) (exclusive_at-all k group mask is);
      rising = subst (λ (l : List ℕ). AllPairs (λ (a b : ℕ). a < b) l) (sym (gids-stay_of domain last next exclusive ∙ ap exclusive_gids (same k low high)))
          (exclusive_in-rising (state_at script j k).groups (AreRisen-state_at script j k lawful run (omega (arith, high, known))));
    }
