-- What somebody has seen of the journals, when it grows by nothing of a thread: all that is of the thread stood there.
use Rattle.std.proofs.Common.{◌≡◌, ℕ, false, refl}
use Rattle.std.proofs.lemmas.Bool.{eq-eqb}
use Rattle.cache_core.specs.declared.entry.SliceEntry.{SliceEntry}
use Rattle.run_law.specs.Journals.{At, JournalsValue, slice_at}
use Rattle.run_law.specs.Order.{HasMarks, IsMadeAt, IsTakenAt}
use Rattle.run_law.specs.TreeHistory.{TreeEntryValue}
use Rattle.run_law.specs.Truth.{is_made_by, is_taken_from}
use Rattle.run_law.proofs.laws.OpKinds.{by_kind}
use Rattle.run_law.proofs.laws.Pairs.{both_eqb-true}
use Rattle.script_ops.specs.declared.op.Op.{Op}
use Rattle.live_law.specs.SeenJournals.{AddsEntry, HasGrown, SeesMore, is_by, is_from, made_in, taken_in}
use Rattle.live_law.proofs.laws.Prefixes.{At-no_more, IsPrefix-no_more, NoMore-self, NoMore-through, filter-no_more}
use Rattle.seen_journal.proofs.laws.Prefixes.{IsPrefix-self, IsPrefix-through}

-- ---- growth

-- what was seen has grown into itself
pub HasGrown-self : (v : JournalsValue) → HasGrown v v
HasGrown-self v = record { tree = IsPrefix-self v.tree; slices = λ i. IsPrefix-self (slice_at v i) }

-- it grows step by step
pub HasGrown-through : (u v w : JournalsValue) → HasGrown u v → HasGrown v w → HasGrown u w
HasGrown-through u v w a b = record {
  tree = IsPrefix-through u.tree v.tree w.tree a.tree b.tree;
  slices = λ i. IsPrefix-through (slice_at u i) (slice_at v i) (slice_at w i) (a.slices i) (b.slices i);
}

-- where a thread sees more, what it has seen has grown
pub HasGrown-more : (t : ℕ) (v w : JournalsValue) → SeesMore t v w → HasGrown v w
HasGrown-more t v w more = record {
  tree = IsPrefix-no_more (is_from t) v.tree w.tree more.tree;
  slices = λ i. IsPrefix-no_more (is_by t) (slice_at v i) (slice_at w i) (more.slices i);
}

-- a thread may see no more
pub SeesMore-self : (t : ℕ) (v : JournalsValue) → SeesMore t v v
SeesMore-self t v = record { tree = NoMore-self (is_from t) v.tree; slices = λ i. NoMore-self (is_by t) (slice_at v i) }

-- it sees more step by step
pub SeesMore-through : (t : ℕ) (u v w : JournalsValue) → SeesMore t u v → SeesMore t v w → SeesMore t u w
SeesMore-through t u v w a b = record {
  tree = NoMore-through (is_from t) u.tree v.tree w.tree a.tree b.tree;
  slices = λ i. NoMore-through (is_by t) (slice_at u i) (slice_at v i) (slice_at w i) (a.slices i) (b.slices i);
}

-- an entry that it adds after it has seen more it adds to what it had seen before
pub AddsEntry-through : (t i : ℕ) (e : SliceEntry) (v m w : JournalsValue) → SeesMore t v m → AddsEntry t i e m w → AddsEntry t i e v w
AddsEntry-through t i e v m w more adds = record {
  tree = NoMore-through (is_from t) v.tree m.tree w.tree more.tree adds.tree;
  list = adds.list;
  sees = NoMore-through (is_by t) (slice_at v i) (slice_at m i) adds.list (more.slices i) adds.sees;
  adds = adds.adds;
  within = adds.within;
  others = λ k apart. NoMore-through (is_by t) (slice_at v k) (slice_at m k) (slice_at w k) (more.slices k) (adds.others k apart);
}

-- ---- what is of the thread

-- an entry of another thread is of none of its ops
is_made_by-other : (t op : ℕ) (e : SliceEntry) → is_by t e ≡ false → is_made_by t op e ≡ false
is_made_by-other t op e other = rw other refl

-- nor is a command of another thread
is_taken_from-other : (t op : ℕ) (h : TreeEntryValue) → is_from t h ≡ false → is_taken_from t op h ≡ false
is_taken_from-other t op h other = rw other refl

module _ (t : ℕ) (v w : JournalsValue) where
  -- its entries stood there
  pub At-own_entry : (i p : ℕ) (e : SliceEntry) → SeesMore t v w → At (slice_at w i) p e → e.thread ≡ t → At (slice_at v i) p e
  At-own_entry i p e more at mine = At-no_more (is_by t) (slice_at v i) (slice_at w i) p e (more.slices i) at (eq-eqb e.thread t mine)

  -- so did its commands
  pub At-own_command : (k : ℕ) (h : TreeEntryValue) → SeesMore t v w → At w.tree k h → h.thread ≡ t → At v.tree k h
  At-own_command k h more at mine = At-no_more (is_from t) v.tree w.tree k h more.tree at (eq-eqb h.thread t mine)

-- the entries of one of its ops are those of before
pub made_in-more : (t op : ℕ) (v w : JournalsValue) (i : ℕ) → SeesMore t v w → made_in w i t op ≡ made_in v i t op
made_in-more t op v w i more =
    filter-no_more (is_by t) (is_made_by t op) (slice_at v i) (slice_at w i) (more.slices i) (λ e other. is_made_by-other t op e other)

-- so are its commands
pub taken_in-more : (t op : ℕ) (v w : JournalsValue) → SeesMore t v w → taken_in w t op ≡ taken_in v t op
taken_in-more t op v w more =
    filter-no_more (is_from t) (is_taken_from t op) v.tree w.tree more.tree (λ h other. is_taken_from-other t op h other)

-- and its marks
pub HasMarks-more : (t op start stop : ℕ) (c : Op) (v w : JournalsValue)
    → SeesMore t v w → HasMarks w t op c start stop
    → HasMarks v t op c start stop
HasMarks-more t op start stop c v w more marks =
    by_kind (λ task cpu addr. IsMadeAt w t op start stop) (λ task cpu addr. IsMadeAt v t op start stop) (IsTakenAt w t op start stop)
    (IsTakenAt v t op start stop) c
    (λ task cpu addr made.
    let (i, p, e, there, mine, epoch, same) = made in
    let is = both_eqb-true e.thread t e.op op mine in
    (i, p, e, At-own_entry t v w i p e more there is.0, mine, epoch, same))
    (λ taken.
    let (h, there, mine, same) = taken in
    let is = both_eqb-true h.thread t h.op op mine in
    (h, At-own_command t v w start h more there is.0, mine, same))
    marks
