-- When all threads are at their ends, the journals are a run.
use Rattle.std.proofs.Common.{◌≡◌, ℕ, ◌<◌, ◌≤◌, inl, inr, length, Option, Some, None, refl, sym, subst, arith}
use Rattle.std.specs.Prelude.{IsSome}
use Rattle.std.proofs.lemmas.Option.{slice_get_within}
use Rattle.cache_core.specs.declared.entry.SliceEntry.{SliceEntry}
use Rattle.run_law.specs.Journals.{At, JournalsValue, slice_at}
use Rattle.run_law.specs.Ops.{Precedes, phase_in}
use Rattle.run_law.specs.Order.{HasMarks}
use Rattle.run_law.specs.Runs.{IsRun}
use Rattle.run_law.proofs.laws.Truth.{AreTrue-each}
use Rattle.script_ops.specs.Values.{ScriptValue, op_at, ops_of}
use Rattle.script_ops.specs.declared.op.Op.{Op}
use Rattle.live_law.specs.DoneOps.{HasDone}
use Rattle.live_law.specs.Ends.{AllAtEnd}
use Rattle.live_law.specs.Passes.{PassesKeep}
use Rattle.live_law.specs.SeenJournals.{HasGrown, SeesMore}
use Rattle.live_law.proofs.laws.EndedThreads.{At-ended_entry, HasMarks-ended}
use Rattle.live_law.proofs.laws.OwnMarks.{HasMarks-after, HasMarks-within}
use Rattle.live_law.proofs.laws.SeenJournals.{At-own_entry, HasGrown-more, HasGrown-through, HasMarks-more}
use Rattle.live_law.proofs.laws.TrueEntries.{IsTrueTo-entry, after-commands, all_done, command-once, op-within, op_count, slice-there, stands-at, thread-within}
use Rattle.seen_journal.proofs.laws.Prefixes.{length-prefix}

-- nothing is there
IsSome-none : IsSome {T = Op} None → ⊥
IsSome-none some = cc

-- What is known of a thread t, which has seen all of its own, and of a thread u of an earlier phase, which had ended at t's start.
record IsEarlier (script : ScriptValue) (j : JournalsValue) (u t : ℕ) : Type 0 where
  v : JournalsValue
  keeps : PassesKeep script t (length (ops_of script t)) v
  more : SeesMore t v j
  w : JournalsValue
  began : HasGrown w keeps.start
  done : HasDone script w u (length (ops_of script u))

module _ (script : ScriptValue) (j : JournalsValue) (all : AllAtEnd script j) where
  -- ---- ops in order

  -- an op of a thread, and a thread of an earlier phase
  IsEarlier-op : (u t op : ℕ) (c : Op)
      → op_at script t op ≡ Some c → phase_in script.phases u < phase_in script.phases t
      → IsEarlier script j u t
  IsEarlier-op u t op c is earlier =
      let (v, keeps, more) = all.passes t (thread-within script t op c is) in
      let within = op-within script t op c is in
      let (w, began, done) = keeps.ended (omega (arith, within)) u earlier in
      record { v = v; keeps = keeps; more = more; w = w; began = began; done = done }

  -- what the earlier thread had seen has grown into the journals
  HasGrown-earlier : (u t : ℕ) (its : IsEarlier script j u t) → HasGrown its.w j
  HasGrown-earlier u t its =
      HasGrown-through its.w its.v j (HasGrown-through its.w its.keeps.start its.v its.began its.keeps.keeps.begins)
      (HasGrown-more t its.v j its.more)

  -- ops of earlier phases happened before
  marks-across : (u op t later_op from to later_from later_to : ℕ) (c later : Op)
      → op_at script u op ≡ Some c → op_at script t later_op ≡ Some later → phase_in script.phases u < phase_in script.phases t
      → HasMarks j u op c from to → HasMarks j t later_op later later_from later_to
      → to ≤ later_from
  marks-across u op t later_op from to later_from later_to c later is_c is_later earlier first second =
      let its : IsEarlier script j u t = IsEarlier-op u t later_op later is_later earlier in
      let n : ℕ = op_count script u in
      let had : HasMarks its.w u op c from to =
      HasMarks-ended script its.w j u n (HasGrown-earlier u t its) its.done (all_done script j all u (thread-within script u op c is_c))
      op from to c all.count is_c (op-within script u op c is_c) first in
      let mine : HasMarks its.v t later_op later later_from later_to =
      HasMarks-more t later_op later_from later_to later its.v j its.more second in
      omega (
        arith,
        HasMarks-within script u n op from to c its.w its.done is_c had,
        length-prefix its.w.tree its.keeps.start.tree its.began.tree,
        HasMarks-after t later_op later_from later_to later its.keeps.start its.v its.keeps.keeps.after mine,
      )

  -- ops of one thread happened in their turn
  marks-along : (t op later_op from to later_from later_to : ℕ) (c later : Op)
      → op_at script t op ≡ Some c → op_at script t later_op ≡ Some later → op < later_op
      → HasMarks j t op c from to → HasMarks j t later_op later later_from later_to
      → to ≤ later_from
  marks-along t op later_op from to later_from later_to c later is_c is_later less first second =
      let (v, keeps, more) = all.passes t (thread-within script t op c is_c) in
      keeps.keeps.in_turn.marks op later_op from to later_from later_to c later is_c is_later less
      (HasMarks-more t op from to c v j more first) (HasMarks-more t later_op later_from later_to later v j more second)

  -- so ops that come before others happened before them
  marks-all : (t op u later_op from to later_from later_to : ℕ) (c later : Op)
      → op_at script t op ≡ Some c → op_at script u later_op ≡ Some later → Precedes script t op u later_op
      → HasMarks j t op c from to → HasMarks j u later_op later later_from later_to
      → to ≤ later_from
  marks-all t op u later_op from to later_from later_to c later is_c is_later (inl same) first second =
      marks-along t op later_op from to later_from later_to c later is_c
      (subst (λ x. op_at script x later_op ≡ Some later) (sym same.0) is_later) same.1 first
      (subst (λ x. HasMarks j x later_op later later_from later_to) (sym same.0) second)
  marks-all t op u later_op from to later_from later_to c later is_c is_later (inr earlier) first second =
      marks-across t op u later_op from to later_from later_to c later is_c is_later earlier first second

  -- ---- entries in order

  -- an entry is of an op of the script
  op-there : (i p : ℕ) (e : SliceEntry) → At (slice_at j i) p e → (c : Op) × (op_at script e.thread e.op ≡ Some c)
  op-there i p e at = of (op_at script e.thread e.op) refl (stands-at script j all i p e at).known
    where
      of : (o : Option Op) → op_at script e.thread e.op ≡ o → IsSome (op_at script e.thread e.op)
          → (c : Op) × (op_at script e.thread e.op ≡ Some c)
      of None is some = absurd (IsSome-none (subst (λ x. IsSome x) is some))
      of (Some c) is some = (c, is)

  -- entries of earlier phases stand before
  entries-across : (i p q : ℕ) (e later : SliceEntry)
      → At (slice_at j i) p e → At (slice_at j i) q later → phase_in script.phases e.thread < phase_in script.phases later.thread
      → p < q
  entries-across i p q e later at there earlier =
      let t : ℕ = later.thread in
      let u : ℕ = e.thread in
      let (c, is_c) = op-there i p e at in
      let (d, is_d) = op-there i q later there in
      let its : IsEarlier script j u t = IsEarlier-op u t later.op d is_d earlier in
      let old : At (slice_at its.w i) p e =
      At-ended_entry script its.w j u (op_count script u) (HasGrown-earlier u t its) its.done
      (all_done script j all u (thread-within script u e.op c is_c)) i p e c
      (slice-there script j all i p e at) at refl is_c (op-within script u e.op c is_c) in
      omega (
        arith,
        slice_get_within (slice_at its.w i) p e old,
        length-prefix (slice_at its.w i) (slice_at its.keeps.start i) (its.began.slices i),
        its.keeps.keeps.after.entries i q later (At-own_entry t its.v j i q later its.more there refl) refl,
      )

  -- those of one thread stand in their turn
  entries-along : (i p q : ℕ) (e later : SliceEntry)
      → At (slice_at j i) p e → At (slice_at j i) q later → e.thread ≡ later.thread → e.op < later.op
      → p < q
  entries-along i p q e later at there same less =
      let t : ℕ = later.thread in
      let (d, is_d) = op-there i q later there in
      let (v, keeps, more) = all.passes t (thread-within script t later.op d is_d) in
      keeps.keeps.in_turn.entries i p q e later (At-own_entry t v j i p e more at same)
      (At-own_entry t v j i q later more there refl) same refl less

  -- so entries of ops that come before others stand before theirs
  entries-all : (i p q : ℕ) (e later : SliceEntry)
      → At (slice_at j i) p e → At (slice_at j i) q later → Precedes script e.thread e.op later.thread later.op
      → p < q
  entries-all i p q e later at there (inl same) = entries-along i p q e later at there same.0 same.1
  entries-all i p q e later at there (inr earlier) = entries-across i p q e later at there earlier

  -- ---- a run

  -- the journals are one
  pub IsRun-at_end : IsRun script j
  IsRun-at_end = record {
    all_slices = all.count;
    tree_legal = all.tree.legal;
    slices_legal = λ i within. (all.slices i within).legal;
    entries_true = AreTrue-each script j (IsTrueTo-entry script j all) (after-commands script j all);
    looks_matched = all.tree.matched;
    in_order = record {
      commands_once = command-once script j all;
      entries_once = λ i t op c within is.
          (all_done script j all t (thread-within script t op c is)).entries_once i op c within (op-within script t op c is) is;
      no_others = λ i p e at. (stands-at script j all i p e at).known;
      marks = marks-all;
      entries_in_order = entries-all;
    };
  }
