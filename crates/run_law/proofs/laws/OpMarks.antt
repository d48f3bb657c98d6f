-- Ops that come before others happened before them, also with one entry more.
use Rattle.std.proofs.Common.{◌≡◌, ℕ, ◌<◌, ◌≤◌, ◌⊎◌, inl, inr, List, length, Option, Some, None, sym, ap, ◌∙◌, subst, arith}
use Rattle.std.specs.Prelude.{IsSome}
use Rattle.std.proofs.lemmas.Option.{slice_get_within}
use Rattle.cache_core.specs.declared.entry.SliceEntry.{SliceEntry}
use Rattle.run_law.specs.Ops.{Precedes, phase_in}
use Rattle.run_law.specs.Journals.{At, JournalsValue, slice_at}
use Rattle.run_law.specs.Order.{HasMarks, IsMadeAt, IsTakenAt}
use Rattle.script_ops.specs.Values.{ScriptValue, op_at}
use Rattle.script_ops.specs.declared.op.Op.{Op}
use Rattle.run_law.proofs.laws.OpKinds.{from_kind}
use Rattle.run_law.proofs.laws.Pairs.{both_eqb-true}
use Rattle.run_law.proofs.laws.GrownLists.{Adds, StoodIn, stood, with_slices}
use Rattle.run_law.specs.Progress.{HasBegun, Progress}
use Rattle.run_law.specs.Growth.{AreInPhase, AreOfBegun, EntriesInOrder, IsBehindAll, MarksInOrder}

-- no op comes before itself
pub not_itself : (script : ScriptValue) (t n : ℕ) → Precedes script t n t n → ⊥
not_itself script t n (inl same) = omega (arith, same.1)
not_itself script t n (inr earlier) = omega (arith, earlier)

-- nothing is there
pub not_some : (o : Option ℕ) → o ≡ None → IsSome o → ⊥
not_some None e h = absurd cc
not_some (Some x) e h = absurd cc

-- nothing has begun at first
not_begun : (p : Progress) (o : ℕ) → p ≡ (record { next = 0; made = None; tag = None }) → HasBegun p o → ⊥
not_begun p o is (inl less) = omega (arith, less, ap (λ (q : Progress). q.next) is)
not_begun p o is (inr under) = not_some p.made (ap (λ (q : Progress). q.made) is) under.1

-- no later op of a thread has begun
begun_no_later : (p : Progress) (n o : ℕ) → n ≡ p.next → n < o → HasBegun p o → ⊥
begun_no_later p n o is later (inl less) = omega (arith, is, less, later)
begun_no_later p n o is later (inr under) = omega (arith, is, later, under.0)

-- of what comes after the next op of a thread of the present phase, nothing has begun
pub nothing_later : (script : ScriptValue) (at : ℕ → Progress) (phase t n u o : ℕ) → AreInPhase script at phase → phase_in script.phases t ≡ phase → n ≡ (at t).next
    → Precedes script t n u o → HasBegun (at u) o → ⊥
nothing_later script at phase t n u o phases here is (inl same) begun = begun_no_later (at u) n o (is ∙ ap (λ v. (at v).next) same.0) same.1 begun
nothing_later script at phase t n u o phases here is (inr later) begun = not_begun (at u) o (phases.later u (omega (arith, later, here))) begun

-- ---- entries

-- the old entries, or the new one
entries_cases : (script : ScriptValue) (j : JournalsValue) (i0 : ℕ) (e0 : SliceEntry) → EntriesInOrder script j
    → ((i p : ℕ) (x : SliceEntry) → At (slice_at j i) p x → Precedes script e0.thread e0.op x.thread x.op → ⊥)
    → (i p q : ℕ) (e later : SliceEntry) → StoodIn j i0 e0 i p e → StoodIn j i0 e0 i q later → Precedes script e.thread e.op later.thread later.op → p < q
entries_cases script j i0 e0 order last i p q e later (inl here) (inl there) before = order i p q e later here there before
entries_cases script j i0 e0 order last i p q e later (inl here) (inr there) before = let within = slice_get_within (slice_at j i) p e here in omega (arith, within, there.1)
entries_cases script j i0 e0 order last i p q e later (inr here) (inl there) before =
    absurd (last i q later there (subst (λ (x : SliceEntry). Precedes script x.thread x.op later.thread later.op) here.2 before))
entries_cases script j i0 e0 order last i p q e later (inr here) (inr there) before =
    absurd (not_itself script later.thread later.op (subst (λ (x : SliceEntry). Precedes script x.thread x.op later.thread later.op) (here.2 ∙ sym there.2) before))

-- an entry more, of an op after which nothing has begun
pub entries_entry : (script : ScriptValue) (j : JournalsValue) (slices : List (List SliceEntry)) (i : ℕ) (e : SliceEntry) → Adds j slices i e → EntriesInOrder script j
    → ((k p : ℕ) (x : SliceEntry) → At (slice_at j k) p x → Precedes script e.thread e.op x.thread x.op → ⊥)
    → EntriesInOrder script (with_slices j slices)
entries_entry script j slices i0 e0 adds order last i p q e later at there before =
    entries_cases script j i0 e0 order last i p q e later (stood j slices i0 e0 adds i p e at) (stood j slices i0 e0 adds i q later there) before

-- ---- marks

-- these are the marks of an op, and it had them before, or it is this op with these marks
abbrev pub HadMarks : JournalsValue → ℕ → ℕ → ℕ → ℕ → ℕ → ℕ → Op → ℕ → ℕ → Type 0
HadMarks j t n from to u o c start stop = HasMarks j u o c start stop ⊎ ((u ≡ t) × (o ≡ n) × (start ≡ from) × (stop ≡ to))

-- every mark now was there before, or is of this op
abbrev pub AllHad : ScriptValue → JournalsValue → JournalsValue → ℕ → ℕ → ℕ → ℕ → Type 0
AllHad script j now t n from to = (u o start stop : ℕ) (c : Op) → op_at script u o ≡ Some c → HasMarks now u o c start stop → HadMarks j t n from to u o c start stop

-- no mark is of an op that comes after this one
abbrev pub NoMarksLater : ScriptValue → JournalsValue → ℕ → ℕ → Type 0
NoMarksLater script j t n = (u o start stop : ℕ) (c : Op) → op_at script u o ≡ Some c → Precedes script t n u o → HasMarks j u o c start stop → ⊥

-- the old marks, or the new ones
marks_cases : (script : ScriptValue) (j : JournalsValue) (t n from to : ℕ) → MarksInOrder script j → IsBehindAll script j t n from → NoMarksLater script j t n
    → (u o v l start stop later_start later_stop : ℕ) (c later : Op) → op_at script u o ≡ Some c → op_at script v l ≡ Some later → Precedes script u o v l
    → HadMarks j t n from to u o c start stop → HadMarks j t n from to v l later later_start later_stop → stop ≤ later_start
marks_cases script j t n from to order behind none u o v l start stop later_start later_stop c later is_c is_later before (inl here) (inl there) =
    order u o v l start stop later_start later_stop c later is_c is_later before here there
marks_cases script j t n from to order behind none u o v l start stop later_start later_stop c later is_c is_later before (inl here) (inr there) =
    let its : Precedes script u o t n = subst (λ x. Precedes script u o x n) there.0 (subst (λ x. Precedes script u o v x) there.1 before) in
    let ended = behind u o start stop c is_c its here in
    omega (arith, ended, there.2)
marks_cases script j t n from to order behind none u o v l start stop later_start later_stop c later is_c is_later before (inr here) (inl there) =
    let its : Precedes script t n v l = subst (λ x. Precedes script x n v l) here.0 (subst (λ x. Precedes script u x v l) here.1 before) in
    absurd (none v l later_start later_stop later is_later its there)
marks_cases script j t n from to order behind none u o v l start stop later_start later_stop c later is_c is_later before (inr here) (inr there) =
    let left : Precedes script t n v l = subst (λ x. Precedes script x n v l) here.0 (subst (λ x. Precedes script u x v l) here.1 before) in
    absurd (not_itself script t n (subst (λ x. Precedes script t n x n) there.0 (subst (λ x. Precedes script t n v x) there.1 left)))

-- with an op more that has marks
pub marks_more : (script : ScriptValue) (j now : JournalsValue) (t n from to : ℕ) → AllHad script j now t n from to → MarksInOrder script j → IsBehindAll script j t n from → NoMarksLater script j t n
    → MarksInOrder script now
marks_more script j now t n from to had order behind none u o v l start stop later_start later_stop c later is_c is_later before marks later_marks =
    marks_cases script j t n from to order behind none u o v l start stop later_start later_stop c later is_c is_later before
    (had u o start stop c is_c marks) (had v l later_start later_stop later is_later later_marks)

-- an op that has not got further stays after all that come before it
behind_cases : (script : ScriptValue) (j : JournalsValue) (t n from to v l epoch start stop u o : ℕ) (c : Op) → (Precedes script t n v l → ⊥) → IsBehindAll script j v l epoch
    → op_at script u o ≡ Some c → Precedes script u o v l → HadMarks j t n from to u o c start stop → stop ≤ epoch
behind_cases script j t n from to v l epoch start stop u o c apart behind is before (inl here) = behind u o start stop c is before here
behind_cases script j t n from to v l epoch start stop u o c apart behind is before (inr here) =
    absurd (apart (subst (λ x. Precedes script x n v l) here.0 (subst (λ x. Precedes script u x v l) here.1 before)))

-- an op is still after all that come before it
pub still_behind : (script : ScriptValue) (j now : JournalsValue) (t n from to v l epoch : ℕ) → AllHad script j now t n from to → (Precedes script t n v l → ⊥)
    → IsBehindAll script j v l epoch → IsBehindAll script now v l epoch
still_behind script j now t n from to v l epoch had apart behind u o start stop c is before marks =
    behind_cases script j t n from to v l epoch start stop u o c apart behind is before (had u o start stop c is marks)

-- ---- whose marks there are

-- marks are of ops that have begun
pub marks_begun : (script : ScriptValue) (j : JournalsValue) (at : ℕ → Progress) (u o start stop : ℕ) (c : Op) → AreOfBegun j at → HasMarks j u o c start stop → HasBegun (at u) o
marks_begun script j at u o start stop c begun marks =
    from_kind (λ task cpu addr. IsMadeAt j u o start stop) (IsTakenAt j u o start stop) (HasBegun (at u) o) c
    (λ task cpu addr made.
    let (i, p, e, there, mine, epoch, same) = made in
    let is = both_eqb-true e.thread u e.op o mine in
    subst (λ x. HasBegun (at x) o) is.0 (subst (λ x. HasBegun (at e.thread) x) is.1 (begun.entries i p e there)))
    (λ taken.
    let (h, there, mine, same) = taken in
    let is = both_eqb-true h.thread u h.op o mine in
    subst (λ x. HasBegun (at x) o) is.0 (subst (λ x. HasBegun (at h.thread) x) is.1 (begun.commands start h there)))
    marks

-- no mark is after the tree's history
pub marks_within : (script : ScriptValue) (j : JournalsValue) (at : ℕ → Progress) (u o start stop : ℕ) (c : Op) → AreOfBegun j at → HasMarks j u o c start stop → stop ≤ length j.tree
marks_within script j at u o start stop c begun marks =
    from_kind (λ task cpu addr. IsMadeAt j u o start stop) (IsTakenAt j u o start stop) (stop ≤ length j.tree) c
    (λ task cpu addr made. let (i, p, e, there, mine, epoch, same) = made in let early = begun.epochs i p e there in omega (arith, early, epoch, same))
    (λ taken. let (h, there, mine, same) = taken in let early = slice_get_within j.tree start h there in omega (arith, early, same))
    marks

-- so there are none after the next op of a thread of the present phase
pub no_marks_later : (script : ScriptValue) (j : JournalsValue) (at : ℕ → Progress) (phase t n : ℕ) → AreInPhase script at phase → AreOfBegun j at → phase_in script.phases t ≡ phase → n ≡ (at t).next
    → NoMarksLater script j t n
no_marks_later script j at phase t n phases begun here is u o start stop c is_c before marks =
    nothing_later script at phase t n u o phases here is before (marks_begun script j at u o start stop c begun marks)

-- and the whole history is after each op that may begin
pub all_behind : (script : ScriptValue) (j : JournalsValue) (at : ℕ → Progress) (t n : ℕ) → AreOfBegun j at → IsBehindAll script j t n (length j.tree)
all_behind script j at t n begun u o start stop c is before marks = marks_within script j at u o start stop c begun marks
