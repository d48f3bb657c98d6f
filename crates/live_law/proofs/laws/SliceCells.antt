-- What a slice's lock keeps, step by step.
use Rattle.std.proofs.Common.{◌≡◌, ℕ, ◌+◌, ◌<◌, ◌≤◌, inl, inr, List, [], ◌∷◌, ◌++◌, length, take, Option, Some, refl, sym, ap, ◌∙◌, subst, arith}
use Rattle.std.specs.Prelude.{IsTrue, IsSome}
use Rattle.std.proofs.lemmas.Bool.{cases_lt}
use Rattle.std.proofs.lemmas.Option.{get_or_from_slice_get, same_Some, slice_get_within}
use Rattle.cache_core.specs.History.{IsLegal, floor_of}
use Rattle.cache_core.specs.declared.entry.SliceEntry.{SliceEntry}
use Rattle.machine.specs.Slices.{slice_count}
use Rattle.rc_base.specs.Follows.{GoesOn}
use Rattle.rc_base.proofs.laws.Histories.{EachFollows-at, GoesOn-push}
use Rattle.rc_base.specs.declared.names.Tag.{Tag}
use Rattle.run_law.specs.Journals.{At, JournalsValue, slice_at}
use Rattle.run_law.specs.Slices.{shape_in}
use Rattle.run_law.specs.TreeHistory.{TreeEntryValue}
use Rattle.run_law.specs.Truth.{is_made_by}
use Rattle.run_law.proofs.laws.LegalHistories.{floor_within}
use Rattle.run_law.proofs.laws.Pairs.{both_eqb-same, both_eqb-true}
use Rattle.script_ops.specs.Values.{ScriptValue, op_at}
use Rattle.script_ops.specs.declared.op.Op.{Op}
use Rattle.seen_journal.specs.Prefixes.{IsPrefix}
use Rattle.live_law.specs.Cells.{AreMade, MayStand, SliceKeeps}
use Rattle.live_law.specs.Stages.{HoldsTag, IsFollowing, IsLooking}
use Rattle.live_law.proofs.laws.MadeEntries.{IsMade-grown}
use Rattle.live_law.proofs.laws.Prefixes.{At-prefix_front}
use Rattle.seen_journal.proofs.laws.Prefixes.{IsPrefix-self, length-prefix}

-- what may follow by one rule may by a weaker one
GoesOn-weaker : {E : Type 0} (may might : List E → E → Type 0) (before es : List E)
    → ((b : List E) (e : E) → may b e → might b e) → GoesOn may before es
    → GoesOn might before es
GoesOn-weaker may might before [] weaker goes = tt
GoesOn-weaker may might before (e ∷ es) weaker goes = (weaker before e goes.0, GoesOn-weaker may might (before ++ e ∷ []) es weaker goes.1)

-- what may stand by a history may by a longer one
MayStand-longer : (script : ScriptValue) (tree longer : List TreeEntryValue) (i : ℕ) → IsPrefix tree longer
    → (before : List SliceEntry) (e : SliceEntry) → MayStand script tree i before e
    → MayStand script longer i before e
MayStand-longer script tree longer i prefix before e stands = record {
  known = stands.known;
  epoch = let fits = length-prefix tree longer prefix in omega (arith, fits, stands.epoch);
  commands = λ k h less at apart.
      let within : k < length tree = omega (arith, less, stands.epoch) in
      let there : At tree k h = At-prefix_front tree longer k h prefix at within in
      IsMade-grown script tree longer i k before before prefix within (IsPrefix-self before) (stands.commands k h less there apart);
}

module _ (script : ScriptValue) (i : ℕ) (tree : List TreeEntryValue) where
  -- the cell has seen more of the tree's history
  pub SliceKeeps-longer : (longer : List TreeEntryValue) (list : List SliceEntry)
      → IsPrefix tree longer → SliceKeeps script i tree list
      → SliceKeeps script i longer list
  SliceKeeps-longer longer list prefix keeps = record {
    legal = keeps.legal;
    stands = GoesOn-weaker (MayStand script tree i) (MayStand script longer i) [] list (MayStand-longer script tree longer i prefix)
        keeps.stands;
  }

  -- it has one entry more
  pub SliceKeeps-push : (list : List SliceEntry) (e : SliceEntry)
      → IsLegal (shape_in script.machine i) (list ++ e ∷ []) → MayStand script tree i list e → SliceKeeps script i tree list
      → SliceKeeps script i tree (list ++ e ∷ [])
  SliceKeeps-push list e legal stands keeps = record {
    legal = legal;
    stands = GoesOn-push (MayStand script tree i) [] list e keeps.stands stands;
  }

  -- each of its entries may stand where it does
  pub MayStand-at : (list : List SliceEntry) (p : ℕ) (e : SliceEntry)
      → SliceKeeps script i tree list → At list p e
      → MayStand script tree i (take p list) e
  MayStand-at list p e keeps at =
      subst (λ x. MayStand script tree i (take p list) x) (get_or_from_slice_get list p e e at)
      (EachFollows-at (MayStand script tree i) list p e keeps.stands (slice_get_within list p e at))

  -- its floor is an epoch that the tree has had
  pub floor_of-past : (list : List SliceEntry) → SliceKeeps script i tree list → floor_of list ≤ length tree
  floor_of-past list keeps = floor_within (length tree) list (λ p e at. (MayStand-at list p e keeps at).epoch)

-- ---- what a thread may add to it

-- where all commands before an epoch have made what they owe, and each other before the entry's is the entry's own
pub MayStand-made : (script : ScriptValue) (v : JournalsValue) (tree : List TreeEntryValue) (i upto : ℕ) (list : List SliceEntry)
    (e : SliceEntry)
    → AreMade script v upto → upto ≤ length v.tree → IsPrefix v.tree tree → IsPrefix (slice_at v i) list → i < slice_count script.machine
    → IsSome (op_at script e.thread e.op) → e.epoch ≤ length tree
    → ((k : ℕ) (h : TreeEntryValue) → upto ≤ k → k < e.epoch → At tree k h → IsTrue (is_made_by h.thread h.op e))
    → MayStand script tree i list e
MayStand-made script v tree i upto list e made fits history prefix within known epoch own = record {
  known = known;
  epoch = epoch;
  commands = λ k h less at apart. elim (cases_lt k upto) [
    | inl before ↦
        IsMade-grown script v.tree tree i k (slice_at v i) list history (omega (arith, before, fits)) prefix (made i k within before)
    | inr after ↦ absurd (apart (own k h after less at))
  ];
}

-- what is known to be something is something
IsSome-is : {A : Type 0} {o : Option A} {x : A} → o ≡ Some x → IsSome o
IsSome-is is = rw is refl

-- a look
pub MayStand-look : (script : ScriptValue) (start : JournalsValue) (t n i : ℕ) (c : Op) (found : List ℕ) (v : JournalsValue)
    (list : List SliceEntry) (e : SliceEntry)
    → IsLooking script start t n c found v → IsPrefix (slice_at v i) list → i < slice_count script.machine
    → e.thread ≡ t → e.op ≡ n → e.epoch ≡ length v.tree
    → MayStand script v.tree i list e
MayStand-look script start t n i c found v list e looks prefix within thread number epoch =
    let its : op_at script e.thread e.op ≡ Some c = rw (thread, number) looks.holds.is_op in
    MayStand-made script v v.tree i (length v.tree) list e looks.holds.others (omega arith) (IsPrefix-self v.tree) prefix within
    (IsSome-is its) (omega (arith, epoch)) (λ k h from less at. absurd (omega (arith, from, less, epoch)))

-- what stands at a position is one thing
pub At-same : {A : Type 0} (xs : List A) (k : ℕ) (x y : A) → At xs k x → At xs k y → x ≡ y
At-same xs k x y a b = same_Some x y (sym a ∙ b)

-- a follow-up
pub MayStand-follow : (script : ScriptValue) (start : JournalsValue) (t n k i : ℕ) (c : Op) (h : TreeEntryValue) (made : ℕ)
    (v : JournalsValue)
    (list : List SliceEntry) (e : SliceEntry)
    → IsFollowing script start t n k c h made v → IsPrefix (slice_at v i) list → i < slice_count script.machine
    → e.thread ≡ t → e.op ≡ n → e.epoch ≤ k + 1
    → MayStand script v.tree i list e
MayStand-follow script start t n k i c h made v list e follows prefix within thread number epoch =
    let its : op_at script e.thread e.op ≡ Some c = rw (thread, number) follows.holds.is_op in
    let fits : k < length v.tree = slice_get_within v.tree k h follows.there in
    MayStand-made script v v.tree i k list e follows.holds.others (omega (arith, fits)) (IsPrefix-self v.tree) prefix within
    (IsSome-is its) (omega (arith, epoch, fits))
    (λ q x from less at.
    let here : k ≡ q = omega (arith, from, less, epoch) in
    let same : h ≡ x = At-same v.tree k h x follows.there (subst (λ r. At v.tree r x) (sym here) at) in
    let is = both_eqb-true h.thread t h.op n follows.is in
    both_eqb-same e.thread x.thread e.op x.op
    (thread ∙ (sym is.0 ∙ ap (λ (y : TreeEntryValue). y.thread) same)) (number ∙ (sym is.1 ∙ ap (λ (y : TreeEntryValue). y.op) same)))

-- an access, with its tag
pub MayStand-touch : (script : ScriptValue) (task cpu : ℕ) (tag : Tag) (i : ℕ) (v : JournalsValue) (tree : List TreeEntryValue)
    (list : List SliceEntry) (e : SliceEntry)
    → HoldsTag script v task cpu tag → IsPrefix v.tree tree → IsPrefix (slice_at v i) list → i < slice_count script.machine
    → IsSome (op_at script e.thread e.op) → e.epoch ≡ tag.epoch
    → MayStand script tree i list e
MayStand-touch script task cpu tag i v tree list e holds history prefix within known epoch =
    let fits = length-prefix v.tree tree history in
    MayStand-made script v tree i tag.epoch list e holds.others holds.within history prefix within known
    (omega (arith, epoch, holds.within, fits))
    (λ k h from less at. absurd (omega (arith, from, less, epoch)))
