-- A thread whose access holds a tag, and then touches.
use Rattle.std.proofs.Common.{◌≡◌, ℕ, ◌+◌, ◌≤◌, length, take, Some, sym, ap, ◌∙◌, subst, arith}
use Rattle.std.proofs.Math.Seq.{take-length}
use Rattle.cache_core.specs.declared.entry.SliceEntry.{SliceEntry}
use Rattle.rc_base.specs.declared.names.Tag.{Tag}
use Rattle.run_law.specs.Growth.{tag_of}
use Rattle.run_law.specs.Journals.{JournalsValue}
use Rattle.run_law.specs.Owed.{Owed, owed_by_access, paid_by}
use Rattle.run_law.specs.TreeHistory.{tree_after}
use Rattle.run_law.proofs.laws.GrownLists.{Adds}
use Rattle.script_ops.specs.Values.{ScriptValue, op_at}
use Rattle.script_ops.specs.declared.op.Op.TheVariants.{Access}
use Rattle.live_law.specs.Cells.{AreMade}
use Rattle.live_law.specs.Passes.{PassesKeepFrom}
use Rattle.live_law.specs.SeenJournals.{AddsEntry, HasGrown, SeesMore}
use Rattle.live_law.specs.Stages.{HoldsTag, owed_by_tag, slice_reached}
use Rattle.live_law.proofs.laws.AccessEntries.{PassesKeepFrom-entry}
use Rattle.live_law.proofs.laws.AddedEntries.{Adds-before, SeesMore-before, before_adding}
use Rattle.live_law.proofs.laws.MadeEntries.{AreMade-grown}
use Rattle.live_law.proofs.laws.Prefixes.{take-prefix}
use Rattle.live_law.proofs.laws.SeenJournals.{HasGrown-more, SeesMore-through}
use Rattle.seen_journal.proofs.laws.Prefixes.{length-prefix}

-- ---- Tag

-- what the tree gives, when all its commands have made what they owe
pub HoldsTag-tag : (script : ScriptValue) (v : JournalsValue) (task cpu : ℕ) → AreMade script v (length v.tree)
    → HoldsTag script v task cpu (tag_of script.machine (tree_after script v.tree) (length v.tree) task cpu)
HoldsTag-tag script v task cpu made = record {
  within = omega arith;
  is = ap (λ tree. tag_of script.machine (tree_after script tree) (length v.tree) task cpu) (sym (take-length v.tree));
  others = made;
}

-- it stays a tag when the thread sees more
pub HoldsTag-grown : (script : ScriptValue) (v w : JournalsValue) (task cpu : ℕ) (tag : Tag)
    → HasGrown v w → HoldsTag script v task cpu tag
    → HoldsTag script w task cpu tag
HoldsTag-grown script v w task cpu tag grown holds =
    let same : take tag.epoch w.tree ≡ take tag.epoch v.tree = take-prefix v.tree w.tree tag.epoch grown.tree holds.within in
    record {
      within = let fits = length-prefix v.tree w.tree grown.tree in omega (arith, fits, holds.within);
      is = subst (λ tree. tag ≡ tag_of script.machine (tree_after script tree) tag.epoch task cpu) (sym same) holds.is;
      others = AreMade-grown script v w tag.epoch grown holds.within holds.others;
    }

-- ---- Touch

-- what the entry of a tag pays
paid_by-tag : (script : ScriptValue) (v : JournalsValue) (task cpu addr : ℕ) (tag : Tag) (e : SliceEntry)
    → HoldsTag script v task cpu tag → paid_by e ≡ owed_by_tag tag addr
    → paid_by e ≡ owed_by_access script v.tree tag.epoch task cpu addr
unfolding owed_by_access
paid_by-tag script v task cpu addr tag e holds pays = pays ∙ ap (λ (x : Tag). owed_by_tag (record x { epoch = tag.epoch }) addr) holds.is

-- the access is done when its entry is made
pub PassesKeepFrom-touch : (script : ScriptValue) (start : JournalsValue) (t n task cpu addr : ℕ) (tag : Tag)
    (old v w : JournalsValue) (e : SliceEntry)
    → PassesKeepFrom script start t n n n old → SeesMore t old v → HoldsTag script v task cpu tag → length old.tree ≤ tag.epoch
    → op_at script t n ≡ Some (Access task cpu addr) → e.thread ≡ t → e.op ≡ n → paid_by e ≡ owed_by_tag tag addr
    → AddsEntry t (slice_reached script.machine cpu addr) e v w
    → PassesKeepFrom script start t (n + 1) (n + 1) (n + 1) w
PassesKeepFrom-touch script start t n task cpu addr tag old v w e keeps more holds late is_op thread number pays adds =
    let slice : ℕ = slice_reached script.machine cpu addr in
    let now : JournalsValue = before_adding t slice e v w adds in
    let sees : SeesMore t v now = SeesMore-before t slice e v w adds in
    let add : Adds now w.slices slice e = Adds-before t slice e v w adds in
    let held : HoldsTag script now task cpu tag = HoldsTag-grown script v now task cpu tag (HasGrown-more t v now sees) holds in
    let epoch : e.epoch ≡ tag.epoch = ap (λ (o : Owed). o.epoch) pays in
    PassesKeepFrom-entry script start t n task cpu addr old now w.slices e keeps (SeesMore-through t old v now more sees) add
    (record {
      is_op = is_op;
      thread = thread;
      number = number;
      late = omega (arith, late, epoch);
      within = omega (arith, held.within, epoch);
      pays = subst (λ x. paid_by e ≡ owed_by_access script now.tree x task cpu addr) (sym epoch)
          (paid_by-tag script now task cpu addr tag e held pays);
    })
