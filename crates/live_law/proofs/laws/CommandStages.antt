-- A thread whose command holds the tree: it takes it, looks, and is decided.
use Rattle.std.proofs.Common.{◌≡◌, ℕ, zero, suc, ◌+◌, ◌-◌, ◌≤◌, false, List, [], ◌∷◌, ◌++◌, length, map, take, Some, refl, sym, ap, ◌∙◌, subst, arith}
use Rattle.std.specs.Prelude.{IsTrue}
use Rattle.std.proofs.Math.Seq.{take-append_seam}
use Rattle.std.proofs.lemmas.List.{length_push}
use Rattle.cache_core.specs.declared.entry.SliceEntry.{SliceEntry}
use Rattle.cache_core.specs.declared.entry.What.TheVariants as whats
use Rattle.run_law.specs.FoundLooks.{pairs_for}
use Rattle.run_law.specs.Growth.{PaysJob}
use Rattle.run_law.specs.Jobs.{Job, follows_of, in_slice, jobs_of, looks_of}
use Rattle.run_law.specs.Journals.{At, JournalsValue, slice_at}
use Rattle.run_law.specs.Ops.{is_command}
use Rattle.run_law.specs.Owed.{paid_by}
use Rattle.run_law.specs.Quotas.{quota}
use Rattle.run_law.specs.TreeHistory.{IsLegalTree, TreeEntryValue, tree_after}
use Rattle.run_law.specs.Truth.{is_made_by, is_taken_from}
use Rattle.run_law.proofs.laws.FoundLooks.{found_more, none_found}
use Rattle.run_law.proofs.laws.GrownLists.{Adds, filter_push_true, with_slices}
use Rattle.run_law.proofs.laws.JobKinds.{look_of, looks_are}
use Rattle.run_law.proofs.laws.LongerHistories.{jobs_front}
use Rattle.run_law.proofs.laws.Pairs.{both_eqb-same, both_eqb-true}
use Rattle.run_law.proofs.laws.Positions.{At-append_front, At-last, filter-none_at}
use Rattle.run_law.proofs.laws.TakenCommands.{fails}
use Rattle.script_ops.specs.Values.{IsLawful, ScriptValue, op_at}
use Rattle.script_ops.specs.declared.op.Op.{Op}
use Rattle.tree_law.specs.Steps.{needs}
use Rattle.live_law.specs.Cells.{AreMade}
use Rattle.live_law.specs.Passes.{AreBelow, PassesKeepFrom}
use Rattle.live_law.specs.SeenJournals.{AddsEntry, SeesMore, taken_in}
use Rattle.live_law.specs.Stages.{HoldsTree, IsFollowing, IsLooking, IsNextLook, WasGiven}
use Rattle.live_law.proofs.laws.AddedEntries.{Adds-before, SeesMore-before, before_adding}
use Rattle.live_law.proofs.laws.DecidedCommands.{HasGrown-command, HasMade-command, PassesKeepFrom-command, with_command}
use Rattle.live_law.proofs.laws.JobQuotas.{in_slice-few}
use Rattle.live_law.proofs.laws.KeptLooks.{HasFound-more}
use Rattle.live_law.proofs.laws.MadeEntries.{AreMade-grown}
use Rattle.live_law.proofs.laws.HeldTrees.{HoldsTree-more, HoldsTree-note}
use Rattle.seen_journal.proofs.laws.Prefixes.{length-prefix}

-- a thread between two ops has no entry of the next
is_made_by-next : (t n : ℕ) (v : JournalsValue) (i p : ℕ) (e : SliceEntry)
    → AreBelow t n n v → At (slice_at v i) p e
    → is_made_by t n e ≡ false
is_made_by-next t n v i p e below at = fails (is_made_by t n e)
    (λ its. let is = both_eqb-true e.thread t e.op n its in let less = below.entries i p e at is.0 in omega (arith, less, is.1))

pub IsLooking-take : (script : ScriptValue) (start : JournalsValue) (t n : ℕ) (c : Op) (v : JournalsValue)
    → IsLawful script → op_at script t n ≡ Some c → IsTrue (is_command c)
    → IsLegalTree script v.tree → AreMade script v (length v.tree) → PassesKeepFrom script start t n n n v
    → IsLooking script start t n c [] v
IsLooking-take script start t n c v lawful is command legal made keeps = record {
  holds = record {
    is_op = is;
    command = command;
    keeps = record {
      begins = keeps.begins;
      after = keeps.after;
      below = record {
        commands = keeps.below.commands;
        entries = λ i p e at mine. let less = keeps.below.entries i p e at mine in omega (arith, less);
      };
      done = keeps.done;
      in_turn = keeps.in_turn;
    };
    has = λ i within.
        ap (map paid_by) (filter-none_at (is_made_by t n) (slice_at v i) (λ p e at. is_made_by-next t n v i p e keeps.below at));
    few = λ i within. in_slice-few script v.tree t n i (length v.tree) c lawful legal is (omega arith);
    others = made;
  };
  found_are = none_found v t n (pairs_for script v.tree c) (λ i p e at. is_made_by-next t n v i p e keeps.below at);
}

-- ---- Look

-- an element of a mapped list
At-map : {A B : Type 0} (f : A → B) (xs : List A) (k : ℕ) (x : A) → At xs k x → At (map f xs) k (f x)
At-map f [] k x at = absurd cc
At-map f (y ∷ xs) zero x at = let same : y ≡ x = cc in ap (λ z. Some (f z)) same
At-map f (y ∷ xs) (suc k) x at = At-map f xs k x at

-- a look is the next job
At-look_job : (script : ScriptValue) (t n : ℕ) (c : Op) (found : List ℕ) (tree : List TreeEntryValue) (pair : ℕ × ℕ) (lines : ℕ)
    (e : SliceEntry)
    → IsNextLook script t n c found tree pair lines e
    → At (jobs_of script tree (length tree) c) (length found) (look_of (length tree) pair)
At-look_job script t n c found tree pair lines e look =
    let job : Job = look_of (length tree) pair in
    let mapped : At (map (look_of (length tree)) (pairs_for script tree c)) (length found) job =
    At-map (look_of (length tree)) (pairs_for script tree c) (length found) pair look.next in
    At-append_front (looks_of script tree (length tree) c) (follows_of script tree (length tree) c) (length found) job
    (subst (λ jobs. At jobs (length found) job) (looks_are script tree c) mapped)

-- its entry pays it
PaysJob-look : (t n k lines : ℕ) (pair : ℕ × ℕ) (e : SliceEntry)
    → e.thread ≡ t → e.op ≡ n → e.epoch ≡ k → e.what ≡ whats.Look pair.1 lines
    → PaysJob t n (look_of k pair) e
PaysJob-look t n k lines pair e thread number epoch what = record {
  thread = thread;
  op = number;
  owed = rw (epoch, what) refl;
}

pub IsLooking-look : (script : ScriptValue) (start : JournalsValue) (t n : ℕ) (c : Op) (found : List ℕ) (v : JournalsValue)
    (slices : List (List SliceEntry)) (pair : ℕ × ℕ) (lines : ℕ) (e : SliceEntry)
    → IsNextLook script t n c found v.tree pair lines e → AddsEntry t pair.0 e v (with_slices v slices)
    → IsLooking script start t n c found v
    → IsLooking script start t n c (found ++ lines ∷ []) (with_slices v slices)
IsLooking-look script start t n c found v slices pair lines e look adds looks =
    let k : ℕ = length v.tree in
    let now : JournalsValue = before_adding t pair.0 e v (with_slices v slices) adds in
    let sees : SeesMore t v now = SeesMore-before t pair.0 e v (with_slices v slices) adds in
    let add : Adds now slices pair.0 e = Adds-before t pair.0 e v (with_slices v slices) adds in
    let holds : HoldsTree script start t n n k c (length found) now =
    HoldsTree-more script start t n n k c (length found) v now.slices sees (omega arith) looks.holds in
    let more : HoldsTree script start t n n k c (length found + 1) (with_slices v slices) =
    HoldsTree-note script start t n n k c (length found) now slices (look_of k pair) e add
    (At-look_job script t n c found v.tree pair lines e look)
    (PaysJob-look t n k lines pair e look.thread look.number look.epoch look.what)
    (length-prefix start.tree v.tree looks.holds.keeps.begins.tree) (omega arith) holds in
    record {
      holds = subst (λ made. HoldsTree script start t n n k c made (with_slices v slices)) (sym (length_push found lines)) more;
      found_are = found_more now slices e t n lines pair (pairs_for script v.tree c) found add
          (both_eqb-same e.thread t e.op n look.thread look.number) look.what look.distinct look.next
          (HasFound-more t n (pairs_for script v.tree c) found v now sees looks.found_are);
    }

-- ---- Decide

-- the tree's history has nothing of a command that is not decided
taken_in-none : (t n taken made : ℕ) (v : JournalsValue) → taken ≤ n → AreBelow t taken made v → taken_in v t n ≡ []
taken_in-none t n taken made v fits below = filter-none_at (is_taken_from t n) v.tree
    (λ k x at. fails (is_taken_from t n x)
    (λ its. let is = both_eqb-true x.thread t x.op n its in let less = below.commands k x at is.0 in omega (arith, less, fits, is.1)))

pub IsFollowing-decide : (script : ScriptValue) (start : JournalsValue) (t n : ℕ) (c : Op) (found : List ℕ) (v : JournalsValue)
    (h : TreeEntryValue)
    → h.thread ≡ t → h.op ≡ n → WasGiven script v h (needs script.machine (tree_after script v.tree) c)
    → IsLooking script start t n c found v
    → IsFollowing script start t n (length v.tree) c h (length found) (with_command v h)
IsFollowing-decide script start t n c found v h thread number given looks =
    let k : ℕ = length v.tree in
    let mine : IsTrue (is_taken_from t n h) = both_eqb-same h.thread t h.op n thread number in
    let none : taken_in v t n ≡ [] = taken_in-none t n n (n + 1) v (omega arith) looks.holds.keeps.below in
    let before : take k (v.tree ++ h ∷ []) ≡ v.tree = take-append_seam v.tree (h ∷ []) in
    record {
      holds = record {
        is_op = looks.holds.is_op;
        command = looks.holds.command;
        keeps = PassesKeepFrom-command script start t n v h thread number looks.holds.keeps;
        has = λ i within. HasMade-command script v h i t n k c (length found) (omega arith) (looks.holds.has i within);
        few = λ i within.
            subst (λ jobs. length (in_slice i jobs) ≤ quota script.machine i c) (sym (jobs_front script v.tree (h ∷ []) k c (omega arith)))
            (looks.holds.few i within);
        others = AreMade-grown script v (with_command v h) k (HasGrown-command v h) (omega arith) looks.holds.others;
      };
      there = At-last v.tree h;
      is = mine;
      once = ap length (filter_push_true (is_taken_from t n) v.tree h mine) ∙ ap (λ hs. length (hs ++ h ∷ [])) none;
      given = subst (λ hs. WasGiven script v h (needs script.machine (tree_after script hs) c)) (sym before) given;
    }
