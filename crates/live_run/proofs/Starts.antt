-- The threads before their first ops.
use Rattle.std.proofs.Common.{◌≡◌, ℕ, ◌+◌, ◌-◌, ◌<◌, ◌≤◌, inl, inr, List, None, [], ◌∷◌, ◌++◌, false, length, map, replicate, sym, ap, ◌∙◌, arith}
use Rattle.std.proofs.Math.ListN.{get_or-map}
use Rattle.std.proofs.lemmas.Bool.{cases_lt, false≢true}
use Rattle.std.proofs.lemmas.List.{get_or_past, length_push, length-append, length-map, length-replicate}
use Rattle.atomic_table.specs.Seated.{TableId}
use Rattle.cache_core.specs.declared.entry.SliceEntry.{SliceEntry}
use Rattle.live_law.proofs.laws.Passes.{PassesKeep-opening}
use Rattle.live_run.proofs.Bridges.{seen-slice}
use Rattle.live_run.proofs.FirstShares.{IsResting-known}
use Rattle.live_run.proofs.Rooms.{each-push}
use Rattle.live_run.specs.Logs.{AreWhole, LogValue, log_at}
use Rattle.live_run.specs.Names.{PassesValue, SeenValue, history_of, name_at, no_name, no_pass, seen_by}
use Rattle.live_run.specs.Openings.{AreFirst, AreGivenTo, AreNew, HaveGiven, IsFirst}
use Rattle.live_run.specs.Passes.{PassesAreKept}
use Rattle.live_run.specs.Phases.{AreBefore, no_passes}
use Rattle.live_run.specs.Quotas.{HaveQuotas}
use Rattle.live_run.specs.Sharing.{IsShareOf, begun_in}
use Rattle.machine.specs.Slices.{slice_count}
use Rattle.rc_base.specs.Buffers.{Looks, Roomy}
use Rattle.rc_base.specs.declared.text_buf.TheConstants.{TEXT_MAX}
use Rattle.run_law.specs.LookLists.{AreReady, rooms_of}
use Rattle.run_law.specs.Quotas.{commands_of, quotas_of}
use Rattle.schedule_law.specs.LiveParts.{resting_thread}
use Rattle.schedule_law.specs.declared.part.Part.{Part}
use Rattle.script_ops.specs.Values.{ScriptValue, ops_of, threads_of}
use Rattle.seen_journal.specs.Entries.{list_of}
use Rattle.seen_journal.specs.Journals.{JournalName}
use Rattle.seen_journal.specs.Passes.{PassValue, new_pass}
use Rattle.shared_parts.specs.Shares.{ShareValue}

-- what a thread has seen that has seen nothing
pub PassesAreKept-first : (script : ScriptValue) (table : TableId) (names : List JournalName) (n : ℕ) (s : SeenValue) (lists : List Looks) (shown : Roomy) (share : ShareValue Part) → s.tree.seen ≡ [] → AreNew names n s.thread s.slices
    → AreReady (rooms_of script.machine (ops_of script s.thread)) lists → TEXT_MAX ≤ shown.spare + length shown.bytes → IsShareOf table (resting_thread s.thread 0 false [] None ∷ []) share → PassesAreKept script table s 0 lists shown share None
PassesAreKept-first script table names n s lists shown share none new ready room own = record {
  keep =
      PassesKeep-opening script s.thread (seen_by s) (ap history_of none)
      (λ i. seen-slice s i ∙ ap (λ xs. list_of {E = SliceEntry} xs) (elim (cases_lt i n) [
        | inl within ↦ ap (λ (p : PassValue SliceEntry). p.seen) (new.each i within)
        | inr past ↦ ap (λ (p : PassValue SliceEntry). p.seen) (get_or_past s.slices i no_pass (omega (arith, past, new.count)))
      ]));
  lists_are = ready;
  room = room;
  share_is = IsResting-known table s.thread 0 false [] None share own;
  ended = λ begun. absurd (false≢true (sym (ap begun_in own.parts_are) ∙ begun));
  cached_is = tt;
  noted = tt;
}

-- one thread more is before its first op
pub AreFirst-push : (t : ℕ) (ps : List PassesValue) (p : PassesValue) → IsFirst t p → AreFirst t ps → AreFirst (t + 1) (ps ++ p ∷ [])
AreFirst-push t ps p first all = record {
  count = omega (arith, length_push ps p, all.count);
  each = each-push IsFirst t ps p no_passes all.count all.each first;
}

-- all are before the first phase
pub AreBefore-first : (script : ScriptValue) (ps : List PassesValue) → AreFirst (length (threads_of script)) ps → AreBefore script 0 ps
AreBefore-first script ps all = record {
  count = all.count;
  threads = λ t within. (all.each t (omega (arith, within, all.count))).thread;
  done = λ t within early. absurd (omega (arith, early));
  fresh = λ t within late. (all.each t (omega (arith, within, all.count))).fresh;
  seen = λ t u within late early. absurd (omega (arith, early));
}

-- ---- passes given out

module _ (script : ScriptValue) (tree : JournalName) (slices : List JournalName) (quotas : HaveQuotas script tree slices) where
  length-tree : length tree.quotas ≡ length (threads_of script) + slice_count script.machine
  length-tree =
      ap length quotas.tree_are
      ∙ omega (arith, length-append (map commands_of (threads_of script)) (replicate (slice_count script.machine) 0), length-map (threads_of script) commands_of, length-replicate {A = ℕ} (slice_count script.machine) 0)

  length-slice : (i : ℕ) → i < slice_count script.machine → length (name_at slices i).quotas ≡ length (threads_of script) + 1
  length-slice i within =
      ap length (quotas.slices_are i within)
      ∙ omega (arith, length-append (map (quotas_of script.machine i) (threads_of script)) (0 ∷ []), length-map (threads_of script) (quotas_of script.machine i))

  -- no journal has given any
  pub AreGivenTo-none : (log : LogValue) (logs : List LogValue) → log.name ≡ tree → map (λ (l : LogValue). l.name) logs ≡ slices → AreWhole log logs → AreGivenTo script tree slices (length (threads_of script)) 0 log logs
  AreGivenTo-none log logs name names whole =
      let count : length logs ≡ slice_count script.machine = sym (length-map logs (λ (l : LogValue). l.name)) ∙ (ap length names ∙ quotas.count) in
      let same : (i : ℕ) → (log_at logs i).name ≡ name_at slices i = (λ i. sym (get_or-map (λ (l : LogValue). l.name) logs i (record { name = no_name; left = 0 })) ∙ ap (λ ns. name_at ns i) names) in
      record {
        tree_is = name;
        tree_left = omega (arith, whole.tree_left, ap (λ (n : JournalName). length n.quotas) name, length-tree);
        slices_are = record { count = count; names = λ i within. same i };
        left = λ i within. omega (arith, whole.slices_left i (omega (arith, within, count)), ap (λ (n : JournalName). length n.quotas) (same i), length-slice i within);
      }

  -- those that they give next
  pub AreNew-given : (t : ℕ) (log : LogValue) (logs logs_now : List LogValue) (own : List (PassValue SliceEntry)) → AreGivenTo script tree slices (length (threads_of script)) t log logs → HaveGiven (length logs) logs logs_now own → AreNew slices (slice_count script.machine) t own
  AreNew-given t log logs logs_now own given gave = record {
    count = gave.passes_count ∙ given.slices_are.count;
    each = λ i within.
        let one = gave.given i (omega (arith, within, given.slices_are.count)) in
        let name = given.slices_are.names i within in
        let number : length (name_at slices i).quotas - (log_at logs i).left ≡ t = omega (arith, length-slice i within, given.left i within) in
        one.pass_is ∙ (ap (λ (n : JournalName). new_pass n (length n.quotas - (log_at logs i).left)) name ∙ ap (new_pass (name_at slices i)) number);
  }

module _ (script : ScriptValue) (tree : JournalName) (slices : List JournalName) (t : ℕ) (log log_now : LogValue) (logs logs_now : List LogValue) where
  -- the passes are given to one thread more
  pub AreGivenTo-next : AreGivenTo script tree slices (length (threads_of script)) t log logs → (own : List (PassValue SliceEntry)) → HaveGiven (length logs) logs logs_now own → log_now.name ≡ log.name → log_now.left + 1 ≡ log.left
      → AreGivenTo script tree slices (length (threads_of script)) (t + 1) log_now logs_now
  AreGivenTo-next given own gave name left = record {
    tree_is = name ∙ given.tree_is;
    tree_left = omega (arith, given.tree_left, left);
    slices_are = record {
      count = gave.count ∙ given.slices_are.count;
      names = λ i within. (gave.given i (omega (arith, within, given.slices_are.count))).name ∙ given.slices_are.names i within;
    };
    left = λ i within. omega (arith, (gave.given i (omega (arith, within, given.slices_are.count))).left, given.left i within);
  }
