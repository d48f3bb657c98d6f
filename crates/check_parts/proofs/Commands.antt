-- The tree's entries of a run have a text.
use Rattle.std.proofs.Common.{◌≡◌, ℕ, ◌<◌, List, length, take, Option, Some, None, refl, sym, subst, arith}
use Rattle.std.specs.Prelude.{IsSome}
use Rattle.std.proofs.lemmas.Option.{get_or_from_slice_get, slice_get_within}
use Rattle.journal_text.specs.Writable.{IsWritableCommand, IsWritableReply}
use Rattle.machine.specs.Ranges.{InRange}
use Rattle.machine.specs.declared.parameters.Parameters.{Parameters}
use Rattle.rc_base.proofs.laws.Histories.{EachFollows-at}
use Rattle.run_law.proofs.laws.Looks.{looks-few}
use Rattle.run_law.proofs.laws.NeededCounts.{needs-few}
use Rattle.run_law.proofs.laws.SoundHistories.{Fits-op_at, IsSound-take}
use Rattle.run_law.specs.Journals.{At, JournalsValue}
use Rattle.run_law.specs.Runs.{IsRun}
use Rattle.run_law.specs.TreeHistory.{CommandMayFollow, IsCommandThat, TreeEntryValue, tree_after}
use Rattle.script_ops.specs.Values.{IsLawful, ScriptValue, op_at, total_weight}
use Rattle.script_ops.specs.declared.op.Op.{Op}
use Rattle.tree_law.proofs.laws.Counts.{NamesDomain-fits}
use Rattle.tree_law.specs.Refusals.{Refusal, reply_of}
use Rattle.tree_law.specs.State.{State}
use Rattle.tree_law.specs.Steps.{needs, next, refusal}
use Rattle.check_parts.proofs.Arguments.{IsSmall-refusal}
use Rattle.check_parts.proofs.SmallReasons.{IsSmall}
use Rattle.check_parts.proofs.Numbers.{most_counts-light, numbers-op_at}

-- the reply that a reason with an argument of 64 bits gives
IsWritableReply-reply_of : (o : Option Refusal) → IsSmall o → IsWritableReply (reply_of o)
IsWritableReply-reply_of None small = tt
IsWritableReply-reply_of (Some r) small = (refl, small)

-- the reply of a command
IsWritableReply-next : (m : Parameters) (s : State) (op : Op) (looks : List ℕ) → InRange m → IsWritableReply (next m s op looks).reply
unfolding next
IsWritableReply-next m s op looks range = IsWritableReply-reply_of (refusal m s op) (IsSmall-refusal m s range op)

-- each entry of the tree's history
pub IsWritableCommand-at : (script : ScriptValue) (j : JournalsValue) → IsLawful script → IsRun script j → (k : ℕ) (h : TreeEntryValue) → At j.tree k h → IsWritableCommand (total_weight script) h
IsWritableCommand-at script j lawful run k h there = of (op_at script h.thread h.op) refl may
  where
    m : Parameters
    m = script.machine

    s : State
    s = tree_after script (take k j.tree)

    within : k < length j.tree
    within = slice_get_within j.tree k h there

    may : CommandMayFollow script (take k j.tree) h
    may = subst (CommandMayFollow script (take k j.tree)) (get_or_from_slice_get j.tree k h h there) (EachFollows-at (CommandMayFollow script) j.tree k h run.tree_legal within)

    of : (o : Option Op) → op_at script h.thread h.op ≡ o → IsCommandThat (λ op. (length h.looks ≡ length (needs m s op)) × (h.reply ≡ (next m s op h.looks).reply)) o → IsWritableCommand (total_weight script) h
    of None is ok = absurd ok
    of (Some op) is ok =
        let numbers = numbers-op_at script lawful h.thread h.op (subst IsSome (sym is) refl) in
        let sound = IsSound-take script j.tree lawful run.tree_legal k (omega (arith, within)) in
        let needed = needs-few m s op sound (NamesDomain-fits m script.tasks op (Fits-op_at script h.thread h.op op lawful is)) in
        let light = most_counts-light script lawful h.thread h.op op is in
        let looks = looks-few script j lawful.in_range run k h there in
        record {
          thread = numbers.0;
          op = numbers.1;
          reply = subst IsWritableReply (sym ok.1.1) (IsWritableReply-next m s op h.looks lawful.in_range);
          few = omega (arith, ok.1.0, needed, light);
          looks = λ i d below. let few = looks i d below in omega (arith, few);
        }
