-- Before the first step, between phases, and when the last phase is over.
use Rattle.std.proofs.Common.{◌≡◌, ℕ, zero, suc, ◌+◌, ◌-◌, ◌<◌, ◌≤◌, inl, inr, List, [], ◌∷◌, ◌++◌, length, get_or, Some, refl, ap, ◌∙◌, subst, arith}
use Rattle.std.specs.Prelude.{IsSome}
use Rattle.std.proofs.lemmas.Bool.{cases_lt, lt-ltb, le-ltb}
use Rattle.std.proofs.lemmas.Option.{slice_get_within}
use Rattle.cache_core.specs.History.{IsLegal}
use Rattle.cache_core.specs.declared.entry.SliceEntry.{SliceEntry}
use Rattle.run_law.specs.Ops.{phase_in}
use Rattle.run_law.specs.Looks.{AreMatched}
use Rattle.run_law.specs.Journals.{At, JournalsValue, slice_at}
use Rattle.run_law.specs.Runs.{IsRun}
use Rattle.run_law.specs.Slices.{shape_in}
use Rattle.machine.specs.Slices.{slice_count}
use Rattle.run_law.specs.TreeHistory.{IsLegalTree, TreeEntryValue}
use Rattle.script_ops.specs.Values.{PhaseValue, ScriptValue, op_at, ops_of, threads_in}
use Rattle.script_ops.specs.declared.op.Op.{Op}
use Rattle.run_law.proofs.laws.OpMarks.{marks_begun, not_some}
use Rattle.run_law.proofs.laws.NotedTruth.{none_tag, some_is}
use Rattle.run_law.proofs.laws.FreeTrees.{idle}
use Rattle.run_law.specs.Progress.{HasBegun, Progress}
use Rattle.run_law.specs.Growth.{AreInPhase, AreOfBegun, IsKept}

-- ---- the next phase

-- when all threads of a phase are at their ends, the next one begins
pub phase_keeps : (script : ScriptValue) (j : JournalsValue) (at : ℕ → Progress) (phase : ℕ) → ((t : ℕ) → phase_in script.phases t ≡ phase → at t ≡ idle (length (ops_of script t)))
    → IsKept script j at phase → IsKept script j at (phase + 1)
phase_keeps script j at phase ended kept = record {
  in_phase = record {
    earlier = λ t less. elim (cases_lt (phase_in script.phases t) phase) [
      | inl before ↦ kept.in_phase.earlier t before
      | inr here ↦ ended t (omega (arith, less, here))
    ];
    later = λ t above. kept.in_phase.later t (omega (arith, above));
  };
  alone = kept.alone;
  of_begun = kept.of_begun;
  tags = kept.tags;
  entries_true = kept.entries_true;
  in_order = kept.in_order;
}

-- ---- a thread that has ops is of a phase

-- an element of two lists together is of the first, or of the second after it
get_or_parts : (xs ys : List (List Op)) (t : ℕ) → length xs ≤ t → get_or (xs ++ ys) t [] ≡ get_or ys (t - length xs) []
get_or_parts [] ys t h = let same : t ≡ t - 0 = omega arith in ap (λ k. get_or ys k []) same
get_or_parts (x ∷ xs) ys zero h = absurd (omega (arith, h))
get_or_parts (x ∷ xs) ys (suc t) h =
    let same : t - length xs ≡ suc t - length (x ∷ xs) = omega arith in
    get_or_parts xs ys t (omega (arith, h)) ∙ ap (λ k. get_or ys k []) same

-- a thread with ops is of a phase that is there
phase_there : (phases : List PhaseValue) (t op : ℕ) (c : Op) → At (get_or (threads_in phases) t []) op c → phase_in phases t < length phases
phase_there [] t op c at = absurd cc
phase_there (p ∷ ps) t op c at = elim (cases_lt t (length p.threads)) [
  | inl here ↦ rw (lt-ltb t (length p.threads) here) (omega arith)
  | inr behind ↦
      let rest : At (get_or (threads_in ps) (t - length p.threads) []) op c = subst (λ os. At os op c) (get_or_parts p.threads (threads_in ps) t behind) at in
      let less = phase_there ps (t - length p.threads) op c rest in
      rw (le-ltb t (length p.threads) behind) (omega (arith, less))
]

-- an op is of a phase that is there
pub op_phase : (script : ScriptValue) (t op : ℕ) (c : Op) → op_at script t op ≡ Some c → phase_in script.phases t < length script.phases
op_phase script t op c is = phase_there script.phases t op c is

-- ---- the end

-- at the end each op is done
done_at_end : (script : ScriptValue) (at : ℕ → Progress) (phase t op : ℕ) (c : Op) → length script.phases ≤ phase → AreInPhase script at phase → op_at script t op ≡ Some c → op < (at t).next
done_at_end script at phase t op c over phases is =
    let early : phase_in script.phases t < phase = omega (arith, op_phase script t op c is, over) in
    omega (arith, slice_get_within (ops_of script t) op c is, ap (λ (x : Progress). x.next) (phases.earlier t early))

-- when the last phase is over, the journals are a run
pub run_when_over : (script : ScriptValue) (j : JournalsValue) (at : ℕ → Progress) (phase : ℕ) → length script.phases ≤ phase → length j.slices ≡ slice_count script.machine → IsLegalTree script j.tree
    → ((i : ℕ) → i < slice_count script.machine → IsLegal (shape_in script.machine i) (slice_at j i)) → AreMatched script j → IsKept script j at phase → IsRun script j
run_when_over script j at phase over all legal slices matched kept = record {
  all_slices = all;
  tree_legal = legal;
  slices_legal = slices;
  entries_true = kept.entries_true;
  looks_matched = matched;
  in_order = record {
    commands_once = λ t op c is command. kept.in_order.commands_once t op c is command (inl (done_at_end script at phase t op c over kept.in_phase is));
    entries_once = λ i t op c within is. kept.in_order.entries_once i t op c within is (done_at_end script at phase t op c over kept.in_phase is);
    no_others = kept.in_order.no_others;
    marks = kept.in_order.marks;
    entries_in_order = kept.in_order.entries_in_order;
  };
}

-- ---- the beginning

-- empty slices have no entry
nothing_there : (j : JournalsValue) → ((i : ℕ) → slice_at j i ≡ []) → (i p : ℕ) (e : SliceEntry) → At (slice_at j i) p e → ⊥
nothing_there j empty i p e at = let none : At {A = SliceEntry} [] p e = subst (λ es. At es p e) (empty i) at in cc

-- no op has begun
no_begun : (o : ℕ) → HasBegun (idle 0) o → ⊥
no_begun o (inl less) = omega (arith, less)
no_begun o (inr under) = not_some (idle 0).made refl under.1

-- the empty journals
pub opening_kept : (script : ScriptValue) (j : JournalsValue) (at : ℕ → Progress) → j.tree ≡ [] → ((i : ℕ) → slice_at j i ≡ []) → ((t : ℕ) → at t ≡ idle 0) → IsKept script j at 0
opening_kept script j at none empty first =
    let no_command : (k : ℕ) (h : TreeEntryValue) → At j.tree k h → ⊥ = λ k h there. (let wrong : At {A = TreeEntryValue} [] k h = subst (λ hs. At hs k h) none there in cc) in
    let no_entry : (i p : ℕ) (e : SliceEntry) → At (slice_at j i) p e → ⊥ = nothing_there j empty in
    let nobody : (t : ℕ) → IsSome (at t).made → ⊥ = λ t some. not_some (at t).made (ap (λ (x : Progress). x.made) (first t)) some in
    let fresh : (t o : ℕ) → HasBegun (at t) o → ⊥ = λ t o has. no_begun o (subst (λ x. HasBegun x o) (first t) has) in
    let begun : AreOfBegun j at = record {
      commands = λ k h there. absurd (no_command k h there);
      entries = λ i p e there. absurd (no_entry i p e there);
      epochs = λ i p e there. absurd (no_entry i p e there);
      others = λ i p e there apart. absurd (no_entry i p e there);
    } in
    record {
      in_phase = record { earlier = λ t less. absurd (omega (arith, less)); later = λ t above. first t };
      alone = record {
        one = λ t u a b. absurd (nobody t a);
        some = λ t a. absurd (nobody t a);
        there = λ t k a last. absurd (nobody t a);
        last = λ t k h a there taken. absurd (nobody t a);
      };
      of_begun = begun;
      tags = λ t task cpu addr tag is has. absurd (none_tag (at t).tag tag (ap (λ (x : Progress). x.tag) (first t)) has);
      entries_true = record {
        accesses = λ i p e op there is own. absurd (no_entry i p e there);
        others = λ i p e op there is apart. absurd (no_entry i p e there);
        after_commands = λ i p q k e earlier command there also taken made before apart. absurd (no_entry i p e there);
      };
      in_order = record {
        commands_once = λ t o c is command has. absurd (fresh t o has);
        entries_once = λ i t o c within is less. absurd (omega (arith, less, ap (λ (x : Progress). x.next) (first t)));
        under_way = λ i t k made c within is has last. absurd (nobody t (some_is (at t).made made has));
        commands_hold = λ t c is has. absurd (nobody t has);
        holds_op = λ t has. absurd (nobody t has);
        no_others = λ i p e there. absurd (no_entry i p e there);
        marks = λ t o u l start stop later_start later_stop c d is_c is_d comes marks later_marks. absurd (fresh t o (marks_begun script j at t o start stop c begun marks));
        entries_in_order = λ i p q e later there also comes. absurd (no_entry i p e there);
      };
    }
