-- A command has made all that it owes and lets the tree go.
use Rattle.std.proofs.Common.{◌≡◌, ℕ, ◌+◌, ◌<◌, inl, inr, length, filter, map, take, Some, refl, sym, ap, ◌∙◌, subst, arith}
use Rattle.std.specs.Prelude.{◌==◌, IsSome, IsTrue}
use Rattle.std.proofs.lemmas.Bool.{cases_lt}
use Rattle.std.proofs.Math.Seq.{take-length}
use Rattle.lists.specs.Sums.{one_if}
use Rattle.machine.specs.Maps.{domain_of, line_of}
use Rattle.run_law.specs.Ops.{Precedes, is_command, phase_in}
use Rattle.run_law.specs.Journals.{JournalsValue, slice_at}
use Rattle.run_law.specs.Order.{Makes, Pays}
use Rattle.run_law.specs.Truth.{is_made_by, is_taken_from}
use Rattle.run_law.specs.Owed.{owed_by_command, paid_by}
use Rattle.machine.specs.Slices.{slice_of_line}
use Rattle.script_ops.specs.Values.{ScriptValue, op_at}
use Rattle.script_ops.specs.declared.op.Op.{Op}
use Rattle.script_ops.specs.declared.op.Op.TheVariants.{Access}
use Rattle.run_law.proofs.laws.OpKinds.{of_command}
use Rattle.run_law.proofs.laws.JobLists.{owed_are}
use Rattle.run_law.proofs.laws.MovedThreads.{moved-held, phase_moved, moved-holds, where_moved}
use Rattle.run_law.proofs.laws.NotedTruth.{holding, none_tag, one_op, some_is}
use Rattle.run_law.proofs.laws.OpMarks.{not_some}
use Rattle.run_law.proofs.laws.FreeTrees.{idle}
use Rattle.run_law.specs.Jobs.{in_slice, jobs_of}
use Rattle.run_law.specs.Progress.{HasBegun, Progress, moved}
use Rattle.run_law.specs.Growth.{AreInOrderSoFar, HasMade, IsAlone, IsKept, IsTagOf}

-- What is known when the command at position k lets the tree go.
pub record IsLetGo (script : ScriptValue) (j : JournalsValue) (at : ℕ → Progress) (phase t n made k : ℕ) (c : Op) : Type 0 where
  pub some : 0 < script.machine.slices
  pub here : phase_in script.phases t ≡ phase
  pub place : at t ≡ holding n made
  pub is_op : op_at script t n ≡ Some c
  pub last : k + 1 ≡ length j.tree
  pub all : made ≡ length (jobs_of script j.tree k c)

-- nobody holds the tree now
nobody : (j : JournalsValue) (at : ℕ → Progress) (t n made u : ℕ) → at t ≡ holding n made → IsAlone j at → IsSome (moved at t (idle (n + 1)) u).made → ⊥
nobody j at t n made u place alone some = elim (where_moved at t (idle (n + 1)) u) [
  | inl here ↦ not_some (moved at t (idle (n + 1)) u).made (ap (λ (x : Progress). x.made) here.1) some
  | inr away ↦ away.0 (alone.one u t (subst (λ (x : Progress). IsSome x.made) away.1 some) (subst (λ (x : Progress). IsSome x.made) (sym place) refl))
]

-- what has begun now had begun
pub begun_back : (n made o : ℕ) → HasBegun (idle (n + 1)) o → HasBegun (holding n made) o
begun_back n made o (inr under) = absurd (not_some (idle (n + 1)).made refl under.1)
begun_back n made o (inl less) = elim (cases_lt o n) [ inl small ↦ inl small | inr large ↦ inr (omega (arith, less, large), refl) ]

-- what had begun has begun
pub begun_on : (n made o : ℕ) → HasBegun (holding n made) o → HasBegun (idle (n + 1)) o
begun_on n made o (inl less) = inl (omega (arith, less))
begun_on n made o (inr under) = inl (omega (arith, under.0))

-- the command has made what it owes
let_go_makes : (script : ScriptValue) (j : JournalsValue) (at : ℕ → Progress) (phase t n made k : ℕ) (c : Op) (i : ℕ) → IsLetGo script j at phase t n made k c → IsTrue (is_command c) → IsAlone j at
    → HasMade script j i t n k c made → Makes script j i t n c (filter (is_made_by t n) (slice_at j i))
let_go_makes script j at phase t n made k c i go command alone had =
    let holds : IsSome (at t).made = subst (λ (x : Progress). IsSome x.made) (sym go.place) refl in
    let number : (at t).next ≡ n = ap (λ (x : Progress). x.next) go.place in
    let jobs = jobs_of script j.tree k c in
    let all : map paid_by (filter (is_made_by t n) (slice_at j i)) ≡ owed_by_command script j.tree i k c =
    had ∙ (ap (λ m. in_slice i (take m jobs)) go.all ∙ (ap (in_slice i) (take-length jobs) ∙ owed_are script j.tree i k c go.some)) in
    of_command (λ task cpu addr. length (filter (is_made_by t n) (slice_at j i)) ≡ one_if (i == slice_of_line script.machine (domain_of script.machine cpu) (line_of addr)))
    (Pays script j i t n c (filter (is_made_by t n) (slice_at j i))) c command
    (λ q h there taken.
    let last : q + 1 ≡ length j.tree = alone.last t q h holds there (subst (λ o. IsTrue (is_taken_from t o h)) (sym number) taken) in
    let here : k ≡ q = omega (arith, last, go.last) in
    subst (λ y. map paid_by (filter (is_made_by t n) (slice_at j i)) ≡ owed_by_command script j.tree i y c) here all)

-- ops stay in order
let_go_order : (script : ScriptValue) (j : JournalsValue) (at : ℕ → Progress) (phase t n made k : ℕ) (c : Op) → IsLetGo script j at phase t n made k c → IsAlone j at → AreInOrderSoFar script j at
    → AreInOrderSoFar script j (moved at t (idle (n + 1)))
let_go_order script j at phase t n made k c go alone order =
    let p : Progress = idle (n + 1) in
    let holds : IsSome (at t).made = subst (λ (x : Progress). IsSome x.made) (sym go.place) refl in
    let number : (at t).next ≡ n = ap (λ (x : Progress). x.next) go.place in
    let its : op_at script t (at t).next ≡ Some c = subst (λ o. op_at script t o ≡ Some c) (sym number) go.is_op in
    let command : IsTrue (is_command c) = order.commands_hold t c its holds in
    record {
      commands_once = λ u o d is_d command_d has.
          order.commands_once u o d is_d command_d
          (moved-held (λ u x. HasBegun x o) at t p (λ h. subst (λ x. HasBegun x o) (sym go.place) (begun_back n made o h)) u has);
      entries_once = λ i u o d within is_d less.
          elim (where_moved at t p u) [
            | inr away ↦ order.entries_once i u o d within is_d (subst (λ (x : Progress). o < x.next) away.1 less)
            | inl here ↦
                let small : o < n + 1 = subst (λ (x : Progress). o < x.next) here.1 less in
                elim (cases_lt o n) [
                  | inl old ↦ order.entries_once i u o d within is_d (omega (arith, old, number, ap (λ v. (at v).next) here.0))
                  | inr new ↦
                      let same : o ≡ n = omega (arith, small, new) in
                      let d_is : c ≡ d = one_op script t n c d go.is_op (subst (λ v. op_at script v n ≡ Some d) here.0 (subst (λ w. op_at script u w ≡ Some d) same is_d)) in
                      let had : HasMade script j i t n k c made = subst (λ w. HasMade script j i t w k c made) number (order.under_way i t k made c within its (ap (λ (x : Progress). x.made) go.place) go.last) in
                      subst (λ v. Makes script j i v o d (filter (is_made_by v o) (slice_at j i))) (sym here.0)
                      (subst (λ w. Makes script j i t w d (filter (is_made_by t w) (slice_at j i))) (sym same)
                      (subst (λ x. Makes script j i t n x (filter (is_made_by t n) (slice_at j i))) d_is
                      (let_go_makes script j at phase t n made k c i go command alone had)))
                ]
          ];
      under_way = λ i u q m d within is_d has last. absurd (nobody j at t n made u go.place alone (some_is (moved at t p u).made m has));
      commands_hold = λ u d is_d has. absurd (nobody j at t n made u go.place alone has);
      holds_op = λ u has. absurd (nobody j at t n made u go.place alone has);
      no_others = order.no_others;
      marks = order.marks;
      entries_in_order = order.entries_in_order;
    }

-- A command that has made all its entries lets the tree go.
pub let_go_keeps : (script : ScriptValue) (j : JournalsValue) (at : ℕ → Progress) (phase t n made k : ℕ) (c : Op) → IsLetGo script j at phase t n made k c → IsKept script j at phase
    → IsKept script j (moved at t (idle (n + 1))) phase
let_go_keeps script j at phase t n made k c go kept =
    let p : Progress = idle (n + 1) in
    let none : (u : ℕ) → IsSome (moved at t p u).made → ⊥ = λ u some. nobody j at t n made u go.place kept.alone some in
    let keep : (u o : ℕ) → HasBegun (at u) o → HasBegun (moved at t p u) o = λ u o had.
    moved-holds (λ u x. HasBegun x o) at t p (λ h. begun_on n made o (subst (λ x. HasBegun x o) go.place h)) u had in
    record {
      in_phase = phase_moved script at phase t p go.here kept.in_phase;
      alone = record {
        one = λ u v a b. absurd (none u a);
        some = λ u a. absurd (none u a);
        there = λ u q a last. absurd (none u a);
        last = λ u q h a there taken. absurd (none u a);
      };
      of_begun = record {
        commands = λ q h there. keep h.thread h.op (kept.of_begun.commands q h there);
        entries = λ i q x there. keep x.thread x.op (kept.of_begun.entries i q x there);
        epochs = kept.of_begun.epochs;
        others = λ i q x there apart. record { within = kept.of_begun.epochs i q x there; before = λ u a. absurd (none u a) };
      };
      tags = λ u task cpu addr tag is_u has.
          elim (where_moved at t p u) [
            | inl here ↦ absurd (none_tag (moved at t p u).tag tag (ap (λ (x : Progress). x.tag) here.1) has)
            | inr away ↦
                let had : IsTagOf script j at u task cpu tag = kept.tags u task cpu addr tag
                (subst (λ (x : Progress). op_at script u x.next ≡ Some (Access task cpu addr)) away.1 is_u) (subst (λ (x : Progress). x.tag ≡ Some tag) away.1 has) in
                record {
                  is = had.is;
                  free = record { within = had.free.within; before = λ v a. absurd (none v a) };
                  behind = λ v o start stop d is_d comes marks. had.behind v o start stop d is_d (subst (λ (x : Progress). Precedes script v o u x.next) away.1 comes) marks;
                }
          ];
      entries_true = kept.entries_true;
      in_order = let_go_order script j at phase t n made k c go kept.alone kept.in_order;
    }
