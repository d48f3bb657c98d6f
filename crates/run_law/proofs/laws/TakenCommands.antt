-- A command takes the tree: from then on it stands last in the tree's history, whatever its reply and its counts will be.
use Rattle.std.proofs.Common.{◌≡◌, ℕ, ◌+◌, ◌<◌, Bool, true, false, inl, inr, [], ◌∷◌, ◌++◌, length, filter, map, take, Some, refl, sym, ap, ◌∙◌, subst, arith}
use Rattle.std.specs.Prelude.{IsSome, IsTrue}
use Rattle.std.proofs.lemmas.Bool.{cases_Bool}
use Rattle.std.proofs.lemmas.List.{length_push, take-append-le}
use Rattle.rc_base.specs.declared.names.Tag.{Tag}
use Rattle.run_law.specs.Ops.{Precedes, is_command}
use Rattle.run_law.specs.Journals.{At, JournalsValue, slice_at}
use Rattle.run_law.specs.Truth.{is_made_by, is_taken_from}
use Rattle.run_law.specs.Owed.{paid_by}
use Rattle.run_law.specs.TreeHistory.{TreeEntryValue, tree_after}
use Rattle.script_ops.specs.Values.{ScriptValue, op_at}
use Rattle.script_ops.specs.declared.op.Op.{Op}
use Rattle.script_ops.specs.declared.op.Op.TheVariants.{Access}
use Rattle.run_law.proofs.laws.LongerHistories.{makes_command, true_command}
use Rattle.run_law.proofs.laws.MovedThreads.{moved-held, moved-own, phase_moved, moved-holds, where_moved}
use Rattle.run_law.proofs.laws.NotedTruth.{holding, none_tag, one_op, same_made, some_is}
use Rattle.run_law.proofs.laws.OpMarks.{NoMarksLater, all_behind, marks_more, no_marks_later, not_some, still_behind}
use Rattle.run_law.proofs.laws.NewMarks.{marks_of_taken}
use Rattle.run_law.proofs.laws.Pairs.{both_eqb-true, both_eqb-same}
use Rattle.run_law.proofs.laws.Positions.{At-last, filter-none_at}
use Rattle.run_law.proofs.laws.GrownLists.{at_push, filter_push_false, filter_push_true, with_tree}
use Rattle.run_law.specs.Growth.{tag_of, AreInOrderSoFar, AreInPhase, AreOfBegun, HasMade, IsAlone, IsBehindAll, IsKept, IsTagOf}
use Rattle.run_law.specs.Progress.{HasBegun, Progress, moved}
use Rattle.run_law.proofs.laws.FreeTrees.{idle, tagged_apart, IsTaken, only_one, none_taken, none_made}

-- a test that cannot pass fails
pub fails : (b : Bool) → (IsTrue b → ⊥) → b ≡ false
fails true h = absurd (h refl)
fails false h = refl

-- one thread holds the tree
take_alone : (script : ScriptValue) (j : JournalsValue) (at : ℕ → Progress) (phase t n : ℕ) (c : Op) (h : TreeEntryValue) → IsTaken script at phase t n c h → AreOfBegun j at
    → IsAlone (with_tree j (j.tree ++ h ∷ [])) (moved at t (holding n 0))
take_alone script j at phase t n c h taken begun =
    let p : Progress = holding n 0 in
    let only : (u : ℕ) → IsSome (moved at t p u).made → u ≡ t = λ u some. only_one script at phase t n c h u taken some in
    let next : (u : ℕ) → u ≡ t → (moved at t p u).next ≡ n = λ u same. ap (λ v. (moved at t p v).next) same ∙ ap (λ (x : Progress). x.next) (moved-own at t p) in
    let mine : IsTrue (is_taken_from t n h) = both_eqb-same h.thread t h.op n taken.thread taken.number in
    record {
      one = λ u v a b. only u a ∙ sym (only v b);
      some = λ u a. omega (arith, length_push j.tree h);
      there = λ u k a last.
          let here : k ≡ length j.tree = omega (arith, last, length_push j.tree h) in (
            h,
            subst (λ q. At (j.tree ++ h ∷ []) q h) (sym here) (At-last j.tree h),
            subst (λ o. IsTrue (is_taken_from u o h)) (sym (next u (only u a))) (subst (λ v. IsTrue (is_taken_from v n h)) (sym (only u a)) mine),
          );
      last = λ u k x a there is. elim (at_push j.tree h k x there) [
        | inl old ↦ absurd (none_taken script j at phase t n c h taken begun k x old
            (subst (λ v. IsTrue (is_taken_from v n x)) (only u a) (subst (λ o. IsTrue (is_taken_from u o x)) (next u (only u a)) is)))
        | inr new ↦ omega (arith, new.0, length_push j.tree h)
      ];
    }

-- entries are of ops that have begun
take_begun : (script : ScriptValue) (j : JournalsValue) (at : ℕ → Progress) (phase t n : ℕ) (c : Op) (h : TreeEntryValue) → IsTaken script at phase t n c h → AreOfBegun j at
    → AreOfBegun (with_tree j (j.tree ++ h ∷ [])) (moved at t (holding n 0))
take_begun script j at phase t n c h taken begun =
    let p : Progress = holding n 0 in
    let go : (o : ℕ) → HasBegun (at t) o → HasBegun p o = λ o had. (let it : HasBegun (idle n) o = subst (λ x. HasBegun x o) taken.place had in elim it [ inl less ↦ inl less | inr under ↦ absurd (not_some (idle n).made refl under.1) ]) in
    let keep : (u o : ℕ) → HasBegun (at u) o → HasBegun (moved at t p u) o = λ u o had. moved-holds (λ u x. HasBegun x o) at t p (go o) u had in
    let mine : HasBegun (moved at t p h.thread) h.op =
    subst (λ u. HasBegun (moved at t p u) h.op) (sym taken.thread) (subst (λ x. HasBegun x h.op) (sym (moved-own at t p)) (inr (taken.number, refl))) in
    record {
      commands = λ k x there. elim (at_push j.tree h k x there) [
        | inl old ↦ keep x.thread x.op (begun.commands k x old)
        | inr new ↦ subst (λ (y : TreeEntryValue). HasBegun (moved at t p y.thread) y.op) (sym new.1) mine
      ];
      entries = λ i q x there. keep x.thread x.op (begun.entries i q x there);
      epochs = λ i q x there. omega (arith, begun.epochs i q x there, length_push j.tree h);
      others = λ i q x there apart.
          let early = begun.epochs i q x there in
          record { within = omega (arith, early, length_push j.tree h); before = λ u some. omega (arith, early, length_push j.tree h) };
    }

-- tags stay what they are
take_tags : (script : ScriptValue) (j : JournalsValue) (at : ℕ → Progress) (phase t n : ℕ) (c : Op) (h : TreeEntryValue) → IsTaken script at phase t n c h → AreInPhase script at phase
    → (u task cpu : ℕ) (tag : Tag) → (at u).tag ≡ Some tag → IsTagOf script j at u task cpu tag → IsTagOf script (with_tree j (j.tree ++ h ∷ [])) (moved at t (holding n 0)) u task cpu tag
take_tags script j at phase t n c h taken phases u task cpu tag has had =
    let p : Progress = holding n 0 in
    let early = had.free.within in
    let same : take tag.epoch (j.tree ++ h ∷ []) ≡ take tag.epoch j.tree = take-append-le tag.epoch j.tree (h ∷ []) early in
    let number : n ≡ (at t).next = sym (ap (λ (y : Progress). y.next) taken.place) in
    let apart : Precedes script h.thread h.op u (at u).next → ⊥ = λ comes.
    tagged_apart script at phase t n u tag phases taken.here number has
    (subst (λ v. Precedes script v n u (at u).next) taken.thread (subst (λ o. Precedes script h.thread o u (at u).next) taken.number comes)) in
    let behind : IsBehindAll script (with_tree j (j.tree ++ h ∷ [])) u (at u).next tag.epoch =
    still_behind script j (with_tree j (j.tree ++ h ∷ [])) h.thread h.op (length j.tree) (length j.tree + 1) u (at u).next tag.epoch (marks_of_taken script j h) apart had.behind in
    record {
      is = subst (λ tree. tag ≡ tag_of script.machine (tree_after script tree) tag.epoch task cpu) (sym same) had.is;
      free = record { within = omega (arith, early, length_push j.tree h); before = λ v some. omega (arith, early, length_push j.tree h) };
      behind = subst (λ o. IsBehindAll script (with_tree j (j.tree ++ h ∷ [])) u o tag.epoch) (sym (moved-holds (λ v (x : Progress). x.next ≡ (at v).next) at t p (λ _. number) u refl)) behind;
    }

-- each command is there once
take_once : (script : ScriptValue) (j : JournalsValue) (at : ℕ → Progress) (phase t n : ℕ) (c : Op) (h : TreeEntryValue) (u o : ℕ) (d : Op) → IsTaken script at phase t n c h → AreOfBegun j at → AreInOrderSoFar script j at
    → op_at script u o ≡ Some d → IsTrue (is_command d) → HasBegun (moved at t (holding n 0) u) o → length (filter (is_taken_from u o) (j.tree ++ h ∷ [])) ≡ 1
take_once script j at phase t n c h u o d taken begun order is_d command has =
    elim (cases_Bool (is_taken_from u o h)) [
      | inl mine ↦
          let is = both_eqb-true h.thread u h.op o mine in
          let none : filter (is_taken_from u o) j.tree ≡ [] = filter-none_at (is_taken_from u o) j.tree
          (λ k x there. fails (is_taken_from u o x)
          (λ its. none_taken script j at phase t n c h taken begun k x there
          (subst (λ v. IsTrue (is_taken_from v n x)) (sym is.0 ∙ taken.thread) (subst (λ w. IsTrue (is_taken_from u w x)) (sym is.1 ∙ taken.number) its)))) in
          ap length (filter_push_true (is_taken_from u o) j.tree h mine) ∙ ap (λ hs. length (hs ++ h ∷ [])) none
      | inr other ↦
          let old : HasBegun (at u) o = elim (where_moved at t (holding n 0) u) [
            | inr away ↦ subst (λ x. HasBegun x o) away.1 has
            | inl here ↦ elim (subst (λ x. HasBegun x o) here.1 has) [
              | inl less ↦ inl (omega (arith, less, ap (λ v. (at v).next) here.0, ap (λ (x : Progress). x.next) taken.place))
              | inr under ↦
                  absurd (let mine : IsTrue (is_taken_from u o h) = both_eqb-same h.thread u h.op o (taken.thread ∙ sym here.0) (taken.number ∙ sym under.0) in
                  let wrong : IsTrue false = subst (λ b. IsTrue b) other mine in absurd cc)
            ]
          ] in
          ap length (filter_push_false (is_taken_from u o) j.tree h other) ∙ order.commands_once u o d is_d command old
    ]

-- ops stay in order
take_order : (script : ScriptValue) (j : JournalsValue) (at : ℕ → Progress) (phase t n : ℕ) (c : Op) (h : TreeEntryValue) → IsTaken script at phase t n c h → AreInPhase script at phase → AreOfBegun j at → AreInOrderSoFar script j at
    → AreInOrderSoFar script (with_tree j (j.tree ++ h ∷ [])) (moved at t (holding n 0))
take_order script j at phase t n c h taken phases begun order =
    let p : Progress = holding n 0 in
    let now : JournalsValue = with_tree j (j.tree ++ h ∷ []) in
    let number : n ≡ (at t).next = sym (ap (λ (y : Progress). y.next) taken.place) in
    let only : (u : ℕ) → IsSome (moved at t p u).made → u ≡ t = λ u some. only_one script at phase t n c h u taken some in
    let next : (u : ℕ) → u ≡ t → (moved at t p u).next ≡ n = λ u same. ap (λ v. (moved at t p v).next) same ∙ ap (λ (x : Progress). x.next) (moved-own at t p) in
    record {
      commands_once = λ u o d is_d command has. take_once script j at phase t n c h u o d taken begun order is_d command has;
      entries_once = λ i u o d within is_d less.
          let early : o < (at u).next = moved-held (λ u (x : Progress). o < x.next) at t p (λ small. omega (arith, small, number)) u less in
          makes_command script j h i u o d (filter (is_made_by u o) (slice_at j i))
          (λ mine. let is = both_eqb-true h.thread u h.op o mine in omega (arith, early, number, ap (λ v. (at v).next) (sym is.0 ∙ taken.thread), sym is.1 ∙ taken.number))
          (order.entries_once i u o d within is_d early);
      under_way = λ i u k made d within is_d has last.
          let same : u ≡ t = only u (some_is (moved at t p u).made made has) in
          let zero_made : made ≡ 0 = same_made (moved at t p u).made 0 made (ap (λ v. (moved at t p v).made) same ∙ ap (λ (x : Progress). x.made) (moved-own at t p)) has in
          let none : filter (is_made_by t n) (slice_at j i) ≡ [] = filter-none_at (is_made_by t n) (slice_at j i)
          (λ q x there. fails (is_made_by t n x) (λ its. none_made script j at phase t n c h taken begun i q x there its)) in
          subst (λ v. HasMade script now i v (moved at t p u).next k d made) (sym same)
          (subst (λ o. HasMade script now i t o k d made) (sym (next u same))
          (subst (λ m. HasMade script now i t n k d m) (sym zero_made) (ap (map paid_by) none)));
      commands_hold = λ u d is_d has.
          let same : u ≡ t = only u has in
          subst (λ x. IsTrue (is_command x)) (one_op script t n c d taken.is_op (subst (λ v. op_at script v n ≡ Some d) same (subst (λ o. op_at script u o ≡ Some d) (next u same) is_d))) taken.command;
      holds_op = λ u has.
          let same : u ≡ t = only u has in
          subst (λ v. IsSome (op_at script v (moved at t p u).next)) (sym same) (subst (λ o. IsSome (op_at script t o)) (sym (next u same)) (subst (λ o. IsSome o) (sym taken.is_op) refl));
      no_others = λ i q x there. order.no_others i q x there;
      marks =
          marks_more script j now h.thread h.op (length j.tree) (length j.tree + 1) (marks_of_taken script j h) order.marks (all_behind script j at h.thread h.op begun)
          (subst (λ v. NoMarksLater script j v h.op) (sym taken.thread) (subst (λ o. NoMarksLater script j t o) (sym taken.number) (no_marks_later script j at phase t n phases begun taken.here number)));
      entries_in_order = order.entries_in_order;
    }

-- A command takes the tree.
pub take_keeps : (script : ScriptValue) (j : JournalsValue) (at : ℕ → Progress) (phase t n : ℕ) (c : Op) (h : TreeEntryValue) → IsTaken script at phase t n c h → IsKept script j at phase
    → IsKept script (with_tree j (j.tree ++ h ∷ [])) (moved at t (holding n 0)) phase
take_keeps script j at phase t n c h taken kept =
    let p : Progress = holding n 0 in
    let number : n ≡ (at t).next = sym (ap (λ (y : Progress). y.next) taken.place) in
    record {
      in_phase = phase_moved script at phase t p taken.here kept.in_phase;
      alone = take_alone script j at phase t n c h taken kept.of_begun;
      of_begun = take_begun script j at phase t n c h taken kept.of_begun;
      tags = λ u task cpu addr tag is_u has.
          let old : (at u).tag ≡ Some tag = moved-held (λ u (x : Progress). x.tag ≡ Some tag) at t p (λ got. absurd (none_tag p.tag tag refl got)) u has in
          take_tags script j at phase t n c h taken kept.in_phase u task cpu tag old
          (kept.tags u task cpu addr tag
          (moved-held (λ u x. op_at script u x.next ≡ Some (Access task cpu addr)) at t p (λ got. subst (λ o. op_at script t o ≡ Some (Access task cpu addr)) number got) u is_u)
          old);
      entries_true = true_command script j h kept.of_begun.epochs kept.entries_true;
      in_order = take_order script j at phase t n c h taken kept.in_phase kept.of_begun kept.in_order;
    }
