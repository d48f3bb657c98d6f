-- An access makes its entry: what is kept of the journals.
use Rattle.std.proofs.Common.{◌≡◌, ℕ, ◌+◌, ◌<◌, false, inl, inr, List, [], filter, map, get_or, Some, refl, sym, ap, ◌∙◌, subst, arith}
use Rattle.std.specs.Prelude.{IsSome, IsTrue}
use Rattle.std.proofs.lemmas.Bool.{cases_lt}
use Rattle.cache_core.specs.declared.entry.SliceEntry.{SliceEntry}
use Rattle.machine.specs.Maps.{domain_of, line_of}
use Rattle.rc_base.specs.declared.names.Tag.{Tag}
use Rattle.run_law.specs.Ops.{Precedes, is_command}
use Rattle.run_law.specs.Truth.{is_made_by}
use Rattle.run_law.specs.Journals.{JournalsValue}
use Rattle.run_law.specs.Order.{Makes}
use Rattle.run_law.specs.Owed.{paid_by}
use Rattle.machine.specs.Slices.{slice_of_line}
use Rattle.script_ops.specs.Values.{ScriptValue, op_at}
use Rattle.script_ops.specs.declared.op.Op.TheVariants.{Access}
use Rattle.run_law.proofs.laws.DoneCommands.{begun_back}
use Rattle.run_law.proofs.laws.MovedThreads.{phase_moved, where_moved}
use Rattle.run_law.proofs.laws.NotedTruth.{none_tag, one_op, other_op}
use Rattle.run_law.proofs.laws.OpMarks.{NoMarksLater, entries_entry, marks_more, no_marks_later, nothing_later, still_behind}
use Rattle.run_law.proofs.laws.NewMarks.{marks_of_access}
use Rattle.run_law.proofs.laws.GrownLists.{made_as_before, stood, with_slices}
use Rattle.run_law.proofs.laws.FreeTrees.{idle, tagged_apart}
use Rattle.run_law.specs.Growth.{AreInOrderSoFar, AreInPhase, AreOfBegun, HasMade, IsBehindAll, IsKept, IsTagOf}
use Rattle.run_law.specs.Progress.{HasBegun, Progress, moved}
use Rattle.run_law.proofs.laws.MadeTruth.{IsTouched, touch_holds, other_where, touch_alone, touch_begun, touch_true, touch_makes}

-- ops stay in order
pub touch_order : (script : ScriptValue) (j : JournalsValue) (at : ℕ → Progress) (phase t n task cpu addr : ℕ) (tag : Tag) (e : SliceEntry) (slices : List (List SliceEntry))
    → IsTouched script j at phase t n task cpu addr tag e slices → IsTagOf script j at t task cpu tag → AreInPhase script at phase → AreOfBegun j at → AreInOrderSoFar script j at
    → AreInOrderSoFar script (with_slices j slices) (moved at t (idle (n + 1)))
touch_order script j at phase t n task cpu addr tag e slices touch its phases begun order =
    let p : Progress = idle (n + 1) in
    let slice : ℕ = slice_of_line script.machine (domain_of script.machine cpu) (line_of addr) in
    let now : JournalsValue = with_slices j slices in
    let number : (at t).next ≡ n = ap (λ (x : Progress). x.next) touch.place in
    let is_op : op_at script e.thread e.op ≡ Some (Access task cpu addr) = rw (touch.pays.thread, touch.pays.op) touch.is_op in
    record {
      commands_once = λ u o d is_d command has.
          order.commands_once u o d is_d command
          (elim (where_moved at t p u) [
            | inr away ↦ subst (λ x. HasBegun x o) away.1 has
            | inl here ↦ elim (begun_back n 0 o (subst (λ x. HasBegun x o) here.1 has)) [
              | inl less ↦ inl (omega (arith, less, number, ap (λ v. (at v).next) here.0))
              | inr last ↦
                  absurd
                  (let access : IsTrue (is_command (Access task cpu addr)) =
                  subst (λ x. IsTrue (is_command x))
                  (one_op script t n d (Access task cpu addr) (subst (λ v. op_at script v n ≡ Some d) here.0 (subst (λ w. op_at script u w ≡ Some d) last.0 is_d)) touch.is_op) command in cc)
            ]
          ]);
      entries_once = λ i u o d within is_d less.
          let old : (o < (at u).next) → Makes script now i u o d (filter (is_made_by u o) (get_or slices i [])) = λ early.
          subst (λ made. Makes script j i u o d made)
          (made_as_before j slices slice e touch.adds i u o (other_op u t o n e touch.pays.thread touch.pays.op (λ same. omega (arith, early, ap (λ v. (at v).next) same.0, number, same.1))))
          (order.entries_once i u o d within is_d early) in
          elim (where_moved at t p u) [
            | inr away ↦ old (subst (λ (x : Progress). o < x.next) away.1 less)
            | inl here ↦
                let small : o < n + 1 = subst (λ (x : Progress). o < x.next) here.1 less in
                elim (cases_lt o n) [
                  | inl before_it ↦ old (omega (arith, before_it, number, ap (λ v. (at v).next) here.0))
                  | inr new ↦
                      let same : o ≡ n = omega (arith, small, new) in
                      let d_is : Access task cpu addr ≡ d = one_op script t n (Access task cpu addr) d touch.is_op (subst (λ v. op_at script v n ≡ Some d) here.0 (subst (λ w. op_at script u w ≡ Some d) same is_d)) in
                      subst (λ v. Makes script now i v o d (filter (is_made_by v o) (get_or slices i []))) (sym here.0)
                      (subst (λ w. Makes script now i t w d (filter (is_made_by t w) (get_or slices i []))) (sym same)
                      (subst (λ x. Makes script now i t n x (filter (is_made_by t n) (get_or slices i []))) d_is
                      (touch_makes script j at phase t n task cpu addr tag e slices i touch begun)))
                ]
          ];
      under_way = λ i u k m d within is_d has last.
          let holds = touch_holds at t n u (subst (λ x. IsSome x) (sym has) refl) in
          let same : moved at t p u ≡ at u = other_where at t u p holds.0 in
          let had : HasMade script j i u (at u).next k d m = order.under_way i u k m d within (subst (λ (x : Progress). op_at script u x.next ≡ Some d) same is_d) (subst (λ (x : Progress). x.made ≡ Some m) same has) last in
          let other : is_made_by u (at u).next e ≡ false = other_op u t (at u).next n e touch.pays.thread touch.pays.op (λ both. holds.0 both.0) in
          subst (λ (x : Progress). HasMade script now i u x.next k d m) (sym same)
          (ap (map paid_by) (sym (made_as_before j slices slice e touch.adds i u (at u).next other)) ∙ had);
      commands_hold = λ u d is_d has.
          let holds = touch_holds at t n u has in
          order.commands_hold u d (subst (λ (x : Progress). op_at script u x.next ≡ Some d) (other_where at t u p holds.0) is_d) holds.1;
      holds_op = λ u has. (let holds = touch_holds at t n u has in subst (λ (x : Progress). IsSome (op_at script u x.next)) (sym (other_where at t u p holds.0)) (order.holds_op u holds.1));
      no_others = λ i q x there. elim (stood j slices slice e touch.adds i q x there) [
        | inl old ↦ order.no_others i q x old
        | inr new ↦ subst (λ (y : SliceEntry). IsSome (op_at script y.thread y.op)) (sym new.2) (subst (λ o. IsSome o) (sym is_op) refl)
      ];
      marks = marks_more script j now e.thread e.op e.epoch e.epoch (marks_of_access script j slices slice e touch.adds) order.marks
          (subst (λ epoch. IsBehindAll script j e.thread e.op epoch) (sym touch.epoch)
          (subst (λ v. IsBehindAll script j v e.op tag.epoch) (sym touch.pays.thread) (subst (λ o. IsBehindAll script j t o tag.epoch) (number ∙ sym touch.pays.op) its.behind)))
          (subst (λ v. NoMarksLater script j v e.op) (sym touch.pays.thread)
          (subst (λ o. NoMarksLater script j t o) (sym touch.pays.op) (no_marks_later script j at phase t n phases begun touch.here (sym number))));
      entries_in_order = entries_entry script j slices slice e touch.adds order.entries_in_order
          (λ i q x there comes.
          nothing_later script at phase t n x.thread x.op phases touch.here (sym number)
          (subst (λ v. Precedes script v n x.thread x.op) touch.pays.thread (subst (λ o. Precedes script e.thread o x.thread x.op) touch.pays.op comes)) (begun.entries i q x there));
    }

-- tags stay what they are
pub touch_tags : (script : ScriptValue) (j : JournalsValue) (at : ℕ → Progress) (phase t n task cpu addr : ℕ) (tag : Tag) (e : SliceEntry) (slices : List (List SliceEntry))
    → IsTouched script j at phase t n task cpu addr tag e slices → AreInPhase script at phase
    → (u a b : ℕ) (its : Tag) → (u ≡ t → ⊥) → (at u).tag ≡ Some its → IsTagOf script j at u a b its → IsTagOf script (with_slices j slices) (moved at t (idle (n + 1))) u a b its
touch_tags script j at phase t n task cpu addr tag e slices touch phases u a b its apart has had =
    let p : Progress = idle (n + 1) in
    let slice : ℕ = slice_of_line script.machine (domain_of script.machine cpu) (line_of addr) in
    let number : n ≡ (at t).next = sym (ap (λ (x : Progress). x.next) touch.place) in
    let away : Precedes script e.thread e.op u (at u).next → ⊥ = λ comes.
    tagged_apart script at phase t n u its phases touch.here number has
    (subst (λ v. Precedes script v n u (at u).next) touch.pays.thread (subst (λ o. Precedes script e.thread o u (at u).next) touch.pays.op comes)) in
    record {
      is = had.is;
      free = record { within = had.free.within; before = λ v some. had.free.before v (touch_holds at t n v some).1 };
      behind = subst (λ (x : Progress). IsBehindAll script (with_slices j slices) u x.next its.epoch) (sym (other_where at t u p apart))
          (still_behind script j (with_slices j slices) e.thread e.op e.epoch e.epoch u (at u).next its.epoch (marks_of_access script j slices slice e touch.adds) away had.behind);
    }

-- An access makes its entry.
pub touch_keeps : (script : ScriptValue) (j : JournalsValue) (at : ℕ → Progress) (phase t n task cpu addr : ℕ) (tag : Tag) (e : SliceEntry) (slices : List (List SliceEntry))
    → IsTouched script j at phase t n task cpu addr tag e slices → IsKept script j at phase → IsKept script (with_slices j slices) (moved at t (idle (n + 1))) phase
touch_keeps script j at phase t n task cpu addr tag e slices touch kept =
    let p : Progress = idle (n + 1) in
    let number : (at t).next ≡ n = ap (λ (x : Progress). x.next) touch.place in
    let its : IsTagOf script j at t task cpu tag = kept.tags t task cpu addr tag (subst (λ o. op_at script t o ≡ Some (Access task cpu addr)) (sym number) touch.is_op) (ap (λ (x : Progress). x.tag) touch.place) in
    record {
      in_phase = phase_moved script at phase t p touch.here kept.in_phase;
      alone = touch_alone j at slices t n kept.alone;
      of_begun = touch_begun script j at phase t n task cpu addr tag e slices touch its.free kept.of_begun;
      tags = λ u a b d other is_u has.
          elim (where_moved at t p u) [
            | inl mine ↦ absurd (none_tag (moved at t p u).tag other (ap (λ (x : Progress). x.tag) mine.1) has)
            | inr away ↦
                let old : (at u).tag ≡ Some other = subst (λ (x : Progress). x.tag ≡ Some other) away.1 has in
                touch_tags script j at phase t n task cpu addr tag e slices touch kept.in_phase u a b other away.0 old
                (kept.tags u a b d other (subst (λ (x : Progress). op_at script u x.next ≡ Some (Access a b d)) away.1 is_u) old)
          ];
      entries_true = touch_true script j at phase t n task cpu addr tag e slices touch its.free kept.of_begun kept.entries_true;
      in_order = touch_order script j at phase t n task cpu addr tag e slices touch its kept.in_phase kept.of_begun kept.in_order;
    }
