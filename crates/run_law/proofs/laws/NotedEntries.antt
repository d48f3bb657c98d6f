-- A command that holds the tree makes an entry: what is kept of the journals.
use Rattle.std.proofs.Common.{◌≡◌, ℕ, ◌+◌, ◌<◌, false, inl, inr, List, Some, refl, sym, ap, subst, arith}
use Rattle.std.specs.Prelude.{IsSome, IsTrue}
use Rattle.cache_core.specs.declared.entry.SliceEntry.{SliceEntry}
use Rattle.rc_base.specs.declared.names.Tag.{Tag}
use Rattle.run_law.specs.Ops.{Precedes, is_command}
use Rattle.run_law.specs.Truth.{is_made_by}
use Rattle.run_law.specs.Journals.{JournalsValue}
use Rattle.run_law.specs.Order.{Makes}
use Rattle.script_ops.specs.Values.{ScriptValue, op_at}
use Rattle.script_ops.specs.declared.op.Op.{Op}
use Rattle.script_ops.specs.declared.op.Op.TheVariants.{Access}
use Rattle.run_law.proofs.laws.MovedThreads.{moved-held, moved-own, phase_moved, moved-holds}
use Rattle.run_law.proofs.laws.OpMarks.{entries_entry, nothing_later}
use Rattle.run_law.proofs.laws.NewMarks.{marks_of_command}
use Rattle.run_law.proofs.laws.GrownLists.{made_as_before, stood, with_slices}
use Rattle.run_law.specs.Jobs.{Job}
use Rattle.run_law.specs.Growth.{AreInOrderSoFar, AreInPhase, AreOfBegun, HasMade, IsAlone, IsKept, IsTagOf}
use Rattle.run_law.specs.Progress.{HasBegun, Progress, moved}
use Rattle.run_law.proofs.laws.NotedTruth.{holding, IsNoted, some_is, none_tag, same_made, one_op, note_alone, note_begun, note_true, note_made, other_op}

-- ops stay in order
pub note_order : (script : ScriptValue) (j : JournalsValue) (at : ℕ → Progress) (phase t n made k : ℕ) (c : Op) (job : Job) (e : SliceEntry) (slices : List (List SliceEntry))
    → IsNoted script j at phase t n made k c job e slices → IsTrue (is_command c) → AreInPhase script at phase → IsAlone j at → AreOfBegun j at → AreInOrderSoFar script j at
    → AreInOrderSoFar script (with_slices j slices) (moved at t (holding n (made + 1)))
note_order script j at phase t n made k c job e slices note command phases alone begun order =
    let p : Progress = holding n (made + 1) in
    let number : (at t).next ≡ n = ap (λ (x : Progress). x.next) note.place in
    let holds : IsSome (at t).made = subst (λ (x : Progress). IsSome x.made) (sym note.place) refl in
    let is_op : op_at script e.thread e.op ≡ Some c = rw (note.pays.thread, note.pays.op) note.is_op in
    let back : (u : ℕ) → IsSome (moved at t p u).made → IsSome (at u).made = λ u h. moved-held (λ u x. IsSome x.made) at t p (λ _. holds) u h in
    record {
      commands_once = λ u o d is_d command_d has. order.commands_once u o d is_d command_d
          (moved-held (λ u x. HasBegun x o) at t p
          (λ h. subst (λ x. HasBegun x o) (sym note.place) (elim h [ inl less ↦ inl less | inr under ↦ inr (under.0, refl) ])) u has);
      entries_once = λ i u o d within is_d less.
          let early : o < (at u).next = moved-held (λ u x. o < x.next) at t p (λ h. omega (arith, h, number)) u less in
          let other : is_made_by u o e ≡ false = other_op u t o n e note.pays.thread note.pays.op (λ same. omega (arith, early, ap (λ v. (at v).next) same.0, number, same.1)) in
          subst (λ made. Makes script j i u o d made) (made_as_before j slices job.slice e note.adds i u o other) (order.entries_once i u o d within is_d early);
      under_way = λ i u q made_now d within is_d has last.
          let same : u ≡ t = alone.one u t (back u (some_is (moved at t p u).made made_now has)) holds in
          let now : moved at t p u ≡ p = subst (λ v. moved at t p v ≡ p) (sym same) (moved-own at t p) in
          let count : made_now ≡ made + 1 = same_made (moved at t p u).made (made + 1) made_now (ap (λ (x : Progress). x.made) now) has in
          let next : (moved at t p u).next ≡ n = ap (λ (x : Progress). x.next) now in
          let position : q ≡ k = omega (arith, last, note.last) in
          let d_is : c ≡ d = one_op script t n c d note.is_op (subst (λ v. op_at script v n ≡ Some d) same (subst (λ o. op_at script u o ≡ Some d) next is_d)) in
          let had : HasMade script j i t n k c made =
          subst (λ o. HasMade script j i t o k c made) number
          (order.under_way i t k made c within (subst (λ o. op_at script t o ≡ Some c) (sym number) note.is_op) (ap (λ (x : Progress). x.made) note.place) note.last) in
          subst (λ v. HasMade script (with_slices j slices) i v (moved at t p u).next q d made_now) (sym same)
          (subst (λ o. HasMade script (with_slices j slices) i t o q d made_now) (sym next)
          (subst (λ y. HasMade script (with_slices j slices) i t n y d made_now) (sym position)
          (subst (λ y. HasMade script (with_slices j slices) i t n k y made_now) d_is
          (subst (λ y. HasMade script (with_slices j slices) i t n k c y) (sym count)
          (note_made script j at phase t n made k c job e slices i note had)))));
      commands_hold = λ u d is_d has. order.commands_hold u d
          (moved-held (λ u x. op_at script u x.next ≡ Some d) at t p (λ h. subst (λ o. op_at script t o ≡ Some d) (sym number) h) u is_d) (back u has);
      holds_op = λ u has. moved-holds (λ u x. IsSome (op_at script u x.next)) at t p (λ h. subst (λ o. IsSome (op_at script t o)) number h) u (order.holds_op u (back u has));
      no_others = λ i q x there. elim (stood j slices job.slice e note.adds i q x there) [
        | inl old ↦ order.no_others i q x old
        | inr new ↦ subst (λ (y : SliceEntry). IsSome (op_at script y.thread y.op)) (sym new.2) (subst (λ o. IsSome o) (sym is_op) refl)
      ];
      marks = λ u o v l start stop later_start later_stop a b is_a is_b comes marks later_marks.
          order.marks u o v l start stop later_start later_stop a b is_a is_b comes
          (marks_of_command script j slices job.slice e c note.adds is_op command u o start stop a is_a marks)
          (marks_of_command script j slices job.slice e c note.adds is_op command v l later_start later_stop b is_b later_marks);
      entries_in_order = entries_entry script j slices job.slice e note.adds order.entries_in_order
          (λ i q x there comes.
          nothing_later script at phase t n x.thread x.op phases note.here (sym number)
          (subst (λ v. Precedes script v n x.thread x.op) note.pays.thread (subst (λ o. Precedes script e.thread o x.thread x.op) note.pays.op comes)) (begun.entries i q x there));
    }

-- tags stay what they are
pub note_tags : (script : ScriptValue) (j : JournalsValue) (at : ℕ → Progress) (phase t n made k : ℕ) (c : Op) (job : Job) (e : SliceEntry) (slices : List (List SliceEntry))
    → IsNoted script j at phase t n made k c job e slices → IsTrue (is_command c)
    → (u task cpu : ℕ) (tag : Tag) → IsTagOf script j at u task cpu tag → IsTagOf script (with_slices j slices) (moved at t (holding n (made + 1))) u task cpu tag
note_tags script j at phase t n made k c job e slices note command u task cpu tag had =
    let p : Progress = holding n (made + 1) in
    let holds : IsSome (at t).made = subst (λ (x : Progress). IsSome x.made) (sym note.place) refl in
    let is_op : op_at script e.thread e.op ≡ Some c = rw (note.pays.thread, note.pays.op) note.is_op in
    record {
      is = had.is;
      free = record { within = had.free.within; before = λ v h. had.free.before v (moved-held (λ v x. IsSome x.made) at t p (λ _. holds) v h) };
      behind = λ v o start stop d is_d comes marks.
          had.behind v o start stop d is_d
          (moved-held (λ w x. Precedes script v o w x.next) at t p (λ h. subst (λ (x : Progress). Precedes script v o t x.next) (sym note.place) h) u comes)
          (marks_of_command script j slices job.slice e c note.adds is_op command v o start stop d is_d marks);
    }

-- A command that holds the tree makes one entry more.
pub note_keeps : (script : ScriptValue) (j : JournalsValue) (at : ℕ → Progress) (phase t n made k : ℕ) (c : Op) (job : Job) (e : SliceEntry) (slices : List (List SliceEntry))
    → IsNoted script j at phase t n made k c job e slices → IsKept script j at phase → IsKept script (with_slices j slices) (moved at t (holding n (made + 1))) phase
note_keeps script j at phase t n made k c job e slices note kept =
    let p : Progress = holding n (made + 1) in
    let number : (at t).next ≡ n = ap (λ (x : Progress). x.next) note.place in
    let holds : IsSome (at t).made = subst (λ (x : Progress). IsSome x.made) (sym note.place) refl in
    let command : IsTrue (is_command c) = kept.in_order.commands_hold t c (subst (λ o. op_at script t o ≡ Some c) (sym number) note.is_op) holds in
    record {
      in_phase = phase_moved script at phase t p note.here kept.in_phase;
      alone = note_alone j at slices t n made note.place kept.alone;
      of_begun = note_begun script j at phase t n made k c job e slices note kept.of_begun;
      tags = λ u task cpu addr tag is_u has.
          note_tags script j at phase t n made k c job e slices note command u task cpu tag
          (kept.tags u task cpu addr tag
          (moved-held (λ u x. op_at script u x.next ≡ Some (Access task cpu addr)) at t p (λ h. subst (λ o. op_at script t o ≡ Some (Access task cpu addr)) (sym number) h) u is_u)
          (moved-held (λ u (x : Progress). x.tag ≡ Some tag) at t p (λ h. absurd (none_tag p.tag tag refl h)) u has));
      entries_true = note_true script j at phase t n made k c job e slices note command kept.alone kept.of_begun kept.entries_true;
      in_order = note_order script j at phase t n made k c job e slices note command kept.in_phase kept.alone kept.of_begun kept.in_order;
    }
