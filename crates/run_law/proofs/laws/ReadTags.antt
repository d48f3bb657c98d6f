-- An access learns its tag, or finds it stale and forgets it.
use Rattle.std.proofs.Common.{◌≡◌, ℕ, inl, inr, length, Option, Some, None, refl, sym, ap, ◌∙◌, subst, arith}
use Rattle.std.specs.Prelude.{IsSome, IsTrue}
use Rattle.std.proofs.Math.Seq.{take-length}
use Rattle.std.proofs.lemmas.Option.{same_Some}
use Rattle.rc_base.specs.declared.names.Tag.{Tag}
use Rattle.run_law.specs.Ops.{phase_in}
use Rattle.run_law.specs.Journals.{At, JournalsValue}
use Rattle.run_law.specs.Truth.{is_taken_from}
use Rattle.run_law.specs.TreeHistory.{TreeEntryValue, tree_after}
use Rattle.script_ops.specs.Values.{ScriptValue, op_at}
use Rattle.script_ops.specs.declared.op.Op.TheVariants.{Access}
use Rattle.run_law.proofs.laws.MovedThreads.{moved-held, phase_moved, moved-holds, where_moved}
use Rattle.run_law.proofs.laws.NotedTruth.{none_tag}
use Rattle.run_law.proofs.laws.OpMarks.{all_behind, not_some}
use Rattle.run_law.proofs.laws.FreeTrees.{idle}
use Rattle.run_law.specs.Growth.{tag_of, HasMade, IsBehindAll, IsFree, IsKept, IsTagOf}
use Rattle.run_law.specs.Progress.{HasBegun, IsUnderWay, Progress, moved}

-- a thread's progress while it holds nothing
abbrev pub outside : ℕ → Option Tag → Progress
outside n tag = record { next = n; made = None; tag = tag }

-- a thread that holds nothing gets a tag or loses it
pub retag_keeps : (script : ScriptValue) (j : JournalsValue) (at : ℕ → Progress) (phase t n : ℕ) (old new : Option Tag) → phase_in script.phases t ≡ phase → at t ≡ outside n old
    → ((task cpu addr : ℕ) (tag : Tag) → op_at script t n ≡ Some (Access task cpu addr) → new ≡ Some tag → IsTagOf script j at t task cpu tag)
    → IsKept script j at phase → IsKept script j (moved at t (outside n new)) phase
retag_keeps script j at phase t n old new here place tags kept =
    let p : Progress = outside n new in
    let number : (at t).next ≡ n = ap (λ (x : Progress). x.next) place in
    let back : (u : ℕ) → IsSome (moved at t p u).made → IsSome (at u).made = λ u some. moved-held (λ u x. IsSome x.made) at t p (λ wrong. absurd (not_some p.made refl wrong)) u some in
    let next : (u : ℕ) → (moved at t p u).next ≡ (at u).next = λ u. moved-holds (λ u (x : Progress). x.next ≡ (at u).next) at t p (λ _. sym number) u refl in
    let made : (u : ℕ) → (moved at t p u).made ≡ (at u).made = λ u. moved-holds (λ u (x : Progress). x.made ≡ (at u).made) at t p (λ _. sym (ap (λ (x : Progress). x.made) place)) u refl in
    let keep : (u o : ℕ) → HasBegun (at u) o → HasBegun (moved at t p u) o = λ u o had.
    moved-holds (λ u x. HasBegun x o) at t p (λ h. (let it : HasBegun (outside n old) o = subst (λ x. HasBegun x o) place h in it)) u had in
    let lose : (u o : ℕ) → HasBegun (moved at t p u) o → HasBegun (at u) o = λ u o had.
    moved-held (λ u x. HasBegun x o) at t p (λ h. (let it : HasBegun (outside n old) o = h in subst (λ x. HasBegun x o) (sym place) it)) u had in
    let under : (u o : ℕ) → IsUnderWay (at u) o → IsUnderWay (moved at t p u) o = λ u o had. (had.0 ∙ sym (next u), subst (λ x. IsSome x) (sym (made u)) had.1) in
    let free : (epoch : ℕ) → IsFree at j.tree epoch → IsFree (moved at t p) j.tree epoch = λ epoch f. record { within = f.within; before = λ u some. f.before u (back u some) } in
    let still_tag : (u task cpu : ℕ) (tag : Tag) → IsTagOf script j at u task cpu tag → IsTagOf script j (moved at t p) u task cpu tag = λ u task cpu tag had.
    record {
      is = had.is;
      free = free tag.epoch had.free;
      behind = subst (λ o. IsBehindAll script j u o tag.epoch) (sym (next u)) had.behind;
    } in
    record {
      in_phase = phase_moved script at phase t p here kept.in_phase;
      alone = record {
        one = λ u v a b. kept.alone.one u v (back u a) (back v b);
        some = λ u a. kept.alone.some u (back u a);
        there = λ u k a last. subst (λ o. (h : TreeEntryValue) × At j.tree k h × IsTrue (is_taken_from u o h)) (sym (next u)) (kept.alone.there u k (back u a) last);
        last = λ u k h a there taken. kept.alone.last u k h (back u a) there (subst (λ o. IsTrue (is_taken_from u o h)) (next u) taken);
      };
      of_begun = record {
        commands = λ q h there. keep h.thread h.op (kept.of_begun.commands q h there);
        entries = λ i q x there. keep x.thread x.op (kept.of_begun.entries i q x there);
        epochs = kept.of_begun.epochs;
        others = λ i q x there apart. free x.epoch (kept.of_begun.others i q x there (λ had. apart (under x.thread x.op had)));
      };
      tags = λ u task cpu addr tag is_u has.
          elim (where_moved at t p u) [
            | inl mine ↦
                let is_t : op_at script t n ≡ Some (Access task cpu addr) =
                subst (λ v. op_at script v n ≡ Some (Access task cpu addr)) mine.0 (subst (λ (x : Progress). op_at script u x.next ≡ Some (Access task cpu addr)) mine.1 is_u) in
                still_tag u task cpu tag (subst (λ v. IsTagOf script j at v task cpu tag) (sym mine.0) (tags task cpu addr tag is_t (subst (λ (x : Progress). x.tag ≡ Some tag) mine.1 has)))
            | inr away ↦
                still_tag u task cpu tag
                (kept.tags u task cpu addr tag (subst (λ (x : Progress). op_at script u x.next ≡ Some (Access task cpu addr)) away.1 is_u) (subst (λ (x : Progress). x.tag ≡ Some tag) away.1 has))
          ];
      entries_true = kept.entries_true;
      in_order = record {
        commands_once = λ u o d is_d command has. kept.in_order.commands_once u o d is_d command (lose u o has);
        entries_once = λ i u o d within is_d less. kept.in_order.entries_once i u o d within is_d (omega (arith, less, next u));
        under_way = λ i u k m d within is_d has last.
            subst (λ o. HasMade script j i u o k d m) (sym (next u)) (kept.in_order.under_way i u k m d within (subst (λ o. op_at script u o ≡ Some d) (next u) is_d) (sym (made u) ∙ has) last);
        commands_hold = λ u d is_d has. kept.in_order.commands_hold u d (subst (λ o. op_at script u o ≡ Some d) (next u) is_d) (back u has);
        holds_op = λ u has. subst (λ o. IsSome (op_at script u o)) (sym (next u)) (kept.in_order.holds_op u (back u has));
        no_others = kept.in_order.no_others;
        marks = kept.in_order.marks;
        entries_in_order = kept.in_order.entries_in_order;
      };
    }

-- an access by its number is one access
same_access : (script : ScriptValue) (t n task cpu addr a b d : ℕ) → op_at script t n ≡ Some (Access task cpu addr) → op_at script t n ≡ Some (Access a b d) → (a ≡ task) × (b ≡ cpu)
same_access script t n task cpu addr a b d h k = (cc, cc)

-- an access learns its tag while nobody holds the tree
pub tag_keeps : (script : ScriptValue) (j : JournalsValue) (at : ℕ → Progress) (phase t n task cpu addr : ℕ) → phase_in script.phases t ≡ phase → at t ≡ idle n
    → op_at script t n ≡ Some (Access task cpu addr) → ((u : ℕ) → IsSome (at u).made → ⊥)
    → IsKept script j at phase → IsKept script j (moved at t (outside n (Some (tag_of script.machine (tree_after script j.tree) (length j.tree) task cpu)))) phase
tag_keeps script j at phase t n task cpu addr here place is nobody kept =
    let m = script.machine in
    let mine : Tag = tag_of m (tree_after script j.tree) (length j.tree) task cpu in
    retag_keeps script j at phase t n None (Some mine) here place
    (λ a b d tag is_a has.
    let same = same_access script t n task cpu addr a b d is is_a in
    let tag_is : mine ≡ tag = same_Some mine tag has in
    let made : IsTagOf script j at t task cpu mine = record {
      is = ap (λ tree. tag_of m (tree_after script tree) (length j.tree) task cpu) (sym (take-length j.tree));
      free = record { within = omega arith; before = λ u some. absurd (nobody u some) };
      behind = all_behind script j at t (at t).next kept.of_begun;
    } in
    subst (λ x. IsTagOf script j at t a x tag) (sym same.1) (subst (λ x. IsTagOf script j at t x cpu tag) (sym same.0) (subst (λ x. IsTagOf script j at t task cpu x) tag_is made)))
    kept

-- there is none
none_some : (tag : Tag) → None ≡ Some tag → ⊥
none_some tag h = none_tag None tag refl h

-- a stale tag is forgotten
pub untag_keeps : (script : ScriptValue) (j : JournalsValue) (at : ℕ → Progress) (phase t n : ℕ) (tag : Tag) → phase_in script.phases t ≡ phase → at t ≡ outside n (Some tag)
    → IsKept script j at phase → IsKept script j (moved at t (idle n)) phase
untag_keeps script j at phase t n tag here place kept = retag_keeps script j at phase t n (Some tag) None here place (λ a b d tag is_a has. absurd (none_some tag has)) kept
