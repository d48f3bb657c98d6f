use Rattle.std.proofs.Common.{◌≡◌, ◌*◌, ℕ, List, [], length, refl, sym, subst, ap, ◌∙◌, arith}
use Rattle.hw_ids.specs.MonitoringIds.{MonitoringIds, above}
use Rattle.machine.specs.Maps.{parameters_of}
use Rattle.rc_base.specs.declared.replies.Reply.TheVariants as replies
use Rattle.script_ops.specs.declared.op.Op.TheVariants.{Tick}
use Rattle.tree_core.proofs.FreedIds.{length-bytes_each}
use Rattle.tree_core.proofs.KeptTables.{IsKept-from_Keeps, Keeps-from_IsKept, State-same}
use Rattle.tree_core.proofs.Outcomes.{after-nothing, reply-next}
use Rattle.tree_core.proofs.ReadCounts.{refusal-tick}
use Rattle.tree_core.proofs.Room.{length-limbo_le}
use Rattle.tree_core.proofs.Ticks as ticks
use Rattle.tree_core.specs.Changes.{Takes}
use Rattle.tree_core.specs.RmidLists.{bytes_each}
use Rattle.tree_core.specs.Tables.{state_of, tables}
use Rattle.tree_core.specs.Values.{TreeValue, tree_of}
use Rattle.tree_law.specs.Refusals.{reply_of}
use Rattle.tree_law.specs.State.{State}
use Rattle.tree_law.specs.Steps.{needs}
use Rattle.tree_core.proofs.tree.Tree.tick.Goals as goal

pub bytes_each-bytes-requires-clause-few : goal.bytes_each-bytes-requires-clause-few
bytes_each-bytes-requires-clause-few c = omega (arith, c.limbo_len.ensures.number, length-limbo_le (Keeps-from_IsKept c.self.invariant), c.self.inside.machine.in_range.rmid_limit)

pub bytes_each-bytes-requires-clause-looks : goal.bytes_each-bytes-requires-clause-looks
bytes_each-bytes-requires-clause-looks c =
    let t = c.self.inside in
    let m = parameters_of t.machine in
    let s = state_of m (tables t.groups t.tasks t.cpus t.classes t.rmids t.regions) t.status t.next_gid in
    let count : length c.args.looks.now ≡ length (needs m s Tick) = subst (λ (v : TreeValue). length c.args.looks.now ≡ length (needs v.machine v.state Tick)) (sym c.self.view_is) c.requires.looks in
    ticks.length-looks m s c.args.looks.now count ∙ ap (λ (n : ℕ). n * t.machine.domains) (sym c.limbo_len.ensures.number)

pub tick-requires : goal.tick-requires
tick-requires c = ap (λ (xs : List ℕ). length xs) (c.as_slice.ensures.value ∙ c.bytes_each-bytes.ensures) ∙ length-bytes_each c.self.inside.machine.domains c.limbo_len.result c.args.looks.now ∙ c.limbo_len.ensures.number

pub invariant_of-self : goal.invariant_of-self
invariant_of-self c =
    let t = c.self.inside in
    let m = parameters_of t.machine in
    let s = state_of m (tables t.groups t.tasks t.cpus t.classes t.rmids t.regions) t.status t.next_gid in
    let count : length c.args.looks.now ≡ length (needs m s Tick) = subst (λ (v : TreeValue). length c.args.looks.now ≡ length (needs v.machine v.state Tick)) (sym c.self.view_is) c.requires.looks in
    let bytes : c.as_slice.result.now ≡ bytes_each t.machine.domains (length t.rmids.limbo) c.args.looks.now = c.as_slice.ensures.value ∙ c.bytes_each-bytes.ensures ∙ ap (λ (n : ℕ). bytes_each t.machine.domains n c.args.looks.now) c.limbo_len.ensures.number in
    let is = c.tick.ensures ∙ ap (λ (xs : List ℕ). record t.rmids { limbo = above t.rmids.threshold t.rmids.limbo xs }) bytes in
    IsKept-from_Keeps (ticks.Keeps-ticked (Keeps-from_IsKept c.self.invariant) c.args.looks.now c.tick.new.self t.machine.in_range count is _
    (State-same s t.groups.groups t.groups.groups c.tick.new.self.limbo c.tick.new.self.limbo c.tick.new.self.threshold t.rmids.threshold refl refl (ap (λ (r : MonitoringIds). r.threshold) is)))

pub returns : goal.returns
returns c =
    let t = c.self.inside in
    let m = parameters_of t.machine in
    let s = state_of m (tables t.groups t.tasks t.cpus t.classes t.rmids t.regions) t.status t.next_gid in
    let count : length c.args.looks.now ≡ length (needs m s Tick) = subst (λ (v : TreeValue). length c.args.looks.now ≡ length (needs v.machine v.state Tick)) (sym c.self.view_is) c.requires.looks in
    let bytes : c.as_slice.result.now ≡ bytes_each t.machine.domains (length t.rmids.limbo) c.args.looks.now = c.as_slice.ensures.value ∙ c.bytes_each-bytes.ensures ∙ ap (λ (n : ℕ). bytes_each t.machine.domains n c.args.looks.now) c.limbo_len.ensures.number in
    let is = c.tick.ensures ∙ ap (λ (xs : List ℕ). record t.rmids { limbo = above t.rmids.threshold t.rmids.limbo xs }) bytes in
    let same = State-same s t.groups.groups t.groups.groups c.tick.new.self.limbo c.tick.new.self.limbo c.tick.new.self.threshold t.rmids.threshold refl refl (ap (λ (r : MonitoringIds). r.threshold) is)
    ∙ ticks.ticked-next (Keeps-from_IsKept c.self.invariant) c.args.looks.now c.tick.new.self t.machine.in_range count is in
    subst (λ (v : TreeValue). Takes v Tick c.args.looks.now (tree_of m (state_of m (tables t.groups t.tasks t.cpus t.classes c.tick.new.self t.regions) t.status t.next_gid) t.epoch) replies.Ok []) c.self.view_is (record {
      tree = ap (λ (x : State). tree_of m x t.epoch) same;
      reply = sym (reply-next m s Tick c.args.looks.now ∙ ap reply_of (refusal-tick m s));
      after = λ k is_next. sym (after-nothing m s k Tick refl);
    })
