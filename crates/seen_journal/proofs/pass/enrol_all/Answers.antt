use Rattle.std.proofs.Common.{◌≡◌, ◌<◌, ◌+◌, ◌++◌, ◌∷◌, [], ℕ, length, ap, sym, ◌∙◌, subst, arith, slice_get, Some}
use Rattle.std.proofs.lemmas.List.{length_push}
use Rattle.seen_journal.specs.Passes.{new_pass, PassValue}
use Rattle.seen_journal.proofs.Elements.{slice_get-push}
use Rattle.seen_journal.proofs.pass.enrol_all.Goals as goal

pub loop-seat-preserved : goal.loop-seat-preserved
loop-seat-preserved g c =
    let inv = c.loop-seat.invariant in
    let ok = c.in_ok-pass.ensures in
    let first = c.args.seat.now in
    let old = c.loop-seat.passes.items in
    let items : c.push_reserved.new.self.items ≡ old ++ c.in_ok-pass.pass ∷ [] = c.push_reserved.ensures.items in
    let count : length c.push_reserved.new.self.items ≡ length old + 1 = ap length items ∙ length_push old c.in_ok-pass.pass in
    let next : c.loop-seat.seat.me.0.next ≡ length old = ap (λ m. m.0.next) inv.me in
    let f : ℕ → PassValue g.row.E.Denot = λ i. new_pass (record { table = first.table_id; quotas = first.me.0.quotas }) i in
    let pass : c.in_ok-pass.pass ≡ f (length old) =
    ok.pass ∙ (ap (λ t. new_pass (record { table = t; quotas = c.loop-seat.seat.me.0.quotas }) c.loop-seat.seat.me.0.next) inv.table ∙ (ap (λ q. new_pass (record { table = first.table_id; quotas = q }) c.loop-seat.seat.me.0.next) (ap (λ m. m.0.quotas) inv.me) ∙ ap f next)) in
    record {
      table = c.enrol_one.ensures.same ∙ inv.table;
      me = ok.seat ∙ (ap (λ m. (record m.0 { next = m.0.next + 1 }, m.1)) inv.me ∙ ap (λ n. (record first.me.0 { next = n }, first.me.1)) (sym count));
      room = omega (arith, inv.room, c.push_reserved.ensures.capacity);
      most = omega (arith, count, c.loop-seat-test.true);
      passes = λ i low. subst (λ l. slice_get l i ≡ Some (f i)) (sym items) (slice_get-push old c.in_ok-pass.pass f inv.passes pass i (subst (λ l. i < length l) items low));
    }
