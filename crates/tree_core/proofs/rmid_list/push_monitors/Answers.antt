use Rattle.std.proofs.Common.{◌+◌, ◌<◌, ◌++◌, ℕ, List, length, drop, sym, ap, ◌∙◌, arith, length-append, append_assoc}
use Rattle.std.specs.Option.{option_to_list}
use Rattle.group_tree.specs.Records.{blank}
use Rattle.tree_core.proofs.RmidLists.{monitor_rmids-drop}
use Rattle.tree_core.specs.RmidLists.{monitor_rmids}
use Rattle.tree_core.proofs.rmid_list.push_monitors.Goals as goal

pub push_some-requires : goal.push_some-requires
push_some-requires c =
    let groups = c.args.groups.now.groups in
    let within : c.loop-i.i < length groups = omega (arith, c.loop-i-test.true, c.len-i-end.ensures.count) in
    let own = option_to_list c.monitor_rmid.result in
    let rest = monitor_rmids c.args.control (drop (c.loop-i.i + 1) groups) in
    let parts = monitor_rmids-drop c.args.control groups c.loop-i.i blank within ∙ ap (λ (xs : List ℕ). xs ++ rest) (sym (c.monitor_rmid.ensures blank)) in
    let all = ap length (sym (ap (λ (xs : List ℕ). c.loop-i.rmids.items ++ xs) parts) ∙ c.loop-i.invariant) in
    record { room = omega (arith, c.requires.room, all, length-append c.loop-i.rmids.items (own ++ rest), length-append own rest, length-append c.loop-i.rmids.items own) }

pub loop-i-preserved : goal.loop-i-preserved
loop-i-preserved c =
    let groups = c.args.groups.now.groups in
    let within : c.loop-i.i < length groups = omega (arith, c.loop-i-test.true, c.len-i-end.ensures.count) in
    let own = option_to_list c.monitor_rmid.result in
    let rest = monitor_rmids c.args.control (drop (c.loop-i.i + 1) groups) in
    let parts = monitor_rmids-drop c.args.control groups c.loop-i.i blank within ∙ ap (λ (xs : List ℕ). xs ++ rest) (sym (c.monitor_rmid.ensures blank)) in
    ap (λ (xs : List ℕ). xs ++ rest) c.push_some.ensures ∙ append_assoc c.loop-i.rmids.items own rest ∙ sym (ap (λ (xs : List ℕ). c.loop-i.rmids.items ++ xs) parts) ∙ c.loop-i.invariant
