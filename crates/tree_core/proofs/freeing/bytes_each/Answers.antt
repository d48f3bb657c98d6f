use Rattle.std.proofs.Common.{◌≡◌, ◌≤◌, ◌+◌, ◌-◌, ◌*◌, ℕ, suc, List, [], ◌∷◌, ◌++◌, length, take, drop, sym, ap, ap₂, ◌∙◌, arith, length-append, length-drop, append_assoc}
use Rattle.tree_core.proofs.FreedIds.{bytes_each-suc, length-bytes_each}
use Rattle.tree_core.specs.RmidLists.{bytes_each, bytes_of}
use Rattle.tree_core.proofs.freeing.bytes_each.Goals as goal

pub split_at-requires : goal.split_at-requires
split_at-requires c =
    let one : c.args.count - c.loop-n._n ≡ suc (c.args.count - (c.loop-n._n + 1)) = omega (arith, c.loop-n-test.true) in
    let long = c.loop-n.invariant.left ∙ ap (λ (n : ℕ). n * c.args.domains) one in
    omega (arith, long, more c.args.domains (c.args.count - (c.loop-n._n + 1)))
  where
    more : (d n : ℕ) → d ≤ suc n * d
    more d n = omega arith

pub push-requires : goal.push-requires
push-requires c =
    let now = c.loop-n.bytes.items in
    let left = bytes_each c.args.domains (c.args.count - c.loop-n._n) c.loop-n.rest.now in
    let all = ap length c.loop-n.invariant.bytes in
    (omega arith, omega (arith, all, length-append now left, length-bytes_each c.args.domains (c.args.count - c.loop-n._n) c.loop-n.rest.now, length-bytes_each c.args.domains c.args.count c.args.looks.now, c.loop-n-test.true, c.requires.few))

pub loop-n-preserved : goal.loop-n-preserved
loop-n-preserved c =
    let domains = c.args.domains in
    let rest = c.loop-n.rest.now in
    let own = bytes_of (take domains rest) in
    let more = bytes_each domains (c.args.count - (c.loop-n._n + 1)) (drop domains rest) in
    let next = bytes_each-suc domains c.args.count c.loop-n._n rest c.loop-n-test.true in
    let bytes : c.push.new.self.items ≡ c.loop-n.bytes.items ++ own ∷ [] = c.push.ensures.items ∙ ap (λ (n : ℕ). c.loop-n.bytes.items ++ n ∷ []) (c.bytes_of.ensures ∙ ap bytes_of c.split_at.ensures.front) in
    let one : c.args.count - c.loop-n._n ≡ suc (c.args.count - (c.loop-n._n + 1)) = omega (arith, c.loop-n-test.true) in
    let long = c.loop-n.invariant.left ∙ ap (λ (n : ℕ). n * domains) one in
    record {
      bytes = ap₂ (λ (xs ys : List ℕ). xs ++ bytes_each domains (c.args.count - (c.loop-n._n + 1)) ys) bytes c.split_at.ensures.back ∙ append_assoc c.loop-n.bytes.items (own ∷ []) more ∙ ap (λ (xs : List ℕ). c.loop-n.bytes.items ++ xs) (sym next) ∙ c.loop-n.invariant.bytes;
      left = omega (arith, long, ap length c.split_at.ensures.back, length-drop domains rest);
    }
