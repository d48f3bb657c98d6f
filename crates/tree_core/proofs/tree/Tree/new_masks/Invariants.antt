use Rattle.std.proofs.Common.{◌≡◌, ◌<◌, ◌≤◌, ℕ, false, is_none, length, get_or, unwrap_or}
use Rattle.tree_law.specs.Space.{initial_mask}
use Rattle.tree_core.proofs.tree.Tree.new_masks.Given as goal

abbrev pub invariant-loop-domain : goal.invariant-loop-domain
invariant-loop-domain l = record {
  count : length l.masks ≡ 8;
  space : (domain : ℕ) → domain < l.domain → is_none (initial_mask l.self.machine l.self.state domain) ≡ false;
  before : (domain : ℕ) → domain < l.domain → get_or l.masks domain 0 ≡ unwrap_or (initial_mask l.self.machine l.self.state domain) 0;
  behind : (domain : ℕ) → l.domain ≤ domain → get_or l.masks domain 0 ≡ 0;
}
