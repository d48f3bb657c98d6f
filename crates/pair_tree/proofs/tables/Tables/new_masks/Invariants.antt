use Rattle.std.proofs.Common.{◌≡◌, ◌<◌, ◌≤◌, ℕ, false, is_none, length, get_or, unwrap_or}
use Rattle.pair_law.specs.Others.{initial_mask}
use Rattle.pair_tree.specs.Tables.{state_of}
use Rattle.pair_tree.proofs.tables.Tables.new_masks.Given as goal

abbrev pub invariant-loop-domain : goal.invariant-loop-domain
invariant-loop-domain l = record {
  count : length l.masks ≡ 8;
  space : (domain : ℕ) → domain < l.domain → is_none (initial_mask l.m (state_of l.self) (record { side = l.side; domain = domain })) ≡ false;
  before : (domain : ℕ) → domain < l.domain → get_or l.masks domain 0 ≡ unwrap_or (initial_mask l.m (state_of l.self) (record { side = l.side; domain = domain })) 0;
  behind : (domain : ℕ) → l.domain ≤ domain → get_or l.masks domain 0 ≡ 0;
}
