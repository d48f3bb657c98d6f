-- The masks of groups, as a tree takes a command.
use Rattle.std.proofs.Common.{◌≡◌, ℕ, ◌+◌, ◌-◌, ◌≤◌, List, map, sym, ap, ◌∙◌, arith}
use Rattle.pair_law.specs.Epochs.{state_at}
use Rattle.pair_text.specs.Values.{PairScriptValue}
use Rattle.pair_windows.specs.LevelSpans.{exclusive_in, goes_on, goes_on_at, held_from, masks_of}
use Rattle.pair_windows.specs.declared.level_masks.LevelMasks.{LevelMasks}
use Rattle.private_lru.proofs.laws.LongerSpans.{spans-more}
use Rattle.private_lru.specs.Keeping.{span_on}
use Rattle.private_lru.specs.declared.span.Span.{Span}

module _ (script : PairScriptValue) (domain first : ℕ) where
  -- from an epoch to the next one
  pub held_from-kept : (epoch : ℕ) (held : List (Span LevelMasks)) → first ≤ epoch → held ≡ held_from script domain first (epoch - first)
      → map (span_on (λ h. goes_on script.machines domain h (state_at script (epoch + 1))) epoch) held ≡ held_from script domain first (epoch + 1 - first)
  held_from-kept epoch held le is =
      let at : epoch ≡ first + (epoch - first) = omega (arith, le) in
      let one : epoch - first + 1 ≡ epoch + 1 - first = omega (arith, le) in
      ap (map (span_on (λ h. goes_on script.machines domain h (state_at script (epoch + 1))) epoch)) is
      ∙ (sym (spans-more (masks_of domain) (goes_on_at script domain) first (exclusive_in (state_at script first)) (epoch - first) epoch at) ∙ ap (held_from script domain first) one)
