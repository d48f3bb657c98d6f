use Rattle.std.proofs.Common.{List, sym, subst, ◌≡◌, None}
use Rattle.std.specs.Prelude.{find}
use Rattle.pair_text.specs.declared.group.PairGroup.{PairGroup}
use Rattle.pair_windows.proofs.FoundGroups.{filter-found_none}
use Rattle.pair_windows.specs.LevelSpans.{is_exclusive}
use Rattle.pair_windows.proofs.level_spans.has_exclusive.Goals as goal

pub returns-in-None : goal.returns-in-None
returns-in-None c = λ is. filter-found_none is_exclusive c.args.tree.now.state.groups (subst (λ (gs : List PairGroup). find is_exclusive gs ≡ None) c.groups.ensures (sym c.in-None.ensures))
