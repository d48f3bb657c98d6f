use Rattle.std.proofs.Common.{◌+◌, ◌-◌, List, drop, length, take, refl, ap, ◌∙◌}
use Rattle.std.specs.List.{position_or_len}
use Rattle.cache_core.specs.Filled.{empties}
use Rattle.cache_core.specs.declared.entry.SliceEntry.{SliceEntry}
use Rattle.run_windows.proofs.CountedWindows.{take-drop_rest}
use Rattle.run_windows.proofs.opened.front_of.Goals as goal

pub returns : goal.returns
returns c =
    let entries = c.args.entries.now in
    ap (λ n. take n (take (length entries - (c.args.from + 1)) (drop (c.args.from + 1) entries))) c.front_len.ensures.len ∙ ap (λ (l : List SliceEntry). take (position_or_len (λ (e : SliceEntry). empties e.what) l) l) (take-drop_rest (c.args.from + 1) entries entries refl)
