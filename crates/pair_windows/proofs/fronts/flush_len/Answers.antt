use Rattle.std.proofs.Common.{length, unwrap_or, ap, ◌∙◌}
use Rattle.cache_core.specs.declared.entry.SliceEntry.{SliceEntry}
use Rattle.private_lru.proofs.laws.FirstPlaces.{unwrap_or-position}
use Rattle.pair_windows.specs.Fronts.{is_flush}
use Rattle.pair_windows.proofs.fronts.flush_len.Goals as goal

pub returns-clause-len : goal.returns-clause-len
returns-clause-len c =
    c.unwrap_or.ensures ∙ ap (λ o. unwrap_or o (length c.args.entries.now)) c.first_flush.ensures ∙ unwrap_or-position (λ (e : SliceEntry). is_flush e.what) c.args.entries.now
