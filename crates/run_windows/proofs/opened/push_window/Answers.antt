use Rattle.std.proofs.Common.{◌+◌, subst}
use Rattle.std.proofs.lemmas.Option.{get_or_from_slice_get}
use Rattle.cache_core.specs.declared.entry.SliceEntry.{SliceEntry}
use Rattle.machine.specs.Slices.{slice_number}
use Rattle.run_law.specs.Journals.{slice_at}
use Rattle.run_windows.proofs.FrontWindows.{IsCountedWindow-front}
use Rattle.run_windows.proofs.Openings.{IsOpening-entry, OnOk-list, site_of-parts}
use Rattle.run_windows.proofs.WindowLists.{AreWindowsBefore-place}
use Rattle.run_windows.proofs.SiteOrder.{site}
use Rattle.run_windows.specs.AllWindows.{AreWindowsBefore, with_used}
use Rattle.run_windows.specs.Fronts.{front_of}
use Rattle.private_lru.specs.Tallies.{IsCounted}
use Rattle.run_windows.specs.Windows.{StaysExclusive}
use Rattle.run_windows.proofs.opened.push_window.Goals as goal

pub returns : goal.returns
returns c =
    let script = c.args.run.now.script.now in
    let j = c.args.run.now.journals.now in
    let o = c.args.opening in
    let s = c.args.stay in
    let w = c.window_of.result in
    let e = IsOpening-entry script j o.domain o.slice o.from c.requires.opens in
    let at = c.window_of.ensures.place in
    let of = c.window_of.ensures.counts in
    let entries = slice_at j (slice_number script.machine o.domain o.slice) in
    let here = get_or_from_slice_get entries o.from e.0 e.0 e.1 in
    let exclusive = subst (λ (x : SliceEntry). StaysExclusive script j o.domain s.gid s.mask x.epoch s.last) here (c.requires.exclusive e.0) in
    let counted = subst (λ (x : SliceEntry). IsCounted script.machine.sets x.what (front_of o.from entries) s c.args.counts) here (c.requires.counted e.0) in
    let window = IsCountedWindow-front script j o.domain o.slice o.from e.0 s c.args.counts w c.requires.lawful c.requires.run c.requires.domain c.requires.slice e.1 e.2 exclusive counted
    at.0 at.1 at.2 at.3 c.window_of.ensures.ways of.0 of.1 of.2 of.3 of.4 in
    let listed = AreWindowsBefore-place script j c.args.windows.now.items w e.0 s.mask s.last o.domain o.slice o.from s.gid.0 (site_of-parts w o.domain o.slice o.from s.gid at.0 at.1 at.2 at.3)
    c.requires.domain c.requires.slice window c.requires.before in
    OnOk-list (AreWindowsBefore script j (site o.domain o.slice o.from (s.gid.0 + 1))) c.push_used.new.windows.items (with_used c.args.windows.now.items w) c.push_used.result listed c.push_used.ensures
