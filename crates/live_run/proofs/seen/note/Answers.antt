use Rattle.std.proofs.Common.{◌≡◌, ℕ, ◌<◌, [], ◌∷◌, ◌++◌, length, slice_set, sym, ap, ◌∙◌, subst, arith}
use Rattle.std.proofs.lemmas.List.{get_or_default}
use Rattle.cache_core.specs.declared.entry.SliceEntry.{SliceEntry}
use Rattle.seen_journal.specs.Prefixes.{IsPrefix}
use Rattle.live_run.proofs.Bridges.{HasAppended, has_added, is_seen}
use Rattle.live_run.proofs.Room.{room-slice}
use Rattle.live_run.proofs.seen.note.Goals as goal
use Rattle.live_run.specs.Names.{SeenValue, no_pass, pass_at}
use Rattle.live_run.specs.Steps.{HasAdded}
use Rattle.live_run.specs.Visits.{HasRoomIn}
use Rattle.seen_journal.specs.Passes.{PassValue, own_entries, quota_of}

pub invariant_of-s : goal.invariant_of-s
invariant_of-s g c =
    let i : ℕ = g.row.I in
    let s : SeenValue = record { thread = c.s.inside.thread; tree = c.s.inside.tree; slices = c.s.inside.slices.items } in
    let within : i < length s.slices = omega (arith, c.requires.within, c.s.invariant.count) in
    let same : c.index_mut.result.now ≡ pass_at s i = c.index_mut.ensures.value ∙ get_or_default s.slices i c.index_mut.result.now no_pass within in
    let appended : HasAppended (pass_at s i) c.append.new.pass c.args.journal.now.entries c.args.entry = subst (λ (p : PassValue SliceEntry). HasAppended p c.append.new.pass c.args.journal.now.entries c.args.entry) same
    (record { name = c.append.ensures.pass.0; number = c.append.ensures.pass.1; prefix = c.append.ensures.prefix; seen = c.append.ensures.seen ∙ c.append.ensures.list; own = c.append.ensures.own }) in
    let thread : c.args.entry.thread ≡ s.thread = c.requires.thread ∙ ap (λ (v : SeenValue). v.thread) (sym c.s.view_is) in
    is_seen g.N.RunNames.script g.N.RunNames.tree g.N.RunNames.slices s i c.append.new.pass c.args.journal.now.entries c.args.entry c.s.invariant within appended thread c.requires.threads

pub returns-clause-added : goal.returns-clause-added
returns-clause-added g c =
    let i : ℕ = g.row.I in
    let s : SeenValue = record { thread = c.s.inside.thread; tree = c.s.inside.tree; slices = c.s.inside.slices.items } in
    let within : i < length s.slices = omega (arith, c.requires.within, c.s.invariant.count) in
    let same : c.index_mut.result.now ≡ pass_at s i = c.index_mut.ensures.value ∙ get_or_default s.slices i c.index_mut.result.now no_pass within in
    let appended : HasAppended (pass_at s i) c.append.new.pass c.args.journal.now.entries c.args.entry = subst (λ (p : PassValue SliceEntry). HasAppended p c.append.new.pass c.args.journal.now.entries c.args.entry) same
    (record { name = c.append.ensures.pass.0; number = c.append.ensures.pass.1; prefix = c.append.ensures.prefix; seen = c.append.ensures.seen ∙ c.append.ensures.list; own = c.append.ensures.own }) in
    let thread : c.args.entry.thread ≡ s.thread = c.requires.thread ∙ ap (λ (v : SeenValue). v.thread) (sym c.s.view_is) in
    let new : SeenValue = record { thread = s.thread; tree = s.tree; slices = slice_set s.slices i c.append.new.pass } in
    subst (λ (v : SeenValue). HasAdded i c.args.entry v new) c.s.view_is
    (has_added g.N.RunNames.script g.N.RunNames.tree g.N.RunNames.slices s i c.append.new.pass c.args.journal.now.entries c.args.entry c.s.invariant within appended thread c.requires.threads)

pub returns-clause-list : goal.returns-clause-list
returns-clause-list g c =
    let i : ℕ = g.row.I in
    let s : SeenValue = record { thread = c.s.inside.thread; tree = c.s.inside.tree; slices = c.s.inside.slices.items } in
    let within : i < length s.slices = omega (arith, c.requires.within, c.s.invariant.count) in
    let same : c.index_mut.result.now ≡ pass_at s i = c.index_mut.ensures.value ∙ get_or_default s.slices i c.index_mut.result.now no_pass within in
    let number : c.index_mut.result.now.number ≡ c.args.s.now.thread = ap (λ (p : PassValue SliceEntry). p.number) same ∙ (c.s.invariant.numbers i within ∙ ap (λ (v : SeenValue). v.thread) c.s.view_is) in
    c.append.ensures.list ∙ ap (λ n. c.args.journal.now.entries ++ (n, c.args.entry) ∷ []) number

pub returns-clause-prefix : goal.returns-clause-prefix
returns-clause-prefix g c =
    let i : ℕ = g.row.I in
    let s : SeenValue = record { thread = c.s.inside.thread; tree = c.s.inside.tree; slices = c.s.inside.slices.items } in
    let within : i < length s.slices = omega (arith, c.requires.within, c.s.invariant.count) in
    let same : c.index_mut.result.now ≡ pass_at s i = c.index_mut.ensures.value ∙ get_or_default s.slices i c.index_mut.result.now no_pass within in
    subst (λ (v : SeenValue). IsPrefix (pass_at v i).seen c.args.journal.now.entries) c.s.view_is (subst (λ (p : PassValue SliceEntry). IsPrefix p.seen c.args.journal.now.entries) same c.append.ensures.prefix)

pub append-requires-clause-quota : goal.append-requires-clause-quota
append-requires-clause-quota g c =
    let i : ℕ = g.row.I in
    let s : SeenValue = record { thread = c.s.inside.thread; tree = c.s.inside.tree; slices = c.s.inside.slices.items } in
    let within : i < length s.slices = omega (arith, c.requires.within, c.s.invariant.count) in
    let same : c.index_mut.result.now ≡ pass_at s i = c.index_mut.ensures.value ∙ get_or_default s.slices i c.index_mut.result.now no_pass within in
    subst (λ (p : PassValue SliceEntry). length (own_entries p) < quota_of p) (sym same)
    (room-slice g.N.RunNames.script g.N.RunNames.tree g.N.RunNames.slices s c.s.invariant i c.requires.within (subst (HasRoomIn g.N.RunNames.script i) (sym c.s.view_is) c.requires.room))
