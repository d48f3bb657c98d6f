use Rattle.std.proofs.Common.{◌≡◌, ◌<◌, ◌≤◌, ℕ, List, All, sym, ap, subst, length, arith}
use Rattle.path_names.specs.NamesIn.{dir_ids, path_ids}
use Rattle.path_names.specs.declared.path_ref.PathRef.{PathRef}
use Rattle.path_names.proofs.PathCounts.{All-named, path_ids-entry_of, length-interned_ge}
use Rattle.path_names.proofs.paths.lead.Goals as goal

path_ids-same : (c : goal.In-Some) → path_ids c.in-Some.path ≡ dir_ids c.args.dir
path_ids-same c = path_ids-entry_of c.args.domains c.args.dir c.args.name.now c.in-Some.path (sym c.in-Some.ensures)

pub returns-in-Some-clause-count : goal.returns-in-Some-clause-count
returns-in-Some-clause-count c = omega (arith, ap length (path_ids-same c))

pub returns-in-Some-clause-ids : goal.returns-in-Some-clause-ids
returns-in-Some-clause-ids c = λ all. subst (λ (ids : List ℕ). All (λ id. id < length c.args.names.now) ids) (sym (path_ids-same c)) all

pub returns-clause-ids : goal.returns-clause-ids
returns-clause-ids c = λ all.
    let longer : length c.args.names.now ≤ length c.intern.new.self = subst (λ (names : List (List ℕ)). length c.args.names.now ≤ length names) (sym c.in_ok-id.ensures.kept) (length-interned_ge c.args.name.now c.args.names.now) in
    subst (λ (path : PathRef). All (λ id. id < length c.intern.new.self) (path_ids path)) (sym c.named.ensures)
    (All-named c.args.dir c.in_ok-id.id (length c.args.names.now) (length c.intern.new.self) longer c.in_ok-id.ensures.within all)
