use Rattle.std.proofs.Common.{◌≡◌, ℕ, ◌∷◌, [], ◌++◌, ◌∙◌, ap, sym, subst}
use Rattle.live_run.proofs.Bridges.{threads_push}
use Rattle.live_run.proofs.Room.{room-tree}
use Rattle.live_run.proofs.seen.decide.Goals as goal
use Rattle.live_run.specs.Cells.{AreOfThreads, taken_from}
use Rattle.live_run.specs.Names.{SeenValue}
use Rattle.live_run.specs.Visits.{HasRoomInTree}

pub invariant_of-s : goal.invariant_of-s
invariant_of-s g c =
    let n : ℕ = c.s.inside.tree.number in
    let number : n ≡ c.s.inside.thread = c.s.invariant.tree_number in
    let thread : c.args.entry.thread ≡ n = c.requires.thread ∙ (ap (λ (v : SeenValue). v.thread) (sym c.s.view_is) ∙ sym number) in
    let whole : AreOfThreads taken_from (c.args.journal.now.entries ++ (n, c.args.entry) ∷ []) = threads_push taken_from c.args.journal.now.entries n c.args.entry thread c.requires.threads in
    record {
      tree_name = c.append.ensures.pass.0 ∙ c.s.invariant.tree_name;
      tree_number = c.append.ensures.pass.1 ∙ number;
      tree_threads = subst (λ xs. AreOfThreads taken_from xs) (sym (c.append.ensures.seen ∙ c.append.ensures.list)) whole;
      count = c.s.invariant.count;
      names = c.s.invariant.names;
      numbers = c.s.invariant.numbers;
      threads = c.s.invariant.threads;
      quotas = c.s.invariant.quotas;
    }

pub returns : goal.returns
returns g c =
    let n : ℕ = c.s.inside.tree.number in
    let is : c.s.inside.thread ≡ c.args.s.now.thread = ap (λ (v : SeenValue). v.thread) c.s.view_is in
    let number : n ≡ c.args.s.now.thread = c.s.invariant.tree_number ∙ is in
    let thread : c.args.entry.thread ≡ n = c.requires.thread ∙ sym number in
    let whole : AreOfThreads taken_from (c.args.journal.now.entries ++ (n, c.args.entry) ∷ []) = threads_push taken_from c.args.journal.now.entries n c.args.entry thread c.requires.threads in
    record {
      name = c.append.ensures.name;
      list = c.append.ensures.list ∙ ap (λ k. c.args.journal.now.entries ++ (k, c.args.entry) ∷ []) number;
      threads = subst (λ xs. AreOfThreads taken_from xs) (sym c.append.ensures.list) whole;
      thread = is;
      seen = c.append.ensures.seen;
      slices = ap (λ (v : SeenValue). v.slices) c.s.view_is;
    }

pub append-requires-clause-quota : goal.append-requires-clause-quota
append-requires-clause-quota g c =
    let s : SeenValue = record { thread = c.s.inside.thread; tree = c.s.inside.tree; slices = c.s.inside.slices.items } in
    room-tree g.N.RunNames.script g.N.RunNames.tree g.N.RunNames.slices s c.s.invariant (subst (HasRoomInTree g.N.RunNames.script) (sym c.s.view_is) c.requires.room)
