use Rattle.std.proofs.Common.{◌≡◌, Bool, ◌||◌, List, [], ◌∷◌, map, refl, sym, ap, ◌∙◌}
use Rattle.std.specs.List.{list_any}
use Rattle.run_law.specs.Entries.{entry_value}
use Rattle.run_windows.specs.Quiet.{asks_in}
use Rattle.run_windows.proofs.quiet.has_exclusive_write.Goals as goal

-- a test of mapped elements
list_any-map : {X Y : Type 0} (p : Y → Bool) (f : X → Y) (xs : List X) → list_any p (map f xs) ≡ list_any (λ (x : X). p (f x)) xs
list_any-map p f [] = refl
list_any-map p f (x ∷ xs) = ap (λ (b : Bool). p (f x) || b) (list_any-map p f xs)

pub returns : goal.returns
returns c =
    let asks = asks_in c.args.script.now in
    c.has_asking.ensures ∙ (sym (list_any-map asks entry_value c.tree.result.now) ∙ ap (list_any asks) c.tree.ensures)
