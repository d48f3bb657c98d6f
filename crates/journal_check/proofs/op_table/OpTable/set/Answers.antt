use Rattle.std.proofs.Common.{◌≡◌, ℕ, ◌<◌, List, [], Vec, Global, length, map, set, get_or, sym, ap, ◌∙◌, arith}
use Rattle.std.specs.Vec.{with_item}
use Rattle.std.proofs.lemmas.List.{get_or-map, length-map, map-set}
use Rattle.journal_check.specs.Tables.{numbers_of, row_of}
use Rattle.journal_check.proofs.op_table.OpTable.set.Goals as goal

-- the view of a table with another number
view-set : (rows : List (Vec ℕ Global)) (t o n : ℕ) (row : Vec ℕ Global) → t < length rows → row ≡ get_or rows t row
    → map numbers_of (set rows t (with_item row o n)) ≡ set (map numbers_of rows) t (set (row_of (map numbers_of rows) t) o n)
view-set rows t o n row within is =
    map-set numbers_of rows t (with_item row o n)
    ∙ ap (λ r. set (map numbers_of rows) t (set r o n)) (ap numbers_of is ∙ sym (get_or-map numbers_of rows t row [] within))

pub returns : goal.returns
returns c =
    let rows = c.self.inside.rows.items in
    let within : c.args.thread < length rows = omega (arith, c.requires.thread, ap (λ (v : List (List ℕ)). length v) c.self.view_is, length-map rows numbers_of) in
    let view : map numbers_of rows ≡ c.args.self.now = c.self.view_is in
    view-set rows c.args.thread c.args.op c.args.n c.index_mut-row.result.now within c.index_mut-row.ensures.value
    ∙ ap (λ v. set v c.args.thread (set (row_of v c.args.thread) c.args.op c.args.n)) view
