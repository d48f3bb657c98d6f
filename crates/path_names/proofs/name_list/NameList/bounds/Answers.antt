use Rattle.std.proofs.Common.{◌≡◌, ◌<◌, ◌≤◌, ℕ, List, length, get_or, ◌∙◌, arith}
use Rattle.std.proofs.lemmas.List.{get_or_default}
use Rattle.path_names.specs.NameTexts.{start_of, EndsRise}
use Rattle.path_names.proofs.NameTexts.{start_of-within}
use Rattle.path_names.proofs.name_list.NameList.bounds.Goals as goal

-- the end that was read of a name, and where the name lies
record IsEnd (ends : List ℕ) (len place end : ℕ) : Type 0 where
  same : end ≡ get_or ends place 0
  rising : start_of 0 ends place ≤ end
  within : end ≤ len

IsEnd-read : (ends : List ℕ) (len place end : ℕ) → EndsRise 0 ends len → place < length ends → end ≡ get_or ends place end → IsEnd ends len place end
IsEnd-read ends len place end rise inside read =
    let same : end ≡ get_or ends place 0 = read ∙ get_or_default ends place end 0 inside in
    let within = start_of-within 0 ends len place rise inside in
    record { same = same; rising = omega (arith, within.0, same); within = omega (arith, within.1, same) }

pub returns-clause-end : goal.returns-clause-end
returns-clause-end c =
    (IsEnd-read c.args.self.now.ends.items (length c.args.self.now.bytes.items) c.args.place c.index.result.now c.args.self.now.rising (omega (arith, c.args.self.now.ends.ok.0)) c.index.ensures).same

pub returns-clause-rising : goal.returns-clause-rising
returns-clause-rising c =
    let end = IsEnd-read c.args.self.now.ends.items (length c.args.self.now.bytes.items) c.args.place c.index.result.now c.args.self.now.rising (omega (arith, c.args.self.now.ends.ok.0)) c.index.ensures in
    omega (arith, end.rising)

pub returns-clause-within : goal.returns-clause-within
returns-clause-within c =
    let end = IsEnd-read c.args.self.now.ends.items (length c.args.self.now.bytes.items) c.args.place c.index.result.now c.args.self.now.rising (omega (arith, c.args.self.now.ends.ok.0)) c.index.ensures in
    omega (arith, end.within, c.args.self.now.bytes.ok.0)
