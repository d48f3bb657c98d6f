use Rattle.std.proofs.Common.{ℕ, zero, suc, ◌<◌, ◌++◌, ◌∷◌, [], List, length, take, sym, ap, ◌∙◌, subst, arith}
use Rattle.std.proofs.lemmas.List.{take_more}
use Rattle.std.proofs.lemmas.List.Elements.{All-append}
use Rattle.std.proofs.lemmas.Option.{get_or_from_slice_get, slice_get_within}
use Rattle.journal_check.specs.Needs.{AreSmall}
use Rattle.journal_check.proofs.needs.pairs_of.Goals as goal

AreSmall-one : (need : ℕ × ℕ) → need.1 < 65536 → AreSmall (need ∷ [])
AreSmall-one need fits zero d within = fits
AreSmall-one need fits (suc k) d within = absurd (omega arith)

pub loop-i-preserved : goal.loop-i-preserved
loop-i-preserved c =
    let counts = c.args.counts.now in
    let i = c.loop-i.i in
    let one = c.at.result in
    let within : i < length counts = slice_get_within counts i one c.at.ensures in
    record {
      pairs =
          c.in_ok-push.ensures.items
          ∙ (ap (λ (xs : List (ℕ × ℕ)). xs ++ one ∷ []) c.loop-i.invariant.pairs
          ∙ sym (take_more counts i one within ∙ ap (λ (x : ℕ × ℕ). take i counts ++ x ∷ []) (get_or_from_slice_get counts i one one c.at.ensures)));
      small =
          let fits : one.1 < 65536 = assumption (c.at.type_inv) in
          subst AreSmall (sym c.in_ok-push.ensures.items) (All-append (λ (need : ℕ × ℕ). need.1 < 65536) c.loop-i.pairs.items (one ∷ []) c.loop-i.invariant.small (AreSmall-one one fits));
    }
