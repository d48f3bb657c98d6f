use Rattle.std.proofs.Common.{◌≡◌, inl, inr, true, false, get_or, Some, sym, ap, ◌∙◌, subst, arith}
use Rattle.std.specs.Prelude.{slice_get}
use Rattle.std.proofs.lemmas.Bool.{cases_lt}
use Rattle.std.proofs.lemmas.Option.{get_or_from_slice_get, slice_get_within}
use Rattle.journal_check.proofs.laws.Told.{is_false}
use Rattle.journal_check.specs.Traces.{HasFollow}
use Rattle.machine.specs.Maps.{parameters_of}
use Rattle.run_law.specs.Owed.{is_entered_in, what_of}
use Rattle.tree_law.specs.declared.follow.Follow.TheVariants.{Raise}
use Rattle.journal_check.proofs.owed.is_followed.Goals as goal
use Rattle.journal_check.proofs.owed.is_followed.Goals.{else-is_entered_in-via-then-is_entered_in+else-is_same, else-is_entered_in-via-else-is_entered_in}

pub loop-k-preserved : goal.loop-k-preserved
loop-k-preserved c i f below at entered same = elim (cases_lt i c.loop-k.k) [
  | inl before ↦ c.loop-k.invariant i f before at entered same
  | inr after ↦
      let here : i ≡ c.loop-k.k = omega arith in
      let there : slice_get c.args.follows.now c.loop-k.k ≡ Some f = subst (λ n. slice_get c.args.follows.now n ≡ Some f) here at in
      let own : get_or c.args.follows.now c.loop-k.k (Raise 0) ≡ f = get_or_from_slice_get c.args.follows.now c.loop-k.k f (Raise 0) there in
      elim c.else-is_entered_in.branch [
        | else-is_entered_in-via-then-is_entered_in+else-is_same w ↦
            let its : w.what_of.result ≡ c.args.what = w.what_of.ensures ∙ (ap what_of own ∙ same) in
            let wrong : true ≡ false = sym (w.is_same.ensures.1 its) ∙ w.if-is_same.false in
            cc
        | else-is_entered_in-via-else-is_entered_in w ↦
            let wrong : true ≡ false = sym entered ∙ (ap (is_entered_in (parameters_of c.args.m.now) c.args.i) (sym own) ∙ (sym c.is_entered_in.ensures ∙ w.if-is_entered_in.false)) in
            cc
      ]
]

pub returns : goal.returns
returns c =
    is_false (HasFollow (parameters_of c.args.m.now) c.args.i c.args.follows.now c.args.what)
    (λ has. c.loop-k.invariant has.0 has.1 (let within = slice_get_within c.args.follows.now has.0 has.1 has.2 in let over = c.loop-k-test.false in omega arith) has.2 has.3 has.4)
