-- Changes that are made unless something is against them.
use Rattle.std.proofs.Common.{◌≡◌, List, [], Option, None, Some, refl, sym, subst, ap, ◌∙◌}
use Rattle.rc_base.specs.Replies.{refused}
use Rattle.rc_base.specs.declared.replies.Reply.{Reply}
use Rattle.rc_base.specs.declared.replies.Reply.TheVariants as replies
use Rattle.tree_core.specs.Changes.{MakesUnless}
use Rattle.tree_core.specs.CpuFiles.{unless}
use Rattle.tree_core.specs.Values.{TreeValue}
use Rattle.tree_law.specs.Refusals.{Refusal, reply_of}
use Rattle.tree_law.specs.State.{State}
use Rattle.tree_law.specs.declared.follow.Follow.{Follow}

-- the same, whether something is against it or not
pub unless-same : {X : Type 0} (o : Option Refusal) (x : X) → unless o x x ≡ x
unless-same None x = refl
unless-same (Some r) x = refl

module _ {o : Option Refusal} {changed : State} {after : List Follow} {old new : TreeValue} {reply : Reply} {follows : List Follow} where
  -- something is against it
  pub MakesUnless-refused : (r : Refusal) → o ≡ Some r → new ≡ old → reply ≡ refused r.why r.arg → follows ≡ [] → MakesUnless old o changed after new reply follows
  MakesUnless-refused r is tree said nothing = record {
    tree = tree ∙ ap (λ (p : Option Refusal). record old { state = unless p old.state changed }) (sym is);
    reply = said ∙ ap reply_of (sym is);
    after = nothing ∙ ap (λ (p : Option Refusal). unless p [] after) (sym is);
  }

  -- nothing is against it
  pub MakesUnless-made : o ≡ None → new ≡ record old { state = changed } → reply ≡ replies.Ok → follows ≡ after → MakesUnless old o changed after new reply follows
  MakesUnless-made is tree said more = record {
    tree = tree ∙ ap (λ (p : Option Refusal). record old { state = unless p old.state changed }) (sym is);
    reply = said ∙ ap reply_of (sym is);
    after = more ∙ ap (λ (p : Option Refusal). unless p [] after) (sym is);
  }

  -- the same change
  pub MakesUnless-same : {p : Option Refusal} {other : State} {more : List Follow} → o ≡ p → changed ≡ other → after ≡ more → MakesUnless old p other more new reply follows → MakesUnless old o changed after new reply follows
  MakesUnless-same {p} {other} {more} is same same_after decides =
      subst (λ (q : Option Refusal). MakesUnless old q changed after new reply follows) (sym is)
      (subst (λ (s : State). MakesUnless old p s after new reply follows) (sym same)
      (subst (λ (fs : List Follow). MakesUnless old p other fs new reply follows) (sym same_after) decides))
