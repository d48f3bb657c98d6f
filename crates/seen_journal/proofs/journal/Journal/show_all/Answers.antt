use Rattle.std.proofs.Common.{◌≡◌, Some, arith, All, ap, sym, ◌∙◌, subst}
use Rattle.std.proofs.lemmas.List.Elements.{All-push, All-pop, All-nil}
use Rattle.std.proofs.lemmas.List.{nil_from_length}
use Rattle.seen_journal.specs.Passes.{HasAll, PassValue, HasSeen}
use Rattle.seen_journal.proofs.Owners.{HasAll-seen}
use Rattle.seen_journal.proofs.journal.Journal.show_all.Goals as goal

pub loop-pass-preserved : goal.loop-pass-preserved
loop-pass-preserved g c =
    let inv = c.loop-pass.invariant in
    let all = c.args.self.now.entries in
    let P : PassValue g.row.E.Denot → Type 0 = λ p. p.name ≡ c.args.self.now.name in
    let popped = All-pop P c.loop-pass.passes.items c.pop.new.self.items (Some c.in-Some.pass) c.in-Some.ensures.items inv.names in
    let seen : HasSeen c.in-Some.pass c.show.new.pass all = subst (λ l. HasSeen c.in-Some.pass c.show.new.pass l) (ap (λ v. v.entries) inv.self) c.show.ensures.seen in
    record {
      self = c.show.ensures.journal ∙ inv.self;
      names = popped.0;
      whole = λ h. inv.whole (subst (λ l. All (HasAll all) l) (sym c.in-Some.ensures.items) (All-push (HasAll all) c.pop.new.self.items c.in-Some.pass h (HasAll-seen c.in-Some.pass c.show.new.pass all seen)));
    }

pub returns-clause-whole : goal.returns-clause-whole
returns-clause-whole g c = c.loop-pass.invariant.whole (subst (λ l. All (HasAll c.args.self.now.entries) l) (sym (nil_from_length c.loop-pass.passes.items (omega (arith, c.in_default.ensures.cases.0, c.loop-pass.passes.ok)))) (All-nil (HasAll c.args.self.now.entries)))
