use Rattle.std.proofs.Common.{◌≡◌, true, false, List, [], ◌∷◌, ◌++◌, get_or, take, sym, ◌∙◌, subst}
use Rattle.std.proofs.lemmas.List.{take_all}
use Rattle.cache_core.specs.History.{IsLegal, MayHappen, Shape, shape_of}
use Rattle.cache_core.specs.declared.entry.SliceEntry.{SliceEntry}
use Rattle.machine.specs.Maps.{parameters_of}
use Rattle.journal_check.proofs.LegalLists.{EntryMayFollow-at, IsLegal-next, StandsFor-own, no_entry, take-next}
use Rattle.journal_check.proofs.Told.{is_false, is_true}
use Rattle.journal_check.specs.Replays.{StandsFor}
use Rattle.journal_check.proofs.legality.is_legal.Goals as goal

pub may_happen-requires : goal.may_happen-requires
may_happen-requires c = StandsFor-own (shape_of (parameters_of c.args.m.now) c.args.slice) (take c.loop-k.k c.args.entries.now) c.loop-k.replay c.loop-k.invariant.stands

pub returns-then-not-may_happen : goal.returns-then-not-may_happen
returns-then-not-may_happen c =
    let m = shape_of (parameters_of c.args.m.now) c.args.slice in
    let es = c.args.entries.now in
    let k = c.loop-k.k in
    let e = get_or es k no_entry in
    let shape = c.loop-k.invariant.stands.shape in
    is_false (IsLegal m es)
    (λ legal.
    let may = EntryMayFollow-at m es k c.loop-k-test.true legal in
    let shown = c.may_happen.ensures.1 (subst (λ (s : Shape). MayHappen s (take k es) e.epoch e.what) (sym shape) may) in
    let wrong : true ≡ false = sym shown ∙ c.if-not-may_happen.true in
    cc)

pub loop-k-preserved : goal.loop-k-preserved
loop-k-preserved c =
    let m = shape_of (parameters_of c.args.m.now) c.args.slice in
    let es = c.args.entries.now in
    let k = c.loop-k.k in
    let e = get_or es k no_entry in
    let shape = c.loop-k.invariant.stands.shape in
    let may = subst (λ (s : Shape). MayHappen s (take k es) e.epoch e.what) shape (c.may_happen.ensures.0 c.if-not-may_happen.false) in
    record {
      legal = IsLegal-next m es k c.loop-k-test.true c.loop-k.invariant.legal may;
      stands = subst (λ (xs : List SliceEntry). StandsFor m xs c.add.new.self) (take-next m es k c.loop-k-test.true) (subst (λ (s : Shape). StandsFor s (take k es ++ e ∷ []) c.add.new.self) shape c.add.ensures);
    }

pub returns : goal.returns
returns c =
    let m = shape_of (parameters_of c.args.m.now) c.args.slice in
    let es = c.args.entries.now in
    is_true (IsLegal m es) (subst (IsLegal m) (take_all c.loop-k.k es c.loop-k-test.false) c.loop-k.invariant.legal)
