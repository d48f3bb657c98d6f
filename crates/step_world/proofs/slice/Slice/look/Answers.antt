use Rattle.std.proofs.Common.{◌≡◌, ◌++◌, ◌∷◌, [], List, sym, ap, subst}
use Rattle.cache_core.specs.History.{lines_of}
use Rattle.cache_core.specs.Places.{CacheValue}
use Rattle.cache_core.specs.Stands.{StandsFor, entry}
use Rattle.cache_core.specs.declared.entry.SliceEntry.{SliceEntry}
use Rattle.cache_core.specs.declared.entry.What.TheVariants.{Look}
use Rattle.step_world.specs.Slices.{SliceValue}
use Rattle.step_world.proofs.slice.Slice.look.Goals as goal

pub returns : goal.returns
returns c =
    let old : SliceValue = c.args.self.now in
    let new : SliceValue = c.note.new.self in
    let e : SliceEntry = entry c.args.turn.thread c.args.turn.number c.args.epoch (Look c.args.rmid c.look-lines.result) in
    record {
      grows = record {
        shape = ap (λ (x : CacheValue). x.shape) c.note.ensures.cache;
        rmids = ap (λ (x : CacheValue). x.rmids) c.note.ensures.cache;
        room = c.note.ensures.room;
        entries = c.note.ensures.entries;
        stands = λ stands.
            subst (λ x. StandsFor x new.entries) (sym c.note.ensures.cache)
            (subst (λ es. StandsFor old.cache es) (sym c.note.ensures.entries)
            (subst (λ (s : SliceValue). StandsFor s.cache s.entries → StandsFor s.cache (s.entries ++ e ∷ [])) c.self.view_is
            (c.look-lines.ensures.entry c.args.epoch c.args.turn.thread c.args.turn.number c.self.inside.entries.items) stands));
      };
      counts =
          subst (λ (s : SliceValue). (history : List SliceEntry) → StandsFor s.cache history → c.look-lines.result ≡ lines_of s.cache.shape history c.args.rmid) c.self.view_is
          c.look-lines.ensures.count;
    }
