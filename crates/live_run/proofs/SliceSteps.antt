-- What a thread knows of the parts at hand when it steps in a slice.
use Rattle.std.proofs.Common.{◌≡◌, ℕ, ◌^◌, ◌<◌, ◌≤◌, false, Bool, [], ◌∷◌, ◌++◌, length, refl, sym, ap, ◌∙◌, subst, arith}
use Rattle.atomic_table.specs.Seated.{TableId}
use Rattle.cache_core.specs.History.{IsLegal, Shape, floor_of}
use Rattle.cache_core.specs.Places.{CacheValue}
use Rattle.cache_core.specs.Stands.{Adds, entry}
use Rattle.cache_core.specs.declared.entry.SliceEntry.{SliceEntry}
use Rattle.cache_core.specs.declared.entry.What.{What}
use Rattle.cache_core.specs.declared.entry.What.TheVariants as whats
use Rattle.live_run.specs.Cells.{SliceCellValue, SliceIsKept}
use Rattle.live_run.specs.Names.{SeenValue}
use Rattle.live_run.specs.Sharing.{IsNextCount, IsNextFollow, IsShareOf, IsTagged}
use Rattle.machine.specs.Maps.{line_of}
use Rattle.machine.specs.Slices.{slice_count, slice_of_line}
use Rattle.rc_base.specs.declared.names.Tag.{Tag}
use Rattle.run_law.specs.Owed.{undecided, what_of}
use Rattle.run_law.specs.Slices.{shape_in}
use Rattle.run_law.specs.declared.journals.TreeEntry.{TreeEntry}
use Rattle.schedule_law.specs.LiveParts.{after, happening_of, live_slice}
use Rattle.schedule_law.specs.Parts.{list_after}
use Rattle.schedule_law.specs.declared.part.Happening.{Happening}
use Rattle.schedule_law.specs.LiveSteps.{HasPlace, MayFollow, MayLook, MayTagAgain, MayTouch}
use Rattle.schedule_law.specs.declared.part.Part.{Part}
use Rattle.script_ops.specs.Values.{ScriptValue}
use Rattle.seen_journal.proofs.laws.Entries.{length-list_of}
use Rattle.seen_journal.specs.Entries.{list_of}
use Rattle.seen_journal.specs.Journals.{JournalName, JournalValue}
use Rattle.shared_parts.specs.Parts.{parts_after}
use Rattle.shared_parts.specs.Shares.{ShareValue}
use Rattle.shared_parts.specs.Words.{word_of}
use Rattle.tree_law.specs.declared.follow.Follow.{Follow}

module _ (script : ScriptValue) (table : TableId) (tree slice : JournalName) (i : ℕ) (c : SliceCellValue) (kept : SliceIsKept script table tree slice i c) where
  -- the lock of the slice has a word of the table
  pub lock_there : (worker : ShareValue Part) → worker.table ≡ table → word_of i < worker.table.words
  lock_there worker is =
      let few : slice_count script.machine ≤ 32 = kept.lawful.in_range.slice_total in
      omega (arith, kept.within, few, kept.share_is.words, ap (λ (t : TableId). t.words) is)

  -- the slice's list has a place for an entry that its cache makes
  pub has_place : (cache : CacheValue) (n op epoch : ℕ) (what : What) → cache.shape ≡ c.cache.shape → Adds c.cache cache epoch what → HasPlace script c.share.parts i (entry n op epoch what)
  has_place cache n op epoch what shape adds = record {
    list = list_of c.journal.entries;
    slice_is = kept.share_is.parts_are;
    within = kept.within;
    legal = subst (λ (m : Shape). IsLegal m (list_of c.journal.entries ++ entry n op epoch what ∷ [])) (shape ∙ kept.shape) (adds n op (list_of c.journal.entries) kept.stands).legal;
  }

  -- it looks
  pub may_count : (n epoch rmid lines : ℕ) (history : JournalValue TreeEntry) (s : SeenValue) (worker : ShareValue Part) (e : SliceEntry) → IsNextCount script table i n rmid history s worker → epoch ≡ length history.entries
      → e ≡ entry s.thread n epoch (whats.Look rmid lines) → Adds c.cache c.cache epoch (whats.Look rmid lines) → MayLook script c.share.parts worker.parts e
  may_count n epoch rmid lines history s worker e next is_epoch is adds =
      subst (λ (x : SliceEntry). MayLook script c.share.parts worker.parts x) (sym is)
      (record {
        some = kept.lawful.in_range.some_slice;
        i = i;
        rmid = rmid;
        lines = lines;
        op = next.op;
        history = list_of history.entries;
        found = next.found;
        given = next.given;
        worker_is = next.share.parts_are;
        is = next.is;
        distinct = next.distinct;
        next = next.next;
        epoch = is_epoch ∙ sym (length-list_of history.entries);
        what = refl;
        place = has_place c.cache s.thread n epoch (whats.Look rmid lines) refl adds;
      })

  -- it follows
  pub may_follow_on : (cache : CacheValue) (n epoch : ℕ) (f : Follow) (what : What) (history : JournalValue TreeEntry) (s : SeenValue) (worker : ShareValue Part) (e : SliceEntry) (last : Bool) → IsNextFollow script table i n epoch f last history s worker → epoch ≡ length history.entries
      → e ≡ entry s.thread n epoch what → undecided what ≡ what_of f → cache.shape ≡ c.cache.shape → Adds c.cache cache epoch what → epoch < 2 ^ 62 → MayFollow script c.share.parts worker.parts e last
  may_follow_on cache n epoch f what history s worker e last next is_epoch is owed shape adds few =
      subst (λ (x : SliceEntry). MayFollow script c.share.parts worker.parts x last) (sym is)
      (record {
        some = kept.lawful.in_range.some_slice;
        position = next.position;
        made = next.made;
        op = next.op;
        history = list_of history.entries;
        found = next.found;
        given = next.given;
        job = record { slice = i; owed = record { epoch = epoch; what = what_of f } };
        worker_is = next.share.parts_are;
        is = next.is;
        decided = length-list_of history.entries ∙ (sym is_epoch ∙ next.decided);
        epoch_is = is_epoch ∙ sym (length-list_of history.entries);
        few = few;
        next = next.next;
        pays = λ j. record { epoch = epoch; what = owed j };
        ends = next.ends;
        place = has_place cache s.thread n epoch what shape adds;
      })

  -- the place in the slice that an access goes to
  place_of_access : (n line : ℕ) (tag : Tag) (hit : Bool) (way addr : ℕ) (t : ℕ) (cache : CacheValue) → i ≡ slice_of_line script.machine tag.domain (line_of addr) → cache.shape ≡ c.cache.shape
      → Adds c.cache cache tag.epoch (whats.Access hit way tag.owner tag.rmid tag.mask line)
      → (place : HasPlace script c.share.parts (slice_of_line script.machine tag.domain (line_of addr)) (entry t n tag.epoch (whats.Access hit way tag.owner tag.rmid tag.mask line))) × (place.list ≡ list_of c.journal.entries)
  unfolding has_place
  place_of_access n line tag hit way addr t cache here shape adds =
      let e : SliceEntry = entry t n tag.epoch (whats.Access hit way tag.owner tag.rmid tag.mask line) in
      let place : HasPlace script c.share.parts i e = has_place cache t n tag.epoch (whats.Access hit way tag.owner tag.rmid tag.mask line) shape adds in (
        record {
          list = list_of c.journal.entries;
          slice_is = subst (λ k. c.share.parts ≡ live_slice k (list_of c.journal.entries) ∷ []) here place.slice_is;
          within = subst (λ k. k < slice_count script.machine) here place.within;
          legal = subst (λ k. IsLegal (shape_in script.machine k) (list_of c.journal.entries ++ e ∷ [])) here place.legal;
        },
        refl,
      )

  -- it touches
  pub may_touch : (cache : CacheValue) (n line : ℕ) (tag : Tag) (hit : Bool) (way : ℕ) (s : SeenValue) (worker : ShareValue Part) (e : SliceEntry) → IsTagged script table i n tag line s worker → c.cache.floor ≤ tag.epoch
      → e ≡ entry s.thread n tag.epoch (whats.Access hit way tag.owner tag.rmid tag.mask line) → cache.shape ≡ c.cache.shape → Adds c.cache cache tag.epoch (whats.Access hit way tag.owner tag.rmid tag.mask line)
      → MayTouch script c.share.parts worker.parts e
  may_touch cache n line tag hit way s worker e tagged fresh is shape adds =
      let place = place_of_access n line tag hit way tagged.addr s.thread cache tagged.slice_is shape adds in
      subst (λ (x : SliceEntry). MayTouch script c.share.parts worker.parts x) (sym is)
      (record {
        some = kept.lawful.in_range.some_slice;
        task = tagged.task;
        cpu = tagged.cpu;
        addr = tagged.addr;
        tag = tag;
        found = tagged.found;
        given = tagged.given;
        worker_is = tagged.share.parts_are;
        is = tagged.is;
        pays = λ j. record { epoch = tag.epoch; what = whats.Access false 0 tag.owner tag.rmid tag.mask (tagged.line_is j) };
        place = place.0;
        fresh = omega (arith, fresh, kept.stands.floor, ap floor_of place.1);
      })

  -- it is to tag again
  pub may_tag_again : (n line : ℕ) (tag : Tag) (s : SeenValue) (worker : ShareValue Part) → IsTagged script table i n tag line s worker → tag.epoch < c.cache.floor → MayTagAgain script c.share.parts worker.parts
  may_tag_again n line tag s worker tagged stale = record {
    some = kept.lawful.in_range.some_slice;
    t = s.thread;
    n = n;
    task = tagged.task;
    cpu = tagged.cpu;
    addr = tagged.addr;
    tag = tag;
    list = list_of c.journal.entries;
    found = tagged.found;
    given = tagged.given;
    slice_is = subst (λ k. c.share.parts ≡ live_slice k (list_of c.journal.entries) ∷ []) tagged.slice_is kept.share_is.parts_are;
    worker_is = tagged.share.parts_are;
    is = tagged.is;
    stale = omega (arith, stale, kept.stands.floor);
  }

  -- the slice's part has the entry last
  pub share_after : (e : SliceEntry) (event : Happening) (share : ShareValue Part) → list_after (happening_of event) (list_of c.journal.entries) ≡ list_of c.journal.entries ++ e ∷ [] → share.table ≡ c.share.table
      → share.parts ≡ parts_after after event c.share.parts → IsShareOf table (live_slice i (list_of c.journal.entries ++ e ∷ []) ∷ []) share
  share_after e event share adds same stepped = record {
    table_is = same ∙ kept.share_is.table_is;
    words = kept.share_is.words;
    parts_are = stepped ∙ (ap (parts_after after event) kept.share_is.parts_are ∙ ap (λ es. live_slice i es ∷ []) adds);
  }

  -- a share that has the same parts
  pub share_same : (share : ShareValue Part) → share.table ≡ c.share.table → share.parts ≡ c.share.parts → SliceIsKept script table tree slice i (record { cache = c.cache; journal = c.journal; tree = c.tree; share = share })
  share_same share same parts = record {
    lawful = kept.lawful;
    within = kept.within;
    journal_is = kept.journal_is;
    pass_is = kept.pass_is;
    shape = kept.shape;
    rmids = kept.rmids;
    stands = kept.stands;
    keeps = kept.keeps;
    threads = kept.threads;
    few = kept.few;
    tree_threads = kept.tree_threads;
    share_is = record { table_is = same ∙ kept.share_is.table_is; words = kept.share_is.words; parts_are = parts ∙ kept.share_is.parts_are };
  }
