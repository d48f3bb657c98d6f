-- The line of a write to a file of a control group is read as that write.
use Rattle.std.proofs.Common.{◌≡◌, ℕ, suc, ◌+◌, ◌<◌, ◌≤◌, Bool, true, false, cond, not, ◌||◌, List, [], ◌∷◌, ◌++◌, length, drop, filter, Some, refl, sym, ap, subst, ◌∙◌, arith}
use Rattle.std.specs.Prelude.{codes}
use Rattle.std.specs.List.{list_all, list_any, flat_map, position_or_len, slice_split}
use Rattle.std.proofs.lemmas.Bool.{le-ltb}
use Rattle.std.proofs.lemmas.List.{append-nil}
use Rattle.std.proofs.lemmas.List.Folds.{list_any-append}
use Rattle.rc_base.specs.Texts.{is_text}
use Rattle.lists.proofs.Cuts.{slice_split-none, slice_split-some}
use Rattle.num_text.proofs.laws.Pieces.{Cut-append}
use Rattle.num_text.specs.Blanks.{is_blank}
use Rattle.line_words.proofs.laws.FirstWord.{filter-some_word, words-blank}
use Rattle.line_words.specs.Lines.{is_bad, is_some_word, words}
use Rattle.path_names.specs.PathTexts.{path_text}
use Rattle.path_names.specs.Reading.{path_of}
use Rattle.path_names.specs.declared.dirs.DirRef.{DirRef}
use Rattle.path_names.specs.declared.files.FileKind.{FileKind}
use Rattle.path_names.specs.declared.path_ref.PathRef.TheVariants.{File}
use Rattle.script_lines.specs.Arguments.{first_of}
use Rattle.script_lines.specs.Escapes.{text_behind, unescaped}
use Rattle.script_lines.specs.Paths.{Named, named}
use Rattle.script_ops.specs.Canonical.{escaped, op_text, text_after}
use Rattle.script_ops.specs.declared.limits.TheConstants.{MOST_PATH_BYTES, MOST_TEXT_BYTES}
use Rattle.script_ops.specs.declared.op.Op.{Op}
use Rattle.script_ops.specs.declared.op.Op.TheVariants as ops
use Rattle.script_text.specs.Kinds.{command_kind, kind_of, part_kind}
use Rattle.script_text.specs.Meaning.{line_meaning, means, named_in, with_names, with_op, word_means}
use Rattle.script_text.specs.States.{ReaderState}
use Rattle.script_text.specs.declared.kind.Kind.TheVariants as kinds
use Rattle.script_text.specs.declared.kind.LinePosition.TheVariants.{Thread}
use Rattle.plan_reading.proofs.laws.Escapes.{list_any-text_after, unescaped-flat_map}
use Rattle.plan_reading.proofs.laws.TextLines.{IsGoodLine}
use Rattle.plan_reading.proofs.laws.GroupPaths.{IsPlainPath, IsPlainPath-group_file, path_of-group_file}
use Rattle.plan_reading.specs.GroupWrites.{IsGroupDir, IsGroupWrite, is_group_file, is_text_byte}
use Rattle.plan_reading.specs.ReadBack.{WritesReadBack}

-- ---- a path and a text after it

-- the path is the first word
first_of-words : (path text : List ℕ) → 0 < length path → list_any is_blank path ≡ false → first_of (words (path ++ text_after text)) ≡ Some path
first_of-words path [] some none =
    ap (λ (bytes : List ℕ). first_of (words bytes)) (append-nil path)
    ∙ ap first_of (ap (filter is_some_word) (slice_split-none is_blank path none) ∙ filter-some_word path [] some)
first_of-words path (b ∷ bs) some none =
    let cut = Cut-append is_blank path 32 (flat_map escaped (b ∷ bs)) none refl in
    let parts : slice_split is_blank (path ++ 32 ∷ flat_map escaped (b ∷ bs)) ≡ path ∷ slice_split is_blank (flat_map escaped (b ∷ bs)) =
    slice_split-some is_blank (path ++ 32 ∷ flat_map escaped (b ∷ bs)) cut.any ∙ rw (cut.before, cut.behind) refl in
    ap first_of (ap (filter is_some_word) parts ∙ filter-some_word path (slice_split is_blank (flat_map escaped (b ∷ bs))) some)

-- the text is what stands after it
drop-path : (path text : List ℕ) → list_any is_blank path ≡ false → drop (position_or_len is_blank (path ++ text_after text)) (path ++ text_after text) ≡ text_after text
drop-path [] [] none = refl
drop-path [] (b ∷ bs) none = refl
drop-path (c ∷ path) text none = at (is_blank c) (λ h. drop-path path text h) none
  where
    at : (t : Bool) → (list_any is_blank path ≡ false → drop (position_or_len is_blank (path ++ text_after text)) (path ++ text_after text) ≡ text_after text) → (t || list_any is_blank path) ≡ false
        → drop (cond (not t) (1 + position_or_len is_blank (path ++ text_after text)) 0) (c ∷ (path ++ text_after text)) ≡ text_after text
    at true rest e = absurd cc
    at false rest e =
        let next : 1 + position_or_len is_blank (path ++ text_after text) ≡ suc (position_or_len is_blank (path ++ text_after text)) = omega arith in
        rw next (rest e)

-- and reads back
unescaped-text_after : (text : List ℕ) → unescaped (drop 1 (text_after text)) ≡ Some text
unfolding unescaped
unescaped-text_after [] = refl
unescaped-text_after (b ∷ bs) = unescaped-flat_map (b ∷ bs)

-- ---- the line

module _ (body text : List ℕ) (unbroken : list_any is_blank body ≡ false) where
  -- what stands after the word `write`
  abbrev after_write : List ℕ
  after_write = 32 ∷ 47 ∷ (body ++ text_after text)

  -- its first word
  first-after_write : first_of (words after_write) ≡ Some (47 ∷ body)
  first-after_write = ap first_of (words-blank 32 (47 ∷ (body ++ text_after text)) refl) ∙ first_of-words (47 ∷ body) text (omega arith) unbroken

  -- its text
  text-after_write : unescaped (text_behind after_write) ≡ Some text
  text-after_write = ap (λ (rest : List ℕ). unescaped (drop 1 rest)) (drop-path (47 ∷ body) text unbroken) ∙ unescaped-text_after text

  -- what such a line means
  means-write : (s : ReaderState) (p : Named) → named_in s (47 ∷ body) ≡ Some (Some p) → length text ≤ MOST_TEXT_BYTES → means kinds.Write s after_write ≡ with_op (with_names s p.1) (ops.Write p.0 text)
  unfolding means
  means-write s p found short =
      rw (first-after_write) (rw (found) (rw (text-after_write) (rw (le-ltb MOST_TEXT_BYTES (length text) short) refl)))

  -- a line that begins with that word, in a thread
  word_means-write : (s : ReaderState) → s.place ≡ Thread → word_means s (codes "write") after_write ≡ means kinds.Write s after_write
  unfolding word_means kind_of part_kind command_kind is_text
  word_means-write s thread = rw thread refl

  -- the whole line
  line_meaning-write : (s : ReaderState) → s.place ≡ Thread → list_any is_bad (body ++ text_after text) ≡ false → line_meaning s (codes "write" ++ after_write) ≡ means kinds.Write s after_write
  unfolding line_meaning
  line_meaning-write s thread good = rw good (word_means-write s thread)

-- what a plain path names
named-plain : (domains : ℕ) (names : List (List ℕ)) (path : List ℕ) (p : Named) → length path ≤ MOST_PATH_BYTES → path_of domains names path ≡ Some p → named domains names path ≡ Some (Some p)
named-plain domains names path p short read = rw (le-ltb MOST_PATH_BYTES (length path) short, read) refl

-- neither the path nor the text has a bad byte
good-group_file : (names : List (List ℕ)) (dir : DirRef) (kind : FileKind) (text : List ℕ) → (plain : IsPlainPath (path_text names (File dir kind))) → list_all is_text_byte text ≡ true → list_any is_bad (plain.body ++ text_after text) ≡ false
good-group_file names dir kind text plain bytes = list_any-append is_bad plain.body (text_after text) ∙ rw (plain.good, list_any-text_after text bytes) refl

-- so the line has none
pub IsGoodLine-group_write : (names : List (List ℕ)) (op : Op) → IsGroupWrite (IsGroupDir names) op → (0 < length (op_text names op)) × IsGoodLine (op_text names op)
IsGoodLine-group_write names op write =
    subst (λ (o : Op). (0 < length (op_text names o)) × IsGoodLine (op_text names o)) (sym write.is) (
      omega arith,
      (let plain = IsPlainPath-group_file names write.kind write.has_file write.dir write.is_dir in
          ap (λ (path : List ℕ). list_any is_bad (codes "write " ++ path ++ text_after write.text)) plain.is ∙ good-group_file names write.dir write.kind write.text plain write.bytes),
    )

-- a line of a file of a control group
line_meaning-group_file : (s : ReaderState) (dir : DirRef) (kind : FileKind) (text : List ℕ) → s.place ≡ Thread → IsGroupDir s.names dir → is_group_file kind ≡ true → list_all is_text_byte text ≡ true → length text ≤ MOST_TEXT_BYTES
    → line_meaning s (op_text s.names (ops.Write (File dir kind) text)) ≡ with_op s (ops.Write (File dir kind) text)
line_meaning-group_file s dir kind text thread is has bytes short =
    let path = path_text s.names (File dir kind) in
    let plain = IsPlainPath-group_file s.names kind has dir is in
    let found : named_in s (47 ∷ plain.body) ≡ Some (Some (File dir kind, s.names)) =
    ap (named_in s) (sym plain.is) ∙ named-plain s.machine.domains s.names path (File dir kind, s.names) plain.short (path_of-group_file s.names kind has s.machine.domains dir is) in
    let good = good-group_file s.names dir kind text plain bytes in
    ap (λ (written : List ℕ). line_meaning s (codes "write " ++ written ++ text_after text)) plain.is
    ∙ line_meaning-write plain.body text plain.unbroken s thread good
    ∙ means-write plain.body text plain.unbroken s (File dir kind, s.names) found short

-- the line of such a write
pub line_meaning-group_write : (s : ReaderState) (op : Op) → s.place ≡ Thread → IsGroupWrite (IsGroupDir s.names) op → line_meaning s (op_text s.names op) ≡ with_op s op
line_meaning-group_write s op thread write =
    ap (λ (o : Op). line_meaning s (op_text s.names o)) write.is
    ∙ line_meaning-group_file s write.dir write.kind write.text thread write.is_dir write.has_file write.bytes write.short
    ∙ ap (with_op s) (sym write.is)

-- the law
pub writes_back : WritesReadBack
writes_back s op thread write = line_meaning-group_write s op thread write
