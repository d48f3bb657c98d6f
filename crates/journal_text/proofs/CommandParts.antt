-- A command's line, read part by part.
use Rattle.std.proofs.Common.{◌≡◌, ℕ, ◌*◌, ◌^◌, ◌<◌, ◌≤◌, List, [], ◌∷◌, ◌++◌, false, length, get_or, codes, refl, sym, ap, subst, ◌∙◌, arith}
use Rattle.std.proofs.lemmas.List.{append-nil}
use Rattle.rc_base.specs.Texts.{is_text}
use Rattle.rc_base.specs.declared.replies.Reply.{Reply}
use Rattle.run_law.specs.TreeHistory.{TreeEntryValue}
use Rattle.journal_text.specs.Heads.{IsCommandHead, numbers_in}
use Rattle.journal_text.specs.Lines.{argument_in, command_line, fields, reason_in}
use Rattle.journal_text.specs.Taken.{IsSplit, Takes, TakesNone}
use Rattle.journal_text.specs.Writable.{IsWritableCommand, IsWritableReply}
use Rattle.journal_text.specs.declared.commands.CommandHead.{CommandHead}
use Rattle.journal_text.proofs.KindWords.{is_no_word}
use Rattle.journal_text.proofs.laws.CommandLines.{CommandIs-line, numbers_of}
use Rattle.journal_text.proofs.laws.Fields.{fields-append, length-fields}
use Rattle.journal_text.proofs.laws.Taken.{Takes-after, TakesNone-more}

module _ (weight : ℕ) (word after line : List ℕ) (light : weight < 2 ^ 64) (split : IsSplit word after line) where
  -- another word begins no command's line
  pub no_tree_word : false ≡ is_text word (codes "tree") → (e : TreeEntryValue) → IsWritableCommand weight e → command_line e ≡ line → ⊥
  no_tree_word other e w same = is_no_word (codes "tree") word other (CommandIs-line weight word after line light split e w same).word_is

  -- a text that does not begin with five numbers follows no word of a command's line
  pub no_head : TakesNone 5 after → (e : TreeEntryValue) → IsWritableCommand weight e → command_line e ≡ line → ⊥
  no_head none e w same = TakesNone-more 5 (length (numbers_of e)) after (omega arith) none (numbers_of e) [] refl (CommandIs-line weight word after line light split e w same).takes

  module _ (thread op reason arg looks : ℕ) (rest : List ℕ) (takes : Takes (thread ∷ op ∷ reason ∷ arg ∷ looks ∷ []) rest after) where
    -- the first five numbers, and the counts
    parts_are : (e : TreeEntryValue) → IsWritableCommand weight e → command_line e ≡ line → (thread ∷ op ∷ reason ∷ arg ∷ looks ∷ [] ≡ e.thread ∷ e.op ∷ reason_in e.reply ∷ argument_in e.reply ∷ length e.looks ∷ []) × Takes e.looks [] rest
    parts_are e w same = Takes-after (thread ∷ op ∷ reason ∷ arg ∷ looks ∷ []) (numbers_of e) rest [] after (omega arith) takes (CommandIs-line weight word after line light split e w same).takes

    -- a number that is no thread's
    pub no_thread : (thread < 2 ^ 32 → ⊥) → (e : TreeEntryValue) → IsWritableCommand weight e → command_line e ≡ line → ⊥
    no_thread great e w same = great (subst (λ (n : ℕ). n < 2 ^ 32) (sym (ap (λ (xs : List ℕ). get_or xs 0 0) (parts_are e w same).0)) w.thread)

    -- a number that is no op's
    pub no_op : (op < 2 ^ 32 → ⊥) → (e : TreeEntryValue) → IsWritableCommand weight e → command_line e ≡ line → ⊥
    no_op great e w same = great (subst (λ (n : ℕ). n < 2 ^ 32) (sym (ap (λ (xs : List ℕ). get_or xs 1 0) (parts_are e w same).0)) w.op)

    -- numbers that are no reply's
    pub no_reply : ((r : Reply) → IsWritableReply r → reason_in r ≡ reason → argument_in r ≡ arg → ⊥) → (e : TreeEntryValue) → IsWritableCommand weight e → command_line e ≡ line → ⊥
    no_reply none e w same =
        let all = (parts_are e w same).0 in
        none e.reply w.reply (sym (ap (λ (xs : List ℕ). get_or xs 2 0) all)) (sym (ap (λ (xs : List ℕ). get_or xs 3 0) all))

    -- more counts than there may be
    pub too_many : (looks ≤ weight → ⊥) → (e : TreeEntryValue) → IsWritableCommand weight e → command_line e ≡ line → ⊥
    too_many many e w same = many (subst (λ (n : ℕ). n ≤ weight) (sym (ap (λ (xs : List ℕ). get_or xs 4 0) (parts_are e w same).0)) w.few)

    -- more counts than the text has room for
    pub too_long : length rest < 2 * looks → (e : TreeEntryValue) → IsWritableCommand weight e → command_line e ≡ line → ⊥
    too_long short e w same =
        let parts = parts_are e w same in
        let count : looks ≡ length e.looks = ap (λ (xs : List ℕ). get_or xs 4 0) parts.0 in
        let room : length rest ≡ length (fields e.looks) = ap length (parts.1.same ∙ append-nil (fields e.looks)) in
        omega (arith, count, room, length-fields e.looks parts.1.fit)

    -- what was read
    pub IsCommandHead-read : (t o : ℕ) (reply : Reply) → codes "tree" ≡ word → looks ≤ weight → t ≡ thread → o ≡ op → IsWritableReply reply × (reason_in reply ≡ reason) × (argument_in reply ≡ arg)
        → IsCommandHead weight (record { thread = t; op = o; reply = reply; looks = looks }) rest line
    IsCommandHead-read t o reply named few t_is o_is r = record {
      after = after;
      split = subst (λ (w : List ℕ). IsSplit w after line) (sym named) split;
      takes = rw (t_is, o_is, r.1, r.2) takes;
      reply = r.0;
      few = few;
    }

-- where the rest of a line that begins like a command's is not its counts, the line is no command's
pub other_looks : (weight : ℕ) (head : CommandHead) (rest line : List ℕ) → weight < 2 ^ 64 → IsCommandHead weight head rest line → ((looks : List ℕ) → length looks ≡ head.looks → Takes looks [] rest → ⊥)
    → (e : TreeEntryValue) → IsWritableCommand weight e → command_line e ≡ line → ⊥
other_looks weight head rest line light is none e w same =
    let parts = Takes-after (numbers_in head) (numbers_of e) rest [] is.after (omega arith) is.takes (CommandIs-line weight (codes "tree") is.after line light is.split e w same).takes in
    none e.looks (sym (ap (λ (xs : List ℕ). get_or xs 4 0) parts.0)) parts.1

-- where it is, the line is that of the command
pub command_line-read : (weight : ℕ) (head : CommandHead) (rest line looks : List ℕ) → IsCommandHead weight head rest line → length looks ≡ head.looks → Takes looks [] rest
    → command_line (record { thread = head.thread; op = head.op; reply = head.reply; looks = looks }) ≡ line
command_line-read weight head rest line looks is count takes =
    ap (λ (n : ℕ). codes "tree" ++ fields (head.thread ∷ head.op ∷ reason_in head.reply ∷ argument_in head.reply ∷ n ∷ looks)) count
    ∙ ap (λ (t : List ℕ). codes "tree" ++ t) (fields-append (numbers_in head) looks ∙ ap (λ (t : List ℕ). fields (numbers_in head) ++ t) (sym (takes.same ∙ append-nil (fields looks))) ∙ sym is.takes.same)
    ∙ sym is.split.same
