-- The line of a command, by its word and its numbers.
use Rattle.std.proofs.Common.{◌≡◌, ℕ, zero, suc, ◌^◌, ◌<◌, ◌≤◌, List, [], ◌∷◌, All, length, codes, refl, subst, arith, lt_of_lt_of_le, lt_of_le_of_lt}
use Rattle.rc_base.specs.Replies.{number_of}
use Rattle.rc_base.specs.declared.replies.Reply.{Reply}
use Rattle.rc_base.specs.declared.replies.Reply.TheVariants as replies
use Rattle.rc_base.specs.declared.replies.Why.{Why}
use Rattle.rc_base.specs.declared.replies.Why.TheVariants.{NoSuchPath}
use Rattle.run_law.specs.TreeHistory.{TreeEntryValue}
use Rattle.journal_text.specs.Lines.{argument_in, command_line, fields, reason_in}
use Rattle.journal_text.specs.Taken.{AreNumbers, IsSplit, Takes}
use Rattle.journal_text.specs.Writable.{IsWritableCommand, IsWritableReply}
use Rattle.journal_text.proofs.laws.EntryLines.{EndsWord-numbers, IsSplit-unique}
use Rattle.journal_text.proofs.laws.Fields.{Takes-all}

-- the numbers of the line
abbrev pub numbers_of : TreeEntryValue → List ℕ
numbers_of e = e.thread ∷ e.op ∷ reason_in e.reply ∷ argument_in e.reply ∷ length e.looks ∷ e.looks

-- there are 42 reasons
pub number_of-le : (why : Why) → number_of why ≤ 42
number_of-le NoSuchPath = omega arith
number_of-le _ = omega arith

-- numbers of 64 bits, as they are told of by their places
pub AreNumbers-all : (ns : List ℕ) → All (λ n. n < 2 ^ 64) ns → AreNumbers ns
AreNumbers-all [] all = tt
AreNumbers-all (n ∷ ns) all = (all 0 0 (omega arith), AreNumbers-all ns (λ k d within. all (suc k) d (omega arith)))

-- and back
pub All-numbers : (ns : List ℕ) → AreNumbers ns → All (λ n. n < 2 ^ 64) ns
All-numbers [] fit k d within = absurd (omega arith)
All-numbers (n ∷ ns) fit zero d within = fit.0
All-numbers (n ∷ ns) fit (suc k) d within = All-numbers ns fit.1 k d (omega arith)

-- the reason and the argument of a reply that has a text
pub reason_in-lt : (reply : Reply) → reason_in reply < 2 ^ 64
reason_in-lt replies.Ok = omega arith
reason_in-lt (replies.Refused errno why arg) = omega (arith, number_of-le why)

-- the argument has 64 bits
pub argument_in-lt : (reply : Reply) → IsWritableReply reply → argument_in reply < 2 ^ 64
argument_in-lt replies.Ok w = omega arith
argument_in-lt (replies.Refused errno why arg) w = w.1

-- each number of the line has 64 bits
pub AreNumbers-numbers_of : (weight : ℕ) (e : TreeEntryValue) → weight < 2 ^ 64 → IsWritableCommand weight e → AreNumbers (numbers_of e)
AreNumbers-numbers_of weight e light w =
    (lt_of_lt_of_le w.thread (omega arith), (lt_of_lt_of_le w.op (omega arith), (reason_in-lt e.reply, (argument_in-lt e.reply w.reply, (lt_of_le_of_lt w.few light, AreNumbers-all e.looks w.looks)))))

-- the line, cut at its first space
pub IsSplit-command_line : (e : TreeEntryValue) → IsSplit (codes "tree") (fields (numbers_of e)) (command_line e)
IsSplit-command_line e = record { same = refl; word_has_no_space = refl; word_ends = EndsWord-numbers (numbers_of e) }

-- a line that is cut at its first space and is that of a command
pub record CommandIs (e : TreeEntryValue) (word after : List ℕ) : Type 0 where
  pub word_is : codes "tree" ≡ word
  pub takes : Takes (numbers_of e) [] after

-- its word is that of a command, and its numbers are the command's
pub CommandIs-line : (weight : ℕ) (word after line : List ℕ) → weight < 2 ^ 64 → IsSplit word after line → (e : TreeEntryValue) → IsWritableCommand weight e → command_line e ≡ line → CommandIs e word after
CommandIs-line weight word after line light split e w same =
    let both = IsSplit-unique (codes "tree") word (fields (numbers_of e)) after line (subst (λ (t : List ℕ). IsSplit (codes "tree") (fields (numbers_of e)) t) same (IsSplit-command_line e)) split in
    record { word_is = both.0; takes = subst (λ (t : List ℕ). Takes (numbers_of e) [] t) both.1 (Takes-all (numbers_of e) (AreNumbers-numbers_of weight e light w)) }
