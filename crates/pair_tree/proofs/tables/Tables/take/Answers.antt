use Rattle.std.proofs.Common.{inl, inr}
use Rattle.pair_tree.proofs.Taken.{Takes-flush, Takes-mkdir, Takes-read, Takes-rmdir, Takes-use}
use Rattle.pair_tree.specs.Tables.{state_of}
use Rattle.pair_tree.proofs.tables.Tables.take.Goals as goal

pub returns-in-Mkdir : goal.returns-in-Mkdir
returns-in-Mkdir c = rw c.in-Mkdir.is (Takes-mkdir c.args.m.now (state_of c.args.self.now) _ _ _ (rw c.as_slice.ensures at c.mkdir.ensures))

pub returns-in-Rmdir : goal.returns-in-Rmdir
returns-in-Rmdir c = rw c.in-Rmdir.is (Takes-rmdir c.args.m.now (state_of c.args.self.now) _ _ _ (rw c.as_slice-in-Rmdir.ensures at c.rmdir.ensures))

pub returns-in-Read : goal.returns-in-Read
returns-in-Read c = rw c.in-Read.is (Takes-read c.args.m.now (state_of c.args.self.now) _ _ c.read.ensures)

pub returns-in-Flush : goal.returns-in-Flush
returns-in-Flush c = elim c.in-Flush.is [
  | inl flush ↦ rw flush (Takes-flush c.args.m.now (state_of c.args.self.now))
  | inr use_of ↦ rw use_of.4 (Takes-use c.args.m.now (state_of c.args.self.now) _ _ _ _)
]

pub returns-in-Flush-2 : goal.returns-in-Flush-2
returns-in-Flush-2 c = elim c.in-Flush.is [
  | inl flush ↦ rw flush (Takes-flush c.args.m.now (state_of c.args.self.now))
  | inr use_of ↦ rw use_of.4 (Takes-use c.args.m.now (state_of c.args.self.now) _ _ _ _)
]
