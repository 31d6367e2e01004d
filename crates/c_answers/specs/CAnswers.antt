-- The answers of the C interface in the paper's terms: the refusal's number first, then the fields (01, "Why a call says no"). Assumes nothing.
use Rattle.std.specs.Prelude.{ℕ}
use Rattle.address.specs.Answers.{Answer, answer}
use Rattle.c_answers.specs.declared.Written.{Written}
use Rattle.c_answers.specs.declared.NetworkRead.{NetworkRead}
use Rattle.c_answers.specs.declared.NetworkHost.{NetworkHost}
use Rattle.c_answers.specs.declared.BlockRead.{BlockRead}
use Rattle.c_answers.specs.declared.BlocksWritten.{BlocksWritten}

abbrev pub written_answer : Written → Answer ℕ
written_answer r = record { number = r.refusal; fields = r.bytes }

abbrev pub network_read_answer : NetworkRead → Answer (ℕ × ℕ)
network_read_answer r = record { number = r.refusal; fields = (r.size, r.bytes) }

abbrev pub network_host_answer : NetworkHost → Answer (ℕ × ℕ)
network_host_answer r = record { number = r.refusal; fields = (r.network, r.host) }

abbrev pub block_read_answer : BlockRead → Answer (ℕ × ℕ)
block_read_answer r = record { number = r.refusal; fields = (r.length, r.bytes) }

abbrev pub blocks_written_answer : BlocksWritten → Answer (ℕ × ℕ)
blocks_written_answer r = record { number = r.refusal; fields = (r.blocks, r.bytes) }

-- a number, and what a writer answers
abbrev pub besides : ℕ → Answer ℕ → Answer (ℕ × ℕ)
besides n a = answer (0, 0) a.number (n, a.fields)
