-- What is claimed of the answers of the C interface: a promise about the paper's answer fixes each field. Assumes nothing.
use mathlib.Core.Path.{◌≡◌}
use Rattle.c_answers.specs.declared.Written.{Written}
use Rattle.c_answers.specs.declared.NetworkRead.{NetworkRead}
use Rattle.c_answers.specs.declared.NetworkHost.{NetworkHost}
use Rattle.c_answers.specs.declared.BlockRead.{BlockRead}
use Rattle.c_answers.specs.declared.BlocksWritten.{BlocksWritten}
use Rattle.c_answers.specs.CAnswers.{written_answer, network_read_answer, network_host_answer, block_read_answer, blocks_written_answer}

pub one_written : (r s : Written) → written_answer r ≡ written_answer s → r ≡ s
one_written r s h = λ i. record { refusal = (h i).number; bytes = (h i).fields }

pub one_network_read : (r s : NetworkRead) → network_read_answer r ≡ network_read_answer s → r ≡ s
one_network_read r s h = λ i. record { refusal = (h i).number; size = (h i).fields.0; bytes = (h i).fields.1 }

pub one_network_host : (r s : NetworkHost) → network_host_answer r ≡ network_host_answer s → r ≡ s
one_network_host r s h = λ i. record { refusal = (h i).number; network = (h i).fields.0; host = (h i).fields.1 }

pub one_block_read : (r s : BlockRead) → block_read_answer r ≡ block_read_answer s → r ≡ s
one_block_read r s h = λ i. record { refusal = (h i).number; length = (h i).fields.0; bytes = (h i).fields.1 }

pub one_blocks_written : (r s : BlocksWritten) → blocks_written_answer r ≡ blocks_written_answer s → r ≡ s
one_blocks_written r s h = λ i. record { refusal = (h i).number; blocks = (h i).fields.0; bytes = (h i).fields.1 }
