-- A repeat is as long as it says, by a law: the list itself is too long to be laid out.
use Rattle.std.proofs.Common.{◌≡◌, ℕ, sym}
use lib.ListN.{length, replicate, length-replicate}
use Rattle.bench.proofs.text_buffer.Goals as goal

long : (n : ℕ) → n ≡ length {A = ℕ} (replicate n 0)
long n = sym (length-replicate n 0)

pub returns : goal.returns
returns c = long 2097152
