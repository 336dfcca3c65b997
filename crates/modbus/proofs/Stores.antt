-- Bytes that are stored from the start of a buffer on: all of it, and some with their CRC behind them.
use mathlib.Core.Path.{◌≡◌, refl, sym, ap, ◌∙◌}
use mathlib.Core.Bool.{Bool}
use mathlib.Core.List.{List, ◌++◌, append-nil}
use Prim.Native.Nat.{ℕ, ◌+◌, ◌≤◌}
use native.Mathlib.Nat.{zero-add}
use native.Mathlib.Omega.{arith}
use lib.ListN.{length, take, drop, drop_of_length-le}
use lib.Seq.{sets, sets-eq, length-sets, take_at, drop-append-add, drop-drop}
use Rattle.crc.specs.Crc.{sealed, Put}
use Rattle.crc.proofs.Laws.{length_sealed, put_parts}

-- what stands in a buffer then
pub sets_front : (l a : List ℕ) → length a ≤ length l → sets l 0 a ≡ a ++ drop (length a) l
sets_front l a h = simp zero-add at (sets-eq a l 0 (rw zero-add h))

-- and at its start
pub sets_taken : (l a : List ℕ) → length a ≤ length l → take (length a) (sets l 0 a) ≡ a
sets_taken l a h = ap (take (length a)) (sets_front l a h) ∙ take_at a _ (length a) refl

-- all of a buffer
pub sets_whole : (b bs : List ℕ) → length bs ≡ length b → sets b 0 bs ≡ bs
sets_whole b bs e = sets_front b bs (omega arith) ∙ rw (drop_of_length-le b {i = length bs} (omega arith)) (append-nil bs)

-- the CRC put behind bytes makes them sealed, over whatever stood in its two places
module _ (b bs : List ℕ) (n : ℕ) (room : Bool) (now after : List ℕ) (long : length bs ≡ n) (fits : n + 2 ≤ length b) (p : Put now n room after) where
  pub seals_over : length now ≡ length b → take n now ≡ bs → drop (n + 2) now ≡ drop (n + 2) b → after ≡ sets b 0 (sealed bs)
  seals_over same front beyond =
      let whole : length (sealed bs) ≡ n + 2 = omega (arith, length_sealed bs, long) in
      put_parts now n room after p (omega arith) ∙ rw (front, beyond) (sym (sets_front b (sealed bs) (omega arith) ∙ rw whole refl))

  pub seals : now ≡ sets b 0 bs → after ≡ sets b 0 (sealed bs)
  seals s =
      let parts = s ∙ sets_front b bs (omega arith) in
      let more : n + 2 ≡ length bs + 2 = omega arith in
      seals_over
      (ap length s ∙ length-sets b 0 bs)
      (ap (take n) parts ∙ take_at bs _ n long)
      (ap (drop (n + 2)) parts ∙ rw more (drop-append-add bs (drop (length bs) b) 2 ∙ drop-drop 2 (length bs) b))
