-- When the meter that a request names hears a read in it: the address is not 0, the function is a read's, and the meter is not silent.
use mathlib.Core.Path.{◌≡◌, refl, ◌∙◌}
use mathlib.Core.Bool.{Bool, true, false, ◌&&◌, ◌||◌, not, and-eq-true_iff}
use mathlib.Core.List.{List}
use Prim.Native.Nat.{ℕ}
use lib.Dec.{eqb}
use borrow.Author.Tests.{eqb-false, ne_eqb, not-true}
use Rattle.modbus.specs.Frame.{address_of, is_read, silence}
use Rattle.replies.specs.Judged.{heard}

-- a request that is heard, in its parts
pub record Hears (request : List ℕ) : Type 0 where
  pub own : address_of request ≡ 0 → ⊥
  pub read : is_read request ≡ true
  pub loud : silence (address_of request) request ≡ false

pub hears : (request : List ℕ) → heard request ≡ true → Hears request
unfolding heard
hears request h =
    let a = (and-eq-true_iff (not (eqb (address_of request) 0)) _).0 h in
    let b = (and-eq-true_iff (is_read request) _).0 a.1 in
    record { own = eqb-false (address_of request) 0 (not-true _ a.0); read = b.0; loud = not-true _ b.1 }

pub heard_so : (request : List ℕ) → Hears request → heard request ≡ true
unfolding heard
heard_so request h = rw (ne_eqb (address_of request) 0 h.own, h.read, h.loud) refl

-- the tests as the code makes them: another's request or none, and silence
in_order_lem : (zero read silent : Bool) → (not zero && (read && not silent)) ≡ (not (zero || not read) && not silent)
in_order_lem true read silent = refl
in_order_lem false true silent = refl
in_order_lem false false silent = refl

module _ (request : List ℕ) {other silent : Bool} where
  pub heard_by : (eqb (address_of request) 0 || not (is_read request)) ≡ other → silence (address_of request) request ≡ silent → heard request ≡ (not other && not silent)
  unfolding heard
  heard_by o s = in_order_lem (eqb (address_of request) 0) (is_read request) (silence (address_of request) request) ∙ λ i. not (o i) && not (s i)
