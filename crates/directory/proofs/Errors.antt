-- A run is wrong by its address or by half an L, and in no other way: it goes on or stops with one of these, by the definition.
use mathlib.Core.Path.{◌≡◌, refl, ap}
use mathlib.Core.Bool.{Bool, true, false, cond}
use mathlib.Core.List.{List}
use Prim.Native.Nat.{ℕ, zero, suc, ◌+◌}
use native.Mathlib.Omega.{arith}
use lib.ListN.{get_or}
use Rattle.std.proofs.Common.{ok_or}
use Rattle.std.specs.Prelude.{Option, Some, None, Result, Ok, Err}
use Rattle.refusal.specs.declared.ErrorCode.{ErrorCode}
use Rattle.refusal.specs.declared.ErrorCode.TheVariants.{Function, Address, Data}
use Rattle.directory.specs.declared.Item.{Item}
use Rattle.directory.specs.declared.Span.{Span}
use Rattle.directory.specs.Item.{none, ends}
use Rattle.directory.specs.Run.{find_in, on_item, is_l, run_from, run_in, span}

-- a span that is not error 01
abbrev Sound : Result Span ErrorCode → Type 0
Sound s = s ≡ Err Function → ⊥

-- an error is no run
pub no_run : {A : Type 0} {s : Result Span ErrorCode} {f c : ℕ} (e : ErrorCode) → s ≡ Err e → s ≡ Ok (span f c) → A
no_run e p q = let z : ◌≡◌ {A = ℕ} 0 1 = cc in let y : ⊥ = omega arith in absurd y

-- a run is of one span
pub one_span : {f c g d : ℕ} → ◌≡◌ {A = Result Span ErrorCode} (Ok (span f c)) (Ok (span g d)) → (f ≡ g) × (c ≡ d)
one_span {f} {c} {g} {d} e =
    let s : span f c ≡ span g d = cc in
    (ap (λ (s : Span). s.first) s, ap (λ (s : Span). s.count) s)

-- what was found, or error 02
pub found_none : (o : Option ℕ) (e : ErrorCode) → ok_or o Address ≡ Err e → (o ≡ None) × (e ≡ Address)
found_none None e h = (refl, cc)
found_none (Some k) e h = cc

pub found_some : (o : Option ℕ) (k : ℕ) → ok_or o Address ≡ Ok k → o ≡ Some k
found_some None k h = cc
found_some (Some i) k h = cc

address_sound : Sound (Err Address)
address_sound e = let z : ◌≡◌ {A = ℕ} 0 1 = cc in omega arith

pub data_sound : ◌≡◌ {A = Result Span ErrorCode} (Err Data) (Err Function) → ⊥
data_sound e = let z : ◌≡◌ {A = ℕ} 0 1 = cc in omega arith

on_sound : (dir : List Item) (f : Option ℕ) (go : ℕ → Item → Result Span ErrorCode) → ((i : ℕ) (it : Item) → Sound (go i it)) → Sound (on_item dir f go)
on_sound dir None go h = address_sound
on_sound dir (Some i) go h = h i (get_or dir i none)

cond_sound : (t : Bool) (x y : Result Span ErrorCode) → Sound x → Sound y → Sound (cond t x y)
cond_sound true x y h k = h
cond_sound false x y h k = k

module _ (dir : List Item) (first : ℕ) where
  abbrev Due : ℕ → Type 0
  Due due = (count address : ℕ) → Sound (run_from dir first count address due)

  one : Due 1
  unfolding run_from
  one count address =
      on_sound dir (find_in dir address 0) _ (λ i it. cond_sound (is_l it) (Err Data) (Ok (span first (count + 1))) data_sound (λ e. no_run Function e refl))

  -- an L takes two of the words due, any other item one
  more : (due : ℕ) → Due due → Due (suc due) → Due (suc (suc due))
  unfolding run_from
  more due h k count address =
      on_sound dir (find_in dir address 0) _ (λ i it. cond_sound (is_l it) (run_from dir first (count + 1) (ends it) due) (run_from dir first (count + 1) (ends it) (suc due)) (h (count + 1) (ends it)) (k (count + 1) (ends it)))

  any_due : (due : ℕ) → Due due × Due (suc due)
  unfolding run_from
  any_due zero = (λ count address e. no_run Function e refl, one)
  any_due (suc due) = let r = any_due due in (r.1, more due r.0 r.1)

pub run_sound : (dir : List Item) (start words : ℕ) → run_in dir start words ≡ Err Function → ⊥
unfolding run_in
run_sound dir start words = on_sound dir (find_in dir start 0) _ (λ i it. (any_due dir i words).0 0 start)
