-- A reply is judged by five tests in turn: what each of them leads to once those before it are passed; and what is known where there is
-- data.
use mathlib.Core.Path.{◌≡◌, refl, sym, ap, ◌∙◌}
use mathlib.Core.Bool.{Bool, true, false, not, ◌||◌, cond}
use mathlib.Core.List.{List}
use Prim.Native.Nat.{ℕ, ◌+◌, ◌*◌}
use native.Mathlib.Omega.{arith}
use lib.Dec.{eqb}
use lib.ListN.{length}
use borrow.Author.Tests.{not-false, eqb-true}
use Rattle.std.specs.Prelude.{Result, Ok, Err}
use Rattle.refusal.specs.declared.Refusal.TheVariants.{RatioOutOfLimits, NotARead, ReplyLength, ReplyCrc, ReplyForeign, ReplyMisfit}
use Rattle.refusal.specs.declared.ErrorCode.{ErrorCode}
use Rattle.crc.specs.Crc.{intact}
use Rattle.ratio.specs.declared.Ratios.{Ratios}
use Rattle.ratio.specs.Ratios.{ratios_ok}
use Rattle.directory.specs.declared.Span.{Span}
use Rattle.directory.specs.Views.{View}
use Rattle.modbus.specs.Frame.{word_number}
use Rattle.modbus.specs.Read.{read_in}
use Rattle.modbus.proofs.Frames.{neither}
use Rattle.replies.specs.declared.Unread.{Unread}
use Rattle.replies.specs.declared.Unread.TheVariants.{Refused}
use Rattle.replies.specs.Judged.{length_wrong, foreign, is_read_error, third_of, error_of, misfit, reply_of, heard, on_items, judged_in}

module _ (request reply : List ℕ) {A : Type 0} (asked : A) where
  pub length_refused : length_wrong reply ≡ true → Err (Refused ReplyLength) ≡ reply_of request reply asked
  unfolding reply_of
  length_refused a = rw a refl

  pub crc_refused : length_wrong reply ≡ false → intact reply ≡ false → Err (Refused ReplyCrc) ≡ reply_of request reply asked
  unfolding reply_of
  crc_refused a b = rw (a, b) refl

  pub foreign_refused : length_wrong reply ≡ false → intact reply ≡ true → foreign request reply ≡ true → Err (Refused ReplyForeign) ≡ reply_of request reply asked
  unfolding reply_of
  foreign_refused a b c = rw (a, b, c) refl

  pub error_given : length_wrong reply ≡ false → intact reply ≡ true → foreign request reply ≡ false → is_read_error reply ≡ true → Err (error_of reply) ≡ reply_of request reply asked
  unfolding reply_of
  error_given a b c d = rw (a, b, c, d) refl

  pub misfit_refused : length_wrong reply ≡ false → intact reply ≡ true → foreign request reply ≡ false → is_read_error reply ≡ false → misfit request reply ≡ true → Err (Refused ReplyMisfit) ≡ reply_of request reply asked
  unfolding reply_of
  misfit_refused a b c d e = rw (a, b, c, d, e) refl

  pub data_given : length_wrong reply ≡ false → intact reply ≡ true → foreign request reply ≡ false → is_read_error reply ≡ false → misfit request reply ≡ false → Ok asked ≡ reply_of request reply asked
  unfolding reply_of
  data_given a b c d e = rw (a, b, c, d, e) refl

module _ (request reply : List ℕ) where
  -- the words asked, as they are read off the request
  pub misfit_read : (words : ℕ) (t : Bool) → words ≡ word_number request → (not (eqb (third_of reply) (2 * words)) || not (eqb (length reply) (5 + third_of reply))) ≡ t → misfit request reply ≡ t
  misfit_read words t e h = rw (sym e) h

  -- what fits is as long as its head, its words and its CRC
  pub fitting : misfit request reply ≡ false → length reply ≡ 5 + 2 * word_number request
  fitting h =
      let n = neither (not (eqb (third_of reply) (2 * word_number request))) (not (eqb (length reply) (5 + third_of reply))) h in
      omega (arith, eqb-true (third_of reply) (2 * word_number request) (not-false _ n.0), eqb-true (length reply) (5 + third_of reply) (not-false _ n.1))

-- ---- where there is data, every test is passed

-- whether a reply fits does not depend on what was asked
abbrev pub passing : {A B : Type 0} → B → Result A Unread → Result B Unread
passing asked (Ok fits) = Ok asked
passing asked (Err why) = Err why

pub reply_passing : {A B : Type 0} (request reply : List ℕ) (one : A) (asked : B) → passing asked (reply_of request reply one) ≡ reply_of request reply asked
unfolding reply_of
reply_passing {A} {B} request reply one asked = by (length_wrong reply) (intact reply) (foreign request reply) (is_read_error reply) (misfit request reply)
  where
    chain : {C : Type 0} → Bool → Bool → Bool → Bool → Bool → C → Result C Unread
    chain l i f e m x = cond l (Err (Refused ReplyLength)) (cond (not i) (Err (Refused ReplyCrc)) (cond f (Err (Refused ReplyForeign)) (cond e (Err (error_of reply)) (cond m (Err (Refused ReplyMisfit)) (Ok x)))))

    by : (l i f e m : Bool) → passing asked (chain l i f e m one) ≡ chain l i f e m asked
    by true i f e m = refl
    by false false f e m = refl
    by false true true e m = refl
    by false true false true m = refl
    by false true false false true = refl
    by false true false false false = refl

-- what is refused has no data
no_data : {A X : Type 0} (why : Unread) (x : X) → ◌≡◌ {A = Result X Unread} (Err why) (Ok x) → A
no_data why x e = cc

-- a reply that is refused or has a code has none, whatever it would be data for
reply_fits : {A : Type 0} (request reply : List ℕ) (asked given : A) → reply_of request reply asked ≡ Ok given → (asked ≡ given) × (misfit request reply ≡ false)
unfolding reply_of
reply_fits request reply asked given = by (length_wrong reply) (intact reply) (foreign request reply) (is_read_error reply) (misfit request reply) refl
  where
    by : (l i f e m : Bool) → misfit request reply ≡ m →
        cond l (Err (Refused ReplyLength)) (cond (not i) (Err (Refused ReplyCrc)) (cond f (Err (Refused ReplyForeign)) (cond e (Err (error_of reply)) (cond m (Err (Refused ReplyMisfit)) (Ok asked))))) ≡ Ok given →
        (asked ≡ given) × (misfit request reply ≡ false)
    by true i f e m x h = no_data _ given h
    by false false f e m x h = no_data _ given h
    by false true true e m x h = no_data _ given h
    by false true false true m x h = no_data _ given h
    by false true false false true x h = no_data _ given h
    by false true false false false x h = (cc, x)

-- a request for these items, and a reply that fits it
pub record Fitting (v : View) (request reply : List ℕ) (asked : Span) : Type 0 where
  pub items : read_in v request ≡ Ok asked
  pub fits : misfit request reply ≡ false

pub data_judged : (v : View) (request reply : List ℕ) (r : Ratios) (asked : Span) → judged_in v request reply r ≡ Ok asked → Fitting v request reply asked
unfolding judged_in
data_judged v request reply r asked = by (ratios_ok r) (heard request) (read_in v request) refl
  where
    by : (o h : Bool) (s : Result Span ErrorCode) → read_in v request ≡ s →
        cond (not o) (Err (Refused RatioOutOfLimits)) (cond (not h) (Err (Refused NotARead)) (on_items s (reply_of request reply))) ≡ Ok asked →
        Fitting v request reply asked
    by false h s x e = no_data _ asked e
    by true false s x e = no_data _ asked e
    by true true (Err code) x e = no_data _ asked e
    by true true (Ok s) x e =
        let t = reply_fits request reply s asked e in
        record { items = x ∙ ap Ok t.0; fits = t.1 }

-- a request that is heard is judged by the items that it asks for, and by its reply
pub heard_judged : (v : View) (request reply : List ℕ) (r : Ratios) (asked : Result Span ErrorCode) → ratios_ok r ≡ true → heard request ≡ true → read_in v request ≡ asked → on_items asked (reply_of request reply) ≡ judged_in v request reply r
unfolding judged_in
heard_judged v request reply r asked a b e = rw (a, b, e) refl
