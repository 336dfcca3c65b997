-- Each predicate says what each part of an outcome equals, so two outcomes agree part by part; and the numbers of an answer give it back.
-- Two sound meters of one record are one: that it is within limits is proved in one way, since a Bool has no other.
use mathlib.Core.Path.{◌≡◌, refl, sym, ap, ◌∙◌}
use mathlib.Core.Bool.{Bool, true, false, false≢true}
use Rattle.std.specs.Prelude.{Option, Some, None, MatchOption}
use Rattle.std.proofs.Common.{subst}
use Rattle.std.proofs.Math.Bool.{Bool-set}
use Rattle.meter.specs.declared.Meter.{Meter}
use Rattle.meter.specs.declared.sound.Sound.{Sound}
use Rattle.meter.specs.Meters.{meter_ok}
use Rattle.counts.proofs.Joins.{join_back}
use Rattle.meter.proofs.Outcomes.{answer_back}
use Rattle.store.proofs.Verdicts.{verdict_back}
use Rattle.collector.proofs.OneByOne.{one_whole_each}
use Rattle.demands.proofs.Frames.{reply_back}
use Rattle.demands.specs.Determined.{Determined, Numbered}

abbrev made : (m : Meter) → meter_ok m ≡ true → Sound
made m p = record { meter = m; within = p }

one_sound : (m n : Meter) (p : meter_ok m ≡ true) (q : meter_ok n ≡ true) → m ≡ n → made m p ≡ made n q
one_sound m n p q e = subst (λ (k : Meter). (r : meter_ok k ≡ true) → made m p ≡ made k r) e (λ r. ap (λ (w : meter_ok m ≡ true). made m w) (Bool-set _ _ p r)) q

sounds : (m : Meter) (x y : Option Sound) → MatchOption x (meter_ok m ≡ false) (λ sound. sound.meter ≡ m) → MatchOption y (meter_ok m ≡ false) (λ sound. sound.meter ≡ m) → x ≡ y
sounds m None None h k = refl
sounds m None (Some y) h k = absurd (false≢true (sym h ∙ ap meter_ok (sym k) ∙ y.within))
sounds m (Some x) None h k = absurd (false≢true (sym k ∙ ap meter_ok (sym h) ∙ x.within))
sounds m (Some x) (Some y) h k = ap Some (one_sound x.meter y.meter x.within y.within (h ∙ sym k))

pub determined : Determined
determined = record {
  frame = λ m frame b x y p q h k. (h.handled ∙ sym k.handled, h.bytes ∙ sym k.bytes);
  put = λ before n x y p q h k. (h.answer ∙ sym k.answer, h.bytes ∙ sym k.bytes);
  line = λ line before x y p q h k. (h.told ∙ sym k.told, h.bytes ∙ sym k.bytes);
  text = λ frame before x y p q h k. (h.told ∙ sym k.told, h.bytes ∙ sym k.bytes);
  transcript = λ input before x y p q h k. (h.told ∙ sym k.told, h.bytes ∙ sym k.bytes);
  whole = λ request reply r values kinds x y p q i j h k. (h.answers ∙ sym k.answers, h.cells ∙ sym k.cells, h.numbers ∙ sym k.numbers);
  sound = sounds;
}

pub numbered : Numbered
numbered = record { answers = answer_back; verdicts = verdict_back; replies = reply_back; joins = join_back; wholes = one_whole_each }
