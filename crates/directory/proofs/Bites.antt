-- Each test is computed on its wrong items.
use mathlib.Core.Path.{refl}
use Rattle.directory.specs.Order.{ascends, every}
use Rattle.directory.specs.Tenant.{leading}
use Rattle.directory.specs.Bites.{TestsBite}

pub tests_bite : TestsBite
unfolding ascends every leading
tests_bite = record {
  passed = refl;
  overlap = refl;
  nothing_filled = refl;
  no_word = refl;
  three_words = refl;
  order_alone = refl;
  width_alone = refl;
  byte_l_fills_2 = refl;
  byte_w_fills_4 = refl;
  byte_three_words = refl;
  word_l_fills_1 = refl;
  word_w_fills_2 = refl;
  no_quantity = refl;
  voltage_in_b = refl;
  kta_in_b = refl;
  voltage_in_w = refl;
  kta_in_l = refl;
  shape_alone = refl;
  meaning_alone = refl;
  one_word_at_most = refl;
  words_past_a_frame = refl;
  setup_seen = refl;
  output_seen = refl;
  identifier_seen = refl;
  low_seen = refl;
  high_seen = refl;
  wrap_seen = refl;
  setup_hidden = refl;
}
