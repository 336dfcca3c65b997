-- Paper 01, "The directory", and paper 02, request 3: the tests of a directory, of a view, and of what a tenant sees of it, bite. Each is
-- computed on what is wrong in one thing alone.
use Rattle.std.specs.Prelude.{◌≡◌, true, false, [], ◌∷◌}
use Rattle.directory.specs.declared.Item.{Item}
use Rattle.directory.specs.Item.{item}
use Rattle.directory.specs.Quantity.{quantity, voltage, low, high, wrap, kta, plain, only, L1, L2, neg_er, word_identifier, setup2000, setup2200}
use Rattle.directory.specs.Order.{ascends, every, narrow, ruled, shaped, meant, tested}
use Rattle.directory.specs.Views.{View, passes}
use Rattle.directory.specs.Tenant.{hides}

-- a good item: an L of the byte block
abbrev good : Item
good = item 0x301 4 2 (quantity voltage L1)

-- another, which starts within it
abbrev early : Item
early = item 0x303 4 2 (quantity voltage L2)

-- a view with another item, at an address
abbrev with : Item → View
with it = record { seen = good ∷ it ∷ []; most = 2 }

-- STATEMENT: the good item passes, alone and with two words at the most; each test rejects what is wrong
pub record TestsBite : Type 0 where
  pub passed : passes (record { seen = good ∷ []; most = 2 }) ≡ true
  -- of two items the later starts within the earlier
  pub overlap : ascends 0 (good ∷ early ∷ []) ≡ false
  -- an item fills nothing, and a good one comes after it
  pub nothing_filled : ascends 0 (item 0x300 0 1 (quantity kta only) ∷ good ∷ []) ≡ false
  -- no word is sent, by the first of two items
  pub no_word : every narrow (item 0x300 1 0 (quantity kta only) ∷ good ∷ []) ≡ false
  -- three words are sent, by the last of two items
  pub three_words : every narrow (good ∷ item 0x305 2 3 (quantity kta only) ∷ []) ≡ false
  -- rejected for its order alone
  pub order_alone : ruled (good ∷ early ∷ []) ≡ false
  -- rejected for its width alone
  pub width_alone : ruled (good ∷ item 0x305 2 3 (quantity kta only) ∷ []) ≡ false
  -- byte block: an L that fills 2, one word that fills 4, three words that fill 1
  pub byte_l_fills_2 : shaped (item 0xfff 2 2 (quantity kta only)) ≡ false
  pub byte_w_fills_4 : shaped (item 0xfff 4 1 (quantity kta only)) ≡ false
  pub byte_three_words : shaped (item 0xfff 1 3 (quantity kta only)) ≡ false
  -- word blocks: an L that fills 1, a W that fills 2
  pub word_l_fills_1 : shaped (item 0x1000 1 2 (quantity kta only)) ≡ false
  pub word_w_fills_2 : shaped (item 0x1000 2 1 (quantity kta only)) ≡ false
  -- a seventh voltage, which is no quantity
  pub no_quantity : meant (item 0x301 4 2 (quantity voltage 6)) ≡ false
  -- a voltage in a B, a KTA in a B, a voltage in a W of the word blocks, a KTA in an L
  pub voltage_in_b : meant (item 0x300 1 1 (quantity voltage L1)) ≡ false
  pub kta_in_b : meant (item 0x300 1 1 (quantity kta only)) ≡ false
  pub voltage_in_w : meant (item 0x1000 1 1 (quantity voltage L1)) ≡ false
  pub kta_in_l : meant (item 0x301 4 2 (quantity kta only)) ≡ false
  -- rejected for a shape alone (one word that fills 3 of the byte block), and for a meaning alone
  pub shape_alone : tested (item 0x300 3 1 (quantity kta only) ∷ []) ≡ false
  pub meaning_alone : tested (item 0x301 4 2 (quantity kta only) ∷ []) ≡ false
  -- of a view: no L may be asked for; 126 words, with head and CRC, are 257 bytes
  pub one_word_at_most : passes (record { seen = good ∷ []; most = 1 }) ≡ false
  pub words_past_a_frame : passes (record { seen = good ∷ []; most = 126 }) ≡ false
  -- of a tenant's view: a setup word of either group, the identifier 0x1114, a Low, a High, a wrap at 0x103d or before
  pub setup_seen : hides (with (item 0x103d 1 1 (quantity plain (setup2000 0)))) ≡ false
  pub output_seen : hides (with (item 0x103d 1 1 (quantity plain (setup2200 23)))) ≡ false
  pub identifier_seen : hides (with (item 0x103d 1 1 (quantity plain word_identifier))) ≡ false
  pub low_seen : hides (with (item 0x103c 2 2 (quantity low neg_er))) ≡ false
  pub high_seen : hides (with (item 0x103c 2 2 (quantity high neg_er))) ≡ false
  pub wrap_seen : hides (with (item 0x103d 1 1 (quantity wrap neg_er))) ≡ false
  -- behind that it sees nothing
  pub setup_hidden : hides (with (item 0x103e 1 1 (quantity plain (setup2000 0)))) ≡ true
