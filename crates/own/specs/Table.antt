-- Paper 01, "The directory": the 148 items, paper 01's 142 and request 1's six, in the paper's blocks and order of addresses.
use Rattle.std.specs.Prelude.{ℕ, zero, suc, ◌+◌, List, [], ◌∷◌, ◌++◌, map}
use Rattle.directory.specs.declared.Item.{Item}
use Rattle.directory.specs.Item.{item}
use Rattle.directory.specs.Quantity.{quantity, voltage, current, power, signed_power, energy_count, low, high, wrap, factor, sign, sector, frequency, kta, ktv, sequence, plain, only, L1, L2, L3, L12, L23, L31, N, P, Q, P1, P2, P3, Q1, Q2, Q3, S, whole_s, average, peak, pos_ea, neg_ea, pos_er, neg_er, hundredths, thousandths, zeros, byte_identifier, word_identifier, minutes, setup2000, setup2200}

-- Byte block (004): addresses count bytes. L fills 4, W 2, B 1
abbrev byte_l : ℕ → ℕ → ℕ → Item
byte_l start kind which = item start 4 2 (quantity kind which)

abbrev byte_w : ℕ → ℕ → ℕ → Item
byte_w start kind which = item start 2 1 (quantity kind which)

abbrev byte_b : ℕ → ℕ → ℕ → Item
byte_b start kind which = item start 1 1 (quantity kind which)

-- Word blocks: addresses count words. L fills 2, W 1
abbrev word_l : ℕ → ℕ → ℕ → Item
word_l start kind which = item start 2 2 (quantity kind which)

abbrev word_w : ℕ → ℕ → ℕ → Item
word_w start kind which = item start 1 1 (quantity kind which)

-- the items of the byte block
abbrev byte_block : List Item
byte_block =
    -- 0x100 W KTA; 0x102 W KTV; 0x300 B 0x11
    byte_w 0x100 kta only ∷ byte_w 0x102 ktv only ∷ byte_b 0x300 plain byte_identifier ∷
    -- phase voltages; currents
    byte_l 0x301 voltage L1 ∷ byte_l 0x305 voltage L2 ∷ byte_l 0x309 voltage L3 ∷
    byte_l 0x30d current L1 ∷ byte_l 0x311 current L2 ∷ byte_l 0x315 current L3 ∷
    -- P, Q, S, +Ea
    byte_l 0x319 power P ∷ byte_l 0x31d power Q ∷ byte_l 0x321 power S ∷ byte_l 0x325 energy_count pos_ea ∷
    -- voltages L1-L2, L2-L3, L3-L1; -Ea
    byte_l 0x329 voltage L12 ∷ byte_l 0x32d voltage L23 ∷ byte_l 0x331 voltage L31 ∷
    byte_l 0x335 energy_count neg_ea ∷
    -- frequency, zero, power factor in hundredths; sector, sequence; zero
    byte_w 0x339 frequency only ∷ byte_w 0x33b plain zeros ∷ byte_w 0x33d factor hundredths ∷
    byte_b 0x33f sector only ∷ byte_b 0x340 sequence only ∷ byte_w 0x341 plain zeros ∷
    -- +Er, sign P, -Er, sign Q; zeros
    byte_l 0x343 energy_count pos_er ∷ byte_b 0x347 sign P ∷ byte_l 0x348 energy_count neg_er ∷ byte_b 0x34c sign Q ∷
    byte_b 0x34d plain zeros ∷ byte_b 0x34e plain zeros ∷ byte_b 0x34f plain zeros ∷
    -- request 1: average, peak, minutes
    byte_l 0x350 power average ∷ byte_l 0x354 power peak ∷ byte_b 0x358 plain minutes ∷
    -- neutral current; phase P and signs; phase Q and signs
    byte_l 0x359 current N ∷
    byte_l 0x35d power P1 ∷ byte_l 0x361 power P2 ∷ byte_l 0x365 power P3 ∷
    byte_b 0x369 sign P1 ∷ byte_b 0x36a sign P2 ∷ byte_b 0x36b sign P3 ∷
    byte_l 0x36c power Q1 ∷ byte_l 0x370 power Q2 ∷ byte_l 0x374 power Q3 ∷
    byte_b 0x378 sign Q1 ∷ byte_b 0x379 sign Q2 ∷ byte_b 0x37a sign Q3 ∷
    []

-- those of the word blocks, to 0x1543
abbrev word_blocks : List Item
word_blocks =
    -- three phase voltages, three currents, neutral, three chained voltages
    word_l 0x1000 voltage L1 ∷ word_l 0x1002 voltage L2 ∷ word_l 0x1004 voltage L3 ∷
    word_l 0x1006 current L1 ∷ word_l 0x1008 current L2 ∷ word_l 0x100a current L3 ∷ word_l 0x100c current N ∷
    word_l 0x100e voltage L12 ∷ word_l 0x1010 voltage L23 ∷ word_l 0x1012 voltage L31 ∷
    -- P, Q, S; signs; +Ea, +Er, -Ea, -Er
    word_l 0x1014 power P ∷ word_l 0x1016 power Q ∷ word_l 0x1018 power S ∷
    word_w 0x101a sign P ∷ word_w 0x101b sign Q ∷
    word_l 0x101c energy_count pos_ea ∷ word_l 0x101e energy_count pos_er ∷
    word_l 0x1020 energy_count neg_ea ∷ word_l 0x1022 energy_count neg_er ∷
    -- power factor in hundredths, sector, frequency
    word_w 0x1024 factor hundredths ∷ word_w 0x1025 sector only ∷ word_w 0x1026 frequency only ∷
    -- request 1: average, peak, minutes
    word_l 0x1027 power average ∷ word_l 0x1029 power peak ∷ word_w 0x102b plain minutes ∷
    -- phase P and signs; phase Q and signs
    word_l 0x102c power P1 ∷ word_l 0x102e power P2 ∷ word_l 0x1030 power P3 ∷
    word_w 0x1032 sign P1 ∷ word_w 0x1033 sign P2 ∷ word_w 0x1034 sign P3 ∷
    word_l 0x1035 power Q1 ∷ word_l 0x1037 power Q2 ∷ word_l 0x1039 power Q3 ∷
    word_w 0x103b sign Q1 ∷ word_w 0x103c sign Q2 ∷ word_w 0x103d sign Q3 ∷
    -- KTA; 0x1114; sequence
    word_w 0x1200 kta only ∷ word_w 0x1204 plain word_identifier ∷ word_w 0x1205 sequence only ∷
    -- Low and High of +Ea, +Er, -Ea, -Er
    word_l 0x1500 low pos_ea ∷ word_l 0x1502 high pos_ea ∷ word_l 0x1504 low pos_er ∷ word_l 0x1506 high pos_er ∷
    word_l 0x1508 low neg_ea ∷ word_l 0x150a high neg_ea ∷ word_l 0x150c low neg_er ∷ word_l 0x150e high neg_er ∷
    -- signed P, Q; phase P; phase Q
    word_l 0x1518 signed_power P ∷ word_l 0x151a signed_power Q ∷
    word_l 0x151c signed_power P1 ∷ word_l 0x151e signed_power P2 ∷ word_l 0x1520 signed_power P3 ∷
    word_l 0x1522 signed_power Q1 ∷ word_l 0x1524 signed_power Q2 ∷ word_l 0x1526 signed_power Q3 ∷
    -- power factor in thousandths; S in whole VA; wraps of +Ea, +Er, -Ea, -Er
    word_l 0x1528 factor thousandths ∷ word_l 0x1530 power whole_s ∷
    word_w 0x1540 wrap pos_ea ∷ word_w 0x1541 wrap pos_er ∷ word_w 0x1542 wrap neg_ea ∷ word_w 0x1543 wrap neg_er ∷
    []

-- n numbers, from k on
abbrev up_from : ℕ → ℕ → List ℕ
up_from k zero = []
up_from k (suc n) = k ∷ up_from (k + 1) n

-- W 0x2000 to 0x200f and 0x2200 to 0x2217: setup
abbrev setup_blocks : List Item
setup_blocks =
    map (λ (k : ℕ). word_w (0x2000 + k) plain (setup2000 k)) (up_from 0 16) ++
    map (λ (k : ℕ). word_w (0x2200 + k) plain (setup2200 k)) (up_from 0 24)

-- the items, addresses ascending
unfoldable pub directory : List Item
directory = byte_block ++ word_blocks ++ setup_blocks
