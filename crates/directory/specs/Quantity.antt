-- What an item shows, as a number: 64 × kind + which. The kinds are numbered from 1 in the order of paper 01's list of
-- readings ("Collector"); `which` tells the quantities of a kind apart.
use Rattle.std.specs.Prelude.{ℕ, ◌+◌, ◌*◌, ◌/◌, ◌%◌, List, [], ◌∷◌, get_or, replicate}

-- the number of a quantity
abbrev pub quantity : ℕ → ℕ → ℕ
quantity kind which = 64 * kind + which

-- the kinds, from 1 on in the order of the paper's list
abbrev pub voltage : ℕ
voltage = 1

abbrev pub current : ℕ
current = 2

abbrev pub power : ℕ
power = 3

abbrev pub signed_power : ℕ
signed_power = 4

abbrev pub energy_count : ℕ
energy_count = 5

abbrev pub low : ℕ
low = 6

abbrev pub high : ℕ
high = 7

abbrev pub wrap : ℕ
wrap = 8

abbrev pub factor : ℕ
factor = 9

abbrev pub sign : ℕ
sign = 10

abbrev pub sector : ℕ
sector = 11

abbrev pub frequency : ℕ
frequency = 12

abbrev pub kta : ℕ
kta = 13

abbrev pub ktv : ℕ
ktv = 14

abbrev pub sequence : ℕ
sequence = 15

abbrev pub plain : ℕ
plain = 16

-- a kind of one quantity
abbrev pub only : ℕ
only = 0

-- voltages of the phases, and chained; currents of the phases, and of the neutral
abbrev pub L1 : ℕ
L1 = 0

abbrev pub L2 : ℕ
L2 = 1

abbrev pub L3 : ℕ
L3 = 2

abbrev pub L12 : ℕ
L12 = 3

abbrev pub L23 : ℕ
L23 = 4

abbrev pub L31 : ℕ
L31 = 5

abbrev pub N : ℕ
N = 3

-- powers, their signs and their signed words: 3-phase, then phase by phase; apparent power has no sign
abbrev pub P : ℕ
P = 0

abbrev pub Q : ℕ
Q = 1

abbrev pub P1 : ℕ
P1 = 2

abbrev pub P2 : ℕ
P2 = 3

abbrev pub P3 : ℕ
P3 = 4

abbrev pub Q1 : ℕ
Q1 = 5

abbrev pub Q2 : ℕ
Q2 = 6

abbrev pub Q3 : ℕ
Q3 = 7

abbrev pub S : ℕ
S = 8

-- S in whole VA, whatever the ratio
abbrev pub whole_s : ℕ
whole_s = 9

-- average of positive 3-phase P in the last full window, and its peak (request 1)
abbrev pub average : ℕ
average = 10

abbrev pub peak : ℕ
peak = 11

-- energies, in the paper's order: +Ea, -Ea, +Er, -Er
abbrev pub pos_ea : ℕ
pos_ea = 0

abbrev pub neg_ea : ℕ
neg_ea = 1

abbrev pub pos_er : ℕ
pos_er = 2

abbrev pub neg_er : ℕ
neg_er = 3

-- power factor
abbrev pub hundredths : ℕ
hundredths = 0

abbrev pub thousandths : ℕ
thousandths = 1

-- plain words: zeros, the identifiers 0x11 and 0x1114, the minutes, and the setup groups
abbrev pub zeros : ℕ
zeros = 0

abbrev pub byte_identifier : ℕ
byte_identifier = 1

abbrev pub word_identifier : ℕ
word_identifier = 2

-- whole minutes of the open window (request 1)
abbrev pub minutes : ℕ
minutes = 3

-- the k-th setup word from 0x2000 on, and from 0x2200 on
abbrev pub setup2000 : ℕ → ℕ
setup2000 k = 4 + k

abbrev pub setup2200 : ℕ → ℕ
setup2200 k = 20 + k

-- the bytes that each quantity takes, kind by kind and in the order above
abbrev pub widths : List (List ℕ)
widths =
    [] ∷
    -- voltage, current, power, signed power
    replicate 6 4 ∷ replicate 4 4 ∷ replicate 12 4 ∷ replicate 8 4 ∷
    -- energy count, Low, High, wrap
    replicate 4 4 ∷ replicate 4 4 ∷ replicate 4 4 ∷ replicate 4 2 ∷
    -- factor, sign, sector, frequency
    (2 ∷ 4 ∷ []) ∷ replicate 8 1 ∷ (1 ∷ []) ∷ (2 ∷ []) ∷
    -- KTA, KTV, sequence, plain
    (2 ∷ []) ∷ (2 ∷ []) ∷ (1 ∷ []) ∷ (1 ∷ 1 ∷ 2 ∷ 1 ∷ replicate (16 + 24) 2) ∷
    []

-- the bytes that a quantity takes; none where the number is no quantity
abbrev pub width_of : ℕ → ℕ
width_of q = get_or (get_or widths (q / 64) []) (q % 64) 0
