-- Paper 01, "The meter's record": the setup groups, each replaced whole.
use Rattle.std.specs.Prelude.{ℕ, List, Bool, ◌&&◌, get_or, replicate}
use Rattle.setup.specs.Ranges.{group_ok}
use Rattle.meter.specs.declared.groups.Setup.{Setup}

-- setup groups of 16 words (0x2000) and 24 words (0x2200), each word in its range
abbrev pub setup_ok : Setup → Bool
setup_ok s = group_ok 0x2000 s.standard && group_ok 0x2200 s.output

-- setup words 0
abbrev pub no_setup : Setup
no_setup = record { standard = replicate 16 0; output = replicate 24 0 }

-- the code of the window (request 1), at 0x200a
abbrev pub code_of : Setup → ℕ
code_of s = get_or s.standard 10 0

-- a setup with other words at 0x2000
abbrev pub with_standard : Setup → List ℕ → Setup
with_standard s words = record { standard = words; output = s.output }

-- a setup with other words at 0x2200
abbrev pub with_output : Setup → List ℕ → Setup
with_output s words = record { standard = s.standard; output = words }
