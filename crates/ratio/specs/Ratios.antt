-- Paper 01, "The meter's record": the ratios of the current and voltage transformers.
use Rattle.std.specs.Prelude.{ℕ, ◌*◌, Bool, ◌&&◌, leb}
use Rattle.ratio.specs.declared.Ratios.{Ratios}

-- KTA 1 to 9,999
abbrev pub kta_ok : ℕ → Bool
kta_ok v = leb 1 v && leb v 9999

-- KTV in tenths, 10 to 9,999
abbrev pub ktv_ok : ℕ → Bool
ktv_ok v = leb 10 v && leb v 9999

-- KTA and KTV within limits
abbrev pub ratios_ok : Ratios → Bool
ratios_ok r = kta_ok r.kta && ktv_ok r.ktv

-- T = KTA × KTV in tenths
abbrev pub t_of : Ratios → ℕ
t_of r = r.kta * r.ktv
